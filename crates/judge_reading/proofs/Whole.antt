-- A cover that is read in pieces is the cover: its whole lines and then its end are its reading, and a piece and what comes behind it are one text.
use Rattle.std.specs.Prelude.{Result, Ok, Err}
use mathlib.Core.Path.{◌≡◌, refl, sym, ap, ap₂, ◌∙◌}
use mathlib.Core.Bool.{Bool, true, false, cond}
use mathlib.Core.List.{List, [], ◌∷◌, ◌++◌}
use Prim.Native.Nat.{ℕ, ◌+◌, ◌-◌, ◌≤◌, ◌<◌, min}
use native.Mathlib.Omega.{arith}
use lib.Dec.{eqb}
use lib.ListN.{length, take, drop, length-append, length-drop}
use lib.Seq.{drop-append_seam, take_all}
use Rattle.rules.specs.Text.{lf, push, split, lines_of}
use Rattle.rules.specs.CheckTexts.{no_heads, cover_line, cover_from, cover_reading}
use Rattle.rules.specs.Refusals.{Verdict, refused}
use Rattle.rules.specs.declared.Refusal.{Refusal}
use Rattle.rules.specs.declared.CoverHeads.{CoverHeads}
use Rattle.read_pieces.proofs.Laws.{split-some}
use Rattle.read_pieces.proofs.Places.{only-piece}
use Rattle.judge_reading.specs.Tables.{row_laid, tables_from}
use Rattle.judge_reading.specs.Pieces.{most_cover_lines, last_of, line_reached, line_tables, whole_reached, whole_tables, piece_from, closed_by, Reached, at_line}
use Rattle.judge_reading.specs.declared.Reader.{Reader}
use Rattle.judge_reading.specs.declared.Piece.{Piece}
use Rattle.judge_reading.proofs.LineKinds.{left, fewer}

-- ---- what stands behind the last LF is the end of the text

last-push : (x : ℕ) (ps : List (List ℕ)) → 2 ≤ length ps → last_of (push x ps) ≡ last_of ps
unfolding last_of
last-push x [] h = absurd (omega arith)
last-push x (p ∷ []) h = absurd (omega arith)
last-push x (p ∷ (m ∷ ms)) h = refl

last_more : (l : List ℕ) (ps : List (List ℕ)) → 1 ≤ length ps → last_of (l ∷ ps) ≡ last_of ps
unfolding last_of
last_more l [] h = absurd (omega arith)
last_more l (m ∷ ms) h = refl

last-behind : (s : List ℕ) → (a : List ℕ) × (s ≡ a ++ last_of (lines_of s))
unfolding split last_of
last-behind [] = ([], refl)
last-behind (x ∷ xs) = go (eqb x lf) (last-behind xs)
  where
    one : (ps : List (List ℕ)) → lines_of xs ≡ ps → 1 ≤ length ps → (a : List ℕ) × (xs ≡ a ++ last_of (lines_of xs)) → (a : List ℕ) × ((x ∷ xs) ≡ a ++ last_of (push x (lines_of xs)))
    one [] e h r = absurd (omega arith)
    one (p ∷ []) e h r =
        let only : lines_of xs ≡ xs ∷ [] = only-piece lf xs (ap length e) in
        ([], sym (ap (λ (ps : List (List ℕ)). last_of (push x ps)) only))
    one (p ∷ (m ∷ ms)) e h r =
        let two : 2 ≤ length (lines_of xs) = omega (arith, ap length e) in
        (x ∷ r.0, ap (λ (l : List ℕ). x ∷ l) r.1 ∙ ap (λ (l : List ℕ). x ∷ (r.0 ++ l)) (sym (last-push x (lines_of xs) two)))

    go : (b : Bool) → (a : List ℕ) × (xs ≡ a ++ last_of (lines_of xs)) → (a : List ℕ) × ((x ∷ xs) ≡ a ++ last_of (cond b ([] ∷ lines_of xs) (push x (lines_of xs))))
    go true r = (x ∷ r.0, ap (λ (l : List ℕ). x ∷ l) r.1 ∙ ap (λ (l : List ℕ). x ∷ (r.0 ++ l)) (sym (last_more [] (lines_of xs) (split-some lf xs))))
    go false r = one (lines_of xs) refl (split-some lf xs) r

-- so the bytes that a piece does not take are those
module _ (p : Reached) (text : List ℕ) where
  pub taken-within : (piece_from p text).taken ≤ length text
  unfolding piece_from
  taken-within = omega arith

  pub rest-is : drop (piece_from p text).taken text ≡ last_of (lines_of text)
  unfolding piece_from
  rest-is =
      let r = last-behind text in
      let a = r.0 in
      let rest = last_of (lines_of text) in
      let n : length text - length rest ≡ length a = omega (arith, ap length r.1, length-append a rest) in
      ap₂ (λ (k : ℕ) (l : List ℕ). drop k l) n r.1 ∙ drop-append_seam a rest

-- ---- whole lines and the end are the reading

-- the number of the line to come is one that it can have
abbrev pub Placed : ℕ → CoverHeads → Type 0
Placed k h = k + left h ≤ most_cover_lines + 1

pub refused-stays : (r : Refusal) (k : ℕ) (ls : List (List ℕ)) → whole_reached (refused r k) ls ≡ refused r k
unfolding whole_reached line_reached
refused-stays r k [] = refl
refused-stays r k (l ∷ []) = refl
refused-stays r k (l ∷ (m ∷ ms)) = refused-stays r k (m ∷ ms)

pub refused-lays : (q : Reader) (r : Refusal) (k : ℕ) (ls : List (List ℕ)) (t : List ℕ × List ℕ) → whole_tables q (refused r k) ls t ≡ t
unfolding whole_tables line_reached line_tables
refused-lays q r k [] t = refl
refused-lays q r k (l ∷ []) t = refl
refused-lays q r k (l ∷ (m ∷ ms)) t = refused-lays q r k (m ∷ ms) t

module _ (q : Reader) where
  whole-verdict : (k : ℕ) (h : CoverHeads) (ls : List (List ℕ)) → 1 ≤ length ls → Placed k h → closed_by q (whole_reached (at_line k h) ls) (last_of ls) ≡ cover_from q.taken q.given k h ls
  unfolding whole_reached closed_by last_of cover_from line_reached
  whole-verdict k h [] s p = absurd (omega arith)
  whole-verdict k h (l ∷ []) s p = refl
  whole-verdict k h (l ∷ (m ∷ ms)) s p = go (cover_line h l) refl (λ g. whole-verdict (k + 1) g (m ∷ ms) (omega arith))
    where
      go : (v : Result CoverHeads Refusal) → cover_line h l ≡ v → ((g : CoverHeads) → Placed (k + 1) g → closed_by q (whole_reached (at_line (k + 1) g) (m ∷ ms)) (last_of (m ∷ ms)) ≡ cover_from q.taken q.given (k + 1) g (m ∷ ms))
          → closed_by q (whole_reached (elim v [ Ok g ↦ at_line (min k most_cover_lines + 1) g | Err r ↦ refused r k ]) (m ∷ ms)) (last_of (m ∷ ms))
          ≡ elim v [ Ok g ↦ cover_from q.taken q.given (k + 1) g (m ∷ ms) | Err r ↦ refused r k ]
      go (Ok g) e later =
          let less : left g < left h = fewer h g l e in
          let n : min k most_cover_lines ≡ k = omega arith in
          ap (λ (n : ℕ). closed_by q (whole_reached (at_line (n + 1) g) (m ∷ ms)) (last_of (m ∷ ms))) n ∙ later g (omega arith)
      go (Err r) e later = ap (λ (p : Reached). closed_by q p (last_of (m ∷ ms))) (refused-stays r k (m ∷ ms))

  pub whole-tables : (k : ℕ) (h : CoverHeads) (ls : List (List ℕ)) (t : List ℕ × List ℕ) → whole_tables q (at_line k h) ls t ≡ tables_from q h ls t
  unfolding whole_tables tables_from line_reached line_tables
  whole-tables k h [] t = refl
  whole-tables k h (l ∷ []) t = refl
  whole-tables k h (l ∷ (m ∷ ms)) t = go (cover_line h l) (λ n g. whole-tables n g (m ∷ ms) (row_laid q h g l t))
    where
      go : (v : Result CoverHeads Refusal) → ((n : ℕ) (g : CoverHeads) → whole_tables q (at_line n g) (m ∷ ms) (row_laid q h g l t) ≡ tables_from q g (m ∷ ms) (row_laid q h g l t))
          → whole_tables q (elim v [ Ok g ↦ at_line (min k most_cover_lines + 1) g | Err r ↦ refused r k ]) (m ∷ ms) (elim v [ Ok g ↦ row_laid q h g l t | Err r ↦ t ])
          ≡ elim v [ Ok g ↦ tables_from q g (m ∷ ms) (row_laid q h g l t) | Err r ↦ t ]
      go (Ok g) later = later (min k most_cover_lines + 1) g
      go (Err r) later = refused-lays q r k (m ∷ ms) t

  -- from the start
  pub cover-verdict : (text : List ℕ) → closed_by q (whole_reached (at_line 1 no_heads) (lines_of text)) (last_of (lines_of text)) ≡ cover_reading q.taken q.given (lines_of text)
  unfolding cover_reading
  cover-verdict text = whole-verdict 1 no_heads (lines_of text) (split-some lf text) (omega arith)

-- a piece from the start that is the whole text, and its end
module _ (q : Reader) (text : List ℕ) {p : Reached} (first : p ≡ at_line 1 no_heads) {r : Piece} (e : r ≡ piece_from p text) where
  pub read-within : r.taken ≤ length text
  read-within = rw e (taken-within p text)

  pub read-verdict : {v : Verdict} → v ≡ closed_by q r.reached (take (length text - r.taken) (drop r.taken text)) → v ≡ cover_reading q.taken q.given (lines_of text)
  unfolding piece_from
  read-verdict f =
      f
      ∙ ap (closed_by q r.reached) (take_all (length text - r.taken) (drop r.taken text) (omega (arith, length-drop r.taken text)))
      ∙ ap (λ (x : Piece). closed_by q x.reached (drop x.taken text)) e
      ∙ ap (closed_by q (whole_reached p (lines_of text))) (rest-is p text)
      ∙ ap (λ (x : Reached). closed_by q (whole_reached x (lines_of text)) (last_of (lines_of text))) first
      ∙ cover-verdict q text

  pub read-tables : (t : List ℕ × List ℕ) {u : List ℕ × List ℕ} → u ≡ whole_tables q p (lines_of text) t → u ≡ tables_from q no_heads (lines_of text) t
  read-tables t f = f ∙ ap (λ (x : Reached). whole_tables q x (lines_of text) t) first ∙ whole-tables q 1 no_heads (lines_of text) t

-- ---- a piece, and what comes behind it

-- all but the last
abbrev front_of : List (List ℕ) → List (List ℕ)
front_of [] = []
front_of (l ∷ []) = []
front_of (l ∷ (m ∷ ms)) = l ∷ front_of (m ∷ ms)

split-seam : (a z : List ℕ) → lines_of (a ++ z) ≡ front_of (lines_of a) ++ lines_of (last_of (lines_of a) ++ z)
unfolding split last_of
split-seam [] z = refl
split-seam (x ∷ xs) z = go (eqb x lf) refl (lines_of xs) (split-some lf xs) (split-seam xs z)
  where
    go : (b : Bool) → eqb x lf ≡ b → (ps : List (List ℕ)) → 1 ≤ length ps → lines_of (xs ++ z) ≡ front_of ps ++ lines_of (last_of ps ++ z)
        → cond b ([] ∷ lines_of (xs ++ z)) (push x (lines_of (xs ++ z))) ≡ front_of (cond b ([] ∷ ps) (push x ps)) ++ lines_of (last_of (cond b ([] ∷ ps) (push x ps)) ++ z)
    go b q [] h e = absurd (omega arith)
    go true q (p ∷ ps) h e = ap {B = List (List ℕ)} (λ ls. [] ∷ ls) e
    go false q (p ∷ []) h e =
        ap (push x) e
        ∙ sym (ap (λ (c : Bool). cond c ([] ∷ lines_of (p ++ z)) (push x (lines_of (p ++ z)))) q)
    go false q (p ∷ (m ∷ ms)) h e = ap (push x) e

module _ (ms : List (List ℕ)) (some : 1 ≤ length ms) where
  front-place : (p : Reached) (ls : List (List ℕ)) → whole_reached p (front_of ls ++ ms) ≡ whole_reached (whole_reached p ls) ms
  unfolding whole_reached
  front-place p [] = refl
  front-place p (l ∷ []) = refl
  front-place p (l ∷ (k ∷ ks)) = step (front_of (k ∷ ks) ++ ms) (more (front_of (k ∷ ks))) ∙ front-place (line_reached p l) (k ∷ ks)
    where
      more : (ks : List (List ℕ)) → 1 ≤ length (ks ++ ms)
      more ks = omega (arith, length-append ks ms)

      step : (ns : List (List ℕ)) → 1 ≤ length ns → whole_reached p (l ∷ ns) ≡ whole_reached (line_reached p l) ns
      step [] h = absurd (omega arith)
      step (n ∷ ns) h = refl

  front-tables : (q : Reader) (p : Reached) (ls : List (List ℕ)) (t : List ℕ × List ℕ) → whole_tables q p (front_of ls ++ ms) t ≡ whole_tables q (whole_reached p ls) ms (whole_tables q p ls t)
  unfolding whole_reached whole_tables
  front-tables q p [] t = refl
  front-tables q p (l ∷ []) t = refl
  front-tables q p (l ∷ (k ∷ ks)) t = step (front_of (k ∷ ks) ++ ms) (more (front_of (k ∷ ks))) ∙ front-tables q (line_reached p l) (k ∷ ks) (line_tables q p l t)
    where
      more : (ks : List (List ℕ)) → 1 ≤ length (ks ++ ms)
      more ks = omega (arith, length-append ks ms)

      step : (ns : List (List ℕ)) → 1 ≤ length ns → whole_tables q p (l ∷ ns) t ≡ whole_tables q (line_reached p l) ns (line_tables q p l t)
      step [] h = absurd (omega arith)
      step (n ∷ ns) h = refl

  front-last : (ls : List (List ℕ)) → last_of (ls ++ ms) ≡ last_of ms
  front-last [] = refl
  front-last (l ∷ ls) = last_more l (ls ++ ms) (omega (arith, length-append ls ms)) ∙ front-last ls

module _ (a z : List ℕ) where
  -- what is left of the piece, and what comes
  abbrev pub carried : List ℕ
  carried = last_of (lines_of a) ++ z

  pub seam-place : (p : Reached) → whole_reached p (lines_of (a ++ z)) ≡ whole_reached (whole_reached p (lines_of a)) (lines_of carried)
  seam-place p = ap (whole_reached p) (split-seam a z) ∙ front-place (lines_of carried) (split-some lf carried) p (lines_of a)

  pub seam-tables : (q : Reader) (p : Reached) (t : List ℕ × List ℕ) → whole_tables q p (lines_of (a ++ z)) t ≡ whole_tables q (whole_reached p (lines_of a)) (lines_of carried) (whole_tables q p (lines_of a) t)
  seam-tables q p t = ap (λ (ls : List (List ℕ)). whole_tables q p ls t) (split-seam a z) ∙ front-tables (lines_of carried) (split-some lf carried) q p (lines_of a) t

  pub seam-last : last_of (lines_of (a ++ z)) ≡ last_of (lines_of carried)
  seam-last = ap last_of (split-seam a z) ∙ front-last (lines_of carried) (split-some lf carried) (front_of (lines_of a))
