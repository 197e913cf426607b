-- A run in pieces of whole lines, each from the place that the one before it came to: one behind the other they print what the whole run prints.
use Rattle.rules.specs.declared.StateNumber.{StateNumber}
use Rattle.rules.specs.declared.Refusal.{Refusal}
use Rattle.std.specs.Prelude.{Result, Ok, Err}
use mathlib.Core.Path.{◌≡◌, refl, sym, ap, ◌∙◌}
use mathlib.Core.Bool.{Bool, true, false, cond}
use mathlib.Core.List.{List, [], ◌∷◌, ◌++◌, append_assoc}
use Prim.Native.Nat.{ℕ, ◌+◌, ◌≤◌}
use native.Mathlib.Omega.{arith}
use lib.Dec.{eqb}
use lib.ListN.{length}
use borrow.Author.Tests.{eq-eqb}
use Rattle.rules.specs.Text.{lf, push, split, lines_of}
use Rattle.rules.specs.Replay.{start_line, vector_line}
use Rattle.rules.specs.declared.Listing.{Listing}
use Rattle.rules.specs.declared.Refusal.TheVariants.{NoNext}
use Rattle.read_pieces.proofs.Laws.{split-some}
use Rattle.run_encoded.specs.Terms.{code_for}
use Rattle.run_encoded.specs.declared.Terms.{Terms}
use Rattle.run_replay.specs.Moves.{moved_by}
use Rattle.run_replay.specs.Places.{Course, ends_at, in_front, line_of, ran_end, ran_from, ran_first, ran_by}
use Rattle.run_replay.specs.declared.Place.{Place}
use Rattle.run_replay.proofs.Lines.{lineBy, line-by, firstBy, first_by}

-- ---- the lines of a text in two pieces, the first of which ends in a LF

some_more : (x : ℕ) (ps : List (List ℕ)) (qs : List (List ℕ)) → 1 ≤ length ps → push x (ps ++ qs) ≡ push x ps ++ qs
some_more x [] qs h = absurd (omega arith)
some_more x (p ∷ ps) qs h = refl

pub split-behind : (q : ℕ) (a b : List ℕ) → split q (a ++ (q ∷ b)) ≡ split q a ++ split q b
unfolding split
split-behind q [] b = ap (λ (c : Bool). cond c ([] ∷ split q b) (push q (split q b))) (eq-eqb q q refl)
split-behind q (x ∷ xs) b = go (eqb x q) (split-behind q xs b)
  where
    go : (c : Bool) → split q (xs ++ (q ∷ b)) ≡ split q xs ++ split q b
        → cond c ([] ∷ split q (xs ++ (q ∷ b))) (push x (split q (xs ++ (q ∷ b)))) ≡ cond c ([] ∷ split q xs) (push x (split q xs)) ++ split q b
    go true e = ap {B = List (List ℕ)} (λ ps. [] ∷ ps) e
    go false e = ap (push x) e ∙ some_more x (split q xs) (split q b) (split-some q xs)

-- a text in pieces: each but the last ends in a LF, which is left out here
unfoldable pub joined : List (List ℕ) → List ℕ → List ℕ
joined [] last = last
joined (a ∷ ps) last = a ++ (lf ∷ joined ps last)

split-none : (q : ℕ) → split q [] ≡ [] ∷ []
unfolding split
split-none q = refl

-- ---- lines, and lines behind them

more-some : (ks : List (List ℕ)) (l : List ℕ) (ls : List (List ℕ)) → 1 ≤ length (ks ++ (l ∷ ls))
more-some [] l ls = omega arith
more-some (k ∷ ks) l ls = omega arith

module _ (t : Listing) (ts : Terms) (bits : List ℕ) where
  -- what comes behind a piece
  abbrev pub then : Course → List (List ℕ) → Course
  then g ls = in_front g.0 (ran_by t ts bits g.1 ls)

  then-front : (ks : List (List ℕ)) (g : Course) (ls : List (List ℕ)) → in_front ks (then g ls) ≡ then (in_front ks g) ls
  unfolding in_front
  then-front ks g ls = ap (λ (l : List (List ℕ)). (l, (ran_by t ts bits g.1 ls).1)) (sym (append_assoc ks g.0 (ran_by t ts bits g.1 ls).0))

  then-behind : (done s code : ℕ) (ls : List (List ℕ)) → ran_from t ts (length bits) done s code ls ≡ then ([], Place.Behind done s code) ls
  unfolding in_front ran_by
  then-behind done s code ls = refl

  from-behind : (done s code : ℕ) (ks : List (List ℕ)) (l : List ℕ) (ls : List (List ℕ))
      → ran_from t ts (length bits) done s code (ks ++ (l ∷ ls)) ≡ then (ran_from t ts (length bits) done s code (ks ++ ([] ∷ []))) (l ∷ ls)
  unfolding ran_from ran_end ends_at in_front ran_by
  from-behind done s code [] l ls = then-behind done s code (l ∷ ls)
  from-behind done s code (k ∷ ks) l ls =
      line-by t ts (length bits) done s code k (ks ++ (l ∷ ls)) (more-some ks l ls)
      ∙ go (vector_line t.head done k) (λ u c. from-behind (done + 1) u c ks l ls)
      ∙ sym (ap (λ (g : Course). then g (l ∷ ls)) (line-by t ts (length bits) done s code k (ks ++ ([] ∷ [])) (more-some ks [] [])))
    where
      w : ℕ
      w = length bits

      go : (v : Result ℕ Refusal) → ((u c : ℕ) → ran_from t ts w (done + 1) u c (ks ++ (l ∷ ls)) ≡ then (ran_from t ts w (done + 1) u c (ks ++ ([] ∷ []))) (l ∷ ls))
          → lineBy t ts w done s code (ks ++ (l ∷ ls)) v ≡ then (lineBy t ts w done s code (ks ++ ([] ∷ [])) v) (l ∷ ls)
      go (Err r) later = refl
      go (Ok x) later = by_name (eqb (moved_by t ts w x s code).next 0)
        where
          by_name : (b : Bool)
              → elim b [ true ↦ ends_at NoNext (done + 2) | false ↦ in_front (line_of t w (moved_by t ts w x s code)) (ran_from t ts w (done + 1) (moved_by t ts w x s code).state (moved_by t ts w x s code).code (ks ++ (l ∷ ls))) ]
              ≡ then (elim b [ true ↦ ends_at NoNext (done + 2) | false ↦ in_front (line_of t w (moved_by t ts w x s code)) (ran_from t ts w (done + 1) (moved_by t ts w x s code).state (moved_by t ts w x s code).code (ks ++ ([] ∷ []))) ]) (l ∷ ls)
          by_name true = refl
          by_name false =
              ap (in_front (line_of t w (moved_by t ts w x s code))) (later (moved_by t ts w x s code).state (moved_by t ts w x s code).code)
              ∙ then-front (line_of t w (moved_by t ts w x s code)) (ran_from t ts w (done + 1) (moved_by t ts w x s code).state (moved_by t ts w x s code).code (ks ++ ([] ∷ []))) (l ∷ ls)

  first-behind : (k : List ℕ) (ks : List (List ℕ)) (l : List ℕ) (ls : List (List ℕ)) → ran_first t ts bits (k ∷ (ks ++ (l ∷ ls))) ≡ then (ran_first t ts bits (k ∷ (ks ++ ([] ∷ [])))) (l ∷ ls)
  unfolding ends_at in_front ran_by
  first-behind k ks l ls =
      first_by t ts bits k (ks ++ (l ∷ ls)) (more-some ks l ls)
      ∙ go (start_line t.head k)
      ∙ sym (ap (λ (g : Course). then g (l ∷ ls)) (first_by t ts bits k (ks ++ ([] ∷ [])) (more-some ks [] [])))
    where
      go : (v : Result StateNumber Refusal) → firstBy t ts bits (ks ++ (l ∷ ls)) v ≡ then (firstBy t ts bits (ks ++ ([] ∷ [])) v) (l ∷ ls)
      go (Err r) = refl
      go (Ok s) = from-behind 0 s.0 (code_for bits s.0) ks l ls

  -- from any place: what some whole lines do, and then what the rest does from the place that they come to
  pub lines-behind : (p : Place) (ks ls : List (List ℕ)) → 1 ≤ length ks → 1 ≤ length ls → ran_by t ts bits p (ks ++ ls) ≡ then (ran_by t ts bits p (ks ++ ([] ∷ []))) ls
  unfolding ran_by in_front
  lines-behind p [] ls h some = absurd (omega arith)
  lines-behind p (k ∷ ks) [] h some = absurd (omega arith)
  lines-behind Place.First (k ∷ ks) (l ∷ ls) h some = first-behind k ks l ls
  lines-behind (Place.Behind done s code) (k ∷ ks) (l ∷ ls) h some = from-behind done s code (k ∷ ks) l ls
  lines-behind Place.Over (k ∷ ks) (l ∷ ls) h some = refl

  -- ---- the text

  -- the pieces one after the other, each from the place that the one before it came to
  unfoldable pub in_pieces : Place → List (List ℕ) → List ℕ → Course
  in_pieces p [] last = ran_by t ts bits p (lines_of last)
  in_pieces p (a ∷ ps) last = in_front (ran_by t ts bits p (lines_of (a ++ (lf ∷ [])))).0 (in_pieces (ran_by t ts bits p (lines_of (a ++ (lf ∷ [])))).1 ps last)

  -- are the whole
  pub pieces-are-all : (p : Place) (ps : List (List ℕ)) (last : List ℕ) → in_pieces p ps last ≡ ran_by t ts bits p (lines_of (joined ps last))
  unfolding in_pieces joined
  pieces-are-all p [] last = refl
  pieces-are-all p (a ∷ ps) last =
      let g : Course = ran_by t ts bits p (lines_of (a ++ (lf ∷ []))) in
      ap (in_front g.0) (pieces-are-all g.1 ps last)
      ∙ ap (λ (ls : List (List ℕ)). then (ran_by t ts bits p ls) (lines_of (joined ps last))) (split-behind lf a [] ∙ ap (λ (ls : List (List ℕ)). split lf a ++ ls) (split-none lf))
      ∙ sym (lines-behind p (split lf a) (lines_of (joined ps last)) (split-some lf a) (split-some lf (joined ps last)))
      ∙ ap (ran_by t ts bits p) (sym (split-behind lf a (joined ps last)))
