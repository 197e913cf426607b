-- The whole lines of a piece of a cover, line by line as a loop has them.
use Rattle.std.specs.Prelude.{Result, Ok, Err}
use mathlib.Core.Path.{◌≡◌, refl, sym, ap, ap₂, ◌∙◌}
use mathlib.Core.List.{List, [], ◌∷◌}
use Prim.Native.Nat.{ℕ, ◌+◌, ◌-◌, ◌≤◌, ◌<◌, min}
use native.Mathlib.Omega.{arith}
use lib.ListN.{length, drop, length-take, length-drop}
use Rattle.rules.specs.Text.{lf, lines_of}
use Rattle.rules.specs.CheckTexts.{cover_line}
use Rattle.rules.specs.declared.Refusal.{Refusal}
use Rattle.rules.specs.declared.CoverHeads.{CoverHeads}
use Rattle.read_pieces.proofs.Laws.{Cut, part, split-some}
use Rattle.judge_reading.specs.Tables.{row_laid}
use Rattle.judge_reading.specs.Pieces.{most_cover_lines, last_of, line_reached, line_tables, whole_reached, whole_tables, piece_from, Reached, at_line}
use Rattle.judge_reading.specs.declared.Reader.{Reader}
use Rattle.rules.specs.Refusals.{refused}
use Rattle.rules.specs.declared.Refused.{Refused}
use Rattle.judge_reading.specs.declared.Place.{Place}

-- ---- a line

module _ (l : List ℕ) {p : Reached} where
  -- behind a refusal nothing is read
  pub stays-place : {why : Refused} → p ≡ Err why → Err why ≡ line_reached p l
  unfolding line_reached
  stays-place e = sym (ap (λ (x : Reached). line_reached x l) e)

  pub stays-tables : (q : Reader) (t : List ℕ × List ℕ) {why : Refused} → p ≡ Err why → t ≡ line_tables q p l t
  unfolding line_tables
  stays-tables q t e = sym (ap (λ (x : Reached). line_tables q x l t) e)

  module _ {at : Place} (e : p ≡ Ok at) {v : Result CoverHeads Refusal} (said : v ≡ cover_line at.heads l) where
    abbrev placeBy : Result CoverHeads Refusal → Reached
    placeBy v = elim v [ Ok g ↦ at_line (min at.line most_cover_lines + 1) g | Err r ↦ refused r at.line ]

    place-by : line_reached p l ≡ placeBy v
    unfolding line_reached
    place-by = ap (λ (x : Reached). line_reached x l) e ∙ sym (ap placeBy said)

    pub refused-place : {r : Refusal} → v ≡ Err r → refused r at.line ≡ line_reached p l
    refused-place f = sym (place-by ∙ ap placeBy f)

    pub read-place : {g : CoverHeads} {n : ℕ} → v ≡ Ok g → n ≡ min at.line most_cover_lines → at_line (n + 1) g ≡ line_reached p l
    read-place {g} f m = ap (λ (n : ℕ). at_line (n + 1) g) m ∙ sym (place-by ∙ ap placeBy f)

    module _ (q : Reader) (t : List ℕ × List ℕ) where
      abbrev tablesBy : Result CoverHeads Refusal → List ℕ × List ℕ
      tablesBy v = elim v [ Ok g ↦ row_laid q at.heads g l t | Err r ↦ t ]

      tables-by : line_tables q p l t ≡ tablesBy v
      unfolding line_tables
      tables-by = ap (λ (x : Reached). line_tables q x l t) e ∙ sym (ap tablesBy said)

      pub refused-tables : {r : Refusal} → v ≡ Err r → t ≡ line_tables q p l t
      refused-tables f = sym (tables-by ∙ ap tablesBy f)

      pub read-tables : {g : CoverHeads} {u : List ℕ × List ℕ} → v ≡ Ok g → u ≡ row_laid q at.heads g l t → u ≡ line_tables q p l t
      read-tables f m = m ∙ sym (tables-by ∙ ap tablesBy f)

-- ---- the line from `at` to `end`

module _ (text : List ℕ) (at end : ℕ) (here : Cut lf text at end) where
  abbrev now : List (List ℕ)
  now = lines_of (drop at text)

  abbrev rest : List (List ℕ)
  rest = lines_of (drop (end + 1) text)

  module _ (more : end < length text) where
    pub more-place : (p : Reached) {r : Reached} → r ≡ line_reached p (part text at end) → whole_reached r rest ≡ whole_reached p now
    unfolding whole_reached
    more-place p e = ap (λ (x : Reached). whole_reached x rest) e ∙ sym (ap (whole_reached p) (here.more more) ∙ go rest (split-some lf (drop (end + 1) text)))
      where
        go : (ls : List (List ℕ)) → 1 ≤ length ls → whole_reached p (part text at end ∷ ls) ≡ whole_reached (line_reached p (part text at end)) ls
        go [] s = absurd (omega arith)
        go (m ∷ ms) s = refl

    pub more-tables : (q : Reader) (p : Reached) (t : List ℕ × List ℕ) {r : Reached} {u : List ℕ × List ℕ} → r ≡ line_reached p (part text at end) → u ≡ line_tables q p (part text at end) t → whole_tables q r rest u ≡ whole_tables q p now t
    unfolding whole_tables
    more-tables q p t e f =
        ap₂ (λ (x : Reached) (u : List ℕ × List ℕ). whole_tables q x rest u) e f
        ∙ sym (ap (λ (ls : List (List ℕ)). whole_tables q p ls t) (here.more more) ∙ go rest (split-some lf (drop (end + 1) text)))
      where
        go : (ls : List (List ℕ)) → 1 ≤ length ls → whole_tables q p (part text at end ∷ ls) t ≡ whole_tables q (line_reached p (part text at end)) ls (line_tables q p (part text at end) t)
        go [] s = absurd (omega arith)
        go (m ∷ ms) s = refl

    pub more-last : last_of now ≡ last_of rest
    unfolding last_of
    more-last = ap last_of (here.more more) ∙ go rest (split-some lf (drop (end + 1) text))
      where
        go : (ls : List (List ℕ)) → 1 ≤ length ls → last_of (part text at end ∷ ls) ≡ last_of ls
        go [] s = absurd (omega arith)
        go (m ∷ ms) s = refl

  module _ (none : length text ≤ end) where
    pub last-place : (p : Reached) → whole_reached p now ≡ p
    unfolding whole_reached
    last-place p = ap (whole_reached p) (here.last none)

    pub last-tables : (q : Reader) (p : Reached) (t : List ℕ × List ℕ) → whole_tables q p now t ≡ t
    unfolding whole_tables
    last-tables q p t = ap (λ (ls : List (List ℕ)). whole_tables q p ls t) (here.last none)

    pub last_taken : length (last_of now) ≡ length text - at
    unfolding last_of
    last_taken =
        ap (λ (ls : List (List ℕ)). length (last_of ls)) (here.last none)
        ∙ omega (arith, length-take (end - at) (drop at text), length-drop at text, here.from, here.to)

-- the piece, from where its loop ends
pub piece_is : (p : Reached) (text : List ℕ) {r : Reached} {at : ℕ} → r ≡ whole_reached p (lines_of text) → length (last_of (lines_of text)) ≡ length text - at → at ≤ length text → record { reached = r; taken = at } ≡ piece_from p text
unfolding piece_from
piece_is p text {r} {at} e f h =
    let n : length text - length (last_of (lines_of text)) ≡ at = omega arith in
    rw (e, n)
