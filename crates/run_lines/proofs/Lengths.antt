-- How long a line is by its fields, and how long the first line of a text is at the least.
use Rattle.std.specs.Prelude.{None}
use mathlib.Core.Path.{◌≡◌, refl, ap, ◌∙◌}
use mathlib.Core.Bool.{Bool, true, false, cond, and-false}
use mathlib.Core.List.{List, [], ◌∷◌, ◌++◌}
use Prim.Native.Nat.{ℕ, suc, ◌+◌, ◌≤◌, ◌<◌}
use native.Mathlib.Omega.{arith}
use lib.Dec.{eqb, leb, ltb}
use lib.ListN.{length, get_or, drop, length-drop}
use borrow.Author.Tests.{eqb-true, lt-leb, ltb-true, ltb-false, ne_eqb}
use Rattle.sets.proofs.Every.{and_first, and_second}
use Rattle.rules.specs.Text.{lf, space, push, same, split, lines_of, fields_of, field_at, mark_of, numeral_of}
use Rattle.rules.specs.Replay.{marked}
use Rattle.rules.proofs.Fields.{Without, none, more}
use Rattle.read_pieces.proofs.Laws.{First, first_of, split-some}
use Rattle.read_pieces.proofs.Places.{only-piece}

-- ---- a line of two fields

pub same-long : (a b : List ℕ) → same a b ≡ true → length a ≡ length b
unfolding same
same-long [] [] e = refl
same-long [] (y ∷ ys) e = absurd (let z : ◌≡◌ {A = ℕ} 0 1 = cc in omega arith)
same-long (x ∷ xs) [] e = absurd (let z : ◌≡◌ {A = ℕ} 0 1 = cc in omega arith)
same-long (x ∷ xs) (y ∷ ys) e = ap suc (same-long xs ys (and_second (eqb x y) (same xs ys) e))

-- it has their bytes and one between them
pub fields-long : (q : ℕ) (l : List ℕ) → length (split q l) ≡ 2 → length l ≡ length (get_or (split q l) 0 []) + 1 + length (get_or (split q l) 1 [])
fields-long q l two = go (split q l) (length (get_or (split q l) 0 [])) refl (first_of q l) two
  where
    second : (d : List ℕ) → length (split q d) ≡ 1 → length (get_or (split q d) 0 []) ≡ length d
    second d h = ap (λ (ps : List (List ℕ)). length (get_or ps 0 [])) (only-piece q d h)

    go : (ps : List (List ℕ)) (n : ℕ) → n ≡ length (get_or ps 0 []) → First q l ps n → length ps ≡ 2 → length l ≡ length (get_or ps 0 []) + 1 + length (get_or ps 1 [])
    go ps n e f h = by (ltb n (length l)) refl
      where
        by : (b : Bool) → ltb n (length l) ≡ b → length l ≡ length (get_or ps 0 []) + 1 + length (get_or ps 1 [])
        by true g =
            let some : n < length l = ltb-true n (length l) g in
            let here = f.more some in
            let left : length (split q (drop (suc n) l)) ≡ 1 = omega (arith, ap length here) in
            omega (arith, ap (λ (ps : List (List ℕ)). length (get_or ps 1 [])) here, second (drop (suc n) l) left, length-drop (suc n) l)
        by false g = absurd (omega (arith, ap length (f.last (ltb-false n (length l) g))))

pub marked-long : (mark l : List ℕ) → marked mark l ≡ true → length l ≡ length mark + 1 + length (field_at l 1)
unfolding marked mark_of
marked-long mark l e =
    let two : length (fields_of l) ≡ 2 = eqb-true (length (fields_of l)) 2 (and_first (eqb (length (fields_of l)) 2) (same (mark_of l) mark) e) in
    omega (arith, fields-long space l two, same-long (mark_of l) mark (and_second (eqb (length (fields_of l)) 2) (same (mark_of l) mark) e))

pub numeral-long : (f : List ℕ) → 4 < length f → numeral_of f ≡ None
unfolding numeral_of
numeral-long f h = rw (lt-leb (length f) 4 h, and-false (leb 1 (length f)))

-- the first line of a text that begins so
pub first-line : (a b : List ℕ) → Without lf a → (l : List ℕ) × ((rest : List (List ℕ)) × (lines_of (a ++ b) ≡ l ∷ rest) × (length a ≤ length l))
unfolding split
first-line [] b none = some (lines_of b) refl (split-some lf b)
  where
    some : (ps : List (List ℕ)) → lines_of b ≡ ps → 1 ≤ length ps → (l : List ℕ) × ((rest : List (List ℕ)) × (lines_of b ≡ l ∷ rest) × (0 ≤ length l))
    some [] e h = absurd (omega arith)
    some (p ∷ ps) e h = (p, (ps, e, omega arith))
first-line (x ∷ a) b (more o w) =
    let r = first-line a b w in
    (x ∷ r.0, (r.1.0, ap (λ (c : Bool). cond c ([] ∷ lines_of (a ++ b)) (push x (lines_of (a ++ b)))) (ne_eqb x lf o) ∙ ap (push x) r.1.1, omega (arith, r.1.2)))
