-- Two runs of bytes, one byte after the other.
use mathlib.Core.Path.{◌≡◌, refl, sym, ap, ◌∙◌}
use mathlib.Core.Bool.{Bool, ◌&&◌}
use mathlib.Core.List.{List, [], ◌∷◌}
use Prim.Native.Nat.{ℕ, min, ◌-◌, ◌≤◌, ◌<◌}
use native.Mathlib.Omega.{arith}
use lib.ListN.{length, take, drop, length-take, length-drop}
use lib.Dec.{eqb}
use lib.Pointwise.{pointwise}
use Rattle.sets.proofs.Places.{take-most}
use Rattle.rules.specs.Text.{same}
use Rattle.read_marks.proofs.Mark.{same-unlike}
use Rattle.read_names.specs.Names.{piece_of}
use Rattle.read_names.specs.declared.Piece.{Piece}

-- ---- the same bytes

-- one byte after the other, as `==` compares them
pub same-equal : (xs ys : List ℕ) → same xs ys ≡ pointwise eqb xs ys
unfolding same
same-equal [] [] = refl
same-equal [] (y ∷ ys) = refl
same-equal (x ∷ xs) [] = refl
same-equal (x ∷ xs) (y ∷ ys) = ap (λ (t : Bool). eqb x y && t) (same-equal xs ys)

pub ruleset equal = (same-equal)

pub ruleset unlike = (same-unlike)

-- ---- the bytes of a piece, whose end is cut to the text's

none_left : (l : List ℕ) → length l ≡ 0 → l ≡ []
none_left [] h = refl
none_left (x ∷ xs) h = absurd (omega arith)

module _ (s : List ℕ) (p : Piece) (m : ℕ) (cut : m ≡ min p.end (length s)) where
  pub piece-nothing : m ≤ p.start → take (m - m) (drop m s) ≡ piece_of s p
  unfolding piece_of
  piece-nothing h =
      none_left (take (m - m) (drop m s)) (omega (arith, length-take (m - m) (drop m s)))
      ∙ sym (none_left (take (p.end - p.start) (drop p.start s)) (omega (arith, length-take (p.end - p.start) (drop p.start s), length-drop p.start s)))

  pub piece-some : p.start < m → take (m - p.start) (drop p.start s) ≡ piece_of s p
  unfolding piece_of
  piece-some h =
      let e : m - p.start ≡ min (p.end - p.start) (length s - p.start) = omega arith in
      ap (λ (n : ℕ). take n (drop p.start s)) e ∙ take-most (p.end - p.start) (length s - p.start) (drop p.start s) (length-drop p.start s)
