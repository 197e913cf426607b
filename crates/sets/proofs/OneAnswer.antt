-- 01, "Strength of the promises": any two results that a promise allows are equal.
use mathlib.Core.Path.{◌≡◌, refl, sym, ◌∙◌}
use mathlib.Core.Bool.{Bool, true, false}
use Prim.Native.Nat.{ℕ, ◌≤◌, ◌<◌}
use lib.Dec.{leb}
use borrow.Author.Tests.{leb-true, leb-false}
use Rattle.sets.specs.Sets.{flip}

-- for every promise that is an equation with a definition, of the answer, of a lent buffer's content, or of both as a pair
pub one_answer : {A : Type 0} {said x y : A} → x ≡ said → y ≡ said → x ≡ y
one_answer e f = e ∙ sym f

-- for an answer and a buffer, each by an equation of its own
pub one-of-both : {A B : Type 0} {a x y : A} {b u v : B} → (x ≡ a) × (u ≡ b) → (y ≡ a) × (v ≡ b) → (x ≡ y) × (u ≡ v)
one-of-both p q = (one_answer p.0 q.0, one_answer p.1 q.1)

-- for a flip, which has one equation within the mask's width and another past it
pub one-flip : (m s x y : ℕ) → (s < 64 → x ≡ flip m s) × (64 ≤ s → x ≡ m) → (s < 64 → y ≡ flip m s) × (64 ≤ s → y ≡ m) → x ≡ y
one-flip m s x y p q = go (leb 64 s) refl
  where
    go : (b : Bool) → leb 64 s ≡ b → x ≡ y
    go true e = one_answer (p.1 (leb-true 64 s e)) (q.1 (leb-true 64 s e))
    go false e = one_answer (p.0 (leb-false 64 s e)) (q.0 (leb-false 64 s e))
