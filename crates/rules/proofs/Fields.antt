-- Bytes parted at each q: what has no q in it is one part, and a q ends a part.
use mathlib.Core.Path.{◌≡◌, refl, ap, ◌∙◌}
use mathlib.Core.List.{List, [], ◌∷◌, ◌++◌, map}
use Prim.Native.Nat.{ℕ}
use borrow.Author.Tests.{eq-eqb, ne_eqb}
use Rattle.rules.specs.Text.{push, split}

-- no byte is q
pub data Without (q : ℕ) : List ℕ → Type 0 where
  none : Without q []
  more : {x : ℕ} {xs : List ℕ} → (x ≡ q → ⊥) → Without q xs → Without q (x ∷ xs)

pub without-append : {q : ℕ} {a b : List ℕ} → Without q a → Without q b → Without q (a ++ b)
without-append none k = k
without-append (more o h) k = more o (without-append h k)

pub without-map : {A : Type 0} (q : ℕ) (f : A → ℕ) (l : List A) → ((a : A) → f a ≡ q → ⊥) → Without q (map f l)
without-map q f [] h = none
without-map q f (x ∷ xs) h = more (h x) (without-map q f xs h)

module _ (q x : ℕ) (xs : List ℕ) where
  split_at : x ≡ q → split q (x ∷ xs) ≡ [] ∷ split q xs
  unfolding split
  split_at e = rw (eq-eqb x q e)

  split-on : (x ≡ q → ⊥) → split q (x ∷ xs) ≡ push x (split q xs)
  unfolding split
  split-on o = rw (ne_eqb x q o)

pub split-last : (q : ℕ) (a : List ℕ) → Without q a → split q a ≡ a ∷ []
unfolding split
split-last q [] none = refl
split-last q (x ∷ xs) (more o h) = split-on q x xs o ∙ ap (push x) (split-last q xs h)

pub split-part : (q : ℕ) (a b : List ℕ) → Without q a → split q (a ++ (q ∷ b)) ≡ a ∷ split q b
split-part q [] b none = split_at q q b refl
split-part q (x ∷ xs) b (more o h) = split-on q x (xs ++ (q ∷ b)) o ∙ ap (push x) (split-part q xs b h)
