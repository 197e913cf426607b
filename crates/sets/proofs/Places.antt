-- Places of a list: inside it, of a mapped one, of one filled up, and the first of an array.
use mathlib.Core.Path.{◌≡◌, refl, sym, ap, ◌∙◌}
use mathlib.Core.Bool.{Bool, true, false}
use mathlib.Core.List.{List, [], ◌∷◌, map}
use Prim.Native.Nat.{ℕ, zero, suc, ◌+◌, ◌-◌, ◌≤◌, ◌<◌, min}
use native.Mathlib.Omega.{arith}
use lib.Dec.{leb}
use lib.ListN.{length, take, get_or, replicate, length-append, length-replicate, get_or-append}
use lib.Seq.{take_all, get_or-append-add}
use borrow.Author.Tests.{leb-true, leb-false}
use Rattle.sets.specs.Places.{padded}

-- inside a list the default does not matter
pub get_d-within : (l : List ℕ) (i d e : ℕ) → i < length l → get_or l i d ≡ get_or l i e
get_d-within [] i d e h = absurd (omega arith)
get_d-within (x ∷ xs) zero d e h = refl
get_d-within (x ∷ xs) (suc i) d e h = get_d-within xs i d e (omega arith)

pub map_at : {A B : Type 0} (f : A → B) (l : List A) (i : ℕ) (d : A) (e : B) → i < length l → get_or (map f l) i e ≡ f (get_or l i d)
map_at f [] i d e h = absurd (omega arith)
map_at f (x ∷ xs) zero d e h = refl
map_at f (x ∷ xs) (suc i) d e h = map_at f xs i d e (omega arith)

pub replicate-at : (w v i : ℕ) → get_or (replicate w v) i v ≡ v
replicate-at zero v i = refl
replicate-at (suc w) v zero = refl
replicate-at (suc w) v (suc i) = replicate-at w v i

module _ {A : Type 0} (w : ℕ) (v : A) (l : List A) where
  pub padded-length : length l ≤ w → length (padded w v l) ≡ w
  padded-length h = omega (arith, length-append l (replicate (w - length l) v), length-replicate (w - length l) v)

  pub padded-inside : (d : A) (i : ℕ) → i < length l → get_or (padded w v l) i d ≡ get_or l i d
  padded-inside d i h = get_or-append l (replicate (w - length l) v) d i h

pub padded-behind : (w v : ℕ) (l : List ℕ) (i : ℕ) → length l ≤ i → get_or (padded w v l) i v ≡ v
padded-behind w v l i h =
    let e : length l + (i - length l) ≡ i = omega arith in
    ap (λ (j : ℕ). get_or (padded w v l) j v) (sym e)
    ∙ get_or-append-add l (replicate (w - length l) v) (i - length l) v
    ∙ replicate-at (w - length l) v (i - length l)

-- a loop over an array goes no further than its length
pub take-most {ℓ} : {A : Type ℓ} (n k : ℕ) (l : List A) → length l ≡ k → take (min n k) l ≡ take n l
take-most n k l e = go (leb n k) refl
  where
    go : (t : Bool) → leb n k ≡ t → take (min n k) l ≡ take n l
    go true h =
        let m : min n k ≡ n = omega (arith, leb-true n k h) in
        rw m
    go false h =
        let b : k < n = leb-false n k h in
        take_all (min n k) l (omega arith) ∙ sym (take_all n l (omega arith))
