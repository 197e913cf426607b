-- A field's characters, one after the other.
use mathlib.Core.Path.{◌≡◌, refl, ◌∙◌}
use mathlib.Core.Bool.{Bool, true, false, ◌&&◌, ◌||◌, and-false}
use mathlib.Core.List.{List, [], ◌∷◌}
use Prim.Native.Nat.{ℕ, zero, suc, ◌+◌, ◌-◌, ◌≤◌, ◌<◌}
use native.Mathlib.Numerals.{add-one}
use native.Mathlib.Omega.{arith}
use lib.ListN.{length, get_or, drop, drop_of_length-le}
use lib.Seq.{drop-cons}
use lib.Dec.{leb, eqb}
use borrow.Author.Tests.{leb-true, eqb-true}
use Rattle.sets.proofs.Every.{and_first, and_second}
use Rattle.rules.specs.Text.{all_of, sized}

-- one element off the front
pub drop-one : (l : List ℕ) (j : ℕ) → j < length l → drop j l ≡ get_or l j 0 ∷ drop (j + 1) l
drop-one l j h = rw (add-one, drop-cons l j 0)

pub all-step : (a b c : ℕ) (l : List ℕ) (i : ℕ) {t : Bool} → i < length l → (eqb (get_or l i 0) a || (eqb (get_or l i 0) b || eqb (get_or l i 0) c)) ≡ t
    → all_of a b c (drop i l) ≡ (t && all_of a b c (drop (i + 1) l))
unfolding all_of
all-step a b c l i h e = rw (drop-one l i h, e)

-- the same, for a loop that goes down
pub all_back : (a b c : ℕ) (l : List ℕ) (i : ℕ) {t : Bool} → 0 < i → i ≤ length l → (eqb (get_or l (i - 1) 0) a || (eqb (get_or l (i - 1) 0) b || eqb (get_or l (i - 1) 0) c)) ≡ t
    → all_of a b c (drop (i - 1) l) ≡ (t && all_of a b c (drop i l))
all_back a b c l i p h e =
    let k : i - 1 + 1 ≡ i = omega arith in
    all-step a b c l (i - 1) (omega arith) e ∙ rw k

pub all_end : (a b c : ℕ) (l : List ℕ) → all_of a b c (drop (length l) l) ≡ true
unfolding all_of
all_end a b c l = rw (drop_of_length-le l {i = length l} (omega arith))

-- a wrong character from i on is one from the start on
pub all_drop : (a b c : ℕ) (l : List ℕ) (i : ℕ) → all_of a b c (drop i l) ≡ false → all_of a b c l ≡ false
unfolding all_of
all_drop a b c l zero e = e
all_drop a b c [] (suc i) e = e
all_drop a b c (x ∷ xs) (suc i) e = rw (all_drop a b c xs i e) (and-false (eqb x a || (eqb x b || eqb x c)))

-- what a field that is sized has
pub sized-short : (most k a b c : ℕ) (f : List ℕ) → sized most k a b c f ≡ true → length f ≤ most
unfolding sized
sized-short most k a b c f e = leb-true _ _ (and_first _ _ e)

pub sized-length : (most k a b c : ℕ) (f : List ℕ) → sized most k a b c f ≡ true → length f ≡ k
unfolding sized
sized-length most k a b c f e = eqb-true _ _ (and_first (eqb (length f) k) _ (and_second (leb (length f) most) _ e))

pub sized-all : (most k a b c : ℕ) (f : List ℕ) → sized most k a b c f ≡ true → all_of a b c f ≡ true
unfolding sized
sized-all most k a b c f e = and_second (eqb (length f) k) _ (and_second (leb (length f) most) _ e)

-- three kinds of characters in another order
or_turn : (x y z : Bool) → (x || (y || z)) ≡ (y || (z || x))
or_turn true true z = refl
or_turn true false true = refl
or_turn true false false = refl
or_turn false true z = refl
or_turn false false true = refl
or_turn false false false = refl

all-turn : (a b c : ℕ) (f : List ℕ) → all_of a b c f ≡ all_of b c a f
unfolding all_of
all-turn a b c [] = refl
all-turn a b c (x ∷ xs) = rw (or_turn (eqb x a) (eqb x b) (eqb x c), all-turn a b c xs)

pub sized-turn : (most k a b c : ℕ) (f : List ℕ) → sized most k a b c f ≡ sized most k b c a f
unfolding sized
sized-turn most k a b c f = rw (all-turn a b c f)
