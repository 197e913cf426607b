-- The size of a set: the sum of its digits, and what a change at one state does to it. Over any width.
use mathlib.Core.Path.{◌≡◌, refl, sym, ap, ap₂, ◌∙◌}
use Prim.Native.Nat.{ℕ, zero, suc, ◌+◌, ◌-◌, ◌*◌, ◌/◌, ◌%◌, ◌^◌, ◌≤◌, ◌<◌}
use native.Mathlib.Omega.{arith}
use lib.Arith.{lt-one}
use lib.Count.{ones, ones_step}
use lib.Pow.{pow-lt, pow_pos}
use Rattle.sets.specs.Sets.{has, only, flip, size_in, size, total}
use Rattle.sets.proofs.Members.{has-zero, has-suc, has-none, has-only, has_other, half_lt, has-flip, has-flip-other, flip-lt}
use Rattle.sets.proofs.Totals.{total-same, total-change, total-none, none-total}

-- the machine's count of ones
ones_none : ones 0 ≡ 0
unfolding ones
ones_none = refl

size_in-ones : (d m : ℕ) → m ≤ d → size_in d m ≡ ones m
unfolding size_in
size_in-ones zero zero h = sym ones_none
size_in-ones zero (suc m) h = absurd (omega arith)
size_in-ones (suc d) zero h = sym ones_none
size_in-ones (suc d) (suc m) h = ap (λ (n : ℕ). suc m % 2 + n) (size_in-ones d (suc m / 2) (omega arith)) ∙ sym (ones_step (suc m))

pub size-ones : (m : ℕ) → size m ≡ ones m
unfolding size
size-ones m = size_in-ones m m (omega arith)

ones-total : (n m : ℕ) → m < 2 ^ n → ones m ≡ total n (has m)
unfolding total
ones-total zero m p = ap ones (lt-one p) ∙ ones_none
ones-total (suc n) m p =
    ones_step m
    ∙ ap₂ (λ (a b : ℕ). a + b) (sym (has-zero m)) (ones-total n (m / 2) (half_lt n p) ∙ total-same n (has (m / 2)) (λ s. has m (suc s)) (λ t q. sym (has-suc m t)))

pub size-total : (n m : ℕ) → m < 2 ^ n → size m ≡ total n (has m)
size-total n m p = size-ones m ∙ ones-total n m p

-- two masks that differ at s alone
pub size-change : (n a b s : ℕ) → a < 2 ^ n → b < 2 ^ n → s < n → ((t : ℕ) → (t ≡ s → ⊥) → has a t ≡ has b t) → size a + has b s ≡ size b + has a s
size-change n a b s p q r h =
    let x : size a ≡ total n (has a) = size-total n a p in
    let y : size b ≡ total n (has b) = size-total n b q in
    let z : total n (has a) + has b s ≡ total n (has b) + has a s = total-change n s (has a) (has b) r (λ t _ o. h t o) in
    omega arith

-- a flip puts one member in or takes one out
pub size-flip : (n m s : ℕ) → m < 2 ^ n → s < n → size (flip m s) + 2 * has m s ≡ size m + 1
size-flip n m s p q =
    let c : size (flip m s) + has m s ≡ size m + has (flip m s) s = size-change n (flip m s) m s (flip-lt n m s p q) p q (has-flip-other m s) in
    let d : has (flip m s) s ≡ 1 - has m s = has-flip m s in
    omega arith

-- the empty set is the one with no member
pub size_none : (n m : ℕ) → m < 2 ^ n → size m ≡ 0 → (s : ℕ) → s < n → has m s ≡ 0
size_none n m p e = total-none n (has m) (sym (size-total n m p) ∙ e)

pub none-size : (n m : ℕ) → m < 2 ^ n → ((s : ℕ) → s < n → has m s ≡ 0) → size m ≡ 0
none-size n m p h = size-total n m p ∙ none-total n (has m) h

-- the empty set, and a set of one state
pub size-zero : size 0 ≡ 0
size-zero = none-size 0 0 (pow_pos 0) (λ t _. has-none t)

pub size-only : (s : ℕ) → size (only s) ≡ 1
size-only s =
    omega (
      arith,
      size-change (suc s) (only s) 0 s (pow-lt (omega arith)) (pow_pos (suc s)) (omega arith) (λ t d. has_other s t d ∙ sym (has-none t)),
      has-only s,
      has-none s,
      size-zero,
    )
