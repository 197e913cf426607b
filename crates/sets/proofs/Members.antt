-- Who is a member of a union, a difference, a flip, a complement; and masks with the same members are equal, over any width and without one.
use mathlib.Core.Path.{◌≡◌, refl, sym, ap, ◌∙◌, subst}
use Prim.Native.Nat.{ℕ, zero, suc, ◌+◌, ◌-◌, ◌*◌, ◌/◌, ◌%◌, ◌^◌, ◌≤◌, ◌<◌, min, max}
use native.Mathlib.Nat.{mod-lt, zero-lt-suc, pow-suc, div-div-eq-div-mul, div-lt_iff_lt-mul, div-one, div_self, div-eq_of_lt, zero-div, one-mul, mod-eq_of_lt, mul_comm, lt_of_lt_of_le}
use native.Mathlib.Omega.{arith}
use lib.Arith.{digits_mod, lt-one}
use lib.Pow.{pow_pos, pow-lt, pow_mono}
use lib.Bits.{bit_and, bit_or, bit_xor, differ, and_step, or_step, xor_step, xor_lt, and_shr, or_shr, xor_shr}
use Rattle.sets.specs.Sets.{has, flip}

pub has-lt : (m s : ℕ) → has m s < 2
has-lt m s = mod-lt (m / 2 ^ s) (zero-lt-suc 1)

differ-lt : (x y : ℕ) → x < 2 → y < 2 → differ x y < 2
differ-lt zero y p q = q
differ-lt (suc x) zero p q = p
differ-lt (suc x) (suc y) p q = differ-lt x y (omega arith) (omega arith)

-- the lowest digit of an operation
and_low : (a b : ℕ) → bit_and a b % 2 ≡ min (a % 2) (b % 2)
and_low a b = ap (λ (n : ℕ). n % 2) (and_step a b) ∙ digits_mod (bit_and (a / 2) (b / 2)) (omega arith)

or-low : (a b : ℕ) → bit_or a b % 2 ≡ max (a % 2) (b % 2)
or-low a b = ap (λ (n : ℕ). n % 2) (or_step a b) ∙ digits_mod (bit_or (a / 2) (b / 2)) (omega arith)

xor_low : (a b : ℕ) → bit_xor a b % 2 ≡ differ (a % 2) (b % 2)
xor_low a b = ap (λ (n : ℕ). n % 2) (xor_step a b) ∙ digits_mod (bit_xor (a / 2) (b / 2)) (differ-lt (a % 2) (b % 2) (omega arith) (omega arith))

pub has-and : (a b s : ℕ) → has (bit_and a b) s ≡ min (has a s) (has b s)
has-and a b s = ap (λ (n : ℕ). n % 2) (and_shr a b s) ∙ and_low (a / 2 ^ s) (b / 2 ^ s)

pub has-or : (a b s : ℕ) → has (bit_or a b) s ≡ max (has a s) (has b s)
has-or a b s = ap (λ (n : ℕ). n % 2) (or_shr a b s) ∙ or-low (a / 2 ^ s) (b / 2 ^ s)

mod2 : (x y : ℕ) → x < 2 → y < 2 → differ x y ≡ (x + y) % 2
mod2 zero y p q = omega arith
mod2 (suc zero) zero p q = refl
mod2 (suc zero) (suc zero) p q = refl
mod2 (suc zero) (suc (suc y)) p q = absurd (omega arith)
mod2 (suc (suc x)) y p q = absurd (omega arith)

pub has-xor : (a b s : ℕ) → has (bit_xor a b) s ≡ (has a s + has b s) % 2
has-xor a b s = ap (λ (n : ℕ). n % 2) (xor_shr a b s) ∙ xor_low (a / 2 ^ s) (b / 2 ^ s) ∙ mod2 (has a s) (has b s) (has-lt a s) (has-lt b s)

-- state 0, and the states from 1 on
pub has-zero : (m : ℕ) → has m 0 ≡ m % 2
has-zero m = ap (λ (n : ℕ). n % 2) (div-one m)

pub has-suc : (m s : ℕ) → has m (suc s) ≡ has (m / 2) s
has-suc m s = ap (λ (n : ℕ). n % 2) (ap (λ (k : ℕ). m / k) (pow-suc 2 s ∙ mul_comm (2 ^ s) 2) ∙ sym (div-div-eq-div-mul m 2 (2 ^ s)))

pub half_lt : {m : ℕ} (n : ℕ) → m < 2 ^ suc n → m / 2 < 2 ^ n
half_lt {m} n h = (div-lt_iff_lt-mul (zero-lt-suc 1)).1 (subst (λ (x : ℕ). m < x) (pow-suc 2 n) h)

-- two masks with the same members are equal
pub same-mask : (n a b : ℕ) → a < 2 ^ n → b < 2 ^ n → ((s : ℕ) → s < n → has a s ≡ has b s) → a ≡ b
same-mask zero a b p q h = lt-one p ∙ sym (lt-one q)
same-mask (suc n) a b p q h =
    let e : a / 2 ≡ b / 2 = same-mask n (a / 2) (b / 2) (half_lt n p) (half_lt n q) (λ s r. sym (has-suc a s) ∙ h (suc s) (omega arith) ∙ has-suc b s) in
    let z : a % 2 ≡ b % 2 = sym (has-zero a) ∙ h 0 (omega arith) ∙ has-zero b in
    omega arith

-- of any width
pub below_power : (m : ℕ) → m < 2 ^ m
below_power zero = omega arith
below_power (suc m) = omega (arith, below_power m, pow-suc 2 m)

pub same_digits : (a b : ℕ) → ((j : ℕ) → has a j ≡ has b j) → a ≡ b
same_digits a b h =
    let left : 2 ^ a ≤ 2 ^ (a + b) = pow_mono (omega arith) in
    let right : 2 ^ b ≤ 2 ^ (a + b) = pow_mono (omega arith) in
    same-mask (a + b) a b (omega (arith, below_power a)) (omega (arith, below_power b)) (λ j l. h j)

pub has-none : (t : ℕ) → has 0 t ≡ 0
has-none t = ap (λ (n : ℕ). n % 2) (zero-div (2 ^ t))

-- a mask of n digits has no member from n on
pub has-high : (n m s : ℕ) → m < 2 ^ n → n ≤ s → has m s ≡ 0
has-high n m s p q = ap (λ (k : ℕ). k % 2) (div-eq_of_lt (lt_of_lt_of_le p (pow_mono q)))

pub has-only : (s : ℕ) → has (2 ^ s) s ≡ 1
has-only s = ap (λ (n : ℕ). n % 2) (div_self (pow_pos s))

double-half : (s : ℕ) → 2 ^ suc s / 2 ≡ 2 ^ s
double-half s = ap (λ (n : ℕ). n / 2) (pow-suc 2 s) ∙ omega arith

pub has_other : (s t : ℕ) → (t ≡ s → ⊥) → has (2 ^ s) t ≡ 0
has_other zero zero h = absurd (h refl)
has_other zero (suc t) h = has-suc 1 t ∙ has-none t
has_other (suc s) zero h = has-zero (2 ^ suc s) ∙ ap (λ (n : ℕ). n % 2) (pow-suc 2 s) ∙ omega arith
has_other (suc s) (suc t) h = has-suc (2 ^ suc s) t ∙ ap (λ (n : ℕ). has n t) (double-half s) ∙ has_other s t (λ e. h (ap suc e))

-- the complement within n states
pub has-not : (n a s : ℕ) → a < 2 ^ n → s < n → has ((2 ^ n - 1) - a) s ≡ 1 - has a s
has-not zero a s p q = absurd (omega arith)
has-not (suc n) a zero p q =
    let e : 2 ^ suc n ≡ 2 ^ n * 2 = pow-suc 2 n in
    has-zero ((2 ^ suc n - 1) - a) ∙ omega arith ∙ ap (λ (k : ℕ). 1 - k) (sym (has-zero a))
has-not (suc n) a (suc s) p q =
    let e : 2 ^ suc n ≡ 2 ^ n * 2 = pow-suc 2 n in
    let h : ((2 ^ suc n - 1) - a) / 2 ≡ (2 ^ n - 1) - a / 2 = omega arith in
    has-suc ((2 ^ suc n - 1) - a) s ∙ ap (λ (k : ℕ). has k s) h ∙ has-not n (a / 2) s (omega arith) (omega arith) ∙ ap (λ (k : ℕ). 1 - k) (sym (has-suc a s))

-- every state below n is a member of the set of all states below n
pub has_all : (n s : ℕ) → s < n → has (2 ^ n - 1) s ≡ 1
has_all n s q =
    let e : (2 ^ n - 1) - 0 ≡ 2 ^ n - 1 = omega arith in
    ap (λ (k : ℕ). has k s) (sym e) ∙ has-not n 0 s (pow_pos n) q ∙ ap (λ (k : ℕ). 1 - k) (has-none s)

pub has-flip : (m s : ℕ) → has (flip m s) s ≡ 1 - has m s
has-flip m s =
    let e : has (2 ^ s) s ≡ 1 = has-only s in
    let f : has (flip m s) s ≡ (has m s + has (2 ^ s) s) % 2 = has-xor m (2 ^ s) s in
    omega arith

pub has-flip-other : (m s t : ℕ) → (t ≡ s → ⊥) → has (flip m s) t ≡ has m t
has-flip-other m s t h =
    let e : has (2 ^ s) t ≡ 0 = has_other s t h in
    let f : has (flip m s) t ≡ (has m t + has (2 ^ s) t) % 2 = has-xor m (2 ^ s) t in
    omega arith

pub flip-lt : (n m s : ℕ) → m < 2 ^ n → s < n → flip m s < 2 ^ n
flip-lt n m s p q = xor_lt n m (2 ^ s) p (pow-lt q)

pub not-lt : (n m : ℕ) → (2 ^ n - 1) - m < 2 ^ n
not-lt n m = omega (arith, pow_pos n)

-- what the machine's `1 << s` gives at n digits
pub shl_one : (n s : ℕ) → s < n → (1 * 2 ^ s) % 2 ^ n ≡ 2 ^ s
shl_one n s q = ap (λ (k : ℕ). k % 2 ^ n) (one-mul (2 ^ s)) ∙ mod-eq_of_lt (pow-lt q)
