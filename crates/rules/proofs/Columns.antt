-- Columns of a small machine: which value a state has in the bit of a column, and that every bit with state 0 at 0 is the bit of one.
use mathlib.Core.Path.{◌≡◌, sym, subst, ap, ◌∙◌}
use Prim.Native.Nat.{ℕ, zero, suc, ◌+◌, ◌-◌, ◌*◌, ◌/◌, ◌^◌, ◌≤◌, ◌<◌}
use native.Mathlib.Omega.{arith}
use lib.Pow.{pow_pos}
use Rattle.sets.specs.Sets.{has}
use Rattle.sets.proofs.Members.{has-lt, has-zero, has-suc, same-mask}
use Rattle.rules.specs.Least.{turned, column, columns_of}

-- a digit behind the others
low_digit : (m d : ℕ) → d < 2 → has (m * 2 + d) 0 ≡ d
low_digit m d h = has-zero (m * 2 + d) ∙ omega arith

high_digit : (m d i : ℕ) → d < 2 → has (m * 2 + d) (suc i) ≡ has m i
high_digit m d i h = has-suc (m * 2 + d) i ∙ ap (λ (x : ℕ). has x i) (omega arith)

pub turned_lt : (k v : ℕ) → turned k v < 2 ^ k
unfolding turned
turned_lt zero v = pow_pos 0
turned_lt (suc k) v = omega (arith, turned_lt k v, has-lt v k)

pub turned-has : (k v i : ℕ) → i < k → has (turned k v) i ≡ has v (k - 1 - i)
unfolding turned
turned-has zero v i h = absurd (omega arith)
turned-has (suc k) v zero h = low_digit (turned k v) (has v k) (has-lt v k) ∙ ap (has v) (omega arith)
turned-has (suc k) v (suc i) h = high_digit (turned k v) (has v k) i (has-lt v k) ∙ turned-has k v i (omega arith) ∙ ap (has v) (omega arith)

-- turned twice it is as it was
pub turned-twice : (k v : ℕ) → v < 2 ^ k → turned k (turned k v) ≡ v
turned-twice k v h =
    same-mask k (turned k (turned k v)) v (turned_lt k (turned k v)) h
    (λ s q. turned-has k (turned k v) s q ∙ turned-has k v (k - 1 - s) (omega arith) ∙ ap (has v) (omega arith))

-- ---- the bit of a column

one_more : (n : ℕ) → 1 ≤ n → suc (n - 1) ≡ n
one_more n h = omega arith

-- it is a set of the n states
pub column-lt : (n v : ℕ) → 1 ≤ n → column n v < 2 ^ n
column-lt n v h = subst (λ (m : ℕ). column n v < 2 ^ m) (one_more n h) (doubled (n - 1))
  where
    doubled : (k : ℕ) → turned k v * 2 < 2 ^ suc k
    doubled k = omega (arith, turned_lt k v)

-- state 0 is at 0
pub column-first : (n v : ℕ) → has (column n v) 0 ≡ 0
column-first n v = has-zero (column n v) ∙ omega arith

-- state 1 at the highest digit, and so on
pub column-has : (n v s : ℕ) → 1 ≤ s → s < n → has (column n v) s ≡ has v (n - 1 - s)
column-has n v zero l h = absurd (omega arith)
column-has n v (suc i) l h =
    has-suc (column n v) i ∙ ap (λ (x : ℕ). has x i) (half (turned (n - 1) v)) ∙ turned-has (n - 1) v i (omega arith) ∙ ap (has v) (omega arith)
  where
    half : (m : ℕ) → m * 2 / 2 ≡ m
    half m = omega arith

-- every set of the n states without state 0 is the bit of a column
pub every-column : (n b : ℕ) → 1 ≤ n → b < 2 ^ n → has b 0 ≡ 0 → (v : ℕ) × (v < columns_of n) × (column n v ≡ b)
every-column n b l h z = (turned k (b / 2), turned_lt k (b / 2), ap (λ (m : ℕ). m * 2) (turned-twice k (b / 2) half_lt) ∙ whole)
  where
    k : ℕ
    k = n - 1

    halved : (j : ℕ) → b < 2 ^ suc j → b / 2 < 2 ^ j
    halved j q = omega arith

    half_lt : b / 2 < 2 ^ k
    half_lt = halved k (rw (one_more n l) h)

    whole : b / 2 * 2 ≡ b
    whole = omega (arith, sym (has-zero b) ∙ z)
