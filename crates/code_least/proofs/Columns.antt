-- A column's bit, digit by digit, fits a word.
use mathlib.Core.Path.{◌≡◌, sym, ap, ◌∙◌}
use Prim.Native.Nat.{ℕ, ◌+◌, ◌-◌, ◌*◌, ◌^◌, ◌≤◌, ◌<◌}
use native.Mathlib.Numerals.{add-one}
use native.Mathlib.Omega.{arith}
use lib.Pow.{pow_mono}
use Rattle.sets.specs.Sets.{has}
use Rattle.rules.specs.Least.{turned, column}
use Rattle.rules.proofs.Columns.{turned_lt}

pub turned_more : (k v : ℕ) {b : ℕ} → b ≡ turned k v → b * 2 + has v k ≡ turned (k + 1) v
unfolding turned
turned_more k v e = ap (λ (m : ℕ). m * 2 + has v k) e ∙ ap (λ (j : ℕ). turned j v) (sym (add-one k))

pub turned-fits : (k v : ℕ) {b : ℕ} → k ≤ 63 → b ≡ turned k v → b < 2 ^ 63
turned-fits k v {b} l e = let m : 2 ^ k ≤ 2 ^ 63 = pow_mono l in omega (arith, turned_lt k v)

-- the digits are all there
pub turned-column : (n k v : ℕ) {b : ℕ} → k ≤ n - 1 → n ≤ k + 1 → b ≡ turned k v → b * 2 ≡ column n v
turned-column n k v l h e = let s : k ≡ n - 1 = omega arith in ap (λ (m : ℕ). m * 2) (e ∙ ap (λ (j : ℕ). turned j v) s)
