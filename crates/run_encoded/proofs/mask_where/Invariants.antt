-- `run_encoded::mask_where` meets its contract: the mask stands for the bits from k on.
use mathlib.Core.Path.{◌≡◌}
use mathlib.Core.Bool.{Bool}
use Prim.Native.Nat.{ℕ, ◌-◌, ◌^◌, ◌<◌}
use lib.ListN.{length, drop}
use Rattle.rules.specs.Text.{digit}
use Rattle.run_encoded.specs.Terms.{mask_of}
use Rattle.run_encoded.proofs.mask_where.Given as goal

abbrev pub invariant-loop-k : goal.invariant-loop-k
invariant-loop-k g l = record {
  few : l.mask < 2 ^ (length l.bits - l.k);
  told : (p : ℕ → Bool) → ((b : ℕ) (r : Bool) → b < 2 ^ 64 → g.F.Fn.post l.holds (b, tt) r → r ≡ p b) → l.mask ≡ mask_of (λ b. digit (p b)) (drop l.k l.bits);
}
