-- The passes and the looks of every code fit a counter: a bit takes at most 2^21 passes and 2^44 looks.
use mathlib.Core.List.{List, [], ◌∷◌}
use Prim.Native.Nat.{ℕ, zero, suc, ◌*◌, ◌^◌, ◌≤◌}
use native.Mathlib.Nat.{suc-mul}
use native.Mathlib.Omega.{arith}
use Rattle.rules.specs.OneBit.{Bit, new_bit}
use Rattle.rules.specs.Code.{Code, build, unmet_by}
use Rattle.rules.specs.declared.Requirement.{Requirement}
use Rattle.move_table.proofs.Ready.{Ready, ready-left}
use Rattle.bit_next.proofs.NextBit.{new-bit-few}

pub record FewIn (k : ℕ) (c : Code) : Type 0 where
  pub passes : c.passes ≤ k * 2 ^ 21
  pub looks : c.looks ≤ k * 2 ^ 44

pub few-counted : (k n : ℕ) (rs : List Requirement) → Ready n rs → FewIn k (build k n rs)
unfolding build
few-counted zero n rs h = record { passes = omega arith; looks = omega arith }
few-counted (suc k) n [] h = record { passes = omega arith; looks = omega arith }
few-counted (suc k) n (r ∷ rs) h =
    let b : Bit = new_bit n (r ∷ rs) in
    let few = new-bit-few n (r ∷ rs) h in
    let f = few-counted k n (unmet_by n b.bit (r ∷ rs)) (ready-left n b.bit (r ∷ rs) h) in
    record { passes = omega (arith, few.0, f.passes, suc-mul k (2 ^ 21)); looks = omega (arith, few.1, f.looks, suc-mul k (2 ^ 44)) }
