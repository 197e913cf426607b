-- The next bit by gain tables is 01's, its passes and its looks are few, and behind it those requirements are live that it leaves.
use mathlib.Core.Path.{◌≡◌, ap₂, ◌∙◌}
use mathlib.Core.List.{List, [], ◌∷◌, ◌++◌}
use Prim.Native.Nat.{ℕ, suc, ◌*◌, ◌^◌, ◌≤◌, min}
use native.Mathlib.Nat.{mul-le-mul}
use native.Mathlib.Omega.{arith}
use lib.ListN.{length, take}
use Rattle.rules.specs.OneBit.{start, passes, new_bit}
use Rattle.rules.specs.Code.{unmet_by}
use Rattle.rules.specs.declared.Requirement.{Requirement}
use Rattle.move_table.proofs.Ready.{Ready}
use Rattle.bit_choice.specs.Pass.{built_by}
use Rattle.bit_choice.proofs.AllPasses.{Same, Few, built-same, bit-few}
use Rattle.bit_live.specs.Live.{live_in}
use Rattle.bit_live.proofs.Next.{Within, live-left}
use Rattle.bit_next.specs.NextBit.{next_by, AddedBit}

module _ (n : ℕ) (rs : List Requirement) (ready : Ready n rs) where
  pub next_bit : next_by n rs ≡ new_bit n rs
  unfolding next_by new_bit
  next_bit =
      let m : min n 64 ≡ n = omega (arith, ready.fits) in
      let same : Same (built_by n rs (start rs)) (passes n rs) = built-same n rs ready in
      rw (same.bit, same.passes, same.looks, m)

  pub new-bit-few : ((new_bit n rs).passes ≤ 2 ^ 21) × ((new_bit n rs).looks ≤ 2 ^ 44)
  unfolding new_bit
  new-bit-few =
      let f : Few (suc (length rs)) (4 * length rs) (passes n rs) = bit-few n rs ready in
      let m : suc (length rs) * (4 * length rs) ≤ 2 ^ 21 * (4 * 2 ^ 20) = mul-le-mul {n₂ = 2 ^ 21} {m₂ = 4 * 2 ^ 20} (omega (arith, ready.few)) (omega (arith, ready.few)) in
      (omega (arith, f.passes-few, ready.few), omega (arith, f.looks-few))

-- the families in front, with the bit behind the others, are what it leaves of the live requirements
pub added-live : (n : ℕ) (bits fs : List ℕ) (bit left passes looks : ℕ) (fs' : List ℕ) → n ≤ 64 → Within n fs → AddedBit n bits fs bit left passes looks fs'
    → live_in n (bits ++ (bit ∷ [])) (take left fs') ≡ unmet_by n bit (live_in n bits fs)
added-live n bits fs bit left passes looks fs' fits w a =
    ap₂ (λ (k : ℕ) (l : List ℕ). live_in n (bits ++ (bit ∷ [])) (take k l)) a.leaves a.sifts ∙ live-left n bit fits bits fs w
