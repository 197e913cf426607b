-- The next bit for any list of requirements; where gain tables show 01's gains, it is 01's.
use Rattle.std.specs.Prelude.{◌≡◌, List, ℕ, min, length}
use Rattle.rules.specs.OneBit.{Bit, start, complemented}
use Rattle.rules.specs.declared.Requirement.{Requirement}
use Rattle.bit_choice.specs.Pass.{built_by}
use Rattle.bit_choice.specs.declared.Built.{Built}
use Rattle.bit_live.specs.Live.{live_in}
use Rattle.bit_live.specs.Left.{left_families, sifted_families}

-- the bit that gain tables build from 01's start, then complemented as 01 says; of more than 64 states the first 64
unfoldable pub next_by : ℕ → List Requirement → Bit
unfolding built_by complemented
next_by n rs = let r : Built = built_by n rs (start rs) in record { bit = complemented (min n 64) r.bit; passes = r.passes; looks = r.looks }

-- the next bit behind some bits, and what it makes of the families
pub record AddedBit (n : ℕ) (bits fs : List ℕ) (bit left passes looks : ℕ) (fs' : List ℕ) : Type 0 where
  pub is : bit ≡ (next_by n (live_in n bits fs)).bit
  pub took : passes ≡ (next_by n (live_in n bits fs)).passes
  pub looked : looks ≡ (next_by n (live_in n bits fs)).looks
  pub leaves : left ≡ length (left_families bit fs)
  pub sifts : fs' ≡ sifted_families bit fs
