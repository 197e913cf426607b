-- What the functions that build a code promise each other, and what the encoder answers for n states and some requirements.
use Rattle.std.specs.Prelude.{◌≡◌, cond, not, ◌&&◌, List, [], ◌++◌, ℕ, ◌≤◌, eqb, length, drop, Ok, Result}
use Rattle.sets.specs.Places.{padded}
use Rattle.rules.specs.Limits.{most_bits, most_asked}
use Rattle.rules.specs.Code.{Code, build, unmet_from}
use Rattle.rules.specs.declared.Requirement.{Requirement}
use Rattle.rules.specs.declared.Encoding.{Encoding}
use Rattle.rules.specs.declared.Refusal.TheVariants.{TooWide}
use Rattle.move_table.proofs.Ready.{Ready}
use Rattle.bit_live.specs.Live.{live_in}
use Rattle.bit_live.proofs.Next.{Within}
use Rattle.rules.specs.Refusals.{refused}
use Rattle.rules.specs.declared.Refused.{Refused}

-- the families of some requirements of n states, and with the pairs no more requirements than a listing can ask
pub record Drawn (n : ℕ) (fs : List ℕ) : Type 0 where
  pub ready : Ready n (live_in n [] fs)
  pub within : Within n fs
  pub few : length (live_in n [] fs) ≤ most_asked

-- a code of that width is asked for them
pub record Asked (n width : ℕ) (fs : List ℕ) : Type 0 where
  pub drawn : Drawn n fs
  pub narrow : width ≤ most_bits

-- a run of at most so many bits begins, with room for them
pub record Begun (n most : ℕ) (fs bits : List ℕ) : Type 0 where
  pub drawn : Drawn n fs
  pub width : most ≤ most_bits
  pub room : length bits ≡ most_bits

-- it came to the code of n states, for the requirements rs
pub record DoneAs (n : ℕ) (code : Code) (rs : List Requirement) (bits : List ℕ) (width live passes looks : ℕ) (bits' : List ℕ) : Type 0 where
  pub wide : width ≡ length code.bits
  pub left : live ≡ length (unmet_from 0 n code.bits rs)
  pub took : passes ≡ code.passes
  pub looked : looks ≡ code.looks
  pub shown : bits' ≡ code.bits ++ drop (length code.bits) bits

abbrev pub Done : ℕ → ℕ → List Requirement → List ℕ → ℕ → ℕ → ℕ → ℕ → List ℕ → Type 0
Done n most rs bits width live passes looks bits' = DoneAs n (build most n rs) rs bits width live passes looks bits'

-- the code of n states, for the requirements rs
abbrev pub answer : ℕ → List Requirement → Code → Encoding
answer n rs c = record {
  width = length c.bits;
  bits = padded most_bits 0 c.bits;
  asked = length rs;
  unmet = length (unmet_from 0 n c.bits rs);
  passes = c.passes;
  looks = c.looks;
}

-- of that width at most; with width 0 all of them are to be met
unfoldable pub encoded_for : ℕ → ℕ → List Requirement → Result Encoding Refused
unfolding build unmet_from
encoded_for n width rs =
    let c : Code = build (cond (eqb width 0) most_bits width) n rs in
    cond (eqb width 0 && not (eqb (length (unmet_from 0 n c.bits rs)) 0)) (refused TooWide 0) (Ok (answer n rs c))
