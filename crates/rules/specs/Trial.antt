-- 01, "Looks": the trial record, for single moves.
use Rattle.std.specs.Prelude.{Bool, true, ◌&&◌, cond, List, [], ◌∷◌, ℕ, ◌+◌, ◌^◌, leb, ltb, eqb, length, ℤ, Ok}
use Rattle.std.specs.Int.Bits.{bit_and}
use Rattle.sets.specs.Sets.{has, flip}
use Rattle.rules.specs.Limits.{most_states, most_trial}
use Rattle.rules.specs.Looks.{move_looks}
use Rattle.rules.specs.OneBit.{gain}
use Rattle.rules.specs.declared.Requirement.{Requirement}
use Rattle.rules.specs.declared.StateNumber.{StateNumber}
use Rattle.rules.specs.Refusals.{Verdict, refused}
use Rattle.rules.specs.declared.Refusal.TheVariants.{BadCall}

-- n states, the requirements, the bit, the states that have moved, and the looks so far
pub record Trial : Type 0 where
  pub states : ℕ
  pub asked : List Requirement
  pub bit : ℕ
  pub moved : ℕ
  pub looks : ℕ

-- no states, no requirements, no looks: what a refused start hands back
abbrev pub empty : Trial
empty = record { states = 0; asked = []; bit = 0; moved = 0; looks = 0 }

-- what a start or a move answers
pub record Tried : Type 0 where
  pub verdict : Verdict
  pub trial : Trial

abbrev pub taken : Trial → Tried
taken t = record { verdict = Ok tt; trial = t }

abbrev pub turned_down : Trial → Tried
turned_down t = record { verdict = refused BadCall 0; trial = t }

-- no mask bit at n or above
abbrev pub within : ℕ → ℕ → Bool
within n m = ltb m (2 ^ n)

-- the two block lists as requirements, those of unlike length cut to the shorter
unfoldable pub paired : List ℕ → List ℕ → List Requirement
paired [] gs = []
paired (f ∷ fs) [] = []
paired (f ∷ fs) (g ∷ gs) = record { first = f; second = g } ∷ paired fs gs

-- each block within n states, and no two blocks that overlap
unfoldable pub all_sound : ℕ → List Requirement → Bool
all_sound n [] = true
all_sound n (r ∷ rs) = within n r.first && within n r.second && eqb (bit_and r.first r.second) 0 && all_sound n rs

unfoldable pub startable : ℕ → ℕ → List ℕ → List ℕ → Bool
unfolding all_sound paired
startable n b fs gs =
    leb 1 n && leb n most_states
    && eqb (length fs) (length gs)
    && leb (length fs) most_trial
    && within n b
    && all_sound n (paired fs gs)

-- a start: n, a bit and two block lists, all requirements counted as live
unfoldable pub begin : ℕ → ℕ → List ℕ → List ℕ → Tried
unfolding startable paired
begin n b fs gs = cond (startable n b fs gs) (taken (record { states = n; asked = paired fs gs; bit = b; moved = 0; looks = 0 })) (turned_down empty)

-- a move of a state below n that has not moved; a refused move hands back the same record
unfoldable pub move : Trial → StateNumber → Tried
unfolding move_looks
move t s =
    cond (ltb s.0 t.states && eqb (has t.moved s.0) 0)
    (taken (record {
      states = t.states;
      asked = t.asked;
      bit = flip t.bit s.0;
      moved = flip t.moved s.0;
      looks = t.looks + move_looks t.states t.asked t.bit s.0;
    }))
    (turned_down t)

-- each state's gain, moved states included
unfoldable pub gain_shown : Trial → StateNumber → ℤ
unfolding gain
gain_shown t s = gain t.states t.asked t.bit s.0
