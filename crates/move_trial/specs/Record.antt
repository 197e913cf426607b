-- The trial record as code holds it, and what a start and a move make of it, field by field, on any record at all.
use Rattle.std.specs.Prelude.{ℕ, ◌+◌, ◌*◌, ◌%◌, ◌^◌, cond, List, [], ◌∷◌, length, take, replicate, ℤ, pos, bit_or, nat_lt, slice_index, Ok}
use Rattle.std.proofs.lemmas.List.Edits.{sets}
use Rattle.std.proofs.Math.IntN.{sub_ℕ}
use Rattle.sets.specs.Sets.{flip}
use Rattle.rules.specs.Limits.{most_trial}
use Rattle.rules.specs.Trial.{startable}
use Rattle.rules.specs.declared.Requirement.{Requirement}
use Rattle.rules.specs.declared.StateNumber.{StateNumber}
use Rattle.rules.specs.Refusals.{refused}
use Rattle.rules.specs.declared.Refusal.TheVariants.{BadCall}
use Rattle.move_table.specs.Table.{level}
use Rattle.families.specs.Families.{requirements_in}
use Rattle.move_table.specs.Moves.{filled, moved, looked}
use Rattle.move_trial.specs.Movable.{movable}
use Rattle.move_trial.specs.declared.Trial.{Trial}
use Rattle.move_trial.specs.declared.Answer.{Answer}

-- ---- what an answer is

abbrev pub taken : Trial → Answer
taken t = record { verdict = Ok tt; trial = t }

abbrev pub turned_down : Trial → Answer
turned_down t = record { verdict = refused BadCall 0; trial = t }

-- ---- a start

-- each requirement is a family of its own
unfoldable pub families_of : List ℕ → List ℕ → List ℕ
families_of [] gs = []
families_of (f ∷ fs) [] = []
families_of (f ∷ fs) (g ∷ gs) = bit_or f g ∷ (g ∷ (0 ∷ families_of fs gs))

-- the words of the most requirements, three for each
abbrev pub words : ℕ
words = 3 * most_trial

-- the families in the first places
unfoldable pub stored : List ℕ → List ℕ → List ℕ
unfolding families_of
stored fs gs = sets (replicate words 0) 0 (families_of fs gs)

-- the empty record: no states, no requirements, no looks
unfoldable pub none : Trial
none = record { states = 0; count = 0; bit = 0; moved = 0; looks = 0; families = replicate words 0; table = replicate 64 level }

-- the record that shows a start: nothing has moved
unfoldable pub shown : ℕ → ℕ → List ℕ → List ℕ → Trial
unfolding stored filled requirements_in
shown n b fs gs = record {
  states = n;
  count = length fs;
  bit = b;
  moved = 0;
  looks = 0;
  families = stored fs gs;
  table = filled (requirements_in (take (3 * length fs) (stored fs gs))) b (replicate 64 level);
}

-- a start: what cannot start hands back the empty record
unfoldable pub start_of : ℕ → ℕ → List ℕ → List ℕ → Answer
unfolding startable shown none
start_of n b fs gs = cond (startable n b fs gs) (taken (shown n b fs gs)) (turned_down none)

-- ---- a move

-- the requirements that a record lists
abbrev pub asked_of : Trial → List Requirement
asked_of t = requirements_in (take (3 * t.count) t.families)

-- the record after the move of s; the looks are a sum of 64 digits, which no record that a start gave comes near
unfoldable pub next_of : Trial → ℕ → Trial
unfolding moved looked
next_of t s =
    let a : ℕ = flip t.bit s in
    record {
      states = t.states;
      count = t.count;
      bit = a;
      moved = flip t.moved s;
      looks = (t.looks + looked (asked_of t) t.bit a s) % 2 ^ 64;
      families = t.families;
      table = moved (asked_of t) t.bit a s t.table;
    }

-- a move: where s cannot move, the same record
unfoldable pub move_of : Trial → StateNumber → Answer
unfolding movable next_of
move_of t s = cond (movable t.states t.count t.moved s.0) (taken (next_of t s.0)) (turned_down t)

-- ---- what a record shows

-- each state's gain, moved states included; a number that is no state's has none
unfoldable pub gain_of : Trial → StateNumber → ℤ
gain_of t s = cond (nat_lt s.0 t.states) (sub_ℕ (slice_index t.table s.0) level) (pos 0)
