-- A pass by the gain table: the choice of a state, the moves, and the bit that is kept; then passes until none gains.
use Rattle.std.specs.Prelude.{ℕ, zero, suc, ◌+◌, ◌%◌, ◌^◌, min, cond, List, length, replicate, nat_lt, slice_index}
use Rattle.sets.specs.Sets.{has, everyone, flip}
use Rattle.rules.specs.OneBit.{rather}
use Rattle.rules.specs.declared.Requirement.{Requirement}
use Rattle.move_table.specs.Table.{level}
use Rattle.move_table.specs.Moves.{filled, moved, looked}
use Rattle.bit_choice.specs.declared.Passed.{Passed}
use Rattle.bit_choice.specs.declared.Built.{Built}
use Rattle.bit_choice.specs.declared.Way.{Way}

-- of the states below k, the free one with the highest level, the lowest number on ties
unfoldable pub highest : ℕ → List ℕ → ℕ → ℕ
highest free t zero = 0
highest free t (suc k) = let r : ℕ = highest free t k in cond (rather (has free k) (has free r) (nat_lt (slice_index t r) (slice_index t k))) k r

-- a pass on its way: the bit, who is free, the table, the level reached; and the best so far, with the looks
pub record Going : Type 0 where
  pub bit : ℕ
  pub free : ℕ
  pub table : List ℕ
  pub now : ℕ
  pub best : Passed

-- the sum of two levels, less what a gain of 0 has
abbrev pub reached : ℕ → ℕ → ℕ
reached now gain = (now + gain + level) % 2 ^ 32

-- the best so far is kept unless more is met now
abbrev pub best_of : Passed → ℕ → ℕ → ℕ → Passed
best_of p b now looks = cond (nat_lt p.level now) (record { bit = b; level = now; looks = (p.looks + looks) % 2 ^ 64 }) (record { bit = p.bit; level = p.level; looks = (p.looks + looks) % 2 ^ 64 })

-- a pass on its way, as code has it: the table stands beside
abbrev pub going : Way → List ℕ → Going
going w t = record { bit = w.bit; free = w.free; table = t; now = w.level; best = w.best }

-- one move
unfoldable pub go_on : ℕ → List Requirement → Going → Going
unfolding highest moved looked
go_on n rs g =
    let s : ℕ = highest g.free g.table n in
    let a : ℕ = flip g.bit s in
    let now : ℕ = reached g.now (slice_index g.table s) in
    record {
      bit = a;
      free = flip g.free s;
      table = moved rs g.bit a s g.table;
      now = now;
      best = best_of g.best a now (looked rs g.bit a s);
    }

unfoldable pub go_moves : ℕ → ℕ → List Requirement → Going → Going
unfolding go_on
go_moves zero n rs g = g
go_moves (suc k) n rs g = go_moves k n rs (go_on n rs g)

-- where a pass from the bit b begins
abbrev pub set_out : ℕ → List Requirement → ℕ → Going
unfolding filled
set_out n rs b = record { bit = b; free = everyone n; table = filled rs b (replicate 64 level); now = level; best = record { bit = b; level = level; looks = 0 } }

-- a pass over n states: the bit that it keeps, its level, and its looks
unfoldable pub passed : ℕ → List Requirement → ℕ → Passed
unfolding go_moves filled
passed n rs b = (go_moves n n rs (set_out n rs b)).best

-- after a pass from the bit b that kept p: those that follow it count on, if it gained; else it is the last, and no move stands
abbrev pub after_pass : ℕ → Passed → Built → Built
after_pass b p more =
    cond (nat_lt level p.level)
    (record { bit = more.bit; passes = (more.passes + 1) % 2 ^ 64; looks = (p.looks + more.looks) % 2 ^ 64 })
    (record { bit = b; passes = 1; looks = p.looks })

-- passes until none gains, at most k of them
unfoldable pub passes_by : ℕ → ℕ → List Requirement → ℕ → Built
unfolding passed
passes_by zero n rs b = record { bit = b; passes = 0; looks = 0 }
passes_by (suc k) n rs b =
    let p : Passed = passed n rs b in
    let more : Built = passes_by k n rs p.bit in
    after_pass b p more

-- p passes and l looks before those of r, modulo 2 ^ 64
abbrev pub tallied : ℕ → ℕ → Built → Built
tallied p l r = record { bit = r.bit; passes = (p + r.passes) % 2 ^ 64; looks = (l + r.looks) % 2 ^ 64 }

-- a bit built from b, for at most 64 states; the passes are one more than the requirements, which no bit needs
unfoldable pub built_by : ℕ → List Requirement → ℕ → Built
unfolding passes_by
built_by n rs b = tallied 0 0 (passes_by (length rs + 1) (min n 64) rs b)
