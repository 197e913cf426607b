-- Passes, some at a time.
use Rattle.std.specs.Prelude.{◌≡◌, ℕ, ◌+◌, ◌^◌, ◌<◌, cond, List}
use Rattle.rules.specs.declared.Requirement.{Requirement}
use Rattle.bit_choice.specs.Pass.{passes_by, tallied}
use Rattle.bit_choice.specs.declared.Built.{Built}
use Rattle.bit_passes.specs.declared.Run.{Run}

-- what a run has built, where no pass follows
abbrev pub built_of : Run → Built
built_of w = record { bit = w.bit; passes = w.passes; looks = w.looks }

-- what is built where at most m passes more follow
abbrev pub ran_on : ℕ → ℕ → List Requirement → Run → Built
ran_on m n rs w = cond w.done (built_of w) (tallied w.passes w.looks (passes_by m n rs w.bit))

-- r is w after at most k passes: whatever is allowed for behind them, the same is built; and it counts in 64 digits, if w does
pub record Ran (n : ℕ) (rs : List Requirement) (k : ℕ) (w r : Run) : Type 0 where
  pub goes : (m : ℕ) → ran_on (k + m) n rs w ≡ ran_on m n rs r
  pub passes_fit : r.passes < 2 ^ 64
  pub looks_fit : r.looks < 2 ^ 64
