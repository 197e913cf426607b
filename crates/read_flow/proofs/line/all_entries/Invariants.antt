-- `line::all_entries` meets its contract: the columns before c have their entries.
use mathlib.Core.Path.{◌≡◌}
use mathlib.Core.Bool.{true}
use Prim.Native.Nat.{ℕ, ◌≤◌, ◌<◌, ◌+◌}
use Rattle.rules.specs.Text.{field_at}
use Rattle.rules.specs.FlowLines.{entry_of, is_entry}
use Rattle.read_flow.proofs.line.all_entries.Given as goal

abbrev pub invariant-loop-c : goal.invariant-loop-c
invariant-loop-c l = (l.columns ≤ 16) × ((i : ℕ) → i < l.c → is_entry (entry_of l.n (field_at l.l (i + 1))) ≡ true)
