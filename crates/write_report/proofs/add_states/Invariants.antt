-- `write_report::add_states` meets its contract. The loop's invariant: what is added is the lines of the first i states.
use mathlib.Core.Path.{◌≡◌}
use Rattle.write_parts.specs.Parts.{added_all}
use Rattle.write_parts.proofs.Adding.{Lent}
use Rattle.write_report.specs.Report.{state_lines}
use Rattle.write_report.proofs.add_states.Given as goal

abbrev pub invariant-loop-i : goal.invariant-loop-i
invariant-loop-i l = ◌≡◌ {A = Lent} (l.to, l.out) (added_all (state_lines l.bits l.i) (l.initial.to, l.initial.out))
