-- `write_widths::add_lines` meets its contract. The loop's invariant: the lines of the widths so far are added.
use Rattle.write_parts.specs.Parts.{added_all}
use Rattle.write_parts.proofs.Adding.{Lent}
use Rattle.write_widths.specs.Widths.{lines_to}
use mathlib.Core.Path.{◌≡◌}
use lib.ListN.{take}
use Rattle.write_widths.proofs.add_lines.Given as goal

abbrev pub invariant-loop-width : goal.invariant-loop-width
invariant-loop-width l =
    ◌≡◌ {A = Lent} (l.to, l.out) (added_all (lines_to l.fs (take l.first l.fs) l.bits l.width) (l.initial.to, l.initial.out))
