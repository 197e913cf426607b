-- `host_replay::is_longer` meets its contract: no replay is longer than the room that is always enough, and else it is measured.
use mathlib.Core.Path.{sym, ap, ◌∙◌}
use native.Mathlib.Omega.{arith}
use borrow.Author.Tests.{le-ltb}
use lib.ListN.{length}
use Rattle.rules.specs.Report.{joined_lines}
use Rattle.write_parts.proofs.Adding.{Lent}
use Rattle.write_parts.proofs.Parted.{measured}
use Rattle.run_replay.specs.Places.{course_of}
use Rattle.run_replay.specs.declared.Place.{Place}
use Rattle.host_replay.proofs.Replies.{course-few, course-pieces}
use Rattle.host_replay.proofs.is_longer.Goals as goal

pub returns-then-len-ge-ROOM : goal.returns-then-len-ge-ROOM
returns-then-len-ge-ROOM c =
    let a = c.args in
    sym (le-ltb a.len (length (joined_lines (course_of a.m.now Place.First a.run.now).0)) (omega (arith, course-few a.m.now a.run.now, c.if-len-ge-ROOM.true)))

pub returns : goal.returns
returns c =
    let a = c.args in
    ap (λ (s : Lent). s.0.full) c.print_from-measured.ensures
    ∙ measured (course_of a.m.now Place.First a.run.now).0 (course-pieces a.m.now Place.First a.run.now) a.len
