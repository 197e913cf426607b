-- `move_up` meets its contract: so many are moved, and the rest is as it came.
use mathlib.Core.Path.{◌∙◌}
use Rattle.host_programs.proofs.Moving.{all-counted, all_moved}
use Rattle.host_programs.proofs.move_up.Goals as goal

pub returns-clause-count : goal.returns-clause-count
returns-clause-count c = all-counted c.args.from c.args.end c.args.bytes.now c.min-stop.ensures c.saturating_sub-count.ensures

pub returns-clause-bytes : goal.returns-clause-bytes
returns-clause-bytes c =
    c.copy_within.ensures.after ∙ all_moved c.args.from c.args.end c.args.bytes.now c.min-stop.ensures c.saturating_sub-count.ensures
