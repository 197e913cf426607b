-- `code_drawing::counted` meets its contract: those that are counted and have places.
use Rattle.std.proofs.Common.{ap, ◌∙◌, take}
use Rattle.std.proofs.lemmas.List.{take_min}
use Rattle.code_drawing.proofs.counted.Goals as goal

pub returns : goal.returns
returns g c =
    ap (λ k. take k c.args.table.now) c.min.ensures ∙ take_min c.args.count c.args.table.now
