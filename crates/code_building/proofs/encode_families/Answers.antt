-- `code_building::encode_families` meets its contract: what the run of bits came to is the code.
use mathlib.Core.Path.{sym, ◌∙◌}
use Rattle.code_building.proofs.Running.{few-counted}
use Rattle.code_building.proofs.Encoded.{too_wide, wide_enough}
use Rattle.code_building.proofs.encode_families.Goals as goal

pub returns-then-falls_short : goal.returns-then-falls_short
returns-then-falls_short c = c.uncoded_as.ensures ∙ too_wide c.args.n c.args.width _ _ c.most_of-most.ensures c.build_bits-c.ensures (sym c.if-falls_short.true ∙ c.falls_short.ensures)

pub returns : goal.returns
returns c = let asked = few-counted _ _ c.requires.drawn.few c.count_live-asked.ensures in
    wide_enough c.args.n c.args.width _ _ c.most_of-most.ensures c.build_bits-c.ensures _ asked (sym c.if-falls_short.false ∙ c.falls_short.ensures)
