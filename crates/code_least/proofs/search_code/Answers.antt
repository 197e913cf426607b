-- `code_least::search_code` meets its contract: over the masks of all columns the search finds the least code.
use mathlib.Core.Path.{◌∙◌}
use native.Mathlib.Omega.{arith}
use Rattle.families.specs.Families.{requirements_in}
use Rattle.code_least.proofs.Meeting.{table_is, told-least}
use Rattle.code_least.proofs.search_code.Goals as goal

pub returns : goal.returns
returns c =
    let rs = requirements_in c.args.fs.now in
    c.search_widths.ensures
    ∙ told-least c.args.n c.args.asked c.everyone_of-all.result rs _ c.args.code.now c.requires.0.drawn.states c.requires.0.drawn.good c.requires.0.count (omega (arith, c.requires.0.few)) c.everyone_of-all.ensures
    (table_is c.args.n rs c.columns_of-columns.result _ _ c.columns_of-columns.ensures.1 c.fill_masks.ensures c.columns_of-columns.ensures.0) c.requires.1
