-- `judge_unmet::first_unmet` meets its contract: what is judged is the listing's pairs and groups, by the first bits.
use mathlib.Core.Path.{◌≡◌, ap}
use native.Mathlib.Omega.{arith}
use borrow.Author.Rules.{rules}
use lib.ListN.{length}
use Rattle.rules.specs.Limits.{most_rows}
use Rattle.code_drawing.proofs.Growing.{drew-words}
use Rattle.code_drawing.proofs.Whole.{few-first}
use Rattle.judge_unmet.proofs.first_unmet.Goals.{Start}
use Rattle.judge_unmet.proofs.first_unmet.Goals as goal

-- and those of the listing's rows
table-long : (c : Start) → length c.args.t.table ≡ most_rows
table-long c = search rules

pub first_in-requires : goal.first_in-requires
first_in-requires c =
    omega (arith, ap length (drew-words c.draw_first-words.ensures), few-first c.args.t (table-long (goal.at.first_in-requires c).Start))
