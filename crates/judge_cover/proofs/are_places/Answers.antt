-- `judge_cover::are_places` meets its contract: character by character.
use Rattle.std.proofs.Common.{rules, tests}
use Rattle.std.proofs.lemmas.Iterator.{YieldsList-from_slice}
use Rattle.std.proofs.lemmas.Iterator.Search.{all_from_yields_List}
use mathlib.Core.Bool.{◌||◌}
use mathlib.Core.Path.{◌∙◌}
use lib.Dec.{eqb}
use Rattle.rules.specs.Text.{nought, one, dash}
use Rattle.judge_cover.proofs.Laws.{all-is}
use Rattle.judge_cover.proofs.are_places.Goals as goal

pub returns : goal.returns
returns c =
    all_from_yields_List (λ x. eqb x nought || (eqb x one || eqb x dash)) _ _ _ c.all.ensures.ran (YieldsList-from_slice c.args.f.now cc) (λ x b q k. search (rules, tests)) ∙ all-is c.args.f.now
