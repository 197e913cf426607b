-- `judge_search::search_state` meets its contract.
use mathlib.Core.Path.{◌∙◌}
use native.Mathlib.Omega.{arith}
use Rattle.judge_search.specs.Search.{gathered_from}
use Rattle.judge_search.proofs.Sure.{finds}
use Rattle.judge_search.proofs.States.{inputs-small, columns-long}
use Rattle.judge_search.proofs.search_state.Goals as goal

pub sure_of-sure-requires : goal.sure_of-sure-requires
sure_of-sure-requires c =
    omega (arith, columns-long _ c.requires.1, c.requires.2)

pub search-requires : goal.search-requires
search-requires c =
    (c.requires.0, omega (arith, columns-long _ c.requires.1, c.requires.2), inputs-small c.args.inputs c.requires.2)

pub returns : goal.returns
unfolding gathered_from
returns c =
    c.search.ensures ∙ finds c.args.fires.now c.args.says.now c.args.inputs c.args.s c.requires.2 c.requires.1 c.present_in-rows.ensures c.sure_of-sure.ensures c.turn.ensures c.gather-listing.ensures c.gather-cover.ensures
