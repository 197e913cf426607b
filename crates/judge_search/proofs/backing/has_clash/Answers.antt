-- `judge_search::backing::has_clash` meets its contract: the rows are asked one after the other.
use Rattle.std.proofs.Common.{rules, tests}
use Rattle.std.proofs.lemmas.Iterator.{YieldsList-from_range}
use Rattle.std.proofs.lemmas.Iterator.Search.{any_from_yields_List}
use mathlib.Core.Path.{refl, ◌∙◌}
use Prim.Native.Nat.{◌-◌}
use Rattle.judge_search.specs.Backing.{any_clash, clashes}
use Rattle.judge_search.proofs.Backed.{any-is}
use Rattle.judge_search.proofs.backing.has_clash.Goals as goal

pub returns : goal.returns
unfolding any_clash
returns c =
    let a = c.args in
    any_from_yields_List (clashes a.fires.now a.says.now a.inputs) _ _ _ c.any.ensures.ran (YieldsList-from_range 192 448 (448 - 192) refl refl) (λ x b q k. search (rules, tests))
    ∙ any-is (clashes a.fires.now a.says.now a.inputs) 192 (448 - 192)
