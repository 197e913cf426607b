-- `judge_search::backing::is_clashing` meets its contract: the rows are asked one after the other.
use Rattle.std.proofs.Common.{rules, tests}
use Rattle.std.proofs.lemmas.Iterator.{YieldsList-from_range}
use Rattle.std.proofs.lemmas.Iterator.Search.{any_from_yields_List}
use mathlib.Core.Path.{refl, ◌∙◌}
use Prim.Native.Nat.{◌-◌}
use Rattle.judge_search.specs.Backing.{clash, clashes}
use Rattle.judge_search.proofs.Backed.{any-is}
use Rattle.judge_search.proofs.backing.is_clashing.Goals as goal

pub returns : goal.returns
unfolding clashes
returns c =
    let a = c.args in
    any_from_yields_List (clash a.fires.now a.says.now a.inputs a.x) _ _ _ c.any.ensures.ran (YieldsList-from_range 0 192 (192 - 0) refl refl) (λ x b q k. search (rules, tests))
    ∙ any-is (clash a.fires.now a.says.now a.inputs a.x) 0 (192 - 0)
