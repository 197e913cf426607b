-- `judge_search::backing::has_unbacked` meets its contract: the rows are asked one after the other.
use Rattle.std.proofs.Common.{rules, tests}
use Rattle.std.proofs.lemmas.Iterator.{YieldsList-from_range}
use Rattle.std.proofs.lemmas.Iterator.Search.{any_from_yields_List}
use mathlib.Core.Path.{refl, ◌∙◌}
use Prim.Native.Nat.{◌-◌}
use Rattle.judge_search.specs.Backing.{any_unbacked, unbacked}
use Rattle.judge_search.proofs.Backed.{any-is}
use Rattle.judge_search.proofs.backing.has_unbacked.Goals as goal

pub returns : goal.returns
unfolding any_unbacked
returns c =
    let a = c.args in
    any_from_yields_List (unbacked a.fires.now a.says.now a.of.number a.by) _ _ _ c.any.ensures.ran (YieldsList-from_range a.of.from a.of.to (a.of.to - a.of.from) refl refl) (λ x b q k. search (rules, tests))
    ∙ any-is (unbacked a.fires.now a.says.now a.of.number a.by) a.of.from (a.of.to - a.of.from)
