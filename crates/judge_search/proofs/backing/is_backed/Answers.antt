-- `judge_search::backing::is_backed` meets its contract: the rows are asked one after the other.
use Rattle.std.proofs.Common.{rules, tests}
use Rattle.std.proofs.lemmas.Iterator.{YieldsList-from_range}
use Rattle.std.proofs.lemmas.Iterator.Search.{any_from_yields_List}
use mathlib.Core.Path.{refl, ◌∙◌}
use Prim.Native.Nat.{◌-◌}
use Rattle.judge_search.specs.Backing.{backed, backed_by}
use Rattle.judge_search.proofs.Backed.{any-is}
use Rattle.judge_search.proofs.backing.is_backed.Goals as goal

pub returns : goal.returns
unfolding backed
returns c =
    let a = c.args in
    any_from_yields_List (backed_by a.fires.now a.says.now a.f a.by.number a.x) _ _ _ c.any.ensures.ran (YieldsList-from_range a.by.from a.by.to (a.by.to - a.by.from) refl refl) (λ x b q k. search (rules, tests))
    ∙ any-is (backed_by a.fires.now a.says.now a.f a.by.number a.x) a.by.from (a.by.to - a.by.from)
