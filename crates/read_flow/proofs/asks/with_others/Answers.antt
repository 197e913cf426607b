-- `asks::with_others` meets its contract: what is gathered, with the sets from i on, is what is gathered with all of them.
use mathlib.Core.Path.{sym, ap, ◌∙◌}
use mathlib.Core.List.{map}
use Prim.Native.Nat.{◌+◌}
use native.Mathlib.Omega.{arith}
use lib.ListN.{drop}
use Rattle.read_flow.specs.declared.asks.Gathered.{Gathered}
use Rattle.read_flow.specs.Gathering.{between, with_all}
use Rattle.read_flow.proofs.Gathered.{others-next, others-end}
use Rattle.read_flow.proofs.asks.with_others.Goals as goal

pub loop-other-preserved : goal.loop-other-preserved
loop-other-preserved c =
    let l = c.loop-other in
    let a = c.args in
    ap (λ (g : Gathered). with_all (map (between a.first) (drop (l.other-index + 1) a.others.now)) g) c.with_asked-more.ensures
    ∙ sym (others-next a.first a.others.now l.other-index l.more (omega arith)) ∙ l.invariant

pub returns : goal.returns
returns c =
    let l = c.loop-other in
    sym (others-end _ _ l.other-index l.more (omega arith)) ∙ l.invariant
