-- `asks::with_pairs` meets its contract: what is gathered, with each two of the sets from i on, is what is gathered with each two of them all.
use mathlib.Core.Path.{sym, ap, ◌∙◌}
use mathlib.Core.List.{map, List}
use Prim.Native.Nat.{ℕ, ◌+◌}
use native.Mathlib.Omega.{arith}
use lib.ListN.{drop, get_or}
use Rattle.rules.specs.FlowTable.{set_pairs}
use Rattle.read_pieces.proofs.Places.{rest_all}
use Rattle.read_flow.specs.declared.asks.Gathered.{Gathered}
use Rattle.read_flow.specs.Gathering.{between, with_all}
use Rattle.read_flow.proofs.Gathered.{pairs_next, pairs_end}
use Rattle.read_flow.proofs.asks.with_pairs.Goals as goal

pub loop-i-preserved : goal.loop-i-preserved
loop-i-preserved c =
    let l = c.loop-i in
    let a = c.args in
    let s = a.sets.now in
    let got = c.with_others-more.ensures ∙ ap (λ (x : List ℕ). with_all (map (between (get_or s l.i 0)) x) l.more) (rest_all s (l.i + 1)) in
    ap (λ (g : Gathered). with_all (set_pairs (drop (l.i + 1) s)) g) got ∙ sym (pairs_next s l.i l.more (omega arith)) ∙ l.invariant

pub returns : goal.returns
returns c =
    let l = c.loop-i in
    sym (pairs_end _ l.i l.more (omega arith)) ∙ l.invariant
