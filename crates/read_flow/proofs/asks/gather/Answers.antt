-- `asks::gather` meets its contract: what is gathered, with the columns from c on, is what all columns give.
use mathlib.Core.Path.{sym, ap, ◌∙◌}
use mathlib.Core.List.{List}
use Prim.Native.Nat.{ℕ, ◌-◌, ◌+◌}
use native.Mathlib.Omega.{arith}
use Rattle.rules.specs.FlowTable.{set_pairs, sets_of, flow_asks}
use Rattle.read_flow.specs.declared.asks.Gathered.{Gathered}
use Rattle.read_flow.specs.Gathering.{with_all}
use Rattle.read_flow.specs.Table.{column_in, columns_from}
use Rattle.read_flow.proofs.Tables.{columns-next, columns-end, column-part}
use Rattle.read_flow.proofs.Gathered.{columns-one, columns-none}
use Rattle.read_flow.proofs.asks.gather.Goals as goal

pub loop-c-preserved : goal.loop-c-preserved
loop-c-preserved c =
    let l = c.loop-c in
    let a = c.args in
    let t = a.table.now in
    let rest = columns_from t a.n (l.c + 1) (a.columns - (l.c + 1)) in
    let got = c.with_column-more.ensures ∙ ap (λ (x : List ℕ). with_all (set_pairs (sets_of x)) l.more) (column-part t a.n l.c) in
    ap (λ (g : Gathered). with_all (flow_asks rest) g) got
    ∙ sym (ap (λ (x : List (List ℕ)). with_all (flow_asks x) l.more) (columns-next t a.n l.c a.columns (omega arith)) ∙ columns-one (column_in t a.n l.c) rest l.more) ∙ l.invariant

pub returns : goal.returns
returns c =
    let l = c.loop-c in
    let a = c.args in
    sym (ap (λ (x : List (List ℕ)). with_all (flow_asks x) l.more) (columns-end a.table.now a.n l.c a.columns (omega arith)) ∙ columns-none l.more) ∙ l.invariant
