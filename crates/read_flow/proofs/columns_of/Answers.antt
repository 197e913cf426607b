-- `read_flow::columns_of` meets its contract.
use mathlib.Core.Path.{sym, ap, ◌∙◌}
use mathlib.Core.List.{List}
use Prim.Native.Nat.{ℕ, ◌-◌}
use native.Mathlib.Omega.{arith}
use lib.ListN.{length}
use borrow.Author.Rules.{rules}
use Rattle.rules.specs.Text.{fields_of}
use Rattle.rules.specs.FlowLines.{column_count}
use Rattle.read_pieces.proofs.Laws.{cut_of, part, piece-first, split-some}
use Rattle.read_flow.proofs.columns_of.Goals as goal

pub slice_bounds-field_count-end : goal.slice_bounds-field_count-end
slice_bounds-field_count-end c =
    let h = (cut_of _ _ 0 (omega arith) c.cut-end.ensures).to in
    search rules

pub overflow_sub-result : goal.overflow_sub-result
overflow_sub-result c = omega (arith, c.field_count.ensures, split-some 32 (part c.args.s.now 0 c.cut-end.result))

pub returns : goal.returns
unfolding column_count
returns c =
    let s = c.args.s.now in
    let r = c.cut-end.result in
    let q = cut_of 10 s 0 (omega arith) c.cut-end.ensures in
    ap (λ (x : ℕ). x - 1) c.field_count.ensures ∙ ap (λ (p : List ℕ). length (fields_of p) - 1) (sym (piece-first 10 s 0 r q))
