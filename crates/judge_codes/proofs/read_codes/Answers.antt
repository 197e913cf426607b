-- `judge_codes::read_codes` meets its contract: the codes from here on are the codes from the start.
use mathlib.Core.Path.{◌≡◌, ap, ◌∙◌}
use Prim.Native.Nat.{ℕ, ◌+◌, ◌-◌}
use native.Mathlib.Omega.{arith}
use lib.ListN.{drop, set, length-drop}
use Rattle.rules.specs.Text.{lf, lines_of}
use Rattle.rules.specs.CheckTexts.{codes_from}
use Rattle.read_pieces.proofs.Laws.{cut_of}
use Rattle.judge_codes.proofs.Laws.{said-good, said-bad, line-missing, line-bad, line-good, over-more, over_none, first-codes}
use Rattle.rules.specs.Refusals.{refused}
use Rattle.std.specs.Prelude.{Err}
use Rattle.judge_codes.proofs.read_codes.Goals as goal
use Rattle.rules.specs.declared.Refusal.TheVariants.{BadLine}

pub slice_bounds-width_in-end : goal.slice_bounds-width_in-end
slice_bounds-width_in-end c =
    omega (arith, (cut_of lf _ 0 (omega arith) c.cut-first.ensures).to)

pub loop-s-init : goal.loop-s-init
loop-s-init c =
    (omega arith, first-codes _ _ c.least-n.ensures (cut_of lf _ 0 (omega arith) c.cut-first.ensures) c.width_in-width.ensures)

pub returns-then-text-end : goal.returns-then-text-end
returns-then-text-end c =
    let a = c.args in
    ap Err c.at.ensures ∙ line-missing _ _ _ (cut_of lf a.text.now c.loop-s.at c.loop-s.invariant.0 c.cut-end.ensures) c.loop-s.s _ _ c.loop-s-test.true c.if-text-end.true ∙ c.loop-s.invariant.1

pub slice_bounds-code_line-count : goal.slice_bounds-code_line-count
slice_bounds-code_line-count c =
    omega (arith, (cut_of lf _ c.loop-s.at c.loop-s.invariant.0 c.cut-end.ensures).from)

pub slice_bounds-code_line-start : goal.slice_bounds-code_line-start
slice_bounds-code_line-start c =
    omega (arith, (cut_of lf _ c.loop-s.at c.loop-s.invariant.0 c.cut-end.ensures).from)

pub returns-in_default : goal.returns-in_default
returns-in_default c =
    let a = c.args in
    ap Err c.at-in_default.ensures ∙ line-bad _ _ _ (cut_of lf a.text.now c.loop-s.at c.loop-s.invariant.0 c.cut-end.ensures) c.loop-s.s _ _ c.loop-s-test.true (omega (arith, c.if-text-end.false)) (said-bad _ _ _ c.code_line.ensures c.in_default.is) ∙ c.loop-s.invariant.1

pub loop-s-preserved : goal.loop-s-preserved
loop-s-preserved c =
    let a = c.args in
    let good = said-good _ _ _ c.code_line.ensures c.in-Some.is in (
      omega (arith, c.if-text-end.false),
      ap (λ (m : ℕ). codes_from (c.loop-s.s + 1) (c.least-n.result - (c.loop-s.s + 1)) (record { width = c.width_in-width.result; table = set c.loop-s.table c.loop-s.s m }) (lines_of (drop (c.cut-end.result + 1) a.text.now))) good.1
          ∙ line-good _ _ _ (cut_of lf a.text.now c.loop-s.at c.loop-s.invariant.0 c.cut-end.ensures) c.loop-s.s _ _ c.loop-s-test.true (omega (arith, c.if-text-end.false)) good.0 ∙ c.loop-s.invariant.1,
    )

pub returns-then-at-text : goal.returns-then-at-text
returns-then-at-text c =
    let a = c.args in
    let end : c.least-n.result ≡ c.loop-s.s = omega (arith, c.loop-s-test.false) in
    ap Err c.at-then-at-text.ensures
    ∙ ap (λ (s : ℕ). refused BadLine (s + 1)) end
    ∙ over-more a.text.now c.loop-s.at c.loop-s.s _ _ (omega (arith, c.loop-s-test.false)) (λ z. omega (arith, length-drop c.loop-s.at a.text.now, c.if-at-text.true)) ∙ c.loop-s.invariant.1

pub returns : goal.returns
returns c =
    let a = c.args in
    over_none a.text.now c.loop-s.at c.loop-s.s _ _ (omega (arith, c.loop-s-test.false)) (omega (arith, length-drop c.loop-s.at a.text.now, c.if-at-text.false)) ∙ c.loop-s.invariant.1
