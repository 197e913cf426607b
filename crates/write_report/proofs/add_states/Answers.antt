-- `write_report::add_states` meets its contract. The loop's invariant: what is added is the lines of the first i states.
use mathlib.Core.Path.{sym, ap, ◌∙◌}
use mathlib.Core.List.{List}
use Prim.Native.Nat.{ℕ}
use Rattle.write_parts.specs.Parts.{added_all}
use Rattle.write_parts.proofs.Adding.{all_none, all_then}
use Rattle.write_report.specs.Report.{state_lines}
use Rattle.write_report.proofs.Lines.{states-none, states-more}
use Rattle.write_report.proofs.add_states.Goals as goal

pub loop-i-init : goal.loop-i-init
loop-i-init c =
    let a = c.args in
    sym (ap (λ (ls : List (List ℕ)). added_all ls (a.part, a.out.now)) (states-none a.bits.now) ∙ all_none (a.part, a.out.now))

pub loop-i-preserved : goal.loop-i-preserved
loop-i-preserved c =
    let a = c.args in
    all_then (state_lines a.bits.now c.loop-i.i) _ (a.part, a.out.now) (c.loop-i.to, c.loop-i.out) _ c.loop-i.invariant c.add_state-to.ensures
    ∙ ap (λ (ls : List (List ℕ)). added_all ls (a.part, a.out.now)) (sym (states-more a.bits.now c.loop-i.i))
