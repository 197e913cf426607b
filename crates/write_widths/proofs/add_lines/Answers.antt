-- `write_widths::add_lines` meets its contract. The loop's invariant: the lines of the widths so far are added.
use Rattle.write_parts.specs.Parts.{added_all}
use Rattle.write_parts.proofs.Adding.{Lent, all_none, all_then}
use Rattle.write_widths.proofs.Lines.{lines_none, lines_more}
use mathlib.Core.List.{List}
use Prim.Native.Nat.{ℕ}
use mathlib.Core.Path.{sym, ap, ◌∙◌}
use lib.ListN.{take}
use Rattle.write_widths.proofs.add_lines.Goals as goal

pub loop-width-init : goal.loop-width-init
loop-width-init c =
    let a = c.args in
    let at : Lent = (a.part, a.out.now) in
    sym (ap (λ (ls : List (List ℕ)). added_all ls at) (lines_none a.fs.now (take a.first a.fs.now) a.bits.now) ∙ all_none at)

pub loop-width-preserved : goal.loop-width-preserved
loop-width-preserved c =
    let a = c.args in
    all_then _ _ _ _ _ c.loop-width.invariant c.add_width-to.ensures
    ∙ ap (λ (ls : List (List ℕ)). added_all ls (a.part, a.out.now)) (sym (lines_more a.fs.now (take a.first a.fs.now) a.bits.now c.loop-width.width))
