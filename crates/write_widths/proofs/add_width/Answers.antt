-- `write_widths::add_width` meets its contract: the line of that many bits.
use mathlib.Core.Bool.{not, Bool}
use mathlib.Core.Path.{ap₂, ◌∙◌}
use Rattle.rules.specs.Widths.{width_line}
use Rattle.write_parts.specs.Parts.{added}
use Rattle.write_widths.specs.Widths.{line_of}
use Prim.Native.Nat.{ℕ}
use Rattle.write_widths.proofs.add_width.Goals as goal

pub returns : goal.returns
unfolding line_of
returns c =
    let a = c.args in
    c.add_width_line.ensures
    ∙ ap₂ (λ (k : ℕ) (b : Bool). added (width_line a.width k (not b)) (a.part, a.out.now)) c.count_unmet-unmet.ensures c.is_unmet_in-open.ensures
