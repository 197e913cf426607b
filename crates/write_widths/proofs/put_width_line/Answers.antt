-- `write_widths::put_width_line` meets its contract.
use mathlib.Core.List.{◌++◌, [], ◌∷◌}
use mathlib.Core.Path.{◌≡◌, refl, ap, ◌∙◌}
use mathlib.Core.Bool.{Bool, true, false}
use Prim.Native.Nat.{ℕ}
use mir.Val.{bool_byte}
use Rattle.rules.specs.Text.{digit, lf, decimal}
use Rattle.write_pen.proofs.Laws.{wrote_then, wrote_as}
use Rattle.write_widths.proofs.Lines.{width-fields}
use Rattle.write_widths.proofs.put_width_line.Goals as goal

as_digit : (b : Bool) → bool_byte b ≡ digit b
as_digit true = refl
as_digit false = refl

pub returns : goal.returns
returns c =
    let a = c.args in
    let says = ap (λ (n : ℕ). decimal n ++ (lf ∷ [])) (c.from.ensures ∙ as_digit a.covered) in
    wrote_as (wrote_then c.put_bytes-p.ensures (wrote_then c.put_field-q.ensures (wrote_then c.put_field-r.ensures (wrote_as c.put_field.ensures says)))) (width-fields a.width a.unmet a.covered)
