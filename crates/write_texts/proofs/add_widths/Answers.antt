-- `write_texts::add_widths` meets its contract: the families drawn are the listing's, and those of the pairs and the groups are counted first.
use mathlib.Core.Path.{ap₂, ◌∙◌}
use mathlib.Core.List.{List}
use Prim.Native.Nat.{ℕ}
use Rattle.code_drawing.proofs.Growing.{drew-words}
use Rattle.write_parts.specs.Parts.{added_all}
use Rattle.write_widths.specs.Widths.{encoded_lines}
use Rattle.write_texts.specs.Texts.{text_lines}
use Rattle.write_texts.proofs.add_widths.Goals as goal

pub returns : goal.returns
unfolding text_lines
returns c =
    let a = c.args in
    c.add_widths.ensures
    ∙ ap₂ (λ (fs : List ℕ) (k : ℕ). added_all (encoded_lines fs k a.e) (a.part, a.out.now)) (drew-words c.draw_all-words.ensures) c.draw_first-first.ensures.count
