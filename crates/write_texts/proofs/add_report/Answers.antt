-- `write_texts::add_report` meets its contract: the families drawn are the listing's.
use mathlib.Core.Path.{ap, ◌∙◌}
use mathlib.Core.List.{List}
use Prim.Native.Nat.{ℕ}
use Rattle.code_drawing.proofs.Growing.{drew-words}
use Rattle.write_parts.specs.Parts.{added_all}
use Rattle.write_report.specs.Report.{encoded_lines}
use Rattle.write_texts.specs.Texts.{text_lines}
use Rattle.write_texts.proofs.add_report.Goals as goal

pub returns : goal.returns
unfolding text_lines
returns c =
    let a = c.args in
    c.add_report.ensures
    ∙ ap (λ (fs : List ℕ). added_all (encoded_lines a.t.head.states fs a.e) (a.part, a.out.now)) (drew-words c.draw_all-words.ensures)
