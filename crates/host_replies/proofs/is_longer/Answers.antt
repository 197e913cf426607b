-- `host_replies::is_longer` meets its contract: no text is longer than the room that is always enough, and else it is measured.
use mathlib.Core.Path.{ap, ◌∙◌}
use mathlib.Core.List.{[]}
use Rattle.write_parts.specs.Parts.{added_all}
use Rattle.write_parts.specs.declared.Part.{Part}
use Rattle.write_parts.proofs.Adding.{Lent}
use Rattle.write_parts.proofs.Parted.{measured}
use Rattle.write_texts.specs.Texts.{text_lines}
use Rattle.write_texts.proofs.Lines.{text-pieces}
use Rattle.host_replies.proofs.is_longer.Goals as goal

pub returns : goal.returns
returns c =
    let a = c.args in
    ap (λ (s : Lent). s.0.full) c.add_lines-measured.ensures
    ∙ ap (λ (p : Part). (added_all (text_lines a.coded.text a.t a.coded.encoding) (p, [])).0.full) c.begin.ensures
    ∙ measured (text_lines a.coded.text a.t a.coded.encoding) (text-pieces a.coded.text a.t a.coded.encoding) a.len
