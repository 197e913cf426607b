-- `host_replies::say_whole` meets its contract: the text is said whole, or 10.
use Rattle.std.specs.Prelude.{Err}
use mathlib.Core.Path.{refl, sym, ap, ◌∙◌}
use Rattle.rules.specs.declared.Refused.{Refused}
use Rattle.write_parts.specs.Parts.{added_all}
use Rattle.write_parts.specs.declared.Part.{Part}
use Rattle.write_texts.specs.Texts.{text_lines}
use Rattle.write_texts.proofs.Lines.{text-pieces}
use Rattle.host_replies.proofs.Told.{no-space, whole-said}
use Rattle.host_replies.proofs.say_whole.Goals as goal

pub returns-then-is_longer : goal.returns-then-is_longer
returns-then-is_longer c =
    let a = c.args in
    ap (λ (why : Refused). (Err why, a.out.now)) c.at.ensures
    ∙ no-space (text_lines a.coded.text a.t a.coded.encoding) (text-pieces a.coded.text a.t a.coded.encoding) refl a.out.now (sym c.is_longer.ensures ∙ c.if-is_longer.true)

pub returns : goal.returns
returns c =
    let a = c.args in
    let lines = text_lines a.coded.text a.t a.coded.encoding in
    whole-said lines (text-pieces a.coded.text a.t a.coded.encoding) refl a.out.now (sym c.is_longer.ensures ∙ c.if-is_longer.false) _
    (c.add_lines-written.ensures ∙ ap (λ (p : Part). added_all lines (p, a.out.now)) c.begin.ensures)
