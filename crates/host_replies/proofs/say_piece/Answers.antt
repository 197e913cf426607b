-- `host_replies::say_piece` meets its contract: 10 where nothing is given and something is left, or the piece.
use mathlib.Core.Path.{◌≡◌, refl, ap, ◌∙◌}
use Rattle.write_parts.specs.Parts.{begun, added_all}
use Rattle.write_parts.specs.declared.Part.{Part}
use Rattle.write_parts.proofs.Adding.{Lent}
use Rattle.write_texts.specs.Texts.{text_lines}
use Rattle.write_texts.proofs.Lines.{text-pieces}
use Rattle.host_replies.proofs.Told.{part-waits, part-said}
use Rattle.host_replies.proofs.say_piece.Goals.{After-add_lines-written, else-written-eq0-via-then-written-eq0+else-written, else-written-eq0-via-else-written-eq0}
use Rattle.rules.specs.declared.Refused.{Refused}
use Rattle.std.specs.Prelude.{Err}
use Rattle.host_replies.proofs.say_piece.Goals as goal

-- the lines were added to a part that begins at the byte asked for
added-from : (c : After-add_lines-written) → let a = c.args in
    ◌≡◌ {A = Lent} (c.add_lines-written.result, c.add_lines-written.new.out) (added_all (text_lines a.coded.text a.t a.coded.encoding) (begun a.from, a.out.now))
added-from c =
    let a = c.args in
    c.add_lines-written.ensures ∙ ap (λ (p : Part). added_all (text_lines a.coded.text a.t a.coded.encoding) (p, a.out.now)) c.begin.ensures

pub returns-then-written : goal.returns-then-written
returns-then-written c =
    let a = c.args in
    let lines = text_lines a.coded.text a.t a.coded.encoding in
    ap (λ (why : Refused). (Err why, c.add_lines-written.new.out)) c.at.ensures
    ∙ part-waits lines (text-pieces a.coded.text a.t a.coded.encoding) refl a.out.now a.from _ (added-from (goal.at.returns-then-written c).After-add_lines-written) c.if-written-eq0.true c.if-written.true

pub returns : goal.returns
returns c =
    let a = c.args in
    let lines = text_lines a.coded.text a.t a.coded.encoding in
    part-said lines (text-pieces a.coded.text a.t a.coded.encoding) refl a.out.now a.from _ (added-from (goal.at.returns c).After-add_lines-written)
    (elim c.else-written-eq0.branch [
      | else-written-eq0-via-then-written-eq0+else-written w ↦ λ z. w.if-written.false
      | else-written-eq0-via-else-written-eq0 w ↦ λ z. absurd (w.if-written-eq0.false z)
    ])
