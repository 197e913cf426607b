-- `host_names::say_whole` meets its contract: 10 where the measured text is longer than the buffer, or the text.
use mathlib.Core.Path.{ap, ◌∙◌}
use Rattle.std.specs.Prelude.{Err}
use Rattle.rules.specs.NamesText.{names_text}
use Rattle.rules.specs.declared.Refused.{Refused}
use Rattle.read_names.specs.Names.{names_in}
use Rattle.host_names.proofs.Named.{no-space, whole-said}
use Rattle.host_names.proofs.say_whole.Goals as goal

pub returns-then-out-length : goal.returns-then-out-length
returns-then-out-length c =
    let a = c.args in
    ap (λ (why : Refused). (Err why, a.out.now)) c.at.ensures
    ∙ no-space (names_text (names_in a.bytes.now a.names)) c.requires c.put_names-length.ensures a.out.now c.if-out-length.true

pub returns : goal.returns
returns c =
    whole-said (names_text (names_in c.args.bytes.now c.args.names)) c.requires c.put_names-length.ensures c.args.out.now c.if-out-length.false c.put_names.ensures
