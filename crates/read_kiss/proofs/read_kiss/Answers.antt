-- `read_kiss::read_kiss` meets its contract: too long, or what the lines say.
use mathlib.Core.Path.{sym, ap, ◌∙◌}
use Rattle.std.proofs.lemmas.Result.{err_from_is_err_and}
use Rattle.read_kiss.proofs.Endings.{too_long, short}
use Rattle.read_kiss.proofs.Walked.{walk-refused, walk-made}
use Rattle.std.specs.Prelude.{Err}
use Rattle.read_kiss.proofs.read_kiss.Goals as goal

pub returns-then-bytes-gt-MOST_BYTES : goal.returns-then-bytes-gt-MOST_BYTES
returns-then-bytes-gt-MOST_BYTES c = ap Err c.at.ensures ∙ sym (too_long _ c.if-bytes-gt-MOST_BYTES.true)

pub returns-in_err-read_lines : goal.returns-in_err-read_lines
returns-in_err-read_lines c =
    let p = err_from_is_err_and c.from_residual.result c.from_residual.ensures.1 in
    rw (p.1, p.2) (walk-refused _ c.in_err-read_lines.ensures ∙ sym (short _ c.if-bytes-gt-MOST_BYTES.false))

pub read_lines-requires : goal.read_lines-requires
read_lines-requires c = c.no_draft-d.ensures

pub made_of-requires : goal.made_of-requires
made_of-requires c = c.in_ok-read_lines.ensures.few

pub returns : goal.returns
returns c = c.made_of.ensures ∙ walk-made _ _ c.in_ok-read_lines.ensures ∙ sym (short _ c.if-bytes-gt-MOST_BYTES.false)
