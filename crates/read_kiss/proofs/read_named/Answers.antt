-- `read_kiss::read_named` meets its contract: too long, or what the lines say.
use mathlib.Core.Path.{sym, ap, ◌∙◌}
use Rattle.std.proofs.lemmas.Result.{err_from_is_err_and}
use Rattle.read_kiss.specs.Walks.{verdict_of}
use Rattle.read_kiss.proofs.Endings.{too_long, short}
use Rattle.read_kiss.proofs.Walked.{walk-refused, walk-made, walk-names}
use Rattle.rules.specs.Listing.{Reading}
use Rattle.std.specs.Prelude.{Err}
use Rattle.read_kiss.proofs.read_named.Goals as goal

pub returns-then-bytes-gt-MOST_BYTES : goal.returns-then-bytes-gt-MOST_BYTES
returns-then-bytes-gt-MOST_BYTES c = record { verdict = ap Err c.from.ensures ∙ sym (ap (λ (r : Reading). verdict_of r) (too_long _ c.if-bytes-gt-MOST_BYTES.true)); names = tt }

pub returns-in_err-read_lines : goal.returns-in_err-read_lines
returns-in_err-read_lines c =
    let p = err_from_is_err_and c.from_residual.result c.from_residual.ensures.1 in
    rw (p.1, p.2) (record { verdict = ap (λ (r : Reading). verdict_of r) (walk-refused _ c.in_err-read_lines.ensures ∙ sym (short _ c.if-bytes-gt-MOST_BYTES.false)); names = tt })

pub read_lines-requires : goal.read_lines-requires
read_lines-requires c = c.no_draft-d.ensures

pub made_of-requires : goal.made_of-requires
made_of-requires c = c.in_ok-read_lines.ensures.few

pub returns-in_err-made_of : goal.returns-in_err-made_of
returns-in_err-made_of c =
    let p = err_from_is_err_and c.from_residual-in_err-made_of.result c.from_residual-in_err-made_of.ensures.1 in
    rw (p.1, p.2)
    (record {
      verdict = ap (λ (r : Reading). verdict_of r) (c.in_err-made_of.ensures ∙ walk-made _ _ c.in_ok-read_lines.ensures ∙ sym (short _ c.if-bytes-gt-MOST_BYTES.false));
      names = tt;
    })

pub returns : goal.returns
returns c =
    record {
      verdict = ap (λ (r : Reading). verdict_of r) (c.in_ok-made_of.ensures ∙ walk-made _ _ c.in_ok-read_lines.ensures ∙ sym (short _ c.if-bytes-gt-MOST_BYTES.false));
      names = walk-names _ _ c.in_ok-read_lines.ensures;
    }
