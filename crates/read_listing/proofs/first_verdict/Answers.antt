-- `read_listing::first_verdict` meets its contract: too many bytes, or any machine may be meant, or the first line decides.
use mathlib.Core.Path.{sym, ap, ◌∙◌}
use Rattle.read_listing.proofs.Small.{first-long, first_any, first_small}
use Rattle.std.specs.Prelude.{Err}
use Rattle.read_listing.proofs.first_verdict.Goals as goal

pub returns-then-s-gt-MOST_BYTES : goal.returns-then-s-gt-MOST_BYTES
returns-then-s-gt-MOST_BYTES c = ap Err c.at.ensures ∙ first-long _ _ c.if-s-gt-MOST_BYTES.true

pub returns-then-not-small : goal.returns-then-not-small
returns-then-not-small c = first_any _ _ c.if-s-gt-MOST_BYTES.false (c.if-not-small.true)

pub returns-then-begins_large : goal.returns-then-begins_large
returns-then-begins_large c = ap Err c.at-then-begins_large.ensures ∙ first_small _ _ c.if-s-gt-MOST_BYTES.false (c.if-not-small.false) (sym c.begins_large.ensures ∙ c.if-begins_large.true)

pub returns : goal.returns
returns c = first_small _ _ c.if-s-gt-MOST_BYTES.false (c.if-not-small.false) (sym c.begins_large.ensures ∙ c.if-begins_large.false)
