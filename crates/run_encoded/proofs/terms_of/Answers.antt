-- `run_encoded::terms_of` meets its contract.
use mathlib.Core.Path.{sym, ◌∙◌}
use Rattle.run_encoded.proofs.Steps.{terms-for, terms-beyond}
use Rattle.run_encoded.proofs.terms_of.Goals as goal

pub returns-then-bits-gt-MOST_BITS : goal.returns-then-bits-gt-MOST_BITS
returns-then-bits-gt-MOST_BITS c = c.no_terms.ensures ∙ sym (terms-beyond _ _ c.if-bits-gt-MOST_BITS.true)

pub returns : goal.returns
returns c = c.terms_in.ensures ∙ sym (terms-for _ _ c.if-bits-gt-MOST_BITS.false)
