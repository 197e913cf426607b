-- `run_encoded::no_terms` meets its contract.
use mathlib.Core.Path.{refl}
use Rattle.run_encoded.specs.Terms.{no_terms}
use Rattle.run_encoded.proofs.no_terms.Goals as goal

pub returns : goal.returns
unfolding no_terms
returns c = refl
