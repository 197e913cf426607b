-- `code_encoding::no_code` meets its contract.
use Rattle.code_encoding.specs.Encode.{no_code}
use mathlib.Core.Path.{refl}
use Rattle.code_encoding.proofs.no_code.Goals as goal

pub returns : goal.returns
unfolding no_code
returns c = refl
