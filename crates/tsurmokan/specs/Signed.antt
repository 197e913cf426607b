-- What was said, as one signed number: 01's "The listing's bytes and an output buffer".
use Rattle.std.specs.Prelude.{ℕ, ◌<◌, ℤ, pos, Result, Ok, Err}
use Rattle.rules.specs.Refusals.{minus}
use Rattle.rules.specs.declared.Refused.{Refused}

unfoldable pub signed : Result ℕ Refused → ℤ
unfolding minus
signed (Ok n) = pos n
signed (Err why) = minus why.refusal why.line

-- such that the number tells it
abbrev pub Within : Result ℕ Refused → Type 0
Within (Ok n) = n < 9223372036854775808
Within (Err why) = why.line < 100000
