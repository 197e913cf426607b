-- The outputs' field of an `OU` line, in order or not.
use Rattle.read_fields.proofs.Sets.{pattern-sized}

pub ruleset fits = (pattern-sized)
