-- The vector of an `IN` line: its field in order, or not.
use Rattle.read_fields.proofs.Sets.{ones-sized}

pub ruleset vectors = (ones-sized)
