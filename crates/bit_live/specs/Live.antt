-- The live requirements, as an encoder has them: the pairs by the bits built so far, and the rest as a list of families.
use Rattle.std.specs.Prelude.{ℕ, List, ◌++◌}
use Rattle.rules.specs.declared.Requirement.{Requirement}
use Rattle.families.specs.Families.{requirements_in}
use Rattle.move_pairs.specs.Pairs.{live_pairs}

-- in the order of their numbers
abbrev pub live_in : ℕ → List ℕ → List ℕ → List Requirement
live_in n bits fs = live_pairs n bits ++ requirements_in fs
