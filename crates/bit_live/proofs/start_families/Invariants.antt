-- `bit_live::start_families` meets its contract.
use Rattle.std.proofs.Common.{◌≡◌, ◌*◌, drop}
use Rattle.families.specs.Families.{requirements_in}
use Rattle.bit_live.proofs.start_families.Given as goal

abbrev pub invariant-loop-all : goal.invariant-loop-all
invariant-loop-all l =
    requirements_in (drop (3 * l.all-index) l.fs) ≡ requirements_in l.fs
