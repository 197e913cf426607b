-- `move_trial::families_of` meets its contract: what is left of the requirements is still to be stored.
use Rattle.std.proofs.Common.{◌≡◌, length, replicate}
use lib.Seq.{sets}
use Rattle.move_trial.specs.Record.{families_of, words}
use Rattle.move_trial.proofs.Stored.{onward}
use Rattle.move_trial.proofs.families_of.Given as goal

abbrev pub invariant-loop-i : goal.invariant-loop-i
invariant-loop-i l = (onward l.t l.firsts l.seconds l.i ≡ sets (replicate words 0) 0 (families_of l.firsts l.seconds)) × (length l.t ≡ words)
