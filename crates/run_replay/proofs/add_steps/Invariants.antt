-- `run_replay::add_steps` meets its contract: what is done from the line that comes on, behind what is added, is all that is done.
use mathlib.Core.Path.{◌≡◌}
use mathlib.Core.List.{List}
use Prim.Native.Nat.{ℕ, ◌-◌, ◌^◌, ◌<◌}
use lib.ListN.{length, drop}
use Rattle.rules.specs.Text.{lf, lines_of}
use Rattle.read_pieces.proofs.Laws.{Cut}
use Rattle.run_replay.specs.Places.{ran_from, ran_on}
use Rattle.run_replay.specs.declared.Ran.{Ran}
use Rattle.run_replay.proofs.add_steps.Given as goal

abbrev pub invariant-loop-end : goal.invariant-loop-end
invariant-loop-end l =
    Cut lf l.run l.at l.end × (l.done < 2 ^ 32) × (length l.out ≡ length l.initial.out)
    × (◌≡◌ {A = Ran × List ℕ} (ran_on (ran_from l.m.listing.now l.m.terms.now (length l.m.bits.now) l.done l.state l.code (lines_of (drop l.at l.run))) (l.to, l.out)) (ran_on (ran_from l.m.listing.now l.m.terms.now (length l.m.bits.now) l.begun l.start l.first (lines_of l.run)) (l.initial.to, l.initial.out)))

abbrev pub decreases-loop-end : goal.decreases-loop-end
decreases-loop-end l = length l.run - l.at
