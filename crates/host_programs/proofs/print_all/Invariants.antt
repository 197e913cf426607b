-- `print_all`: so many parts are printed, and no more than there is.
use Rattle.std.proofs.Common.{◌≡◌, ℕ, ◌≤◌, ◌-◌, length}
use Rattle.std.specs.Io.KnownBytes.{Appends}
use Rattle.rules.specs.Answers.{printed}
use Rattle.rules.specs.Parts.{gathered}
use Rattle.host_replies.specs.Ready.{reply_of}
use Rattle.host_programs.proofs.print_all.Given as goal

abbrev pub invariant-loop-ready : goal.invariant-loop-ready
invariant-loop-ready g l = record {
  same_length : length l.part ≡ length l.fn.part;
  within : l.from ≤ length (printed (reply_of l.ready));
  parts : (k : ℕ) × (k ≤ l.from) × (l.from ≡ length (gathered (length l.fn.part) k (printed (reply_of l.ready))))
      × Appends (g.W.Write.contents l.fn.output) (g.W.Write.contents l.output) (gathered (length l.fn.part) k (printed (reply_of l.ready)));
}

abbrev pub decreases-loop-ready : goal.decreases-loop-ready
decreases-loop-ready g l = length (printed (reply_of l.ready)) - l.from
