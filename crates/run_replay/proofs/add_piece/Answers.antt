-- `run_replay::add_piece` meets its contract.
use mathlib.Core.Path.{◌≡◌, ap, ◌∙◌}
use mathlib.Core.List.{List}
use Prim.Native.Nat.{ℕ}
use borrow.Author.Rules.{rules}
use lib.ListN.{length, take}
use Rattle.sets.proofs.Places.{take-most}
use Rattle.rules.specs.Limits.{most_bits}
use Rattle.rules.specs.Text.{lines_of}
use Rattle.run_replay.specs.Places.{ran_by, course_of, ran_on}
use Rattle.run_replay.proofs.add_piece.Goals.{Start}
use Rattle.run_replay.proofs.add_piece.Goals as goal

bits-length : (c : Start) → length c.args.m.bits ≡ most_bits
bits-length c = search rules

pub returns : goal.returns
unfolding course_of
returns c =
    let a = c.args in
    let bits : take c.least-w.result a.m.bits ≡ take a.m.width a.m.bits = ap (λ (w : ℕ). take w a.m.bits) c.least-w.ensures ∙ take-most a.m.width most_bits a.m.bits (bits-length (goal.at.returns c).Start) in
    c.add_from.ensures
    ∙ ap (λ (bs : List ℕ). ran_on (ran_by a.m.listing a.m.terms bs a.place (lines_of a.run.now)) (a.part, a.out.now)) bits
