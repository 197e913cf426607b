-- `run_replay::machines_of` meets its contract.
use mathlib.Core.Path.{◌≡◌, ap, ◌∙◌}
use Prim.Native.Nat.{ℕ}
use borrow.Author.Rules.{rules}
use lib.ListN.{length, take}
use Rattle.sets.proofs.Places.{take-most}
use Rattle.rules.specs.Limits.{most_bits}
use Rattle.run_encoded.specs.Terms.{terms_for}
use Rattle.run_encoded.specs.declared.Terms.{Terms}
use Rattle.run_replay.specs.Moves.{machines_of}
use Rattle.run_replay.proofs.machines_of.Goals.{Start}
use Rattle.run_replay.proofs.machines_of.Goals as goal

bits-length : (c : Start) → length c.args.bits ≡ most_bits
bits-length c = search rules

pub returns : goal.returns
unfolding machines_of
returns c =
    let a = c.args in
    let bits : take c.least-w.result a.bits ≡ take a.width a.bits = ap (λ (w : ℕ). take w a.bits) c.least-w.ensures ∙ take-most a.width most_bits a.bits (bits-length (goal.at.returns c).Start) in
    ap (λ (ts : Terms). record { listing = a.t; width = a.width; bits = a.bits; terms = ts }) (c.terms_of-terms.ensures ∙ ap (terms_for a.t) bits)
