-- `code_judging::is_any_unmet` meets its contract.
use lib.ListN.{length, take}
use Rattle.sets.proofs.Places.{take-most}
use Rattle.rules.specs.Limits.{most_bits}
use Rattle.families.specs.Families.{requirements_in}
use Rattle.code_judging.specs.Judging.{some_unmet, any_unmet}
use Prim.Native.Nat.{ℕ}
use mathlib.Core.Path.{◌≡◌, ap, ◌∙◌}
use mathlib.Core.List.{List}
use borrow.Author.Rules.{rules}
use Rattle.code_judging.proofs.is_any_unmet.Goals.{Start}
use Rattle.code_judging.proofs.is_any_unmet.Goals as goal

-- the places of the code
long : (c : Start) → length c.args.e.bits ≡ most_bits
long c = search rules

pub returns : goal.returns
unfolding any_unmet
returns c =
    let a = c.args in
    c.is_unmet_in.ensures
    ∙ ap (λ (bs : List ℕ). some_unmet bs (requirements_in a.fs.now)) (ap (λ (k : ℕ). take k a.e.bits) c.least-width.ensures ∙ take-most a.e.width most_bits a.e.bits (long (goal.at.returns c).Start))
