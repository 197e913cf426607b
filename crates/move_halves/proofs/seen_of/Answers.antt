-- `move_halves::seen_of` meets its contract.
use mathlib.Core.Bool.{◌||◌}
use lib.Dec.{leb}
use Rattle.sets.specs.Sets.{size}
use Rattle.move_halves.proofs.Halving.{size-test}
use mathlib.Core.Path.{◌≡◌, refl, sym, ap, ◌∙◌}
use mathlib.Core.Bool.{Bool, true, false}
use borrow.Author.Tests.{eq-eqb, ne_eqb}
use Rattle.move_halves.proofs.seen_of.Goals as goal

or-true : (u : Bool) → true ≡ (u || true)
or-true true = refl
or-true false = refl

or-false : (u : Bool) → u ≡ (u || false)
or-false true = refl
or-false false = refl

pub returns-then-y-eq0 : goal.returns-then-y-eq0
returns-then-y-eq0 c =
    eq-eqb c.args.y 0 c.if-y-eq0.true ∙ or-true (leb (size c.args.x) 1) ∙ ap (λ (u : Bool). leb (size c.args.x) 1 || u) (sym (size-test c.args.y c.ranges.y.fits ∙ eq-eqb c.args.y 0 c.if-y-eq0.true))

pub returns-else-y-eq0 : goal.returns-else-y-eq0
returns-else-y-eq0 c =
    c.few.ensures ∙ or-false (leb (size c.args.x) 1) ∙ ap (λ (u : Bool). leb (size c.args.x) 1 || u) (sym (size-test c.args.y c.ranges.y.fits ∙ ne_eqb c.args.y 0 c.if-y-eq0.false))
