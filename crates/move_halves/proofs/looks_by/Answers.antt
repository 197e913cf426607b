-- `move_halves::looks_by` meets its contract.
use mathlib.Core.Path.{ap₂}
use mathlib.Core.Bool.{cond}
use Rattle.sets.specs.Sets.{size}
use Rattle.sets.proofs.SizeMembers.{size_few}
use Rattle.move_halves.specs.Halves.{looks_by}
use Prim.Native.Nat.{ℕ, ◌≤◌, ◌+◌}
use mathlib.Core.Path.{ap, ◌∙◌}
use mathlib.Core.Bool.{Bool, true, false}
use native.Mathlib.Omega.{arith}
use borrow.Author.Tests.{eq-eqb, ne_eqb}
use Rattle.move_halves.proofs.Moving.{number-of_test}
use Rattle.move_halves.proofs.looks_by.Goals as goal

at_most : (t : Bool) (m : ℕ) → cond t m 0 ≤ m
at_most true m = omega arith
at_most false m = omega arith

pub returns-then-out-eq0 : goal.returns-then-out-eq0
unfolding looks_by
returns-then-out-eq0 c =
    rw (eq-eqb c.args.out 0 c.if-out-eq0.true) (number-of_test c.near_of.result ∙ ap (λ (t : Bool). cond {A = ℕ} t 1 0) c.near_of.ensures)

pub overflow_add-result : goal.overflow_add-result
overflow_add-result c =
    record {
      fits = omega (
        arith,
        c.states_of-one.ensures,
        at_most c.seen_of.result (size c.args.right),
        size_few 64 c.args.right c.ranges.right.fits,
        c.states_of-other.ensures,
        at_most c.seen_of-2.result (size c.args.rest),
        size_few 64 c.args.rest c.ranges.rest.fits,
      );
    }

pub returns : goal.returns
unfolding looks_by
returns c =
    rw (ne_eqb c.args.out 0 c.if-out-eq0.false)
    (ap₂ (λ (k j : ℕ). k + j)
    (c.states_of-one.ensures ∙ ap (λ (t : Bool). cond t (size c.args.right) 0) c.seen_of.ensures)
    (c.states_of-other.ensures ∙ ap (λ (t : Bool). cond t (size c.args.rest) 0) c.seen_of-2.ensures))
