-- `code_fair::is_fair` meets its contract: the three tests, one after the other.
use mathlib.Core.Path.{◌≡◌, refl, sym, ap, ◌∙◌}
use mathlib.Core.Bool.{Bool, true}
use Prim.Native.Nat.{ℕ, min}
use native.Mathlib.Omega.{arith}
use Rattle.sets.specs.Sets.{everyone}
use Rattle.rules.specs.Listing.{rows_of, dichotomies_of}
use Rattle.rules.specs.declared.Row.{Row}
use Rattle.rules.specs.declared.Requirement.{Requirement}
use Rattle.std.specs.List.{list_all}
use Rattle.code_fair.specs.Fair.{group_under, group_within, blocks_under, within_limits}
use Rattle.code_fair.proofs.Limits.{within, group-under, blocks-under, fair-each}
use Rattle.code_fair.proofs.is_fair.Goals.{After-everyone_of-all, After-groups_within, Else-not-within_limits}
use Rattle.code_fair.proofs.is_fair.Goals as goal

limits : (c : Else-not-within_limits) → within_limits c.args.t ≡ true
limits c = sym c.within_limits.ensures ∙ c.if-not-within_limits.false

-- the set of all states
all-is : (c : After-everyone_of-all) → c.everyone_of-all.result ≡ everyone c.args.t.head.states
all-is c =
    let w = within _ (limits c.before) in
    let few = w.few-states in
    let n : min c.args.t.head.states 64 ≡ c.args.t.head.states = omega (arith, few) in
    c.everyone_of-all.ensures ∙ ap everyone n

groups : (c : After-groups_within) → c.everyone_of-all.result ≡ everyone c.args.t.head.states → c.groups_within.result ≡ list_all (group_within c.args.t.head.states) (rows_of c.args.t)
groups c e =
    let t = c.args.t in
    c.groups_within.ensures ∙ ap (λ (a : ℕ). list_all (group_under a) (rows_of t)) e ∙ ap (λ (p : Row → Bool). list_all p (rows_of t)) (group-under t.head.states)

pub returns-then-not-within_limits : goal.returns-then-not-within_limits
returns-then-not-within_limits c = sym (fair-each _ (sym c.within_limits.ensures ∙ c.if-not-within_limits.true) refl)

pub shared_ref_as_front-rows : goal.shared_ref_as_front-rows
shared_ref_as_front-rows c = (within _ (limits (goal.at.shared_ref_as_front-rows c).Else-not-within_limits)).few-rows

pub shared_ref_as_front-asked : goal.shared_ref_as_front-asked
shared_ref_as_front-asked c = (within _ (limits (goal.at.shared_ref_as_front-asked c).Else-not-within_limits)).few-dichotomies

pub returns-else-groups_within : goal.returns-else-groups_within
returns-else-groups_within c =
    c.if-groups_within.false
    ∙ sym (fair-each _ (limits (goal.at.returns-else-groups_within c).Else-not-within_limits) (sym (groups (goal.at.returns-else-groups_within c).After-groups_within (all-is (goal.at.returns-else-groups_within c).After-everyone_of-all)) ∙ c.if-groups_within.false))

pub returns-then-groups_within : goal.returns-then-groups_within
returns-then-groups_within c =
    let t = c.args.t in
    c.dichotomies_within.ensures
    ∙ ap (λ (a : ℕ). list_all (blocks_under a) (dichotomies_of t)) (all-is (goal.at.returns-then-groups_within c).After-everyone_of-all)
    ∙ ap (λ (p : Requirement → Bool). list_all p (dichotomies_of t)) (blocks-under t.head.states)
    ∙ sym (fair-each t (limits (goal.at.returns-then-groups_within c).Else-not-within_limits) (sym (groups (goal.at.returns-then-groups_within c).After-groups_within (all-is (goal.at.returns-then-groups_within c).After-everyone_of-all)) ∙ c.if-groups_within.true))
