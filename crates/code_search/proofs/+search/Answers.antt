-- The proof of the cycle of calls {search}: the measure is the number of places, of which each call has one less. The loop's invariant: the search from here is
-- the search from the start, and the places are as they came.
use mathlib.Core.Path.{◌≡◌, sym, ap, ◌∙◌}
use mathlib.Core.List.{List}
use Prim.Native.Nat.{ℕ}
use borrow.Author.Tests.{eqb-true, eqb-false}
use lib.ListN.{length}
use Rattle.rules.specs.Least.{First}
use Rattle.code_search.specs.Search.{searched, told}
use Rattle.code_search.proofs.Places.{rest, Came, none_left, found, not_found, none_found}
use Rattle.code_search.proofs.+search.Goals.{After-search, At-loop-v}
use Rattle.code_search.proofs.+search.Goals as goal

-- where the loop stands there is a place
some-place : (t : ℕ) (c : At-loop-v t) → length c.loop-v.columns ≡ 0 → ⊥
some-place t c e = eqb-false _ 0 (sym c.is_empty.ensures ∙ c.if-is_empty.false) (sym (ap length c.loop-v.invariant.0) ∙ e)

-- what the call of itself came to
came : (t : ℕ) (c : After-search t)
    → let a = c.args in
    Came a.met.now c.loop-v.v a.left c.loop-v.columns c.search.result c.search.new.columns
came t c =
    let a = c.args in
    c.search.ensures ∙ ap (λ (x : ℕ). told (searched a.met.now (length (rest c.loop-v.columns)) c.loop-v.v x) (rest c.loop-v.columns)) c.without_of-less.ensures

-- what is told of the search from here is told of it from the start
from_start : (t : ℕ) (c : At-loop-v t)
    → let a = c.args in
    told (searched a.met.now (length c.loop-v.columns) c.loop-v.v a.left) c.loop-v.columns ≡ told (searched a.met.now (length a.columns.now) a.from a.left) a.columns.now
from_start t c =
    let a = c.args in
    ap (λ (cs : List ℕ). told (searched a.met.now (length cs) c.loop-v.v a.left) cs) c.loop-v.invariant.0 ∙ ap (λ (f : First). told f a.columns.now) c.loop-v.invariant.1

pub returns-then-is_empty : goal.returns-then-is_empty
returns-then-is_empty t c =
    let a = c.args in
    none_left a.met.now a.columns.now a.from a.left (eqb-true _ 0 (sym c.is_empty.ensures ∙ c.if-is_empty.true))

pub returns-then-search : goal.returns-then-search
returns-then-search t c =
    let a = c.args in
    found a.met.now c.loop-v.v a.left c.loop-v-test.true c.loop-v.columns (some-place t (goal.at.returns-then-search t c).At-loop-v) c.if-search.true (came t (goal.at.returns-then-search t c).After-search) ∙ from_start t (goal.at.returns-then-search t c).At-loop-v

pub loop-v-preserved : goal.loop-v-preserved
loop-v-preserved t c =
    let a = c.args in
    let n = not_found a.met.now c.loop-v.v a.left c.loop-v-test.true c.loop-v.columns (some-place t (goal.at.loop-v-preserved t c).At-loop-v) c.if-search.false (came t (goal.at.loop-v-preserved t c).After-search) in
    (n.0 ∙ c.loop-v.invariant.0, rw c.loop-v.invariant.0 at n.1 ∙ c.loop-v.invariant.1)

pub returns : goal.returns
returns t c =
    let a = c.args in
    none_found a.met.now c.loop-v.v a.left c.loop-v-test.false c.loop-v.columns (some-place t (goal.at.returns t c).At-loop-v) ∙ from_start t (goal.at.returns t c).At-loop-v
