-- `code_search::search_widths` meets its contract: no width that was passed has a code, and the places are as they came.
use Rattle.std.specs.Prelude.{None}
use mathlib.Core.Path.{◌≡◌, ap, ◌∙◌}
use mathlib.Core.List.{List, ◌++◌}
use Prim.Native.Nat.{ℕ, ◌+◌, ◌<◌}
use native.Mathlib.Omega.{arith}
use lib.ListN.{length, drop, take-append-drop}
use Rattle.rules.specs.Least.{codes_of, codes_up_to, none, first_with}
use Rattle.code_search.specs.Search.{takes_all, told_width}
use Rattle.code_search.proofs.Widths.{none_more, width-found, width-none, no-width}
use Rattle.code_search.proofs.search_widths.Goals.{Else-search}
use Rattle.code_search.proofs.search_widths.Goals as goal

pub returns-then-search : goal.returns-then-search
returns-then-search c =
    let a = c.args in
    width-found a.met.now c.loop-w.columns a.left c.loop-w.w (omega (arith, c.loop-w-test.true)) c.search.result c.search.new.columns c.if-search.true c.loop-w.invariant.1 c.search.ensures
    ∙ ap (λ (cs : List ℕ). told_width (first_with (takes_all a.met.now a.left) (codes_up_to (length a.met.now) (length cs))) cs) c.loop-w.invariant.0

-- a width that has none leaves the places as they came, and none of those up to it has one
passed : (c : Else-search) → let a = c.args in
    (c.search.new.columns ++ drop c.loop-w.w c.loop-w.columns ≡ a.columns.now)
    × ((k : ℕ) → k < c.loop-w.w + 1 → first_with (takes_all a.met.now a.left) (codes_of (length a.met.now) k) ≡ none)
passed c =
    let a = c.args in
    let n = width-none a.met.now c.loop-w.columns a.left c.loop-w.w (omega (arith, c.loop-w-test.true)) c.search.result c.search.new.columns c.if-search.false c.search.ensures in (
      ap (λ (ys : List ℕ). ys ++ drop c.loop-w.w c.loop-w.columns) n.0 ∙ take-append-drop c.loop-w.w c.loop-w.columns ∙ c.loop-w.invariant.0,
      none_more (λ w. first_with (takes_all a.met.now a.left) (codes_of (length a.met.now) w)) c.loop-w.w c.loop-w.invariant.1 n.1,
    )

pub loop-w-preserved : goal.loop-w-preserved
loop-w-preserved c = passed (goal.at.loop-w-preserved c).Else-search

-- the last width was searched too
pub returns-else-search : goal.returns-else-search
returns-else-search c =
    let a = c.args in
    let p = passed (goal.at.returns-else-search c).Else-search in
    ap (λ (cs : List ℕ). (None, cs)) p.0 ∙ no-width a.met.now a.columns.now a.left (λ k h. p.1 k (omega arith))
