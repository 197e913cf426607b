-- The proof of the cycle of calls {search}: the measure is the number of inputs that are left, of which each call has one less.
use mathlib.Core.Path.{◌≡◌, refl, sym, ◌∙◌}
use native.Mathlib.Omega.{arith}
use Prim.Native.Nat.{ℕ, ◌+◌}
use borrow.Author.Rules.{rules}
use Rattle.judge_search.specs.Search.{kept_words, same_words}
use Rattle.judge_search.proofs.Halves.{leaf, in-first, like-first, as-second, halves_small}
use Rattle.judge_search.proofs.Words.{same-is}
use Rattle.judge_search.proofs.+search.Goals.{After-eq}
use Rattle.judge_search.proofs.+search.Goals as goal

pub returns-then-left-eq0 : goal.returns-then-left-eq0
returns-then-left-eq0 t c =
    let a = c.args in
    c.then_some.ensures ∙ leaf a.listing a.cover a.says.now a.cols.now a.at a.v a.rows c.if-left-eq0.true c.is_failing.ensures

pub search-first-requires : goal.search-first-requires
search-first-requires t c =
    (omega (arith, c.if-left-eq0.false, c.decreases), (c.requires.0, omega (arith, c.if-left-eq0.false, c.requires.1), (halves_small c.args.v c.args.left c.if-left-eq0.false c.requires.2).0))

pub returns-then-is_some : goal.returns-then-is_some
returns-then-is_some t c =
    let a = c.args in
    in-first a.listing a.cover a.says.now a.cols.now a.at a.v a.rows a.left c.if-left-eq0.false c.keep-low.result (kept_words a.rows a.cols.now (a.at + 7)) c.keep-low.ensures refl c.search-first.ensures (sym c.is_some.ensures ∙ c.if-is_some.true)

-- two sets of rows, compared word by word
same : (t : ℕ) (c : After-eq t) → c.eq.result ≡ same_words c.keep-low.result c.keep-high.result
same t c = c.eq.ensures ∙ same-is c.keep-low.result c.keep-high.result (search rules) (search rules)

pub returns-then-eq : goal.returns-then-eq
returns-then-eq t c =
    let a = c.args in
    like-first a.listing a.cover a.says.now a.cols.now a.at a.v a.rows a.left c.if-left-eq0.false c.keep-low.result c.keep-high.result c.keep-low.ensures c.keep-high.ensures c.search-first.ensures (sym c.is_some.ensures ∙ c.if-is_some.false) (sym (same t (goal.at.returns-then-eq t c).After-eq) ∙ c.if-eq.true)

pub search-requires : goal.search-requires
search-requires t c =
    (omega (arith, c.if-left-eq0.false, c.decreases), (c.requires.0, omega (arith, c.if-left-eq0.false, c.requires.1), (halves_small c.args.v c.args.left c.if-left-eq0.false c.requires.2).1))

pub returns : goal.returns
returns t c =
    let a = c.args in
    as-second a.listing a.cover a.says.now a.cols.now a.at a.v a.rows a.left c.if-left-eq0.false c.keep-low.result c.keep-high.result c.keep-low.ensures c.keep-high.ensures c.search-first.ensures (sym c.is_some.ensures ∙ c.if-is_some.false) (sym (same t (goal.at.returns t c).After-eq) ∙ c.if-eq.false) c.search.ensures
