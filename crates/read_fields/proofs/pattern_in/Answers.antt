-- `read_fields::pattern_in` meets its contract: in a field of at most 32 characters the masks fit a pattern.
use mathlib.Core.Path.{sym, ◌∙◌}
use native.Mathlib.Omega.{arith}
use Rattle.rules.specs.Text.{nought, one, dash}
use Rattle.read_fields.proofs.Sets.{places-none, pattern-long, pattern-unfit, pattern-told}
use Rattle.read_fields.proofs.pattern_in.Goals as goal

pub returns-then-f-gt32 : goal.returns-then-f-gt32
returns-then-f-gt32 c = sym (pattern-long _ _ _ c.if-f-gt32.true)

pub returns-in_default : goal.returns-in_default
returns-in_default c =
    let a = c.args in
    let e = places-none nought one dash a.f.now a.most a.k (λ k. omega arith) (sym c.places_in.ensures ∙ c.in_default.is) in
    sym (pattern-unfit a.most a.k a.f.now e)

pub overflow_cast-result : goal.overflow_cast-result
overflow_cast-result c = record { fits = (pattern-told _ _ _ (omega arith) (sym c.places_in.ensures ∙ c.in-Some.is)).0 }

pub overflow_cast-result-2 : goal.overflow_cast-result-2
overflow_cast-result-2 c = record { fits = (pattern-told _ _ _ (omega arith) (sym c.places_in.ensures ∙ c.in-Some.is)).1 }

pub returns : goal.returns
returns c = sym (pattern-told _ _ _ (omega arith) (sym c.places_in.ensures ∙ c.in-Some.is)).2
