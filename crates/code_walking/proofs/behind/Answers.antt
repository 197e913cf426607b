-- `code_walking::behind` meets its contract: the next state outside, or the next family.
use Rattle.code_walking.proofs.Ahead.{ahead_behind, next-family, next-state}
use Rattle.code_walking.proofs.behind.Goals.{Then-rest-eq0, Else-rest-eq0}
use Prim.Native.Nat.{ℕ}
use mathlib.Core.Path.{sym, ap, ◌∙◌}
use native.Mathlib.Omega.{arith}
use Rattle.code_walking.proofs.behind.Goals as goal

pub returns-then-rest-eq0 : goal.returns-then-rest-eq0
returns-then-rest-eq0 c =
    let a = c.args in
    let place = c.enter.ensures ∙ sym (next-family a.fs.now a.w c.requires (sym c.without_lowest-rest.ensures ∙ c.if-rest-eq0.true)) in
    record { place = place; behind = ahead_behind a.fs.now a.w c.requires (omega arith) place }

pub returns : goal.returns
returns c =
    let a = c.args in
    let place =
    ap (λ (x : ℕ). record { at = a.w.at; rest = x }) c.without_lowest-rest.ensures
    ∙ sym (next-state a.fs.now a.w c.requires (λ z. c.if-rest-eq0.false (c.without_lowest-rest.ensures ∙ z))) in
    record { place = place; behind = ahead_behind a.fs.now a.w c.requires (omega arith) place }
