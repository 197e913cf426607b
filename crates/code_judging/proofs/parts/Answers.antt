-- `code_judging::parts` meets its contract.
use Rattle.rules.proofs.Wholly.{wholly-zero, wholly-one}
use Rattle.rules.specs.Requirements.{wholly}
use mathlib.Core.Path.{ap₂, sym, ap, ◌∙◌}
use mathlib.Core.Bool.{◌&&◌, Bool}
use native.Mathlib.Omega.{arith}
use borrow.Author.Tests.{eq-eqb, ne_eqb}
use Rattle.code_judging.proofs.parts.Goals as goal

pub returns-then-b-z-eq0 : goal.returns-then-b-z-eq0
returns-then-b-z-eq0 c =
    let s = c.args in
    sym (ap₂ ◌&&◌ (wholly-zero 64 s.b s.z (omega arith) ∙ eq-eqb _ _ c.if-b-z-eq0.true) (wholly-one 64 s.b s.o (omega arith)))

pub returns-else-b-z-eq0 : goal.returns-else-b-z-eq0
returns-else-b-z-eq0 c =
    let s = c.args in
    ne_eqb _ _ c.if-b-z-eq0.false ∙ sym (ap (λ (x : Bool). x && wholly 64 s.b 1 s.o) (wholly-zero 64 s.b s.z (omega arith) ∙ ne_eqb _ _ c.if-b-z-eq0.false))
