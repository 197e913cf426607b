-- `run_encoded::terms_with` meets its contract.
use mathlib.Core.Path.{sym, ap, ◌∙◌}
use Prim.Native.Nat.{◌+◌}
use lib.ListN.{set}
use Rattle.run_encoded.specs.declared.Term.{Term}
use Rattle.run_encoded.specs.declared.Terms.{Terms}
use Rattle.run_encoded.proofs.Steps.{terms-by}
use Rattle.run_encoded.proofs.terms_with.Goals as goal

pub returns-then-is_left_out : goal.returns-then-is_left_out
returns-then-is_left_out c =
    let a = c.args in
    sym (terms-by a.head a.bits.now a.terms a.row (sym c.is_left_out.ensures ∙ c.if-is_left_out.true))

pub returns : goal.returns
returns c =
    let a = c.args in
    ap {B = Terms} (λ (q : Term). record { count = a.terms.count + 1; table = set a.terms.table a.terms.count q }) c.term_of.ensures
    ∙ sym (terms-by a.head a.bits.now a.terms a.row (sym c.is_left_out.ensures ∙ c.if-is_left_out.false))
