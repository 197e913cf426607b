-- `run_encoded::code_after` meets its contract: the rows that are still to come give the rest.
use mathlib.Core.Path.{◌≡◌, sym, ap, ◌∙◌}
use mathlib.Core.List.{List}
use Prim.Native.Nat.{ℕ}
use lib.ListN.{length, take}
use borrow.Author.Rules.{rules}
use Rattle.sets.proofs.Places.{take-most}
use Rattle.rules.specs.Limits.{most_lines}
use Rattle.run_encoded.specs.Terms.{code_by}
use Rattle.run_encoded.specs.declared.Term.{Term}
use Rattle.run_encoded.proofs.Steps.{code_here, code-none}
use Rattle.run_encoded.proofs.code_after.Goals.{Start}
use Rattle.run_encoded.proofs.code_after.Goals as goal

table-long : (c : Start) → length c.args.terms.table ≡ most_lines
table-long c = search rules

pub loop-q-preserved : goal.loop-q-preserved
loop-q-preserved c =
    let a = c.args in
    sym (code_here a.inputs a.width a.x a.code c.loop-q.given (take c.least-n.result a.terms.table) c.loop-q.q-index c.loop-q-test.true c.code_with-given.ensures) ∙ c.loop-q.invariant

pub returns : goal.returns
returns c =
    let a = c.args in
    let t = a.terms in
    sym (code-none a.inputs a.width a.x a.code c.loop-q.given (take c.least-n.result t.table) c.loop-q.q-index c.loop-q-test.false)
    ∙ c.loop-q.invariant
    ∙ ap (λ (qs : List Term). code_by a.inputs a.width a.x a.code 0 qs)
    (ap (λ (n : ℕ). take n t.table) c.least-n.ensures ∙ take-most t.count most_lines t.table (table-long (goal.at.returns c).Start))
