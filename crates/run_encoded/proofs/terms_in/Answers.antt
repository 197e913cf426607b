-- `run_encoded::terms_in` meets its contract: the rows that are still to come make the rest.
use mathlib.Core.Path.{◌≡◌, refl, sym, ap, ◌∙◌}
use Prim.Native.Nat.{◌+◌, ◌≤◌, min}
use native.Mathlib.Omega.{arith}
use lib.ListN.{length}
use borrow.Author.Rules.{rules}
use Rattle.rules.specs.Limits.{most_states, most_rows}
use Rattle.rules.specs.Listing.{all_rows}
use Rattle.write_rows.specs.Rows.{row_count}
use Rattle.write_rows.proofs.Counted.{all-few, count-all, row-next, row-end}
use Rattle.run_encoded.specs.Terms.{terms_by}
use Rattle.run_encoded.specs.declared.Terms.{Terms}
use Rattle.run_encoded.proofs.Steps.{terms-here, terms-none, terms-count, no-count}
use Rattle.run_encoded.proofs.terms_in.Goals.{Start}
use Rattle.run_encoded.proofs.terms_in.Goals as goal

counted : (c : Start) → row_count c.args.t.head c.args.t.rows ≡ length (all_rows c.args.t)
counted c = count-all c.args.t (search rules) (search rules)

few : (c : Start) → row_count c.args.t.head c.args.t.rows ≤ min c.args.t.rows most_rows + most_states
few c = all-few c.args.t (search rules) (search rules) refl refl

pub loop-k-init : goal.loop-k-init
loop-k-init c =
    let a = c.args in
    record {
      few = omega (arith, no-count c.no_terms-terms.ensures);
      rest = ap (λ (ts : Terms). terms_by a.t.head a.bits.now ts (all_rows a.t)) c.no_terms-terms.ensures;
    }

pub terms_with-terms-requires : goal.terms_with-terms-requires
terms_with-terms-requires c =
    let most = few (goal.at.terms_with-terms-requires c).Start in
    (c.requires, omega (arith, c.loop-k.invariant.few, most, c.row_count-k-end.ensures, c.loop-k-test.true))

pub loop-k-preserved : goal.loop-k-preserved
loop-k-preserved c =
    let a = c.args in
    let all = c.row_count-k-end.ensures ∙ counted (goal.at.loop-k-preserved c).Start in
    let here = row-next a.t c.loop-k.k all (omega arith) c.row_of.ensures.listed in
    let count = ap (λ (ts : Terms). ts.count) c.terms_with-terms.ensures in
    record {
      few = omega (arith, c.loop-k.invariant.few, count, terms-count a.t.head a.bits.now c.loop-k.terms c.row_of.result);
      rest = sym (terms-here a.t.head a.bits.now c.loop-k.terms c.row_of.result _ _ here c.terms_with-terms.ensures) ∙ c.loop-k.invariant.rest;
    }

pub returns : goal.returns
returns c =
    let a = c.args in
    let all = c.row_count-k-end.ensures ∙ counted (goal.at.returns c).Start in
    sym (terms-none a.t.head a.bits.now c.loop-k.terms _ (row-end a.t c.loop-k.k all (omega arith))) ∙ c.loop-k.invariant.rest
