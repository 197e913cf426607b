-- `run_encoded::terms_in` meets its contract: the rows that are still to come make the rest.
use mathlib.Core.Path.{◌≡◌}
use Prim.Native.Nat.{◌≤◌}
use lib.ListN.{drop}
use Rattle.rules.specs.Listing.{all_rows}
use Rattle.run_encoded.specs.Terms.{no_terms, terms_by}
use Rattle.run_encoded.proofs.terms_in.Given as goal

abbrev pub invariant-loop-k : goal.invariant-loop-k
invariant-loop-k l = record {
  few : l.terms.count ≤ l.k;
  rest : terms_by l.t.head l.bits l.terms (drop l.k (all_rows l.t)) ≡ terms_by l.t.head l.bits no_terms (all_rows l.t);
}
