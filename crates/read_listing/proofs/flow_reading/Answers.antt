-- `read_listing::flow_reading` meets its contract.
use Rattle.std.specs.Prelude.{Result, Ok}
use Rattle.std.proofs.lemmas.Result.{err_from_is_err_and}
use mathlib.Core.Path.{sym, ap, ◌∙◌}
use Rattle.rules.specs.declared.Listing.{Listing}
use Rattle.rules.specs.declared.Refused.{Refused}
use Rattle.read_flow.specs.declared.Flow.{Flow}
use Rattle.read_listing.specs.Says.{flow_listing, reading_of}
use Rattle.read_listing.proofs.flow_reading.Goals as goal

pub returns-in_err-f : goal.returns-in_err-f
unfolding reading_of
returns-in_err-f c =
    let p = err_from_is_err_and c.from_residual.result c.from_residual.ensures.1 in
    rw (p.1, p.2) (sym (ap (λ (r : Result Flow Refused). reading_of c.args.h r) c.in_err-f.was))

pub returns : goal.returns
unfolding flow_listing reading_of
returns c =
    let a = c.args in
    let f = c.in_ok-f.f in
    let made : Listing → Listing = λ t. record { head = a.h; rows = t.rows; table = t.table; dichotomies = f.dichotomies; asked = f.asked; said = t.said; given = t.given } in
    ap (λ (t : Listing). Ok (made t)) c.blank_listing-none.ensures ∙ sym (ap (λ (r : Result Flow Refused). reading_of a.h r) c.in_ok-f.was)
