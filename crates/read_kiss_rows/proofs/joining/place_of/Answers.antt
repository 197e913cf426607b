-- `joining::place_of` meets its contract: the first place of such a row, seen from i, is that seen from the start.
use lib.ListN.{length-take}
use lib.Seq.{get_or-take}
use Rattle.rules.specs.Listing.{no_row}
use Rattle.rules.specs.Kiss.{same_row}
use Rattle.rules.proofs.FirstPlace.{from_start, from-here, from_on, from_end}
use Rattle.read_kiss_rows.proofs.Joined.{place-first}
use mathlib.Core.Path.{◌≡◌, sym, ap, ◌∙◌}
use native.Mathlib.Omega.{arith}
use lib.ListN.{length, take}
use Rattle.read_kiss_rows.proofs.joining.place_of.Goals as goal

pub loop-i-init : goal.loop-i-init
loop-i-init c =
    let a = c.args in
    let l : length a.table ≡ 128 = c.well_formed.1.0.1.0.1 in (
      omega (arith, length-take a.rows a.table, c.least-n.ensures),
      omega (arith, c.least-n.ensures),
      omega (arith, c.least-n.ensures),
      from_start (same_row a.r) (take a.rows a.table) ∙ place-first a.r (take a.rows a.table),
    )

pub returns-then-same_row : goal.returns-then-same_row
returns-then-same_row c =
    let l = c.loop-i in
    let a = c.args in
    let q = ap (same_row a.r) (get_or-take a.rows a.table l.i no_row (omega arith)) ∙ sym c.same_row.ensures ∙ c.if-same_row.true in
    sym (from-here (same_row a.r) (take a.rows a.table) no_row l.i (omega arith) q) ∙ l.invariant.3

pub loop-i-preserved : goal.loop-i-preserved
loop-i-preserved c =
    let l = c.loop-i in
    let a = c.args in
    let q = ap (same_row a.r) (get_or-take a.rows a.table l.i no_row (omega arith)) ∙ sym c.same_row.ensures ∙ c.if-same_row.false in
    let n = sym (from_on (same_row a.r) (take a.rows a.table) no_row l.i (omega arith) q) in
    (l.invariant.0, l.invariant.1, l.invariant.2, n ∙ l.invariant.3)

pub returns : goal.returns
returns c =
    let l = c.loop-i in
    let a = c.args in
    let e : c.least-n.result ≡ l.i = omega arith in
    e ∙ sym (from_end (same_row a.r) (take a.rows a.table) l.i (omega arith)) ∙ l.invariant.3
