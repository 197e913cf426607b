-- `read_listing::read_all` meets its contract: an ordinary listing, or a flow table.
use mathlib.Core.Path.{sym, ap, ◌∙◌}
use native.Mathlib.Omega.{arith}
use borrow.Author.Rules.{rules}
use Rattle.rules.specs.Text.{lf}
use Rattle.rules.specs.Listing.{checked}
use Rattle.read_pieces.proofs.Laws.{Cut, cut_of}
use Rattle.read_listing.specs.Says.{reading_of}
use Rattle.read_listing.proofs.Flows.{all-ordinary, all-flow}
use Rattle.read_listing.proofs.read_all.Goals.{After-cut-end, After-cut-next}
use Rattle.read_listing.proofs.read_all.Goals as goal

-- the first line, and the next or nothing
one : (c : After-cut-end) → Cut lf c.args.s.now 0 c.cut-end.result
one c = cut_of lf _ 0 (omega arith) c.cut-end.ensures

two : (c : After-cut-next) → Cut lf c.args.s.now c.least-at.result c.cut-next.result
two c = cut_of lf _ _ (omega (arith, c.least-at.ensures)) c.cut-next.ensures

pub overflow_add-end : goal.overflow_add-end
overflow_add-end c =
    let to = (one c).to in
    search rules

pub slice_bounds-flow_head-end : goal.slice_bounds-flow_head-end
slice_bounds-flow_head-end c =
    let to = (one (goal.at.slice_bounds-flow_head-end c).After-cut-end).to in
    search rules

pub slice_bounds-flow_head-count-2 : goal.slice_bounds-flow_head-count-2
slice_bounds-flow_head-count-2 c = (two (goal.at.slice_bounds-flow_head-count-2 c).After-cut-next).from

pub slice_bounds-flow_head-start-2 : goal.slice_bounds-flow_head-start-2
slice_bounds-flow_head-start-2 c =
    let d = two (goal.at.slice_bounds-flow_head-start-2 c).After-cut-next in
    let from = d.from in
    let to = d.to in
    search rules

pub slice_bounds-flow_head-end-2 : goal.slice_bounds-flow_head-end-2
slice_bounds-flow_head-end-2 c =
    let d = two (goal.at.slice_bounds-flow_head-end-2 c).After-cut-next in
    let from = d.from in
    let to = d.to in
    search rules

pub returns-in-Ok : goal.returns-in-Ok
returns-in-Ok c =
    c.flow_reading.ensures
    ∙ ap (reading_of _) c.read_flow.ensures
    ∙ sym (all-flow _ _ _ _ (one (goal.at.returns-in-Ok c).After-cut-end) (two (goal.at.returns-in-Ok c).After-cut-next) c.least-at.ensures _ (sym c.flow_head-head.ensures ∙ c.in-Ok.is))

pub returns-in-Err : goal.returns-in-Err
returns-in-Err c =
    c.read_lines.ensures
    ∙ sym (all-ordinary _ _ _ _ (one (goal.at.returns-in-Err c).After-cut-end) (two (goal.at.returns-in-Err c).After-cut-next) c.least-at.ensures (sym c.flow_head-head.ensures ∙ c.in-Err.is))
