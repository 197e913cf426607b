-- `read_listing::begins_large` meets its contract: what the first line says.
use mathlib.Core.Path.{ap, ◌∙◌}
use Prim.Native.Nat.{ℕ}
use native.Mathlib.Omega.{arith}
use lib.Dec.{ltb}
use Rattle.rules.specs.Text.{lf}
use Rattle.rules.specs.Limits.{most_small}
use Rattle.read_pieces.proofs.Laws.{cut_of}
use Rattle.read_listing.proofs.Small.{large-line, large-none}
use Rattle.read_listing.proofs.begins_large.Goals as goal

pub returns-then-end-s : goal.returns-then-end-s
returns-then-end-s c =
    let s = c.args.s.now in
    ap (λ (n : ℕ). ltb most_small n) c.states_said.ensures
    ∙ large-line s c.cut-end.result c.no_head.result c.line_said-said.result (cut_of lf s 0 (omega arith) c.cut-end.ensures) c.if-end-s.true c.no_head.ensures c.line_said-said.ensures

pub returns : goal.returns
returns c =
    let s = c.args.s.now in
    large-none s c.cut-end.result (cut_of lf s 0 (omega arith) c.cut-end.ensures) c.if-end-s.false
