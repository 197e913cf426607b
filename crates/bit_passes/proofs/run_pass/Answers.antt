-- `bit_passes::run_pass` meets its contract.
use Rattle.std.proofs.Common.{◌≡◌, ℕ, ◌+◌, ◌-◌, min, List, sym, ap, ◌∙◌, ap₂, arith}
use Rattle.sets.specs.Sets.{everyone}
use Rattle.move_table.specs.Table.{level}
use Rattle.bit_choice.specs.Pass.{Going, going, go_moves, passed}
use Rattle.bit_choice.proofs.OneMove.{moves_more, moves-end}
use Rattle.bit_live.specs.Live.{live_in}
use Rattle.bit_passes.proofs.run_pass.Goals as goal

pub loop-preserved : goal.loop-preserved
loop-preserved c =
    let l = c.loop in
    let v = c.go_on-w in
    let rs = live_in c.args.n c.args.bits.now c.args.fs.now in
    ap (go_moves (c.args.n - (l.counter + 1)) c.args.n rs) v.ensures
    ∙ sym (moves_more c.args.n l.counter rs (going l.w l.t) c.loop-test.true)
    ∙ l.invariant

pub returns : goal.returns
unfolding passed
returns c =
    let l = c.loop in
    let all : min c.args.n 64 ≡ c.args.n = omega (arith, c.requires) in
    let rs = live_in c.args.n c.args.bits.now c.args.fs.now in
    ap (λ (g : Going). g.best) (sym (moves-end c.args.n l.counter rs (going l.w l.t) c.loop-test.false) ∙ l.invariant)
    ∙ ap₂ (λ (f : ℕ) (t : List ℕ). (go_moves c.args.n c.args.n rs (record { bit = c.args.b; free = f; table = t; now = level; best = record { bit = c.args.b; level = level; looks = 0 } })).best)
    (c.everyone_of.ensures ∙ ap everyone all) c.fill_live.ensures
