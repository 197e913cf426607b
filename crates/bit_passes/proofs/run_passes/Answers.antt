-- `bit_passes::run_passes` meets its contract.
use Rattle.bit_choice.specs.Pass.{passes_by, tallied}
use Rattle.families.proofs.Chunks.{chunk-left, chunks-end}
use Rattle.bit_live.specs.Live.{live_in}
use Rattle.bit_passes.specs.Runs.{ran_on}
use Rattle.bit_passes.proofs.Running.{built-end, allowed, allowed-first, allowed-more, allowed-last}
use Rattle.std.proofs.Common.{ℕ, ◌+◌, ◌*◌, drop, sym, ap, ◌∙◌}
use Rattle.bit_passes.proofs.run_passes.Goals as goal

pub loop-all-init : goal.loop-all-init
loop-all-init c =
    let a = c.args in
    let rs = live_in a.n a.bits.now a.fs.now in
    sym (c.run_some-w.ensures.goes (allowed a.n a.bits.now a.fs.now)) ∙ ap (λ (k : ℕ). tallied 0 0 (passes_by k a.n rs a.start)) (allowed-first a.n a.bits.now a.fs.now)

pub loop-all-preserved : goal.loop-all-preserved
loop-all-preserved c =
    let a = c.args in
    let l = c.loop-all in
    let v = c.count_family-k in
    let w = c.as_chunks.ensures in
    let rs = live_in a.n a.bits.now a.fs.now in
    sym (c.run_some-w-in-loop-all.ensures.goes (allowed a.n a.bits.now (drop (3 * (l.all-index + 1)) a.fs.now)))
    ∙ ap (λ (k : ℕ). ran_on k a.n rs l.w) (sym (allowed-more a.n a.bits.now _ _ _ _ _ v.result (chunk-left a.fs.now _ w.front w.front_len l.all-index c.loop-all-test.true) v.ensures))
    ∙ l.invariant

pub returns : goal.returns
returns c =
    let a = c.args in
    let l = c.loop-all in
    let w = c.as_chunks.ensures in
    let rs = live_in a.n a.bits.now a.fs.now in
    c.from-2.ensures
    ∙ built-end a.n rs c.run_some-last.result c.run_some-last.ensures.passes_fit c.run_some-last.ensures.looks_fit
    ∙ sym (c.run_some-last.ensures.goes 0)
    ∙ ap (λ (k : ℕ). ran_on k a.n rs l.w) (sym (allowed-last a.n a.bits.now _ c.count_pairs.result (chunks-end a.fs.now _ w.front w.front_len l.all-index c.loop-all-test.false) c.count_pairs.ensures))
    ∙ l.invariant
