-- `bit_live::start_families` meets its contract.
use Rattle.std.proofs.Common.{List, sym, ap, ◌∙◌}
use Rattle.rules.specs.OneBit.{start}
use Rattle.rules.specs.declared.Requirement.{Requirement}
use Rattle.families.proofs.Chunks.{chunk-left, chunks-end}
use Rattle.bit_live.proofs.Starts.{passed_over, start-here, start-over}
use Rattle.bit_live.proofs.start_families.Goals as goal

pub returns-then-count_family-ne0 : goal.returns-then-count_family-ne0
returns-then-count_family-ne0 c =
    let l = c.loop-all in
    let w = c.as_chunks.ensures in
    c.start_family.ensures
    ∙ start-here _ _ _ _ _ (chunk-left c.args.fs.now _ w.front w.front_len l.all-index c.loop-all-test.true) (λ z. c.if-count_family-ne0.true (c.count_family.ensures ∙ z))
    ∙ ap {A = List Requirement} start l.invariant

pub loop-all-preserved : goal.loop-all-preserved
loop-all-preserved c =
    let l = c.loop-all in
    let w = c.as_chunks.ensures in
    passed_over _ _ _ _ _ (chunk-left c.args.fs.now _ w.front w.front_len l.all-index c.loop-all-test.true) (sym c.count_family.ensures ∙ c.if-count_family-ne0.false) ∙ l.invariant

pub returns : goal.returns
returns c =
    let l = c.loop-all in
    let w = c.as_chunks.ensures in
    start-over _ (chunks-end c.args.fs.now _ w.front w.front_len l.all-index c.loop-all-test.false) ∙ ap {A = List Requirement} start l.invariant
