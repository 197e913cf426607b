-- `bit_passes::build_bit` meets its contract.
use Rattle.bit_passes.proofs.Running.{built-is}
use Rattle.std.proofs.Common.{◌∙◌}
use Rattle.bit_passes.proofs.build_bit.Goals as goal

pub returns : goal.returns
returns c =
    let a = c.args in
    c.run_passes.ensures ∙ built-is a.n c.min.result a.bits.now a.fs.now a.start c.min.ensures
