-- `bit_live::start_live` meets its contract.
use lib.Bits.{xor_zero_l}
use lib.Count.{count_trailing_zeros}
use Rattle.sets.specs.Sets.{only}
use Rattle.rules.specs.OneBit.{start}
use Rattle.rules.specs.declared.Requirement.{Requirement}
use Rattle.families.specs.Families.{requirements_in}
use Rattle.bit_live.proofs.Starts.{pairs-nobody, pairs-some}
use Rattle.std.proofs.Common.{List, ◌++◌, sym, ap, ◌∙◌}
use Rattle.bit_live.proofs.start_live.Goals as goal

pub returns-in-Some : goal.returns-in-Some
returns-in-Some c =
    let a = c.args in
    let v = c.in-Some.ensures in
    let s = pairs-some a.n a.bits.now v.0 v.1 c.lowest.result (requirements_in a.fs.now) (c.lowest.ensures ∙ ap (count_trailing_zeros 64) v.2) in
    c.flipped.ensures.0 s.0 ∙ xor_zero_l (only c.lowest.result) ∙ sym s.1

pub returns-in-None : goal.returns-in-None
returns-in-None c =
    let a = c.args in
    c.start_families.ensures
    ∙ sym (ap (λ (rs : List Requirement). start (rs ++ requirements_in a.fs.now)) (pairs-nobody a.n a.bits.now c.in-None.ensures))
