-- `bit_next::add_bit` meets its contract.
use Prim.Native.Nat.{min}
use Rattle.rules.specs.OneBit.{complemented}
use Rattle.bit_choice.specs.Pass.{built_by}
use Rattle.bit_choice.specs.declared.Built.{Built}
use Rattle.bit_live.specs.Live.{live_in}
use Rattle.bit_next.specs.NextBit.{next_by}
use mathlib.Core.Path.{ap, ◌∙◌}
use Rattle.bit_next.proofs.add_bit.Goals as goal

pub returns : goal.returns
unfolding next_by
returns c =
    let a = c.args in
    let e = c.build_bit-built.ensures ∙ ap (built_by a.n (live_in a.n a.bits.now a.fs.now)) c.start_live-start.ensures in
    record {
      is = c.complement-b.ensures ∙ ap (λ (x : Built). complemented (min a.n 64) x.bit) e;
      took = ap (λ (x : Built). x.passes) e;
      looked = ap (λ (x : Built). x.looks) e;
      leaves = c.sift_families-left.ensures.0;
      sifts = c.sift_families-left.ensures.1;
    }
