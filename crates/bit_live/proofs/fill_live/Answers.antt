-- `bit_live::fill_live` meets its contract.
use Rattle.move_table.specs.Moves.{filled}
use Rattle.families.specs.Families.{requirements_in}
use Rattle.move_pairs.specs.Pairs.{live_pairs}
use Rattle.bit_live.proofs.Live.{filled-append}
use Rattle.std.proofs.Common.{sym, ap, ◌∙◌}
use Rattle.bit_live.proofs.fill_live.Goals as goal

pub returns : goal.returns
returns c =
    let a = c.args in
    c.fill_families.ensures
    ∙ ap (filled (requirements_in a.fs.now) a.b) c.fill_pairs.ensures
    ∙ sym (filled-append (live_pairs a.n a.bits.now) (requirements_in a.fs.now) a.b a.t.now)
