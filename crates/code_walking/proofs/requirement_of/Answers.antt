-- `code_walking::requirement_of` meets its contract: the members in common alone, or with the lowest state outside.
use Prim.Native.Nat.{◌%◌, ℕ, ◌+◌, ◌*◌, ◌^◌}
use lib.Bits.{bit_and, bit_or}
use Rattle.sets.proofs.Members.{shl_one}
use Rattle.sets.proofs.LowestMember.{lowest-at}
use Rattle.rules.specs.Requirements.{asks}
use Rattle.families.specs.Families.{without}
use Rattle.code_walking.proofs.Ahead.{here-one, here-more}
use mathlib.Core.Path.{sym, ap, ◌∙◌}
use native.Mathlib.Omega.{arith}
use lib.ListN.{get_or}
use Rattle.code_walking.proofs.requirement_of.Goals as goal

pub returns-then-w-eq0 : goal.returns-then-w-eq0
returns-then-w-eq0 c =
    let fs = c.args.fs.now in
    let w = c.args.w in
    ap (λ (x : ℕ). asks x (bit_and (get_or fs w.at 0) (get_or fs (w.at + 1) 0))) c.without_of-first.ensures ∙ sym (here-one fs w c.requires c.if-w-eq0.true)

pub returns : goal.returns
returns c =
    let fs = c.args.fs.now in
    let w = c.args.w in
    let t = c.lowest.result in
    let low = lowest-at w.rest t (omega arith) c.if-w-eq0.false c.lowest.ensures in
    ap (λ (x : ℕ). asks x (bit_or (bit_and (get_or fs w.at 0) (get_or fs (w.at + 1) 0)) ((1 * 2 ^ t) % 2 ^ 64))) c.without_of-first.ensures
    ∙ ap (λ (x : ℕ). asks (without (get_or fs w.at 0) (get_or fs (w.at + 1) 0)) (bit_or (bit_and (get_or fs w.at 0) (get_or fs (w.at + 1) 0)) x)) (shl_one 64 t low.0 ∙ ap (λ (k : ℕ). 2 ^ k) c.lowest.ensures)
    ∙ sym (here-more fs w c.requires c.if-w-eq0.false)
