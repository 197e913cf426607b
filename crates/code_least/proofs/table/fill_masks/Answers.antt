-- `code_least::table::fill_masks` meets its contract: the masks of the columns passed stand in the first places.
use mathlib.Core.Path.{ap, ◌∙◌}
use Prim.Native.Nat.{ℕ}
use native.Mathlib.Omega.{arith}
use lib.ListN.{length, set}
use Rattle.sets.specs.Sets.{states_from}
use Rattle.rules.specs.Least.{column}
use Rattle.rules.proofs.Most.{states-length}
use Rattle.families.specs.Families.{requirements_in}
use Rattle.code_least.specs.Table.{mask_from}
use Rattle.code_least.proofs.Filling.{filled_more, filled-all, column-at, masks-all}
use Rattle.code_least.proofs.table.fill_masks.Goals as goal

pub loop-v-preserved : goal.loop-v-preserved
loop-v-preserved c =
    let f : ℕ → ℕ = λ u. mask_from 0 (column c.args.n u) (requirements_in c.args.fs.now) in
    let there = column-at (length c.args.met.now) c.loop-v.v (omega arith) in
    let mask = c.mask_of.ensures ∙ ap (λ b. mask_from 0 b (requirements_in c.args.fs.now)) c.column_of.ensures ∙ ap f there in
    let all = states-length 0 (length c.args.met.now) in
    ap (λ b. set b c.loop-v.v c.mask_of.result) c.loop-v.invariant
    ∙ filled_more f (states_from 0 (length c.args.met.now)) c.args.met.now (omega (arith, all)) c.loop-v.v (omega (arith, all)) mask

pub returns : goal.returns
returns c =
    let f : ℕ → ℕ = λ u. mask_from 0 (column c.args.n u) (requirements_in c.args.fs.now) in
    let all = states-length 0 (length c.args.met.now) in
    c.loop-v.invariant
    ∙ filled-all f (states_from 0 (length c.args.met.now)) c.args.met.now (omega (arith, all)) c.loop-v.v (omega (arith, all)) (omega (arith, all))
    ∙ masks-all c.args.n (requirements_in c.args.fs.now) c.args.met.now
