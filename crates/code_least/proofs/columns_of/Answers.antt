-- `code_least::columns_of` meets its contract: the power fits.
use Prim.Native.Nat.{◌-◌}
use native.Mathlib.Omega.{arith}
use Rattle.sets.proofs.Members.{shl_one}
use Rattle.code_least.proofs.Answers.{few-columns}
use Rattle.code_least.proofs.columns_of.Goals as goal

pub returns : goal.returns
returns c =
    let e = shl_one 64 (c.args.n - 1) (omega (arith, c.requires.1)) in
    (e, omega (arith, e, few-columns c.args.n c.requires.1))
