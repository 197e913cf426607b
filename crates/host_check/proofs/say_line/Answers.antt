-- `host_check::say_line` meets its contract: 10 where the measured line is longer than the buffer, or the line.
use mathlib.Core.Path.{ap, ◌∙◌}
use native.Mathlib.Omega.{arith}
use mathlib.Core.List.{List}
use Prim.Native.Nat.{ℕ}
use Rattle.std.specs.Prelude.{Err, Result}
use Rattle.rules.specs.declared.Refused.{Refused}
use Rattle.judge_check.specs.Checked.{line_of}
use Rattle.host_names.proofs.Named.{no-space, whole-said}
use Rattle.host_check.proofs.say_line.Goals as goal

pub returns-then-out-length : goal.returns-then-out-length
returns-then-out-length c =
    ap {B = Result ℕ Refused × List ℕ} (λ (why : Refused). (Err why, c.args.out.now)) c.at.ensures ∙ no-space (line_of c.args.checked) (omega (arith, c.requires)) c.put_line-length.ensures c.args.out.now c.if-out-length.true

pub returns : goal.returns
returns c =
    whole-said (line_of c.args.checked) (omega (arith, c.requires)) c.put_line-length.ensures c.args.out.now c.if-out-length.false c.put_line.ensures
