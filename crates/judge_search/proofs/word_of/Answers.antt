-- `judge_search::word_of` meets its contract: the word stands for the rows from k on.
use mathlib.Core.Bool.{Bool, true, false}
use mathlib.Core.Path.{◌≡◌, refl, ap, ◌∙◌}
use Prim.Native.Nat.{suc, ◌-◌}
use native.Mathlib.Nat.{pow-suc}
use native.Mathlib.Omega.{arith}
use mir.Val.{bool_byte}
use Rattle.rules.specs.Text.{digit}
use Rattle.judge_search.proofs.Columns.{digit-le, word_end, word_back}
use Rattle.judge_search.proofs.word_of.Goals as goal

as_digit : (b : Bool) → bool_byte b ≡ digit b
as_digit true = refl
as_digit false = refl

pub loop-k-init : goal.loop-k-init
loop-k-init g c = (omega arith, λ p agree. word_end p c.args.from)

pub loop-k-preserved : goal.loop-k-preserved
loop-k-preserved g c =
    let l = c.loop-k in
    let more : 64 - (l.k - 1) ≡ suc (64 - l.k) = omega arith in
    let d = c.from.ensures ∙ as_digit c.test.result in (
      rw more (omega (arith, pow-suc 2 (64 - l.k), d, digit-le c.test.result, l.invariant.0)),
      λ p agree. word_back p c.args.from l.k (omega arith) (omega arith) (l.invariant.1 p agree) (d ∙ ap digit (agree _ _ c.test.ensures)),
    )
