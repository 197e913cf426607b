-- What is ready, or refused: the lines of its text, and its reply.
use mathlib.Core.Path.{◌≡◌, sym, ap, subst, ◌∙◌}
use mathlib.Core.List.{List}
use Prim.Native.Nat.{ℕ}
use native.Mathlib.Omega.{arith}
use Rattle.rules.specs.Report.{joined_lines}
use Rattle.rules.specs.Answers.{Reply}
use Rattle.rules.proofs.Ended.{Pieces, no-piece}
use Rattle.write_texts.proofs.Lines.{text-pieces}
use Rattle.host_replies.specs.Ready.{lines_of, reply_of, Few, ready}
use Rattle.host_replies.specs.declared.Ready.{Ready}
use Rattle.host_replies.specs.Saying.{saying, saying_part, reply_to}
use Rattle.host_replies.specs.declared.plans.Wanted.{Wanted}
use Rattle.host_replies.proofs.Replies.{Small, reply-is, reply-small}
use Rattle.rules.specs.declared.Refused.{Refused}
use Rattle.std.specs.Prelude.{Ok, Err, Result}

pub ready-pieces : (d : Result Ready Refused) → Pieces (lines_of d)
unfolding lines_of
ready-pieces (Ok d) = text-pieces d.text d.listing d.encoding
ready-pieces (Err why) = no-piece

pub few : (d : Result Ready Refused) → Small (reply_of d) → Few d
unfolding reply_of lines_of joined_lines
few (Ok d) h = h
few (Err why) h = omega arith

-- ---- what the steps gave of some bytes

module _ (w : Wanted) (s : List ℕ) {d : Result Ready Refused} (e : d ≡ ready w s) where
  -- is said as the reply to them
  pub said-so : (out : List ℕ) → saying (reply_of d) out ≡ saying (reply_to w s) out
  said-so out = ap (λ (x : Result Ready Refused). saying (reply_of x) out) e ∙ ap (λ (x : Reply). saying x out) (reply-is w s)

  pub part-so : (from : ℕ) (out : List ℕ) → saying_part (reply_of d) from out ≡ saying_part (reply_to w s) from out
  part-so from out = ap (λ (x : Result Ready Refused). saying_part (reply_of x) from out) e ∙ ap (λ (x : Reply). saying_part x from out) (reply-is w s)

  -- and is small
  pub few-so : Few d
  few-so = subst Few (sym e) (few (ready w s) (reply-small w s))
