-- `judge_cover::places_fit` meets its contract.
use native.Mathlib.Omega.{arith}
use Rattle.judge_cover.proofs.Laws.{fit_none, fit_length, fit_all}
use Rattle.judge_cover.proofs.places_fit.Goals as goal

pub returns-then-k-lt1 : goal.returns-then-k-lt1
returns-then-k-lt1 c = fit_none _ _ c.if-k-lt1.true

pub returns-then-f-k : goal.returns-then-f-k
returns-then-f-k c = fit_length _ _ (omega (arith, c.if-k-lt1.false)) c.if-f-k.true

pub returns : goal.returns
returns c =
    fit_all _ _ (omega (arith, c.if-k-lt1.false)) c.if-f-k.false c.are_places.ensures
