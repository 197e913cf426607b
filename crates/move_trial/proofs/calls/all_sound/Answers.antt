-- `move_trial::calls::all_sound` meets its contract: what is left of the lists decides as the whole does.
use Rattle.std.proofs.Common.{sym, ◌∙◌, inl, inr, ⊎_elim}
use Rattle.move_trial.proofs.Pairs.{sound_more, sound-not, sound-end}
use Rattle.move_trial.proofs.calls.all_sound.Goals as goal

pub returns-then-not-sound_of : goal.returns-then-not-sound_of
returns-then-not-sound_of c =
    let v = c.in-Some.ensures.steps in
    sym (sound-not c.args.n _ _ _ _ _ _ v.0 v.1 (sym c.sound_of.ensures ∙ c.if-not-sound_of.true)) ∙ c.loop-f.invariant

pub loop-f-preserved : goal.loop-f-preserved
loop-f-preserved c =
    let v = c.in-Some.ensures.steps in
    sym (sound_more c.args.n _ _ _ _ _ _ v.0 v.1 (sym c.sound_of.ensures ∙ c.if-not-sound_of.false)) ∙ c.loop-f.invariant

pub returns : goal.returns
returns c =
    sym (sound-end c.args.n _ _ (⊎_elim (λ p. inl p.1.0) (λ p. inr p.1.0) c.in-None.ensures.steps)) ∙ c.loop-f.invariant
