-- What a start or a move answers, with its verdict as a number.
use Rattle.rules.specs.Cases.{verdict_numbers}
use Rattle.move_trial.specs.declared.Answer.{Answer}
use Rattle.tsurmokan.specs.declared.records.Started.{Started}

unfoldable pub numbered : Answer → Started
unfolding verdict_numbers
numbered a = record { refusal = (verdict_numbers a.verdict).refusal; trial = a.trial }
