-- `judge_rows::marks_of` meets its contract.
use mathlib.Core.Path.{sym, ◌∙◌}
use Rattle.rules.specs.Text.{nought, one, dash}
use Rattle.read_fields.proofs.Sets.{places-read, places-none}
use Rattle.judge_rows.proofs.Laws.{marks-bad, marks-good}
use Rattle.judge_rows.proofs.marks_of.Goals as goal

pub returns-in_default : goal.returns-in_default
returns-in_default c =
    marks-bad _ (places-none nought one dash _ 64 _ (λ l. l) (sym c.places_in.ensures ∙ c.in_default.is))

pub returns : goal.returns
returns c =
    let fit = places-read nought one dash _ 64 _ (λ l. l) (sym c.places_in.ensures ∙ c.in-Some.is) in
    marks-good _ fit.0 fit.1 fit.2
