-- `write_texts::verdict_of` meets its contract, text by text.
use mathlib.Core.Path.{sym, ap, ◌∙◌}
use Rattle.write_texts.specs.Texts.{verdict_of}
use Rattle.write_texts.specs.declared.Text.{Text}
use Rattle.write_texts.proofs.verdict_of.Goals as goal

pub returns-in-Report : goal.returns-in-Report
unfolding verdict_of
returns-in-Report c =
    let a = c.args in
    sym (ap (λ (x : Text). verdict_of x a.t a.e) c.in-Report.is)

pub returns-in-Cover : goal.returns-in-Cover
unfolding verdict_of
returns-in-Cover c =
    let a = c.args in
    c.cover_verdict.ensures ∙ sym (ap (λ (x : Text). verdict_of x a.t a.e) c.in-Cover.is)

pub returns-in-Widths : goal.returns-in-Widths
unfolding verdict_of
returns-in-Widths c =
    let a = c.args in
    sym (ap (λ (x : Text). verdict_of x a.t a.e) c.in-Widths.is)

pub returns-in-Listing : goal.returns-in-Listing
unfolding verdict_of
returns-in-Listing c =
    let a = c.args in
    sym (ap (λ (x : Text). verdict_of x a.t a.e) c.in-Listing.is)
