-- `write_texts::add_lines` meets its contract, text by text.
use mathlib.Core.Path.{sym, ap, ◌∙◌}
use Rattle.write_parts.specs.Parts.{added_all}
use Rattle.write_texts.specs.Texts.{text_lines}
use Rattle.write_texts.specs.declared.Text.{Text}
use Rattle.write_texts.proofs.add_lines.Goals as goal

pub returns-in-Listing : goal.returns-in-Listing
unfolding text_lines
returns-in-Listing c =
    let a = c.args in
    c.add_listing.ensures
    ∙ sym (ap (λ (x : Text). added_all (text_lines x a.t a.e) (a.part, a.out.now)) c.in-Listing.is)
