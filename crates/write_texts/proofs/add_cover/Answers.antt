-- `write_texts::add_cover` meets its contract.
use Rattle.write_texts.specs.Texts.{text_lines}
use Rattle.write_texts.proofs.add_cover.Goals as goal

pub returns : goal.returns
unfolding text_lines
returns c =
    c.add_cover.ensures
