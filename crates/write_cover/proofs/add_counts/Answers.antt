-- `write_cover::add_counts` meets its contract: four lines, one after the other.
use mathlib.Core.Path.{sym, ◌∙◌}
use Rattle.write_parts.proofs.Adding.{all_one, all_first}
use Rattle.write_cover.specs.Covers.{count_lines}
use Rattle.write_cover.proofs.add_counts.Goals as goal

pub returns : goal.returns
unfolding count_lines
returns c =
    all_first _ _ _ _ _ c.add_count-p.ensures
    (all_first _ _ _ _ _ c.add_count-q.ensures
    (all_first _ _ _ _ _ c.add_line-s.ensures (c.add_count.ensures ∙ sym (all_one _ _))))
