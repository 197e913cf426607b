-- `write_report::add_report` meets its contract: lines of each kind, one kind behind the other.
use mathlib.Core.Path.{◌≡◌, sym, ap, ◌∙◌}
use mathlib.Core.List.{List, [], ◌∷◌}
use borrow.Author.Rules.{rules}
use lib.ListN.{length, take}
use Rattle.rules.specs.Limits.{most_bits}
use Rattle.rules.specs.Text.{bytes}
use Rattle.families.specs.Families.{requirements_in}
use Rattle.write_parts.specs.Parts.{added_all}
use Rattle.write_parts.proofs.Adding.{all_one, all_first, all-behind}
use Rattle.write_report.specs.Report.{state_lines, lines_of}
use Rattle.write_report.specs.declared.Listed.{Listed}
use Rattle.write_report.proofs.Lines.{report-parts}
use Rattle.write_report.proofs.add_report.Goals.{Start}
use Rattle.write_report.proofs.add_report.Goals as goal

-- the places of the code
long : (c : Start) → length c.args.e.bits ≡ most_bits
long c = search rules

pub returns : goal.returns
returns c =
    let bits = take c.least-width.result c.args.e.bits in
    let rs = requirements_in (take c.least-end.result c.args.fs.now) in
    all_first _ _ _ _ _ c.add_counts-p.ensures
    (all-behind (state_lines bits c.args.n) _ _ _ _ c.add_states-q.ensures
    (all-behind (lines_of Listed.Met 0 bits rs) _ _ _ _ c.add_listed-r.ensures.0
    (all-behind (lines_of Listed.Unmet 0 bits rs) (bytes "EN\n" ∷ []) _ _ _ c.add_unmet-s.ensures (c.add_line.ensures ∙ sym (all_one (bytes "EN\n") _)))))
    ∙ ap (λ (ls : List (List _)). added_all ls (c.args.part, c.args.out.now)) (report-parts c.args.n c.args.fs.now c.args.e (long (goal.at.returns c).Start) c.least-width.ensures c.least-end.ensures)
