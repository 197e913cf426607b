-- `write_report::add_listed` meets its contract. The loop's invariant: the lines of the requirements still to come, added to what there is, are those of
-- all, added to what there was; and as long as none is missed, those among the unmet are the same with the requirements behind it and without.
use mathlib.Core.Path.{◌≡◌}
use Prim.Native.Nat.{◌≤◌, ◌+◌, ◌*◌}
use lib.ListN.{length}
use Rattle.std.specs.Iterator.Adapters.{enumerate_source, enumerate_count}
use Rattle.families.specs.Families.{requirements_in}
use Rattle.code_walking.specs.Walking.{left}
use Rattle.write_parts.specs.Parts.{added_all}
use Rattle.write_parts.proofs.Adding.{Lent}
use Rattle.write_report.specs.Report.{lines_of}
use Rattle.write_report.specs.declared.Listed.{Listed}
use Rattle.write_report.proofs.add_listed.Given as goal

abbrev pub invariant-loop-k : goal.invariant-loop-k
invariant-loop-k l =
    let k = enumerate_count l.k-iterator in
    let ahead = left (enumerate_source l.k-iterator) in
    (goal.iterator-loop-k).can_next l.k-iterator × (goal.iterator-loop-k).is_finite l.k-iterator
    × (k + length ahead ≤ 64 * length l.fs) × (length l.out ≡ length l.initial.out) × (
    ◌≡◌ {A = Lent} (added_all (lines_of l.listed k l.bits ahead) (l.to, l.out)) (added_all (lines_of l.listed 0 l.bits (requirements_in l.fs)) (l.initial.to, l.initial.out))
    ) × (l.unmet ≤ k) × (l.unmet ≡ 0 → (s : Lent) → added_all (lines_of Listed.Unmet 0 l.bits (requirements_in l.fs)) s ≡ added_all (lines_of Listed.Unmet k l.bits ahead) s)
