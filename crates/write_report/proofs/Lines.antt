-- The report, one line more at the end, and from its parts, as it is written.
use mathlib.Core.Path.{◌≡◌, refl, sym, ap, ◌∙◌}
use mathlib.Core.Bool.{Bool, true, false}
use mathlib.Core.List.{List, [], ◌∷◌, ◌++◌, map, map-append}
use Prim.Native.Nat.{ℕ, ◌+◌, min}
use native.Mathlib.Omega.{arith}
use lib.Dec.{leb}
use lib.ListN.{length, take}
use lib.Seq.{take_all}
use borrow.Author.Tests.{leb-true, leb-false}
use Rattle.sets.specs.Sets.{states_from}
use Rattle.rules.specs.declared.Encoding.{Encoding}
use Rattle.families.specs.Families.{requirements_in}
use Rattle.sets.proofs.Places.{take-most}
use Rattle.rules.specs.Limits.{most_bits}
use Rattle.rules.specs.Text.{bytes}
use Rattle.rules.specs.Report.{count_line, state_line}
use Rattle.write_pen.proofs.Growing.{states-one}
use Rattle.write_report.specs.Report.{state_lines, lines_of, most_words, first_of, encoded_lines}
use Rattle.write_report.specs.declared.Listed.{Listed}

-- ---- lines of states

pub states-none : (bits : List ℕ) → state_lines bits 0 ≡ []
unfolding state_lines states_from
states-none bits = refl

pub states-more : (bits : List ℕ) (i : ℕ) → state_lines bits (i + 1) ≡ state_lines bits i ++ (state_line bits (record { 0 = i }) ∷ [])
unfolding state_lines
states-more bits i =
    ap (map (λ s. state_line bits (record { 0 = s }))) (states-one i) ∙ map-append (λ s. state_line bits (record { 0 = s })) (states_from 0 i) (i ∷ [])

-- ---- the whole report, from the parts of the answer's code and of the families that their arrays hold

pub first-words : (fs : List ℕ) {k : ℕ} → k ≡ min (length fs) most_words → take k fs ≡ first_of fs
first-words fs {k} e = ap (λ (j : ℕ). take j fs) e ∙ go (leb (length fs) most_words) refl
  where
    go : (t : Bool) → leb (length fs) most_words ≡ t → take (min (length fs) most_words) fs ≡ take most_words fs
    go true h =
        let l = leb-true (length fs) most_words h in
        take_all (min (length fs) most_words) fs (omega arith) ∙ sym (take_all most_words fs l)
    go false h = let l = leb-false (length fs) most_words h in let m : min (length fs) most_words ≡ most_words = omega arith in ap (λ (j : ℕ). take j fs) m

pub report-parts : (n : ℕ) (fs : List ℕ) (e : Encoding) {w k : ℕ}
    → length e.bits ≡ most_bits
    → w ≡ min e.width most_bits
    → k ≡ min (length fs) most_words
    → count_line e.width e.asked e.unmet e.passes e.looks
    ∷ (state_lines (take w e.bits) n
    ++ (lines_of Listed.Met 0 (take w e.bits) (requirements_in (take k fs)) ++ (lines_of Listed.Unmet 0 (take w e.bits) (requirements_in (take k fs)) ++ (bytes "EN\n" ∷ []))))
    ≡ encoded_lines n fs e
unfolding encoded_lines
report-parts n fs e hb hw hk = rw (hw, take-most e.width most_bits e.bits hb, first-words fs hk)
