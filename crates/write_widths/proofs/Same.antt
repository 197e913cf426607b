-- What is written from an answer that holds the widest code of a fair listing is what 02 prints for its widths; and how long that can be.
use mathlib.Core.Path.{◌≡◌, refl, sym, ap, ap₂, ◌∙◌}
use mathlib.Core.Bool.{Bool, true, false, not}
use mathlib.Core.List.{List, [], ◌∷◌, ◌++◌, map}
use Prim.Native.Nat.{ℕ, zero, suc, ◌+◌, ◌*◌, ◌^◌, ◌≤◌, ◌<◌}
use native.Mathlib.Omega.{arith}
use lib.Dec.{leb}
use lib.ListN.{length, take, length-append, length-take}
use lib.Seq.{take_all}
use Rattle.sets.specs.Sets.{states_from}
use Rattle.rules.specs.Limits.{most_bits, most_asked, most_rows, most_dichotomies}
use Rattle.rules.specs.Text.{bytes}
use Rattle.rules.specs.Requirements.{requirements, pairs_and_groups}
use Rattle.rules.specs.Code.{unmet, unmet_from}
use Rattle.rules.specs.Report.{joined_lines}
use Rattle.rules.specs.Widths.{bits_of, covered, width_line, width_lines, widths}
use Rattle.rules.specs.declared.Listing.{Listing}
use Rattle.rules.specs.declared.Encoding.{Encoding}
use Rattle.rules.specs.declared.Requirement.{Requirement}
use Rattle.rules.proofs.Decimal.{decimal-length}
use Rattle.rules.proofs.Parts.{AllFit, fit_none, fit-more, fit_append}
use Rattle.write_parts.specs.Parts.{longest_line}
use Rattle.rules.proofs.Good.{AllGood}
use Rattle.rules.proofs.Built.{built}
use Rattle.rules.proofs.Wider.{one_code}
use Rattle.code_fair.specs.Fair.{fair}
use Rattle.code_fair.proofs.Limits.{fair-grants}
use Rattle.families.specs.Families.{requirements_in}
use Rattle.code_drawing.specs.Drawing.{first_families, all_families}
use Rattle.code_drawing.proofs.Requirements.{all_are, first-are}
use Rattle.code_drawing.proofs.Whole.{few-all}
use Rattle.code_judging.specs.Judging.{some_unmet}
use Rattle.code_judging.proofs.Wide.{unmet-wide}
use Rattle.code_judging.proofs.Judgement.{good-front}
use Rattle.write_pen.proofs.Growing.{joined-append, joined-one}
use Rattle.write_report.specs.Report.{most_words, first_of}
use Rattle.write_report.proofs.Length.{unmet-few}
use Rattle.write_widths.specs.Widths.{line_of, lines_to, encoded_lines, encoded_widths}

-- no code has more bits than the widest
widest-few : (t : Listing) → AllGood t.head.states (requirements t) → length (bits_of t most_bits) ≤ most_bits
unfolding bits_of
widest-few t good = (built most_bits t.head.states (requirements t) good).few

module _ (t : Listing) (f : fair t ≡ true) (good : AllGood t.head.states (requirements t)) where
  few : t.head.states ≤ 64
  few = omega (arith, (fair-grants t f).limits.few-states)

  -- the line of a width that the code has: its first bits are the code of that width
  same_line : (w : ℕ) → w ≤ most_bits → line_of (all_families t) (first_families t) (bits_of t most_bits) w ≡ width_line w (length (unmet t (bits_of t w))) (covered t (bits_of t w))
  unfolding line_of some_unmet unmet covered requirements
  same_line w h =
      let bits : List ℕ = take w (bits_of t most_bits) in
      let all = ap (λ (rs : List Requirement). length (unmet_from 0 64 bits rs)) (all_are t f) ∙ ap length (unmet-wide t.head.states few 0 bits (requirements t) good) in
      let first =
      ap (λ (rs : List Requirement). not (leb 1 (length (unmet_from 0 64 bits rs)))) (first-are t f)
      ∙ ap (λ (l : List ℕ). not (leb 1 (length l))) (unmet-wide t.head.states few 0 bits (pairs_and_groups t) (good-front t.head.states (pairs_and_groups t) _ good)) in
      ap₂ (λ (k : ℕ) (b : Bool). width_line w k b) all first
      ∙ ap (λ (bs : List ℕ). width_line w (length (unmet t bs)) (covered t bs)) (sym (one_code t w h))

  same_lines : (a k : ℕ) → a + k ≤ suc most_bits
      → map (line_of (all_families t) (first_families t) (bits_of t most_bits)) (states_from a k) ≡ map (λ w. width_line w (length (unmet t (bits_of t w))) (covered t (bits_of t w))) (states_from a k)
  unfolding states_from
  same_lines a zero h = refl
  same_lines a (suc k) h = ap₂ {C = List (List ℕ)} (λ l ls. l ∷ ls) (same_line a (omega arith)) (same_lines (suc a) k (omega arith))

  -- from an answer that holds the widest code, and its families, of which so many words are the pairs' and the groups'
  pub same-widths : length t.table ≡ most_rows → length t.asked ≡ most_dichotomies → (e : Encoding) → take e.width e.bits ≡ bits_of t most_bits
      → (first : ℕ) → take first (all_families t) ≡ first_families t → encoded_widths (all_families t) first e ≡ widths t
  unfolding encoded_widths encoded_lines lines_to widths width_lines
  same-widths long wide e holds first front =
      let all = take_all most_words (all_families t) (few-all t long wide) in
      let end : List (List ℕ) = bytes "EN\n" ∷ [] in
      let narrow : length (bits_of t most_bits) ≤ most_bits = widest-few t good in
      ap joined_lines
      (ap (λ (bs : List ℕ). lines_to (first_of (all_families t)) (take first (first_of (all_families t))) bs (length bs) ++ end) holds
      ∙ ap (λ (fs : List ℕ). lines_to fs (take first fs) (bits_of t most_bits) (length (bits_of t most_bits)) ++ end) all
      ∙ ap (λ (gs : List ℕ). lines_to (all_families t) gs (bits_of t most_bits) (length (bits_of t most_bits)) ++ end) front
      ∙ ap (λ (ls : List (List ℕ)). ls ++ end) (same_lines 1 (length (bits_of t most_bits)) (omega arith)))

-- ---- how long it can be

pub line-length : (d f w k : ℕ) (b : Bool) → w < 10 ^ (d + 1) → k < 10 ^ (f + 1) → length (width_line w k b) ≤ d + f + 9
unfolding width_line
line-length d f w k true hw hk = simp length-append (omega (arith, decimal-length d w hw, decimal-length f k hk, decimal-length 0 1 (omega arith)))
line-length d f w k false hw hk = simp length-append (omega (arith, decimal-length d w hw, decimal-length f k hk, decimal-length 0 0 (omega arith)))

lines-length : (fs gs bits : List ℕ) → length (requirements_in fs) ≤ most_asked → (a k : ℕ) → a + k ≤ 100
    → length (joined_lines (map (line_of fs gs bits) (states_from a k))) ≤ 14 * k
unfolding joined_lines states_from line_of
lines-length fs gs bits h a zero q = omega arith
lines-length fs gs bits h a (suc k) q =
    let u : ℕ = length (unmet_from 0 64 (take a bits) (requirements_in fs)) in
    let b : Bool = not (some_unmet (take a bits) (requirements_in gs)) in
    let rest : List ℕ = joined_lines (map (line_of fs gs bits) (states_from (suc a) k)) in
    let few = unmet-few 0 64 (take a bits) (requirements_in fs) in
    omega (arith, length-append (width_line a u b) rest, line-length 1 4 a u b (omega arith) (omega (arith, few)), lines-length fs gs bits h (suc a) k (omega arith))

pub widths-length : (fs : List ℕ) (first : ℕ) (e : Encoding) → e.width ≤ most_bits → length (requirements_in (first_of fs)) ≤ most_asked → length (encoded_widths fs first e) ≤ 899
unfolding encoded_widths encoded_lines lines_to
widths-length fs first e h q =
    let bits : List ℕ = take e.width e.bits in
    let narrow : length bits ≤ most_bits = omega (arith, length-take e.width e.bits) in
    let lines : List (List ℕ) = map (line_of (first_of fs) (take first (first_of fs)) bits) (states_from 1 (length bits)) in
    rw (joined-append lines (bytes "EN\n" ∷ []), joined-one (bytes "EN\n"))
    (omega (arith, length-append (joined_lines lines) (bytes "EN\n"), lines-length (first_of fs) (take first (first_of fs)) bits q 1 (length bits) (omega arith)))

-- and no line of it is longer than the longest
lines_fit : (fs gs bits : List ℕ) → length (requirements_in fs) ≤ most_asked → (a k : ℕ) → a + k ≤ 100 → AllFit longest_line (map (line_of fs gs bits) (states_from a k))
unfolding states_from line_of
lines_fit fs gs bits h a zero q = fit_none
lines_fit fs gs bits h a (suc k) q =
    let u : ℕ = length (unmet_from 0 64 (take a bits) (requirements_in fs)) in
    let few = unmet-few 0 64 (take a bits) (requirements_in fs) in
    fit-more {l = width_line a u (not (some_unmet (take a bits) (requirements_in gs)))} (omega (arith, line-length 1 4 a u (not (some_unmet (take a bits) (requirements_in gs))) (omega arith) (omega (arith, few)))) (lines_fit fs gs bits h (suc a) k (omega arith))

pub widths-fit : (fs : List ℕ) (first : ℕ) (e : Encoding) → e.width ≤ most_bits → length (requirements_in (first_of fs)) ≤ most_asked → AllFit longest_line (encoded_lines fs first e)
unfolding encoded_lines lines_to
widths-fit fs first e h q =
    let bits : List ℕ = take e.width e.bits in
    let narrow : length bits ≤ most_bits = omega (arith, length-take e.width e.bits) in
    fit_append (lines_fit (first_of fs) (take first (first_of fs)) bits q 1 (length bits) (omega arith)) (fit-more {l = bytes "EN\n"} (omega arith) fit_none)
