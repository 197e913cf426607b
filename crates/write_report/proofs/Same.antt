-- The report written from an answer that holds the code of a fair listing is the report of 01.
use Rattle.rules.specs.declared.BitNumber.{BitNumber}
use Rattle.std.specs.Prelude.{Option, Some, None}
use mathlib.Core.Path.{◌≡◌, sym, ap, ◌∙◌}
use mathlib.Core.List.{List, [], ◌∷◌, ◌++◌, map}
use Prim.Native.Nat.{ℕ, suc, ◌≤◌}
use mathlib.Core.Bool.{true}
use native.Mathlib.Omega.{arith}
use lib.ListN.{length, take}
use lib.Seq.{take_all}
use Rattle.sets.specs.Sets.{states_from}
use Rattle.rules.specs.Limits.{most_rows, most_dichotomies}
use Rattle.rules.specs.Code.{Code, unmet}
use Rattle.rules.specs.Text.{bytes}
use Rattle.rules.specs.Report.{count_line, state_line, unmet_line, joined_lines, met_lines, report_lines, report}
use Rattle.rules.specs.declared.Listing.{Listing}
use Rattle.rules.specs.declared.Encoding.{Encoding}
use Rattle.rules.specs.declared.Requirement.{Requirement}
use Rattle.rules.proofs.Good.{AllGood}
use Rattle.code_fair.specs.Fair.{fair}
use Rattle.code_fair.proofs.Limits.{fair-grants}
use Rattle.families.specs.Families.{requirements_in}
use Rattle.code_drawing.specs.Drawing.{all_families}
use Rattle.code_drawing.proofs.Requirements.{all_are}
use Rattle.code_drawing.proofs.Whole.{few-all}
use Rattle.code_judging.proofs.Wide.{unmet-wide}
use Rattle.rules.specs.Requirements.{requirements, judgement}
use Rattle.rules.proofs.Ended.{ended-map, Pieces, no-piece, gap, piece, pieces, pieces-append}
use Rattle.rules.proofs.ReportLines.{count-ended, state-ended, met-ended, unmet-ended, end-ended}
use Rattle.write_pen.proofs.Growing.{joined-append}
use Rattle.write_report.specs.Report.{state_lines, line_for, lines_of, most_words, first_of, encoded_lines, encoded_report, Holds}
use Rattle.write_report.specs.declared.Listed.{Listed}
use Rattle.write_report.proofs.Judged.{mets-are, unmets-are, mets-wide}

-- a report by its parts
abbrev text : ℕ → ℕ → List ℕ → ℕ → ℕ → List ℕ → List ℕ → ℕ → ℕ → List ℕ
text n width bits asked left met unmet passes looks = count_line width asked left passes looks ++ (joined_lines (state_lines bits n) ++ (met ++ (unmet ++ bytes "EN\n")))

-- lines of five kinds, one behind the other
five-joined : (a : List ℕ) (ss ms us : List (List ℕ)) → joined_lines (a ∷ (ss ++ (ms ++ (us ++ (bytes "EN\n" ∷ []))))) ≡ a ++ (joined_lines ss ++ (joined_lines ms ++ (joined_lines us ++ bytes "EN\n")))
unfolding joined_lines
five-joined a ss ms us =
    ap (λ (l : List ℕ). a ++ l)
    (joined-append ss (ms ++ (us ++ (bytes "EN\n" ∷ [])))
    ∙ ap (λ (l : List ℕ). joined_lines ss ++ l) (joined-append ms (us ++ (bytes "EN\n" ∷ [])) ∙ ap (λ (l : List ℕ). joined_lines ms ++ l) (joined-append us (bytes "EN\n" ∷ []))))

encoded-text : (n : ℕ) (fs : List ℕ) (e : Encoding)
    → let bits : List ℕ = take e.width e.bits in
    encoded_report n fs e
    ≡ text n e.width bits e.asked e.unmet (joined_lines (lines_of Listed.Met 0 bits (requirements_in (first_of fs)))) (joined_lines (lines_of Listed.Unmet 0 bits (requirements_in (first_of fs)))) e.passes e.looks
unfolding encoded_report encoded_lines
encoded-text n fs e =
    let bits : List ℕ = take e.width e.bits in
    let rs : List Requirement = requirements_in (first_of fs) in
    five-joined (count_line e.width e.asked e.unmet e.passes e.looks) (state_lines bits n) (lines_of Listed.Met 0 bits rs) (lines_of Listed.Unmet 0 bits rs)

report-text : (t : Listing) (c : Code)
    → report t c
    ≡ text t.head.states (length c.bits) c.bits (length (requirements t)) (length (unmet t c.bits))
    (joined_lines (met_lines 0 t.head.states c.bits (requirements t))) (joined_lines (map (λ r. unmet_line (record { 0 = r })) (unmet t c.bits))) c.passes c.looks
unfolding report report_lines state_lines
report-text t c =
    let un : List ℕ = unmet t c.bits in
    five-joined (count_line (length c.bits) (length (requirements t)) (length un) c.passes c.looks) (state_lines c.bits t.head.states)
    (met_lines 0 t.head.states c.bits (requirements t)) (map (λ r. unmet_line (record { 0 = r })) un)

module _ (t : Listing) (f : fair t ≡ true) (good : AllGood t.head.states (requirements t)) (long : length t.table ≡ most_rows) (wide : length t.asked ≡ most_dichotomies) where
  few : t.head.states ≤ 64
  few = omega (arith, (fair-grants t f).limits.few-states)

  -- there are no more than the report walks over
  all_first : first_of (all_families t) ≡ all_families t
  all_first = take_all most_words (all_families t) (few-all t long wide)

  asked-are : requirements_in (first_of (all_families t)) ≡ requirements t
  asked-are = ap requirements_in all_first ∙ all_are t f

  same_met : (bits : List ℕ) → joined_lines (lines_of Listed.Met 0 bits (requirements_in (first_of (all_families t)))) ≡ joined_lines (met_lines 0 t.head.states bits (requirements t))
  same_met bits = ap (λ (rs : List Requirement). joined_lines (lines_of Listed.Met 0 bits rs)) asked-are ∙ mets-are 0 bits (requirements t) ∙ ap joined_lines (mets-wide t.head.states few 0 bits (requirements t) good)

  same-unmet : (bits : List ℕ) → joined_lines (lines_of Listed.Unmet 0 bits (requirements_in (first_of (all_families t)))) ≡ joined_lines (map (λ r. unmet_line (record { 0 = r })) (unmet t bits))
  unfolding unmet
  same-unmet bits = ap (λ (rs : List Requirement). joined_lines (lines_of Listed.Unmet 0 bits rs)) asked-are ∙ unmets-are 0 bits (requirements t) ∙ ap (λ (ns : List ℕ). joined_lines (map (λ r. unmet_line (record { 0 = r })) ns)) (unmet-wide t.head.states few 0 bits (requirements t) good)

  pub same-report : (c : Code) (e : Encoding) → Holds t c e → encoded_report t.head.states (all_families t) e ≡ report t c
  same-report c e h =
      encoded-text t.head.states (all_families t) e
      ∙ cc (same_met (take e.width e.bits), same-unmet (take e.width e.bits))
      ∙ sym (report-text t c)

-- ---- and its lines are lines

judged-pieces : (l : Listed) (k : ℕ) (bits : List ℕ) (rs : List Requirement) → Pieces (lines_of l k bits rs)
unfolding lines_of line_for
judged-pieces l k bits [] = no-piece
judged-pieces l k bits (r ∷ rs) = go l (judgement 64 bits r) (judged-pieces l (suc k) bits rs)
  where
    go : (l : Listed) (j : Option BitNumber) {ls : List (List ℕ)} → Pieces ls → Pieces (line_for l k j ∷ ls)
    go Listed.Met (Some b) a = piece (met-ended (record { 0 = k }) b) a
    go Listed.Met None a = gap a
    go Listed.Unmet (Some b) a = gap a
    go Listed.Unmet None a = piece (unmet-ended (record { 0 = k })) a

pub report-pieces : (n : ℕ) (fs : List ℕ) (e : Encoding) → Pieces (encoded_lines n fs e)
unfolding encoded_lines state_lines
report-pieces n fs e =
    let bits : List ℕ = take e.width e.bits in
    let rs : List Requirement = requirements_in (first_of fs) in
    piece (count-ended e.width e.asked e.unmet e.passes e.looks)
    (pieces-append (pieces (ended-map (λ s. state_line bits (record { 0 = s })) (λ s. state-ended bits (record { 0 = s })) (states_from 0 n)))
    (pieces-append (judged-pieces Listed.Met 0 bits rs) (pieces-append (judged-pieces Listed.Unmet 0 bits rs) (piece end-ended no-piece))))
