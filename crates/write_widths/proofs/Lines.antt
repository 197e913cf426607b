-- The lines of the widths, one more at the end, and from their parts, as they are written; and the line by its fields.
use mathlib.Core.Path.{◌≡◌, refl, ap, ◌∙◌}
use mathlib.Core.Bool.{Bool}
use mathlib.Core.List.{List, [], ◌∷◌, ◌++◌, map, map-append, append_assoc}
use Prim.Native.Nat.{ℕ, ◌+◌, min}
use native.Mathlib.Omega.{arith}
use lib.ListN.{length, take, length-take}
use Rattle.sets.specs.Sets.{states_from}
use Rattle.sets.proofs.Places.{take-most}
use Rattle.rules.specs.Limits.{most_bits}
use Rattle.rules.specs.Text.{bytes, digit, lf, space, decimal}
use Rattle.rules.specs.Widths.{width_line}
use Rattle.rules.specs.declared.Encoding.{Encoding}
use Rattle.families.proofs.Runs.{states-append}
use Rattle.rules.proofs.Ended.{no_line, line, ended-append, ended-map, Pieces, pieces}
use Rattle.rules.proofs.ReportLines.{end-ended, width-ended}
use Rattle.write_report.specs.Report.{most_words, first_of}
use Rattle.write_report.proofs.Lines.{first-words}
use Rattle.write_widths.specs.Widths.{line_of, lines_to, encoded_lines}

pub width-fields : (width unmet : ℕ) (c : Bool)
    → bytes "WD " ++ ((decimal width ++ (space ∷ [])) ++ ((decimal unmet ++ (space ∷ [])) ++ (decimal (digit c) ++ (lf ∷ [])))) ≡ width_line width unmet c
unfolding width_line
width-fields width unmet c = simp append_assoc

module _ (fs gs bits : List ℕ) where
  pub lines_none : lines_to fs gs bits 0 ≡ []
  unfolding lines_to states_from
  lines_none = refl

  pub lines_more : (k : ℕ) → lines_to fs gs bits (k + 1) ≡ lines_to fs gs bits k ++ (line_of fs gs bits (k + 1) ∷ [])
  unfolding lines_to states_from
  lines_more k =
      let e : 1 + k ≡ k + 1 = omega arith in
      ap (map (line_of fs gs bits)) (states-append 1 k 1 ∙ ap (λ (j : ℕ). states_from 1 k ++ (j ∷ [])) e) ∙ map-append (line_of fs gs bits) (states_from 1 k) ((k + 1) ∷ [])

-- ---- the whole, from the parts of the answer's code and of the families that their arrays hold

pub widths-parts : (fs : List ℕ) (first : ℕ) (e : Encoding) {w k f : ℕ}
    → length e.bits ≡ most_bits
    → w ≡ min e.width most_bits
    → k ≡ min (length fs) most_words
    → f ≡ min first k
    → lines_to (take k fs) (take f (take k fs)) (take w e.bits) (length (take w e.bits)) ++ (bytes "EN\n" ∷ []) ≡ encoded_lines fs first e
unfolding encoded_lines
widths-parts fs first e {w} {k} {f} hb hw hk hf =
    let end : List (List ℕ) = bytes "EN\n" ∷ [] in
    ap (λ (bs : List ℕ). lines_to (take k fs) (take f (take k fs)) bs (length bs) ++ end) (ap (λ (j : ℕ). take j e.bits) hw ∙ take-most e.width most_bits e.bits hb)
    ∙ ap (λ (gs : List ℕ). lines_to (take k fs) gs (take e.width e.bits) (length (take e.width e.bits)) ++ end)
    (ap (λ (j : ℕ). take j (take k fs)) hf ∙ take-most first k (take k fs) (omega (arith, length-take k fs)))
    ∙ ap (λ (hs : List ℕ). lines_to hs (take first hs) (take e.width e.bits) (length (take e.width e.bits)) ++ end) (first-words fs hk)

-- ---- and they are lines

pub widths-pieces : (fs : List ℕ) (first : ℕ) (e : Encoding) → Pieces (encoded_lines fs first e)
unfolding encoded_lines lines_to line_of
widths-pieces fs first e =
    pieces (ended-append (ended-map (line_of (first_of fs) (take first (first_of fs)) (take e.width e.bits)) (λ w. width-ended w _ _) (states_from 1 (length (take e.width e.bits)))) (line end-ended no_line))
