-- The lines of requirements by their judgements, as the walk that writes them meets them, and that they are the report's.
use Rattle.std.specs.Prelude.{Option, Some, None}
use mathlib.Core.Path.{◌≡◌, refl, sym, ap, ap₂, ◌∙◌}
use mathlib.Core.Bool.{not}
use mathlib.Core.List.{List, [], ◌∷◌, ◌++◌, map}
use Prim.Native.Nat.{ℕ, suc, ◌+◌, ◌≤◌}
use native.Mathlib.Numerals.{add-one}
use native.Mathlib.Omega.{arith}
use Rattle.rules.specs.Text.{digit}
use Rattle.rules.specs.Requirements.{judgement, is_by}
use Rattle.rules.specs.Code.{unmet_from}
use Rattle.rules.specs.Report.{met_line, unmet_line, joined_lines, met_lines}
use Rattle.rules.specs.declared.Requirement.{Requirement}
use Rattle.rules.specs.declared.BitNumber.{BitNumber}
use Rattle.rules.proofs.Judged.{met-judged, unmet-judged}
use Rattle.rules.proofs.Unmet.{listed-met, listed-unmet}
use Rattle.rules.proofs.Good.{AllGood}
use Rattle.rules.proofs.Reported.{lines-by, lines_none}
use Rattle.code_judging.proofs.Wide.{judged-wide}
use Rattle.write_parts.specs.Parts.{added_all}
use Rattle.write_parts.proofs.Adding.{Lent, added_none, all_more}
use Rattle.write_report.specs.Report.{line_for, lines_of}
use Rattle.write_report.specs.declared.Listed.{Listed}

-- ---- the line of one, by what is known of the list and of the judgement

module _ (l : Listed) (k : ℕ) (j : Option BitNumber) where
  pub met-line : (b : BitNumber) → l ≡ Listed.Met → j ≡ Some b → met_line (record { 0 = k }) b ≡ line_for l k j
  unfolding line_for
  met-line b h e = sym (ap₂ (λ (x : Listed) (y : Option BitNumber). line_for x k y) h e)

  pub no-unmet-line : (b : BitNumber) → l ≡ Listed.Unmet → j ≡ Some b → [] ≡ line_for l k j
  unfolding line_for
  no-unmet-line b h e = sym (ap₂ (λ (x : Listed) (y : Option BitNumber). line_for x k y) h e)

  pub no-met-line : l ≡ Listed.Met → j ≡ None → [] ≡ line_for l k j
  unfolding line_for
  no-met-line h e = sym (ap₂ (λ (x : Listed) (y : Option BitNumber). line_for x k y) h e)

  pub unmet-line : l ≡ Listed.Unmet → j ≡ None → unmet_line (record { 0 = k }) ≡ line_for l k j
  unfolding line_for
  unmet-line h e = sym (ap₂ (λ (x : Listed) (y : Option BitNumber). line_for x k y) h e)

-- one that is not missed has no line among those that are not met
pub none-missed : (k : ℕ) (j : Option BitNumber) → digit (not (is_by j)) ≡ 0 → line_for Listed.Unmet k j ≡ []
unfolding line_for is_by
none-missed k (Some b) e = refl
none-missed k None e = absurd (omega arith)

-- ---- one line, and those behind it

module _ (l : Listed) (k : ℕ) (bits : List ℕ) {ahead : List Requirement} where
  pub lines_more : {r : Requirement} {rs : List Requirement} → ahead ≡ r ∷ rs → line_for l k (judgement 64 bits r) ∷ lines_of l (k + 1) bits rs ≡ lines_of l k bits ahead
  unfolding lines_of
  lines_more {r} {rs} e = ap (λ (j : ℕ). line_for l k (judgement 64 bits r) ∷ lines_of l j bits rs) (add-one k) ∙ sym (ap (lines_of l k bits) e)

  pub lines_end : ahead ≡ [] → lines_of l k bits ahead ≡ []
  unfolding lines_of
  lines_end e = ap (lines_of l k bits) e

-- one that is not missed adds nothing to the lines of those that are not met
pub none_here : (k : ℕ) (bits : List ℕ) {ahead rs : List Requirement} {r : Requirement} → ahead ≡ r ∷ rs → digit (not (is_by (judgement 64 bits r))) ≡ 0 → (s : Lent)
    → added_all (lines_of Listed.Unmet k bits ahead) s ≡ added_all (lines_of Listed.Unmet (k + 1) bits rs) s
none_here k bits {ahead} {rs} {r} e z s =
    let ls : List (List ℕ) = lines_of Listed.Unmet (k + 1) bits rs in
    ap (λ (ms : List (List ℕ)). added_all ms s) (sym (lines_more Listed.Unmet k bits e))
    ∙ ap (λ (m : List ℕ). added_all (m ∷ ls) s) (none-missed k (judgement 64 bits r) z)
    ∙ all_more [] ls s
    ∙ ap (added_all ls) (added_none s)

-- ---- they are the report's

abbrev text : Listed → ℕ → List ℕ → List Requirement → List ℕ
text l k bits rs = joined_lines (lines_of l k bits rs)

pub mets-are : (k : ℕ) (bits : List ℕ) (rs : List Requirement) → joined_lines (lines_of Listed.Met k bits rs) ≡ joined_lines (met_lines k 64 bits rs)
unfolding lines_of met_lines joined_lines line_for
mets-are k bits [] = refl
mets-are k bits (r ∷ rs) = go (judgement 64 bits r) refl (mets-are (suc k) bits rs)
  where
    go : (j : Option BitNumber) → judgement 64 bits r ≡ j → text Listed.Met (suc k) bits rs ≡ joined_lines (met_lines (suc k) 64 bits rs)
        → line_for Listed.Met k (judgement 64 bits r) ++ text Listed.Met (suc k) bits rs ≡ joined_lines (met_lines k 64 bits (r ∷ rs))
    go (Some b) e more =
        ap (λ (j : Option BitNumber). line_for Listed.Met k j ++ text Listed.Met (suc k) bits rs) e
        ∙ ap (λ (t : List ℕ). met_line (record { 0 = k }) b ++ t) more
        ∙ sym (ap joined_lines (lines-by k 64 bits r rs b e))
    go None e more =
        ap (λ (j : Option BitNumber). line_for Listed.Met k j ++ text Listed.Met (suc k) bits rs) e ∙ more ∙ sym (ap joined_lines (lines_none k 64 bits r rs e))

-- a line for each of the requirements numbered
abbrev unmet_lines : List ℕ → List (List ℕ)
unmet_lines rs = map (λ r. unmet_line (record { 0 = r })) rs

pub unmets-are : (k : ℕ) (bits : List ℕ) (rs : List Requirement) → joined_lines (lines_of Listed.Unmet k bits rs) ≡ joined_lines (map (λ r. unmet_line (record { 0 = r })) (unmet_from k 64 bits rs))
unfolding lines_of unmet_from joined_lines line_for
unmets-are k bits [] = refl
unmets-are k bits (r ∷ rs) = go (judgement 64 bits r) refl (unmets-are (suc k) bits rs)
  where
    go : (j : Option BitNumber) → judgement 64 bits r ≡ j → text Listed.Unmet (suc k) bits rs ≡ joined_lines (unmet_lines (unmet_from (suc k) 64 bits rs))
        → line_for Listed.Unmet k (judgement 64 bits r) ++ text Listed.Unmet (suc k) bits rs ≡ joined_lines (unmet_lines (unmet_from k 64 bits (r ∷ rs)))
    go (Some b) e more =
        ap (λ (j : Option BitNumber). line_for Listed.Unmet k j ++ text Listed.Unmet (suc k) bits rs) e
        ∙ more
        ∙ sym (ap (λ (ns : List ℕ). joined_lines (unmet_lines ns)) (listed-met k 64 bits r rs (met-judged 64 bits r b e)))
    go None e more =
        ap (λ (j : Option BitNumber). line_for Listed.Unmet k j ++ text Listed.Unmet (suc k) bits rs) e
        ∙ ap (λ (t : List ℕ). unmet_line (record { 0 = k }) ++ t) more
        ∙ sym (ap (λ (ns : List ℕ). joined_lines (unmet_lines ns)) (listed-unmet k 64 bits r rs (unmet-judged 64 bits r e)))

-- ---- over n states as over 64

pub mets-wide : (n : ℕ) → n ≤ 64 → (k : ℕ) (bits : List ℕ) (rs : List Requirement) → AllGood n rs → met_lines k 64 bits rs ≡ met_lines k n bits rs
unfolding met_lines
mets-wide n few k bits [] g = refl
mets-wide n few k bits (r ∷ rs) g = go (judgement n bits r) refl (mets-wide n few (suc k) bits rs g.1)
  where
    wide : judgement 64 bits r ≡ judgement n bits r
    wide = judged-wide n few bits r g.0

    go : (j : Option BitNumber) → judgement n bits r ≡ j → met_lines (suc k) 64 bits rs ≡ met_lines (suc k) n bits rs → met_lines k 64 bits (r ∷ rs) ≡ met_lines k n bits (r ∷ rs)
    go (Some b) e more =
        lines-by k 64 bits r rs b (wide ∙ e) ∙ ap {B = List (List ℕ)} (λ ls. met_line (record { 0 = k }) b ∷ ls) more ∙ sym (lines-by k n bits r rs b e)
    go None e more = lines_none k 64 bits r rs (wide ∙ e) ∙ more ∙ sym (lines_none k n bits r rs e)
