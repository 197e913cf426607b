-- The report's lines piece by piece, as they are written.
use mathlib.Core.Path.{◌≡◌, refl, sym, ap, ap₂, ◌∙◌}
use mathlib.Core.Bool.{Bool, true, false, not}
use mathlib.Core.List.{List, [], ◌∷◌, ◌++◌, append_assoc}
use Prim.Native.Nat.{ℕ, suc, ◌^◌, ◌<◌, ◌≤◌}
use native.Mathlib.Omega.{arith}
use lib.Bits.{and_zero_r}
use lib.Dec.{eqb, ltb}
use lib.ListN.{length, get_or}
use borrow.Author.Tests.{ltb-true, ltb-false}
use Rattle.sets.specs.Sets.{flip}
use Rattle.sets.proofs.Members.{has-high}
use Rattle.rules.specs.declared.StateNumber.{StateNumber}
use Rattle.rules.specs.declared.RequirementNumber.{RequirementNumber}
use Rattle.rules.specs.declared.BitNumber.{BitNumber}
use Rattle.rules.specs.Text.{bytes, digit, one, dash, space, lf, decimal}
use Rattle.rules.specs.Code.{code_of}
use Rattle.rules.specs.Report.{digits, code_text, count_line, state_line, met_line}
use Rattle.rules.specs.Cover.{next_code}
use Rattle.rules.proofs.Fires.{next-code}
use Rattle.write_pen.specs.Pen.{values_text}
use Rattle.write_pen.proofs.Values.{values-any}

-- ---- a state's code

pub code-none : (bits : List ℕ) (s : ℕ) → length bits ≡ 0 → dash ∷ [] ≡ code_text (code_of bits s)
unfolding code_text
code-none [] s h = refl
code-none (b ∷ bits) s h = absurd (omega arith)

pub code-some : (bits : List ℕ) (s m : ℕ) → next_code bits m ≡ code_of bits s → (length bits ≡ 0 → ⊥) → values_text bits m one ≡ code_text (code_of bits s)
unfolding code_text
code-some [] s m e h = absurd (h refl)
code-some (b ∷ bits) s m e h = values-any m (b ∷ bits) ∙ ap digits e

-- past the masks' width no bit has the state
code-high : (bits : List ℕ) (s : ℕ) → ((k : ℕ) → get_or bits k 0 < 2 ^ 64) → 64 ≤ s → next_code bits 0 ≡ code_of bits s
code-high [] s fits h = refl
code-high (b ∷ bits) s fits h =
    ap₂ ◌∷◌ (ap (λ (k : ℕ). digit (not (eqb k 0))) (and_zero_r b) ∙ sym (has-high 64 b s (fits 0) h)) (code-high bits s (λ k. fits (suc k)) h)

-- the code by the set of the state alone
pub code-alone : (bits : List ℕ) (s m : ℕ) → ((k : ℕ) → get_or bits k 0 < 2 ^ 64) → (s < 64 → m ≡ flip 0 s) × (64 ≤ s → m ≡ 0) → next_code bits m ≡ code_of bits s
code-alone bits s m fits is = go (ltb s 64) refl
  where
    go : (t : Bool) → ltb s 64 ≡ t → next_code bits m ≡ code_of bits s
    go true e = ap (next_code bits) (is.0 (ltb-true s 64 e)) ∙ next-code bits s
    go false e = ap (next_code bits) (is.1 (ltb-false s 64 e)) ∙ code-high bits s fits (ltb-false s 64 e)

-- ---- a line by its fields, each with the byte that ends it

pub count-fields : (bits asked unmet passes looks : ℕ)
    → bytes "CT " ++ ((decimal bits ++ (space ∷ [])) ++ ((decimal asked ++ (space ∷ [])) ++ ((decimal unmet ++ (space ∷ [])) ++ ((decimal passes ++ (space ∷ [])) ++ (decimal looks ++ (lf ∷ []))))))
    ≡ count_line bits asked unmet passes looks
unfolding count_line
count-fields bits asked unmet passes looks = simp append_assoc

pub state-fields : (bits : List ℕ) (s : StateNumber)
    → bytes "SC " ++ ((decimal s.0 ++ (space ∷ [])) ++ (code_text (code_of bits s.0) ++ (lf ∷ []))) ≡ state_line bits s
unfolding state_line
state-fields bits s = simp append_assoc

pub met-fields : (r : RequirementNumber) (b : BitNumber) → bytes "BY " ++ ((decimal r.0 ++ (space ∷ [])) ++ (decimal b.0 ++ (lf ∷ []))) ≡ met_line r b
unfolding met_line
met-fields r b = simp append_assoc
