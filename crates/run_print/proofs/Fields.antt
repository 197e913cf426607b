-- The line of a step piece by piece, as it is written, and how long it is.
use mathlib.Core.Path.{◌≡◌, refl, ap, ◌∙◌}
use mathlib.Core.Logic.{◌⊎◌, inl, inr}
use mathlib.Core.Bool.{Bool, true, false, cond, and-false}
use mathlib.Core.List.{List, [], ◌∷◌, ◌++◌, map, append_assoc}
use Prim.Native.Nat.{ℕ, zero, suc, ◌+◌, ◌^◌, ◌≤◌, ◌<◌}
use native.Mathlib.Omega.{arith}
use lib.ListN.{length, length-append, length-map}
use lib.Dec.{eqb, leb}
use borrow.Author.Tests.{le-leb, lt-leb}
use Rattle.sets.specs.Sets.{has, states_from}
use Rattle.rules.specs.Limits.{most_bits, most_outputs}
use Rattle.rules.specs.Text.{bytes, dash, nought, space, lf, decimal}
use Rattle.rules.specs.Report.{digits, code_text}
use Rattle.rules.specs.Cover.{vector}
use Rattle.rules.specs.Replay.{step_line}
use Rattle.rules.specs.declared.Pattern.{Pattern}
use Rattle.rules.proofs.Fields.{Without, without-map}
use Rattle.rules.proofs.Ended.{Ended, last, ended-behind, digits-ended, space-then, mark-then}
use Rattle.rules.proofs.Decimal.{decimal-length}
use Rattle.rules.proofs.Most.{states-length}
use Rattle.rules.proofs.ReportLines.{code-without}
use Rattle.write_pen.specs.Pen.{digits_text}
use Rattle.write_faces.specs.Faces.{pattern_at, pattern_text}
use Rattle.write_parts.specs.Parts.{added, added_all}
use Rattle.write_parts.proofs.Adding.{Lent, all_none, all_one}
use Rattle.run_print.specs.Lines.{step_text, step_within}

-- ---- a code

pub code-none : (w code : ℕ) → w ≡ 0 → dash ∷ [] ≡ code_text (vector w code)
unfolding code_text states_from
code-none zero code e = refl
code-none (suc w) code e = absurd (omega arith)

each-digit : (m : ℕ) (ss : List ℕ) → map (λ s. nought + has m s) ss ≡ digits (map (has m) ss)
each-digit m [] = refl
each-digit m (s ∷ ss) = ap {B = List ℕ} (λ l. (nought + has m s) ∷ l) (each-digit m ss)

pub code-some : (w code : ℕ) → (w ≡ 0 → ⊥) → digits_text code w ≡ code_text (vector w code)
unfolding code_text digits_text states_from
code-some zero code o = absurd (o refl)
code-some (suc w) code o = each-digit code (states_from 0 (suc w))

code-length : (w code : ℕ) → w ≤ most_bits → length (code_text (vector w code)) ≤ most_bits
unfolding code_text states_from
code-length zero code h = omega arith
code-length (suc w) code h =
    omega (arith, length-map (map (has code) (states_from 0 (suc w))) (λ d. nought + d), length-map (states_from 0 (suc w)) (has code), states-length 0 (suc w))

-- ---- `ST state code outputs`

pub step-fields : (state w code : ℕ) (p : Pattern) (n : ℕ)
    → bytes "ST " ++ ((decimal state ++ (space ∷ [])) ++ (code_text (vector w code) ++ ((space ∷ []) ++ (pattern_text p n ++ (lf ∷ []))))) ≡ step_text state w code p n
unfolding step_text step_line
step-fields state w code p n = simp append_assoc

pattern-length : (p : Pattern) (n : ℕ) → length (pattern_text p n) ≡ n
unfolding pattern_text
pattern-length p n = length-map (states_from 0 n) (pattern_at p) ∙ states-length 0 n

-- by how many digits behind the first the state has
pub step-length : (d state w code : ℕ) (p : Pattern) (n : ℕ) → state < 10 ^ (d + 1) → w ≤ most_bits → n ≤ most_outputs → length (step_text state w code p n) ≤ d + 103
unfolding step_text step_line
step-length d state w code p n l hw hn = simp length-append (omega (arith, decimal-length d state l, code-length w code hw, pattern-length p n))

pattern-without : (p : Pattern) (n : ℕ) → Without lf (pattern_text p n)
unfolding pattern_text pattern_at
pattern-without p n = without-map lf (pattern_at p) (states_from 0 n) (λ j e. go (eqb (has p.dashes j) 1) j e)
  where
    go : (b : Bool) (j : ℕ) → cond b dash (nought + has p.ones j) ≡ lf → ⊥
    go true j e = omega arith
    go false j e = omega arith

-- it is a whole line
pub step-ended : (state w code : ℕ) (p : Pattern) (n : ℕ) → Ended (step_text state w code p n)
unfolding step_text step_line
step-ended state w code p n =
    mark-then 83 84 (omega arith) (omega arith)
    (digits-ended state (space-then (ended-behind (code-without (vector w code)) (space-then (ended-behind (pattern-without p n) last)))))

module _ (state w code : ℕ) (p : Pattern) (n : ℕ) (a : Lent) where
  pub within_step : w ≤ most_bits → n ≤ most_outputs → added_all (step_within state w code p n) a ≡ added (step_text state w code p n) a
  unfolding step_within
  within_step h k = rw (le-leb w most_bits h, le-leb n most_outputs k) (all_one (step_text state w code p n) a)

  pub within-not : (most_bits < w) ⊎ (most_outputs < n) → added_all (step_within state w code p n) a ≡ a
  unfolding step_within
  within-not (inl h) = rw (lt-leb w most_bits h) (all_none a)
  within-not (inr h) = rw (lt-leb n most_outputs h, and-false (leb w most_bits)) (all_none a)
