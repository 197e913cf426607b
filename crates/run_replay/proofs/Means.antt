-- What a piece of a run prints is what 02 says of the run: both machines by the rows of the listing and by the rows that the cover prints, against the
-- meaning of the listing and the lines of the cover's text.
use Rattle.rules.specs.declared.StateNumber.{StateNumber}
use Rattle.rules.specs.declared.Refusal.{Refusal}
use Rattle.std.specs.Prelude.{Result, Ok, Err}
use mathlib.Core.Path.{◌≡◌, refl, sym, ap, ap₂, ◌∙◌}
use mathlib.Core.Bool.{Bool, true, false}
use mathlib.Core.List.{List, [], ◌∷◌, ◌++◌}
use Prim.Native.Nat.{ℕ, ◌+◌, ◌≤◌}
use native.Mathlib.Omega.{arith}
use lib.Dec.{eqb}
use lib.ListN.{length}
use borrow.Author.Tests.{le-leb}
use Rattle.rules.specs.Limits.{most_states, most_bits, most_outputs, most_lines}
use Rattle.rules.specs.Text.{lines_of}
use Rattle.rules.specs.Listing.{all_rows}
use Rattle.rules.specs.Code.{code_of}
use Rattle.rules.specs.Cover.{vector, cover}
use Rattle.rules.specs.Meaning.{next_means}
use Rattle.rules.specs.Replay.{start_line, vector_line, state_in, state_after, outputs_text, code_after, Shown, Run, steps, stopped, shown, run_end, run_from, run_of, step_line, run_lines}
use Rattle.rules.specs.declared.Listing.{Listing}
use Rattle.rules.specs.declared.Refusal.TheVariants.{NoNext}
use Rattle.rules.proofs.Replay.{start-below}
use Rattle.run_symbolic.proofs.Means.{told-next, told-outputs}
use Rattle.run_encoded.specs.Terms.{terms_for, code_for}
use Rattle.run_encoded.specs.declared.Terms.{Terms}
use Rattle.run_encoded.proofs.Steps.{terms-for, code-for}
use Rattle.run_encoded.proofs.Gives.{state-code, rows_all, text-gives}
use Rattle.run_print.specs.Lines.{step_text, step_within}
use Rattle.run_replay.specs.Moves.{moved_by}
use Rattle.run_replay.specs.Places.{Course, ends_at, in_front, line_of, ran_end, ran_from, ran_first}
use Rattle.run_replay.specs.declared.Moved.{Moved}

-- A listing and bits within the limits. The rows that are printed are those of the cover by these bits.
module _ (t : Listing) (bits : List ℕ) (few-states : t.head.states ≤ most_states) (few-outputs : t.head.outputs ≤ most_outputs) (few_bits : length bits ≤ most_bits) (few-rows : length (all_rows t) ≤ most_lines) where
  abbrev terms : Terms
  terms = terms_for t bits

  abbrev w : ℕ
  w = length bits

  abbrev ls : List (List ℕ)
  ls = lines_of (cover t bits)

  -- ---- a step of both machines

  module _ (x s code : ℕ) where
    abbrev both : Moved
    both = moved_by t terms w x s code

    moved-next : both.next ≡ next_means t x s
    unfolding moved_by
    moved-next = told-next t x s

    moved-state : both.state ≡ state_after t x s
    unfolding moved_by state_after
    moved-state = ap state_in (told-next t x s)

    moved-code : vector w both.code ≡ code_after ls t.head x (vector w code)
    unfolding moved_by
    moved-code = rw (terms-for t bits few_bits, rows_all t bits few-rows) (text-gives t bits x code)

    moved-text : step_text both.state w both.code both.outputs t.head.outputs ≡ step_line (shown t ls x s (vector w code))
    unfolding step_text shown moved_by
    moved-text =
        rw (terms-for t bits few_bits, rows_all t bits few-rows, text-gives t bits x code, told-outputs t x s)
        (ap (λ (u : ℕ). step_line (record { state = u; code = code_after ls t.head x (vector w code); outputs = outputs_text t x s })) moved-state)

    line-is : line_of t w both ≡ step_line (shown t ls x s (vector w code)) ∷ []
    unfolding line_of step_within
    line-is = rw (le-leb w most_bits few_bits, le-leb t.head.outputs most_outputs few-outputs) (ap {B = List (List ℕ)} (λ l. l ∷ []) moved-text)

  -- ---- the lines behind `SS`

  front-lines : (ks : List (List ℕ)) (g : Course) → (in_front ks g).0 ≡ ks ++ g.0
  unfolding in_front
  front-lines ks g = refl

  steps-lines : (p : Shown) (r : Run) → run_lines (steps p r) ≡ step_line p ∷ run_lines r
  unfolding run_lines
  steps-lines p r = refl

  pub from_is : (done s code : ℕ) (lines : List (List ℕ)) → (ran_from t terms w done s code lines).0 ≡ run_lines (run_from t ls done s (vector w code) lines)
  unfolding ran_from ran_end ends_at run_from run_end run_lines
  from_is done s code [] = refl
  from_is done s code ([] ∷ []) = refl
  from_is done s code ((x ∷ xs) ∷ []) = refl
  from_is done s code (l ∷ (k ∷ ks)) = go (vector_line t.head done l) (λ u c. from_is (done + 1) u c (k ∷ ks))
    where
      after : ℕ → Bool → Run
      after x b = elim b [ true ↦ stopped NoNext (done + 2) | false ↦ steps (shown t ls x s (vector w code)) (run_from t ls (done + 1) (state_after t x s) (code_after ls t.head x (vector w code)) (k ∷ ks)) ]

      made : ℕ → Bool → Course
      made x b = elim b [ true ↦ ends_at NoNext (done + 2) | false ↦ in_front (line_of t w (both x s code)) (ran_from t terms w (done + 1) (both x s code).state (both x s code).code (k ∷ ks)) ]

      by_name : (x : ℕ) (b : Bool) → ((u c : ℕ) → (ran_from t terms w (done + 1) u c (k ∷ ks)).0 ≡ run_lines (run_from t ls (done + 1) u (vector w c) (k ∷ ks))) → (made x b).0 ≡ run_lines (after x b)
      by_name x true later = refl
      by_name x false later =
          front-lines (line_of t w (both x s code)) (ran_from t terms w (done + 1) (both x s code).state (both x s code).code (k ∷ ks))
          ∙ ap₂ (λ (a b : List (List ℕ)). a ++ b) (line-is x s code)
          (later (both x s code).state (both x s code).code
          ∙ ap₂ (λ (u : ℕ) (c : List ℕ). run_lines (run_from t ls (done + 1) u c (k ∷ ks))) (moved-state x s code) (moved-code x s code))
          ∙ sym (steps-lines (shown t ls x s (vector w code)) (run_from t ls (done + 1) (state_after t x s) (code_after ls t.head x (vector w code)) (k ∷ ks)))

      read : Result ℕ Refusal → Course
      read v = elim v [ Err r ↦ ends_at r (done + 2) | Ok x ↦ made x (eqb (both x s code).next 0) ]

      go : (v : Result ℕ Refusal) → ((u c : ℕ) → (ran_from t terms w (done + 1) u c (k ∷ ks)).0 ≡ run_lines (run_from t ls (done + 1) u (vector w c) (k ∷ ks)))
          → (read v).0
          ≡ run_lines (elim v [ Err r ↦ stopped r (done + 2) | Ok x ↦ after x (eqb (next_means t x s) 0) ])
      go (Err r) later = refl
      go (Ok x) later = ap (λ (n : ℕ). (made x (eqb n 0)).0) (moved-next x s code) ∙ by_name x (eqb (next_means t x s) 0) later

  -- ---- from the first line on

  pub first-is : (lines : List (List ℕ)) → (ran_first t terms bits lines).0 ≡ run_lines (run_of t bits ls lines)
  unfolding ran_first ends_at run_of run_lines
  first-is [] = refl
  first-is (l ∷ []) = refl
  first-is (l ∷ (k ∷ ks)) = go (start_line t.head l) refl
    where
      read : Result StateNumber Refusal → Course
      read v = elim v [ Err r ↦ ends_at r 1 | Ok s ↦ ran_from t terms w 0 s.0 (code_for bits s.0) (k ∷ ks) ]

      go : (v : Result StateNumber Refusal) → start_line t.head l ≡ v
          → (read v).0
          ≡ run_lines (elim v [ Err r ↦ stopped r 1 | Ok s ↦ run_from t ls 0 s.0 (code_of bits s.0) (k ∷ ks) ])
      go (Err r) e = refl
      go (Ok s) e =
          from_is 0 s.0 (code_for bits s.0) (k ∷ ks)
          ∙ ap (λ (c : List ℕ). run_lines (run_from t ls 0 s.0 c (k ∷ ks)))
          (ap (vector w) (code-for bits s.0 few_bits (omega (arith, start-below t.head l e, few-states))) ∙ state-code bits s.0)
