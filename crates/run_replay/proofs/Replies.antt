-- The lines that pieces of a run print: each is a whole line and short; how long they are all together; and those of a whole run are the text of its replay.
use Rattle.rules.specs.declared.StateNumber.{StateNumber}
use Rattle.std.specs.Prelude.{Result, Ok, Err}
use mathlib.Core.Path.{◌≡◌, refl, ap}
use mathlib.Core.Bool.{Bool, true, false, ◌&&◌, cond}
use mathlib.Core.List.{List, [], ◌∷◌, ◌++◌}
use Prim.Native.Nat.{ℕ, ◌+◌, ◌-◌, ◌*◌, ◌^◌, ◌≤◌, ◌<◌}
use native.Mathlib.Omega.{arith}
use lib.Count.{trailing_le}
use lib.Dec.{eqb, leb}
use lib.ListN.{length, length-append}
use borrow.Author.Tests.{leb-true}
use Rattle.sets.proofs.Every.{and_first, and_second}
use Rattle.rules.specs.Limits.{most_states, most_bits, most_outputs, most_steps}
use Rattle.rules.specs.Text.{lf, lines_of}
use Rattle.rules.specs.Report.{joined_lines}
use Rattle.rules.specs.Cover.{cover}
use Rattle.rules.specs.Answers.{refuses, printed}
use Rattle.rules.specs.Replay.{start_line, vector_line, state_in, replay}
use Rattle.rules.specs.declared.Listing.{Listing}
use Rattle.rules.specs.declared.Refusal.{Refusal}
use Rattle.rules.specs.declared.Refusal.TheVariants.{BadLine, NoNext}
use Rattle.rules.proofs.Ended.{Pieces, no-piece, piece}
use Rattle.rules.proofs.Parts.{AllFit, fit_none, fit-more}
use Rattle.rules.proofs.ReportLines.{refused-ended}
use Rattle.rules.proofs.LineNumbers.{split-length}
use Rattle.rules.proofs.Sound.{Sound}
use Rattle.rules.proofs.AllRows.{all-few}
use Rattle.write_refusal.proofs.Refused.{refusal-length}
use Rattle.run_encoded.specs.Terms.{terms_for, code_for}
use Rattle.run_encoded.specs.declared.Terms.{Terms}
use Rattle.run_print.specs.Lines.{step_text, step_within}
use Rattle.run_print.proofs.Fields.{step-length, step-ended}
use Rattle.run_replay.specs.Moves.{moved_by}
use Rattle.run_replay.specs.Places.{Course, ends_at, in_front, line_of, ran_end, ran_from, ran_first, ran_by}
use Rattle.run_replay.specs.declared.Moved.{Moved}
use Rattle.run_replay.specs.declared.Place.{Place}
use Rattle.run_replay.proofs.Lines.{read-few}
use Rattle.run_replay.proofs.Means.{first-is}

-- no line of a step is longer: `ST`, a state of two digits, 64 bits, 32 outputs, three spaces and LF
abbrev pub longest-step : ℕ
longest-step = 104

-- and no replay: 10,000 steps and a refusal
abbrev pub longest_run : ℕ
longest_run = 1040012

-- ---- each line is whole, from any place

abbrev Whole : Course → Type 0
Whole g = Pieces g.0

ends-whole : (r : Refusal) (k : ℕ) → Whole (ends_at r k)
unfolding ends_at
ends-whole r k = piece (refused-ended r k) no-piece

step-whole : (t : Listing) (w : ℕ) (m : Moved) (g : Course) → Whole g → Whole (in_front (line_of t w m) g)
unfolding in_front line_of step_within
step-whole t w m g rest = go (leb w most_bits && leb t.head.outputs most_outputs)
  where
    go : (b : Bool) → Pieces (cond b (step_text m.state w m.code m.outputs t.head.outputs ∷ []) [] ++ g.0)
    go true = piece (step-ended m.state w m.code m.outputs t.head.outputs) rest
    go false = rest

module _ (t : Listing) (ts : Terms) (bits : List ℕ) where
  from-whole : (w done s code : ℕ) (lines : List (List ℕ)) → Whole (ran_from t ts w done s code lines)
  unfolding ran_from ran_end
  from-whole w done s code [] = no-piece
  from-whole w done s code ([] ∷ []) = no-piece
  from-whole w done s code ((x ∷ xs) ∷ []) = ends-whole BadLine (done + 2)
  from-whole w done s code (l ∷ (k ∷ ks)) = go (vector_line t.head done l) (λ u c. from-whole w (done + 1) u c (k ∷ ks))
    where
      after : (x : ℕ) (b : Bool) → ((u c : ℕ) → Whole (ran_from t ts w (done + 1) u c (k ∷ ks)))
          → Whole (elim b [ true ↦ ends_at NoNext (done + 2) | false ↦ in_front (line_of t w (moved_by t ts w x s code)) (ran_from t ts w (done + 1) (moved_by t ts w x s code).state (moved_by t ts w x s code).code (k ∷ ks)) ])
      after x true later = ends-whole NoNext (done + 2)
      after x false later = step-whole t w (moved_by t ts w x s code) (ran_from t ts w (done + 1) (moved_by t ts w x s code).state (moved_by t ts w x s code).code (k ∷ ks)) (later (moved_by t ts w x s code).state (moved_by t ts w x s code).code)

      go : (v : Result ℕ Refusal) → ((u c : ℕ) → Whole (ran_from t ts w (done + 1) u c (k ∷ ks))) → Whole
          (elim v [
            | Err r ↦ ends_at r (done + 2)
            | Ok x ↦ elim (eqb (moved_by t ts w x s code).next 0) [
              | true ↦ ends_at NoNext (done + 2)
              | false ↦ in_front (line_of t w (moved_by t ts w x s code)) (ran_from t ts w (done + 1) (moved_by t ts w x s code).state (moved_by t ts w x s code).code (k ∷ ks))
            ]
          ])
      go (Err r) later = ends-whole r (done + 2)
      go (Ok x) later = after x (eqb (moved_by t ts w x s code).next 0) later

  first-whole : (lines : List (List ℕ)) → Whole (ran_first t ts bits lines)
  unfolding ran_first
  first-whole [] = ends-whole BadLine 1
  first-whole (l ∷ []) = ends-whole BadLine 1
  first-whole (l ∷ (k ∷ ks)) = go (start_line t.head l)
    where
      go : (v : Result StateNumber Refusal) → Whole (elim v [ Err r ↦ ends_at r 1 | Ok s ↦ ran_from t ts (length bits) 0 s.0 (code_for bits s.0) (k ∷ ks) ])
      go (Err r) = ends-whole r 1
      go (Ok s) = from-whole (length bits) 0 s.0 (code_for bits s.0) (k ∷ ks)

  pub all_whole : (p : Place) (lines : List (List ℕ)) → Pieces (ran_by t ts bits p lines).0
  unfolding ran_by
  all_whole Place.First lines = first-whole lines
  all_whole (Place.Behind done s code) lines = from-whole (length bits) done s code lines
  all_whole Place.Over lines = no-piece

-- ---- what holds of a place: it is no further than a run can be

abbrev pub Early : Place → Type 0
Early Place.First = Unit {0}
Early (Place.Behind done s code) = done ≤ most_steps
Early Place.Over = Unit {0}

-- ---- what holds of a piece

-- Each line is short, and there are at most so many; all together they have at most so many bytes; and the place is early.
pub record Short (few most : ℕ) (g : Course) : Type 0 where
  pub fits : AllFit longest-step g.0
  pub count : length g.0 ≤ few
  pub long : length (joined_lines g.0) ≤ most
  pub early : Early g.1

module _ (few most : ℕ) where
  none-short : (p : Place) → Early p → Short few most ([], p)
  unfolding joined_lines
  none-short p e = record { fits = fit_none; count = omega arith; long = omega arith; early = e }

  -- a refusal
  ends-short : (r : Refusal) (k : ℕ) → k < 100000 → Short (few + 1) (most + 12) (ends_at r k)
  unfolding ends_at joined_lines
  ends-short r k h =
      let short = refusal-length 4 r k h in
      record {
        fits = fit-more {l = printed (refuses r k)} (omega arith) fit_none;
        count = omega arith;
        long = omega (arith, length-append (printed (refuses r k)) []);
        early = tt;
      }

-- lines that are short are so many times as long
fit-long : (ls : List (List ℕ)) → AllFit longest-step ls → length (joined_lines ls) ≤ longest-step * length ls
unfolding joined_lines
fit-long [] fit_none = omega arith
fit-long (l ∷ ls) (fit-more h f) = omega (arith, length-append l (joined_lines ls), fit-long ls f)

-- ---- the line of a step

module _ (t : Listing) (ts : Terms) (w x s code : ℕ) where
  abbrev both : Moved
  both = moved_by t ts w x s code

  two_digits : both.state < 10 ^ (1 + 1)
  unfolding moved_by state_in
  two_digits = omega (arith, trailing_le most_states both.next)

  -- one line at the most in front of what comes
  step-short : (few most : ℕ) (g : Course) → Short few most g → Short (few + 1) (longest-step + most) (in_front (line_of t w both) g)
  unfolding line_of step_within in_front joined_lines
  step-short few most g rest = go (leb w most_bits && leb t.head.outputs most_outputs) refl
    where
      line : List ℕ
      line = step_text both.state w both.code both.outputs t.head.outputs

      go : (b : Bool) → (leb w most_bits && leb t.head.outputs most_outputs) ≡ b → Short (few + 1) (longest-step + most) (cond b (line ∷ []) [] ++ g.0, g.1)
      go true e =
          let short : length line ≤ longest-step =
          step-length 1 both.state w both.code both.outputs t.head.outputs two_digits (leb-true w most_bits (and_first (leb w most_bits) _ e)) (leb-true t.head.outputs most_outputs (and_second (leb w most_bits) _ e)) in
          record {
            fits = fit-more {l = line} short rest.fits;
            count = omega (arith, rest.count);
            long = omega (arith, length-append line (joined_lines g.0), rest.long);
            early = rest.early;
          }
      go false e = record { fits = rest.fits; count = omega (arith, rest.count); long = omega (arith, rest.long); early = rest.early }

-- fewer and shorter is short too
wider : {few most more longer : ℕ} {g : Course} → few ≤ more → most ≤ longer → Short few most g → Short more longer g
wider h k s = record { fits = s.fits; count = omega (arith, s.count); long = omega (arith, s.long); early = s.early }

-- ---- from any place

module _ (t : Listing) (ts : Terms) (bits : List ℕ) where
  from-short : (w done s code : ℕ) (lines : List (List ℕ)) → done ≤ most_steps → Short (length lines + 1) (longest-step * (most_steps - done) + 12) (ran_from t ts w done s code lines)
  unfolding ran_from ran_end
  from-short w done s code [] h = none-short 1 (longest-step * (most_steps - done) + 12) (Place.Behind done s code) h
  from-short w done s code ([] ∷ []) h = none-short 2 (longest-step * (most_steps - done) + 12) (Place.Behind done s code) h
  from-short w done s code ((x ∷ xs) ∷ []) h = ends-short 1 (longest-step * (most_steps - done)) BadLine (done + 2) (omega arith)
  from-short w done s code (l ∷ (k ∷ ks)) h = go (vector_line t.head done l) refl (λ u c g. from-short w (done + 1) u c (k ∷ ks) g)
    where
      most : ℕ
      most = longest-step * (most_steps - done)

      made : ℕ → Bool → Course
      made x b = elim b [ true ↦ ends_at NoNext (done + 2) | false ↦ in_front (line_of t w (moved_by t ts w x s code)) (ran_from t ts w (done + 1) (moved_by t ts w x s code).state (moved_by t ts w x s code).code (k ∷ ks)) ]

      by_name : (x : ℕ) (b : Bool) → done < most_steps
          → ((u c : ℕ) → done + 1 ≤ most_steps → Short (length (k ∷ ks) + 1) (longest-step * (most_steps - (done + 1)) + 12) (ran_from t ts w (done + 1) u c (k ∷ ks)))
          → Short (length (l ∷ (k ∷ ks)) + 1) (most + 12) (made x b)
      by_name x true g later = ends-short (length (l ∷ (k ∷ ks))) most NoNext (done + 2) (omega arith)
      by_name x false g later =
          wider (omega arith) (omega arith)
          (step-short t ts w x s code (length (k ∷ ks) + 1) (longest-step * (most_steps - (done + 1)) + 12) (ran_from t ts w (done + 1) (moved_by t ts w x s code).state (moved_by t ts w x s code).code (k ∷ ks))
          (later (moved_by t ts w x s code).state (moved_by t ts w x s code).code (omega arith)))

      go : (v : Result ℕ Refusal) → vector_line t.head done l ≡ v
          → ((u c : ℕ) → done + 1 ≤ most_steps → Short (length (k ∷ ks) + 1) (longest-step * (most_steps - (done + 1)) + 12) (ran_from t ts w (done + 1) u c (k ∷ ks)))
          → Short (length (l ∷ (k ∷ ks)) + 1) (most + 12)
          (elim v [ Err r ↦ ends_at r (done + 2) | Ok x ↦ made x (eqb (moved_by t ts w x s code).next 0) ])
      go (Err r) e later = ends-short (length (l ∷ (k ∷ ks))) most r (done + 2) (omega arith)
      go (Ok x) e later = by_name x (eqb (moved_by t ts w x s code).next 0) (read-few t.head done l e) later

  first_short : (lines : List (List ℕ)) → Short (length lines + 1) longest_run (ran_first t ts bits lines)
  unfolding ran_first
  first_short [] = ends-short 0 1040000 BadLine 1 (omega arith)
  first_short (l ∷ []) = ends-short 1 1040000 BadLine 1 (omega arith)
  first_short (l ∷ (k ∷ ks)) = go (start_line t.head l)
    where
      go : (v : Result StateNumber Refusal) → Short (length (l ∷ (k ∷ ks)) + 1) longest_run
          (elim v [ Err r ↦ ends_at r 1 | Ok s ↦ ran_from t ts (length bits) 0 s.0 (code_for bits s.0) (k ∷ ks) ])
      go (Err r) = ends-short (length (l ∷ (k ∷ ks))) 1040000 r 1 (omega arith)
      go (Ok s) = wider (omega arith) (omega arith) (from-short (length bits) 0 s.0 (code_for bits s.0) (k ∷ ks) (omega arith))

  pub all_short : (p : Place) → Early p → (lines : List (List ℕ)) → Short (length lines + 1) longest_run (ran_by t ts bits p lines)
  unfolding ran_by
  all_short Place.First e lines = first_short lines
  all_short (Place.Behind done s code) e lines = wider (omega arith) (omega arith) (from-short (length bits) done s code lines e)
  all_short Place.Over e lines = none-short (length lines + 1) longest_run Place.Over tt

  -- what a text of so many bytes prints
  pub text-long : (p : Place) → Early p → (text : List ℕ) → length (joined_lines (ran_by t ts bits p (lines_of text)).0) ≤ longest-step * (length text + 2)
  text-long p e text =
      let s = all_short p e (lines_of text) in
      omega (arith, fit-long (ran_by t ts bits p (lines_of text)).0 s.fits, s.count, split-length lf text)

-- ---- the replay

-- of a sound listing, by no more bits than there can be
pub replay-is : (t : Listing) (bits run : List ℕ) → Sound t → length bits ≤ most_bits → joined_lines (ran_by t (terms_for t bits) bits Place.First (lines_of run)).0 ≡ replay t bits (cover t bits) run
unfolding ran_by replay
replay-is t bits run sound few = ap joined_lines (first-is t bits sound.head.few-states sound.head.few-outputs few (all-few t sound) (lines_of run))
