-- A run line by line, as a loop has it: what each line does to what is printed, and to the place.
use Rattle.std.specs.Prelude.{Option, Result, Ok, Err, unwrap_or}
use Rattle.std.specs.Result.{result_err}
use mathlib.Core.Path.{◌≡◌, refl, sym, ap, ◌∙◌}
use mathlib.Core.Bool.{Bool, true, false, ◌&&◌}
use mathlib.Core.List.{List, [], ◌∷◌}
use Prim.Native.Nat.{ℕ, ◌+◌, ◌-◌, ◌≤◌, ◌<◌}
use native.Mathlib.Omega.{arith}
use lib.Count.{count_trailing_zeros}
use lib.Dec.{eqb, leb}
use lib.ListN.{length, take, drop, length-take, length-drop}
use lib.Seq.{take_all}
use borrow.Author.Tests.{eq-eqb, ne_eqb, leb-false}
use Rattle.rules.specs.Limits.{most_states, most_inputs, most_steps}
use Rattle.rules.specs.Text.{bytes, nought, one, lf, lines_of, field_at, sized}
use Rattle.rules.specs.Listing.{all_rows}
use Rattle.rules.specs.Answers.{refuses, printed}
use Rattle.rules.specs.Replay.{marked, start_line, vector_line, state_in}
use Rattle.rules.specs.declared.Head.{Head}
use Rattle.rules.specs.declared.Listing.{Listing}
use Rattle.rules.specs.declared.Pattern.{Pattern}
use Rattle.rules.specs.declared.Refusal.{Refusal}
use Rattle.rules.specs.declared.Refusal.TheVariants.{BadLine, Limit, NoNext}
use Rattle.rules.specs.declared.StateNumber.{StateNumber}
use Rattle.rules.proofs.Ways.{chose-first, chose-second}
use Rattle.read_pieces.proofs.Laws.{Cut, part, split-some}
use Rattle.write_parts.specs.Parts.{added, added_all}
use Rattle.write_parts.proofs.Adding.{Lent, all_append, all_one}
use Rattle.run_symbolic.specs.Told.{untold, told_by, outputs_told}
use Rattle.run_symbolic.specs.declared.Told.{Told}
use Rattle.run_encoded.specs.Terms.{code_for, code_by}
use Rattle.run_encoded.specs.declared.Terms.{Terms}
use Rattle.run_print.specs.Lines.{step_within}
use Rattle.run_replay.specs.Moves.{moved_by}
use Rattle.run_replay.specs.Places.{Course, ends_at, in_front, line_of, ran_end, ran_from, ran_first, ran_on}
use Rattle.run_replay.specs.declared.Moved.{Moved}
use Rattle.run_replay.specs.declared.Place.{Place}
use Rattle.run_replay.specs.declared.Ran.{Ran}

-- ---- what is added

-- as it is returned
abbrev pub given : Lent → Place → Ran × List ℕ
given b p = (record { part = b.0; place = p }, b.1)

pub none-on : (p : Place) (a : Lent) → given a p ≡ ran_on ([], p) a
unfolding ran_on added_all
none-on p a = refl

pub ends_on : (r : Refusal) (k : ℕ) (a b : Lent) → b ≡ added (printed (refuses r k)) a → given b Place.Over ≡ ran_on (ends_at r k) a
unfolding ran_on ends_at
ends_on r k a b e = ap (λ (c : Lent). given c Place.Over) (e ∙ sym (all_one (printed (refuses r k)) a))

-- with the lines in front added, what comes is what is left
front-on : (ks : List (List ℕ)) (g : Course) (a b : Lent) → b ≡ added_all ks a → ran_on g b ≡ ran_on (in_front ks g) a
unfolding ran_on in_front
front-on ks g a b e = ap (λ (c : Lent). given c g.1) (ap (added_all g.0) e ∙ sym (all_append ks g.0 a))

-- of which one is a step's
pub step-on : (t : Listing) (w : ℕ) (m : Moved) (g : Course) (a b : Lent) → b ≡ added_all (step_within m.state w m.code m.outputs t.head.outputs) a → ran_on g b ≡ ran_on (in_front (line_of t w m) g) a
unfolding line_of
step-on t w m g a b e = front-on (step_within m.state w m.code m.outputs t.head.outputs) g a b e

-- ---- a step of both, as it is made

pub both-made : (t : Listing) (ts : Terms) (w x s code : ℕ) {told : Told} {u after : ℕ} {p : Pattern} → told ≡ told_by t.head x s untold (all_rows t) → u ≡ count_trailing_zeros most_states told.next → p ≡ outputs_told told
    → after ≡ code_by t.head.inputs w x code 0 (take ts.count ts.table) → ◌≡◌ {A = Moved} (record { next = told.next; state = u; outputs = p; code = after }) (moved_by t ts w x s code)
unfolding moved_by state_in
both-made t ts w x s code e f g q = rw (f, g, q, e)

-- ---- what a line does

-- the 10,001st is not read
pub read-few : (h : Head) (done : ℕ) (l : List ℕ) {x : ℕ} → vector_line h done l ≡ Ok x → done < most_steps
unfolding vector_line
read-few h done l {x} e =
    let k = chose-first (marked (bytes "IN") l && sized most_inputs h.inputs nought one one (field_at l 1)) e (refused-not BadLine) in
    leb-false most_steps done (chose-second (leb most_steps done) k.1 (refused-not Limit)).0
  where
    refused-not : (r : Refusal) → Err r ≡ Ok x → ⊥
    refused-not r e = let z : ◌≡◌ {A = ℕ} 0 1 = cc in omega arith

-- the reason of a line that is refused
pub reason-is : {A : Type 0} (v : Result A Refusal) {o : Option Refusal} {r q : Refusal} → v ≡ Err r → o ≡ result_err v → q ≡ unwrap_or o BadLine → v ≡ Err q
reason-is v e f g = e ∙ ap Err (sym (g ∙ ap (λ o. unwrap_or o BadLine) (f ∙ ap result_err e)))

module _ (t : Listing) (ts : Terms) (w done s code : ℕ) (rest : List (List ℕ)) where
  -- with what both machines give, by whether a next state is named
  abbrev pub stepBy : Moved → Bool → Course
  stepBy m b = elim b [ true ↦ ends_at NoNext (done + 2) | false ↦ in_front (line_of t w m) (ran_from t ts w (done + 1) m.state m.code rest) ]

  abbrev pub lineBy : Result ℕ Refusal → Course
  lineBy v = elim v [ Err r ↦ ends_at r (done + 2) | Ok x ↦ stepBy (moved_by t ts w x s code) (eqb (moved_by t ts w x s code).next 0) ]

pub line-by : (t : Listing) (ts : Terms) (w done s code : ℕ) (l : List ℕ) (rest : List (List ℕ)) → 1 ≤ length rest → ran_from t ts w done s code (l ∷ rest) ≡ lineBy t ts w done s code rest (vector_line t.head done l)
unfolding ran_from
line-by t ts w done s code l [] some = absurd (omega arith)
line-by t ts w done s code l (m ∷ ms) some = refl

-- what stands behind the last LF
end-over : (t : Listing) (ts : Terms) (w done s code : ℕ) (l : List ℕ) → length l ≡ 0 → ran_from t ts w done s code (l ∷ []) ≡ ([], Place.Behind done s code)
unfolding ran_from ran_end
end-over t ts w done s code [] e = refl
end-over t ts w done s code (x ∷ xs) e = absurd (omega arith)

pub end-bad : (t : Listing) (ts : Terms) (w done s code : ℕ) (l : List ℕ) → 0 < length l → ran_from t ts w done s code (l ∷ []) ≡ ends_at BadLine (done + 2)
unfolding ran_from ran_end
end-bad t ts w done s code [] e = absurd (omega arith)
end-bad t ts w done s code (x ∷ xs) e = refl

part-long : (l : List ℕ) (at r : ℕ) → at ≤ r → r ≤ length l → length (part l at r) ≡ r - at
part-long l at r h k = omega (arith, length-take (r - at) (drop at l), length-drop at l)

-- ---- the line from `at` to `end` of a run

module _ (t : Listing) (ts : Terms) (w : ℕ) (run : List ℕ) (at end : ℕ) (here : Cut lf run at end) (done s code : ℕ) where
  abbrev left : Course
  left = ran_from t ts w done s code (lines_of (drop at run))

  abbrev rest : List (List ℕ)
  rest = lines_of (drop (end + 1) run)

  -- the run goes on with this line
  read_is : end < length run → {v : Result ℕ Refusal} → vector_line t.head done (part run at end) ≡ v → left ≡ lineBy t ts w done s code rest v
  read_is more e =
      ap (ran_from t ts w done s code) (here.more more) ∙ line-by t ts w done s code (part run at end) rest (split-some lf (drop (end + 1) run)) ∙ ap (lineBy t ts w done s code rest) e

  pub cut-refused : end < length run → {r : Refusal} → vector_line t.head done (part run at end) ≡ Err r → left ≡ ends_at r (done + 2)
  cut-refused more e = read_is more e

  pub cut-ends : end < length run → {x : ℕ} → vector_line t.head done (part run at end) ≡ Ok x → {m : Moved} → m ≡ moved_by t ts w x s code → m.next ≡ 0 → left ≡ ends_at NoNext (done + 2)
  cut-ends more {x} e {m} q z =
      read_is more e
      ∙ ap (λ (m : Moved). stepBy t ts w done s code rest m (eqb m.next 0)) (sym q)
      ∙ ap (stepBy t ts w done s code rest m) (eq-eqb m.next 0 z)

  pub cut-steps : end < length run → {x : ℕ} → vector_line t.head done (part run at end) ≡ Ok x → {m : Moved} → m ≡ moved_by t ts w x s code → (m.next ≡ 0 → ⊥)
      → left ≡ in_front (line_of t w m) (ran_from t ts w (done + 1) m.state m.code rest)
  cut-steps more {x} e {m} q o =
      read_is more e
      ∙ ap (λ (m : Moved). stepBy t ts w done s code rest m (eqb m.next 0)) (sym q)
      ∙ ap (stepBy t ts w done s code rest m) (ne_eqb m.next 0 o)

  -- or it is the last
  pub cut-bad : length run ≤ end → at < end → left ≡ ends_at BadLine (done + 2)
  cut-bad none some =
      ap (ran_from t ts w done s code) (here.last none) ∙ end-bad t ts w done s code (part run at end) (omega (arith, part-long run at end here.from here.to))

  pub cut-over : length run ≤ end → end ≤ at → left ≡ ([], Place.Behind done s code)
  cut-over none all =
      ap (ran_from t ts w done s code) (here.last none) ∙ end-over t ts w done s code (part run at end) (omega (arith, part-long run at end here.from here.to))

-- ---- the first line

module _ (t : Listing) (ts : Terms) (bits : List ℕ) where
  abbrev pub firstBy : List (List ℕ) → Result StateNumber Refusal → Course
  firstBy rest v = elim v [ Err r ↦ ends_at r 1 | Ok s ↦ ran_from t ts (length bits) 0 s.0 (code_for bits s.0) rest ]

  pub first_by : (l : List ℕ) (rest : List (List ℕ)) → 1 ≤ length rest → ran_first t ts bits (l ∷ rest) ≡ firstBy rest (start_line t.head l)
  unfolding ran_first
  first_by l [] some = absurd (omega arith)
  first_by l (m ∷ ms) some = refl

  first-missing : (l : List ℕ) → ran_first t ts bits (l ∷ []) ≡ ends_at BadLine 1
  unfolding ran_first
  first-missing l = refl

module _ (t : Listing) (ts : Terms) (bits run : List ℕ) (end : ℕ) (here : Cut lf run 0 end) where
  pub whole-missing : length run ≤ end → ran_first t ts bits (lines_of run) ≡ ends_at BadLine 1
  whole-missing none = ap (ran_first t ts bits) (here.last none) ∙ first-missing t ts bits (part run 0 end)

  whole_by : end < length run → {v : Result StateNumber Refusal} → start_line t.head (part run 0 end) ≡ v → ran_first t ts bits (lines_of run) ≡ firstBy t ts bits (lines_of (drop (end + 1) run)) v
  whole_by more e =
      ap (ran_first t ts bits) (here.more more) ∙ first_by t ts bits (part run 0 end) (lines_of (drop (end + 1) run)) (split-some lf (drop (end + 1) run)) ∙ ap (firstBy t ts bits (lines_of (drop (end + 1) run))) e

  pub whole-refused : end < length run → {r : Refusal} → start_line t.head (part run 0 end) ≡ Err r → ran_first t ts bits (lines_of run) ≡ ends_at r 1
  whole-refused more e = whole_by more e

  -- from what stands behind it
  pub whole-read : end < length run → {s : StateNumber} → start_line t.head (part run 0 end) ≡ Ok s → {code : ℕ} → code ≡ code_for bits s.0
      → ran_first t ts bits (lines_of run) ≡ ran_from t ts (length bits) 0 s.0 code (lines_of (part run (end + 1) (length run)))
  whole-read more {s} e {code} q =
      whole_by more e
      ∙ ap (λ (c : ℕ). ran_from t ts (length bits) 0 s.0 c (lines_of (drop (end + 1) run))) (sym q)
      ∙ ap (λ (text : List ℕ). ran_from t ts (length bits) 0 s.0 code (lines_of text)) (sym (take_all (length run - (end + 1)) (drop (end + 1) run) (omega (arith, length-drop (end + 1) run))))
