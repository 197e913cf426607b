-- The lines of a listing's text, read one by one: the head says the head that it was written from, a row's line the row, with the line's number.
use Rattle.rules.specs.declared.Refusal.{Refusal}
use Rattle.std.specs.Prelude.{Result, Ok, Err, Some}
use mathlib.Core.Path.{◌≡◌, refl, sym, ap, ap₂, ◌∙◌}
use mathlib.Core.Bool.{Bool, true, false, ◌&&◌, not, cond}
use mathlib.Core.List.{List, [], ◌∷◌}
use Prim.Native.Nat.{ℕ, ◌≤◌, ◌<◌}
use native.Mathlib.Omega.{arith}
use lib.Dec.{eqb}
use lib.ListN.{length, get_or}
use borrow.Author.Tests.{le-leb, lt-leb, ne_eqb}
use Rattle.sets.specs.Sets.{size}
use Rattle.rules.specs.Limits.{most_states, most_inputs, most_outputs, most_bits, most_rows}
use Rattle.rules.specs.Text.{bytes, one, dash, split, same, fields_of, mark_of, mark_is, set_of, numeral_of, decimal}
use Rattle.rules.specs.Lines.{head_numbers, head_numerals, fifth_of, head_line, row_fits, outputs_fit, row_of, row_checked, moore_line, mealy_line, row_line, end_line}
use Rattle.rules.specs.Listing.{with_head, with_row, goes, ends, stops, on_head, on_row, placed, line_does, line_step}
use Rattle.rules.specs.ListingText.{pattern_field, set_field, head_text, row_text, on_line}
use Rattle.rules.specs.declared.Head.{Head}
use Rattle.rules.specs.declared.Pattern.{Pattern}
use Rattle.rules.specs.declared.Row.{Row}
use Rattle.rules.specs.declared.Listing.{Listing}
use Rattle.rules.specs.declared.Mark.{Mark}
use Rattle.rules.specs.declared.Mark.TheVariants.{Mc, Pt, En}
use Rattle.rules.specs.declared.Refusal.TheVariants.{BadLine, Place}
use Rattle.rules.proofs.SoundLines.{SoundHead, SoundPattern, SoundRow}
use Rattle.rules.proofs.Numerals.{numeral-read}
use Rattle.rules.proofs.WrittenFields.{set-field, set-fits, ones-field, dashes-field, pattern-fits}
use Rattle.rules.proofs.ListingLines.{head-fields, row-fields}

-- ---- the head

-- the same head, said with its fifth number and its mark
head-again : (h : Head) {keeps moore : Bool} → keeps ≡ h.keeps → moore ≡ h.moore
    → record { states = h.states; inputs = h.inputs; outputs = h.outputs; width = h.width; keeps = keeps; moore = moore } ≡ h
head-again h p q = ap₂ (λ (k m : Bool). record { states = h.states; inputs = h.inputs; outputs = h.outputs; width = h.width; keeps = k; moore = m }) p q

numbers-back : (h : Head) → SoundHead h → h.moore ≡ false → (k : ℕ) → k ≤ 1 → eqb k 1 ≡ h.keeps
    → head_numbers false h.states h.inputs h.outputs h.width k ≡ Ok h
unfolding head_numbers
numbers-back h s m k few e =
    rw (
      le-leb 1 h.states s.some-states,
      le-leb h.states most_states s.few-states,
      le-leb 1 h.inputs s.some-inputs,
      le-leb h.inputs most_inputs s.few-inputs,
      le-leb 1 h.outputs s.some-outputs,
      le-leb h.outputs most_outputs s.few-outputs,
      le-leb h.width most_bits s.few_bits,
      le-leb k 1 few,
    )
    (ap Ok (head-again h e (sym m)))

numerals-back : (h : Head) → SoundHead h → h.moore ≡ false → (k : ℕ) → k ≤ 1 → eqb k 1 ≡ h.keeps
    → head_numerals false (numeral_of (decimal h.states)) (numeral_of (decimal h.inputs)) (numeral_of (decimal h.outputs)) (numeral_of (decimal h.width)) (Some k) ≡ Ok h
unfolding head_numerals
numerals-back h s m k few e =
    rw (
      numeral-read h.states (omega (arith, s.few-states)),
      numeral-read h.inputs (omega (arith, s.few-inputs)),
      numeral-read h.outputs (omega (arith, s.few-outputs)),
      numeral-read h.width (omega (arith, s.few_bits)),
    )
    (numbers-back h s m k few e)

pub head-back : (h : Head) → SoundHead h → h.moore ≡ false → head_line false (head_text h) ≡ Ok h
unfolding head_line fifth_of
head-back h s m = go h.keeps refl (head-fields h)
  where
    go : (k : Bool) → h.keeps ≡ k
        → fields_of (head_text h) ≡ bytes "MC" ∷ (decimal h.states ∷ (decimal h.inputs ∷ (decimal h.outputs ∷ (decimal h.width ∷ cond k (bytes "1" ∷ []) []))))
        → head_line false (head_text h) ≡ Ok h
    go true e fields = rw fields (numerals-back h s m 1 (omega arith) (sym e))
    go false e fields = rw fields (numerals-back h s m 0 (omega arith) (sym e))

-- ---- a row

pattern-back : (k : ℕ) (p : Pattern) → SoundPattern k p → record { ones = set_of one (pattern_field k p); dashes = set_of dash (pattern_field k p) } ≡ p
pattern-back k p s = ap₂ (λ (o d : ℕ). record { ones = o; dashes = d }) (ones-field k p s) (dashes-field k p s)

module _ (h : Head) (r : Row) (head : SoundHead h) (s : SoundRow h r) where
  fields_fit : (row_fits h (pattern_field h.inputs r.input) (set_field h.states r.group) (set_field h.states r.next) && outputs_fit h (pattern_field h.outputs r.outputs)) ≡ true
  unfolding row_fits outputs_fit
  fields_fit =
      rw (
        pattern-fits most_inputs h.inputs r.input head.few-inputs,
        set-fits most_states h.states r.group head.few-states,
        set-fits most_states h.states r.next head.few-states,
      )
      (pattern-fits most_outputs h.outputs r.outputs head.few-outputs)

  row-again : (k : ℕ) → row_of k (pattern_field h.inputs r.input) (set_field h.states r.group) (set_field h.states r.next) (pattern_field h.outputs r.outputs) ≡ on_line k r
  row-again k =
      cc (
        pattern-back h.inputs r.input s.input,
        set-field h.states r.group s.group,
        set-field h.states r.next s.next,
        pattern-back h.outputs r.outputs s.outputs,
      )

  row-passes : (count k : ℕ) → count < most_rows → row_checked count (on_line k r) ≡ Ok (on_line k r)
  unfolding row_checked
  row-passes count k room = rw (lt-leb most_rows count room, ne_eqb r.group 0 s.some, lt-leb 2 (size r.next) (omega (arith, s.one-next)))

  mealy-back : (count k : ℕ) → count < most_rows → mealy_line h count k (row_text h r) ≡ Ok (on_line k r)
  unfolding mealy_line
  mealy-back count k room =
      ap (λ (fs : List (List ℕ)). said fs (row_fits h (get_or fs 1 []) (get_or fs 2 []) (get_or fs 3 []) && outputs_fit h (get_or fs 4 []))) (row-fields h r)
      ∙ ap (λ (b : Bool). cond b (row_checked count (row_of k input group next outputs)) (Err BadLine)) fields_fit
      ∙ ap (row_checked count) (row-again k)
      ∙ row-passes count k room
    where
      input : List ℕ
      input = pattern_field h.inputs r.input

      group : List ℕ
      group = set_field h.states r.group

      next : List ℕ
      next = set_field h.states r.next

      outputs : List ℕ
      outputs = pattern_field h.outputs r.outputs

      said : List (List ℕ) → Bool → Result Row Refusal
      said fs b = cond (eqb (length fs) 5 && b) (row_checked count (row_of k (get_or fs 1 []) (get_or fs 2 []) (get_or fs 3 []) (get_or fs 4 []))) (Err BadLine)

  pub row_back : (count k : ℕ) → h.moore ≡ false → count < most_rows → row_line h count k (row_text h r) ≡ Ok (on_line k r)
  unfolding row_line
  row_back count k m room = ap (λ (b : Bool). cond b (moore_line h count k (row_text h r)) (mealy_line h count k (row_text h r))) m ∙ mealy-back count k room

-- ---- the steps

-- a line that is led by a mark
step_of : (m : Mark) (k : ℕ) (t : Listing) (l : List ℕ) → mark_is (mark_of l) ≡ m → line_step k t l ≡ cond (placed m k t.head t.given l) (line_does m k t l) (stops Place)
unfolding line_step
step_of m k t l e = ap (λ (n : Mark). cond (placed n k t.head t.given l) (line_does n k t l) (stops Place)) e

mark-back : (m : Mark) (l f : List ℕ) (fs : List (List ℕ)) → fields_of l ≡ f ∷ fs → mark_is f ≡ m → mark_is (mark_of l) ≡ m
unfolding mark_of
mark-back m l f fs e q = rw e q

-- the marks of the three
pub head-mark : (h : Head) → mark_is (mark_of (head_text h)) ≡ Mc
unfolding mark_is same
head-mark h = mark-back Mc (head_text h) _ _ (head-fields h) refl

pub row-mark : (h : Head) (r : Row) → mark_is (mark_of (row_text h r)) ≡ Pt
unfolding mark_is same
row-mark h r = mark-back Pt (row_text h r) _ _ (row-fields h r) refl

pub end_mark : mark_is (mark_of (bytes "EN")) ≡ En
unfolding mark_is mark_of same split
end_mark = refl

pub head_step : (h : Head) → SoundHead h → h.moore ≡ false → (t : Listing) → line_step 1 t (head_text h) ≡ goes (with_head h t)
unfolding placed line_does
head_step h s m t = step_of Mc 1 t (head_text h) (head-mark h) ∙ ap (λ (x : Result Head Refusal). on_head x t) (head-back h s m)

later : (k : ℕ) → 2 ≤ k → eqb k 1 ≡ false
later k h = ne_eqb k 1 (λ e. omega arith)

pub row_step : (r : Row) (k : ℕ) (t : Listing) → SoundHead t.head → SoundRow t.head r → t.head.moore ≡ false → 2 ≤ k → t.rows < most_rows
    → line_step k t (row_text t.head r) ≡ goes (with_row (on_line k r) t)
unfolding placed line_does
row_step r k t head s m h room =
    step_of Pt k t (row_text t.head r) (row-mark t.head r)
    ∙ ap (λ (b : Bool). cond (not b) (on_row (row_line t.head t.rows k (row_text t.head r)) t) (stops Place)) (later k h)
    ∙ ap (λ (x : Result Row Refusal). on_row x t) (row_back t.head r head s t.rows k m room)

pub end_step : (k : ℕ) (t : Listing) → 2 ≤ k → line_step k t (bytes "EN") ≡ ends
unfolding placed line_does split end_line
end_step k t h = step_of En k t (bytes "EN") end_mark ∙ ap (λ (b : Bool). cond (not b) ends (stops Place)) (later k h)
