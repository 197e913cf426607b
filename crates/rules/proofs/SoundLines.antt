-- What a line that is read says: a head within 01's limits, and a row, a dichotomy or a state's outputs within the head's numbers.
use Rattle.rules.specs.declared.StateOutputs.{StateOutputs}
use Rattle.std.specs.Prelude.{Result, Option, Ok, Err, Some, None}
use mathlib.Core.Path.{◌≡◌, refl, sym, ap, subst, ◌∙◌}
use mathlib.Core.Bool.{Bool, true, false, ◌&&◌, cond, false≢true}
use mathlib.Core.List.{List, []}
use Prim.Native.Nat.{ℕ, ◌^◌, ◌≤◌, ◌<◌}
use native.Mathlib.Omega.{arith}
use lib.Dec.{leb, ltb, eqb}
use lib.Pow.{pow_pos}
use lib.Bits.{bit_and}
use lib.ListN.{length}
use borrow.Author.Tests.{leb-true, leb-false, ltb-true, eqb-false}
use Rattle.sets.specs.Sets.{size}
use Rattle.sets.proofs.Every.{and_first, and_second}
use Rattle.rules.specs.Limits.{most_states, most_inputs, most_outputs, most_bits, most_rows, most_dichotomies}
use Rattle.rules.specs.Text.{nought, one, dash, plus, dot, fields_of, field_at, sized, set_of, numeral_of}
use Rattle.rules.specs.Lines.{head_numbers, head_numerals, fifth_of, head_line, row_fits, outputs_fit, row_of, row_checked, mealy_line, moore_line, row_line, dichotomy_line, outputs_read, outputs_line}
use Rattle.rules.specs.Listing.{no_pattern}
use Rattle.rules.specs.declared.Head.{Head}
use Rattle.rules.specs.declared.Pattern.{Pattern}
use Rattle.rules.specs.declared.Row.{Row}
use Rattle.rules.specs.declared.Requirement.{Requirement}
use Rattle.rules.specs.declared.Refusal.{Refusal}
use Rattle.rules.specs.declared.Refusal.TheVariants.{BadLine}
use Rattle.rules.proofs.Ways.{chose-first, chose-second, same-ok, not-ok}
use Rattle.rules.proofs.Characters.{set_apart, sized_set}

pub record SoundHead (h : Head) : Type 0 where
  pub some-states : 1 ≤ h.states
  pub few-states : h.states ≤ most_states
  pub some-inputs : 1 ≤ h.inputs
  pub few-inputs : h.inputs ≤ most_inputs
  pub some-outputs : 1 ≤ h.outputs
  pub few-outputs : h.outputs ≤ most_outputs
  pub few_bits : h.width ≤ most_bits

-- k characters `0 1 -`
pub record SoundPattern (k : ℕ) (p : Pattern) : Type 0 where
  pub ones : p.ones < 2 ^ k
  pub dashes : p.dashes < 2 ^ k
  pub apart : bit_and p.ones p.dashes ≡ 0

pub record SoundRow (h : Head) (r : Row) : Type 0 where
  pub input : SoundPattern h.inputs r.input
  pub group : r.group < 2 ^ h.states
  pub some : r.group ≡ 0 → ⊥
  pub next : r.next < 2 ^ h.states
  pub one-next : size r.next ≤ 1
  pub outputs : SoundPattern h.outputs r.outputs

-- what is asked of a row for its line in the cover
pub record FitRow (h : Head) (r : Row) : Type 0 where
  pub ones : r.input.ones < 2 ^ h.inputs
  pub group : r.group < 2 ^ h.states
  pub some : r.group ≡ 0 → ⊥
  pub next : r.next < 2 ^ h.states
  pub one-next : size r.next ≤ 1

pub sound-fits : {h : Head} {r : Row} → SoundRow h r → FitRow h r
sound-fits s = record { ones = s.input.ones; group = s.group; some = s.some; next = s.next; one-next = s.one-next }

-- a dichotomy of n states
pub record SoundBlocks (n : ℕ) (d : Requirement) : Type 0 where
  pub first : d.first < 2 ^ n
  pub second : d.second < 2 ^ n
  pub apart : bit_and d.first d.second ≡ 0

-- ---- the head line

head-numbers : (m : Bool) (n i o w k : ℕ) (h : Head) → head_numbers m n i o w k ≡ Ok h → SoundHead h
unfolding head_numbers
head-numbers m n i o w k h e =
    let ns = leb 1 n && leb n most_states in
    let is = leb 1 i && leb i most_inputs in
    let os = leb 1 o && leb o most_outputs in
    let c = chose-first (ns && is && os && leb w most_bits && leb k 1) e not-ok in
    let e₄ = and_first (ns && is && os && leb w most_bits) (leb k 1) c.0 in
    let e₃ = and_first (ns && is && os) (leb w most_bits) e₄ in
    let e₂ = and_first (ns && is) os e₃ in
    let same : record { states = n; inputs = i; outputs = o; width = w; keeps = eqb k 1; moore = m } ≡ h = same-ok c.1 in
    subst SoundHead same record {
      some-states = leb-true 1 n (and_first (leb 1 n) (leb n most_states) (and_first ns is e₂));
      few-states = leb-true n most_states (and_second (leb 1 n) (leb n most_states) (and_first ns is e₂));
      some-inputs = leb-true 1 i (and_first (leb 1 i) (leb i most_inputs) (and_second ns is e₂));
      few-inputs = leb-true i most_inputs (and_second (leb 1 i) (leb i most_inputs) (and_second ns is e₂));
      some-outputs = leb-true 1 o (and_first (leb 1 o) (leb o most_outputs) (and_second (ns && is) os e₃));
      few-outputs = leb-true o most_outputs (and_second (leb 1 o) (leb o most_outputs) (and_second (ns && is) os e₃));
      few_bits = leb-true w most_bits (and_second (ns && is && os) (leb w most_bits) e₄);
    }

head-numerals : (m : Bool) (n i o w k : Option ℕ) (h : Head) → head_numerals m n i o w k ≡ Ok h → SoundHead h
unfolding head_numerals
head-numerals m (Some n) (Some i) (Some o) (Some w) (Some k) h e = head-numbers m n i o w k h e
head-numerals m (Some n) (Some i) (Some o) (Some w) None h e = absurd (not-ok e)
head-numerals m (Some n) (Some i) (Some o) None k h e = absurd (not-ok e)
head-numerals m (Some n) (Some i) None w k h e = absurd (not-ok e)
head-numerals m (Some n) None o w k h e = absurd (not-ok e)
head-numerals m None i o w k h e = absurd (not-ok e)

pub head-sound : (m : Bool) (l : List ℕ) (h : Head) → head_line m l ≡ Ok h → SoundHead h
unfolding head_line
head-sound m l h e =
    head-numerals m (numeral_of (field_at l 1)) (numeral_of (field_at l 2)) (numeral_of (field_at l 3)) (numeral_of (field_at l 4)) (fifth_of l) h
    (chose-first (leb 5 (length (fields_of l)) && leb (length (fields_of l)) 6) e not-ok).1

-- it is `MO` that makes a Moore machine
numbers-kind : (m : Bool) (n i o w k : ℕ) (h : Head) → head_numbers m n i o w k ≡ Ok h → h.moore ≡ m
unfolding head_numbers
numbers-kind m n i o w k h e =
    let c = chose-first (leb 1 n && leb n most_states && (leb 1 i && leb i most_inputs) && (leb 1 o && leb o most_outputs) && leb w most_bits && leb k 1) e not-ok in
    ap (λ (h : Head). h.moore) (sym (same-ok c.1))

numerals-kind : (m : Bool) (n i o w k : Option ℕ) (h : Head) → head_numerals m n i o w k ≡ Ok h → h.moore ≡ m
unfolding head_numerals
numerals-kind m (Some n) (Some i) (Some o) (Some w) (Some k) h e = numbers-kind m n i o w k h e
numerals-kind m (Some n) (Some i) (Some o) (Some w) None h e = absurd (not-ok e)
numerals-kind m (Some n) (Some i) (Some o) None k h e = absurd (not-ok e)
numerals-kind m (Some n) (Some i) None w k h e = absurd (not-ok e)
numerals-kind m (Some n) None o w k h e = absurd (not-ok e)
numerals-kind m None i o w k h e = absurd (not-ok e)

pub head-kind : (m : Bool) (l : List ℕ) (h : Head) → head_line m l ≡ Ok h → h.moore ≡ m
unfolding head_line
head-kind m l h e =
    numerals-kind m (numeral_of (field_at l 1)) (numeral_of (field_at l 2)) (numeral_of (field_at l 3)) (numeral_of (field_at l 4)) (fifth_of l) h
    (chose-first (leb 5 (length (fields_of l)) && leb (length (fields_of l)) 6) e not-ok).1

-- ---- a row's line

row-checked : (count : ℕ) (a r : Row) → row_checked count a ≡ Ok r → (count < most_rows) × (a.group ≡ 0 → ⊥) × (size a.next ≤ 1) × (a ≡ r)
unfolding row_checked
row-checked count a r e =
    let e₁ = chose-second (leb most_rows count) e not-ok in
    let e₂ = chose-second (eqb a.group 0) e₁.1 not-ok in
    let e₃ = chose-second (leb 2 (size a.next)) e₂.1 not-ok in
    (leb-false most_rows count e₁.0, eqb-false a.group 0 e₂.0, omega (arith, leb-false 2 (size a.next) e₃.0), same-ok e₃.1)

pub pattern : (most k : ℕ) (f : List ℕ) → sized most k nought one dash f ≡ true → SoundPattern k (record { ones = set_of one f; dashes = set_of dash f })
pattern most k f q = record {
  ones = sized_set most k nought one dash f q one;
  dashes = sized_set most k nought one dash f q dash;
  apart = set_apart one dash (λ z. omega arith) f;
}

pub no-pattern : (k : ℕ) → SoundPattern k no_pattern
no-pattern k = record { ones = pow_pos k; dashes = pow_pos k; apart = refl }

row_fits_lem : (h : Head) (line : ℕ) (input group next outputs : List ℕ) → row_fits h input group next ≡ true
    → SoundPattern h.outputs (row_of line input group next outputs).outputs
    → ((row_of line input group next outputs).group ≡ 0 → ⊥) → size (row_of line input group next outputs).next ≤ 1
    → SoundRow h (row_of line input group next outputs)
unfolding row_fits
row_fits_lem h line input group next outputs e said some few =
    let i = sized most_inputs h.inputs nought one dash input in
    let g = sized most_states h.states nought one one group in
    let n = sized most_states h.states nought one one next in
    let e₂ : i && g ≡ true = and_first (i && g) n e in
    record {
      input = pattern most_inputs h.inputs input (and_first i g e₂);
      group = sized_set most_states h.states nought one one group (and_second i g e₂) one;
      some = some;
      next = sized_set most_states h.states nought one one next (and_second (i && g) n e) one;
      one-next = few;
      outputs = said;
    }

-- what a row's line that is read says: there is room, the row is sound, it keeps its line, and under `MO` it says nothing of the outputs
pub record ReadRow (h : Head) (count line : ℕ) (r : Row) : Type 0 where
  pub room : count < most_rows
  pub sound : SoundRow h r
  pub keeps_line : r.line ≡ line
  pub plain : h.moore ≡ true → r.outputs ≡ no_pattern

mealy-read : (h : Head) (count line : ℕ) (l : List ℕ) (r : Row) → h.moore ≡ false → mealy_line h count line l ≡ Ok r → ReadRow h count line r
unfolding mealy_line outputs_fit
mealy-read h count line l r m e =
    let five = eqb (length (fields_of l)) 5 in
    let fits = row_fits h (field_at l 1) (field_at l 2) (field_at l 3) in
    let outs = sized most_outputs h.outputs nought one dash (field_at l 4) in
    let row = row_of line (field_at l 1) (field_at l 2) (field_at l 3) (field_at l 4) in
    let c = chose-first (five && (fits && outs)) e not-ok in
    let k = row-checked count row r c.1 in
    let f = and_second five (fits && outs) c.0 in
    record {
      room = k.0;
      sound = subst (SoundRow h) k.3 (row_fits_lem h line (field_at l 1) (field_at l 2) (field_at l 3) (field_at l 4) (and_first fits outs f) (pattern most_outputs h.outputs (field_at l 4) (and_second fits outs f)) k.1 k.2);
      keeps_line = ap (λ (x : Row). x.line) (sym k.3);
      plain = λ q. absurd (false≢true (sym m ∙ q));
    }

moore-read : (h : Head) (count line : ℕ) (l : List ℕ) (r : Row) → moore_line h count line l ≡ Ok r → ReadRow h count line r
unfolding moore_line set_of
moore-read h count line l r e =
    let four = eqb (length (fields_of l)) 4 in
    let fits = row_fits h (field_at l 1) (field_at l 2) (field_at l 3) in
    let row = row_of line (field_at l 1) (field_at l 2) (field_at l 3) [] in
    let c = chose-first (four && fits) e not-ok in
    let k = row-checked count row r c.1 in
    record {
      room = k.0;
      sound = subst (SoundRow h) k.3 (row_fits_lem h line (field_at l 1) (field_at l 2) (field_at l 3) [] (and_second four fits c.0) (no-pattern h.outputs) k.1 k.2);
      keeps_line = ap (λ (x : Row). x.line) (sym k.3);
      plain = λ q. ap (λ (x : Row). x.outputs) (sym k.3);
    }

pub row_read : (h : Head) (count line : ℕ) (l : List ℕ) (r : Row) → row_line h count line l ≡ Ok r → ReadRow h count line r
unfolding row_line
row_read h count line l r e = go h.moore refl e
  where
    go : (m : Bool) → h.moore ≡ m → cond m (moore_line h count line l) (mealy_line h count line l) ≡ Ok r → ReadRow h count line r
    go true m e = moore-read h count line l r e
    go false m e = mealy-read h count line l r m e

-- ---- a state's outputs

pub outputs-sound : (h : Head) (l : List ℕ) (o : StateOutputs) → outputs_line h l ≡ Ok o → (o.state.0 < h.states) × SoundPattern h.outputs o.outputs
unfolding outputs_line outputs_fit outputs_read
outputs-sound h l o e =
    let three = eqb (length (fields_of l)) 3 in
    let fits = sized most_outputs h.outputs nought one dash (field_at l 2) in
    let c = chose-first (three && fits) e not-ok in
    on (numeral_of (field_at l 1)) (and_second three fits c.0) c.1
  where
    read : (n : ℕ) → sized most_outputs h.outputs nought one dash (field_at l 2) ≡ true → outputs_read h n (field_at l 2) ≡ Ok o → (o.state.0 < h.states) × SoundPattern h.outputs o.outputs
    read n q e =
        let c = chose-first (ltb n h.states) e not-ok in
        let same = same-ok c.1 in
        (subst (λ (a : StateOutputs). a.state.0 < h.states) same (ltb-true n h.states c.0), subst (λ (a : StateOutputs). SoundPattern h.outputs a.outputs) same (pattern most_outputs h.outputs (field_at l 2) q))

    on : (x : Option ℕ) → sized most_outputs h.outputs nought one dash (field_at l 2) ≡ true
        → elim x as (λ _. Result StateOutputs Refusal) [ Some n ↦ outputs_read h n (field_at l 2) | None ↦ Err BadLine ] ≡ Ok o → (o.state.0 < h.states) × SoundPattern h.outputs o.outputs
    on (Some n) q e = read n q e
    on None q e = absurd (not-ok e)

-- ---- a dichotomy's line

pub dichotomy-sound : (h : Head) (count : ℕ) (l : List ℕ) (d : Requirement) → dichotomy_line h count l ≡ Ok d
    → (count < most_dichotomies) × SoundBlocks h.states d
unfolding dichotomy_line
dichotomy-sound h count l d e =
    let two = eqb (length (fields_of l)) 2 in
    let fits = sized most_states h.states plus dash dot (field_at l 1) in
    let c = chose-first (two && fits) e not-ok in
    let k = chose-second (leb most_dichotomies count) c.1 not-ok in
    (leb-false most_dichotomies count k.0, subst (SoundBlocks h.states) (same-ok k.1) (blocks (field_at l 1) (and_second two fits c.0)))
  where
    blocks : (f : List ℕ) → sized most_states h.states plus dash dot f ≡ true
        → SoundBlocks h.states (record { first = set_of plus f; second = set_of dash f })
    blocks f q = record {
      first = sized_set most_states h.states plus dash dot f q plus;
      second = sized_set most_states h.states plus dash dot f q dash;
      apart = set_apart plus dash (λ z. omega arith) f;
    }
