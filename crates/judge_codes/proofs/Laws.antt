-- The lines of codes, test by test as they are judged, and one after the other.
use Rattle.std.specs.Prelude.{Option, Some, None, Ok}
use Rattle.std.specs.Bool.{then_some}
use Rattle.std.specs.Option.{option_eq}
use mathlib.Core.Path.{◌≡◌, refl, sym, ap, ap₂, ◌∙◌}
use mathlib.Core.Bool.{Bool, true, false, ◌&&◌, cond}
use mathlib.Core.List.{List, [], ◌∷◌}
use Prim.Native.Nat.{ℕ, zero, suc, ◌+◌, ◌-◌, ◌≤◌, ◌<◌, min}
use native.Mathlib.Omega.{arith}
use lib.Dec.{eqb}
use lib.Pointwise.{pointwise}
use lib.ListN.{length, drop, replicate}
use borrow.Author.Tests.{eq-eqb, ne_eqb}
use Rattle.rules.specs.Limits.{most_states, most_bits}
use Rattle.rules.specs.Text.{bytes, dash, nought, one, lf, same, lines_of, fields_of, field_at, mark_of, sized, set_of, numeral_of}
use Rattle.rules.specs.Listing.{nothing}
use Rattle.rules.specs.CheckTexts.{code_fits, width_in, is_number, code_good, with_code, codes_from, codes_reading, CodesReading}
use Rattle.rules.specs.declared.CodeTable.{CodeTable}
use Rattle.rules.proofs.Known.{same-eq}
use Rattle.read_pieces.proofs.Laws.{Cut, part, split-some, piece-first}
use Rattle.read_pieces.proofs.Nothing.{none-behind, some-behind}
use Rattle.judge_codes.specs.Lines.{just_dash, code_field, code_said}
use Rattle.rules.specs.Refusals.{refused}
use Rattle.rules.specs.declared.Refusal.TheVariants.{BadLine}

-- ---- a field

module _ (f : List ℕ) where
  pub dash-is : pointwise eqb f (dash ∷ []) ≡ just_dash f
  unfolding just_dash same
  dash-is = go f
    where
      go : (f : List ℕ) → pointwise eqb f (dash ∷ []) ≡ same f (dash ∷ [])
      go [] = refl
      go (x ∷ []) = refl
      go (x ∷ (y ∷ ys)) = refl

  -- no bits
  pub field-dash : {w : ℕ} {b : Bool} → w ≡ 0 → b ≡ just_dash f → then_some b 0 ≡ code_field w f
  unfolding code_field code_fits just_dash set_of
  field-dash {w} {b} z e = go b e
    where
      go : (b : Bool) → b ≡ same f (dash ∷ []) → then_some b 0 ≡ cond (code_fits w f) (Some (set_of one f)) None
      go true e = rw (z, sym e) (ap (λ (g : List ℕ). Some (set_of one g)) (sym (same-eq f (dash ∷ []) (sym e))))
      go false e = rw (z, sym e)

  fits-some : (w : ℕ) → (w ≡ 0 → ⊥) → code_fits w f ≡ sized most_bits w nought one one f
  unfolding code_fits
  fits-some zero o = absurd (o refl)
  fits-some (suc w) o = refl

  pub field-unfit : (w : ℕ) → (w ≡ 0 → ⊥) → sized most_bits w nought one one f ≡ false → None ≡ code_field w f
  unfolding code_field
  field-unfit w o e = sym (ap (λ (b : Bool). cond b (Some (set_of one f)) None) (fits-some w o ∙ e))

  pub field_fit : (w : ℕ) {m : ℕ} → (w ≡ 0 → ⊥) → sized most_bits w nought one one f ≡ true → m ≡ set_of one f → Some m ≡ code_field w f
  unfolding code_field
  field_fit w o e q = ap Some q ∙ sym (ap (λ (b : Bool). cond b (Some (set_of one f)) None) (fits-some w o ∙ e))

  pub number-is : (s : ℕ) {o : Option ℕ} → o ≡ numeral_of f → option_eq eqb o (Some s) ≡ is_number s f
  unfolding is_number
  number-is s {o} e = go o ∙ ap (λ (x : Option ℕ). elim x [ Some v ↦ eqb v s | None ↦ false ]) e
    where
      go : (x : Option ℕ) → option_eq eqb x (Some s) ≡ elim x [ Some v ↦ eqb v s | None ↦ false ]
      go (Some v) = refl
      go None = refl

-- ---- a line

pub width-dash : (l : List ℕ) {f : List ℕ} → f ≡ field_at l 2 → just_dash f ≡ true → 0 ≡ width_in l
unfolding width_in just_dash
width-dash l e d = sym (ap (λ (b : Bool). cond b 0 (length (field_at l 2))) (ap (λ (g : List ℕ). same g (dash ∷ [])) (sym e) ∙ d))

pub width_some : (l : List ℕ) {f : List ℕ} → f ≡ field_at l 2 → just_dash f ≡ false → length f ≡ width_in l
unfolding width_in just_dash
width_some l e d = ap length e ∙ sym (ap (λ (b : Bool). cond b 0 (length (field_at l 2))) (ap (λ (g : List ℕ). same g (dash ∷ [])) (sym e) ∙ d))

module _ (w s : ℕ) (l : List ℕ) where
  -- the tests of a line, one by one
  by_tests : {a b c d : Bool} → eqb (length (fields_of l)) 3 ≡ a → same (mark_of l) (bytes "SC") ≡ b → is_number s (field_at l 1) ≡ c → code_fits w (field_at l 2) ≡ d → code_said w s l ≡ cond (a && (b && (c && d))) (Some (set_of one (field_at l 2))) None
  unfolding code_said code_good
  by_tests p q r t = rw (p, q, r, t)

  pub said-fields : (length (fields_of l) ≡ 3 → ⊥) → None ≡ code_said w s l
  said-fields o = sym (by_tests (ne_eqb _ 3 o) refl refl refl)

  pub said-mark : length (fields_of l) ≡ 3 → same (mark_of l) (bytes "SC") ≡ false → None ≡ code_said w s l
  said-mark e f = sym (by_tests (eq-eqb _ 3 e) f refl refl)

  pub said-number : length (fields_of l) ≡ 3 → same (mark_of l) (bytes "SC") ≡ true → is_number s (field_at l 1) ≡ false → None ≡ code_said w s l
  said-number e f g = sym (by_tests (eq-eqb _ 3 e) f g refl)

  pub said-code : {f : List ℕ} {c : Option ℕ} → length (fields_of l) ≡ 3 → same (mark_of l) (bytes "SC") ≡ true → is_number s (field_at l 1) ≡ true → f ≡ field_at l 2 → c ≡ code_field w f → c ≡ code_said w s l
  unfolding code_field
  said-code e f g q r = r ∙ ap (code_field w) q ∙ sym (by_tests (eq-eqb _ 3 e) f g refl)

-- what a line that was judged is
pub said-good : (w s : ℕ) (l : List ℕ) {c : Option ℕ} {m : ℕ} → c ≡ code_said w s l → c ≡ Some m → (code_good w s l ≡ true) × (m ≡ set_of one (field_at l 2))
unfolding code_said
said-good w s l {c} {m} e f = go (code_good w s l) refl (sym f ∙ e)
  where
    go : (b : Bool) → code_good w s l ≡ b → Some m ≡ cond b (Some (set_of one (field_at l 2))) None → (code_good w s l ≡ true) × (m ≡ set_of one (field_at l 2))
    go true q r = (q, cc)
    go false q r = absurd (let z : ◌≡◌ {A = ℕ} 0 1 = cc in omega arith)

pub said-bad : (w s : ℕ) (l : List ℕ) {c : Option ℕ} → c ≡ code_said w s l → c ≡ None → code_good w s l ≡ false
unfolding code_said
said-bad w s l {c} e f = go (code_good w s l) refl (sym f ∙ e)
  where
    go : (b : Bool) → code_good w s l ≡ b → None ≡ cond b (Some (set_of one (field_at l 2))) None → code_good w s l ≡ false
    go true q r = absurd (let z : ◌≡◌ {A = ℕ} 0 1 = cc in omega arith)
    go false q r = q

-- ---- line by line

module _ (text : List ℕ) (at end : ℕ) (here : Cut lf text at end) (s n : ℕ) (c : CodeTable) where
  abbrev left : CodesReading
  left = codes_from s (n - s) c (lines_of (drop at text))

  abbrev rest : List (List ℕ)
  rest = lines_of (drop (end + 1) text)

  abbrev lineBy : Bool → CodesReading
  lineBy b = elim b [ true ↦ codes_from (s + 1) (n - (s + 1)) (with_code s (set_of one (field_at (part text at end) 2)) c) rest | false ↦ refused BadLine (s + 1) ]

  -- a line that is missing, or has no LF
  pub line-missing : s < n → length text ≤ end → refused BadLine (s + 1) ≡ left
  unfolding codes_from
  line-missing h o = let more : n - s ≡ suc (n - (s + 1)) = omega arith in sym (ap₂ (λ (k : ℕ) (ls : List (List ℕ)). codes_from s k c ls) more (here.last o))

  line-by : s < n → end < length text → left ≡ lineBy (code_good c.width s (part text at end))
  unfolding codes_from
  line-by h o =
      let more : n - s ≡ suc (n - (s + 1)) = omega arith in
      ap₂ (λ (k : ℕ) (ls : List (List ℕ)). codes_from s k c ls) more (here.more o) ∙ go rest (split-some lf (drop (end + 1) text))
    where
      go : (ls : List (List ℕ)) → 1 ≤ length ls
          → codes_from s (suc (n - (s + 1))) c (part text at end ∷ ls) ≡ elim (code_good c.width s (part text at end)) [ true ↦ codes_from (s + 1) (n - (s + 1)) (with_code s (set_of one (field_at (part text at end) 2)) c) ls | false ↦ refused BadLine (s + 1) ]
      go [] h = absurd (omega arith)
      go (m ∷ ms) h = refl

  pub line-bad : s < n → end < length text → code_good c.width s (part text at end) ≡ false → refused BadLine (s + 1) ≡ left
  line-bad h o e = sym (line-by h o ∙ ap lineBy e)

  pub line-good : s < n → end < length text → code_good c.width s (part text at end) ≡ true → codes_from (s + 1) (n - (s + 1)) (with_code s (set_of one (field_at (part text at end) 2)) c) rest ≡ left
  line-good h o e = sym (line-by h o ∙ ap lineBy e)

-- behind the last line
module _ (text : List ℕ) (at s n : ℕ) (c : CodeTable) (over : n ≤ s) where
  over_by : codes_from s (n - s) c (lines_of (drop at text)) ≡ elim (nothing (lines_of (drop at text))) [ true ↦ Ok c | false ↦ refused BadLine (s + 1) ]
  unfolding codes_from
  over_by = let none : n - s ≡ 0 = omega arith in ap (λ (k : ℕ). codes_from s k c (lines_of (drop at text))) none

  pub over-more : (length (drop at text) ≡ 0 → ⊥) → refused BadLine (s + 1) ≡ codes_from s (n - s) c (lines_of (drop at text))
  over-more o = sym (over_by ∙ ap (λ (b : Bool). elim b [ true ↦ Ok c | false ↦ refused BadLine (s + 1) ]) (some-behind (drop at text) o))

  pub over_none : length (drop at text) ≡ 0 → Ok c ≡ codes_from s (n - s) c (lines_of (drop at text))
  over_none e = sym (over_by ∙ ap (λ (b : Bool). elim b [ true ↦ Ok c | false ↦ refused BadLine (s + 1) ]) (none-behind (drop at text) e))

-- before the first line
pub first-codes : (states : ℕ) (text : List ℕ) {n w end : ℕ} → n ≡ min states most_states → Cut lf text 0 end → w ≡ width_in (part text 0 end)
    → codes_from 0 (n - 0) (record { width = w; table = replicate most_states 0 }) (lines_of text) ≡ codes_reading (min states most_states) (lines_of text)
unfolding codes_reading
first-codes states text {n} {w} {end} e here f =
    let z : n - 0 ≡ n = omega arith in
    ap₂ (λ (k v : ℕ). codes_from 0 k (record { width = v; table = replicate most_states 0 }) (lines_of text)) (z ∙ e) (f ∙ ap width_in (sym (piece-first lf text 0 end here)))
