-- The lines of a cover, test by test as they are judged.
use Rattle.rules.specs.declared.Refusal.{Refusal}
use Rattle.std.specs.Prelude.{Result, Option, Ok, Err, None}
use Rattle.std.specs.List.{list_all}
use mathlib.Core.Path.{◌≡◌, refl, sym, ap, ◌∙◌}
use mathlib.Core.Bool.{Bool, true, false, ◌&&◌, ◌||◌, cond}
use mathlib.Core.List.{List, [], ◌∷◌}
use Prim.Native.Nat.{ℕ, ◌≤◌, ◌<◌}
use lib.Dec.{leb, ltb, eqb}
use lib.ListN.{length}
use borrow.Author.Tests.{eq-eqb, ne_eqb, le-leb, lt-leb, lt-ltb, le-ltb}
use Rattle.rules.specs.Limits.{most_checked}
use Rattle.rules.specs.Text.{bytes, nought, one, dash, same, mark_of, fields_of, field_at, all_of, numeral_of}
use Rattle.rules.specs.Replay.{marked}
use Rattle.rules.specs.CheckTexts.{number_behind, places_fit, row_good, with_inputs, with_outputs, with_products, with_row, in_part, row_counted, end_counted, cover_line_in, cover_line, fitting}
use Rattle.rules.specs.declared.Refusal.TheVariants.{BadLine, Limit, Misfit}
use Rattle.rules.specs.Refusals.{refused}
use Rattle.rules.specs.declared.CoverPart.{CoverPart}
use Rattle.rules.specs.declared.CoverPart.TheVariants.{Inputs, Outputs, Kind, Products, Rows, Over}
use Rattle.rules.specs.declared.CoverHeads.{CoverHeads}

-- ---- a mark and a number

module _ (m l : List ℕ) where
  behind-by : {a b : Bool} → eqb (length (fields_of l)) 2 ≡ a → same (field_at l 0) m ≡ b → number_behind m l ≡ cond (a && b) (numeral_of (field_at l 1)) None
  unfolding number_behind marked mark_of
  behind-by e f = rw (e, f)

  pub behind-fields : (length (fields_of l) ≡ 2 → ⊥) → None ≡ number_behind m l
  behind-fields o = sym (behind-by (ne_eqb _ 2 o) refl)

  pub behind-mark : {g : List ℕ} → length (fields_of l) ≡ 2 → g ≡ field_at l 0 → same g m ≡ false → None ≡ number_behind m l
  behind-mark e q f = sym (behind-by (eq-eqb _ 2 e) (ap (λ (g : List ℕ). same g m) (sym q) ∙ f))

  pub behind-number : {f g : List ℕ} {n : Option ℕ} → length (fields_of l) ≡ 2 → g ≡ field_at l 0 → same g m ≡ true → f ≡ field_at l 1 → n ≡ numeral_of f → n ≡ number_behind m l
  behind-number e p t q r = r ∙ ap numeral_of q ∙ sym (behind-by (eq-eqb _ 2 e) (ap (λ (g : List ℕ). same g m) (sym p) ∙ t))

-- ---- a field of places

pub all-is : (f : List ℕ) → list_all (λ x. eqb x nought || (eqb x one || eqb x dash)) f ≡ all_of nought one dash f
unfolding all_of
all-is [] = refl
all-is (x ∷ f) = ap (λ (b : Bool). (eqb x nought || (eqb x one || eqb x dash)) && b) (all-is f)

module _ (k : ℕ) (f : List ℕ) where
  fit-by : {a b : Bool} → leb 1 k ≡ a → eqb (length f) k ≡ b → places_fit k f ≡ (a && (b && all_of nought one dash f))
  unfolding places_fit
  fit-by e g = rw (e, g)

  pub fit_none : k < 1 → false ≡ places_fit k f
  fit_none h = sym (fit-by (lt-leb _ _ h) refl)

  pub fit_length : 1 ≤ k → (length f ≡ k → ⊥) → false ≡ places_fit k f
  fit_length h o = sym (fit-by (le-leb _ _ h) (ne_eqb _ _ o))

  pub fit_all : {b : Bool} → 1 ≤ k → length f ≡ k → b ≡ all_of nought one dash f → b ≡ places_fit k f
  fit_all h e q = q ∙ sym (fit-by (le-leb _ _ h) (eq-eqb _ _ e))

-- ---- a row

module _ (h : CoverHeads) (l : List ℕ) where
  row_by : {a b : Bool} → eqb (length (fields_of l)) 2 ≡ a → places_fit h.inputs (field_at l 0) ≡ b → row_good h l ≡ (a && (b && places_fit h.outputs (field_at l 1)))
  unfolding row_good
  row_by e g = rw (e, g)

  pub row-fields : (length (fields_of l) ≡ 2 → ⊥) → false ≡ row_good h l
  row-fields o = sym (row_by (ne_eqb _ 2 o) refl)

  pub row_first : length (fields_of l) ≡ 2 → places_fit h.inputs (field_at l 0) ≡ false → false ≡ row_good h l
  row_first e f = sym (row_by (eq-eqb _ 2 e) f)

  pub row-second : {f : List ℕ} {b : Bool} → length (fields_of l) ≡ 2 → places_fit h.inputs (field_at l 0) ≡ true → f ≡ field_at l 1 → b ≡ places_fit h.outputs f → b ≡ row_good h l
  row-second e g q r = r ∙ ap (places_fit h.outputs) q ∙ sym (row_by (eq-eqb _ 2 e) g)

  counted-by : {a b c : Bool} → row_good h l ≡ a → ltb h.rows h.products ≡ b → ltb h.rows most_checked ≡ c
      → row_counted h l ≡ cond (a && b) (cond c (Ok (with_row h)) (Err Limit)) (Err BadLine)
  unfolding row_counted
  counted-by e f g = rw (e, f, g)

  pub counted-bad : row_good h l ≡ false → Err BadLine ≡ row_counted h l
  counted-bad e = sym (counted-by e refl refl)

  pub counted-over : row_good h l ≡ true → h.products ≤ h.rows → Err BadLine ≡ row_counted h l
  counted-over e o = sym (counted-by e (le-ltb _ _ o) refl)

  pub counted-many : row_good h l ≡ true → h.rows < h.products → most_checked ≤ h.rows → Err Limit ≡ row_counted h l
  counted-many e f g = sym (counted-by e (lt-ltb _ _ f) (le-ltb _ _ g))

  pub counted-one : row_good h l ≡ true → h.rows < h.products → h.rows < most_checked → Ok (with_row h) ≡ row_counted h l
  counted-one e f g = sym (counted-by e (lt-ltb _ _ f) (lt-ltb _ _ g))

-- ---- the end

module _ (h : CoverHeads) where
  pub end-few : (h.rows ≡ h.products → ⊥) → Err BadLine ≡ end_counted h
  unfolding end_counted
  end-few o = rw (ne_eqb _ _ o)

  pub end-all : h.rows ≡ h.products → Ok (in_part Over h) ≡ end_counted h
  unfolding end_counted
  end-all e = rw (eq-eqb _ _ e)

  module _ (i o : ℕ) where
    fitting-by : {a b : Bool} → eqb h.inputs i ≡ a → eqb h.outputs o ≡ b → fitting i o h ≡ cond a (cond b (Ok tt) (refused Misfit 2)) (refused Misfit 1)
    unfolding fitting
    fitting-by e f = rw (e, f)

    pub fit-inputs : (h.inputs ≡ i → ⊥) → refused Misfit 1 ≡ fitting i o h
    fit-inputs n = sym (fitting-by (ne_eqb _ _ n) refl)

    pub fit-outputs : h.inputs ≡ i → (h.outputs ≡ o → ⊥) → refused Misfit 2 ≡ fitting i o h
    fit-outputs e n = sym (fitting-by (eq-eqb _ _ e) (ne_eqb _ _ n))

    pub fit-both : h.inputs ≡ i → h.outputs ≡ o → (Ok tt) ≡ fitting i o h
    fit-both e f = sym (fitting-by (eq-eqb _ _ e) (eq-eqb _ _ f))

-- ---- what a line does, by the part that it stands in

module _ (h : CoverHeads) (l : List ℕ) where
  kind-by : {b : Bool} → same l (bytes ".type fd") ≡ b → cover_line_in Kind h l ≡ cond b (Ok (in_part Products h)) (with_products (number_behind (bytes ".p") l) h)
  unfolding cover_line_in
  kind-by e = rw e

  pub kind-fd : same l (bytes ".type fd") ≡ true → Ok (in_part Products h) ≡ cover_line_in Kind h l
  kind-fd e = sym (kind-by e)

  pub kind-none : {n : Option ℕ} {r : Result CoverHeads Refusal} → same l (bytes ".type fd") ≡ false → n ≡ number_behind (bytes ".p") l → r ≡ with_products n h → r ≡ cover_line_in Kind h l
  kind-none e f g = g ∙ ap (λ (n : Option ℕ). with_products n h) f ∙ sym (kind-by e)

  body-by : {b : Bool} → same l (bytes ".e") ≡ b → cover_line_in Rows h l ≡ cond b (end_counted h) (row_counted h l)
  unfolding cover_line_in
  body-by e = rw e

  pub body_end : {r : Result CoverHeads Refusal} → same l (bytes ".e") ≡ true → r ≡ end_counted h → r ≡ cover_line_in Rows h l
  body_end e q = q ∙ sym (body-by e)

  pub body-row : {r : Result CoverHeads Refusal} → same l (bytes ".e") ≡ false → r ≡ row_counted h l → r ≡ cover_line_in Rows h l
  body-row e q = q ∙ sym (body-by e)

  pub in-part : {p : CoverPart} {r : Result CoverHeads Refusal} → h.part ≡ p → r ≡ cover_line_in p h l → r ≡ cover_line h l
  unfolding cover_line
  in-part e q = q ∙ ap (λ (p : CoverPart). cover_line_in p h l) (sym e)

  pub of-inputs : {n : Option ℕ} {r : Result CoverHeads Refusal} → n ≡ number_behind (bytes ".i") l → r ≡ with_inputs n h → r ≡ cover_line_in Inputs h l
  unfolding cover_line_in
  of-inputs e q = q ∙ ap (λ (n : Option ℕ). with_inputs n h) e

  pub of-outputs : {n : Option ℕ} {r : Result CoverHeads Refusal} → n ≡ number_behind (bytes ".o") l → r ≡ with_outputs n h → r ≡ cover_line_in Outputs h l
  unfolding cover_line_in
  of-outputs e q = q ∙ ap (λ (n : Option ℕ). with_outputs n h) e

  pub of-products : {n : Option ℕ} {r : Result CoverHeads Refusal} → n ≡ number_behind (bytes ".p") l → r ≡ with_products n h → r ≡ cover_line_in Products h l
  unfolding cover_line_in
  of-products e q = q ∙ ap (λ (n : Option ℕ). with_products n h) e

  pub of-over : Err BadLine ≡ cover_line_in Over h l
  unfolding cover_line_in
  of-over = refl
