-- What a line says, done to a draft, is what the rules do; and the names that it says stand in the line.
use Rattle.rules.specs.declared.Refusal.{Refusal}
use Rattle.std.specs.Prelude.{Result, Option, Ok, Err, Some, None}
use mathlib.Core.Path.{◌≡◌, refl, ap, ap₂}
use mathlib.Core.Bool.{Bool, true, false, ◌&&◌, cond}
use mathlib.Core.List.{List, [], ◌∷◌}
use Prim.Native.Nat.{ℕ}
use native.Mathlib.Omega.{arith}
use lib.ListN.{length}
use lib.Dec.{leb, eqb}
use borrow.Author.Tests.{eqb-true}
use Rattle.sets.proofs.Every.{and_first}
use Rattle.rules.specs.Limits.{most_inputs, most_outputs}
use Rattle.rules.specs.Text.{mark_of, fields_of, field_at}
use Rattle.rules.specs.KissLines.{kiss_mark, number_line, is_short, reset_fits, row_fields_fit}
use Rattle.rules.specs.Kiss.{Draft, KissStep, goes, ends, stops, with_heads, with_inputs, with_outputs, with_states, with_products, with_reset, pattern_of, row_does, on_number, inputs_do, outputs_do, reset_does, end_does, row_line_does, kiss_placed, kiss_does, kiss_step}
use Rattle.rules.specs.declared.KissHeads.{KissHeads}
use Rattle.rules.specs.declared.KissMark.{KissMark}
use Rattle.rules.specs.declared.Refusal.TheVariants.{BadLine, Limit, Place, Names}
use Rattle.read_kiss_lines.specs.Says.{inputs_told, outputs_told, told, heads_line, field_piece, reset_line, kiss_end_line, state_pieces, kiss_row_line}
use Rattle.read_kiss_lines.specs.declared.row.KissRow.{KissRow}
use Rattle.read_names.specs.declared.Piece.{Piece}
use Rattle.read_kiss.specs.declared.says.Said.{Said}
use Rattle.read_kiss.specs.Says.{heads_says, reset_says, row_says, end_says, placed_says, line_says, step_of}
use Rattle.read_kiss.proofs.Fields.{Inside, field-inside, field-piece}

-- ---- names stand in the line, of n bytes

abbrev pub Within : ℕ → Result Said Refusal → Type 0
Within n (Ok (Said.Heads h)) = Unit {0}
Within n (Ok (Said.Reset p)) = Inside n p
Within n (Ok (Said.Row row)) = Inside n row.states.present × Inside n row.states.next
Within n (Ok Said.End) = Unit {0}
Within n (Err r) = Unit {0}

heads-within : (n : ℕ) (x : Result KissHeads Refusal) → Within n (heads_says x)
heads-within n (Ok h) = tt
heads-within n (Err r) = tt

end-within : (n : ℕ) (x : Result Unit Refusal) → Within n (end_says x)
end-within n (Ok tt) = tt
end-within n (Err r) = tt

-- how many fields a good line has
reset-two : (l : List ℕ) → reset_fits l ≡ true → length (fields_of l) ≡ 2
unfolding reset_fits
reset-two l e = eqb-true _ _ (and_first (eqb (length (fields_of l)) 2) _ e)

row-four : (i o : ℕ) (l : List ℕ) → row_fields_fit i o l ≡ true → length (fields_of l) ≡ 4
unfolding row_fields_fit
row-four i o l e = eqb-true _ _ (and_first (eqb (length (fields_of l)) 4) _ e)

reset-within : (l : List ℕ) → Within (length l) (reset_says (reset_line l))
unfolding reset_line
reset-within l = go (reset_fits l) refl (is_short (field_at l 1))
  where
    go : (b : Bool) → reset_fits l ≡ b → (c : Bool) → Within (length l) (reset_says (cond b (cond c (Ok (field_piece l 1)) (Err Names)) (Err BadLine)))
    go true e true = field-inside l 1 (omega (arith, reset-two l e))
    go true e false = tt
    go false e c = tt

row_within : (i o : ℕ) (l : List ℕ) → Within (length l) (row_says (kiss_row_line i o l))
unfolding kiss_row_line state_pieces
row_within i o l = go (row_fields_fit i o l) refl (is_short (field_at l 1) && is_short (field_at l 2))
  where
    go : (b : Bool) → row_fields_fit i o l ≡ b → (c : Bool)
        → Within (length l) (row_says (cond b (cond c (Ok (record { input = pattern_of (field_at l 0); states = state_pieces l; outputs = pattern_of (field_at l 3) })) (Err Names)) (Err BadLine)))
    go true e true = (field-inside l 1 (omega (arith, row-four i o l e)), field-inside l 2 (omega (arith, row-four i o l e)))
    go true e false = tt
    go false e c = tt

placed-within : (m : KissMark) (k : ℕ) (h : KissHeads) (count : ℕ) (l : List ℕ) → Within (length l) (placed_says m k h count l)
unfolding placed_says
placed-within KissMark.Inputs k h count l = heads-within (length l) (heads_line KissMark.Inputs k h (number_line l))
placed-within KissMark.Outputs k h count l = heads-within (length l) (heads_line KissMark.Outputs k h (number_line l))
placed-within KissMark.States k h count l = heads-within (length l) (heads_line KissMark.States k h (number_line l))
placed-within KissMark.Products k h count l = heads-within (length l) (heads_line KissMark.Products k h (number_line l))
placed-within KissMark.Reset k h count l = reset-within l
placed-within KissMark.End k h count l = end-within (length l) (kiss_end_line count l)
placed-within KissMark.Unknown k h count l = tt
placed-within KissMark.Row k h count l = row_within h.inputs h.outputs l

cond-within : (n : ℕ) (b : Bool) (x y : Result Said Refusal) → Within n x → Within n y → Within n (cond b x y)
cond-within n true x y p q = p
cond-within n false x y p q = q

pub says-within : (k : ℕ) (h : KissHeads) (count : ℕ) (l : List ℕ) {x : Result Said Refusal} → x ≡ line_says k h count l → Within (length l) x
unfolding line_says
says-within k h count l {x} e =
    rw e (cond-within (length l) (kiss_placed (kiss_mark (mark_of l)) h) (placed_says (kiss_mark (mark_of l)) k h count l) (Err Place) (placed-within (kiss_mark (mark_of l)) k h count l) tt)

-- ---- what is said, done

module _ (l : List ℕ) (k : ℕ) (d : Draft) where
  cond_step : (b : Bool) (h : KissHeads) → step_of l k (heads_says (cond b (Ok h) (Err Limit))) d ≡ cond b (goes (with_heads h d)) (stops Limit)
  cond_step true h = refl
  cond_step false h = refl

  inputs-step : (x : Option ℕ) → step_of l k (heads_says (heads_line KissMark.Inputs k d.heads x)) d ≡ on_number x (inputs_do d)
  unfolding heads_line told inputs_told inputs_do
  inputs-step (Some n) = cond_step (leb 1 n && leb n most_inputs) (with_inputs n d.heads)
  inputs-step None = refl

  outputs-step : (x : Option ℕ) → step_of l k (heads_says (heads_line KissMark.Outputs k d.heads x)) d ≡ on_number x (outputs_do d)
  unfolding heads_line told outputs_told outputs_do
  outputs-step (Some n) = cond_step (leb 1 n && leb n most_outputs) (with_outputs n d.heads)
  outputs-step None = refl

  states-step : (x : Option ℕ) → step_of l k (heads_says (heads_line KissMark.States k d.heads x)) d ≡ on_number x (λ n. goes (with_heads (with_states (record { number = n; line = k }) d.heads) d))
  unfolding heads_line told
  states-step (Some n) = refl
  states-step None = refl

  products-step : (x : Option ℕ) → step_of l k (heads_says (heads_line KissMark.Products k d.heads x)) d ≡ on_number x (λ n. goes (with_heads (with_products (record { number = n; line = k }) d.heads) d))
  unfolding heads_line told
  products-step (Some n) = refl
  products-step None = refl

  reset-step : step_of l k (reset_says (reset_line l)) d ≡ reset_does d l
  unfolding reset_line reset_does
  reset-step = go (reset_fits l) refl (is_short (field_at l 1))
    where
      go : (b : Bool) → reset_fits l ≡ b → (c : Bool)
          → step_of l k (reset_says (cond b (cond c (Ok (field_piece l 1)) (Err Names)) (Err BadLine))) d
          ≡ cond b (cond c (goes (record { heads = with_reset d.heads; names = field_at l 1 ∷ []; rows = d.rows; table = d.table })) (stops Names)) (stops BadLine)
      go true e true = ap (λ (f : List ℕ). goes (record { heads = with_reset d.heads; names = f ∷ []; rows = d.rows; table = d.table })) (field-piece l 1 (omega (arith, reset-two l e)))
      go true e false = refl
      go false e c = refl

  end_step : step_of l k (end_says (kiss_end_line (length d.names) l)) d ≡ end_does d l
  unfolding kiss_end_line end_does
  end_step = go (eqb (length (fields_of l)) 1) (eqb (length d.names) 0)
    where
      go : (b c : Bool) → step_of l k (end_says (cond b (cond c (Err Limit) (Ok tt)) (Err BadLine))) d ≡ cond b (cond c (stops Limit) ends) (stops BadLine)
      go true true = refl
      go true false = refl
      go false c = refl

  row_step : step_of l k (row_says (kiss_row_line d.heads.inputs d.heads.outputs l)) d ≡ row_line_does k d l
  unfolding kiss_row_line state_pieces row_line_does
  row_step = go (row_fields_fit d.heads.inputs d.heads.outputs l) refl (is_short (field_at l 1) && is_short (field_at l 2))
    where
      go : (b : Bool) → row_fields_fit d.heads.inputs d.heads.outputs l ≡ b → (c : Bool)
          → step_of l k (row_says (cond b (cond c (Ok (record { input = pattern_of (field_at l 0); states = state_pieces l; outputs = pattern_of (field_at l 3) })) (Err Names)) (Err BadLine))) d
          ≡ cond b (cond c (row_does k d (pattern_of (field_at l 0)) (field_at l 1) (field_at l 2) (pattern_of (field_at l 3))) (stops Names)) (stops BadLine)
      go true e true =
          ap₂ (λ (f g : List ℕ). row_does k d (pattern_of (field_at l 0)) f g (pattern_of (field_at l 3)))
          (field-piece l 1 (omega (arith, row-four d.heads.inputs d.heads.outputs l e)))
          (field-piece l 2 (omega (arith, row-four d.heads.inputs d.heads.outputs l e)))
      go true e false = refl
      go false e c = refl

  placed-step : (m : KissMark) → step_of l k (placed_says m k d.heads (length d.names) l) d ≡ kiss_does m k d l
  unfolding placed_says kiss_does
  placed-step KissMark.Inputs = inputs-step (number_line l)
  placed-step KissMark.Outputs = outputs-step (number_line l)
  placed-step KissMark.States = states-step (number_line l)
  placed-step KissMark.Products = products-step (number_line l)
  placed-step KissMark.Reset = reset-step
  placed-step KissMark.End = end_step
  placed-step KissMark.Unknown = refl
  placed-step KissMark.Row = row_step

  either_step : (b : Bool) (x y : Result Said Refusal) {p q : KissStep} → step_of l k x d ≡ p → step_of l k y d ≡ q → step_of l k (cond b x y) d ≡ cond b p q
  either_step true x y e f = e
  either_step false x y e f = f

  pub says-step : step_of l k (line_says k d.heads (length d.names) l) d ≡ kiss_step k d l
  unfolding line_says kiss_step
  says-step = either_step (kiss_placed (kiss_mark (mark_of l)) d.heads) (placed_says (kiss_mark (mark_of l)) k d.heads (length d.names) l) (Err Place) (placed-step (kiss_mark (mark_of l))) refl

-- ---- headers keep the count of rows

abbrev pub Counts : KissHeads → Result Said Refusal → Type 0
Counts g (Ok (Said.Heads h)) = h.lines ≡ g.lines
Counts g (Ok (Said.Reset p)) = Unit {0}
Counts g (Ok (Said.Row row)) = Unit {0}
Counts g (Ok Said.End) = Unit {0}
Counts g (Err r) = Unit {0}

cond-counts : (g : KissHeads) (b : Bool) (x y : Result Said Refusal) → Counts g x → Counts g y → Counts g (cond b x y)
cond-counts g true x y p q = p
cond-counts g false x y p q = q

limit-counts : (g h : KissHeads) (b : Bool) → h.lines ≡ g.lines → Counts g (heads_says (cond b (Ok h) (Err Limit)))
limit-counts g h true e = e
limit-counts g h false e = tt

number_counts : (m : KissMark) (k : ℕ) (g : KissHeads) (x : Option ℕ) → Counts g (heads_says (heads_line m k g x))
unfolding heads_line told inputs_told outputs_told
number_counts KissMark.Inputs k g (Some n) = limit-counts g (with_inputs n g) (leb 1 n && leb n most_inputs) refl
number_counts KissMark.Outputs k g (Some n) = limit-counts g (with_outputs n g) (leb 1 n && leb n most_outputs) refl
number_counts KissMark.States k g (Some n) = refl
number_counts KissMark.Products k g (Some n) = refl
number_counts KissMark.Reset k g (Some n) = tt
number_counts KissMark.End k g (Some n) = tt
number_counts KissMark.Unknown k g (Some n) = tt
number_counts KissMark.Row k g (Some n) = tt
number_counts m k g None = tt

reset-counts : (g : KissHeads) (x : Result Piece Refusal) → Counts g (reset_says x)
reset-counts g (Ok p) = tt
reset-counts g (Err r) = tt

end-counts : (g : KissHeads) (x : Result Unit Refusal) → Counts g (end_says x)
end-counts g (Ok tt) = tt
end-counts g (Err r) = tt

row_counts : (g : KissHeads) (x : Result KissRow Refusal) → Counts g (row_says x)
row_counts g (Ok row) = tt
row_counts g (Err r) = tt

placed-counts : (m : KissMark) (k : ℕ) (g : KissHeads) (count : ℕ) (l : List ℕ) → Counts g (placed_says m k g count l)
unfolding placed_says
placed-counts KissMark.Inputs k g count l = number_counts KissMark.Inputs k g (number_line l)
placed-counts KissMark.Outputs k g count l = number_counts KissMark.Outputs k g (number_line l)
placed-counts KissMark.States k g count l = number_counts KissMark.States k g (number_line l)
placed-counts KissMark.Products k g count l = number_counts KissMark.Products k g (number_line l)
placed-counts KissMark.Reset k g count l = reset-counts g (reset_line l)
placed-counts KissMark.End k g count l = end-counts g (kiss_end_line count l)
placed-counts KissMark.Unknown k g count l = tt
placed-counts KissMark.Row k g count l = row_counts g (kiss_row_line g.inputs g.outputs l)

pub says-counts : (k : ℕ) (g : KissHeads) (count : ℕ) (l : List ℕ) {x : Result Said Refusal} → x ≡ line_says k g count l → Counts g x
unfolding line_says
says-counts k g count l {x} e =
    rw e (cond-counts g (kiss_placed (kiss_mark (mark_of l)) g) (placed_says (kiss_mark (mark_of l)) k g count l) (Err Place) (placed-counts (kiss_mark (mark_of l)) k g count l) tt)
