-- A `PT` line: what stands behind its mark, its fields at known places or refused, and then the row.
use Rattle.rules.specs.declared.Refusal.{Refusal}
use Rattle.std.specs.Prelude.{Result, Err}
use mathlib.Core.Path.{◌≡◌, refl, ◌∙◌}
use mathlib.Core.Bool.{Bool, true, false, ◌&&◌, cond}
use mathlib.Core.List.{List, [], ◌∷◌}
use Prim.Native.Nat.{ℕ, ◌+◌, ◌≤◌, ◌<◌}
use native.Mathlib.Omega.{arith}
use lib.ListN.{length, get_or, take, drop}
use lib.Dec.{leb, eqb, eqb-suc-suc}
use borrow.Author.Tests.{eqb-true, le-leb, lt-leb, leb-true, leb-false}
use Rattle.sets.proofs.Every.{and_first, and_second}
use Rattle.rules.specs.Limits.{most_states, most_inputs, most_outputs}
use Rattle.rules.specs.Text.{nought, one, dash, space, split, sized, set_of}
use Rattle.rules.specs.Lines.{row_fits, outputs_fit, row_of, row_checked, moore_line, mealy_line, row_line}
use Rattle.rules.specs.declared.Head.{Head}
use Rattle.rules.specs.declared.Refusal.TheVariants.{BadLine}
use Rattle.rules.specs.declared.Row.{Row}
use Rattle.read_fields.proofs.Sets.{pattern-sized, ones-sized}
use Rattle.read_pieces.specs.Pieces.{stands_at}
use Rattle.read_pieces.proofs.Laws.{Cut}
use Rattle.read_lines.specs.Rows.{row_read, pieces_fit, outputs_in, row_pieces, row_rest, row_end}
use Rattle.read_lines.proofs.Fields.{field-here, field-last}

-- ---- the fields

-- ---- pieces in order

-- so many fields has a row
abbrev fields : Bool → ℕ
fields true = 3
fields false = 4

fields-three : (m : Bool) → 3 ≤ fields m
fields-three true = omega arith
fields-three false = omega arith

record Fit (m : Bool) (h : Head) (ps : List (List ℕ)) : Type 0 where
  some : length ps ≡ fields m
  fit1 : sized most_inputs h.inputs nought one dash (get_or ps 0 []) ≡ true
  fit2 : sized most_states h.states nought one one (get_or ps 1 []) ≡ true
  fit3 : sized most_states h.states nought one one (get_or ps 2 []) ≡ true

fit_of : (m : Bool) (h : Head) (ps : List (List ℕ)) → pieces_fit m h ps ≡ true → Fit m h ps
unfolding pieces_fit row_fits
fit_of m h ps e = go m e
  where
    a : Bool
    a = sized most_inputs h.inputs nought one dash (get_or ps 0 [])

    b : Bool
    b = sized most_states h.states nought one one (get_or ps 1 [])

    c : Bool
    c = sized most_states h.states nought one one (get_or ps 2 [])

    three : (m : Bool) → length ps ≡ fields m → (a && b && c) ≡ true → Fit m h ps
    three m n f =
        let ab : (a && b) ≡ true = and_first (a && b) c f in
        record { some = n; fit1 = and_first a b ab; fit2 = and_second a b ab; fit3 = and_second (a && b) c f }

    go : (m : Bool) → pieces_fit m h ps ≡ true → Fit m h ps
    go true e = three true (eqb-true _ 3 (and_first _ _ e)) (and_second (eqb (length ps) 3) _ e)
    go false e =
        let n : eqb (length ps) 4 ≡ true = and_first _ _ e in
        three false (eqb-true _ 4 n) (and_first (a && b && c) (outputs_fit h (get_or ps 3 [])) (and_second (eqb (length ps) 4) _ e))

-- and the outputs
fit-outputs : (h : Head) (ps : List (List ℕ)) → pieces_fit false h ps ≡ true → sized most_outputs h.outputs nought one dash (get_or ps 3 []) ≡ true
unfolding pieces_fit outputs_fit
fit-outputs h ps e = and_second (row_fits h (get_or ps 0 []) (get_or ps 1 []) (get_or ps 2 [])) _ (and_second (eqb (length ps) 4) _ e)

-- ---- the fields at their places, behind those that were found

module _ (m : Bool) (h : Head) (count line : ℕ) where
  abbrev made : List (List ℕ) → Result Row Refusal
  made ps = row_checked count (row_of line (get_or ps 0 []) (get_or ps 1 []) (get_or ps 2 []) (outputs_in m ps))

  pub at-input : (t : List ℕ)
      → row_pieces m h count line (split space t)
      ≡ cond (stands_at space h.inputs t) (row_pieces m h count line (take h.inputs t ∷ split space (drop (h.inputs + 1) t))) (Err BadLine)
  unfolding row_pieces
  at-input t =
      field-here (pieces_fit m h) made (Err BadLine) most_inputs h.inputs nought one dash (λ z. omega arith) (λ z. omega arith) (λ z. omega arith)
      (λ ps e. (fit_of m h ps e).fit1) (λ ps e. omega (arith, (fit_of m h ps e).some, fields-three m)) t

  pub at-group : (input t : List ℕ)
      → row_pieces m h count line (input ∷ split space t)
      ≡ cond (stands_at space h.states t) (row_pieces m h count line (input ∷ (take h.states t ∷ split space (drop (h.states + 1) t)))) (Err BadLine)
  unfolding row_pieces
  at-group input t =
      field-here (λ ps. pieces_fit m h (input ∷ ps)) (λ ps. made (input ∷ ps)) (Err BadLine) most_states h.states nought one one (λ z. omega arith) (λ z. omega arith)
      (λ z. omega arith) (λ ps e. (fit_of m h (input ∷ ps) e).fit2) (λ ps e. omega (arith, (fit_of m h (input ∷ ps) e).some, fields-three m)) t

-- where the row has outputs
module _ (h : Head) (count line : ℕ) (input group : List ℕ) where
  at_next : (t : List ℕ)
      → row_pieces false h count line (input ∷ (group ∷ split space t))
      ≡ cond (stands_at space h.states t) (row_pieces false h count line (input ∷ (group ∷ (take h.states t ∷ split space (drop (h.states + 1) t))))) (Err BadLine)
  unfolding row_pieces
  at_next t =
      field-here (λ ps. pieces_fit false h (input ∷ (group ∷ ps))) (λ ps. made false h count line (input ∷ (group ∷ ps))) (Err BadLine) most_states h.states nought one one
      (λ z. omega arith) (λ z. omega arith) (λ z. omega arith) (λ ps e. (fit_of false h (input ∷ (group ∷ ps)) e).fit3)
      (λ ps e. omega (arith, (fit_of false h (input ∷ (group ∷ ps)) e).some)) t

  at-outputs : (next t : List ℕ) → row_pieces false h count line (input ∷ (group ∷ (next ∷ split space t))) ≡ row_pieces false h count line (input ∷ (group ∷ (next ∷ (t ∷ []))))
  unfolding row_pieces
  at-outputs next t =
      field-last (λ ps. pieces_fit false h (input ∷ (group ∷ (next ∷ ps)))) (λ ps. made false h count line (input ∷ (group ∷ (next ∷ ps)))) (Err BadLine)
      most_outputs h.outputs nought one dash (λ z. omega arith) (λ z. omega arith) (λ z. omega arith) (λ ps e. fit-outputs h (input ∷ (group ∷ (next ∷ ps))) e)
      (λ ps e. omega (arith, (fit_of false h (input ∷ (group ∷ (next ∷ ps))) e).some)) t

  -- all four
  four-fields : (next outputs : List ℕ) {b : Bool} → sized most_outputs h.outputs nought one dash outputs ≡ b
      → row_pieces false h count line (input ∷ (group ∷ (next ∷ (outputs ∷ []))))
      ≡ cond b (row_read h count line input group next (record { ones = set_of one outputs; dashes = set_of dash outputs })) (Err BadLine)
  unfolding row_pieces pieces_fit outputs_in outputs_fit row_read
  four-fields next outputs {b} e = rw e (go (row_fits h input group next) b)
    where
      go : (a b : Bool)
          → cond (a && b) (row_checked count (row_of line input group next outputs)) (Err BadLine)
          ≡ cond b (cond a (row_checked count (row_of line input group next outputs)) (Err BadLine)) (Err BadLine)
      go true true = refl
      go true false = refl
      go false true = refl
      go false false = refl

  module _ (v : List ℕ) where
    end-first : stands_at space h.states v ≡ false → row_end h count line input group v ≡ Err BadLine
    unfolding row_end
    end-first e = at_next v ∙ rw e

    pub end-fields : {next outputs : List ℕ} {b : Bool} → stands_at space h.states v ≡ true → next ≡ take h.states v → outputs ≡ drop (h.states + 1) v
        → sized most_outputs h.outputs nought one dash outputs ≡ b
        → row_end h count line input group v
        ≡ cond b (row_read h count line input group next (record { ones = set_of one outputs; dashes = set_of dash outputs })) (Err BadLine)
    unfolding row_end
    end-fields {next} {outputs} e n o f = at_next v ∙ rw (e, ← n, ← o) (at-outputs next outputs ∙ four-fields next outputs f)

pub end-parts : (h : Head) (count line : ℕ) (input group v : List ℕ)
    → row_end h count line input group v
    ≡ cond (stands_at space h.states v)
    (cond (sized most_outputs h.outputs nought one dash (drop (h.states + 1) v))
    (row_read h count line input group (take h.states v) (record { ones = set_of one (drop (h.states + 1) v); dashes = set_of dash (drop (h.states + 1) v) }))
    (Err BadLine))
    (Err BadLine)
end-parts h count line input group v = go (stands_at space h.states v) refl
  where
    o : List ℕ
    o = drop (h.states + 1) v

    go : (b : Bool) → stands_at space h.states v ≡ b
        → row_end h count line input group v
        ≡ cond b (cond (sized most_outputs h.outputs nought one dash o) (row_read h count line input group (take h.states v) (record { ones = set_of one o; dashes = set_of dash o })) (Err BadLine)) (Err BadLine)
    go true e = end-fields h count line input group v e refl refl refl
    go false e = end-first h count line input group v e

-- where it has none
module _ (h : Head) (count line : ℕ) (input group : List ℕ) where
  three-fields : (t : List ℕ) → row_pieces true h count line (input ∷ (group ∷ split space t)) ≡ row_read h count line input group t (record { ones = 0; dashes = 0 })
  unfolding row_pieces pieces_fit outputs_in row_read set_of
  three-fields t =
      field-last (λ ps. pieces_fit true h (input ∷ (group ∷ ps))) (λ ps. made true h count line (input ∷ (group ∷ ps))) (Err BadLine) most_states h.states nought one one
      (λ z. omega arith) (λ z. omega arith) (λ z. omega arith) (λ ps e. (fit_of true h (input ∷ (group ∷ ps)) e).fit3)
      (λ ps e. omega (arith, (fit_of true h (input ∷ (group ∷ ps)) e).some)) t

-- ---- what stands behind the mark

module _ (h : Head) (count line : ℕ) (t : List ℕ) where
  pub rest-first : stands_at space h.inputs t ≡ false → row_rest h count line t ≡ Err BadLine
  unfolding row_rest
  rest-first e = at-input h.moore h count line t ∙ rw e

  module _ {u : List ℕ} (p : stands_at space h.inputs t ≡ true) (eu : u ≡ drop (h.inputs + 1) t) where
    rest-input : row_rest h count line t ≡ row_pieces h.moore h count line (take h.inputs t ∷ split space u)
    unfolding row_rest
    rest-input = at-input h.moore h count line t ∙ rw (p, eu)

    pub rest-second : stands_at space h.states u ≡ false → row_rest h count line t ≡ Err BadLine
    rest-second e = rest-input ∙ at-group h.moore h count line _ u ∙ rw e

    module _ {v input group : List ℕ} (q : stands_at space h.states u ≡ true) (ev : v ≡ drop (h.states + 1) u)
        (i : input ≡ take h.inputs t) (g : group ≡ take h.states u) where
      rest-group : {m : Bool} → h.moore ≡ m → row_rest h count line t ≡ row_pieces m h count line (input ∷ (group ∷ split space v))
      rest-group e = rest-input ∙ at-group h.moore h count line _ u ∙ rw (q, e, ev, i, g)

      pub rest-moore : h.moore ≡ true → row_rest h count line t ≡ row_read h count line input group v (record { ones = 0; dashes = 0 })
      rest-moore e = rest-group e ∙ three-fields h count line input group v

      pub rest-mealy : h.moore ≡ false → row_rest h count line t ≡ row_end h count line input group v
      unfolding row_end
      rest-mealy e = rest-group e

-- ---- the line

-- the mark is a piece, and the rest decides
line-pieces : (h : Head) (count line : ℕ) (l f : List ℕ) (ps : List (List ℕ)) → split space l ≡ f ∷ ps → row_line h count line l ≡ row_pieces h.moore h count line ps
unfolding row_line moore_line mealy_line row_pieces pieces_fit outputs_in
line-pieces h count line l f ps e = go h.moore
  where
    go : (m : Bool) → cond m (moore_line h count line l) (mealy_line h count line l) ≡ row_pieces m h count line ps
    go true = rw (e, eqb-suc-suc (length ps) 3)
    go false = rw (e, eqb-suc-suc (length ps) 4)

-- the mark ends at r
module _ (h : Head) (count line : ℕ) (l : List ℕ) (r : ℕ) (c : Cut space l 0 r) where
  pub line-none : length l ≤ r → row_line h count line l ≡ Err BadLine
  unfolding row_pieces pieces_fit
  line-none n = line-pieces h count line l _ [] (c.last n) ∙ go h.moore
    where
      go : (m : Bool) → row_pieces m h count line [] ≡ Err BadLine
      go true = refl
      go false = refl

  pub line-rest : r < length l → row_line h count line l ≡ row_rest h count line (drop (r + 1) l)
  unfolding row_rest
  line-rest n = line-pieces h count line l _ _ (c.more n)

-- ---- at most one `1` in next

pub few-next : (s : ℕ) → leb s 1 ≡ true → leb 2 s ≡ false
few-next s e = lt-leb 2 s (omega (arith, leb-true s 1 e))

pub many-next : (s : ℕ) → leb s 1 ≡ false → leb 2 s ≡ true
many-next s e = le-leb 2 s (leb-false s 1 e)

pub ruleset read = (pattern-sized, ones-sized)

pub ruleset ended = (pattern-sized, end-parts)
