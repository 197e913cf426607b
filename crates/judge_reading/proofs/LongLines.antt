-- A line of 20,000 bytes is longer than any good one, 9,999 + 1 + 9,999: it is bad whatever comes behind, so a program may close a cover with what it has seen of it.
use Rattle.rules.specs.declared.Refusal.{Refusal}
use Rattle.std.specs.Prelude.{Result, Option, Ok, Err, Some, None}
use mathlib.Core.Path.{◌≡◌, refl, sym, ap, ap₂, subst, ◌∙◌}
use mathlib.Core.Bool.{Bool, true, false, ◌&&◌, ◌||◌, not, cond}
use mathlib.Core.List.{List, [], ◌∷◌, ◌++◌}
use Prim.Native.Nat.{ℕ, ◌+◌, ◌*◌, ◌-◌, ◌≤◌, ◌<◌, min}
use native.Mathlib.Omega.{arith}
use lib.Dec.{eqb, leb, ltb}
use lib.ListN.{length, get_or}
use borrow.Author.Tests.{eqb-true, leb-true, ltb-true, ltb-false}
use Rattle.sets.proofs.Every.{and_first, and_second}
use Rattle.rules.specs.Limits.{most_checked}
use Rattle.rules.specs.Text.{bytes, lf, space, nought, nine, one, dash, same, lines_of, fields_of, field_at, all_of, digits_of, numeral_of}
use Rattle.rules.specs.Replay.{marked}
use Rattle.rules.specs.CheckTexts.{number_behind, places_fit, row_good, with_inputs, with_outputs, with_products, with_row, in_part, row_counted, end_counted, cover_line_in, cover_line, cover_end}
use Rattle.rules.specs.declared.Refusal.TheVariants.{BadLine, Limit}
use Rattle.rules.specs.Refusals.{refused}
use Rattle.rules.specs.declared.CoverPart.{CoverPart}
use Rattle.rules.specs.declared.CoverPart.TheVariants.{Inputs, Outputs, Kind, Products, Rows, Over}
use Rattle.rules.specs.declared.CoverHeads.{CoverHeads}
use Rattle.rules.proofs.Fields.{Without}
use Rattle.rules.proofs.Ways.{chose-first}
use Rattle.run_lines.proofs.Lengths.{same-long, fields-long, marked-long, numeral-long, first-line}
use Rattle.judge_reading.specs.Tables.{row_laid}
use Rattle.judge_reading.specs.Pieces.{most_cover_lines, last_of, line_reached, line_tables, whole_reached, whole_tables, closed_by, Reached, at_line}
use Rattle.judge_reading.specs.declared.Reader.{Reader}
use Rattle.judge_reading.proofs.LineKinds.{unread, read_same}
use Rattle.judge_reading.proofs.Whole.{refused-stays, refused-lays}

abbrev pub long-line : ℕ
long-line = 20000

-- `.i` and `.o` are numbers of four digits
abbrev pub Small : CoverHeads → Type 0
Small h = (h.inputs < 10000) × (h.outputs < 10000)

module _ (l : List ℕ) (long : long-line ≤ length l) where
  number-long : (mark : List ℕ) → length mark ≡ 2 → number_behind mark l ≡ None
  unfolding number_behind
  number-long mark two = go (marked mark l) refl
    where
      go : (b : Bool) → marked mark l ≡ b → cond b (numeral_of (field_at l 1)) None ≡ None
      go true e = numeral-long (field_at l 1) (omega (arith, marked-long mark l e))
      go false e = refl

  not_same : (m : List ℕ) → length m ≤ 8 → (b : Bool) → same l m ≡ b → b ≡ false
  not_same m few true e = absurd (omega (arith, same-long l m e))
  not_same m few false e = refl

  places-long : (k : ℕ) (f : List ℕ) → places_fit k f ≡ true → length f ≡ k
  unfolding places_fit
  places-long k f e = eqb-true (length f) k (and_first (eqb (length f) k) (all_of nought one dash f) (and_second (leb 1 k) _ e))

  row-long : (h : CoverHeads) → Small h → (b : Bool) → row_good h l ≡ b → b ≡ false
  unfolding row_good
  row-long h small false e = refl
  row-long h small true e =
      let two = eqb-true (length (fields_of l)) 2 (and_first (eqb (length (fields_of l)) 2) _ e) in
      let both = and_second (eqb (length (fields_of l)) 2) (places_fit h.inputs (field_at l 0) && places_fit h.outputs (field_at l 1)) e in
      let i = places-long h.inputs (field_at l 0) (and_first (places_fit h.inputs (field_at l 0)) _ both) in
      let o = places-long h.outputs (field_at l 1) (and_second (places_fit h.inputs (field_at l 0)) _ both) in
      absurd (omega (arith, fields-long space l two, i, o, small.0, small.1))

  pub line-long : (h : CoverHeads) → Small h → cover_line h l ≡ Err BadLine
  unfolding cover_line cover_line_in row_counted
  line-long h small = go h.part
    where
      go : (p : CoverPart) → cover_line_in p h l ≡ Err BadLine
      go Inputs = ap (λ (n : Option ℕ). with_inputs n h) (number-long (bytes ".i") refl)
      go Outputs = ap (λ (n : Option ℕ). with_outputs n h) (number-long (bytes ".o") refl)
      go Kind =
          ap (λ (b : Bool). cond b (Ok (in_part Products h)) (with_products (number_behind (bytes ".p") l) h)) (not_same (bytes ".type fd") (omega arith) (same l (bytes ".type fd")) refl)
          ∙ ap (λ (n : Option ℕ). with_products n h) (number-long (bytes ".p") refl)
      go Products = ap (λ (n : Option ℕ). with_products n h) (number-long (bytes ".p") refl)
      go Rows =
          ap (λ (b : Bool). cond b (end_counted h) (row_counted h l)) (not_same (bytes ".e") (omega arith) (same l (bytes ".e")) refl)
          ∙ rw (row-long h small (row_good h l) refl)
      go Over = refl

  place-long : (k : ℕ) (h : CoverHeads) → Small h → line_reached (at_line k h) l ≡ refused BadLine k
  unfolding line_reached
  place-long k h small =
      ap (λ (v : Result CoverHeads Refusal). elim v as (λ x. Reached) [ Ok g ↦ at_line (min k most_cover_lines + 1) g | Err r ↦ refused r k ]) (line-long h small)

  tables-long : (q : Reader) (k : ℕ) (h : CoverHeads) (t : List ℕ × List ℕ) → Small h → line_tables q (at_line k h) l t ≡ t
  unfolding line_tables
  tables-long q k h t small =
      ap (λ (v : Result CoverHeads Refusal). elim v as (λ x. List ℕ × List ℕ) [ Ok g ↦ row_laid q h g l t | Err r ↦ t ]) (line-long h small)

-- a cover that stands before such a line is refused there, with what comes behind it or without, and nothing more is laid
module _ (q : Reader) (k : ℕ) (h : CoverHeads) (small : Small h) (a z : List ℕ) (alone : Without lf a) (long : long-line ≤ length a) where
  pub long-closed : closed_by q (whole_reached (at_line k h) (lines_of (a ++ z))) (last_of (lines_of (a ++ z))) ≡ refused BadLine k
  unfolding whole_reached line_reached last_of closed_by cover_end
  long-closed =
      let r = first-line a z alone in
      ap (λ (ls : List (List ℕ)). closed_by q (whole_reached (at_line k h) ls) (last_of ls)) r.1.1 ∙ go r.0 r.1.0 (omega (arith, r.1.2))
    where
      ended : (l : List ℕ) → long-line ≤ length l → closed_by q (at_line k h) l ≡ refused BadLine k
      ended [] far = absurd (omega arith)
      ended (x ∷ xs) far = refl

      go : (l : List ℕ) (ls : List (List ℕ)) → long-line ≤ length l → closed_by q (whole_reached (at_line k h) (l ∷ ls)) (last_of (l ∷ ls)) ≡ refused BadLine k
      go l [] far = ended l far
      go l (m ∷ ms) far =
          ap (λ (p : Reached). closed_by q (whole_reached p (m ∷ ms)) (last_of (m ∷ ms))) (place-long l far k h small)
          ∙ ap (λ (p : Reached). closed_by q p (last_of (m ∷ ms))) (refused-stays BadLine k (m ∷ ms))

  pub long-laid : (t : List ℕ × List ℕ) → whole_tables q (at_line k h) (lines_of (a ++ z)) t ≡ t
  unfolding whole_tables line_reached line_tables
  long-laid t =
      let r = first-line a z alone in
      ap (λ (ls : List (List ℕ)). whole_tables q (at_line k h) ls t) r.1.1 ∙ go r.0 r.1.0 (omega (arith, r.1.2))
    where
      go : (l : List ℕ) (ls : List (List ℕ)) → long-line ≤ length l → whole_tables q (at_line k h) (l ∷ ls) t ≡ t
      go l [] far = refl
      go l (m ∷ ms) far =
          ap₂ (λ (p : Reached) (u : List ℕ × List ℕ). whole_tables q p (m ∷ ms) u) (place-long l far k h small) (tables-long l far q k h t small)
          ∙ refused-lays q BadLine k (m ∷ ms) t

-- ---- and every place that a cover comes to is such a one

abbrev tens : List ℕ → ℕ → ℕ
tens [] b = b
tens (x ∷ xs) b = tens xs (b * 10)

digits-below : (f : List ℕ) (v b w : ℕ) → v < b → digits_of v f ≡ Some w → w < tens f b
unfolding digits_of
digits-below [] v b w h e = let same : v ≡ w = cc in omega arith
digits-below (x ∷ xs) v b w h e =
    let c = chose-first (leb nought x && leb x nine) e (λ q. let z : ◌≡◌ {A = ℕ} 0 1 = cc in omega arith) in
    let low : x ≤ nine = leb-true x nine (and_second (leb nought x) (leb x nine) c.0) in
    digits-below xs (v * 10 + (x - nought)) (b * 10) w (omega arith) c.1

numeral-few : (f : List ℕ) (v : ℕ) → numeral_of f ≡ Some v → v < 10000
unfolding numeral_of
numeral-few f v e = few f (within (ltb 4 (length f)) refl) (digits-below f 0 1 v (omega arith) digits)
  where
    within : (b : Bool) → ltb 4 (length f) ≡ b → length f ≤ 4
    within true q = absurd (let z : Some v ≡ None = sym e ∙ numeral-long f (ltb-true 4 (length f) q) in let o : ◌≡◌ {A = ℕ} 0 1 = cc in omega arith)
    within false q = omega (arith, ltb-false 4 (length f) q)

    digits : digits_of 0 f ≡ Some v
    digits = (chose-first (leb 1 (length f) && leb (length f) 4 && (eqb (length f) 1 || not (eqb (get_or f 0 0) nought))) e (λ q. let z : ◌≡◌ {A = ℕ} 0 1 = cc in omega arith)).1

    few : (f : List ℕ) → length f ≤ 4 → v < tens f 1 → v < 10000
    few [] l h = omega arith
    few (a ∷ []) l h = omega arith
    few (a ∷ (b ∷ [])) l h = omega arith
    few (a ∷ (b ∷ (c ∷ []))) l h = omega arith
    few (a ∷ (b ∷ (c ∷ (d ∷ [])))) l h = omega arith
    few (a ∷ (b ∷ (c ∷ (d ∷ (x ∷ xs))))) l h = absurd (omega arith)

behind-few : (mark l : List ℕ) (v : ℕ) → number_behind mark l ≡ Some v → v < 10000
unfolding number_behind
behind-few mark l v e = numeral-few (field_at l 1) v (chose-first (marked mark l) e (λ q. let z : ◌≡◌ {A = ℕ} 0 1 = cc in omega arith)).1

line_small : (h g : CoverHeads) (l : List ℕ) → Small h → cover_line h l ≡ Ok g → Small g
unfolding cover_line cover_line_in row_counted end_counted
line_small h g l small e = go h.part e
  where
    made : (c : CoverHeads) → ◌≡◌ {A = Result CoverHeads Refusal} (Ok c) (Ok g) → Small c → Small g
    made c q k = subst Small (read_same c g q) k

    products : (n : Option ℕ) → with_products n h ≡ Ok g → Small g
    products (Some v) q = made _ q small
    products None q = absurd (unread BadLine g q)

    inputs : (n : Option ℕ) → number_behind (bytes ".i") l ≡ n → with_inputs n h ≡ Ok g → Small g
    inputs (Some v) b q = made _ q (behind-few (bytes ".i") l v b, small.1)
    inputs None b q = absurd (unread BadLine g q)

    outputs : (n : Option ℕ) → number_behind (bytes ".o") l ≡ n → with_outputs n h ≡ Ok g → Small g
    outputs (Some v) b q = made _ q (small.0, behind-few (bytes ".o") l v b)
    outputs None b q = absurd (unread BadLine g q)

    kind : (b : Bool) → cond b (Ok (in_part Products h)) (with_products (number_behind (bytes ".p") l) h) ≡ Ok g → Small g
    kind true q = made (in_part Products h) q small
    kind false q = products (number_behind (bytes ".p") l) q

    ended : (b : Bool) → cond b (Ok (in_part Over h)) (Err BadLine) ≡ Ok g → Small g
    ended true q = made (in_part Over h) q small
    ended false q = absurd (unread BadLine g q)

    row : (a b : Bool) → cond a (cond b (Ok (with_row h)) (Err Limit)) (Err BadLine) ≡ Ok g → Small g
    row true true q = made (with_row h) q small
    row true false q = absurd (unread Limit g q)
    row false b q = absurd (unread BadLine g q)

    rows : (b : Bool) → cond b (end_counted h) (row_counted h l) ≡ Ok g → Small g
    rows true q = ended (eqb h.rows h.products) q
    rows false q = row (row_good h l && ltb h.rows h.products) (ltb h.rows most_checked) q

    go : (p : CoverPart) → cover_line_in p h l ≡ Ok g → Small g
    go Inputs q = inputs (number_behind (bytes ".i") l) refl q
    go Outputs q = outputs (number_behind (bytes ".o") l) refl q
    go Kind q = kind (same l (bytes ".type fd")) q
    go Products q = products (number_behind (bytes ".p") l) q
    go Rows q = rows (same l (bytes ".e")) q
    go Over q = absurd (unread BadLine g q)

abbrev pub SmallPlace : Reached → Type 0
SmallPlace (Ok p) = Small p.heads
SmallPlace (Err why) = Unit {0}

pub lines-small : (p : Reached) (ls : List (List ℕ)) → SmallPlace p → SmallPlace (whole_reached p ls)
unfolding whole_reached line_reached
lines-small p [] s = s
lines-small p (l ∷ []) s = s
lines-small (Err why) (l ∷ (m ∷ ms)) s = lines-small (Err why) (m ∷ ms) s
lines-small (Ok p) (l ∷ (m ∷ ms)) s = go (cover_line p.heads l) refl (λ p. lines-small p (m ∷ ms))
  where
    go : (v : Result CoverHeads Refusal) → cover_line p.heads l ≡ v → ((q : Reached) → SmallPlace q → SmallPlace (whole_reached q (m ∷ ms)))
        → SmallPlace (whole_reached (elim v [ Ok g ↦ at_line (min p.line most_cover_lines + 1) g | Err r ↦ refused r p.line ]) (m ∷ ms))
    go (Ok g) e later = later (at_line (min p.line most_cover_lines + 1) g) (line_small p.heads g l s e)
    go (Err r) e later = later (refused r p.line) tt
