-- What a line of a cover is that was read: a head line or `.e`, whose first field begins with a dot, or a row behind the heads.
use Rattle.std.specs.Prelude.{Result, Option, Ok, Err, Some, None}
use mathlib.Core.Path.{◌≡◌, refl, sym, ap, subst, ◌∙◌}
use mathlib.Core.Logic.{◌⊎◌, inl, inr}
use mathlib.Core.Bool.{Bool, true, false, ◌&&◌, cond}
use mathlib.Core.List.{List, [], ◌∷◌}
use Prim.Native.Nat.{ℕ, ◌+◌, ◌-◌, ◌≤◌, ◌<◌}
use native.Mathlib.Omega.{arith}
use lib.Dec.{eqb, ltb}
use lib.ListN.{length}
use borrow.Author.Tests.{eqb-true, ltb-true}
use Rattle.sets.proofs.Every.{and_first, and_second}
use Rattle.rules.specs.Limits.{most_checked}
use Rattle.rules.specs.Text.{bytes, dot, same, split, mark_of, fields_of, field_at}
use Rattle.rules.specs.Replay.{marked}
use Rattle.rules.specs.CheckTexts.{number_behind, row_good, with_inputs, with_outputs, with_products, in_part, with_row, row_counted, end_counted, cover_line_in, cover_line, fitting, is_over, cover_end, cover_from, cover_reading, no_heads}
use Rattle.rules.specs.declared.Refusal.{Refusal}
use Rattle.rules.specs.declared.Refusal.TheVariants.{BadLine, Limit, Misfit}
use Rattle.rules.specs.Refusals.{refused, Verdict}
use Rattle.rules.specs.declared.CoverPart.{CoverPart}
use Rattle.rules.specs.declared.CoverPart.TheVariants.{Inputs, Outputs, Kind, Products, Rows, Over}
use Rattle.rules.specs.declared.CoverHeads.{CoverHeads}
use Rattle.rules.proofs.Known.{same-eq}
use Rattle.rules.proofs.Ways.{chose-first, not-accepted}

-- ---- a refusal is no reading

pub unread : (r : Refusal) (g : CoverHeads) → Err r ≡ Ok g → ⊥
unread r g e = let z : ◌≡◌ {A = ℕ} 0 1 = cc in omega arith

pub read_same : (a b : CoverHeads) → ◌≡◌ {A = Result CoverHeads Refusal} (Ok a) (Ok b) → a ≡ b
read_same a b e = cc

-- ---- head lines

-- how many lines come at the least, this one and `.e` with them, before the cover is over
abbrev pub to_come : CoverPart → ℕ
to_come Inputs = 5
to_come Outputs = 4
to_come Kind = 3
to_come Products = 2
to_come Rows = 1
to_come Over = 0

-- no row more, the next part, and a dot in front
abbrev pub Dotted : CoverHeads → CoverHeads → List ℕ → Type 0
Dotted h g l = (g.rows ≡ h.rows) × (to_come g.part < to_come h.part) × (cs : List ℕ) × (field_at l 0 ≡ dot ∷ cs)

-- a row, of which there is one more
abbrev pub Counted : CoverHeads → CoverHeads → List ℕ → Type 0
Counted h g l = (h.part ≡ Rows) × (row_good h l ≡ true) × (h.rows < most_checked) × (g ≡ with_row h)

behind-mark : (mark l : List ℕ) (v : ℕ) → number_behind mark l ≡ Some v → field_at l 0 ≡ mark
unfolding number_behind marked mark_of
behind-mark mark l v e =
    same-eq (field_at l 0) mark
    (and_second (eqb (length (fields_of l)) 2) (same (field_at l 0) mark)
    (chose-first (eqb (length (fields_of l)) 2 && same (field_at l 0) mark) e (λ q. let z : ◌≡◌ {A = ℕ} 0 1 = cc in omega arith)).0)

-- a mark and a number
numbered : (h g : CoverHeads) (l mark cs : List ℕ) (made : Option ℕ → Result CoverHeads Refusal) (f : ℕ → CoverHeads) → mark ≡ dot ∷ cs → ((v : ℕ) → made (Some v) ≡ Ok (f v)) → made None ≡ Err BadLine
    → ((v : ℕ) → (f v).rows ≡ h.rows) → ((v : ℕ) → to_come (f v).part < to_come h.part) → made (number_behind mark l) ≡ Ok g → Dotted h g l
numbered h g l mark cs made f dotted is bad rows less e = go (number_behind mark l) refl e
  where
    go : (n : Option ℕ) → number_behind mark l ≡ n → made n ≡ Ok g → Dotted h g l
    go (Some v) q e =
        let made_so : f v ≡ g = read_same (f v) g (sym (is v) ∙ e) in
        (ap (λ (c : CoverHeads). c.rows) (sym made_so) ∙ rows v, subst (λ (c : CoverHeads). to_come c.part < to_come h.part) made_so (less v), cs, behind-mark mark l v q ∙ dotted)
    go None q e = absurd (unread BadLine g (sym bad ∙ e))

products : (h g : CoverHeads) (l : List ℕ) → 1 < to_come h.part → with_products (number_behind (bytes ".p") l) h ≡ Ok g → Dotted h g l
products h g l more e =
    numbered h g l (bytes ".p") (bytes "p") (λ n. with_products n h) (λ v. record { part = Rows; inputs = h.inputs; outputs = h.outputs; products = v; rows = h.rows })
    refl (λ v. refl) refl (λ v. refl) (λ v. more) e

-- ---- behind the heads

module _ (h g : CoverHeads) (l : List ℕ) where
  ended : end_counted h ≡ Ok g → g ≡ in_part Over h
  unfolding end_counted
  ended e = sym (read_same (in_part Over h) g (chose-first (eqb h.rows h.products) e (unread BadLine g)).1)

  counted : row_counted h l ≡ Ok g → (row_good h l ≡ true) × (h.rows < most_checked) × (g ≡ with_row h)
  unfolding row_counted
  counted e =
      let a = chose-first (row_good h l && ltb h.rows h.products) e (unread BadLine g) in
      let b = chose-first (ltb h.rows most_checked) a.1 (unread Limit g) in
      (and_first (row_good h l) (ltb h.rows h.products) a.0, ltb-true _ _ b.0, sym (read_same (with_row h) g b.1))

  -- `.e`, or a row
  abbrev Ends : Type 0
  Ends = (same l (bytes ".e") ≡ true) × (g ≡ in_part Over h)

  abbrev Adds : Type 0
  Adds = (row_good h l ≡ true) × (h.rows < most_checked) × (g ≡ with_row h)

  body : cover_line_in Rows h l ≡ Ok g → Ends ⊎ Adds
  unfolding cover_line_in
  body e = go (same l (bytes ".e")) refl e
    where
      go : (b : Bool) → same l (bytes ".e") ≡ b → cond b (end_counted h) (row_counted h l) ≡ Ok g → Ends ⊎ Adds
      go true q e = inl (q, ended e)
      go false q e = inr (counted e)

  -- `.e` and `.type fd`
  whole : (m cs : List ℕ) → field_at m 0 ≡ dot ∷ cs → same l m ≡ true → field_at l 0 ≡ dot ∷ cs
  whole m cs q e = ap (λ (k : List ℕ). field_at k 0) (same-eq l m e) ∙ q

  end-dotted : same l (bytes ".e") ≡ true → field_at l 0 ≡ dot ∷ bytes "e"
  unfolding split
  end-dotted e = whole (bytes ".e") (bytes "e") refl e

  kind-dotted : same l (bytes ".type fd") ≡ true → field_at l 0 ≡ dot ∷ bytes "type"
  unfolding split
  kind-dotted e = whole (bytes ".type fd") (bytes "type") refl e

  module _ (p : CoverPart) (here : h.part ≡ p) where
    within : (c : CoverHeads) → to_come c.part < to_come p → c ≡ g → to_come g.part < to_come h.part
    within c less e = subst (λ (q : CoverPart). to_come g.part < to_come q) (sym here) (subst (λ (k : CoverHeads). to_come k.part < to_come p) e less)

    above : (k : ℕ) → k < to_come p → k < to_come h.part
    above k less = subst (λ (q : CoverPart). k < to_come q) (sym here) less

  kind : h.part ≡ Kind → cover_line_in Kind h l ≡ Ok g → Dotted h g l
  unfolding cover_line_in
  kind here e = go (same l (bytes ".type fd")) refl e
    where
      go : (b : Bool) → same l (bytes ".type fd") ≡ b → cond b (Ok (in_part Products h)) (with_products (number_behind (bytes ".p") l) h) ≡ Ok g → Dotted h g l
      go true q e =
          let made_so : in_part Products h ≡ g = read_same (in_part Products h) g e in
          (ap (λ (c : CoverHeads). c.rows) (sym made_so), within Kind here (in_part Products h) (omega arith) made_so, bytes "type", kind-dotted q)
      go false q e = products h g l (above Kind here 1 (omega arith)) e

  by-body : h.part ≡ Rows → Ends ⊎ Adds → Dotted h g l ⊎ Counted h g l
  by-body here (inl d) = inl (ap (λ (c : CoverHeads). c.rows) d.1, within Rows here (in_part Over h) (omega arith) (sym d.1), bytes "e", end-dotted d.0)
  by-body here (inr d) = inr (here, d.0, d.1, d.2)

  pub line_read : cover_line h l ≡ Ok g → Dotted h g l ⊎ Counted h g l
  unfolding cover_line cover_line_in
  line_read e = go h.part refl e
    where
      go : (p : CoverPart) → h.part ≡ p → cover_line_in p h l ≡ Ok g → Dotted h g l ⊎ Counted h g l
      go Inputs here e =
          inl
          (numbered h g l (bytes ".i") (bytes "i") (λ n. with_inputs n h) (λ v. record { part = Outputs; inputs = v; outputs = h.outputs; products = h.products; rows = h.rows })
          refl (λ v. refl) refl (λ v. refl) (λ v. above Inputs here 4 (omega arith)) e)
      go Outputs here e =
          inl
          (numbered h g l (bytes ".o") (bytes "o") (λ n. with_outputs n h) (λ v. record { part = Kind; inputs = h.inputs; outputs = v; products = h.products; rows = h.rows })
          refl (λ v. refl) refl (λ v. refl) (λ v. above Outputs here 3 (omega arith)) e)
      go Kind here e = inl (kind here e)
      go Products here e = inl (products h g l (above Products here 1 (omega arith)) e)
      go Rows here e = by-body here (body e)
      go Over here e = absurd (unread BadLine g e)

-- ---- `.i` and `.o` of a cover that is accepted fit, and no row changes them

abbrev behind_heads : CoverPart → Bool
behind_heads Inputs = false
behind_heads Outputs = false
behind_heads Kind = false
behind_heads Products = false
behind_heads Rows = true
behind_heads Over = true

abbrev pub Fits : ℕ → ℕ → CoverHeads → Type 0
Fits i o h = (h.inputs ≡ i) × (h.outputs ≡ o)

fitting-fits : (i o : ℕ) (h : CoverHeads) → fitting i o h ≡ Ok tt → Fits i o h
unfolding fitting
fitting-fits i o h e =
    let a = chose-first (eqb h.inputs i) e not-accepted in
    let b = chose-first (eqb h.outputs o) a.1 not-accepted in
    (eqb-true h.inputs i a.0, eqb-true h.outputs o b.0)

-- nothing stands behind the last LF
pub end_none : (i o k : ℕ) (h : CoverHeads) (l : List ℕ) → cover_end i o k h l ≡ Ok tt → (l ≡ []) × Fits i o h
unfolding cover_end
end_none i o k h [] e = (refl, fitting-fits i o h (chose-first (is_over h.part) e not-accepted).1)
end_none i o k h (x ∷ xs) e = absurd (not-accepted e)

abbrev Kept : CoverHeads → CoverHeads → Type 0
Kept h g = (behind_heads g.part ≡ true) × (g.inputs ≡ h.inputs) × (g.outputs ≡ h.outputs)

kept : (h g : CoverHeads) (l : List ℕ) → behind_heads h.part ≡ true → cover_line h l ≡ Ok g → Kept h g
unfolding cover_line cover_line_in
kept h g l b e = go h.part b e
  where
    no : false ≡ true → ⊥
    no q = let z : ◌≡◌ {A = ℕ} 0 1 = cc in omega arith

    as-made : (c : CoverHeads) → g ≡ c → Kept h c → Kept h g
    as-made c q k = subst (Kept h) (sym q) k

    rows-keep : Ends h g l ⊎ Adds h g l → Kept h g
    rows-keep (inl d) = as-made (in_part Over h) d.1 (refl, refl, refl)
    rows-keep (inr d) = as-made (with_row h) d.2 (refl, refl, refl)

    go : (p : CoverPart) → behind_heads p ≡ true → cover_line_in p h l ≡ Ok g → Kept h g
    go Inputs b e = absurd (no b)
    go Outputs b e = absurd (no b)
    go Kind b e = absurd (no b)
    go Products b e = absurd (no b)
    go Rows b e = rows-keep (body h g l e)
    go Over b e = absurd (unread BadLine g e)

fits-behind : (i o k : ℕ) (h : CoverHeads) (ls : List (List ℕ)) → behind_heads h.part ≡ true → cover_from i o k h ls ≡ Ok tt → Fits i o h
unfolding cover_from
fits-behind i o k h [] b e = absurd (not-accepted e)
fits-behind i o k h (l ∷ []) b e = (end_none i o k h l e).1
fits-behind i o k h (l ∷ (m ∷ ms)) b e = go (cover_line h l) refl e (λ g. fits-behind i o (k + 1) g (m ∷ ms))
  where
    go : (c : Result CoverHeads Refusal) → cover_line h l ≡ c → ◌≡◌ {A = Verdict} (elim c [ Ok g ↦ cover_from i o (k + 1) g (m ∷ ms) | Err r ↦ refused r k ]) (Ok tt)
        → ((g : CoverHeads) → behind_heads g.part ≡ true → cover_from i o (k + 1) g (m ∷ ms) ≡ Ok tt → Fits i o g) → Fits i o h
    go (Ok g) q e later =
        let s = kept h g l b q in
        let f = later g s.0 e in
        (sym s.1 ∙ f.0, sym s.2 ∙ f.1)
    go (Err r) q e later = absurd (not-accepted e)

pub rows_fit : (i o k : ℕ) (h : CoverHeads) (ls : List (List ℕ)) → h.part ≡ Rows → cover_from i o k h ls ≡ Ok tt → Fits i o h
rows_fit i o k h ls p e = fits-behind i o k h ls (ap behind_heads p) e

-- ---- the line of a refusal

-- so many lines can come
abbrev pub left : CoverHeads → ℕ
left h = to_come h.part + (most_checked - h.rows)

pub fewer : (h g : CoverHeads) (l : List ℕ) → cover_line h l ≡ Ok g → left g < left h
fewer h g l e = go (line_read h g l e)
  where
    go : Dotted h g l ⊎ Counted h g l → left g < left h
    go (inl d) = omega (arith, d.0, d.1)
    go (inr d) =
        let part : to_come g.part ≡ 1 = ap (λ (c : CoverHeads). to_come c.part) d.3 in
        let was : to_come h.part ≡ 1 = ap to_come d.0 in
        let rows : g.rows ≡ h.rows + 1 = ap (λ (c : CoverHeads). c.rows) d.3 in
        omega (arith, d.2, part, was, rows)

refused-same : (r q : Refusal) (k m : ℕ) → ◌≡◌ {A = Verdict} (refused r k) (refused q m) → k ≡ m
refused-same r q k m e = ap (λ (v : Verdict). elim v [ Ok _ ↦ k | Err why ↦ why.line ]) e

end_line : (i o k : ℕ) (h : CoverHeads) (l : List ℕ) (q : Refusal) (m : ℕ) → cover_end i o k h l ≡ refused q m → m ≤ k + 2
unfolding cover_end fitting
end_line i o k h (x ∷ xs) q m e = omega (arith, refused-same BadLine q k m e)
end_line i o k h [] q m e = go (is_over h.part) (eqb h.inputs i) (eqb h.outputs o) e
  where
    go : (a b c : Bool) → ◌≡◌ {A = Verdict} (cond a (cond b (cond c (Ok tt) (refused Misfit 2)) (refused Misfit 1)) (refused BadLine k)) (refused q m) → m ≤ k + 2
    go false b c e = omega (arith, refused-same BadLine q k m e)
    go true false c e = omega (arith, refused-same Misfit q 1 m e)
    go true true false e = omega (arith, refused-same Misfit q 2 m e)
    go true true true e = absurd (not-accepted (sym e))

line-from : (i o k : ℕ) (h : CoverHeads) (ls : List (List ℕ)) (q : Refusal) (m : ℕ) → cover_from i o k h ls ≡ refused q m → m ≤ k + left h + 2
unfolding cover_from
line-from i o k h [] q m e = omega (arith, refused-same BadLine q k m e)
line-from i o k h (l ∷ []) q m e = omega (arith, end_line i o k h l q m e)
line-from i o k h (l ∷ (n ∷ ns)) q m e = go (cover_line h l) refl e (λ g. line-from i o (k + 1) g (n ∷ ns) q m)
  where
    go : (c : Result CoverHeads Refusal) → cover_line h l ≡ c → ◌≡◌ {A = Verdict} (elim c [ Ok g ↦ cover_from i o (k + 1) g (n ∷ ns) | Err r ↦ refused r k ]) (refused q m)
        → ((g : CoverHeads) → cover_from i o (k + 1) g (n ∷ ns) ≡ refused q m → m ≤ k + 1 + left g + 2) → m ≤ k + left h + 2
    go (Ok g) s e later = omega (arith, later g e, fewer h g l s)
    go (Err r) s e later = omega (arith, refused-same r q k m e)

-- no cover is refused behind line 264
pub cover-line : (i o : ℕ) (ls : List (List ℕ)) (q : Refusal) (m : ℕ) → cover_reading i o ls ≡ refused q m → m ≤ 264
unfolding cover_reading
cover-line i o ls q m e = omega (arith, line-from i o 1 no_heads ls q m e)
