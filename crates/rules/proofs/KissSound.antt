-- What an accepted KISS2 text grants: a sound listing without a conflict, so that all that is proved of listings holds of it; and the line of a refusal is small.
use Rattle.std.specs.Prelude.{Option, Some, None, Ok, Err}
use mathlib.Core.Path.{◌≡◌, refl, ap, ◌∙◌, subst}
use mathlib.Core.Bool.{Bool, true, false, ◌&&◌, ◌||◌, not, cond, false≢true}
use mathlib.Core.List.{List, [], ◌∷◌, ◌++◌, map}
use Prim.Native.Nat.{ℕ, zero, suc, max, ◌+◌, ◌^◌, ◌≤◌, ◌<◌}
use native.Mathlib.Decide.{ℕ_discrete}
use native.Mathlib.Nat.{pow-le-pow_right}
use native.Mathlib.Omega.{arith}
use lib.Bits.{mask_lt}
use lib.Dec.{leb, ltb, eqb}
use lib.ListN.{length, take, get_or, set, length-set, length-take, length-map, length-append, length-replicate}
use lib.Pow.{pow-lt, pow_pos}
use lib.Seq.{get_or-set_same, get_or-set_other, get_or-take}
use borrow.Author.Tests.{leb-true, ltb-true, eqb-true, eqb-false, not-true}
use Rattle.sets.specs.Sets.{has, only, everyone, size}
use Rattle.sets.proofs.Every.{and_first, and_second}
use Rattle.sets.proofs.Members.{has-and, has-or, has-none, has-only, has_all, has-lt}
use Rattle.sets.proofs.Places.{map_at}
use Rattle.sets.proofs.Size.{size-zero, size-only}
use Rattle.rules.specs.Limits.{most_bytes, most_states, most_inputs, most_outputs, most_rows, most_dichotomies, most_name}
use Rattle.rules.specs.Text.{nought, one, dash, same, lines_of, mark_of, fields_of, field_at, sized}
use Rattle.rules.specs.Listing.{no_pattern, no_row, no_requirement, rows_of, nothing, complete, conflict, or_else, judged, Reading}
use Rattle.rules.specs.KissLines.{kiss_mark, number_line, is_star, is_filled, is_short, reset_fits, row_fields_fit}
use Rattle.rules.specs.Kiss.{Draft, no_draft, with_inputs, with_outputs, with_states, with_products, with_line, with_heads, number_of, named, present_of, next_of, place_of, joined, KissStep, goes, ends, stops, row_joins, pattern_of, row_does, on_number, inputs_do, outputs_do, reset_does, end_does, row_line_does, kiss_placed, kiss_does, kiss_step, cut_to, listing_of, disagrees, disagreement, kiss_made, kiss_ended, kiss_unended, kiss_lines, kiss_reading}
use Rattle.rules.specs.declared.Head.{Head}
use Rattle.rules.specs.declared.KissHeads.{KissHeads}
use Rattle.rules.specs.declared.KissMark.{KissMark}
use Rattle.rules.specs.declared.Told.{Told}
use Rattle.rules.specs.declared.Pattern.{Pattern}
use Rattle.rules.specs.declared.Row.{Row}
use Rattle.rules.specs.declared.Listing.{Listing}
use Rattle.rules.specs.declared.Refusal.{Refusal}
use Rattle.rules.specs.declared.Refusal.TheVariants.{BadLine, Limit, Place, Names}
use Rattle.rules.specs.Refusals.{Verdict, refused}
use Rattle.rules.proofs.FirstPlace.{place-most}
use Rattle.rules.proofs.SoundLines.{SoundPattern, SoundRow, no-pattern, pattern}
use Rattle.rules.proofs.Sound.{Sound, none_said}
use Rattle.rules.proofs.LineNumbers.{AtMost, all-below, or-within, conflict-within, split-length}
use Rattle.rules.proofs.Ways.{chose-first, chose-second, not-accepted}

-- ---- rows of a draft

-- under i inputs and o outputs, with n names, on a line up to m: its group has a state below n, or state 0 while there is none
pub record DraftRow (i o n m : ℕ) (r : Row) : Type 0 where
  pub input : SoundPattern i r.input
  pub outputs : SoundPattern o r.outputs
  pub who : ℕ
  pub member : has r.group who ≡ 1
  pub below : who < max n 1
  pub next : r.next < 2 ^ n
  pub one-next : size r.next ≤ 1
  pub line : r.line ≤ m

more-names : {i o n p m : ℕ} {r : Row} → n ≤ p → DraftRow i o n m r → DraftRow i o p m r
more-names {i} {o} {n} {p} h d = record {
  input = d.input;
  outputs = d.outputs;
  who = d.who;
  member = d.member;
  below = omega (arith, d.below);
  next = omega (arith, d.next, pow-le-pow_right {n = 2} (omega arith) {i = n} {j = p} h);
  one-next = d.one-next;
  line = d.line;
}

-- a row that another joins keeps all but its group, which grows
join-row : {i o n m : ℕ} {q : Row} (r : Row) → DraftRow i o n m q → DraftRow i o n m (joined q r)
join-row {i} {o} {n} {m} {q} r d = record {
  input = d.input;
  outputs = d.outputs;
  who = d.who;
  member = omega (arith, has-or q.group r.group d.who, d.member, has-lt r.group d.who);
  below = d.below;
  next = d.next;
  one-next = d.one-next;
  line = d.line;
}

-- ---- a draft

-- no name is longer than a name may be
abbrev pub Short : List (List ℕ) → Type 0
Short ns = (j : ℕ) → length (get_or ns j []) ≤ most_name

pub record SoundDraft (m : ℕ) (d : Draft) : Type 0 where
  pub few-inputs : d.heads.inputs ≤ most_inputs
  pub few-outputs : d.heads.outputs ≤ most_outputs
  pub few-names : length d.names ≤ most_states
  pub few-rows : d.rows ≤ most_rows
  pub table : length d.table ≡ most_rows
  -- no row before its line
  pub early : d.heads.lines ≡ 0 → d.rows ≡ 0
  pub states-line : d.heads.states.line ≤ m
  pub products-line : d.heads.products.line ≤ m
  pub row : (j : ℕ) → j < d.rows → DraftRow d.heads.inputs d.heads.outputs (length d.names) m (get_or d.table j no_row)
  pub short : Short d.names

no-names-short : Short []
no-names-short j = omega arith

one-short : (f : List ℕ) → length f ≤ most_name → Short (f ∷ [])
one-short f h zero = h
one-short f h (suc j) = no-names-short j

more-short : (ns : List (List ℕ)) (f : List ℕ) → Short ns → length f ≤ most_name → Short (ns ++ (f ∷ []))
more-short [] f s h j = one-short f h j
more-short (n ∷ ns) f s h zero = s zero
more-short (n ∷ ns) f s h (suc j) = more-short ns f (λ k. s (suc k)) h j

named-short : (ns : List (List ℕ)) (f : List ℕ) → Short ns → length f ≤ most_name → Short (named ns f)
unfolding named
named-short ns f s h = go (is_star f || ltb (number_of ns f) (length ns))
  where
    go : (b : Bool) → Short (cond b ns (ns ++ (f ∷ [])))
    go true = s
    go false = more-short ns f s h

pub none-sound : (m : ℕ) → SoundDraft m no_draft
unfolding no_draft
none-sound m = record {
  few-inputs = omega arith;
  few-outputs = omega arith;
  few-names = omega arith;
  few-rows = omega arith;
  table = length-replicate most_rows no_row;
  early = λ e. refl;
  states-line = omega arith;
  products-line = omega arith;
  row = λ j h. absurd (omega arith);
  short = λ j. no-names-short j;
}

-- ---- one line

goes_same : (a b : Draft) → goes a ≡ goes b → a ≡ b
goes_same a b e = cc

stops-not : (f : Refusal) (u : Draft) → stops f ≡ goes u → ⊥
stops-not f u e = let z : ◌≡◌ {A = ℕ} 0 1 = cc in omega arith

ends-not : (u : Draft) → ends ≡ goes u → ⊥
ends-not u e = let z : ◌≡◌ {A = ℕ} 0 1 = cc in omega arith

-- a header stands before the rows
module _ (m : ℕ) (d : Draft) (s : SoundDraft m d) where
  -- other inputs and outputs, where there is no row
  early-sound : (h : KissHeads) → h.inputs ≤ most_inputs → h.outputs ≤ most_outputs → h.states.line ≤ m → h.products.line ≤ m → d.heads.lines ≡ 0 → SoundDraft m (with_heads h d)
  early-sound h i o a b e = record {
    few-inputs = i;
    few-outputs = o;
    few-names = s.few-names;
    few-rows = s.few-rows;
    table = s.table;
    early = λ z. s.early e;
    states-line = a;
    products-line = b;
    row = λ j l. absurd (omega (arith, s.early e));
    short = s.short;
  }

  inputs-sound : (n : ℕ) (u : Draft) → d.heads.lines ≡ 0 → inputs_do d n ≡ goes u → SoundDraft m u
  unfolding inputs_do
  inputs-sound n u z e =
      let c = chose-first (leb 1 n && leb n most_inputs) e (stops-not Limit u) in
      subst (SoundDraft m) (goes_same _ _ c.1) (early-sound (with_inputs n d.heads) (leb-true n most_inputs (and_second (leb 1 n) _ c.0)) s.few-outputs s.states-line s.products-line z)

  outputs-sound : (n : ℕ) (u : Draft) → d.heads.lines ≡ 0 → outputs_do d n ≡ goes u → SoundDraft m u
  unfolding outputs_do
  outputs-sound n u z e =
      let c = chose-first (leb 1 n && leb n most_outputs) e (stops-not Limit u) in
      subst (SoundDraft m) (goes_same _ _ c.1) (early-sound (with_outputs n d.heads) s.few-inputs (leb-true n most_outputs (and_second (leb 1 n) _ c.0)) s.states-line s.products-line z)

  number-sound : (x : Option ℕ) (f : ℕ → KissStep) (u : Draft) → ((n : ℕ) → f n ≡ goes u → SoundDraft m u) → on_number x f ≡ goes u → SoundDraft m u
  number-sound (Some n) f u g e = g n e
  number-sound None f u g e = absurd (stops-not BadLine u e)

  reset-sound : (l : List ℕ) (u : Draft) → d.heads.lines ≡ 0 → reset_does d l ≡ goes u → SoundDraft m u
  unfolding reset_does is_short
  reset-sound l u z e =
      let c = chose-first (reset_fits l) e (stops-not BadLine u) in
      let g = chose-first (is_short (field_at l 1)) c.1 (stops-not Names u) in
      subst (SoundDraft m) (goes_same _ _ g.1)
      (record {
        few-inputs = s.few-inputs;
        few-outputs = s.few-outputs;
        few-names = omega arith;
        few-rows = s.few-rows;
        table = s.table;
        early = s.early;
        states-line = s.states-line;
        products-line = s.products-line;
        row = λ j h. absurd (omega (arith, s.early z));
        short = one-short (field_at l 1) (leb-true (length (field_at l 1)) most_name g.0);
      })

  end-sound : (l : List ℕ) (u : Draft) → end_does d l ≡ goes u → ⊥
  unfolding end_does
  end-sound l u e =
      let c = chose-first (eqb (length (fields_of l)) 1) e (stops-not BadLine u) in
      let g = chose-second (eqb (length d.names) 0) c.1 (stops-not Limit u) in
      ends-not u g.1

-- ---- the states of a row

pub number-most : (l : List (List ℕ)) (f : List ℕ) → number_of l f ≤ length l
unfolding number_of
number-most l f = place-most (λ n. same n f) l

-- a name's number is below the names with it
pub number-named : (l : List (List ℕ)) (f : List ℕ) → is_star f ≡ false → number_of l f < length (named l f)
unfolding named
number-named l f e = rw e (go (ltb (number_of l f) (length l)) refl)
  where
    go : (b : Bool) → ltb (number_of l f) (length l) ≡ b → number_of l f < length (cond b l (l ++ (f ∷ [])))
    go true h = ltb-true _ _ h
    go false h = omega (arith, number-most l f, length-append l (f ∷ []))

pub named-grows : (l : List (List ℕ)) (f : List ℕ) → length l ≤ length (named l f)
unfolding named
named-grows l f = go (is_star f || ltb (number_of l f) (length l))
  where
    go : (b : Bool) → length l ≤ length (cond b l (l ++ (f ∷ [])))
    go true = omega arith
    go false = omega (arith, length-append l (f ∷ []))

record Present (n g : ℕ) : Type 0 where
  who : ℕ
  member : has g who ≡ 1
  below : who < max n 1

present-member : (l : List (List ℕ)) (f : List ℕ) → Present (length (named l f)) (present_of l f)
unfolding present_of
present-member l f = go (is_star f) refl
  where
    go : (b : Bool) → is_star f ≡ b → Present (length (named l f)) (cond b (everyone most_states) (only (number_of l f)))
    go true e = record { who = 0; member = has_all most_states 0 (omega arith); below = omega arith }
    go false e = record { who = number_of l f; member = has-only (number_of l f); below = omega (arith, number-named l f e) }

next-few : (l : List (List ℕ)) (f : List ℕ) → (next_of l f < 2 ^ length (named l f)) × (size (next_of l f) ≤ 1)
unfolding next_of
next-few l f = go (is_star f) refl
  where
    go : (b : Bool) → is_star f ≡ b → (cond b 0 (only (number_of l f)) < 2 ^ length (named l f)) × (size (cond b 0 (only (number_of l f))) ≤ 1)
    go true e = (pow_pos (length (named l f)), omega (arith, size-zero))
    go false e = (pow-lt (number-named l f e), omega (arith, size-only (number_of l f)))

-- ---- a row more

-- what holds of the rows and of v holds when v is set among them
changed : {A : Type 0} (P : A → Type 0) (l : List A) (p n : ℕ) (v d : A) → p < length l → P v → ((j : ℕ) → j < n → (j ≡ p → ⊥) → P (get_or l j d))
    → (j : ℕ) → j < n → P (get_or (set l p v) j d)
changed P l p n v d h pv f j g = go (ℕ_discrete j p)
  where
    go : Dec (j ≡ p) → P (get_or (set l p v) j d)
    go (yes e) = rw (e, get_or-set_same l p v d h) pv
    go (no o) = rw (get_or-set_other l p j v d o) (f j g o)

module _ (m : ℕ) (d : Draft) (s : SoundDraft m d) (ns : List (List ℕ)) (more : length d.names ≤ length ns) (few : length ns ≤ most_states) (brief : Short ns) (r : Row)
    (new : DraftRow d.heads.inputs d.heads.outputs (length ns) m r) where
  abbrev Fits : Row → Type 0
  Fits q = DraftRow d.heads.inputs d.heads.outputs (length ns) m q

  old-fits : (j : ℕ) → j < d.rows → Fits (get_or d.table j no_row)
  old-fits j h = more-names more (s.row j h)

  join-sound : (p : ℕ) → p < d.rows → SoundDraft m (record { heads = with_line d.heads; names = ns; rows = d.rows; table = set d.table p (joined (get_or d.table p no_row) r) })
  join-sound p h = record {
    few-inputs = s.few-inputs;
    few-outputs = s.few-outputs;
    few-names = few;
    few-rows = s.few-rows;
    table = length-set d.table p _ ∙ s.table;
    early = λ z. absurd (omega arith);
    states-line = s.states-line;
    products-line = s.products-line;
    row = changed Fits d.table p d.rows _ no_row (omega (arith, s.few-rows, s.table)) (join-row r (old-fits p h)) (λ j g o. old-fits j g);
    short = brief;
  }

  add-sound : d.rows < most_rows → SoundDraft m (record { heads = with_line d.heads; names = ns; rows = d.rows + 1; table = set d.table d.rows r })
  add-sound h = record {
    few-inputs = s.few-inputs;
    few-outputs = s.few-outputs;
    few-names = few;
    few-rows = omega arith;
    table = length-set d.table d.rows r ∙ s.table;
    early = λ z. absurd (omega arith);
    states-line = s.states-line;
    products-line = s.products-line;
    row = changed Fits d.table d.rows (d.rows + 1) r no_row (omega (arith, s.table)) new (λ j g o. old-fits j (omega arith));
    short = brief;
  }

  joins-sound : (u : Draft) → row_joins r (with_line d.heads) ns d.rows d.table ≡ goes u → SoundDraft m u
  unfolding row_joins
  joins-sound u e = go (ltb (place_of r (take d.rows d.table)) d.rows) (ltb d.rows most_rows) refl refl e
    where
      go : (a b : Bool) → ltb (place_of r (take d.rows d.table)) d.rows ≡ a → ltb d.rows most_rows ≡ b
          → cond a
          (goes (record { heads = with_line d.heads; names = ns; rows = d.rows; table = set d.table (place_of r (take d.rows d.table)) (joined (get_or d.table (place_of r (take d.rows d.table)) no_row) r) }))
          (cond b (goes (record { heads = with_line d.heads; names = ns; rows = d.rows + 1; table = set d.table d.rows r })) (stops Limit))
          ≡ goes u
          → SoundDraft m u
      go true b f g e = subst (SoundDraft m) (goes_same _ _ e) (join-sound (place_of r (take d.rows d.table)) (ltb-true _ _ f))
      go false true f g e = subst (SoundDraft m) (goes_same _ _ e) (add-sound (ltb-true _ _ g))
      go false false f g e = absurd (stops-not Limit u e)

row-sound : (m k : ℕ) (d : Draft) (l : List ℕ) (u : Draft) → k ≤ m → SoundDraft m d → row_line_does k d l ≡ goes u → SoundDraft m u
unfolding row_line_does row_fields_fit row_does is_short
row-sound m k d l u h s e =
    let i = d.heads.inputs in
    let o = d.heads.outputs in
    let f = field_at l 1 in
    let g = field_at l 2 in
    let si = sized most_inputs i nought one dash (field_at l 0) in
    let so = sized most_outputs o nought one dash (field_at l 3) in
    let c₁ = chose-first (eqb (length (fields_of l)) 4 && (si && (is_filled f && (is_filled g && so)))) e (stops-not BadLine u) in
    let c₂ = chose-first (is_short f && is_short g) c₁.1 (stops-not Names u) in
    let ns = named (named d.names f) g in
    let c₃ = chose-first (leb (length ns) most_states) c₂.1 (stops-not Limit u) in
    let w = and_second (eqb (length (fields_of l)) 4) _ c₁.0 in
    let x = and_second si _ w in
    let pr = present-member d.names f in
    let nx = next-few (named d.names f) g in
    let gr : length (named d.names f) ≤ length ns = named-grows (named d.names f) g in
    let sf = leb-true (length f) most_name (and_first (is_short f) (is_short g) c₂.0) in
    let sg = leb-true (length g) most_name (and_second (is_short f) (is_short g) c₂.0) in
    joins-sound m d s ns (omega (arith, gr, named-grows d.names f)) (leb-true _ _ c₃.0) (named-short (named d.names f) g (named-short d.names f s.short sf) sg) _
    (record {
      input = pattern most_inputs i (field_at l 0) (and_first si _ w);
      outputs = pattern most_outputs o (field_at l 3) (and_second (is_filled g) so (and_second (is_filled f) _ x));
      who = pr.who;
      member = pr.member;
      below = omega (arith, pr.below, gr);
      next = nx.0;
      one-next = nx.1;
      line = h;
    })
    u c₃.1

-- ---- any line in its place

no_lines : (a : Bool) (n : ℕ) → (a && eqb n 0) ≡ true → n ≡ 0
no_lines a n e = eqb-true n 0 (and_second a (eqb n 0) e)

does-sound : (m k : ℕ) (x : KissMark) (d : Draft) (l : List ℕ) (u : Draft) → k ≤ m → SoundDraft m d → kiss_placed x d.heads ≡ true → kiss_does x k d l ≡ goes u → SoundDraft m u
unfolding kiss_placed kiss_does
does-sound m k KissMark.Inputs d l u h s p e = number-sound m d s (number_line l) (inputs_do d) u (λ n q. inputs-sound m d s n u (no_lines (eqb d.heads.inputs 0) _ p) q) e
does-sound m k KissMark.Outputs d l u h s p e = number-sound m d s (number_line l) (outputs_do d) u (λ n q. outputs-sound m d s n u (no_lines (eqb d.heads.outputs 0) _ p) q) e
does-sound m k KissMark.States d l u h s p e =
    number-sound m d s (number_line l) _ u
    (λ n q. subst (SoundDraft m) (goes_same _ _ q) (early-sound m d s (with_states (record { number = n; line = k }) d.heads) s.few-inputs s.few-outputs h s.products-line (no_lines (eqb d.heads.states.line 0) _ p)))
    e
does-sound m k KissMark.Products d l u h s p e =
    number-sound m d s (number_line l) _ u
    (λ n q. subst (SoundDraft m) (goes_same _ _ q) (early-sound m d s (with_products (record { number = n; line = k }) d.heads) s.few-inputs s.few-outputs s.states-line h (no_lines (eqb d.heads.products.line 0) _ p)))
    e
does-sound m k KissMark.Reset d l u h s p e = reset-sound m d s l u (no_lines (not d.heads.reset) _ p) e
does-sound m k KissMark.End d l u h s p e = absurd (end-sound m d s l u e)
does-sound m k KissMark.Unknown d l u h s p e = absurd (stops-not BadLine u e)
does-sound m k KissMark.Row d l u h s p e = row-sound m k d l u h s e

pub step-sound : (m k : ℕ) (d : Draft) (l : List ℕ) (u : Draft) → k ≤ m → SoundDraft m d → kiss_step k d l ≡ goes u → SoundDraft m u
unfolding kiss_step
step-sound m k d l u h s e =
    let c = chose-first (kiss_placed (kiss_mark (mark_of l)) d.heads) e (stops-not Place u) in
    does-sound m k (kiss_mark (mark_of l)) d l u h s c.0 c.1

-- ---- the end line

record Headed (d : Draft) : Type 0 where
  inputs : 1 ≤ d.heads.inputs
  outputs : 1 ≤ d.heads.outputs
  names : 1 ≤ length d.names

goes-ends : (u : Draft) → goes u ≡ ends → ⊥
goes-ends u e = let z : ◌≡◌ {A = ℕ} 0 1 = cc in omega arith

stops-ends : (f : Refusal) → stops f ≡ ends → ⊥
stops-ends f e = let z : ◌≡◌ {A = ℕ} 0 1 = cc in omega arith

some_of : (n : ℕ) → not (eqb n 0) ≡ true → 1 ≤ n
some_of n e = go (ℕ_discrete n 0)
  where
    go : Dec (n ≡ 0) → 1 ≤ n
    go (yes q) = absurd (eqb-false n 0 (not-true _ e) q)
    go (no q) = omega arith

end-names : (d : Draft) (l : List ℕ) → end_does d l ≡ ends → 1 ≤ length d.names
unfolding end_does
end-names d l e =
    let c = chose-first (eqb (length (fields_of l)) 1) e (stops-ends BadLine) in
    let g = chose-second (eqb (length d.names) 0) c.1 (stops-ends Limit) in
    some_of (length d.names) (ap not g.0)

choice-not : (b : Bool) (x y : KissStep) → (x ≡ ends → ⊥) → (y ≡ ends → ⊥) → cond b x y ≡ ends → ⊥
choice-not true x y p q e = p e
choice-not false x y p q e = q e

number-ends : (x : Option ℕ) (f : ℕ → KissStep) → ((n : ℕ) → f n ≡ ends → ⊥) → on_number x f ≡ ends → ⊥
number-ends (Some n) f g e = g n e
number-ends None f g e = stops-ends BadLine e

inputs-go : (d : Draft) (n : ℕ) → inputs_do d n ≡ ends → ⊥
unfolding inputs_do
inputs-go d n e = choice-not (leb 1 n && leb n most_inputs) _ _ (goes-ends _) (stops-ends Limit) e

outputs-go : (d : Draft) (n : ℕ) → outputs_do d n ≡ ends → ⊥
unfolding outputs_do
outputs-go d n e = choice-not (leb 1 n && leb n most_outputs) _ _ (goes-ends _) (stops-ends Limit) e

reset-goes : (d : Draft) (l : List ℕ) → reset_does d l ≡ ends → ⊥
unfolding reset_does
reset-goes d l e = choice-not (reset_fits l) _ _ (choice-not (is_short (field_at l 1)) _ _ (goes-ends _) (stops-ends Names)) (stops-ends BadLine) e

joins-go : (r : Row) (h : KissHeads) (ns : List (List ℕ)) (rows : ℕ) (table : List Row) → row_joins r h ns rows table ≡ ends → ⊥
unfolding row_joins
joins-go r h ns rows table e =
    choice-not (ltb (place_of r (take rows table)) rows) _ _ (goes-ends _) (choice-not (ltb rows most_rows) _ _ (goes-ends _) (stops-ends Limit)) e

row-does-go : (k : ℕ) (d : Draft) (i : Pattern) (f g : List ℕ) (o : Pattern) → row_does k d i f g o ≡ ends → ⊥
unfolding row_does
row-does-go k d i f g o e =
    choice-not (leb (length (named (named d.names f) g)) most_states) _ _
    (joins-go (record { input = i; group = present_of d.names f; next = next_of (named d.names f) g; outputs = o; line = k }) (with_line d.heads) (named (named d.names f) g) d.rows d.table)
    (stops-ends Limit) e

row_goes : (k : ℕ) (d : Draft) (l : List ℕ) → row_line_does k d l ≡ ends → ⊥
unfolding row_line_does
row_goes k d l e =
    choice-not (row_fields_fit d.heads.inputs d.heads.outputs l) _ _
    (choice-not (is_short (field_at l 1) && is_short (field_at l 2)) _ _
    (row-does-go k d (pattern_of (field_at l 0)) (field_at l 1) (field_at l 2) (pattern_of (field_at l 3))) (stops-ends Names))
    (stops-ends BadLine) e

does-end : (x : KissMark) (k : ℕ) (d : Draft) (l : List ℕ) → kiss_placed x d.heads ≡ true → kiss_does x k d l ≡ ends → Headed d
unfolding kiss_placed kiss_does
does-end KissMark.Inputs k d l p e = absurd (number-ends (number_line l) (inputs_do d) (inputs-go d) e)
does-end KissMark.Outputs k d l p e = absurd (number-ends (number_line l) (outputs_do d) (outputs-go d) e)
does-end KissMark.States k d l p e = absurd (number-ends (number_line l) _ (λ n. goes-ends _) e)
does-end KissMark.Products k d l p e = absurd (number-ends (number_line l) _ (λ n. goes-ends _) e)
does-end KissMark.Reset k d l p e = absurd (reset-goes d l e)
does-end KissMark.End k d l p e = record {
  inputs = some_of d.heads.inputs (and_first (not (eqb d.heads.inputs 0)) _ p);
  outputs = some_of d.heads.outputs (and_second (not (eqb d.heads.inputs 0)) _ p);
  names = end-names d l e;
}
does-end KissMark.Unknown k d l p e = absurd (stops-ends BadLine e)
does-end KissMark.Row k d l p e = absurd (row_goes k d l e)

step_end : (k : ℕ) (d : Draft) (l : List ℕ) → kiss_step k d l ≡ ends → Headed d
unfolding kiss_step
step_end k d l e =
    let c = chose-first (kiss_placed (kiss_mark (mark_of l)) d.heads) e (stops-ends Place) in
    does-end (kiss_mark (mark_of l)) k d l c.0 c.1

-- ---- the listing so made

cut-sound : {i o n m : ℕ} {r : Row} (h : Head) → h.inputs ≡ i → h.outputs ≡ o → h.states ≡ n → 1 ≤ n → DraftRow i o n m r → SoundRow h (cut_to n r)
cut-sound {i} {o} {n} {m} {r} h a b c p d = record {
  input = rw a d.input;
  group = rw c (mask_lt r.group n);
  some = λ z. omega (arith, has-and r.group (everyone n) d.who, d.member, has_all n d.who (omega (arith, d.below)), ap (λ (g : ℕ). has g d.who) z, has-none d.who);
  next = rw c d.next;
  one-next = d.one-next;
  outputs = rw b d.outputs;
}

module _ (m : ℕ) (d : Draft) (s : SoundDraft m d) (h : Headed d) where
  made_row : (k : ℕ) → k < d.rows → get_or (map (cut_to (length d.names)) d.table) k no_row ≡ cut_to (length d.names) (get_or d.table k no_row)
  made_row k l = map_at (cut_to (length d.names)) d.table k no_row no_row (omega (arith, s.few-rows, s.table))

  made-sound : Sound (listing_of d.heads (length d.names) d.rows d.table)
  unfolding listing_of
  made-sound = record {
    head = record {
      some-states = h.names;
      few-states = s.few-names;
      some-inputs = h.inputs;
      few-inputs = s.few-inputs;
      some-outputs = h.outputs;
      few-outputs = s.few-outputs;
      few_bits = omega arith;
    };
    few-rows = s.few-rows;
    table = length-map d.table (cut_to (length d.names)) ∙ s.table;
    row = λ k l. rw (made_row k l) (cut-sound _ refl refl refl h.names (s.row k l));
    plain = λ e. absurd (false≢true e);
    few-dichotomies = omega arith;
    asked = length-replicate most_dichotomies no_requirement;
    dichotomy = λ k l. absurd (omega arith);
    said = length-replicate most_states no_pattern;
    state = λ k. rw (none_said most_states k) (no-pattern d.heads.outputs);
  }

  made-complete : complete (listing_of d.heads (length d.names) d.rows d.table).head (listing_of d.heads (length d.names) d.rows d.table).given ≡ true
  unfolding listing_of complete
  made-complete = refl

  made-lines : AtMost m (conflict (rows_of (listing_of d.heads (length d.names) d.rows d.table)))
  unfolding listing_of
  made-lines =
      let l : List Row = map (cut_to (length d.names)) d.table in
      conflict-within m (take d.rows l)
      (all-below m (take d.rows l)
      (λ j g. (let q : j < d.rows = omega (arith, length-take d.rows l) in rw (get_or-take d.rows l j no_row q, made_row j q) (s.row j q).line)))

-- ---- the whole

disagrees-within : (m : ℕ) (t : Told) (count : ℕ) → t.line ≤ m → AtMost m (disagrees t count)
unfolding disagrees
disagrees-within m t count h = go (eqb t.line 0 || eqb t.number count)
  where
    go : (b : Bool) → AtMost m (cond {A = Verdict} b (Ok tt) (refused Names t.line))
    go true = tt
    go false = h

disagreement-within : (m : ℕ) (h : KissHeads) (n : ℕ) → h.states.line ≤ m → h.products.line ≤ m → AtMost m (disagreement h n)
unfolding disagreement
disagreement-within m h n a b = go (ltb h.states.line h.products.line)
  where
    go : (c : Bool) → AtMost m (elim c as (λ _. Verdict) [ true ↦ or_else (disagrees h.states n) (disagrees h.products h.lines) | false ↦ or_else (disagrees h.products h.lines) (disagrees h.states n) ])
    go true = or-within m (disagrees h.states n) (disagrees h.products h.lines) (disagrees-within m h.states n a) (disagrees-within m h.products h.lines b)
    go false = or-within m (disagrees h.products h.lines) (disagrees h.states n) (disagrees-within m h.products h.lines b) (disagrees-within m h.states n a)

-- an accepted reading, and the line of a refused one
record Accepted (t : Listing) : Type 0 where
  sound : Sound t
  whole : complete t.head t.given ≡ true
  apart : conflict (rows_of t) ≡ Ok tt

abbrev Good : ℕ → Reading → Type 0
Good m (Ok t) = Accepted t
Good m (Err why) = why.line ≤ m

or-second : (v w : Verdict) → or_else v w ≡ Ok tt → w ≡ Ok tt
or-second (Ok _) w e = e
or-second (Err why) w e = absurd (not-accepted e)

judged-good : (m : ℕ) (v : Verdict) (t : Listing) → Sound t → complete t.head t.given ≡ true → (v ≡ Ok tt → conflict (rows_of t) ≡ Ok tt) → AtMost m v → Good m (judged v t)
judged-good m (Ok tt) t s c f h = record { sound = s; whole = c; apart = f refl }
judged-good m (Err why) t s c f h = h

made-good : (m : ℕ) (d : Draft) → SoundDraft m d → Headed d → Good m (kiss_made d.heads (length d.names) d.rows d.table)
unfolding kiss_made
made-good m d s h =
    let t : Listing = listing_of d.heads (length d.names) d.rows d.table in
    let v : Verdict = disagreement d.heads (length d.names) in
    judged-good m (or_else v (conflict (rows_of t))) t (made-sound m d s h) (made-complete m d s h) (or-second v (conflict (rows_of t)))
    (or-within m v (conflict (rows_of t)) (disagreement-within m d.heads (length d.names) s.states-line s.products-line) (made-lines m d s h))

ended-good : (m k : ℕ) (d : Draft) (rest : List (List ℕ)) → k < m → SoundDraft m d → Headed d → Good m (kiss_ended k d rest)
unfolding kiss_ended
ended-good m k d rest l s h = go (nothing rest)
  where
    go : (b : Bool) → Good m (cond b (kiss_made d.heads (length d.names) d.rows d.table) (refused Place (k + 1)))
    go true = made-good m d s h
    go false = omega arith

unended-good : (m k : ℕ) (h : KissHeads) (l : List ℕ) → k ≤ m → Good m (kiss_unended k h l)
unfolding kiss_unended
unended-good m k h [] g = g
unended-good m k h (x ∷ xs) g = go (kiss_placed (kiss_mark (mark_of (x ∷ xs))) h)
  where
    go : (b : Bool) → Good m (cond b (refused BadLine k) (refused Place k))
    go true = g
    go false = g

-- what follows line k
unfoldable after : ℕ → Draft → List (List ℕ) → KissStep → Reading
after k d rest x = elim x [ goes u ↦ kiss_lines (k + 1) u rest | ends ↦ kiss_ended k d rest | stops f ↦ refused f k ]

reads_on : (k : ℕ) (d : Draft) (l x : List ℕ) (xs : List (List ℕ)) → kiss_lines k d (l ∷ (x ∷ xs)) ≡ after k d (x ∷ xs) (kiss_step k d l)
unfolding kiss_lines after
reads_on k d l x xs = refl

reads_none : (k : ℕ) (d : Draft) → kiss_lines k d [] ≡ refused Place k
unfolding kiss_lines
reads_none k d = refl

reads-last : (k : ℕ) (d : Draft) (l : List ℕ) → kiss_lines k d (l ∷ []) ≡ kiss_unended k d.heads l
unfolding kiss_lines
reads-last k d l = refl

lines-good : (m k : ℕ) (d : Draft) (ls : List (List ℕ)) → k + length ls ≤ m → SoundDraft m d → Good m (kiss_lines k d ls)
unfolding after
lines-good m k d [] h s = rw (reads_none k d) (omega arith)
lines-good m k d (l ∷ []) h s = rw (reads-last k d l) (unended-good m k d.heads l (omega arith))
lines-good m k d (l ∷ (x ∷ xs)) h s = rw (reads_on k d l x xs) (go (kiss_step k d l) refl (λ u. lines-good m (k + 1) u (x ∷ xs) (omega arith)))
  where
    go : (y : KissStep) → kiss_step k d l ≡ y → ((u : Draft) → SoundDraft m u → Good m (kiss_lines (k + 1) u (x ∷ xs))) → Good m (after k d (x ∷ xs) y)
    go (goes u) e f = f u (step-sound m k d l u (omega arith) s e)
    go ends e f = ended-good m k d (x ∷ xs) (omega arith) s (step_end k d l e)
    go (stops r) e f = omega arith

-- whatever the bytes
kiss-good : (s : List ℕ) → Good (most_bytes + 2) (kiss_reading s)
unfolding kiss_reading
kiss-good s = go (leb (length s) most_bytes) refl
  where
    go : (b : Bool) → leb (length s) most_bytes ≡ b → Good (most_bytes + 2) (cond b (kiss_lines 1 no_draft (lines_of s)) (refused Limit 0))
    go true e = lines-good (most_bytes + 2) 1 no_draft (lines_of s) (omega (arith, leb-true (length s) most_bytes e, split-length 10 s)) (none-sound (most_bytes + 2))
    go false e = omega arith

kiss-accepted : (s : List ℕ) {t : Listing} → kiss_reading s ≡ Ok t → Accepted t
kiss-accepted s e = subst (Good (most_bytes + 2)) e (kiss-good s)

pub kiss-sound : (s : List ℕ) {t : Listing} → kiss_reading s ≡ Ok t → Sound t
kiss-sound s e = (kiss-accepted s e).sound

pub kiss-complete : (s : List ℕ) {t : Listing} → kiss_reading s ≡ Ok t → complete t.head t.given ≡ true
kiss-complete s e = (kiss-accepted s e).whole

pub kiss-agrees : (s : List ℕ) {t : Listing} → kiss_reading s ≡ Ok t → conflict (rows_of t) ≡ Ok tt
kiss-agrees s e = (kiss-accepted s e).apart

pub kiss-line : (s : List ℕ) (r : Refusal) (k : ℕ) → kiss_reading s ≡ refused r k → k < 100000
kiss-line s r k e = let h : k ≤ most_bytes + 2 = subst (Good (most_bytes + 2)) e (kiss-good s) in omega arith
