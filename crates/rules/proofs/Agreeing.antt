-- The cover that is written agrees with the listing: what its lines say at each input vector and state, rows left out or not, and what the listing means there.
use mathlib.Core.Path.{◌≡◌, refl, sym, ap, ap₂, ◌∙◌}
use mathlib.Core.Logic.{◌⊎◌, inl, inr, ⊎_elim}
use mathlib.Core.Bool.{Bool, true, false, ◌&&◌, ◌||◌, not, cond, or-false, and-false}
use mathlib.Core.List.{List, [], ◌∷◌, ◌++◌, map}
use Prim.Native.Nat.{ℕ, zero, suc, ◌+◌, ◌-◌, ◌≤◌, ◌<◌}
use native.Mathlib.Nat.{zero-add}
use native.Mathlib.Decide.{ℕ_discrete}
use native.Mathlib.Omega.{arith}
use lib.Bits.{bit_and, and_zero_r}
use lib.Dec.{eqb, ltb}
use lib.ListN.{length, get_or, length-map, get_or-append}
use lib.Seq.{get_or-append-add}
use borrow.Author.Tests.{eq-eqb, ne_eqb, eqb-true, eqb-false, not-true, not-false, ltb-true, ltb-false}
use Rattle.sets.specs.Sets.{states_from}
use Rattle.sets.proofs.Every.{and_first, and_second, and_both, at_every}
use Rattle.sets.proofs.Places.{map_at}
use Rattle.rules.specs.Limits.{most_inputs}
use Rattle.rules.specs.Text.{bytes, digit, dot, dash, nought, one, field_at, split, decimal}
use Rattle.rules.specs.Listing.{no_row, all_rows, some, meets}
use Rattle.rules.specs.Code.{code_of}
use Rattle.rules.specs.Report.{digits}
use Rattle.rules.specs.Cover.{next_code, says_one, says_dash, shares_one, output_at, cover_row, is_left_out, printed_rows, keeping_all, fires, takes, vector, line_fires}
use Rattle.rules.specs.Meaning.{Meaning, on, free, off, output_means, named_by, next_means, bit_means, cover_says, place_agrees, agrees_at}
use Rattle.rules.specs.declared.Head.{Head}
use Rattle.rules.specs.declared.Row.{Row}
use Rattle.rules.specs.declared.Listing.{Listing}
use Rattle.rules.proofs.Some.{some_at, at_some, none-some, some-none, some-like, some-append}
use Rattle.rules.proofs.Fires.{output_side, cover-fields}
use Rattle.rules.proofs.SoundLines.{FitRow}
use Rattle.rules.proofs.Sound.{Sound}
use Rattle.rules.proofs.AllRows.{all_fit, Apart}
use Rattle.rules.proofs.Printed.{printed-some, silent-bit, silent-output}
use Rattle.rules.proofs.CoverLines.{cover_bodies}
use Rattle.rules.proofs.Sharing.{fire-together, one-next}

-- ---- what a row's line says of an output

one-said : (rs : List Row) (r : Row) (j : ℕ) → eqb (output_at rs r j) one ≡ says_one j r
unfolding output_at
one-said rs r j = go (says_one j r) (says_dash j r && not (shares_one rs r j))
  where
    go : (t u : Bool) → eqb (cond t one (cond u dash nought)) one ≡ t
    go true u = refl
    go false true = refl
    go false false = refl

pub dash-said : (rs : List Row) (r : Row) (j : ℕ) → eqb (output_at rs r j) dash ≡ (not (says_one j r) && (says_dash j r && not (shares_one rs r j)))
unfolding output_at
dash-said rs r j = go (says_one j r) (says_dash j r && not (shares_one rs r j))
  where
    go : (t u : Bool) → eqb (cond t one (cond u dash nought)) dash ≡ (not t && u)
    go true u = refl
    go false true = refl
    go false false = refl

-- ---- what the rows say that fire at an input vector and a state

module _ (h : Head) (rs : List Row) (few : h.inputs ≤ most_inputs) (sound : (k : ℕ) → k < length rs → FitRow h (get_or rs k no_row)) (x s : ℕ) where
  abbrev fired : (Row → Bool) → Bool
  fired p = some (λ r. fires h r x s && p r) rs

  -- a line says 1 where its row does
  ones-same : (j : ℕ) → fired (λ r. eqb (output_at rs r j) one) ≡ fired (says_one j)
  ones-same j = some-like _ _ rs (λ r. ap (λ (b : Bool). fires h r x s && b) (one-said rs r j))

  -- where a row says 1 that fires, each row that fires shares with it, so none says dash
  no-dash : (j : ℕ) → fired (says_one j) ≡ true → fired (λ r. eqb (output_at rs r j) dash) ≡ false
  unfolding shares_one
  no-dash j e = none-some no_row _ rs (λ k l. each (get_or rs k no_row) (sound k l) (fires h (get_or rs k no_row) x s) refl)
    where
      sayer : (k : ℕ) × (k < length rs) × ((fires h (get_or rs k no_row) x s && says_one j (get_or rs k no_row)) ≡ true)
      sayer = some_at no_row (λ r. fires h r x s && says_one j r) rs e

      shares : (r : Row) → FitRow h r → fires h r x s ≡ true → shares_one rs r j ≡ true
      shares r sr f =
          let q = get_or rs sayer.0 no_row in
          at_some no_row (λ q. meets r q && says_one j q) rs sayer.0 sayer.1
          (and_both (meets r q) (says_one j q) (fire-together h few r q sr (sound sayer.0 sayer.1) x s f (and_first (fires h q x s) (says_one j q) sayer.2))
          (and_second (fires h q x s) (says_one j q) sayer.2))

      each : (r : Row) → FitRow h r → (b : Bool) → fires h r x s ≡ b → (b && eqb (output_at rs r j) dash) ≡ false
      each r sr false f = refl
      each r sr true f = dash-said rs r j ∙ ap (λ (t : Bool). not (says_one j r) && (says_dash j r && not t)) (shares r sr f) ∙ neither (says_one j r) (says_dash j r)
        where
          neither : (o d : Bool) → (not o && (d && not true)) ≡ false
          neither true d = refl
          neither false true = refl
          neither false false = refl

  -- where no row says dash that fires, no line does
  no-dashes : (j : ℕ) → fired (says_dash j) ≡ false → fired (λ r. eqb (output_at rs r j) dash) ≡ false
  no-dashes j e = none-some no_row _ rs (λ k l. each (get_or rs k no_row) (fires h (get_or rs k no_row) x s) (some-none no_row (λ r. fires h r x s && says_dash j r) rs e k l))
    where
      each : (r : Row) (b : Bool) → (b && says_dash j r) ≡ false → (b && eqb (output_at rs r j) dash) ≡ false
      each r false f = refl
      each r true f = dash-said rs r j ∙ ap (λ (t : Bool). not (says_one j r) && (t && not (shares_one rs r j))) f ∙ neither (says_one j r)
        where
          neither : (o : Bool) → (not o && (false && not (shares_one rs r j))) ≡ false
          neither true = refl
          neither false = refl

-- ---- what a row's line says of a place

pub each-state : (f : ℕ → ℕ) (a n j : ℕ) → j < n → get_or (map f (states_from a n)) j 0 ≡ f (a + j)
unfolding states_from
each-state f a zero j l = absurd (omega arith)
each-state f a (suc n) zero l = let e : a ≡ a + 0 = omega arith in ap f e
each-state f a (suc n) (suc j) l =
    let e : suc a + j ≡ a + suc j = omega arith in
    each-state f (suc a) n j (omega arith) ∙ ap f e

module _ (h : Head) (bits : List ℕ) (rs : List Row) (r : Row) where
  code-long : length (digits (next_code bits r.next)) ≡ length bits
  code-long = length-map (next_code bits r.next) (λ d. nought + d) ∙ length-map bits (λ b. digit (not (eqb (bit_and b r.next) 0)))

  -- behind the code of the next state stand the outputs
  output-place : (j : ℕ) → j < h.outputs → get_or (output_side h bits rs r) (length bits + j) 0 ≡ output_at rs r j
  output-place j l =
      ap (λ (n : ℕ). get_or (output_side h bits rs r) (n + j) 0) (sym code-long)
      ∙ get_or-append-add (digits (next_code bits r.next)) (map (output_at rs r) (states_from 0 h.outputs)) j 0
      ∙ each-state (output_at rs r) 0 h.outputs j l
      ∙ ap (output_at rs r) (zero-add j)

  -- a digit of that code
  code-place : (k : ℕ) → k < length bits → get_or (output_side h bits rs r) k 0 ≡ nought + get_or (next_code bits r.next) k 0
  code-place k l =
      get_or-append (digits (next_code bits r.next)) (map (output_at rs r) (states_from 0 h.outputs)) 0 k (omega (arith, code-long))
      ∙ map_at (λ d. nought + d) (next_code bits r.next) k 0 0 (omega (arith, length-map bits (λ b. digit (not (eqb (bit_and b r.next) 0)))))

  pub bit-place : (k : ℕ) → k < length bits → get_or (output_side h bits rs r) k 0 ≡ nought + digit (not (eqb (bit_and (get_or bits k 0) r.next) 0))
  bit-place k l = code-place k l ∙ ap (λ (d : ℕ). nought + d) (map_at (λ b. digit (not (eqb (bit_and b r.next) 0))) bits k 0 0 l)

  -- a row that is left out would say 0 of every place
  silent-place : is_left_out h bits r ≡ true → (place : ℕ) → place < length bits + h.outputs → get_or (output_side h bits rs r) place 0 ≡ nought
  silent-place out place l = go (ltb place (length bits)) refl
    where
      go : (b : Bool) → ltb place (length bits) ≡ b → get_or (output_side h bits rs r) place 0 ≡ nought
      go true e = code-place place (ltb-true place (length bits) e) ∙ ap (λ (d : ℕ). nought + d) (silent-bit h bits r out place)
      go false e =
          let j = place - length bits in
          let at : place ≡ length bits + j = omega (arith, ltb-false place (length bits) e) in
          ap (λ (k : ℕ). get_or (output_side h bits rs r) k 0) at ∙ output-place j (omega (arith, ltb-false place (length bits) e)) ∙ silent-output h bits r out rs j

-- ---- what the lines of a cover say: the rows' lines alone fire

pub dot-fires : (l cs ds : List ℕ) → field_at l 0 ≡ dot ∷ cs → line_fires l ds ≡ false
unfolding line_fires takes
dot-fires l cs ds e = ap (λ (f : List ℕ). takes f ds) e ∙ go ds
  where
    go : (ds : List ℕ) → takes (dot ∷ cs) ds ≡ false
    go [] = refl
    go (d ∷ ds) = ap (λ (b : Bool). b && takes cs ds) (ne_eqb dot (nought + d) (λ q. omega arith))

module _ (t : Listing) (bits : List ℕ) (x s : ℕ) (some-inputs : 1 ≤ t.head.inputs)
    (as_rows : (k : ℕ) → k < length (all_rows t) → line_fires (cover_row t.head bits (all_rows t) (get_or (all_rows t) k no_row)) (vector t.head.inputs x ++ code_of bits s) ≡ fires t.head (get_or (all_rows t) k no_row) x s) where
  abbrev ds : List ℕ
  ds = vector t.head.inputs x ++ code_of bits s

  none-fires : line_fires [] ds ≡ false
  unfolding line_fires takes split states_from
  none-fires = go t.head.inputs some-inputs
    where
      go : (i : ℕ) → 1 ≤ i → takes [] (vector i x ++ code_of bits s) ≡ false
      go zero h = absurd (omega arith)
      go (suc i) h = refl

  -- of 1 and of dash, what the rows say that fire, those left out with them
  lines-say : (place c : ℕ) → place < length bits + t.head.outputs → eqb nought c ≡ false
      → cover_says (cover_bodies t bits) ds place c ≡ some (λ r. fires t.head r x s && eqb (get_or (output_side t.head bits (all_rows t) r) place 0) c) (all_rows t)
  unfolding cover_says some split
  lines-say place c within other =
      rw (
        dot-fires (bytes ".i " ++ decimal (t.head.inputs + length bits)) _ ds refl,
        dot-fires (bytes ".o " ++ decimal (length bits + t.head.outputs)) _ ds refl,
        dot-fires (bytes ".type fd") _ ds refl,
        dot-fires (bytes ".p " ++ decimal (length (printed_rows t.head bits (all_rows t)))) _ ds refl,
      )
      (some-append says (map (cover_row t.head bits (all_rows t)) (printed_rows t.head bits (all_rows t))) (bytes ".e" ∷ ([] ∷ []))
      ∙ ap₂ ◌||◌ (printed-some t.head bits (cover_row t.head bits (all_rows t)) says said (all_rows t) row-says silent) ends
      ∙ or-false (some said (all_rows t)))
    where
      says : List ℕ → Bool
      says l = line_fires l ds && eqb (get_or (field_at l 1) place 0) c

      said : Row → Bool
      said r = fires t.head r x s && eqb (get_or (output_side t.head bits (all_rows t) r) place 0) c

      row-says : (k : ℕ) → k < length (all_rows t) → says (cover_row t.head bits (all_rows t) (get_or (all_rows t) k no_row)) ≡ said (get_or (all_rows t) k no_row)
      row-says k l =
          ap₂ ◌&&◌ (as_rows k l)
          (ap (λ (fs : List (List ℕ)). eqb (get_or (get_or fs 1 []) place 0) c) (cover-fields t.head bits (all_rows t) (get_or (all_rows t) k no_row)))

      silent : (r : Row) → is_left_out t.head bits r ≡ true → said r ≡ false
      silent r out = rw (silent-place t.head bits (all_rows t) r out place within, other) (and-false (fires t.head r x s))

      ends : some says (bytes ".e" ∷ ([] ∷ [])) ≡ false
      ends = rw (dot-fires (bytes ".e") _ ds refl, none-fires)

-- what is left out says nothing: of each place the firing lines say 1, or dash, exactly where those of the whole cover do
module _ (t : Listing) (bits : List ℕ) (x s : ℕ) (some-inputs : 1 ≤ t.head.inputs)
    (as_rows : (k : ℕ) → k < length (all_rows t) → line_fires (cover_row t.head bits (all_rows t) (get_or (all_rows t) k no_row)) (vector t.head.inputs x ++ code_of bits s) ≡ fires t.head (get_or (all_rows t) k no_row) x s) where
  pub as-whole : (place c : ℕ) → place < length bits + t.head.outputs → eqb nought c ≡ false
      → cover_says (cover_bodies t bits) (vector t.head.inputs x ++ code_of bits s) place c ≡ cover_says (cover_bodies (keeping_all t) bits) (vector t.head.inputs x ++ code_of bits s) place c
  unfolding fires cover_row all_rows
  as-whole place c within other = lines-say t bits x s some-inputs as_rows place c within other ∙ sym (lines-say (keeping_all t) bits x s some-inputs as_rows place c within other)

-- ---- what the listing means of the next state

-- where none is named, no row that fires names one
none_named : (h : Head) (x s : ℕ) (rs : List Row) → named_by h x s rs ≡ 0 → (k : ℕ) → k < length rs → fires h (get_or rs k no_row) x s ≡ true → (get_or rs k no_row).next ≡ 0
unfolding named_by
none_named h x s [] e k l f = absurd (omega arith)
none_named h x s (r ∷ rs) e k l f = go (fires h r x s && not (eqb r.next 0)) refl e k l f (none_named h x s rs)
  where
    go : (t : Bool) → (fires h r x s && not (eqb r.next 0)) ≡ t → cond t r.next (named_by h x s rs) ≡ 0 → (k : ℕ) → k < length (r ∷ rs) → fires h (get_or (r ∷ rs) k no_row) x s ≡ true
        → (named_by h x s rs ≡ 0 → (k : ℕ) → k < length rs → fires h (get_or rs k no_row) x s ≡ true → (get_or rs k no_row).next ≡ 0) → (get_or (r ∷ rs) k no_row).next ≡ 0
    go true q e k l f later = absurd (eqb-false r.next 0 (not-true (eqb r.next 0) (and_second (fires h r x s) (not (eqb r.next 0)) q)) e)
    go false q e zero l f later = eqb-true r.next 0 (not-false (eqb r.next 0) (sym (ap (λ (b : Bool). b && not (eqb r.next 0)) f) ∙ q))
    go false q e (suc k) l f later = later e k (omega arith) f

-- the row that names it
pub namer : (h : Head) (x s : ℕ) (rs : List Row) → (named_by h x s rs ≡ 0 → ⊥)
    → (k : ℕ) × (k < length rs) × (fires h (get_or rs k no_row) x s ≡ true) × ((get_or rs k no_row).next ≡ named_by h x s rs)
unfolding named_by
namer h x s [] o = absurd (o refl)
namer h x s (r ∷ rs) o = go (fires h r x s && not (eqb r.next 0)) refl o (namer h x s rs)
  where
    go : (t : Bool) → (fires h r x s && not (eqb r.next 0)) ≡ t → (cond t r.next (named_by h x s rs) ≡ 0 → ⊥)
        → ((named_by h x s rs ≡ 0 → ⊥) → (k : ℕ) × (k < length rs) × (fires h (get_or rs k no_row) x s ≡ true) × ((get_or rs k no_row).next ≡ named_by h x s rs))
        → (k : ℕ) × (k < length (r ∷ rs)) × (fires h (get_or (r ∷ rs) k no_row) x s ≡ true) × ((get_or (r ∷ rs) k no_row).next ≡ cond t r.next (named_by h x s rs))
    go true e o later = (0, omega arith, and_first (fires h r x s) (not (eqb r.next 0)) e, refl)
    go false e o later = let k = later o in (suc k.0, omega (arith, k.1), k.2, k.3)

module _ (h : Head) (rs : List Row) (few : h.inputs ≤ most_inputs) (sound : (k : ℕ) → k < length rs → FitRow h (get_or rs k no_row)) (apart : Apart rs) (x s : ℕ) where
  -- two rows that fire and name a next state name the same
  same_next : (i j : ℕ) → i < length rs → j < length rs → fires h (get_or rs i no_row) x s ≡ true → fires h (get_or rs j no_row) x s ≡ true
      → ((get_or rs i no_row).next ≡ 0 → ⊥) → ((get_or rs j no_row).next ≡ 0 → ⊥) → (get_or rs i no_row).next ≡ (get_or rs j no_row).next
  same_next i j li lj fi fj ni nj = go (ltb i j) (ltb j i) refl refl
    where
      behind : (i j : ℕ) → i < j → j < length rs → fires h (get_or rs i no_row) x s ≡ true → fires h (get_or rs j no_row) x s ≡ true
          → ((get_or rs i no_row).next ≡ 0 → ⊥) → ((get_or rs j no_row).next ≡ 0 → ⊥) → (get_or rs i no_row).next ≡ (get_or rs j no_row).next
      behind i j l lj fi fj ni nj =
          one-next (get_or rs i no_row) (get_or rs j no_row)
          (fire-together h few (get_or rs i no_row) (get_or rs j no_row) (sound i (omega arith)) (sound j lj) x s fi fj)
          (apart i j l lj) ni nj

      go : (t u : Bool) → ltb i j ≡ t → ltb j i ≡ u → (get_or rs i no_row).next ≡ (get_or rs j no_row).next
      go true u e f = behind i j (ltb-true i j e) lj fi fj ni nj
      go false true e f = sym (behind j i (ltb-true j i f) li fj fi nj ni)
      go false false e f = ap (λ (k : ℕ). (get_or rs k no_row).next) (omega (arith, ltb-false i j e, ltb-false j i f))

  abbrev u : ℕ
  u = named_by h x s rs

  -- a row that fires names none, or what the listing means
  none-or-named : (u ≡ 0 → ⊥) → (k : ℕ) → k < length rs → fires h (get_or rs k no_row) x s ≡ true → ((get_or rs k no_row).next ≡ 0) ⊎ ((get_or rs k no_row).next ≡ u)
  none-or-named o k l f = go (ℕ_discrete (get_or rs k no_row).next 0)
    where
      go : Dec ((get_or rs k no_row).next ≡ 0) → ((get_or rs k no_row).next ≡ 0) ⊎ ((get_or rs k no_row).next ≡ u)
      go (yes e) = inl e
      go (no n) = let m = namer h x s rs o in inr (same_next k m.0 l m.1 f m.2 n (λ e. o (sym m.3 ∙ e)) ∙ m.3)

  -- so of what no row says that names none, the rows that fire say what the listing means
  pub next-said : (p : ℕ → Bool) → p 0 ≡ false → some (λ r. fires h r x s && p r.next) rs ≡ p u
  next-said p silent = go (ℕ_discrete u 0)
    where
      quiet : ((k : ℕ) → k < length rs → fires h (get_or rs k no_row) x s ≡ true → p (get_or rs k no_row).next ≡ false) → some (λ r. fires h r x s && p r.next) rs ≡ false
      quiet none = none-some no_row _ rs (λ k l. each k l (fires h (get_or rs k no_row) x s) refl)
        where
          each : (k : ℕ) → k < length rs → (t : Bool) → fires h (get_or rs k no_row) x s ≡ t → (t && p (get_or rs k no_row).next) ≡ false
          each k l false f = refl
          each k l true f = none k l f

      go : Dec (u ≡ 0) → some (λ r. fires h r x s && p r.next) rs ≡ p u
      go (yes e) = quiet (λ k l f. ap p (none_named h x s rs e k l f) ∙ silent) ∙ sym (ap p e ∙ silent)
      go (no o) = by-named (p u) refl
        where
          by-named : (t : Bool) → p u ≡ t → some (λ r. fires h r x s && p r.next) rs ≡ p u
          by-named true e =
              let m = namer h x s rs o in
              at_some no_row (λ r. fires h r x s && p r.next) rs m.0 m.1 (and_both (fires h (get_or rs m.0 no_row) x s) (p (get_or rs m.0 no_row).next) m.2 (ap p m.3 ∙ e)) ∙ sym e
          by-named false e = quiet (λ k l f. ⊎_elim (λ q. ap p q ∙ silent) (λ q. ap p q ∙ e) (none-or-named o k l f)) ∙ sym e

-- ---- the two agree

module _ (t : Listing) (bits : List ℕ) (x s : ℕ) (sound : Sound t) (apart : Apart (all_rows t))
    (as_rows : (k : ℕ) → k < length (all_rows t) → line_fires (cover_row t.head bits (all_rows t) (get_or (all_rows t) k no_row)) (vector t.head.inputs x ++ code_of bits s) ≡ fires t.head (get_or (all_rows t) k no_row) x s) where
  abbrev digits_in : List ℕ
  digits_in = vector t.head.inputs x ++ code_of bits s

  abbrev rows-sound : (k : ℕ) → k < length (all_rows t) → FitRow t.head (get_or (all_rows t) k no_row)
  rows-sound = all_fit t sound

  abbrev firing : (Row → Bool) → Bool
  firing p = some (λ r. fires t.head r x s && p r) (all_rows t)

  lines-mean : (place c : ℕ) → place < length bits + t.head.outputs → eqb nought c ≡ false → (p : Row → ℕ) → ((r : Row) → get_or (output_side t.head bits (all_rows t) r) place 0 ≡ p r)
      → cover_says (cover_bodies t bits) digits_in place c ≡ firing (λ r. eqb (p r) c)
  lines-mean place c within other p e =
      lines-say t bits x s sound.head.some-inputs as_rows place c within other
      ∙ some-like _ _ (all_rows t) (λ r. ap (λ (m : ℕ). fires t.head r x s && eqb m c) (e r))

  pub output-said : (j : ℕ) → j < t.head.outputs → (c : ℕ) → eqb nought c ≡ false
      → cover_says (cover_bodies t bits) digits_in (length bits + j) c ≡ firing (λ r. eqb (output_at (all_rows t) r j) c)
  output-said j l c other = lines-mean (length bits + j) c (omega arith) other (λ r. output_at (all_rows t) r j) (λ r. output-place t.head bits (all_rows t) r j l)

  pub output-ones : (j : ℕ) → j < t.head.outputs → cover_says (cover_bodies t bits) digits_in (length bits + j) one ≡ firing (says_one j)
  output-ones j l = output-said j l one refl ∙ ones-same t.head (all_rows t) sound.head.few-inputs rows-sound x s j

  output-agrees : (j : ℕ) → j < t.head.outputs → place_agrees (output_means t x s j) (cover_bodies t bits) digits_in (length bits + j) ≡ true
  unfolding output_means place_agrees
  output-agrees j l = go (firing (says_one j)) (firing (says_dash j)) refl refl
    where
      few : t.head.inputs ≤ most_inputs
      few = sound.head.few-inputs

      go : (o d : Bool) → firing (says_one j) ≡ o → firing (says_dash j) ≡ d → place_agrees (cond o on (cond d free off)) (cover_bodies t bits) digits_in (length bits + j) ≡ true
      go true d e f = and_both _ _ (output-ones j l ∙ e) (ap not (output-said j l dash refl ∙ no-dash t.head (all_rows t) few rows-sound x s j e))
      go false true e f = refl
      go false false e f = and_both _ _ (ap not (output-ones j l ∙ e)) (ap not (output-said j l dash refl ∙ no-dashes t.head (all_rows t) few rows-sound x s j f))

  -- of a free output our own cover says no 1
  pub free-quiet : (j : ℕ) → j < t.head.outputs → output_means t x s j ≡ free → cover_says (cover_bodies t bits) digits_in (length bits + j) one ≡ false
  unfolding output_means
  free-quiet j l e = output-ones j l ∙ go (firing (says_one j)) (firing (says_dash j)) e
    where
      go : (o d : Bool) → cond o on (cond d free off) ≡ free → o ≡ false
      go true d e = let z : ◌≡◌ {A = ℕ} 0 1 = ap (λ (m : Meaning). elim m [ on ↦ 0 | free ↦ 1 | off ↦ 2 ]) e in absurd (omega arith)
      go false d e = refl

  bit-agrees : (k : ℕ) → k < length bits → place_agrees (bit_means t x s (get_or bits k 0)) (cover_bodies t bits) digits_in k ≡ true
  unfolding bit_means next_means place_agrees
  bit-agrees k l = go (ℕ_discrete (next_means t x s) 0)
    where
      b : ℕ
      b = get_or bits k 0

      said : (c : ℕ) → eqb nought c ≡ false → cover_says (cover_bodies t bits) digits_in k c ≡ firing (λ r. eqb (nought + digit (not (eqb (bit_and b r.next) 0))) c)
      said c other = lines-mean k c (omega arith) other (λ r. nought + digit (not (eqb (bit_and b r.next) 0))) (λ r. bit-place t.head bits (all_rows t) r k l)

      ones : (next_means t x s ≡ 0 → ⊥) → cover_says (cover_bodies t bits) digits_in k one ≡ not (eqb (bit_and b (next_means t x s)) 0)
      ones o =
          said one refl
          ∙ some-like _ _ (all_rows t) (λ r. ap (λ (v : Bool). fires t.head r x s && v) (is_one (not (eqb (bit_and b r.next) 0))))
          ∙ next-said t.head (all_rows t) sound.head.few-inputs rows-sound apart x s (λ u. not (eqb (bit_and b u) 0)) (ap (λ (v : ℕ). not (eqb v 0)) (and_zero_r b))
        where
          is_one : (v : Bool) → eqb (nought + digit v) one ≡ v
          is_one true = refl
          is_one false = refl

      dashes : cover_says (cover_bodies t bits) digits_in k dash ≡ false
      dashes = said dash refl ∙ none-some no_row _ (all_rows t) (λ i h. never (fires t.head (get_or (all_rows t) i no_row) x s) (not (eqb (bit_and b (get_or (all_rows t) i no_row).next) 0)))
        where
          never : (f v : Bool) → (f && eqb (nought + digit v) dash) ≡ false
          never false v = refl
          never true true = refl
          never true false = refl

      go : Dec (next_means t x s ≡ 0) → place_agrees (bit_means t x s b) (cover_bodies t bits) digits_in k ≡ true
      go (yes e) = rw (eq-eqb (next_means t x s) 0 e) refl
      go (no o) = rw (ne_eqb (next_means t x s) 0 o) (by_bit (eqb (bit_and b (next_means t x s)) 0) refl)
        where
          by_bit : (v : Bool) → eqb (bit_and b (next_means t x s)) 0 ≡ v → place_agrees (cond v off on) (cover_bodies t bits) digits_in k ≡ true
          by_bit true e = and_both _ _ (ap not (ones o ∙ ap not e)) (ap not dashes)
          by_bit false e = and_both _ _ (ones o ∙ ap not e) (ap not dashes)

  pub agrees : agrees_at t bits (cover_bodies t bits) x s ≡ true
  unfolding agrees_at
  agrees = and_both _ _ (at_every (length bits) _ bit-agrees) (at_every t.head.outputs _ output-agrees)
