-- A Moore machine: in each state the outputs are those of its `OU` line whatever the input, in what the listing means and in what the lines of its cover say; and a
-- row that a state adds fires in that state alone.
use mathlib.Core.Path.{◌≡◌, refl, sym, ap, ap₂, ◌∙◌}
use mathlib.Core.Bool.{Bool, true, false, ◌&&◌, ◌||◌, not, cond, and-false, or-false}
use mathlib.Core.List.{List, [], ◌∷◌, ◌++◌}
use Prim.Native.Nat.{ℕ, suc, ◌+◌, ◌-◌, ◌≤◌, ◌<◌}
use native.Mathlib.Decide.{ℕ_discrete}
use native.Mathlib.Omega.{arith}
use lib.Bits.{bit_and}
use lib.Dec.{eqb}
use lib.ListN.{length, get_or}
use lib.Seq.{get_or-take, length-take-le}
use borrow.Author.Tests.{eq-eqb, ne_eqb, eqb-true}
use Rattle.sets.specs.Sets.{has, only, everyone, every}
use Rattle.sets.proofs.Members.{has-and, has-none, has-only, has_other, has_all}
use Rattle.sets.proofs.Every.{at_every}
use Rattle.rules.specs.Limits.{most_inputs}
use Rattle.rules.specs.Text.{digit, dash, one}
use Rattle.rules.specs.Listing.{no_pattern, no_row, rows_of, state_row, state_rows, all_rows, some, share_input, meets}
use Rattle.rules.specs.Cover.{says_one, says_dash, shares_one, output_at, cover_row, fires, vector, line_fires}
use Rattle.rules.specs.Meaning.{on, free, off, said_means, output_means, cover_says}
use Rattle.rules.specs.Code.{code_of}
use Rattle.rules.specs.declared.Head.{Head}
use Rattle.rules.specs.declared.Pattern.{Pattern}
use Rattle.rules.specs.declared.Row.{Row}
use Rattle.rules.specs.declared.Listing.{Listing}
use Rattle.rules.proofs.Some.{none-some, some-append}
use Rattle.rules.proofs.Sound.{Sound, rows-length}
use Rattle.rules.proofs.AllRows.{said_of, added_rows, each_row, Apart}
use Rattle.rules.proofs.Fires.{part-has}
use Rattle.rules.proofs.CoverLines.{cover_bodies}
use Rattle.rules.proofs.Agreeing.{dash-said, output-said, output-ones}

-- ---- a row that a state adds fires in that state alone

every-dash : (i : ℕ) → i ≤ most_inputs → (x : ℕ) → every i (λ j. eqb (has (everyone most_inputs) j) 1 || eqb (has 0 j) (has x j)) ≡ true
every-dash i h x = at_every i _ (λ j l. ap (λ (b : Bool). b || eqb (has 0 j) (has x j)) (eq-eqb (has (everyone most_inputs) j) 1 (has_all most_inputs j (omega arith))))

pub own-state : (h : Head) → h.inputs ≤ most_inputs → (u : ℕ) (p : Pattern) (x s : ℕ) → fires h (state_row u p) x s ≡ eqb u s
unfolding fires
own-state h few u p x s = ap (λ (b : Bool). b && eqb (has (only u) s) 1) (every-dash h.inputs few x) ∙ go (ℕ_discrete s u)
  where
    go : Dec (s ≡ u) → eqb (has (only u) s) 1 ≡ eqb u s
    go (yes e) = eq-eqb (has (only u) s) 1 (ap (has (only u)) e ∙ has-only u) ∙ sym (eq-eqb u s (sym e))
    go (no o) = ne_eqb (has (only u) s) 1 (λ q. omega (arith, has_other u s o)) ∙ sym (ne_eqb u s (λ q. o (sym q)))

no_digit : (b : Bool) → digit b ≡ 0 → b ≡ false
no_digit true e = absurd (omega arith)
no_digit false e = refl

-- ---- what is said of the rows that fire, where the rows of the listing say nothing of it, is what the state's own row says

module _ (h : Head) (few : h.inputs ≤ most_inputs) (x s : ℕ) (p : Row → Bool) where
  abbrev fired : List Row → Bool
  fired rs = some (λ r. fires h r x s && p r) rs

  none-later : (a : ℕ) (ps : List Pattern) → s < a → fired (state_rows a ps) ≡ false
  unfolding some state_rows
  none-later a [] l = refl
  none-later a (q ∷ ps) l = ap₂ ◌||◌ (ap (λ (b : Bool). b && p (state_row a q)) (own-state h few a q x s ∙ ne_eqb a s (λ e. omega arith))) (none-later (a + 1) ps (omega arith))

  own-fired : (a : ℕ) (ps : List Pattern) → a ≤ s → s < a + length ps → fired (state_rows a ps) ≡ p (state_row s (get_or ps (s - a) no_pattern))
  unfolding some state_rows
  own-fired a [] l k = absurd (omega arith)
  own-fired a (q ∷ ps) l k = go (ℕ_discrete a s) (own-fired (a + 1) ps)
    where
      go : Dec (a ≡ s) → (a + 1 ≤ s → s < a + 1 + length ps → fired (state_rows (a + 1) ps) ≡ p (state_row s (get_or ps (s - (a + 1)) no_pattern)))
          → ((fires h (state_row a q) x s && p (state_row a q)) || fired (state_rows (a + 1) ps)) ≡ p (state_row s (get_or (q ∷ ps) (s - a) no_pattern))
      go (yes e) later =
          let z : s - a ≡ 0 = omega arith in
          ap₂ (λ (b c : Bool). (b && p (state_row a q)) || c) (own-state h few a q x s ∙ eq-eqb a s e) (none-later (a + 1) ps (omega arith))
          ∙ or-false (p (state_row a q))
          ∙ ap₂ (λ (u i : ℕ). p (state_row u (get_or (q ∷ ps) i no_pattern))) e (sym z)
      go (no o) later =
          let z : s - a ≡ suc (s - (a + 1)) = omega arith in
          ap (λ (b : Bool). (b && p (state_row a q)) || fired (state_rows (a + 1) ps)) (own-state h few a q x s ∙ ne_eqb a s o)
          ∙ later (omega arith) (omega arith)
          ∙ ap (λ (i : ℕ). p (state_row s (get_or (q ∷ ps) i no_pattern))) (sym z)

module _ (t : Listing) (sound : Sound t) (moore : t.head.moore ≡ true) where
  -- what the `OU` line of a state says
  abbrev outputsOf : ℕ → Pattern
  outputsOf s = get_or t.said s no_pattern

  said-long : length (said_of t) ≡ t.head.states
  said-long = length-take-le t.head.states t.said (omega (arith, sound.said, sound.head.few-states))

  added-are : added_rows t ≡ state_rows 0 (said_of t)
  added-are = ap (λ (b : Bool). cond b (state_rows 0 (said_of t)) []) moore

  pub says-own : (x s : ℕ) → s < t.head.states → (p : Row → Bool) → ((k : ℕ) → k < length (rows_of t) → p (get_or (rows_of t) k no_row) ≡ false)
      → some (λ r. fires t.head r x s && p r) (all_rows t) ≡ p (state_row s (outputsOf s))
  unfolding all_rows
  says-own x s l p none =
      some-append (λ r. fires t.head r x s && p r) (rows_of t) (added_rows t)
      ∙ ap₂ ◌||◌ (none-some no_row _ (rows_of t) (λ k q. ap (λ (b : Bool). fires t.head (get_or (rows_of t) k no_row) x s && b) (none k q) ∙ and-false (fires t.head (get_or (rows_of t) k no_row) x s)))
      (ap (λ (rs : List Row). some (λ r. fires t.head r x s && p r) rs) added-are
      ∙ own-fired t.head sound.head.few-inputs x s p 0 (said_of t) (omega arith) (omega (arith, said-long))
      ∙ ap (λ (q : Pattern). p (state_row s q)) (ap (λ (i : ℕ). get_or (said_of t) i no_pattern) (let z : s - 0 ≡ s = omega arith in z) ∙ get_or-take t.head.states t.said s no_pattern l))

  -- the rows of the listing say nothing of the outputs
  plain : (k : ℕ) → k < length (rows_of t) → (get_or (rows_of t) k no_row).outputs ≡ no_pattern
  plain k l =
      let h : k < t.rows = omega (arith, rows-length t sound) in
      ap (λ (r : Row). r.outputs) (get_or-take t.rows t.table k no_row h) ∙ sound.plain moore k h

  no_one : (j k : ℕ) → k < length (rows_of t) → says_one j (get_or (rows_of t) k no_row) ≡ false
  no_one j k l = ap (λ (p : Pattern). eqb (has p.ones j) 1) (plain k l) ∙ ap (λ (d : ℕ). eqb d 1) (has-none j)

  no-dash : (j k : ℕ) → k < length (rows_of t) → says_dash j (get_or (rows_of t) k no_row) ≡ false
  no-dash j k l = ap (λ (p : Pattern). eqb (has p.dashes j) 1) (plain k l) ∙ ap (λ (d : ℕ). eqb d 1) (has-none j)

  -- ---- what the listing means

  pub moore-means : (x s : ℕ) → s < t.head.states → (j : ℕ) → output_means t x s j ≡ said_means (outputsOf s) j
  unfolding output_means said_means
  moore-means x s l j = ap₂ (λ (o d : Bool). cond o on (cond d free off)) (says-own x s l (says_one j) (no_one j)) (says-own x s l (says_dash j) (no-dash j))

  -- ---- what the lines of the cover say

  -- the row of a state shares with no other that says 1
  shares-none : (s j : ℕ) → says_one j (state_row s (outputsOf s)) ≡ false → shares_one (all_rows t) (state_row s (outputsOf s)) j ≡ false
  unfolding shares_one meets
  shares-none s j e =
      none-some no_row _ (all_rows t)
      (each_row t (λ (r : Row). (meets (state_row s (outputsOf s)) r && says_one j r) ≡ false)
      (λ k l. ap (λ (b : Bool). meets (state_row s (outputsOf s)) (get_or (rows_of t) k no_row) && b) (no_one j k l) ∙ and-false (meets (state_row s (outputsOf s)) (get_or (rows_of t) k no_row)))
      (λ u l. other u l (ℕ_discrete u s)))
    where
      other : (u : ℕ) → u < length (said_of t) → Dec (u ≡ s) → (meets (state_row s (outputsOf s)) (state_row u (get_or (said_of t) u no_pattern)) && says_one j (state_row u (get_or (said_of t) u no_pattern))) ≡ false
      other u l (yes q) =
          let same : get_or (said_of t) u no_pattern ≡ outputsOf s = get_or-take t.head.states t.said u no_pattern (omega (arith, said-long)) ∙ ap outputsOf q in
          ap (λ (b : Bool). meets (state_row s (outputsOf s)) (state_row u (get_or (said_of t) u no_pattern)) && b) (ap (λ (p : Pattern). eqb (has p.ones j) 1) same ∙ e)
          ∙ and-false (meets (state_row s (outputsOf s)) (state_row u (get_or (said_of t) u no_pattern)))
      other u l (no o) =
          let apart : not (eqb (bit_and (only s) (only u)) 0) ≡ false = no_digit _ (part-has (only s) u ∙ has_other s u o) in
          ap (λ (b : Bool). share_input (state_row s (outputsOf s)) (state_row u (get_or (said_of t) u no_pattern)) && b && says_one j (state_row u (get_or (said_of t) u no_pattern))) apart
          ∙ ap (λ (b : Bool). b && says_one j (state_row u (get_or (said_of t) u no_pattern))) (and-false (share_input (state_row s (outputsOf s)) (state_row u (get_or (said_of t) u no_pattern))))

  -- so its dashes stay
  own-dash : (s j : ℕ) → eqb (output_at (all_rows t) (state_row s (outputsOf s)) j) dash ≡ says_dash j (state_row s (outputsOf s))
  own-dash s j = dash-said (all_rows t) r j ∙ go (says_one j r) (says_dash j r) refl refl
    where
      r : Row
      r = state_row s (outputsOf s)

      go : (o d : Bool) → says_one j r ≡ o → says_dash j r ≡ d → (not o && (d && not (shares_one (all_rows t) r j))) ≡ d
      go true true e f =
          let both = has-and (outputsOf s).ones (outputsOf s).dashes j in
          absurd (omega (arith, both, eqb-true (has (outputsOf s).ones j) 1 e, eqb-true (has (outputsOf s).dashes j) 1 f, ap (λ (m : ℕ). has m j) (sound.state s).apart, has-none j))
      go true false e f = refl
      go false true e f = ap not (shares-none s j e)
      go false false e f = refl

  -- at every input vector the firing lines say 1 of an output exactly where the `OU` line of the state does, and dash exactly where it does
  module _ (bits : List ℕ) (apart : Apart (all_rows t)) (x s : ℕ) (l : s < t.head.states)
      (as_rows : (k : ℕ) → k < length (all_rows t) → line_fires (cover_row t.head bits (all_rows t) (get_or (all_rows t) k no_row)) (vector t.head.inputs x ++ code_of bits s) ≡ fires t.head (get_or (all_rows t) k no_row) x s) where
    pub moore-ones : (j : ℕ) → j < t.head.outputs → cover_says (cover_bodies t bits) (vector t.head.inputs x ++ code_of bits s) (length bits + j) one ≡ says_one j (state_row s (outputsOf s))
    moore-ones j k = output-ones t bits x s sound apart as_rows j k ∙ says-own x s l (says_one j) (no_one j)

    pub moore-dashes : (j : ℕ) → j < t.head.outputs → cover_says (cover_bodies t bits) (vector t.head.inputs x ++ code_of bits s) (length bits + j) dash ≡ says_dash j (state_row s (outputsOf s))
    moore-dashes j k =
        output-said t bits x s sound apart as_rows j k dash refl
        ∙ says-own x s l (λ r. eqb (output_at (all_rows t) r j) dash)
        (λ i q. dash-said (all_rows t) (get_or (rows_of t) i no_row) j
        ∙ ap₂ (λ (o d : Bool). not o && (d && not (shares_one (all_rows t) (get_or (rows_of t) i no_row) j))) (no_one j i q) (no-dash j i q))
        ∙ own-dash s j
