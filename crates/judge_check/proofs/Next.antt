-- The next code: the states that the rows name that fire are what the listing means, and the code that they say is the code of that state.
use mathlib.Core.Path.{◌≡◌, refl, sym, ap, ◌∙◌}
use mathlib.Core.Logic.{◌⊎◌, inl, inr}
use mathlib.Core.Bool.{Bool, false, ◌&&◌, not, cond}
use mathlib.Core.List.{List}
use Prim.Native.Nat.{ℕ, zero, suc, ◌<◌}
use native.Mathlib.Decide.{ℕ_discrete}
use native.Mathlib.Omega.{arith}
use lib.Bits.{bit_and}
use lib.Count.{count_trailing_zeros}
use lib.Dec.{eqb}
use lib.ListN.{length, get_or, take, length-take}
use lib.Pow.{pow-lt, pow_pos}
use lib.Seq.{get_or-take}
use borrow.Author.Tests.{eq-eqb, ne_eqb}
use Rattle.sets.specs.Sets.{has, only}
use Rattle.sets.proofs.Members.{has-lt, has-none, has_other, same_digits}
use Rattle.sets.proofs.LowestMember.{lowest-at}
use Rattle.sets.proofs.SizeMembers.{at_most_one}
use Rattle.rules.specs.Text.{digit}
use Rattle.rules.specs.Least.{turned}
use Rattle.rules.specs.Listing.{no_row, all_rows, some}
use Rattle.rules.specs.Cover.{fires}
use Rattle.rules.specs.Meaning.{next_means}
use Rattle.rules.specs.CheckTexts.{bit_in}
use Rattle.rules.specs.declared.Listing.{Listing}
use Rattle.rules.proofs.Fires.{part-has}
use Rattle.rules.proofs.Sound.{Sound}
use Rattle.rules.proofs.AllRows.{all_fit, Apart}
use Rattle.rules.proofs.Agreeing.{namer, next-said}
use Rattle.judge_search.specs.Rows.{row_fires, words_of}
use Rattle.judge_search.specs.Search.{gathered_from}
use Rattle.judge_search.proofs.Judged.{listed, named-is}
use Rattle.judge_rows.specs.Rows.{code_at, row_saying}
use Rattle.judge_rows.proofs.Listed.{Stand, listed-some}
use Rattle.judge_check.proofs.Made.{is_one, bit_at}

-- a number without a digit is none
no-digits : (m : ℕ) → ((j : ℕ) → has m j ≡ 0) → m ≡ 0
no-digits m h = same_digits m 0 (λ j. h j ∙ sym (has-none j))

-- the code of the state that a set of one has
code-only : (codes : List ℕ) (y : ℕ) → y < 64 → code_at codes (only y) ≡ get_or codes y 0
unfolding code_at
code-only codes y h =
    ap (λ (b : Bool). cond b 0 (get_or codes (count_trailing_zeros 64 (only y)) 0)) (ne_eqb (only y) 0 some-state)
    ∙ ap (λ (k : ℕ). get_or codes k 0) (at (ℕ_discrete (count_trailing_zeros 64 (only y)) y))
  where
    some-state : only y ≡ 0 → ⊥
    some-state e = omega (arith, pow_pos y)

    low : (count_trailing_zeros 64 (only y) < 64) × (has (only y) (count_trailing_zeros 64 (only y)) ≡ 1)
    low = lowest-at (only y) (count_trailing_zeros 64 (only y)) (pow-lt h) some-state refl

    at : Dec (count_trailing_zeros 64 (only y) ≡ y) → count_trailing_zeros 64 (only y) ≡ y
    at (yes e) = e
    at (no o) = absurd (omega (arith, low.1, has_other y (count_trailing_zeros 64 (only y)) o))

module _ (t : Listing) (codes table says : List ℕ) (stand : Stand (all_rows t) codes table says) (sound : Sound t) (apart : Apart (all_rows t)) (s v : ℕ) where
  abbrev x : ℕ
  x = turned t.head.inputs v

  abbrev u : ℕ
  u = next_means t x s

  abbrev firing : ℕ → Bool
  firing = row_fires table t.head.inputs s v

  said-next : (p : ℕ → Bool) → p 0 ≡ false → some (λ r. fires t.head r x s && p r.next) (all_rows t) ≡ p u
  unfolding next_means
  said-next p e = next-said t.head (all_rows t) sound.head.few-inputs (all_fit t sound) apart x s p e

  -- the states that are named
  listed_next : (j : ℕ) → listed says firing 0 j ≡ eqb (has u j) 1
  unfolding row_saying
  listed_next j = listed-some t.head (all_rows t) codes table says stand s v 0 j (omega arith) ∙ said-next (λ n. eqb (has n j) 1) (ap (λ (d : ℕ). eqb d 1) (has-none j))

  abbrev a : ℕ
  a = (gathered_from says (words_of firing) 0 3).a

  pub none_named : eqb a 0 ≡ eqb u 0
  none_named = go (ℕ_discrete u 0)
    where
      digits : (j : ℕ) → has a j ≡ digit (eqb (has u j) 1)
      digits j = named-is says firing j ∙ ap digit (listed_next j)

      go : Dec (u ≡ 0) → eqb a 0 ≡ eqb u 0
      go (yes e) = eq-eqb a 0 (no-digits a (λ j. digits j ∙ ap (λ (n : ℕ). digit (eqb (has n j) 1)) e ∙ ap (λ (d : ℕ). digit (eqb d 1)) (has-none j))) ∙ sym (eq-eqb u 0 e)
      go (no o) = ne_eqb a 0 (λ e. o (no-digits u (λ j. no_digit (has u j) (is-small j) (sym (digits j) ∙ ap (λ (n : ℕ). has n j) e ∙ has-none j)))) ∙ sym (ne_eqb u 0 o)
        where
          is-small : (j : ℕ) → has u j < 2
          is-small j = has-lt u j

          no_digit : (d : ℕ) → d < 2 → digit (eqb d 1) ≡ 0 → d ≡ 0
          no_digit zero h e = refl
          no_digit (suc zero) h e = absurd (omega arith)
          no_digit (suc (suc d)) h e = absurd (omega arith)

  -- the state named is one of the listing's
  named-one : (u ≡ 0 → ⊥) → (y : ℕ) × (y < t.head.states) × (u ≡ only y)
  unfolding next_means
  named-one o =
      let m = namer t.head x s (all_rows t) o in
      let fit = all_fit t sound m.0 m.1 in
      go m.3 (at_most_one t.head.states (get_or (all_rows t) m.0 no_row).next fit.next fit.one-next)
    where
      go : {next : ℕ} → next ≡ u → (next ≡ 0) ⊎ ((y : ℕ) × (y < t.head.states) × (next ≡ only y)) → (y : ℕ) × (y < t.head.states) × (u ≡ only y)
      go q (inl e) = absurd (o (sym q ∙ e))
      go q (inr e) = (e.0, e.1, sym q ∙ e.2)

  -- its code is said
  pub listed-code : length codes ≡ 64 → (u ≡ 0 → ⊥) → (k : ℕ) → listed says firing 1 k ≡ not (eqb (bit_and (bit_in k (take t.head.states codes)) u) 0)
  unfolding row_saying code_at
  listed-code long o k =
      listed-some t.head (all_rows t) codes table says stand s v 1 k (omega arith)
      ∙ said-next (λ n. eqb (has (code_at codes n) k) 1) (ap (λ (d : ℕ). eqb d 1) (has-none k))
      ∙ ap (λ (n : ℕ). eqb (has (code_at codes n) k) 1) q.2
      ∙ ap (λ (n : ℕ). eqb (has n k) 1) (code-only codes y (omega (arith, q.1, sound.head.few-states)))
      ∙ ap (λ (d : ℕ). eqb d 1) (ap (λ (n : ℕ). has n k) (sym (get_or-take t.head.states codes y 0 q.1)) ∙ sym (bit_at k cs y (omega (arith, q.1, length-take t.head.states codes, sound.head.few-states))) ∙ sym (part-has b y))
      ∙ is_one (not (eqb (bit_and b (only y)) 0))
      ∙ ap (λ (n : ℕ). not (eqb (bit_and b n) 0)) (sym q.2)
    where
      q : (y : ℕ) × (y < t.head.states) × (u ≡ only y)
      q = named-one o

      y : ℕ
      y = q.0

      cs : List ℕ
      cs = take t.head.states codes

      b : ℕ
      b = bit_in k cs

  -- a bit that no code has is not said
  pub listed-no-code : (k : ℕ) → ((y : ℕ) → y < t.head.states → has (get_or codes y 0) k ≡ 0) → listed says firing 1 k ≡ false
  unfolding row_saying code_at
  listed-no-code k none =
      listed-some t.head (all_rows t) codes table says stand s v 1 k (omega arith)
      ∙ said-next (λ n. eqb (has (code_at codes n) k) 1) (ap (λ (d : ℕ). eqb d 1) (has-none k))
      ∙ go (ℕ_discrete u 0)
    where
      go : Dec (u ≡ 0) → eqb (has (code_at codes u) k) 1 ≡ false
      go (yes e) = ap (λ (n : ℕ). eqb (has (code_at codes n) k) 1) e ∙ ap (λ (d : ℕ). eqb d 1) (has-none k)
      go (no o) =
          let q = named-one o in
          ap (λ (n : ℕ). eqb (has (code_at codes n) k) 1) q.2
          ∙ ap (λ (n : ℕ). eqb (has n k) 1) (code-only codes q.0 (omega (arith, q.1, sound.head.few-states)))
          ∙ ap (λ (d : ℕ). eqb d 1) (none q.0 q.1)
