-- The rows that fire whatever the input is: what they say, and then what the others say that fire at an input, is what all say that fire there.
use mathlib.Core.Path.{◌≡◌, refl, sym, ap, ap₂, ◌∙◌}
use mathlib.Core.Bool.{Bool, true, false, ◌&&◌, ◌||◌, and-true, false≢true}
use mathlib.Core.List.{List}
use Prim.Native.Nat.{ℕ, zero, suc, ◌+◌, ◌*◌, ◌^◌, ◌≤◌, ◌<◌, max}
use native.Mathlib.Omega.{arith}
use lib.Dec.{eqb}
use lib.ListN.{get_or}
use Rattle.sets.specs.Sets.{has}
use Rattle.sets.proofs.Members.{has-lt, same_digits}
use Rattle.rules.specs.Text.{digit}
use Rattle.rules.specs.Check.{lowest_from}
use Rattle.judge_search.specs.Rows.{any_from, lets, stands, lets_from, row_fires, words_of, columns, present}
use Rattle.judge_search.specs.Search.{unsaid, differs, gathered_words, gathered_from, fails_with, fails_over, kept_words, sure_words, turned_words, searched, fails_at}
use Rattle.judge_search.specs.declared.Said.{Said}
use Rattle.judge_search.proofs.Gathered.{any-either, part, saysIt, joined, gathered-words}
use Rattle.judge_search.proofs.Plain.{turn, rows_same, turned_rows, kept-rows, lowest-same, plain}

-- ---- what is said, known by its digits

same-said : (s t : Said) → ((f j : ℕ) → f < 4 → has (part f s) j ≡ has (part f t) j) → s ≡ t
same-said s t h =
    let a : s.a ≡ t.a = same_digits s.a t.a (λ j. h 0 j (omega arith)) in
    let b : s.b ≡ t.b = same_digits s.b t.b (λ j. h 1 j (omega arith)) in
    let c : s.c ≡ t.c = same_digits s.c t.c (λ j. h 2 j (omega arith)) in
    let d : s.d ≡ t.d = same_digits s.d t.d (λ j. h 3 j (omega arith)) in
    ap₂ (λ (x y : ℕ). record { a = x; b = y; c = s.c; d = s.d }) a b ∙ ap₂ (λ (x y : ℕ). record { a = t.a; b = t.b; c = x; d = y }) c d

-- ---- the rows of two sets

module _ (says : List ℕ) (p q all : ℕ → Bool) (either : (r : ℕ) → (p r || q r) ≡ all r) where
  -- what the rows of the one say, and then those of the other
  pub together : (a k : ℕ) (s : Said) → a + k ≤ 7 → gathered_words says (words_of q) a k (gathered_words says (words_of p) a k s) ≡ gathered_words says (words_of all) a k s
  together a k s few = same-said _ _ by
    where
      by : (f j : ℕ) → f < 4 → has (part f (gathered_words says (words_of q) a k (gathered_words says (words_of p) a k s))) j ≡ has (part f (gathered_words says (words_of all) a k s)) j
      by f j h =
          gathered-words says f j h q a k (gathered_words says (words_of p) a k s) few
          ∙ ap (λ (m : ℕ). max m (digit (any_from (saysIt says f j h q) (a * 64) (k * 64)))) (gathered-words says f j h p a k s few)
          ∙ joined (has (part f s) j) (any_from (saysIt says f j h p) (a * 64) (k * 64)) (any_from (saysIt says f j h q) (a * 64) (k * 64))
          ∙ ap (λ (b : Bool). max (has (part f s) j) (digit b)) (any-either (saysIt says f j h p) (saysIt says f j h q) (saysIt says f j h all) said (a * 64) (k * 64))
          ∙ sym (gathered-words says f j h all a k s few)
        where
          said : (r : ℕ) → (saysIt says f j h p r || saysIt says f j h q r) ≡ saysIt says f j h all r
          said r = go (p r) (q r) (eqb (has (get_or says (r * 4 + f) 0) j) 1) ∙ ap (λ (b : Bool). b && eqb (has (get_or says (r * 4 + f) 0) j) 1) (either r)
            where
              go : (x y e : Bool) → ((x && e) || (y && e)) ≡ ((x || y) && e)
              go true true true = refl
              go true true false = refl
              go true false true = refl
              go true false false = refl
              go false y e = refl

  -- a place that starts from what the rows of the one say
  fails-over : {l c : Said} → l ≡ gathered_from says (words_of p) 0 3 → c ≡ gathered_from says (words_of p) 3 7 → fails_over l c says (words_of q) ≡ fails_with says (words_of all)
  unfolding fails_over fails_with gathered_from
  fails-over e f =
      ap₂ (λ (l c : Said). differs (gathered_words says (words_of q) 0 3 l) (gathered_words says (words_of q) 3 4 c)) e f
      ∙ ap₂ differs (together 0 3 unsaid (omega arith)) (together 3 4 unsaid (omega arith))

-- ---- rows that let both digits stand

module _ (fires : List ℕ) where
  -- at the inputs from j on, k of them
  unfoldable always : ℕ → ℕ → ℕ → Bool
  always j zero r = true
  always j (suc k) r = (lets fires j 0 r && lets fires j 1 r) && always (suc j) k r

  always-lets : (k j v r : ℕ) → always j k r ≡ true → lets_from fires j k v r ≡ true
  unfolding always lets_from
  always-lets zero j v r e = refl
  always-lets (suc k) j v r e = go (lets fires j 0 r) refl (lets fires j 1 r) refl (always (suc j) k r) refl e (has v k) refl (has-lt v k) (always-lets k (suc j) v r)
    where
      go : (a : Bool) → lets fires j 0 r ≡ a → (b : Bool) → lets fires j 1 r ≡ b → (c : Bool) → always (suc j) k r ≡ c → ((a && b) && c) ≡ true
          → (d : ℕ) → has v k ≡ d → d < 2 → (always (suc j) k r ≡ true → lets_from fires (suc j) k v r ≡ true) → (lets fires j d r && lets_from fires (suc j) k v r) ≡ true
      go true ea true eb true ec e zero ed h later = rw (ea, later ec)
      go true ea true eb true ec e (suc zero) ed h later = rw (eb, later ec)
      go true ea true eb true ec e (suc (suc d)) ed h later = absurd (omega arith)
      go true ea true eb false ec e d ed h later = absurd (false≢true e)
      go true ea false eb c ec e d ed h later = absurd (false≢true e)
      go false ea b eb c ec e d ed h later = absurd (false≢true e)

  sure-rows : (k j : ℕ) (p : ℕ → Bool) → j + k ≤ 16 → sure_words (words_of p) (columns fires) (j * 14) k ≡ words_of (λ r. p r && always j k r)
  unfolding sure_words always
  sure-rows zero j p few = sym (rows_same _ p (λ r. and-true (p r)))
  sure-rows (suc k) j p few =
      let a : j * 14 ≡ j * 14 + 0 * 7 = omega arith in
      let b : j * 14 + 7 ≡ j * 14 + 1 * 7 = omega arith in
      let n : j * 14 + 14 ≡ suc j * 14 = omega arith in
      ap (λ (rows : List ℕ). sure_words (kept_words rows (columns fires) (j * 14 + 7)) (columns fires) (j * 14 + 14) k) (ap (kept_words (words_of p) (columns fires)) a ∙ kept-rows fires p j 0 (omega arith) (omega arith))
      ∙ ap₂ (λ (rows : List ℕ) (at : ℕ). sure_words rows (columns fires) at k) (ap (kept_words (words_of (λ r. p r && lets fires j 0 r)) (columns fires)) b ∙ kept-rows fires (λ r. p r && lets fires j 0 r) j 1 (omega arith) (omega arith)) n
      ∙ sure-rows k (suc j) (λ r. (p r && lets fires j 0 r) && lets fires j 1 r) (omega arith)
      ∙ rows_same _ _ (λ r. grouped (p r) (lets fires j 0 r) (lets fires j 1 r) (always (suc j) k r))
    where
      grouped : (w x y z : Bool) → (((w && x) && y) && z) ≡ (w && ((x && y) && z))
      grouped true x y z = refl
      grouped false x y z = refl

  -- ---- in a state, of all inputs

  module _ (says : List ℕ) (i s : ℕ) (few : i ≤ 16) where
    abbrev sure : ℕ → Bool
    sure r = stands fires s r && always 0 i r

    abbrev others : ℕ → Bool
    others r = turn (stands fires s r) (sure r)

    -- a row that fires is one of them, or one of the others that fire
    either : (v r : ℕ) → (sure r || (others r && lets_from fires 0 i v r)) ≡ row_fires fires i s v r
    unfolding row_fires
    either v r = go (stands fires s r) (always 0 i r) refl (lets_from fires 0 i v r) refl
      where
        go : (b c : Bool) → always 0 i r ≡ c → (d : Bool) → lets_from fires 0 i v r ≡ d → ((b && c) || (turn b (b && c) && d)) ≡ (b && d)
        go true true ec d ed = sym (sym ed ∙ always-lets i 0 v r ec)
        go true false ec d ed = refl
        go false c ec d ed = refl

    module _ {cols rows known rest : List ℕ} {l c : Said} (cols-are : cols ≡ columns fires) (rows_are : rows ≡ present fires s) (known-are : known ≡ sure_words rows cols 0 i) (rest-are : rest ≡ turned_words rows known)
        (listing : l ≡ gathered_from says known 0 3) (cover : c ≡ gathered_from says known 3 7) where
      known-rows : known ≡ words_of sure
      unfolding present
      known-rows = known-are ∙ ap₂ (λ (r t : List ℕ). sure_words r t 0 i) rows_are cols-are ∙ sure-rows i 0 (stands fires s) (omega arith)

      rest-rows : rest ≡ words_of others
      unfolding present
      rest-rows = rest-are ∙ ap₂ turned_words rows_are known-rows ∙ turned_rows (stands fires s) sure

      pub finds : searched l c says cols 0 i 0 rest ≡ lowest_from (fails_at fires says i s) 0 (2 ^ i)
      unfolding fails_at
      finds =
          let b : 0 * 2 ^ i ≡ 0 = omega arith in
          ap₂ (λ (t r : List ℕ). searched l c says t 0 i 0 r) cols-are rest-rows
          ∙ plain l c fires says i 0 0 others (omega arith)
          ∙ ap (λ (u : ℕ). lowest_from (λ v. fails_over l c says (words_of (λ r. others r && lets_from fires 0 i v r))) u (2 ^ i)) b
          ∙ lowest-same _ (fails_at fires says i s) 0 (2 ^ i)
          (λ v a h. fails-over says sure (λ r. others r && lets_from fires 0 i v r) (row_fires fires i s v) (either v) (listing ∙ ap (λ (t : List ℕ). gathered_from says t 0 3) known-rows) (cover ∙ ap (λ (t : List ℕ). gathered_from says t 3 7) known-rows))
