-- Where a listing and a cover are alike row by row, they say the same at every state and every input.
use Rattle.std.specs.Prelude.{None}
use mathlib.Core.Path.{◌≡◌, refl, sym, ap, ap₂, ◌∙◌}
use mathlib.Core.Bool.{Bool, true, false, ◌&&◌, ◌||◌, not}
use mathlib.Core.List.{List}
use Prim.Native.Nat.{ℕ, zero, suc, ◌+◌, ◌*◌, ◌-◌, ◌≤◌, ◌<◌, min}
use native.Mathlib.Nat.{zero-add}
use native.Mathlib.Decide.{ℕ_discrete}
use native.Mathlib.Omega.{arith}
use lib.Bits.{bit_and}
use lib.Dec.{eqb}
use lib.ListN.{get_or}
use borrow.Author.Tests.{eqb-true, eq-eqb, ne_eqb, not-true, not-false}
use Rattle.sets.specs.Sets.{has}
use Rattle.sets.proofs.Every.{and_first, and_second, and_both, every-at, at_every}
use Rattle.sets.proofs.Members.{has-lt, has-and, has-none}
use Rattle.rules.specs.Check.{fault_from}
use Rattle.rules.specs.Least.{turned}
use Rattle.rules.proofs.Checking.{states-nowhere}
use Rattle.judge_search.specs.Rows.{lets, stands, lets_from, row_fires, words_of, any_from}
use Rattle.judge_search.specs.Search.{gathered_from, fails_at}
use Rattle.judge_search.specs.Backing.{within, backed_by, of_listing, of_cover, no_sayings, backed, unbacked, any_unbacked, share_inputs, clash, clashes, any_clash, row_by_row}
use Rattle.judge_search.specs.declared.backing.Sayings.{Sayings}
use Rattle.judge_search.proofs.Gathered.{any_none}
use Rattle.judge_search.proofs.Judged.{agrees_by, meant, listed, covered, fails-is}
use Rattle.judge_search.proofs.RowFires.{lets-each}

-- ---- truth values

both_ways : {b : Bool} → b ≡ true → b ≡ false → ⊥
both_ways e f = let z : ◌≡◌ {A = ℕ} 0 1 = cc in omega arith

unless : (b : Bool) → (b ≡ true → ⊥) → b ≡ false
unless true f = absurd (f refl)
unless false f = refl

-- ---- sets

pub within_has : (a b j : ℕ) → within a b ≡ true → has a j ≡ 1 → has b j ≡ 1
unfolding within
within_has a b j e h =
    let same : has (bit_and a b) j ≡ has a j = ap (λ (m : ℕ). has m j) (eqb-true (bit_and a b) a e) in
    let least : has (bit_and a b) j ≡ min (has a j) (has b j) = has-and a b j in
    omega (arith, has-lt b j)

-- a set that has a member is not empty
some-member : (a j : ℕ) → has a j ≡ 1 → eqb a 0 ≡ false
some-member a j h = ne_eqb a 0 (λ z. let none : has a j ≡ 0 = ap (λ (m : ℕ). has m j) z ∙ has-none j in omega arith)

-- nor are two that have it both
shared-member : (a b j : ℕ) → has a j ≡ 1 → has b j ≡ 1 → eqb (bit_and a b) 0 ≡ false
shared-member a b j h k = some-member (bit_and a b) j (let least : has (bit_and a b) j ≡ min (has a j) (has b j) = has-and a b j in omega arith)

-- ---- some rows

pub any_at : (p : ℕ → Bool) (a k : ℕ) → any_from p a k ≡ false → (r : ℕ) → a ≤ r → r < a + k → p r ≡ false
unfolding any_from
any_at p a zero e r l h = absurd (omega arith)
any_at p a (suc k) e r l h = go (p a) refl e (ℕ_discrete a r) (λ f o. any_at p (suc a) k f r (omega (arith, o)) (omega arith))
  where
    go : (b : Bool) → p a ≡ b → (b || any_from p (suc a) k) ≡ false → Dec (a ≡ r) → (any_from p (suc a) k ≡ false → (a ≡ r → ⊥) → p r ≡ false) → p r ≡ false
    go true q f d later = absurd (both_ways refl f)
    go false q f (yes same) later = ap p (sym same) ∙ q
    go false q f (no o) later = later f o

-- ---- one state and one input

module _ (fires says : List ℕ) (i s v : ℕ) where
  abbrev firing : ℕ → Bool
  firing = row_fires fires i s v

  -- a row that fires says it, in its number f at the digit j
  abbrev saying : ℕ → ℕ → ℕ → Bool
  saying f j r = firing r && eqb (has (get_or says (r * 4 + f) 0) j) 1

  stands-there : (r : ℕ) → firing r ≡ true → has (get_or fires (r * 3 + 2) 0) s ≡ 1
  unfolding row_fires stands
  stands-there r e = eqb-true _ 1 (and_first (stands fires s r) (lets_from fires 0 i v r) e)

  lets-them : (r : ℕ) → firing r ≡ true → lets_from fires 0 i v r ≡ true
  unfolding row_fires
  lets-them r e = and_second (stands fires s r) (lets_from fires 0 i v r) e

  -- rows with the same inputs let the same stand
  lets-alike : (x y : ℕ) → get_or fires (x * 3) 0 ≡ get_or fires (y * 3) 0 → get_or fires (x * 3 + 1) 0 ≡ get_or fires (y * 3 + 1) 0 → (k j : ℕ) → lets_from fires j k v x ≡ lets_from fires j k v y
  unfolding lets_from lets
  lets-alike x y ones dashes zero j = refl
  lets-alike x y ones dashes (suc k) j =
      ap₂ ◌&&◌ (ap₂ (λ (d o : ℕ). eqb (has d j) 1 || eqb (has o j) (has v k)) dashes ones) (lets-alike x y ones dashes k (suc j))

  -- ---- rows that are backed

  fires-too : (f g x y j : ℕ) → backed_by fires says f g x y ≡ true → saying f j x ≡ true → saying g j y ≡ true
  unfolding backed_by row_fires stands
  fires-too f g x y j e h =
      let fired = and_first (firing x) (eqb (has (get_or says (x * 4 + f) 0) j) 1) h in
      let says-it = eqb-true _ 1 (and_second (firing x) (eqb (has (get_or says (x * 4 + f) 0) j) 1) h) in
      let later = and_second (eqb (get_or fires (x * 3) 0) (get_or fires (y * 3) 0)) _ e in
      let last = and_second (eqb (get_or fires (x * 3 + 1) 0) (get_or fires (y * 3 + 1) 0)) _ later in
      let ones = eqb-true _ _ (and_first (eqb (get_or fires (x * 3) 0) (get_or fires (y * 3) 0)) _ e) in
      let dashes = eqb-true _ _ (and_first (eqb (get_or fires (x * 3 + 1) 0) (get_or fires (y * 3 + 1) 0)) _ later) in
      let states = and_first (within (get_or fires (x * 3 + 2) 0) (get_or fires (y * 3 + 2) 0)) _ last in
      let words = and_second (within (get_or fires (x * 3 + 2) 0) (get_or fires (y * 3 + 2) 0)) _ last in
      and_both (firing y) (eqb (has (get_or says (y * 4 + g) 0) j) 1)
      (and_both (stands fires s y) (lets_from fires 0 i v y)
      (eq-eqb _ 1 (within_has (get_or fires (x * 3 + 2) 0) (get_or fires (y * 3 + 2) 0) s states (stands-there x fired)))
      (sym (lets-alike x y ones dashes i 0) ∙ lets-them x fired))
      (eq-eqb _ 1 (within_has (get_or says (x * 4 + f) 0) (get_or says (y * 4 + g) 0) j words says-it))

  -- a row says nothing that none of those says that back it
  carried : (f : ℕ) (by : Sayings) (x j : ℕ) → unbacked fires says f by x ≡ false → any_from (saying by.number j) by.from (by.to - by.from) ≡ false → saying f j x ≡ false
  unfolding unbacked backed
  carried f by x j e none = unless (saying f j x) (λ h. both_ways (is-backed h) (is-not h))
    where
      is-backed : saying f j x ≡ true → backed fires says f by x ≡ true
      is-backed h =
          let fired = and_first (firing x) (eqb (has (get_or says (x * 4 + f) 0) j) 1) h in
          let says-it = eqb-true _ 1 (and_second (firing x) (eqb (has (get_or says (x * 4 + f) 0) j) 1) h) in
          not-false (backed fires says f by x)
          (sym (ap₂ (λ (a b : Bool). not a && (not b && not (backed fires says f by x))) (some-member _ s (stands-there x fired)) (some-member _ j says-it)) ∙ e)

      is-not : saying f j x ≡ true → backed fires says f by x ≡ false
      is-not h =
          any_none _ by.from (by.to - by.from)
          (λ y l m. unless (backed_by fires says f by.number x y) (λ b. both_ways (fires-too f by.number x y j b h) (any_at _ _ _ none y l m)))

  pub carried-all : (these by : Sayings) (j : ℕ) → any_unbacked fires says these by ≡ false → any_from (saying by.number j) by.from (by.to - by.from) ≡ false
      → any_from (saying these.number j) these.from (these.to - these.from) ≡ false
  unfolding any_unbacked
  carried-all these by j e none = any_none (saying these.number j) these.from (these.to - these.from)
      (λ x l m. carried these.number by x j (any_at (unbacked fires says these.number by) these.from (these.to - these.from) e x l m) none)

  -- ---- rows that fire together

  share : (x y : ℕ) → firing x ≡ true → firing y ≡ true → share_inputs i (get_or fires (x * 3) 0) (get_or fires (y * 3) 0) (get_or fires (x * 3 + 1) 0) (get_or fires (y * 3 + 1) 0) ≡ true
  unfolding share_inputs lets
  share x y h k = at_every i _ (λ j l. agreed j (lets_at x h j l) (lets_at y k j l))
    where
      lets_at : (r : ℕ) → firing r ≡ true → (j : ℕ) → j < i → lets fires j (has (turned i v) j) r ≡ true
      lets_at r f j l =
          ap (λ (m : ℕ). lets fires m (has (turned i v) j) r) (sym (zero-add j))
          ∙ every-at i (λ m. lets fires (0 + m) (has (turned i v) m) r) (sym (lets-each fires r i 0 v) ∙ lets-them r f) j l

      one : (a b : Bool) (o q d : ℕ) → (a || eqb o d) ≡ true → (b || eqb q d) ≡ true → (a || (b || eqb o q)) ≡ true
      one true b o q d e f = refl
      one false true o q d e f = refl
      one false false o q d e f = eq-eqb o q (eqb-true o d e ∙ sym (eqb-true q d f))

      agreed : (j : ℕ) → lets fires j (has (turned i v) j) x ≡ true → lets fires j (has (turned i v) j) y ≡ true
          → (eqb (has (get_or fires (x * 3 + 1) 0) j) 1 || (eqb (has (get_or fires (y * 3 + 1) 0) j) 1 || eqb (has (get_or fires (x * 3) 0) j) (has (get_or fires (y * 3) 0) j))) ≡ true
      agreed j e f = one (eqb (has (get_or fires (x * 3 + 1) 0) j) 1) (eqb (has (get_or fires (y * 3 + 1) 0) j) 1) (has (get_or fires (x * 3) 0) j) (has (get_or fires (y * 3) 0) j) (has (turned i v) j) e f

  clash-there : (x y j : ℕ) → saying 3 j x ≡ true → saying 2 j y ≡ true → clash fires says i x y ≡ true
  unfolding clash
  clash-there x y j h k =
      let fired = and_first (firing x) (eqb (has (get_or says (x * 4 + 3) 0) j) 1) h in
      let other = and_first (firing y) (eqb (has (get_or says (y * 4 + 2) 0) j) 1) k in
      let says-dash = eqb-true _ 1 (and_second (firing x) (eqb (has (get_or says (x * 4 + 3) 0) j) 1) h) in
      let says-one = eqb-true _ 1 (and_second (firing y) (eqb (has (get_or says (y * 4 + 2) 0) j) 1) k) in
      and_both (not (eqb (bit_and (get_or says (x * 4 + 3) 0) (get_or says (y * 4 + 2) 0)) 0)) _
      (ap not (shared-member (get_or says (x * 4 + 3) 0) (get_or says (y * 4 + 2) 0) j says-dash says-one))
      (and_both (not (eqb (bit_and (get_or fires (x * 3 + 2) 0) (get_or fires (y * 3 + 2) 0)) 0)) _
      (ap not (shared-member (get_or fires (x * 3 + 2) 0) (get_or fires (y * 3 + 2) 0) s (stands-there x fired) (stands-there y other)))
      (share x y fired other))

  -- where the listing says 1 the cover says no dash
  no-dash : (j : ℕ) → any_clash fires says i ≡ false → listed says firing 2 j ≡ true → covered says firing 3 j ≡ false
  unfolding any_clash clashes
  no-dash j e one =
      any_none (saying 3 j) 192 256
      (λ x l m. unless (saying 3 j x) (λ h. both_ways one
      (any_none (saying 2 j) 0 192 (λ y n o. unless (saying 2 j y) (λ k. both_ways (clash-there x y j h k) (any_at (clash fires says i x) 0 192 (any_at (clashes fires says i) 192 256 e x l m) y n o))))))

  -- ---- all of it

  -- a place agrees: l where the listing says 1, f dash, o where the cover says 1, d dash
  place : (l f o d : Bool) → (l ≡ false → o ≡ false) → (f ≡ false → d ≡ false) → (o ≡ false → l ≡ false) → (l ≡ true → d ≡ false) → agrees_by (meant l f) o d ≡ true
  unfolding agrees_by
  place true f true d a b c e = ap not (e refl)
  place true f false d a b c e = absurd (both_ways refl (c refl))
  place false true o d a b c e = refl
  place false false o d a b c e = ap₂ (λ (x y : Bool). not x && not y) (a refl) (b refl)

  pub rows_agree : row_by_row fires says i ≡ true → fails_at fires says i s v ≡ false
  unfolding row_by_row fails_at any_from
  rows_agree all =
      let after-ones = and_second (not (any_unbacked fires says (of_cover 2) (of_listing 2))) _ all in
      let after-dashes = and_second (not (any_unbacked fires says (of_cover 3) (of_listing 3))) _ after-ones in
      let after_next = and_second (not (any_unbacked fires says (of_cover 0) (of_listing 1))) _ after-dashes in
      let back = and_second (not (any_unbacked fires says (of_cover 1) no_sayings)) _ after_next in
      let next-back = and_second (not (any_unbacked fires says (of_listing 2) (of_cover 2))) _ back in
      let ones = not-true _ (and_first (not (any_unbacked fires says (of_cover 2) (of_listing 2))) _ all) in
      let dashes = not-true _ (and_first (not (any_unbacked fires says (of_cover 3) (of_listing 3))) _ after-ones) in
      let next = not-true _ (and_first (not (any_unbacked fires says (of_cover 0) (of_listing 1))) _ after-dashes) in
      let exact = not-true _ (and_first (not (any_unbacked fires says (of_cover 1) no_sayings)) _ after_next) in
      let kept = not-true _ (and_first (not (any_unbacked fires says (of_listing 2) (of_cover 2))) _ back) in
      let led = not-true _ (and_first (not (any_unbacked fires says (of_listing 1) (of_cover 0))) _ next-back) in
      let apart = not-true (any_clash fires says i) (and_second (not (any_unbacked fires says (of_listing 1) (of_cover 0))) _ next-back) in
      let outputs-agree
      = at_every 64 (λ j. agrees_by (meant (listed says firing 2 j) (listed says firing 3 j)) (covered says firing 2 j) (covered says firing 3 j))
      (λ j l. place (listed says firing 2 j) (listed says firing 3 j) (covered says firing 2 j) (covered says firing 3 j) (carried-all (of_cover 2) (of_listing 2) j ones) (carried-all (of_cover 3) (of_listing 3) j dashes) (carried-all (of_listing 2) (of_cover 2) j kept) (no-dash j apart)) in
      let next-agrees
      = at_every 64 (λ k. agrees_by (meant (listed says firing 1 k) false) (covered says firing 0 k) (covered says firing 1 k))
      (λ k l. place (listed says firing 1 k) false (covered says firing 0 k) (covered says firing 1 k) (carried-all (of_cover 0) (of_listing 1) k next) (λ e. carried-all (of_cover 1) no_sayings k exact refl) (carried-all (of_listing 1) (of_cover 0) k led) (λ e. carried-all (of_cover 1) no_sayings k exact refl)) in
      fails-is says firing ∙ silent (not (eqb (gathered_from says (words_of firing) 0 3).a 0)) outputs-agree next-agrees
    where
      silent : {x y : Bool} (z : Bool) → x ≡ true → y ≡ true → (not x || (z && not y)) ≡ false
      silent true e f = rw (e, f)
      silent false e f = rw e

-- so that there is no fault
pub no-fault : (fires says : List ℕ) (i n : ℕ) {b : Bool} → b ≡ row_by_row fires says i → b ≡ true → None ≡ fault_from (fails_at fires says i) i 0 n
no-fault fires says i n e t =
    sym (states-nowhere (fails_at fires says i) i 0 n (λ s l m v h. rows_agree fires says i s v (sym e ∙ t)))
