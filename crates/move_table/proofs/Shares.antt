-- Shares as masks: the states whose flip makes a requirement met, less those whose flip breaks it, are met after the flip, less met now.
use mathlib.Core.Path.{◌≡◌, refl, sym, ap, ap₂, ◌∙◌}
use mathlib.Core.Bool.{Bool, true, false, cond, or_comm as either_order}
use Prim.Native.Nat.{ℕ, zero, suc, ◌+◌, ◌-◌, ◌^◌, ◌≤◌, ◌<◌}
use native.Mathlib.Omega.{arith}
use lib.Bits.{bit_or, or_comm, or_zero_r}
use lib.Dec.{eqb, leb, ltb}
use lib.IntN.{pos, negsuc, sub_ℕ}
use borrow.Author.Tests.{eq-eqb, ne_eqb, eqb-true, eqb-false, leb-true, leb-false, ltb-true, ltb-false}
use Rattle.sets.specs.Sets.{has, flip, size}
use Rattle.sets.specs.Blocks.{wrong, settled, lone, makes, breaks}
use Rattle.sets.proofs.Members.{has-none, has-or}
use Rattle.sets.proofs.Size.{none-size}
use Rattle.sets.proofs.SizeMembers.{member-size, some-member}
use Rattle.rules.specs.Requirements.{met}
use Rattle.rules.specs.Looks.{share, looks_at}
use Rattle.rules.specs.declared.Requirement.{Requirement}
use Rattle.rules.proofs.Counts.{cost, Apart, apart-turned, cost-neither, cost-turned}
use Rattle.rules.proofs.Meeting.{one_way, other_way}
use Rattle.rules.proofs.Masks.{wrong-cost, wrong-lt, change-size}
use Rattle.rules.proofs.Shares.{table, share-out, share-one, share_other, quiet}
use Rattle.rules.proofs.Good.{Good}
use Rattle.move_table.proofs.Either.{either}

-- 1 where the bit b meets r, and 0 where it does not
abbrev pub is_met : ℕ → Requirement → ℕ → ℕ
is_met n r b = cond (met n r b) 1 0

-- the states whose flip makes r met, and those whose flip breaks it, at the bit b
abbrev pub makes_of : Requirement → ℕ → ℕ
makes_of r b = makes (wrong r.first r.second b) (wrong r.second r.first b)

abbrev pub breaks_of : Requirement → ℕ → ℕ
breaks_of r b = breaks (wrong r.first r.second b) (wrong r.second r.first b)

-- two differences that are equal
pub same-minus : (a b c d : ℕ) → sub_ℕ a b ≡ sub_ℕ c d → a + d ≡ c + b
same-minus a b c d = go (ltb a b) (ltb c d) refl refl
  where
    go : (t u : Bool) → ltb a b ≡ t → ltb c d ≡ u → cond t (negsuc (b - suc a)) (pos (a - b)) ≡ cond u (negsuc (d - suc c)) (pos (c - d)) → a + d ≡ c + b
    go true true p q e =
        let z : b - suc a ≡ d - suc c = cc in
        omega (arith, ltb-true a b p, ltb-true c d q)
    go true false p q e = absurd (let z : ◌≡◌ {A = ℕ} 0 1 = cc in omega arith)
    go false true p q e = absurd (let z : ◌≡◌ {A = ℕ} 0 1 = cc in omega arith)
    go false false p q e =
        let z : a - b ≡ c - d = cc in
        omega (arith, ltb-false a b p, ltb-false c d q)

-- ---- the masks, where x must change one way round and y the other

makes-turned : (x y : ℕ) → makes x y ≡ makes y x
unfolding makes
makes-turned x y = ap₂ (λ (t : Bool) (m : ℕ). cond t 0 m) (either_order (eqb x 0) (eqb y 0)) (or_comm (lone x) (lone y))

breaks-turned : (x y : ℕ) → breaks x y ≡ breaks y x
unfolding breaks
breaks-turned x y = ap₂ (λ (t : Bool) (m : ℕ). cond t (cond (leb (size m) 1) 0 m) 0) (either_order (eqb x 0) (eqb y 0)) (or_comm x y)

-- one of two sets without s
without : (t : Bool) (x y s : ℕ) → has x s ≡ 0 → has y s ≡ 0 → has (cond t x y) s ≡ 0
without t x y s p q = either (λ (m : ℕ). has m s ≡ 0) t x y (λ _. p) (λ _. q)

lone-out : (m s : ℕ) → has m s ≡ 0 → has (lone m) s ≡ 0
lone-out m s e = without (leb (size m) 1) m 0 s e (has-none s)

module _ (x y s : ℕ) (hx : has x s ≡ 0) (hy : has y s ≡ 0) where
  neither : has (bit_or x y) s ≡ 0
  neither = omega (arith, has-or x y s)

  makes-out : has (makes x y) s ≡ 0
  unfolding makes
  makes-out =
      without (settled x y) 0 (bit_or (lone x) (lone y)) s (has-none s) (omega (arith, has-or (lone x) (lone y) s, lone-out x s hx, lone-out y s hy))

  breaks-out : has (breaks x y) s ≡ 0
  unfolding breaks
  breaks-out =
      without (settled x y) (cond (leb (size (bit_or x y)) 1) 0 (bit_or x y)) 0 s
      (without (leb (size (bit_or x y)) 1) 0 (bit_or x y) s (has-none s) neither)
      (has-none s)

-- s must change one way round, and not the other
module _ (n x y s : ℕ) (fx : x < 2 ^ n) (fy : y < 2 ^ n) (hs : s < n) (hx : has x s ≡ 1) (hy : has y s ≡ 0) where
  -- x is not empty
  some : eqb x 0 ≡ false
  some = ne_eqb x 0 (λ e. omega (arith, ap (λ (m : ℕ). has m s) e, has-none s))

  no_size : y ≡ 0 → size y ≡ 0
  no_size e = none-size n y fy (λ t _. ap (λ (m : ℕ). has m t) e ∙ has-none t)

  some_size : (y ≡ 0 → ⊥) → size y ≡ 0 → ⊥
  some_size o e = let r = some-member n y fy o in omega (arith, member-size n y fy r.0 r.1 r.2)

  -- the only one that must change makes it met; where nothing must change the other way it is met now, and every one of two or more breaks it
  member-has : has (makes x y) s + cond (eqb (size y) 0) 1 0 ≡ cond (eqb (size x) 1) 1 0 + has (breaks x y) s
  unfolding makes breaks
  member-has = rw some (go (eqb y 0) (leb (size x) 1) refl refl)
    where
      one : size x ≤ 1 → eqb (size x) 1 ≡ true
      one l = eq-eqb (size x) 1 (omega (arith, member-size n x fx s hs hx))

      many : 1 < size x → eqb (size x) 1 ≡ false
      many l = ne_eqb (size x) 1 (λ e. omega arith)

      go : (t u : Bool) → eqb y 0 ≡ t → leb (size x) 1 ≡ u
          → has (cond t 0 (bit_or (lone x) (lone y))) s + cond (eqb (size y) 0) 1 0
          ≡ cond (eqb (size x) 1) 1 0 + has (cond t (cond (leb (size (bit_or x y)) 1) 0 (bit_or x y)) 0) s
      go true u p q =
          let z : y ≡ 0 = eqb-true y 0 p in
          let e : bit_or x y ≡ x = ap (bit_or x) z ∙ or_zero_r x in
          rw (e, eq-eqb (size y) 0 (no_size z), q) (now u q)
        where
          now : (u : Bool) → leb (size x) 1 ≡ u → has 0 s + 1 ≡ cond (eqb (size x) 1) 1 0 + has (cond u 0 x) s
          now true q = rw (one (leb-true (size x) 1 q)) (omega arith)
          now false q = rw (many (leb-false (size x) 1 q)) (omega (arith, has-none s))
      go false u p q =
          rw (ne_eqb (size y) 0 (some_size (eqb-false y 0 p)), q) (then u q)
        where
          lone-y : has (lone y) s ≡ 0
          lone-y = lone-out y s hy

          then : (u : Bool) → leb (size x) 1 ≡ u → has (bit_or (cond u x 0) (lone y)) s + 0 ≡ cond (eqb (size x) 1) 1 0 + has 0 s
          then true q = rw (one (leb-true (size x) 1 q)) (omega (arith, has-or x (lone y) s, lone-y, has-none s))
          then false q = rw (many (leb-false (size x) 1 q)) (omega (arith, has-or 0 (lone y) s, lone-y, has-none s))

-- ---- the shares

module _ (n : ℕ) (r : Requirement) (good : Good n r) (b s : ℕ) (hb : b < 2 ^ n) (hs : s < n) where
  x : ℕ
  x = wrong r.first r.second b

  y : ℕ
  y = wrong r.second r.first b

  fx : x < 2 ^ n
  unfolding x
  fx = wrong-lt n r.first r.second b good.first good.second hb

  fy : y < 2 ^ n
  unfolding y
  fy = wrong-lt n r.second r.first b good.second good.first hb

  -- the counts are the sizes
  one_size : one_way n r b ≡ size x
  unfolding x
  one_size = change-size n r.first r.second b good.first good.second hb good.apart

  other-size : other_way n r b ≡ size y
  unfolding y
  other-size = change-size n r.second r.first b good.second good.first hb (apart-turned r.first r.second good.apart)

  in-x : has x s ≡ cost r.first r.second b s
  unfolding x
  in-x = wrong-cost r.first r.second b s (good.apart s)

  in-y : has y s ≡ cost r.second r.first b s
  unfolding y
  in-y = wrong-cost r.second r.first b s (apart-turned r.first r.second good.apart s)

  -- met after the flip, with what it breaks, is met now, with what it makes
  pub share-has : is_met n r (flip b s) + has (breaks_of r b) s ≡ is_met n r b + has (makes_of r b) s
  unfolding x y share
  share-has = go (has r.first s + has r.second s) (cost r.first r.second b s) refl refl
    where
      -- the share by the table of the counts, and the masks
      by-table : (a d : ℕ) → share n r b s ≡ table a d → has (makes x y) s + cond (eqb d 0) 1 0 ≡ cond (eqb a 1) 1 0 + has (breaks x y) s
          → is_met n r (flip b s) + has (breaks_of r b) s ≡ is_met n r b + has (makes_of r b) s
      by-table a d e h = omega (arith, same-minus (is_met n r (flip b s)) (is_met n r b) (cond (eqb a 1) 1 0) (cond (eqb d 0) 1 0) e)

      go : (d c : ℕ) → has r.first s + has r.second s ≡ d → cost r.first r.second b s ≡ c
          → is_met n r (flip b s) + has (breaks_of r b) s ≡ is_met n r b + has (makes_of r b) s
      go zero c e f =
          let zx : has x s ≡ 0 = in-x ∙ cost-neither r.first r.second b s e in
          let zy : has y s ≡ 0 = in-y ∙ cost-neither r.second r.first b s (omega arith) in
          let z = same-minus (is_met n r (flip b s)) (is_met n r b) 0 0 (share-out n r b s hs e) in
          omega (arith, makes-out x y s zx zy, breaks-out x y s zx zy)
      go (suc zero) zero e f =
          let zx : has x s ≡ 0 = in-x ∙ f in
          let zy : has y s ≡ 1 = omega (arith, in-y, cost-turned r.first r.second b s e) in
          by-table (size y) (size x) (share_other n r b s hs e f ∙ ap₂ table other-size one_size)
          (rw (makes-turned x y, breaks-turned x y) (member-has n y x s fy fx hs zy zx))
      go (suc zero) (suc c) e f =
          let zx : has x s ≡ 1 = omega (arith, in-x, cost-turned r.first r.second b s e) in
          let zy : has y s ≡ 0 = omega (arith, in-y, in-x, cost-turned r.first r.second b s e) in
          by-table (size x) (size y) (share-one n r b s hs e (sym in-x ∙ zx) ∙ ap₂ table one_size other-size)
          (member-has n x y s fx fy hs zx zy)
      go (suc (suc d)) c e f = absurd (omega (arith, good.apart s))

-- a move of s that does not look at r leaves every share as it was
pub quiet-shares : (n : ℕ) (r : Requirement) (b s t : ℕ) → t < n → Apart r.first r.second → looks_at n r b s ≡ false
    → is_met n r (flip (flip b s) t) + is_met n r b ≡ is_met n r (flip b t) + is_met n r (flip b s)
unfolding share
quiet-shares n r b s t ht apart e =
    same-minus (is_met n r (flip (flip b s) t)) (is_met n r (flip b s)) (is_met n r (flip b t)) (is_met n r b) (quiet n r b s t ht apart e)
