-- What a fair listing grants, as facts about its numbers, its rows and its dichotomies.
use mathlib.Core.Path.{◌≡◌, refl, ◌∙◌}
use mathlib.Core.Bool.{Bool, true, false, ◌&&◌}
use mathlib.Core.List.{List, [], ◌∷◌}
use Prim.Native.Nat.{ℕ, zero, suc, ◌^◌, ◌-◌, ◌≤◌, ◌<◌}
use native.Mathlib.Omega.{arith}
use lib.Bits.{bit_and}
use lib.Dec.{leb, ltb, eqb}
use lib.ListN.{length, get_or}
use lib.Pow.{pow_pos}
use borrow.Author.Tests.{leb-true, ltb-true, ltb-false, eqb-true, le-leb, lt-leb, lt-ltb, eq-eqb}
use Rattle.sets.specs.Sets.{everyone}
use Rattle.sets.proofs.Every.{and_first, and_second, and_both}
use Rattle.rules.specs.Limits.{most_states, most_bits, most_rows, most_dichotomies}
use Rattle.rules.specs.Listing.{no_row, no_requirement, rows_of, dichotomies_of}
use Rattle.rules.specs.declared.Requirement.{Requirement}
use Rattle.rules.specs.declared.Listing.{Listing}
use Rattle.rules.proofs.SoundLines.{SoundBlocks}
use Rattle.std.specs.List.{list_all}
use Rattle.code_fair.specs.Fair.{group_within, blocks_within, group_under, blocks_under, within_limits, fair}

-- ---- the tests, one after the other

pub limits-each : (t : Listing) {a b c d : Bool} → leb 1 t.head.states ≡ a → leb t.head.states most_states ≡ b → leb t.head.width most_bits ≡ c
    → leb t.rows most_rows ≡ d → within_limits t ≡ (a && (b && (c && (d && leb t.dichotomies most_dichotomies))))
unfolding within_limits
limits-each t p q r s = rw (p, q, r, s)

pub blocks-each : (n : ℕ) (d : Requirement) {a b : Bool} → ltb d.first (2 ^ n) ≡ a → ltb d.second (2 ^ n) ≡ b
    → blocks_within n d ≡ (a && (b && eqb (bit_and d.first d.second) 0))
blocks-each n d p q = rw (p, q)

pub under-each : (all : ℕ) (d : Requirement) {a b : Bool} → leb d.first all ≡ a → leb d.second all ≡ b
    → blocks_under all d ≡ (a && (b && eqb (bit_and d.first d.second) 0))
under-each all d p q = rw (p, q)

-- below 2 ^ n is no greater than the set of all n states
below : (m k : ℕ) → 1 ≤ k → leb m (k - 1) ≡ ltb m k
below m k h = go (ltb m k) refl
  where
    go : (b : Bool) → ltb m k ≡ b → leb m (k - 1) ≡ b
    go true e =
        let l = ltb-true m k e in
        le-leb m (k - 1) (omega (arith, l))
    go false e =
        let l = ltb-false m k e in
        lt-leb m (k - 1) (omega (arith, l))

pub group-under : (n : ℕ) → group_under (everyone n) ≡ group_within n
group-under n = λ i r. below r.group (2 ^ n) (pow_pos n) i

pub blocks-under : (n : ℕ) → blocks_under (everyone n) ≡ blocks_within n
blocks-under n = λ i d. below d.first (2 ^ n) (pow_pos n) i && (below d.second (2 ^ n) (pow_pos n) i && eqb (bit_and d.first d.second) 0)

pub fair-each : (t : Listing) {a b : Bool} → within_limits t ≡ a → list_all (group_within t.head.states) (rows_of t) ≡ b
    → fair t ≡ (a && (b && list_all (blocks_within t.head.states) (dichotomies_of t)))
unfolding fair
fair-each t p q = rw (p, q)

-- ---- numbers

pub record Within (t : Listing) : Type 0 where
  pub some-states : 1 ≤ t.head.states
  pub few-states : t.head.states ≤ most_states
  pub few_bits : t.head.width ≤ most_bits
  pub few-rows : t.rows ≤ most_rows
  pub few-dichotomies : t.dichotomies ≤ most_dichotomies

pub within : (t : Listing) → within_limits t ≡ true → Within t
unfolding within_limits
within t e =
    let few-dichotomies = leb t.dichotomies most_dichotomies in
    let few-tables = leb t.rows most_rows && few-dichotomies in
    let few-others = leb t.head.width most_bits && few-tables in
    let e₁ = and_second (leb 1 t.head.states) (leb t.head.states most_states && few-others) e in
    let e₂ = and_second (leb t.head.states most_states) few-others e₁ in
    let e₃ = and_second (leb t.head.width most_bits) few-tables e₂ in
    record {
      some-states = leb-true 1 t.head.states (and_first (leb 1 t.head.states) _ e);
      few-states = leb-true t.head.states most_states (and_first (leb t.head.states most_states) few-others e₁);
      few_bits = leb-true t.head.width most_bits (and_first (leb t.head.width most_bits) few-tables e₂);
      few-rows = leb-true t.rows most_rows (and_first (leb t.rows most_rows) few-dichotomies e₃);
      few-dichotomies = leb-true t.dichotomies most_dichotomies (and_second (leb t.rows most_rows) few-dichotomies e₃);
    }

-- ---- rows and dichotomies

module _ {A : Type 0} (p : A → Bool) (d : A) where
  each_at : (l : List A) → list_all p l ≡ true → (k : ℕ) → k < length l → p (get_or l k d) ≡ true
  each_at [] e k h = absurd (omega arith)
  each_at (x ∷ xs) e zero h = and_first (p x) (list_all p xs) e
  each_at (x ∷ xs) e (suc k) h = each_at xs (and_second (p x) (list_all p xs) e) k (omega arith)

  at_each : (l : List A) → ((k : ℕ) → k < length l → p (get_or l k d) ≡ true) → list_all p l ≡ true
  at_each [] h = refl
  at_each (x ∷ xs) h = and_both (p x) (list_all p xs) (h 0 (omega arith)) (at_each xs (λ k q. h (suc k) (omega arith)))

blocks-grant : (n : ℕ) (d : Requirement) → blocks_within n d ≡ true → SoundBlocks n d
blocks-grant n d e =
    let f = ltb d.first (2 ^ n) in
    let g = ltb d.second (2 ^ n) in
    let a = eqb (bit_and d.first d.second) 0 in
    record {
      first = ltb-true d.first (2 ^ n) (and_first f (g && a) e);
      second = ltb-true d.second (2 ^ n) (and_first g a (and_second f (g && a) e));
      apart = eqb-true (bit_and d.first d.second) 0 (and_second g a (and_second f (g && a) e));
    }

grant-blocks : (n : ℕ) (d : Requirement) → SoundBlocks n d → blocks_within n d ≡ true
grant-blocks n d s =
    blocks-each n d (lt-ltb d.first (2 ^ n) s.first) (lt-ltb d.second (2 ^ n) s.second) ∙ eq-eqb (bit_and d.first d.second) 0 s.apart

pub record Fair (t : Listing) : Type 0 where
  pub limits : Within t
  pub group : (k : ℕ) → k < length (rows_of t) → (get_or (rows_of t) k no_row).group < 2 ^ t.head.states
  pub dichotomy : (k : ℕ) → k < length (dichotomies_of t) → SoundBlocks t.head.states (get_or (dichotomies_of t) k no_requirement)

-- ---- a listing is fair exactly when it is this

pub fair-limits : (t : Listing) → fair t ≡ true → within_limits t ≡ true
unfolding fair
fair-limits t e = and_first (within_limits t) _ e

pub fair-grants : (t : Listing) → fair t ≡ true → Fair t
unfolding fair
fair-grants t e =
    let n : ℕ = t.head.states in
    let gs = list_all (group_within n) (rows_of t) in
    let ds = list_all (blocks_within n) (dichotomies_of t) in
    let e₁ : (gs && ds) ≡ true = and_second (within_limits t) (gs && ds) e in
    record {
      limits = within t (and_first (within_limits t) (gs && ds) e);
      group = λ k h. ltb-true _ (2 ^ n) (each_at (group_within n) no_row (rows_of t) (and_first gs ds e₁) k h);
      dichotomy = λ k h. blocks-grant n _ (each_at (blocks_within n) no_requirement (dichotomies_of t) (and_second gs ds e₁) k h);
    }

grants-limits : (t : Listing) → Within t → within_limits t ≡ true
grants-limits t w =
    limits-each t
    (le-leb 1 t.head.states w.some-states)
    (le-leb t.head.states most_states w.few-states)
    (le-leb t.head.width most_bits w.few_bits)
    (le-leb t.rows most_rows w.few-rows)
    ∙ le-leb t.dichotomies most_dichotomies w.few-dichotomies

pub grants-fair : (t : Listing) → Fair t → fair t ≡ true
grants-fair t f =
    let n : ℕ = t.head.states in
    fair-each t (grants-limits t f.limits)
    (at_each (group_within n) no_row (rows_of t) (λ k h. lt-ltb _ (2 ^ n) (f.group k h)))
    ∙ at_each (blocks_within n) no_requirement (dichotomies_of t) (λ k h. grant-blocks n _ (f.dichotomy k h))
