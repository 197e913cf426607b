-- The table as it is filled line by line, and its columns.
use mathlib.Core.Path.{◌≡◌, sym, ap}
use mathlib.Core.Bool.{Bool, true, false, ◌&&◌}
use mathlib.Core.List.{List, [], ◌∷◌}
use Prim.Native.Nat.{ℕ, suc, ◌+◌, ◌*◌, ◌-◌, ◌≤◌, ◌<◌}
use native.Mathlib.Numerals.{add-one}
use native.Mathlib.Omega.{arith}
use lib.ListN.{length, get_or, take, drop, set, get_or-eq_default}
use lib.Dec.{eqb}
use borrow.Author.Tests.{lt-ltb, ne_eqb}
use Rattle.sets.proofs.Places.{get_d-within}
use Rattle.sets.specs.Sets.{states_from}
use Rattle.rules.specs.FlowTable.{no_state, goes_well, stability, is_stable}
use Rattle.rules.specs.FlowLines.{entry_at}
use Rattle.rules.specs.declared.Refusal.TheVariants.{Unstable}
use Rattle.rules.specs.Refusals.{refused}
use Rattle.read_flow.specs.Table.{column_in, columns_from, store_from, goes_well_in}
use Rattle.std.specs.Prelude.{Ok}

-- ---- columns from c on

module _ (table : List ℕ) (n c k : ℕ) where
  -- one more and the rest, of k + 1
  pub columns-next : c < k → columns_from table n c (k - c) ≡ column_in table n c ∷ columns_from table n (c + 1) (k - (c + 1))
  unfolding columns_from states_from
  columns-next h =
      let one : k - c ≡ suc (k - (c + 1)) = omega arith in
      rw (one, add-one)

  pub columns-end : k ≤ c → columns_from table n c (k - c) ≡ []
  unfolding columns_from states_from
  columns-end h =
      let none : k - c ≡ 0 = omega arith in
      rw none

-- the part of the table that a column is
pub column-part : (table : List ℕ) (n c : ℕ) → take (c * 64 + n - c * 64) (drop (c * 64) table) ≡ column_in table n c
column-part table n c =
    let e : c * 64 + n - c * 64 ≡ n = omega arith in
    rw e

-- ---- stable destinations

-- a destination below 64 is looked up in its column
pub stable-past : (column : List ℕ) (d : ℕ) → d < 64 → length column ≤ d → is_stable column d ≡ false
unfolding is_stable
stable-past column d h l = rw (lt-ltb d 64 h, get_or-eq_default column no_state {n = d} l) (ne_eqb 64 d (omega arith))

pub stable-at : (column : List ℕ) (d : ℕ) → d < 64 → d < length column → is_stable column d ≡ eqb (get_or column d 0) d
unfolding is_stable
stable-at column d h l = rw (lt-ltb d 64 h, get_d-within column d no_state 0 l)

pub well-at : (column : List ℕ) (s : ℕ) → s < length column → goes_well_in column s ≡ is_stable column (get_or column s 0)
unfolding goes_well_in
well-at column s h = rw (get_d-within column s no_state 0 h)

module _ (table : List ℕ) (n c k s : ℕ) where
  well-by : {b : Bool} → c < k → goes_well_in (column_in table n c) s ≡ b → goes_well (columns_from table n c (k - c)) s ≡ (b && goes_well (columns_from table n (c + 1) (k - (c + 1))) s)
  unfolding goes_well goes_well_in
  well-by h e = rw (columns-next table n c k h, e)

  pub well-not : c < k → goes_well_in (column_in table n c) s ≡ false → goes_well (columns_from table n c (k - c)) s ≡ false
  well-not h e = well-by h e

  pub well-on : c < k → goes_well_in (column_in table n c) s ≡ true → goes_well (columns_from table n c (k - c)) s ≡ goes_well (columns_from table n (c + 1) (k - (c + 1))) s
  well-on h e = well-by h e

  pub well-done : k ≤ c → goes_well (columns_from table n c (k - c)) s ≡ true
  unfolding goes_well
  well-done h = rw (columns-end table n c k h)

module _ (columns : List (List ℕ)) (s n : ℕ) where
  pub stable-next : s < n → goes_well columns s ≡ true → stability columns (states_from s (n - s)) ≡ stability columns (states_from (s + 1) (n - (s + 1)))
  unfolding stability states_from
  stable-next h e =
      let one : n - s ≡ suc (n - (s + 1)) = omega arith in
      let up : s + 1 ≡ suc s = omega arith in
      rw (one, e, stability) (ap (λ (i : ℕ). stability columns (states_from i (n - (s + 1)))) (sym up))

  pub stable-not : s < n → goes_well columns s ≡ false → stability columns (states_from s (n - s)) ≡ refused Unstable (s + 2)
  unfolding stability states_from
  stable-not h e =
      let one : n - s ≡ suc (n - (s + 1)) = omega arith in
      rw (one, e, stability)

  pub stable-end : n ≤ s → stability columns (states_from s (n - s)) ≡ Ok tt
  unfolding stability states_from
  stable-end h =
      let none : n - s ≡ 0 = omega arith in
      rw none

-- ---- a line's entries

module _ (n : ℕ) (l : List ℕ) (s c k : ℕ) (table : List ℕ) where
  pub store-next : c < k → store_from n l s c (k - c) table ≡ store_from n l s (c + 1) (k - (c + 1)) (set table (c * 64 + s) (entry_at n c l))
  unfolding store_from
  store-next h =
      let one : k - c ≡ suc (k - (c + 1)) = omega arith in
      rw (one, store_from)

  pub store-end : k ≤ c → store_from n l s c (k - c) table ≡ table
  unfolding store_from
  store-end h =
      let none : k - c ≡ 0 = omega arith in
      rw none

pub ruleset stable_in = (stable-past, stable-at)
