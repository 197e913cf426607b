-- All that a listing says by number: how many rows there are, and each of them as it is taken from the tables, in order.
use mathlib.Core.Path.{◌≡◌, refl, sym, ap, ◌∙◌}
use mathlib.Core.Bool.{Bool, true, false, cond}
use mathlib.Core.List.{List, [], ◌∷◌, ◌++◌}
use Prim.Native.Nat.{ℕ, suc, ◌+◌, ◌-◌, ◌≤◌, ◌<◌, min}
use native.Mathlib.Numerals.{add-one}
use native.Mathlib.Omega.{arith}
use lib.Dec.{ltb}
use lib.ListN.{length, get_or, drop, length-take, length-append, drop_of_length-le, get_or-append}
use lib.Seq.{drop-cons, get_or-take, get_or-append-add}
use borrow.Author.Tests.{lt-ltb, le-ltb, ltb-true, ltb-false}
use Rattle.rules.specs.Limits.{most_states, most_rows}
use Rattle.rules.specs.Listing.{no_pattern, no_row, rows_of, state_row, state_rows, all_rows}
use Rattle.rules.specs.declared.Head.{Head}
use Rattle.rules.specs.declared.Pattern.{Pattern}
use Rattle.rules.specs.declared.Row.{Row}
use Rattle.rules.specs.declared.Listing.{Listing}
use Rattle.rules.proofs.AllRows.{said_of, added_rows, state-rows-long, state-row-at}
use Rattle.write_rows.specs.Rows.{row_count, state_at, row_at, row_of}

-- ---- one of them

pub count-mealy : (h : Head) (rows : ℕ) → h.moore ≡ false → row_count h rows ≡ min rows most_rows
unfolding row_count
count-mealy h rows e = rw e (omega arith)

pub count-moore : (h : Head) (rows : ℕ) → h.moore ≡ true → row_count h rows ≡ min rows most_rows + min h.states most_states
unfolding row_count
count-moore h rows e = rw e

pub state-made : (n k : ℕ) → min (k - n) 63 ≡ state_at n k
unfolding state_at
state-made n k = go (ltb k n) refl
  where
    go : (b : Bool) → ltb k n ≡ b → min (k - n) 63 ≡ cond b 0 (min (k - n) 63)
    go true e = omega (arith, ltb-true k n e)
    go false e = refl

pub state-few : (n k : ℕ) → state_at n k < 64
unfolding state_at
state-few n k = go (ltb k n)
  where
    go : (b : Bool) → cond b 0 (min (k - n) 63) < 64
    go true = omega arith
    go false = omega arith

pub at_before : (n k : ℕ) (r : Row) (p : Pattern) → k < n → row_at n k r p ≡ r
unfolding row_at
at_before n k r p h = rw (lt-ltb k n h)

pub at-behind : (n k : ℕ) (r : Row) (p : Pattern) → n ≤ k → row_at n k r p ≡ state_row (state_at n k) p
unfolding row_at
at-behind n k r p h = rw (le-ltb k n h)

-- ---- all of them

-- of a listing whose tables have their lengths, n of them its rows, m in all
module _ (t : Listing) (table : length t.table ≡ most_rows) (said : length t.said ≡ most_states) {n m : ℕ} (hn : n ≡ min t.rows most_rows) (hm : m ≡ row_count t.head t.rows) where
  rows_long : length (rows_of t) ≡ n
  rows_long = omega (arith, length-take t.rows t.table)

  states-long : length (said_of t) ≡ min t.head.states most_states
  states-long = omega (arith, length-take t.head.states t.said)

  added-long : (b : Bool) → length (cond b (state_rows 0 (said_of t)) []) ≡ cond b (min t.head.states most_states) 0
  added-long true = state-rows-long 0 (said_of t) ∙ states-long
  added-long false = refl

  pub all-long : length (all_rows t) ≡ m
  unfolding all_rows row_count
  all-long = length-append (rows_of t) (added_rows t) ∙ omega (arith, rows_long, added-long t.head.moore)

  pub all-few : m ≤ n + 64
  unfolding row_count
  all-few = omega (arith, hm, added-few t.head.moore)
    where
      added-few : (b : Bool) → cond b (min t.head.states most_states) 0 ≤ 64
      added-few true = omega arith
      added-few false = omega arith

  -- one of the listing's
  taken-row : (k : ℕ) → k < n → get_or (all_rows t) k no_row ≡ get_or t.table (min k 127) no_row
  unfolding all_rows
  taken-row k h =
      let same : k ≡ min k 127 = omega arith in
      get_or-append (rows_of t) (added_rows t) no_row k (omega (arith, rows_long))
      ∙ get_or-take t.rows t.table k no_row (omega (arith, rows_long, length-take t.rows t.table))
      ∙ ap (λ (i : ℕ). get_or t.table i no_row) same

  -- one that a state adds
  added-row : (b : Bool) (j : ℕ) → j < cond b (min t.head.states most_states) 0 → get_or (cond b (state_rows 0 (said_of t)) []) j no_row ≡ state_row j (get_or t.said j no_pattern)
  added-row false j h = absurd (omega arith)
  added-row true j h =
      let z : 0 + j ≡ j = omega arith in
      state-row-at 0 (said_of t) j (omega (arith, states-long))
      ∙ ap (λ (i : ℕ). state_row i (get_or (said_of t) j no_pattern)) z
      ∙ ap (state_row j) (get_or-take t.head.states t.said j no_pattern (omega arith))

  taken-state : (k : ℕ) → n ≤ k → k < m → get_or (all_rows t) k no_row ≡ state_row (k - n) (get_or t.said (k - n) no_pattern)
  unfolding all_rows row_count
  taken-state k l h =
      let j = k - n in
      let at : k ≡ length (rows_of t) + j = omega (arith, rows_long) in
      ap (λ (i : ℕ). get_or (rows_of t ++ added_rows t) i no_row) at
      ∙ get_or-append-add (rows_of t) (added_rows t) j no_row
      ∙ added-row t.head.moore j (omega (arith, hm))

  -- row k, as it is taken from the tables
  taken : (k : ℕ) → k < m → get_or (all_rows t) k no_row ≡ row_at n k (get_or t.table (min k 127) no_row) (get_or t.said (state_at n k) no_pattern)
  unfolding row_at state_at
  taken k h = go (ltb k n) refl
    where
      go : (b : Bool) → ltb k n ≡ b
          → get_or (all_rows t) k no_row ≡ cond b (get_or t.table (min k 127) no_row) (state_row (cond b 0 (min (k - n) 63)) (get_or t.said (cond b 0 (min (k - n) 63)) no_pattern))
      go true e = taken-row k (ltb-true k n e)
      go false e =
          let l = ltb-false k n e in
          let same : k - n ≡ min (k - n) 63 = omega (arith, all-few) in
          taken-state k l h ∙ ap (λ (i : ℕ). state_row i (get_or t.said i no_pattern)) same

  row_here : (k : ℕ) → k < m → drop k (all_rows t) ≡ row_at n k (get_or t.table (min k 127) no_row) (get_or t.said (state_at n k) no_pattern) ∷ drop (k + 1) (all_rows t)
  row_here k h =
      rw (add-one, drop-cons (all_rows t) k no_row (omega (arith, all-long))) (ap {B = List Row} (λ r. r ∷ drop (suc k) (all_rows t)) (taken k h))

  -- and as a loop has it
  pub row-given : (k : ℕ) → k < m → {place state : ℕ} → place ≡ min k 127 → state ≡ state_at n k
      → {r : Row} → r ≡ row_at n k (get_or t.table place no_row) (get_or t.said state no_pattern) → drop k (all_rows t) ≡ r ∷ drop (k + 1) (all_rows t)
  row-given k h e f {r} q = row_here k h ∙ ap {B = List Row} (λ x. x ∷ drop (k + 1) (all_rows t)) (sym (rw (← e, ← f) q))

  pub row-none : (k : ℕ) → m ≤ k → drop k (all_rows t) ≡ []
  row-none k h = drop_of_length-le (all_rows t) {i = k} (omega (arith, all-long))

-- ---- as they are counted and taken, whatever the tables hold

pub count-all : (t : Listing) → length t.table ≡ most_rows → length t.said ≡ most_states → row_count t.head t.rows ≡ length (all_rows t)
count-all t table said = sym (all-long t table said refl refl)

pub row-listed : (t : Listing) → length t.table ≡ most_rows → length t.said ≡ most_states → (k : ℕ) → k < length (all_rows t) → row_of t k ≡ get_or (all_rows t) k no_row
unfolding row_of
row-listed t table said k h = sym (taken t table said refl refl k (omega (arith, count-all t table said)))

-- row by row, as a loop has them
pub row-next : (t : Listing) (k : ℕ) {m : ℕ} {r : Row} → m ≡ length (all_rows t) → k < m → (k < length (all_rows t) → r ≡ get_or (all_rows t) k no_row)
    → drop k (all_rows t) ≡ r ∷ drop (k + 1) (all_rows t)
row-next t k e h f =
    rw (add-one, drop-cons (all_rows t) k no_row (omega arith)) (ap {B = List Row} (λ r. r ∷ drop (suc k) (all_rows t)) (sym (f (omega arith))))

pub row-end : (t : Listing) (k : ℕ) {m : ℕ} → m ≡ length (all_rows t) → m ≤ k → drop k (all_rows t) ≡ []
row-end t k e h = drop_of_length-le (all_rows t) {i = k} (omega arith)
