-- The rows of a listing, one by one, as a walk over its table meets them.
use mathlib.Core.Path.{◌≡◌}
use mathlib.Core.List.{[], ◌∷◌}
use Prim.Native.Nat.{ℕ, ◌+◌, ◌≤◌, ◌<◌}
use native.Mathlib.Numerals.{add-one}
use native.Mathlib.Omega.{arith}
use lib.ListN.{length, get_or, drop, length-take, drop_of_length-le}
use lib.Seq.{drop-cons, get_or-take}
use Rattle.rules.specs.Listing.{no_row, rows_of}
use Rattle.rules.specs.declared.Listing.{Listing}

-- there are n of them
module _ (t : Listing) (n : ℕ) (all : length (rows_of t) ≡ n) where
  pub row_here : (j : ℕ) → j < n → drop j (rows_of t) ≡ get_or t.table j no_row ∷ drop (j + 1) (rows_of t)
  row_here j h =
      let k : j < length (rows_of t) = omega arith in
      let q : j < t.rows = omega (arith, length-take t.rows t.table) in
      rw (add-one, drop-cons (rows_of t) j no_row k, get_or-take t.rows t.table j no_row q)

  pub row-none : (j : ℕ) → n ≤ j → drop j (rows_of t) ≡ []
  row-none j h = drop_of_length-le (rows_of t) {i = j} (omega arith)
