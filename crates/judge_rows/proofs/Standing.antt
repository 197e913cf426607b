-- The rows of a listing that were put in empty tables stand there, and go on standing when lines of a cover are put behind them.
use mathlib.Core.Path.{◌≡◌, sym, ap, ◌∙◌}
use mathlib.Core.List.{List, [], map}
use Prim.Native.Nat.{ℕ, ◌+◌, ◌*◌, ◌≤◌, ◌<◌}
use native.Mathlib.Nat.{zero-add}
use native.Mathlib.Omega.{arith}
use lib.ListN.{length, get_or, replicate, length-map, length-replicate}
use Rattle.sets.proofs.Places.{map_at, replicate-at}
use Rattle.rules.specs.Listing.{no_row}
use Rattle.rules.specs.declared.Row.{Row}
use Rattle.judge_rows.specs.Rows.{laid, firing_list, saying_list, row_firing, row_saying}
use Rattle.judge_rows.proofs.Tables.{Wide, laid-before, laid-behind, laid-row}
use Rattle.judge_rows.proofs.Listed.{Stand}

module _ (rows : List Row) (codes : List ℕ) (few : length rows ≤ 192) where
  abbrev firings : List (List ℕ)
  firings = map (λ q. firing_list (row_firing q)) rows

  abbrev sayings : List (List ℕ)
  sayings = map (λ q. saying_list (row_saying codes q)) rows

  firings-long : length firings ≡ length rows
  firings-long = length-map rows (λ q. firing_list (row_firing q))

  sayings-long : length sayings ≡ length rows
  sayings-long = length-map rows (λ q. saying_list (row_saying codes q))

  firing-at : (i : ℕ) → i < length rows → get_or firings i [] ≡ firing_list (row_firing (get_or rows i no_row))
  firing-at i l = map_at (λ q. firing_list (row_firing q)) rows i no_row [] l

  saying-at : (i : ℕ) → i < length rows → get_or sayings i [] ≡ saying_list (row_saying codes (get_or rows i no_row))
  saying-at i l = map_at (λ q. saying_list (row_saying codes q)) rows i no_row [] l

  firings-wide : Wide 3 firings
  firings-wide i l = ap length (firing-at i (omega (arith, firings-long)))

  sayings-wide : Wide 4 sayings
  sayings-wide i l = ap length (saying-at i (omega (arith, sayings-long)))

  abbrev table : List ℕ
  table = laid 3 0 firings (replicate 1344 0)

  abbrev says : List ℕ
  says = laid 4 0 sayings (replicate 1792 0)

  fired : (i f : ℕ) → i < length rows → f < 3 → get_or table (i * 3 + f) 0 ≡ get_or (firing_list (row_firing (get_or rows i no_row))) f 0
  fired i f l g =
      ap (λ (n : ℕ). get_or table (n * 3 + f) 0) (sym (zero-add i))
      ∙ laid-row 3 0 firings (replicate 1344 0) i f firings-wide (omega (arith, firings-long, length-replicate {A = ℕ} 1344 0)) (omega (arith, firings-long)) g
      ∙ ap (λ (e : List ℕ). get_or e f 0) (firing-at i l)

  pub stand-listing : Stand rows codes table says
  unfolding row_firing
  stand-listing = record {
    few = few;
    ones = λ i l. ap (λ (n : ℕ). get_or table n 0) (omega arith) ∙ fired i 0 l (omega arith);
    dashes = λ i l. fired i 1 l (omega arith);
    group = λ i l. fired i 2 l (omega arith);
    said = λ i f l g. ap (λ (n : ℕ). get_or says (n * 4 + f) 0) (sym (zero-add i))
        ∙ laid-row 4 0 sayings (replicate 1792 0) i f sayings-wide (omega (arith, sayings-long, length-replicate {A = ℕ} 1792 0)) (omega (arith, sayings-long)) g
        ∙ ap (λ (e : List ℕ). get_or e f 0) (saying-at i l);
    rest = λ r a b. laid-behind 3 0 firings (replicate 1344 0) (r * 3 + 2) firings-wide (omega (arith, firings-long)) ∙ replicate-at 1344 0 (r * 3 + 2);
  }

  -- behind them, where a cover's come, no row fires in a state
  pub behind-listing : (r : ℕ) → 192 ≤ r → get_or table (r * 3 + 2) 0 ≡ 0
  behind-listing r a = laid-behind 3 0 firings (replicate 1344 0) (r * 3 + 2) firings-wide (omega (arith, firings-long)) ∙ replicate-at 1344 0 (r * 3 + 2)

-- lines behind the listing's rows leave them standing
pub stand-line : (rows : List Row) (codes table says : List ℕ) (r : ℕ) (es us : List (List ℕ)) → 192 ≤ r → Stand rows codes table says → Stand rows codes (laid 3 r es table) (laid 4 r us says)
stand-line rows codes table says r es us behind stand = record {
  few = stand.few;
  ones = λ i l. laid-before 3 r es table (i * 3) (omega (arith, stand.few)) ∙ stand.ones i l;
  dashes = λ i l. laid-before 3 r es table (i * 3 + 1) (omega (arith, stand.few)) ∙ stand.dashes i l;
  group = λ i l. laid-before 3 r es table (i * 3 + 2) (omega (arith, stand.few)) ∙ stand.group i l;
  said = λ i f l g. laid-before 4 r us says (i * 4 + f) (omega (arith, stand.few)) ∙ stand.said i f l g;
  rest = λ q a b. laid-before 3 r es table (q * 3 + 2) (omega arith) ∙ stand.rest q a b;
}
