-- The rows of a listing in the tables: what those say that fire is what the listing means.
use mathlib.Core.Path.{◌≡◌, ap, ap₂, ◌∙◌}
use mathlib.Core.Bool.{Bool, false, ◌&&◌, ◌||◌, or-false}
use mathlib.Core.List.{List}
use Prim.Native.Nat.{ℕ, ◌+◌, ◌*◌, ◌-◌, ◌≤◌, ◌<◌}
use native.Mathlib.Nat.{zero-add}
use native.Mathlib.Omega.{arith}
use lib.Dec.{eqb}
use lib.ListN.{length, get_or}
use Rattle.sets.specs.Sets.{has}
use Rattle.rules.specs.Least.{turned}
use Rattle.rules.specs.Listing.{no_row, all_rows, some}
use Rattle.rules.specs.Cover.{fires}
use Rattle.rules.specs.Meaning.{output_means}
use Rattle.rules.specs.declared.Head.{Head}
use Rattle.rules.specs.declared.Row.{Row}
use Rattle.rules.specs.declared.Listing.{Listing}
use Rattle.judge_search.specs.Rows.{any_from, row_fires}
use Rattle.judge_search.proofs.Gathered.{any-parts, any_some, any_none}
use Rattle.judge_search.proofs.Judged.{meant, listed}
use Rattle.judge_search.proofs.RowFires.{row-fires, row-silent}
use Rattle.judge_rows.specs.Rows.{saying_list, row_saying}

-- the rows stand in the tables, and behind them, up to the cover's, rows that fire in no state
pub record Stand (rows : List Row) (codes table says : List ℕ) : Type 0 where
  pub few : length rows ≤ 192
  pub ones : (i : ℕ) → i < length rows → get_or table (i * 3) 0 ≡ (get_or rows i no_row).input.ones
  pub dashes : (i : ℕ) → i < length rows → get_or table (i * 3 + 1) 0 ≡ (get_or rows i no_row).input.dashes
  pub group : (i : ℕ) → i < length rows → get_or table (i * 3 + 2) 0 ≡ (get_or rows i no_row).group
  pub said : (i f : ℕ) → i < length rows → f < 4 → get_or says (i * 4 + f) 0 ≡ get_or (saying_list (row_saying codes (get_or rows i no_row))) f 0
  pub rest : (r : ℕ) → length rows ≤ r → r < 192 → get_or table (r * 3 + 2) 0 ≡ 0

module _ (h : Head) (rows : List Row) (codes table says : List ℕ) (stand : Stand rows codes table says) (s v : ℕ) where
  abbrev x : ℕ
  x = turned h.inputs v

  abbrev firing : ℕ → Bool
  firing = row_fires table h.inputs s v

  -- some row of the listing that fires says digit j of its number f
  pub listed-some : (f j : ℕ) → f < 4 → listed says firing f j ≡ some (λ q. fires h q x s && eqb (has (get_or (saying_list (row_saying codes q)) f 0) j) 1) rows
  listed-some f j within =
      let n : ℕ = length rows in
      let all : 192 ≡ length rows + (192 - length rows) = omega (arith, stand.few) in
      ap (any_from p 0) all
      ∙ any-parts p 0 (length rows) (192 - length rows)
      ∙ ap₂ ◌||◌ (any_some no_row p q rows 0 here) (any_none p (0 + length rows) (192 - length rows) none)
      ∙ or-false (some q rows)
    where
      p : ℕ → Bool
      p r = firing r && eqb (has (get_or says (r * 4 + f) 0) j) 1

      q : Row → Bool
      q r = fires h r x s && eqb (has (get_or (saying_list (row_saying codes r)) f 0) j) 1

      here : (i : ℕ) → i < length rows → p (0 + i) ≡ q (get_or rows i no_row)
      here i l =
          ap p (zero-add i)
          ∙ ap₂ ◌&&◌ (row-fires table i h (get_or rows i no_row) s v (stand.ones i l) (stand.dashes i l) (stand.group i l)) (ap (λ (m : ℕ). eqb (has m j) 1) (stand.said i f l within))

      none : (r : ℕ) → 0 + length rows ≤ r → r < 0 + length rows + (192 - length rows) → p r ≡ false
      none r a b = ap (λ (t : Bool). t && eqb (has (get_or says (r * 4 + f) 0) j) 1) (row-silent table r h.inputs s v (stand.rest r (omega arith) (omega (arith, stand.few))))

-- an output is meant as the rows say that fire
pub output-meant : (t : Listing) (codes table says : List ℕ) → Stand (all_rows t) codes table says → (s v j : ℕ)
    → meant (listed says (row_fires table t.head.inputs s v) 2 j) (listed says (row_fires table t.head.inputs s v) 3 j) ≡ output_means t (turned t.head.inputs v) s j
unfolding output_means row_saying
output-meant t codes table says stand s v j =
    ap₂ meant (listed-some t.head (all_rows t) codes table says stand s v 2 j (omega arith)) (listed-some t.head (all_rows t) codes table says stand s v 3 j (omega arith))
