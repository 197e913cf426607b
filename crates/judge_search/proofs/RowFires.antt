-- A row of the table fires where the row fires that it stands for: the inputs that a number is, the leftmost its highest digit, are those of the input vector.
use mathlib.Core.Path.{◌≡◌, refl, sym, ap, ap₂, ◌∙◌}
use mathlib.Core.Bool.{Bool, true, false, ◌&&◌, ◌||◌}
use mathlib.Core.List.{List}
use Prim.Native.Nat.{ℕ, zero, suc, ◌+◌, ◌*◌, ◌/◌, ◌<◌}
use native.Mathlib.Nat.{zero-add}
use native.Mathlib.Omega.{arith}
use lib.Dec.{eqb}
use lib.ListN.{get_or}
use Rattle.sets.specs.Sets.{has, every}
use Rattle.sets.proofs.Every.{every-same}
use Rattle.sets.proofs.Members.{has-lt, has-none, has-zero, has-suc}
use Rattle.rules.specs.Least.{turned}
use Rattle.rules.specs.Cover.{fires}
use Rattle.rules.specs.declared.Head.{Head}
use Rattle.rules.specs.declared.Row.{Row}
use Rattle.judge_search.specs.Rows.{lets, stands, lets_from, row_fires}

-- ---- the digits turned

first-turned : (k v : ℕ) → has (turned (suc k) v) 0 ≡ has v k
unfolding turned
first-turned k v = has-zero (turned k v * 2 + has v k) ∙ omega (arith, has-lt v k)

later-turned : (k v j : ℕ) → has (turned (suc k) v) (suc j) ≡ has (turned k v) j
unfolding turned
later-turned k v j = has-suc (turned k v * 2 + has v k) j ∙ ap (λ (m : ℕ). has m j) (half (turned k v) (has v k) (has-lt v k))
  where
    half : (x d : ℕ) → d < 2 → (x * 2 + d) / 2 ≡ x
    half x d h = omega arith

module _ (table : List ℕ) (r : ℕ) where
  pub lets-each : (k j v : ℕ) → lets_from table j k v r ≡ every k (λ m. lets table (j + m) (has (turned k v) m) r)
  unfolding lets_from every
  lets-each zero j v = refl
  lets-each (suc k) j v =
      let here : j ≡ j + 0 = omega arith in
      ap₂ ◌&&◌
      (ap₂ (λ (a d : ℕ). lets table a d r) here (sym (first-turned k v)))
      (lets-each k (suc j) v ∙ every-same k _ _ (λ m l. let e : suc j + m ≡ j + suc m = omega arith in ap₂ (λ (a d : ℕ). lets table a d r) e (sym (later-turned k v m))))

  -- a row of a listing in the table
  pub row-fires : (h : Head) (q : Row) (s v : ℕ) → get_or table (r * 3) 0 ≡ q.input.ones → get_or table (r * 3 + 1) 0 ≡ q.input.dashes → get_or table (r * 3 + 2) 0 ≡ q.group
      → row_fires table h.inputs s v r ≡ fires h q (turned h.inputs v) s
  unfolding row_fires stands lets fires
  row-fires h q s v ones dashes group =
      ap₂ ◌&&◌
      (ap (λ (g : ℕ). eqb (has g s) 1) group)
      (lets-each h.inputs 0 v
      ∙ every-same h.inputs _ _
      (λ j l. ap₂ (λ (d o : ℕ). eqb (has d (0 + j)) 1 || eqb (has o (0 + j)) (has (turned h.inputs v) j)) dashes ones ∙ ap (λ (i : ℕ). eqb (has q.input.dashes i) 1 || eqb (has q.input.ones i) (has (turned h.inputs v) j)) (zero-add j)))
      ∙ swapped (eqb (has q.group s) 1) (every h.inputs (λ j. eqb (has q.input.dashes j) 1 || eqb (has q.input.ones j) (has (turned h.inputs v) j)))
    where
      swapped : (a b : Bool) → (a && b) ≡ (b && a)
      swapped true true = refl
      swapped true false = refl
      swapped false true = refl
      swapped false false = refl

  -- where it stands in no state, nowhere
  pub row-silent : (i s v : ℕ) → get_or table (r * 3 + 2) 0 ≡ 0 → row_fires table i s v r ≡ false
  unfolding row_fires stands
  row-silent i s v none = ap (λ (g : ℕ). eqb (has g s) 1 && lets_from table 0 i v r) none ∙ ap (λ (d : ℕ). eqb d 1 && lets_from table 0 i v r) (has-none s)
