-- The live pairs of one state with those behind it, and the flip of a state: how many are met, and how many the move looks at.
use mathlib.Core.Path.{◌≡◌, refl, ap, ap₂, ◌∙◌}
use mathlib.Core.Bool.{cond}
use mathlib.Core.List.{map}
use Prim.Native.Nat.{ℕ, ◌+◌, ◌-◌, ◌%◌, ◌≤◌, ◌<◌}
use native.Mathlib.Omega.{arith}
use lib.Dec.{eqb}
use Rattle.sets.specs.Sets.{has, flip as turn, total, states_from}
use Rattle.sets.proofs.Members.{has-lt, has-flip, has-flip-other}
use Rattle.sets.proofs.Totals.{total-same}
use Rattle.rules.specs.Requirements.{met_count}
use Rattle.rules.specs.Looks.{looks_at, move_looks}
use Rattle.move_table.proofs.Shares.{is_met}
use Rattle.families.specs.Families.{inside}
use Rattle.move_halves.proofs.Sums.{met-counted, looks-counted, counted-from, over}
use Rattle.move_halves.proofs.Sides.{digit}
use Rattle.move_pairs.proofs.Pair.{pair, unlike, pair-met}

-- after the flip of the first or of the second the values are unlike where they were like
pub unlike-first : (x i j : ℕ) → (j ≡ i → ⊥) → unlike (turn x i) i j ≡ 1 - unlike x i j
unlike-first x i j o =
    ap₂ (λ (c d : ℕ). (c + d) % 2) (has-flip x i) (has-flip-other x i j o) ∙ go (has x i) (has-lt x i) (has x j) (has-lt x j)
  where
    go : (c : ℕ) → c < 2 → (d : ℕ) → d < 2 → ((1 - c) + d) % 2 ≡ 1 - (c + d) % 2
    go c p d q =
        digit (λ c. ((1 - c) + d) % 2 ≡ 1 - (c + d) % 2) c p
        (digit (λ d. (1 + d) % 2 ≡ 1 - (0 + d) % 2) d q refl refl)
        (digit (λ d. (0 + d) % 2 ≡ 1 - (1 + d) % 2) d q refl refl)

pub unlike-turned : (x i j : ℕ) → unlike x i j ≡ unlike x j i
unlike-turned x i j = let e : has x i + has x j ≡ has x j + has x i = omega arith in ap (λ (m : ℕ). m % 2) e

pub unlike-second : (x i j : ℕ) → (i ≡ j → ⊥) → unlike (turn x j) i j ≡ 1 - unlike x i j
unlike-second x i j o = unlike-turned (turn x j) i j ∙ unlike-first x j i o ∙ ap (λ (d : ℕ). 1 - d) (unlike-turned x j i)

pub unlike-other : (x i j s : ℕ) → (i ≡ s → ⊥) → (j ≡ s → ⊥) → unlike (turn x s) i j ≡ unlike x i j
unlike-other x i j s o q = ap₂ (λ (c d : ℕ). (c + d) % 2) (has-flip-other x s i o) (has-flip-other x s j q)

pub unlike-lt : (x i j : ℕ) → unlike x i j ≤ 1
unlike-lt x i j = omega arith

-- the partners p of state i among the m states from a on
module _ (n p i a m : ℕ) (hi : i < n) (behind : i < a) (within : a + m ≤ n) where
  other : (d : ℕ) → a + d ≡ i → ⊥
  other d e = omega arith

  pub row-met : (x : ℕ) → met_count n (map (pair i) (inside p (states_from a m))) x ≡ total m (λ d. over p (unlike x i) (a + d))
  row-met x =
      met-counted n x (pair i) (inside p (states_from a m))
      ∙ counted-from p (λ j. is_met n (pair i j) x) a m
      ∙ total-same m (λ d. over p (λ j. is_met n (pair i j) x) (a + d)) (λ d. over p (unlike x i) (a + d))
      (λ d h. ap (λ (v : ℕ). cond (eqb (has p (a + d)) 1) v 0) (pair-met n i (a + d) hi (omega arith) (other d) x))

  pub row-looks : (b s : ℕ) → move_looks n (map (pair i) (inside p (states_from a m))) b s ≡ total m (λ d. over p (λ j. cond (looks_at n (pair i j) b s) 1 0) (a + d))
  row-looks b s = looks-counted n b (pair i) s (inside p (states_from a m)) ∙ counted-from p (λ j. cond (looks_at n (pair i j) b s) 1 0) a m
