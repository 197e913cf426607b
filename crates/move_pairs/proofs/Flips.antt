-- All live pairs, and the flip of a state: of its pairs those that were met are not, and those that were not are; its move looks at each of them.
use mathlib.Core.Path.{◌≡◌, refl, sym, ap, ap₂, ◌∙◌, subst}
use mathlib.Core.Bool.{Bool, true, false, cond}
use mathlib.Core.List.{List, map}
use Prim.Native.Nat.{ℕ, zero, suc, ◌+◌, ◌-◌, ◌*◌, ◌≤◌, ◌<◌}
use native.Mathlib.Nat.{add-zero}
use native.Mathlib.Decide.{ℕ_discrete}
use native.Mathlib.Omega.{arith}
use lib.Dec.{eqb}
use lib.ListN.{get_or}
use Rattle.sets.specs.Sets.{has, flip as turn, total, states_from}
use Rattle.sets.proofs.Members.{has-lt}
use Rattle.sets.proofs.Totals.{total-same, total-change, none-total}
use Rattle.rules.specs.Requirements.{met_count}
use Rattle.rules.specs.Looks.{looks_at, move_looks}
use Rattle.rules.proofs.Good.{AllGood}
use Rattle.families.specs.Families.{inside}
use Rattle.move_halves.proofs.Sums.{over, over-in, over-out, total-add}
use Rattle.move_families.proofs.Whole.{met-append, looks-append, good-append}
use Rattle.move_pairs.proofs.Partners.{pairs_among, Partners}
use Rattle.move_pairs.proofs.Pair.{pair, unlike, pair-good, look-first, look-second, look_none}
use Rattle.move_pairs.proofs.Row.{unlike-first, unlike-turned, unlike-second, unlike-other, unlike-lt, row-met, row-looks}

shift : (f : ℕ → ℕ) (a m : ℕ) → total m (λ d. f (a + suc d)) ≡ total m (λ d. f (suc a + d))
shift f a m = total-same m (λ d. f (a + suc d)) (λ d. f (suc a + d)) (λ d _. ap f (next d))
  where
    next : (d : ℕ) → a + suc d ≡ suc a + d
    next d = omega arith

-- a sum whose first part is written out
first_part : (f : ℕ → ℕ) (a m : ℕ) → total (suc m) (λ d. f (a + d)) ≡ f a + total m (λ d. f (suc a + d))
unfolding total
first_part f a m = ap₂ (λ (x y : ℕ). x + y) (ap f (add-zero a)) (shift f a m)

-- a partner counts once: like or unlike
over-both : (p : ℕ) (f : ℕ → ℕ) (j : ℕ) → f j ≤ 1 → over p f j + over p (λ j. 1 - f j) j ≡ has p j
over-both p f j h = go (has p j) refl
  where
    go : (d : ℕ) → has p j ≡ d → over p f j + over p (λ j. 1 - f j) j ≡ has p j
    go zero e = omega (arith, over-out p f j e, over-out p (λ j. 1 - f j) j e)
    go (suc d) e =
        let i : has p j ≡ 1 = omega (arith, has-lt p j) in
        omega (arith, over-in p f j i, over-in p (λ j. 1 - f j) j i)

over-one : (p : ℕ) (f : ℕ → ℕ) (j : ℕ) → f j ≡ 1 → over p f j ≡ has p j
over-one p f j h = go (has p j) refl
  where
    go : (d : ℕ) → has p j ≡ d → over p f j ≡ has p j
    go zero e = omega (arith, over-out p f j e)
    go (suc d) e =
        let i : has p j ≡ 1 = omega (arith, has-lt p j) in
        omega (arith, over-in p f j i)

over-same : (p : ℕ) (f g : ℕ → ℕ) (j : ℕ) → f j ≡ g j → over p f j ≡ over p g j
over-same p f g j e = ap (λ (v : ℕ). cond (eqb (has p j) 1) v 0) e

over_zero : (p : ℕ) (f : ℕ → ℕ) (j : ℕ) → f j ≡ 0 → over p f j ≡ 0
over_zero p f j e = over-same p f (λ _. 0) j e ∙ go (eqb (has p j) 1)
  where
    go : (u : Bool) → cond {A = ℕ} u 0 0 ≡ 0
    go true = refl
    go false = refl

module _ (n : ℕ) (ps : List ℕ) (table : Partners ps) where
  abbrev of : ℕ → ℕ
  of i = get_or ps i 0

  abbrev M : ℕ → ℕ → ℕ → ℕ
  M a m x = met_count n (pairs_among ps (states_from a m)) x

  abbrev K : ℕ → ℕ → ℕ → ℕ → ℕ
  K a m b s = move_looks n (pairs_among ps (states_from a m)) b s

  met-step : (a m x : ℕ) → a + suc m ≤ n → M a (suc m) x ≡ total m (λ d. over (of a) (unlike x a) (suc a + d)) + M (suc a) m x
  unfolding pairs_among states_from
  met-step a m x w =
      met-append n (map (pair a) (inside (of a) (states_from (suc a) m))) (pairs_among ps (states_from (suc a) m)) x
      ∙ ap (λ (k : ℕ). k + M (suc a) m x) (row-met n (of a) a (suc a) m (omega arith) (omega arith) (omega arith) x)

  looks-step : (a m b s : ℕ) → a + suc m ≤ n
      → K a (suc m) b s ≡ total m (λ d. over (of a) (λ j. cond (looks_at n (pair a j) b s) 1 0) (suc a + d)) + K (suc a) m b s
  unfolding pairs_among states_from
  looks-step a m b s w =
      looks-append n (map (pair a) (inside (of a) (states_from (suc a) m))) (pairs_among ps (states_from (suc a) m)) b s
      ∙ ap (λ (k : ℕ). k + K (suc a) m b s) (row-looks n (of a) a (suc a) m (omega arith) (omega arith) (omega arith) b s)

  -- a state that stands in no pair of the list
  pub met-out : (x s m a : ℕ) → a + m ≤ n → ((d : ℕ) → d < m → a + d ≡ s → ⊥) → M a m (turn x s) ≡ M a m x
  unfolding pairs_among states_from met_count
  met-out x s zero a w o = refl
  met-out x s (suc m) a w o =
      met-step a m (turn x s) w
      ∙ ap₂ (λ (k j : ℕ). k + j)
      (total-same m (λ d. over (of a) (unlike (turn x s) a) (suc a + d)) (λ d. over (of a) (unlike x a) (suc a + d))
      (λ d h. over-same (of a) (unlike (turn x s) a) (unlike x a) (suc a + d) (unlike-other x a (suc a + d) s (λ e. o 0 (omega arith) (omega arith)) (λ e. o (suc d) (omega arith) (omega arith)))))
      (met-out x s m (suc a) (omega arith) (λ d h e. o (suc d) (omega arith) (omega arith)))
      ∙ sym (met-step a m x w)

  pub looks-out : (b s m a : ℕ) → s < n → a + m ≤ n → ((d : ℕ) → d < m → a + d ≡ s → ⊥) → K a m b s ≡ 0
  unfolding pairs_among states_from move_looks
  looks-out b s zero a hs w o = refl
  looks-out b s (suc m) a hs w o =
      looks-step a m b s w
      ∙ ap₂ (λ (k j : ℕ). k + j)
      (none-total m (λ d. over (of a) (λ j. cond (looks_at n (pair a j) b s) 1 0) (suc a + d))
      (λ d h. over_zero (of a) (λ j. cond (looks_at n (pair a j) b s) 1 0) (suc a + d)
      (ap (λ (u : Bool). cond u 1 0) (look_none n a (suc a + d) (omega arith) (omega arith) (λ e. omega arith) b s hs (λ e. o 0 (omega arith) (omega arith)) (λ e. o (suc d) (omega arith) (omega arith))))))
      (looks-out b s m (suc a) hs (omega arith) (λ d h e. o (suc d) (omega arith) (omega arith)))

  -- a state of the list
  module _ (s : ℕ) where
    -- its partners of other value, and its partners, from a on
    abbrev D : ℕ → ℕ → ℕ → ℕ
    D x a m = total m (λ d. over (of s) (unlike x s) (a + d))

    abbrev N : ℕ → ℕ → ℕ
    N a m = total m (λ d. has (of s) (a + d))

    at_first : (x m : ℕ) → s + suc m ≤ n → M s (suc m) (turn x s) + 2 * D x s (suc m) ≡ M s (suc m) x + N s (suc m)
    at_first x m w =
        let r : ℕ = total m (λ d. over (of s) (unlike x s) (suc s + d)) in
        let r' : ℕ = total m (λ d. over (of s) (unlike (turn x s) s) (suc s + d)) in
        let k : ℕ = total m (λ d. has (of s) (suc s + d)) in
        let e : r + r' ≡ k =
        sym (total-add m (λ d. over (of s) (unlike x s) (suc s + d)) (λ d. over (of s) (unlike (turn x s) s) (suc s + d)))
        ∙ total-same m (λ d. over (of s) (unlike x s) (suc s + d) + over (of s) (unlike (turn x s) s) (suc s + d)) (λ d. has (of s) (suc s + d))
        (λ d h. ap (λ (v : ℕ). over (of s) (unlike x s) (suc s + d) + v) (over-same (of s) (unlike (turn x s) s) (λ j. 1 - unlike x s j) (suc s + d) (unlike-first x s (suc s + d) (λ z. omega arith)))
        ∙ over-both (of s) (unlike x s) (suc s + d) (unlike-lt x s (suc s + d))) in
        let own : over (of s) (unlike x s) s ≡ 0 = over-out (of s) (unlike x s) s (table.others s) in
        let p = met-step s m (turn x s) w in
        let q = met-step s m x w in
        let o = met-out x s m (suc s) (omega arith) (λ d h z. omega arith) in
        let u = first_part (over (of s) (unlike x s)) s m in
        let v = first_part (has (of s)) s m in
        sums (M s (suc m) (turn x s)) (M s (suc m) x) (D x s (suc m)) (N s (suc m)) r r' k (M (suc s) m (turn x s)) (M (suc s) m x) (over (of s) (unlike x s) s) (has (of s) s) p q o u v e own (table.others s)
      where
        sums : (M' M D N r r' k J' J g h : ℕ) → M' ≡ r' + J' → M ≡ r + J → J' ≡ J → D ≡ g + r → N ≡ h + k → r + r' ≡ k → g ≡ 0 → h ≡ 0 → M' + 2 * D ≡ M + N
        sums M' M D N r r' k J' J g h a b c d e f i j = omega arith

    pub met-in : (x m a : ℕ) → a + m ≤ n → a ≤ s → s < a + m → M a m (turn x s) + 2 * D x a m ≡ M a m x + N a m
    met-in x zero a w l h = absurd (omega arith)
    met-in x (suc m) a w l h = go (ℕ_discrete a s) (λ o. met-in x m (suc a) (omega arith) (omega arith) (omega arith))
      where
        go : Dec (a ≡ s) → ((a ≡ s → ⊥) → M (suc a) m (turn x s) + 2 * D x (suc a) m ≡ M (suc a) m x + N (suc a) m) → M a (suc m) (turn x s) + 2 * D x a (suc m) ≡ M a (suc m) x + N a (suc m)
        go (yes e) later = subst (λ (a : ℕ). a + suc m ≤ n → M a (suc m) (turn x s) + 2 * D x a (suc m) ≡ M a (suc m) x + N a (suc m)) (sym e) (λ w. at_first x m w) w
        go (no o) later =
            let f : ℕ → ℕ = λ d. over (of a) (unlike x a) (suc a + d) in
            let f' : ℕ → ℕ = λ d. over (of a) (unlike (turn x s) a) (suc a + d) in
            let e : ℕ = s - suc a in
            let at : suc a + e ≡ s = omega arith in
            let c : total m f' + f e ≡ total m f + f' e =
            total-change m e f' f (omega arith) (λ d p q. over-same (of a) (unlike (turn x s) a) (unlike x a) (suc a + d) (unlike-other x a (suc a + d) s o (λ z. q (omega arith)))) in
            let g : f e ≡ over (of s) (unlike x s) a = ap (over (of a) (unlike x a)) at ∙ mirror x in
            let g' : f e + f' e ≡ has (of s) a =
            ap (λ (v : ℕ). f e + v) (over-same (of a) (unlike (turn x s) a) (λ j. 1 - unlike x a j) (suc a + e) (ap (unlike (turn x s) a) at ∙ unlike-second x a s o ∙ ap (λ (v : ℕ). 1 - unlike x a v) (sym at)))
            ∙ over-both (of a) (unlike x a) (suc a + e) (unlike-lt x a (suc a + e))
            ∙ ap (has (of a)) at
            ∙ table.back a s in
            sums (M a (suc m) (turn x s)) (M a (suc m) x) (D x a (suc m)) (N a (suc m)) (total m f) (total m f') (f e) (f' e) (M (suc a) m (turn x s)) (M (suc a) m x) (D x (suc a) m) (N (suc a) m) (over (of s) (unlike x s) a) (has (of s) a)
            (met-step a m (turn x s) w) (met-step a m x w) (first_part (over (of s) (unlike x s)) a m) (first_part (has (of s)) a m) c g g' (later o)
          where
            mirror : (x : ℕ) → over (of a) (unlike x a) s ≡ over (of s) (unlike x s) a
            mirror x = ap₂ (λ (d v : ℕ). cond (eqb d 1) v 0) (table.back a s) (unlike-turned x a s)

            sums : (M' M D N r r' u u' J' J D' N' g h : ℕ) → M' ≡ r' + J' → M ≡ r + J → D ≡ g + D' → N ≡ h + N' → r' + u ≡ r + u' → u ≡ g → u + u' ≡ h → J' + 2 * D' ≡ J + N' → M' + 2 * D ≡ M + N
            sums M' M D N r r' u u' J' J D' N' g h a b c d e f i j = omega arith

    pub looks-in : (b m a : ℕ) → s < n → a + m ≤ n → a ≤ s → s < a + m → K a m b s ≡ N a m
    looks-in b zero a hs w l h = absurd (omega arith)
    looks-in b (suc m) a hs w l h = go (ℕ_discrete a s) (λ o. looks-in b m (suc a) hs (omega arith) (omega arith) (omega arith))
      where
        look : ℕ → ℕ → ℕ
        look a j = cond (looks_at n (pair a j) b s) 1 0

        first : s + suc m ≤ n → K s (suc m) b s ≡ N s (suc m)
        first w =
            looks-step s m b s w
            ∙ ap₂ (λ (k j : ℕ). k + j)
            (total-same m (λ d. over (of s) (look s) (suc s + d)) (λ d. has (of s) (suc s + d))
            (λ d h. over-one (of s) (look s) (suc s + d) (ap (λ (u : Bool). cond u 1 0) (look-first n s (suc s + d) (omega arith) (omega arith) (λ z. omega arith) b))))
            (looks-out b s m (suc s) hs (omega arith) (λ d h z. omega arith))
            ∙ last (total m (λ d. has (of s) (suc s + d))) (N s (suc m)) (has (of s) s) (first_part (has (of s)) s m) (table.others s)
          where
            last : (r k g : ℕ) → k ≡ g + r → g ≡ 0 → r + 0 ≡ k
            last r k g e f = omega arith

        go : Dec (a ≡ s) → ((a ≡ s → ⊥) → K (suc a) m b s ≡ N (suc a) m) → K a (suc m) b s ≡ N a (suc m)
        go (yes e) later = subst (λ (a : ℕ). a + suc m ≤ n → K a (suc m) b s ≡ N a (suc m)) (sym e) first w
        go (no o) later =
            let f : ℕ → ℕ = λ d. over (of a) (look a) (suc a + d) in
            let e : ℕ = s - suc a in
            let at : suc a + e ≡ s = omega arith in
            let none : total m (λ d. 0) ≡ 0 = none-total m (λ d. 0) (λ d _. refl) in
            let c : total m f + 0 ≡ total m (λ d. 0) + f e =
            total-change m e f (λ d. 0) (omega arith)
            (λ d p q. over_zero (of a) (look a) (suc a + d) (ap (λ (u : Bool). cond u 1 0) (look_none n a (suc a + d) (omega arith) (omega arith) (λ z. omega arith) b s hs (λ z. o (sym z)) (λ z. q (omega arith))))) in
            let g : f e ≡ has (of s) a =
            ap (over (of a) (look a)) at
            ∙ over-one (of a) (look a) s (ap (λ (u : Bool). cond u 1 0) (look-second n a s (omega arith) hs (λ z. o (sym z)) b))
            ∙ table.back a s in
            looks-step a m b s w ∙ last (total m f) (total m (λ d. 0)) (f e) (has (of s) a) (K (suc a) m b s) (N (suc a) m) (N a (suc m)) none c g (later o) (first_part (has (of s)) a m)
          where
            last : (r z u h k j q : ℕ) → z ≡ 0 → r + 0 ≡ z + u → u ≡ h → k ≡ j → q ≡ h + j → r + k ≡ q
            last r z u h k j q a b c d e = omega arith

  -- they are requirements of n states
  row-good : (p i m a : ℕ) → i < a → a + m ≤ n → AllGood n (map (pair i) (inside p (states_from a m)))
  unfolding inside states_from
  row-good p i zero a l w = tt
  row-good p i (suc m) a l w = go (has p a) refl (row-good p i m (suc a) (omega arith) (omega arith))
    where
      go : (d : ℕ) → has p a ≡ d → AllGood n (map (pair i) (inside p (states_from (suc a) m))) → AllGood n (map (pair i) (inside p (states_from a (suc m))))
      go zero e more = rw (inside, e) more
      go (suc d) e more = rw (inside, e) (pair-good n i a (omega arith) (omega arith) (λ z. omega arith), more)

  pub pairs-good : (m a : ℕ) → a + m ≤ n → AllGood n (pairs_among ps (states_from a m))
  unfolding pairs_among states_from
  pairs-good zero a w = tt
  pairs-good (suc m) a w =
      good-append n (map (pair a) (inside (of a) (states_from (suc a) m))) (pairs_among ps (states_from (suc a) m)) (row-good (of a) a m (suc a) (omega arith) (omega arith)) (pairs-good m (suc a) (omega arith))
