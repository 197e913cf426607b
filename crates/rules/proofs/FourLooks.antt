-- At most four moves of a run in which no state moves twice look at a requirement (01, "Looks"); any order, any number of members.
use mathlib.Core.Path.{◌≡◌, refl, ap, ◌∙◌, subst₂}
use mathlib.Core.Bool.{Bool, true, false, ◌&&◌, ◌||◌, cond}
use mathlib.Core.Logic.{◌⊎◌, inl, inr, ⊎_elim}
use mathlib.Core.List.{List, [], ◌∷◌}
use Prim.Native.Nat.{ℕ, zero, suc, ◌+◌, ◌-◌, ◌≤◌, zero-le}
use native.Mathlib.Nat.{le_trans}
use native.Mathlib.Omega.{arith}
use lib.Dec.{leb, eqb}
use borrow.Author.Tests.{leb-true, ne_eqb}
use Rattle.sets.specs.Sets.{has, flip}
use Rattle.rules.specs.Looks.{must_change, near, member, looks_at, move_looks, looks}
use Rattle.rules.specs.declared.Requirement.{Requirement}
use Rattle.rules.proofs.Counts.{cost, Apart, cost-neither, cost-turned, cost-flipped, cost-other, change-flip}
use Rattle.rules.proofs.Or.{or_cases}
use Rattle.rules.proofs.Meeting.{one_way, other_way}
use Rattle.rules.proofs.Runs.{Once, Below, sum_over, sum-fresh, sum-le}
use Rattle.rules.specs.OneBit.{pass_moves}
use Rattle.rules.proofs.Choice.{pass-fair}
use Rattle.rules.proofs.Crossing.{bound, four, go-down, go-up}

-- one look or none
abbrev look_of : ℕ → Requirement → ℕ → ℕ → ℕ
look_of n r b s = cond (looks_at n r b s) 1 0

look-le : (t : Bool) → cond {A = ℕ} t 1 0 ≤ 1
look-le true = omega arith
look-le false = omega arith

-- the move of what is no member does not look
look-out : (n : ℕ) (r : Requirement) (b s : ℕ) → has r.first s + has r.second s ≡ 0 → look_of n r b s ≡ 0
unfolding looks_at
look-out n r b s h =
    let p : eqb (has r.first s) 1 ≡ false = ne_eqb (has r.first s) 1 (λ e. omega arith) in
    let q : eqb (has r.second s) 1 ≡ false = ne_eqb (has r.second s) 1 (λ e. omega arith) in
    rw (p, q)

near-either : (n : ℕ) (r : Requirement) (b : ℕ) → near n r b ≡ true → (one_way n r b ≤ 1) ⊎ (other_way n r b ≤ 1)
unfolding near
near-either n r b e =
    ⊎_elim (λ h. inl (leb-true (one_way n r b) 1 h)) (λ h. inr (leb-true (other_way n r b) 1 h)) (or_cases (leb (one_way n r b) 1) (leb (other_way n r b) 1) e)

-- a move that looks finds few on one side, before or after
look-near : (n : ℕ) (r : Requirement) (b s : ℕ)
    → (look_of n r b s ≡ 0) ⊎ (((one_way n r b ≤ 1) ⊎ (other_way n r b ≤ 1)) ⊎ ((one_way n r (flip b s) ≤ 1) ⊎ (other_way n r (flip b s) ≤ 1)))
unfolding looks_at
look-near n r b s = go (member r s) (near n r b) (near n r (flip b s)) refl refl
  where
    go : (m p q : Bool) → near n r b ≡ p → near n r (flip b s) ≡ q
        → (cond {A = ℕ} (m && (p || q)) 1 0 ≡ 0) ⊎ (((one_way n r b ≤ 1) ⊎ (other_way n r b ≤ 1)) ⊎ ((one_way n r (flip b s) ≤ 1) ⊎ (other_way n r (flip b s) ≤ 1)))
    go false p q x y = inl refl
    go true true q x y = inr (inl (near-either n r b x))
    go true false true x y = inr (inr (near-either n r (flip b s) y))
    go true false false x y = inl refl

module _ (n : ℕ) (r : Requirement) (apart : Apart r.first r.second) where
  looksOn : ℕ → List ℕ → ℕ
  looksOn b [] = 0
  looksOn b (s ∷ ss) = look_of n r b s + looksOn (flip b s) ss

  -- of those that must change now, what the run will still move
  left : ℕ → List ℕ → ℕ
  left b ss = sum_over (cost r.first r.second b) ss

  right : ℕ → List ℕ → ℕ
  right b ss = sum_over (cost r.second r.first b) ss

  bounded : (ss : List ℕ) (b u v : ℕ) → Once ss → Below n ss → one_way n r b ≡ left b ss + u → other_way n r b ≡ right b ss + v
      → looksOn b ss ≤ bound u v (left b ss) (right b ss)
  unfolding looksOn left right sum_over
  bounded [] b u v o l hx hy = zero-le
  bounded (s ∷ ss) b u v o l hx hy =
      pick (has r.first s + has r.second s) (x s) refl refl (λ u' v' h₁ h₂. bounded ss (flip b s) u' v' o.1 l.1 h₁ h₂)
    where
      b' : ℕ
      b' = flip b s

      x : ℕ → ℕ
      x = cost r.first r.second b

      y : ℕ → ℕ
      y = cost r.second r.first b

      x' : ℕ → ℕ
      x' = cost r.first r.second b'

      y' : ℕ → ℕ
      y' = cost r.second r.first b'

      cx : one_way n r b' + x s ≡ one_way n r b + x' s
      cx = change-flip n r.first r.second b s l.0

      cy : other_way n r b' + y s ≡ other_way n r b + y' s
      cy = change-flip n r.second r.first b s l.0

      sx : sum_over x' ss ≡ sum_over x ss
      sx = sum-fresh x' x s ss o.0 (cost-other r.first r.second b s)

      sy : sum_over y' ss ≡ sum_over y ss
      sy = sum-fresh y' y s ss o.0 (cost-other r.second r.first b s)

      pick : (d e : ℕ) → has r.first s + has r.second s ≡ d → x s ≡ e
          → ((u' v' : ℕ) → one_way n r b' ≡ sum_over x' ss + u' → other_way n r b' ≡ sum_over y' ss + v' → looksOn b' ss ≤ bound u' v' (sum_over x' ss) (sum_over y' ss))
          → look_of n r b s + looksOn b' ss ≤ bound u v (x s + sum_over x ss) (y s + sum_over y ss)
      pick zero e hd he rec =
          let zx : x s ≡ 0 = cost-neither r.first r.second b s hd in
          let zy : y s ≡ 0 = cost-neither r.second r.first b s (omega arith) in
          let zx' : x' s ≡ 0 = cost-neither r.first r.second b' s hd in
          let zy' : y' s ≡ 0 = cost-neither r.second r.first b' s (omega arith) in
          let h₁ : one_way n r b' ≡ sum_over x' ss + u = omega (arith, cx, sx) in
          let h₂ : other_way n r b' ≡ sum_over y' ss + v = omega (arith, cy, sy) in
          let i : looksOn b' ss ≤ bound u v (sum_over x' ss) (sum_over y' ss) = rec u v h₁ h₂ in
          let z : look_of n r b s ≡ 0 = look-out n r b s hd in
          let g₁ : sum_over x' ss ≡ x s + sum_over x ss = omega (arith, sx) in
          let g₂ : sum_over y' ss ≡ y s + sum_over y ss = omega (arith, sy) in
          subst₂ (λ (k j : ℕ). look_of n r b s + looksOn b' ss ≤ bound u v k j) g₁ g₂ (omega arith)
      pick (suc zero) zero hd he rec =
          let zy : y s + x s ≡ 1 = cost-turned r.first r.second b s hd in
          let zx' : x' s + x s ≡ 1 = cost-flipped r.first r.second b s hd in
          let zy' : y' s + y s ≡ 1 = cost-flipped r.second r.first b s (omega arith) in
          let g₁ : sum_over x' ss ≡ x s + sum_over x ss = omega (arith, sx) in
          let g₂ : suc (sum_over y' ss) ≡ y s + sum_over y ss = omega (arith, sy) in
          let h₁ : one_way n r b' ≡ sum_over x' ss + suc u = omega (arith, cx, sx) in
          let h₂ : other_way n r b' ≡ sum_over y' ss + v = omega (arith, cy, sy) in
          let i : looksOn b' ss ≤ bound (suc u) v (sum_over x' ss) (sum_over y' ss) = rec (suc u) v h₁ h₂ in
          subst₂ (λ (k j : ℕ). look_of n r b s + looksOn b' ss ≤ bound u v k j) g₁ g₂
          (go-up u v (sum_over x' ss) (sum_over y' ss) (look_of n r b s) (looksOn b' ss) (one_way n r b) (other_way n r b) (one_way n r b') (other_way n r b')
          (omega arith) (omega arith) h₁ h₂ (look-le (looks_at n r b s)) (look-near n r b s) i)
      pick (suc zero) (suc e) hd he rec =
          let zy : y s + x s ≡ 1 = cost-turned r.first r.second b s hd in
          let zx' : x' s + x s ≡ 1 = cost-flipped r.first r.second b s hd in
          let zy' : y' s + y s ≡ 1 = cost-flipped r.second r.first b s (omega arith) in
          let g₁ : suc (sum_over x' ss) ≡ x s + sum_over x ss = omega (arith, sx) in
          let g₂ : sum_over y' ss ≡ y s + sum_over y ss = omega (arith, sy) in
          let h₁ : one_way n r b' ≡ sum_over x' ss + u = omega (arith, cx, sx) in
          let h₂ : other_way n r b' ≡ sum_over y' ss + suc v = omega (arith, cy, sy) in
          let i : looksOn b' ss ≤ bound u (suc v) (sum_over x' ss) (sum_over y' ss) = rec u (suc v) h₁ h₂ in
          subst₂ (λ (k j : ℕ). look_of n r b s + looksOn b' ss ≤ bound u v k j) g₁ g₂
          (go-down u v (sum_over x' ss) (sum_over y' ss) (look_of n r b s) (looksOn b' ss) (one_way n r b) (other_way n r b) (one_way n r b') (other_way n r b')
          (omega arith) (omega arith) h₁ h₂ (look-le (looks_at n r b s)) (look-near n r b s) i)
      pick (suc (suc d)) e hd he rec = absurd (omega (arith, apart s))

  looksOn-four : (b : ℕ) (ss : List ℕ) → Once ss → Below n ss → looksOn b ss ≤ 4
  unfolding left right must_change
  looksOn-four b ss o l =
      let a : left b ss ≤ one_way n r b = sum-le n (cost r.first r.second b) ss o l in
      let c : right b ss ≤ other_way n r b = sum-le n (cost r.second r.first b) ss o l in
      le_trans (bounded ss b (one_way n r b - left b ss) (other_way n r b - right b ss) o l (omega arith) (omega arith))
      (four (one_way n r b - left b ss) (other_way n r b - right b ss) (left b ss) (right b ss))

  looks-one : (b : ℕ) (ss : List ℕ) → looks n (r ∷ []) b ss ≡ looksOn b ss
  unfolding looks move_looks looksOn
  looks-one b [] = refl
  looks-one b (s ∷ ss) = let e : looks n (r ∷ []) (flip b s) ss ≡ looksOn (flip b s) ss = looks-one (flip b s) ss in omega arith

  -- at most four moves of a run look at one requirement
  pub four-looks : (b : ℕ) (ss : List ℕ) → Once ss → Below n ss → looks n (r ∷ []) b ss ≤ 4
  four-looks b ss o l = let e = looks-one b ss in let h = looksOn-four b ss o l in omega arith

-- at most four moves of a pass look at any one requirement
pub four-of-a-pass : (n : ℕ) (rs : List Requirement) (b : ℕ) (r : Requirement) → Apart r.first r.second → looks n (r ∷ []) b (pass_moves n rs b) ≤ 4
four-of-a-pass n rs b r apart = let f = pass-fair n rs b in four-looks n r apart b (pass_moves n rs b) f.once f.below

-- the looks of a run are those on each requirement, summed
unfoldable pub looks_each : ℕ → List Requirement → ℕ → List ℕ → ℕ
looks_each n [] b ss = 0
looks_each n (r ∷ rs) b ss = looks n (r ∷ []) b ss + looks_each n rs b ss

looks-none : (n : ℕ) (b : ℕ) (ss : List ℕ) → looks n [] b ss ≡ 0
unfolding looks move_looks
looks-none n b [] = refl
looks-none n b (s ∷ ss) = let e : looks n [] (flip b s) ss ≡ 0 = looks-none n (flip b s) ss in omega arith

looks-first : (n : ℕ) (r : Requirement) (rs : List Requirement) (b : ℕ) (ss : List ℕ) → looks n (r ∷ rs) b ss ≡ looks n (r ∷ []) b ss + looks n rs b ss
unfolding looks move_looks
looks-first n r rs b [] = refl
looks-first n r rs b (s ∷ ss) =
    let e : looks n (r ∷ rs) (flip b s) ss ≡ looks n (r ∷ []) (flip b s) ss + looks n rs (flip b s) ss = looks-first n r rs (flip b s) ss in
    omega arith

pub looks-each : (n : ℕ) (rs : List Requirement) (b : ℕ) (ss : List ℕ) → looks n rs b ss ≡ looks_each n rs b ss
unfolding looks_each
looks-each n [] b ss = looks-none n b ss
looks-each n (r ∷ rs) b ss = looks-first n r rs b ss ∙ ap (λ (k : ℕ). looks n (r ∷ []) b ss + k) (looks-each n rs b ss)
