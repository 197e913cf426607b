-- The whole bit complemented (01, "One bit"): it meets the same requirements, state 0 has value 0, and no single flip raises the number met.
use mathlib.Core.Path.{◌≡◌, refl, sym, ap, ap₂, ◌∙◌, subst}
use mathlib.Core.Bool.{Bool, true, false, cond}
use mathlib.Core.Logic.{◌⊎◌, inl, inr, ⊎_elim}
use mathlib.Core.List.{List, [], ◌∷◌}
use Prim.Native.Nat.{ℕ, zero, suc, ◌+◌, ◌-◌, ◌≤◌, ◌<◌, ◌^◌}
use native.Mathlib.Omega.{arith}
use native.Mathlib.Decide.{ℕ_discrete}
use lib.Dec.{ltb, eqb}
use borrow.Author.Tests.{eqb-true, eqb-false}
use lib.ListN.{length}
use Rattle.sets.specs.Sets.{has, flip, everyone}
use Rattle.sets.proofs.Members.{has-lt, has-not, has-flip, has-flip-other, flip-lt, not-lt}
use Rattle.rules.specs.Requirements.{met, met_count}
use Rattle.rules.specs.Looks.{looks}
use Rattle.rules.specs.OneBit.{start, pass_moves, kept, passes_from, passes, counted, complemented, new_bit}
use Rattle.rules.specs.declared.Requirement.{Requirement}
use Rattle.rules.proofs.Counts.{Apart}
use Rattle.rules.proofs.Meeting.{Split, met-means, means-met}
use Rattle.rules.proofs.Runs.{Below}
use Rattle.rules.proofs.Choice.{pass-fair}
use Rattle.rules.proofs.Passes.{NoFlipRaises, passes-best, passes-meet}

-- ---- the complement meets the same

-- each of the n states has the other value
abbrev pub Turned : ℕ → ℕ → ℕ → Type 0
Turned n a b = (s : ℕ) → s < n → has a s ≡ 1 - has b s

same_truth : (x y : Bool) → (x ≡ true → y ≡ true) → (y ≡ true → x ≡ true) → x ≡ y
same_truth true y f g = sym (f refl)
same_truth false true f g = g refl
same_truth false false f g = refl

split-turned : (n z o a b : ℕ) → Turned n a b → Split n z o a → Split n o z b
split-turned n z o a b t h = record {
  zeros = λ s p q. (let e = h.ones s p q in omega (arith, t s p, has-lt b s));
  ones = λ s p q. (let e = h.zeros s p q in omega (arith, t s p, has-lt b s));
}

turned-back : (n a b : ℕ) → Turned n a b → Turned n b a
turned-back n a b t s p = omega (arith, t s p, has-lt b s)

met_turned : (n : ℕ) (r : Requirement) (a b : ℕ) → Turned n a b → met n r a ≡ met n r b
met_turned n r a b t = same_truth (met n r a) (met n r b) (over a b t) (over b a (turned-back n a b t))
  where
    over : (x y : ℕ) → Turned n x y → met n r x ≡ true → met n r y ≡ true
    over x y u e =
        ⊎_elim (λ h. means-met n r y (inr (split-turned n r.first r.second x y u h))) (λ h. means-met n r y (inl (split-turned n r.second r.first x y u h)))
        (met-means n r x e)

pub count-turned : (n : ℕ) (rs : List Requirement) (a b : ℕ) → Turned n a b → met_count n rs a ≡ met_count n rs b
unfolding met_count
count-turned n [] a b t = refl
count-turned n (r ∷ rs) a b t = ap₂ (λ (x : Bool) (y : ℕ). cond x 1 0 + y) (met_turned n r a b t) (count-turned n rs a b t)

flip-turned : (n a b u : ℕ) → Turned n a b → Turned n (flip a u) (flip b u)
flip-turned n a b u t s p = at (ℕ_discrete s u)
  where
    at : Dec (s ≡ u) → has (flip a u) s ≡ 1 - has (flip b u) s
    at (yes d) = subst (λ (v : ℕ). has (flip a v) s ≡ 1 - has (flip b v) s) d (omega (arith, has-flip a s, has-flip b s, t s p))
    at (no d) = has-flip-other a u s d ∙ t s p ∙ ap (λ (v : ℕ). 1 - v) (sym (has-flip-other b u s d))

-- ---- a bit has no digit at n or above

below-lt : (m : ℕ) (t : Bool) (x y : ℕ) → x < m → y < m → cond t x y < m
below-lt m true x y p q = p
below-lt m false x y p q = q

kept-lt : (n : ℕ) (rs : List Requirement) (ss : List ℕ) (b : ℕ) → Below n ss → b < 2 ^ n → kept n rs b ss < 2 ^ n
unfolding kept
kept-lt n rs [] b l p = p
kept-lt n rs (s ∷ ss) b l p =
    below-lt (2 ^ n) (ltb (met_count n rs b) (met_count n rs (kept n rs (flip b s) ss))) (kept n rs (flip b s) ss) b
    (kept-lt n rs ss (flip b s) l.1 (flip-lt n b s p l.0)) p

passes-lt : (k n : ℕ) (rs : List Requirement) (b : ℕ) → b < 2 ^ n → (passes_from k n rs b).bit < 2 ^ n
unfolding passes_from
passes-lt zero n rs b p = p
passes-lt (suc k) n rs b p =
    go (ltb (met_count n rs b) (met_count n rs (kept n rs b (pass_moves n rs b))))
    (passes-lt k n rs (kept n rs b (pass_moves n rs b)) (kept-lt n rs (pass_moves n rs b) b (pass-fair n rs b).below p))
  where
    go : (t : Bool) → (passes_from k n rs (kept n rs b (pass_moves n rs b))).bit < 2 ^ n
        → (cond t (counted (looks n rs b (pass_moves n rs b)) (passes_from k n rs (kept n rs b (pass_moves n rs b)))) (record { bit = b; passes = 1; looks = looks n rs b (pass_moves n rs b) })).bit < 2 ^ n
    go true q = q
    go false q = p

-- ---- the new bit

-- as it stands, or complemented
complemented-is : (n b : ℕ) → b < 2 ^ n → ((complemented n b ≡ b) × (has b 0 ≡ 0)) ⊎ ((complemented n b ≡ everyone n - b) × (has b 0 ≡ 1))
unfolding complemented
complemented-is n b p = go (eqb (has b 0) 1) refl
  where
    go : (t : Bool) → eqb (has b 0) 1 ≡ t → ((cond t (everyone n - b) b ≡ b) × (has b 0 ≡ 0)) ⊎ ((cond t (everyone n - b) b ≡ everyone n - b) × (has b 0 ≡ 1))
    go true e = inr (refl, eqb-true (has b 0) 1 e)
    go false e = inl (refl, (let h = eqb-false (has b 0) 1 e in omega (arith, has-lt b 0)))

zero-first : (n b : ℕ) → 0 < n → b < 2 ^ n → has (complemented n b) 0 ≡ 0
zero-first n b h p =
    ⊎_elim (λ e. ap (λ (m : ℕ). has m 0) e.0 ∙ e.1) (λ e. ap (λ (m : ℕ). has m 0) e.0 ∙ has-not n b 0 p h ∙ ap (λ (m : ℕ). 1 - m) e.1) (complemented-is n b p)

complemented-lt : (n b : ℕ) → b < 2 ^ n → complemented n b < 2 ^ n
complemented-lt n b p =
    ⊎_elim (λ e. subst (λ (m : ℕ). m < 2 ^ n) (sym e.0) p) (λ e. subst (λ (m : ℕ). m < 2 ^ n) (sym e.0) (not-lt n b)) (complemented-is n b p)

-- as many are met either way round
count-complemented : (n : ℕ) (rs : List Requirement) (b : ℕ) → b < 2 ^ n → met_count n rs (complemented n b) ≡ met_count n rs b
count-complemented n rs b p =
    ⊎_elim (λ e. ap (met_count n rs) e.0) (λ e. ap (met_count n rs) e.0 ∙ count-turned n rs (everyone n - b) b (λ s h. has-not n b s p h)) (complemented-is n b p)

no-flip-turned : (n : ℕ) (rs : List Requirement) (a b : ℕ) → Turned n a b → NoFlipRaises n rs b → NoFlipRaises n rs a
no-flip-turned n rs a b t f u p = omega (arith, f u p, count-turned n rs a b t, count-turned n rs (flip a u) (flip b u) (flip-turned n a b u t))

-- the bit that is added: no single flip raises the number met
pub new-bit-best : (n : ℕ) (rs : List Requirement) → start rs < 2 ^ n → NoFlipRaises n rs (new_bit n rs).bit
unfolding new_bit passes
new-bit-best n rs p =
    let q = passes-lt (suc (length rs)) n rs (start rs) p in
    ⊎_elim (λ e. subst (λ (m : ℕ). NoFlipRaises n rs m) (sym e.0) (passes-best n rs))
    (λ e. subst (λ (m : ℕ). NoFlipRaises n rs m) (sym e.0) (no-flip-turned n rs (everyone n - (passes n rs).bit) (passes n rs).bit (λ s h. has-not n (passes n rs).bit s q h) (passes-best n rs)))
    (complemented-is n (passes n rs).bit q)

-- state 0 has value 0 in it, so state 0's code is all zeros
pub new-bit-zero : (n : ℕ) (rs : List Requirement) → 0 < n → start rs < 2 ^ n → has (new_bit n rs).bit 0 ≡ 0
unfolding new_bit passes
new-bit-zero n rs h p = zero-first n (passes n rs).bit h (passes-lt (suc (length rs)) n rs (start rs) p)

-- and it has no digit at n or above
pub new-bit-lt : (n : ℕ) (rs : List Requirement) → start rs < 2 ^ n → (new_bit n rs).bit < 2 ^ n
unfolding new_bit passes
new-bit-lt n rs p = complemented-lt n (passes n rs).bit (passes-lt (suc (length rs)) n rs (start rs) p)

-- and it meets one at least of the live requirements, if the blocks of the lowest do not overlap
pub new-bit-meets : (n : ℕ) (r : Requirement) (rs : List Requirement) → r.second < 2 ^ n → Apart r.first r.second → 1 ≤ met_count n (r ∷ rs) (new_bit n (r ∷ rs)).bit
unfolding new_bit passes
new-bit-meets n r rs p apart =
    let q = passes-lt (suc (length (r ∷ rs))) n (r ∷ rs) r.second p in
    omega (arith, passes-meet n r rs apart, count-complemented n (r ∷ rs) (passes n (r ∷ rs)).bit q)
