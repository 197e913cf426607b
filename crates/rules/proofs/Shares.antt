-- Shares (01, "Looks"): each is 1, 0 or -1 by a table of the two counts, a gain is their sum, and a move that does not look changes none.
use mathlib.Core.Path.{◌≡◌, refl, sym, ap, ap₂, ◌∙◌, subst}
use mathlib.Core.Bool.{Bool, true, false, ◌&&◌, ◌||◌, cond, or-false, or_comm}
use mathlib.Core.Logic.{◌⊎◌, inl, inr}
use mathlib.Core.List.{List, [], ◌∷◌}
use Prim.Native.Nat.{ℕ, zero, suc, ◌+◌, ◌-◌, ◌<◌}
use native.Mathlib.Omega.{arith}
use native.Mathlib.Decide.{ℕ_discrete}
use lib.Dec.{eqb, leb, eqb-suc-suc, leb-suc-zero}
use lib.IntN.{ℤ, pos, negsuc, neg_ℤ, sub_ℕ, ◌+ℤ◌, +ℤ_assoc, +ℤ_comm, neg_ℤ-+ℤ, pos-+ℤ-pos}
use borrow.Author.Tests.{ne_eqb, eqb-false, leb-false}
use Rattle.sets.specs.Sets.{has, flip}
use Rattle.sets.proofs.Members.{has-lt, has-flip, has-flip-other}
use Rattle.rules.specs.Requirements.{met, met_count}
use Rattle.rules.specs.Looks.{must_change, near, member, looks_at, share}
use Rattle.rules.specs.OneBit.{gain}
use Rattle.rules.specs.declared.Requirement.{Requirement}
use Rattle.rules.proofs.Counts.{cost, Apart, cost-turned, cost-flipped, change-flip, change-out}
use Rattle.rules.proofs.Meeting.{one_way, other_way, met-counts}

-- met after the flip less met now
share-is : (n : ℕ) (r : Requirement) (b s : ℕ) → share n r b s ≡ sub_ℕ (cond (met n r (flip b s)) 1 0) (cond (met n r b) 1 0)
unfolding share
share-is n r b s = refl

-- 1, 0 or -1
pub share-three : (n : ℕ) (r : Requirement) (b s : ℕ) → (share n r b s ≡ pos 1) ⊎ ((share n r b s ≡ pos 0) ⊎ (share n r b s ≡ negsuc 0))
share-three n r b s = rw (share-is n r b s) (go (met n r (flip b s)) (met n r b))
  where
    go : (x y : Bool) → (sub_ℕ (cond x 1 0) (cond y 1 0) ≡ pos 1) ⊎ ((sub_ℕ (cond x 1 0) (cond y 1 0) ≡ pos 0) ⊎ (sub_ℕ (cond x 1 0) (cond y 1 0) ≡ negsuc 0))
    go true true = inr (inl refl)
    go true false = inl refl
    go false true = inr (inr refl)
    go false false = inr (inl refl)

-- ---- the table

-- The share of a member that is one of the a that must change one way round, while d must change the other way:
-- 1 where it is the only one, less 1 where nothing must change the other way, so that the requirement is met now.
abbrev pub table : ℕ → ℕ → ℤ
table a d = sub_ℕ (cond (eqb a 1) 1 0) (cond (eqb d 0) 1 0)

crossing : (k j k' j' : ℕ) → k ≡ suc k' → j' ≡ suc j → sub_ℕ (cond (eqb k' 0 || eqb j' 0) 1 0) (cond (eqb k 0 || eqb j 0) 1 0) ≡ table k j
crossing k j k' j' p q =
    let a : eqb k 1 ≡ eqb k' 0 = ap (λ (x : ℕ). eqb x 1) p ∙ eqb-suc-suc k' 0 in
    let b : eqb j' 0 ≡ false = ne_eqb j' 0 (λ e. omega arith) in
    let c : eqb k 0 ≡ false = ne_eqb k 0 (λ e. omega arith) in
    rw (a, b, c, or-false (eqb k' 0))

-- the flip of a member that must change one way round: one fewer must change that way, one more the other
turns : (n z o b s : ℕ) → s < n → has z s + has o s ≡ 1 → cost z o b s ≡ 1
    → (must_change n z o b ≡ suc (must_change n z o (flip b s))) × (must_change n o z (flip b s) ≡ suc (must_change n o z b))
turns n z o b s hs h c = (
  omega (arith, change-flip n z o b s hs, cost-flipped z o b s h),
  omega (arith, change-flip n o z b s hs, cost-turned z o b s h, cost-flipped o z b s (omega arith)),
)

module _ (n : ℕ) (r : Requirement) (b s : ℕ) (hs : s < n) where
  share-counts : share n r b s ≡ sub_ℕ (cond (eqb (one_way n r (flip b s)) 0 || eqb (other_way n r (flip b s)) 0) 1 0) (cond (eqb (one_way n r b) 0 || eqb (other_way n r b) 0) 1 0)
  share-counts = share-is n r b s ∙ ap₂ (λ (x y : Bool). sub_ℕ (cond x 1 0) (cond y 1 0)) (met-counts n r (flip b s)) (met-counts n r b)

  -- a state in neither block
  pub share-out : has r.first s + has r.second s ≡ 0 → share n r b s ≡ pos 0
  share-out h =
      let p : one_way n r (flip b s) ≡ one_way n r b = change-out n r.first r.second (flip b s) b s h (has-flip-other b s) in
      let q : other_way n r (flip b s) ≡ other_way n r b = change-out n r.second r.first (flip b s) b s (omega arith) (has-flip-other b s) in
      share-counts ∙ ap₂ (λ (x y : ℕ). sub_ℕ (cond (eqb x 0 || eqb y 0) 1 0) (cond (eqb (one_way n r b) 0 || eqb (other_way n r b) 0) 1 0)) p q ∙ none (eqb (one_way n r b) 0 || eqb (other_way n r b) 0)
    where
      none : (x : Bool) → sub_ℕ (cond x 1 0) (cond x 1 0) ≡ pos 0
      none true = refl
      none false = refl

  module _ (h : has r.first s + has r.second s ≡ 1) where
    -- a state that must change for first block 0 and second block 1
    pub share-one : cost r.first r.second b s ≡ 1 → share n r b s ≡ table (one_way n r b) (other_way n r b)
    share-one c =
        let x = turns n r.first r.second b s hs h c in
        share-counts ∙ crossing (one_way n r b) (other_way n r b) (one_way n r (flip b s)) (other_way n r (flip b s)) x.0 x.1

    -- a state that must change the other way round
    pub share_other : cost r.first r.second b s ≡ 0 → share n r b s ≡ table (other_way n r b) (one_way n r b)
    share_other c =
        let x = turns n r.second r.first b s hs (omega arith) (omega (arith, cost-turned r.first r.second b s h)) in
        share-counts
        ∙ ap₂ (λ (x y : Bool). sub_ℕ (cond x 1 0) (cond y 1 0)) (or_comm (eqb (one_way n r (flip b s)) 0) (eqb (other_way n r (flip b s)) 0)) (or_comm (eqb (one_way n r b) 0) (eqb (other_way n r b) 0))
        ∙ crossing (other_way n r b) (one_way n r b) (other_way n r (flip b s)) (one_way n r (flip b s)) x.0 x.1

-- ---- a move that does not look

table-far : (a d : ℕ) → 1 < a → 1 < d → table a d ≡ pos 0
table-far a d p q =
    let x : eqb a 1 ≡ false = ne_eqb a 1 (λ e. omega arith) in
    let y : eqb d 0 ≡ false = ne_eqb d 0 (λ e. omega arith) in
    rw (x, y)

-- far from both ends nobody has a share
pub share-far : (n : ℕ) (r : Requirement) (b t : ℕ) → t < n → Apart r.first r.second → 1 < one_way n r b → 1 < other_way n r b → share n r b t ≡ pos 0
share-far n r b t ht apart p q = go (has r.first t + has r.second t) (cost r.first r.second b t) refl refl
  where
    go : (d c : ℕ) → has r.first t + has r.second t ≡ d → cost r.first r.second b t ≡ c → share n r b t ≡ pos 0
    go zero c e f = share-out n r b t ht e
    go (suc zero) zero e f = share_other n r b t ht e f ∙ table-far (other_way n r b) (one_way n r b) q p
    go (suc zero) (suc c) e f =
        share-one n r b t ht e (omega (arith, cost-turned r.first r.second b t e)) ∙ table-far (one_way n r b) (other_way n r b) p q
    go (suc (suc d)) c e f = absurd (omega (arith, apart t))

pub far : (n : ℕ) (r : Requirement) (b : ℕ) → near n r b ≡ false → (1 < one_way n r b) × (1 < other_way n r b)
unfolding near
far n r b e = go (leb (one_way n r b) 1) (leb (other_way n r b) 1) refl refl e
  where
    go : (p q : Bool) → leb (one_way n r b) 1 ≡ p → leb (other_way n r b) 1 ≡ q → (p || q) ≡ false → (1 < one_way n r b) × (1 < other_way n r b)
    go true q x y h = absurd (let z : ◌≡◌ {A = ℕ} 0 1 = cc in omega arith)
    go false true x y h = absurd (let z : ◌≡◌ {A = ℕ} 0 1 = cc in omega arith)
    go false false x y h = (leb-false (one_way n r b) 1 x, leb-false (other_way n r b) 1 y)

-- flips of two states, digit by digit: away from s the first of them is not seen
flip_twice : (b s t u : ℕ) → (u ≡ s → ⊥) → has (flip (flip b s) t) u ≡ has (flip b t) u
flip_twice b s t u h = go (ℕ_discrete u t)
  where
    go : Dec (u ≡ t) → has (flip (flip b s) t) u ≡ has (flip b t) u
    go (yes e) =
        subst (λ (v : ℕ). has (flip (flip b s) v) u ≡ has (flip b v) u) e
        (has-flip (flip b s) u ∙ ap (λ (d : ℕ). 1 - d) (has-flip-other b s u h) ∙ sym (has-flip b u))
    go (no e) = has-flip-other (flip b s) t u e ∙ has-flip-other b s u h ∙ sym (has-flip-other b t u e)

-- the move of a state in neither block
share-aside : (n : ℕ) (r : Requirement) (b s t : ℕ) → has r.first s + has r.second s ≡ 0 → share n r (flip b s) t ≡ share n r b t
share-aside n r b s t h =
    share-is n r (flip b s) t
    ∙ ap₂ (λ (x y : Bool). sub_ℕ (cond x 1 0) (cond y 1 0))
    (same (flip (flip b s) t) (flip b t) (flip_twice b s t))
    (same (flip b s) b (has-flip-other b s))
    ∙ sym (share-is n r b t)
  where
    same : (x y : ℕ) → ((u : ℕ) → (u ≡ s → ⊥) → has x u ≡ has y u) → met n r x ≡ met n r y
    same x y e =
        met-counts n r x
        ∙ ap₂ (λ (k j : ℕ). eqb k 0 || eqb j 0) (change-out n r.first r.second x y s h e) (change-out n r.second r.first x y s (omega arith) e)
        ∙ sym (met-counts n r y)

pub member-none : (r : Requirement) (s : ℕ) → member r s ≡ false → has r.first s + has r.second s ≡ 0
member-none r s e = go (eqb (has r.first s) 1) (eqb (has r.second s) 1) refl refl e
  where
    go : (p q : Bool) → eqb (has r.first s) 1 ≡ p → eqb (has r.second s) 1 ≡ q → (p || q) ≡ false → has r.first s + has r.second s ≡ 0
    go true q x y h = absurd (let z : ◌≡◌ {A = ℕ} 0 1 = cc in omega arith)
    go false true x y h = absurd (let z : ◌≡◌ {A = ℕ} 0 1 = cc in omega arith)
    go false false x y h =
        let a = eqb-false (has r.first s) 1 x in
        let b = eqb-false (has r.second s) 1 y in
        omega (arith, has-lt r.first s, has-lt r.second s)

-- a move of s that does not look at r leaves its share in every state's gain as it was
pub quiet : (n : ℕ) (r : Requirement) (b s t : ℕ) → t < n → Apart r.first r.second → looks_at n r b s ≡ false → share n r (flip b s) t ≡ share n r b t
unfolding looks_at
quiet n r b s t ht apart e = go (member r s) (near n r b) (near n r (flip b s)) refl refl refl e
  where
    go : (m p q : Bool) → member r s ≡ m → near n r b ≡ p → near n r (flip b s) ≡ q → (m && (p || q)) ≡ false → share n r (flip b s) t ≡ share n r b t
    go false p q x y z h = share-aside n r b s t (member-none r s x)
    go true true q x y z h = absurd (let w : ◌≡◌ {A = ℕ} 0 1 = cc in omega arith)
    go true false true x y z h = absurd (let w : ◌≡◌ {A = ℕ} 0 1 = cc in omega arith)
    go true false false x y z h =
        let f = far n r b y in
        let g = far n r (flip b s) z in
        share-far n r (flip b s) t ht apart g.0 g.1 ∙ sym (share-far n r b t ht apart f.0 f.1)

-- ---- a gain is the sum of its shares

unfoldable pub sum_of_shares : ℕ → List Requirement → ℕ → ℕ → ℤ
sum_of_shares n [] b s = pos 0
sum_of_shares n (r ∷ rs) b s = share n r b s +ℤ sum_of_shares n rs b s

minus-as-sum : (a b : ℕ) → sub_ℕ a b ≡ pos a +ℤ neg_ℤ (pos b)
minus-as-sum a zero =
    let e : a - 0 ≡ a + 0 = omega arith in
    ap (λ (t : Bool). cond t (negsuc (0 - suc a)) (pos (a - 0))) (leb-suc-zero a) ∙ ap pos e
minus-as-sum a (suc b) = refl

-- (x + y) + (z + w) with y and z changed over
change-over : (x y z w : ℤ) → (x +ℤ y) +ℤ (z +ℤ w) ≡ (x +ℤ z) +ℤ (y +ℤ w)
change-over x y z w =
    +ℤ_assoc x y (z +ℤ w)
    ∙ ap (λ (v : ℤ). x +ℤ v) (sym (+ℤ_assoc y z w) ∙ ap (λ (v : ℤ). v +ℤ w) (+ℤ_comm y z) ∙ +ℤ_assoc z y w)
    ∙ sym (+ℤ_assoc x z (y +ℤ w))

sum-of-differences : (a b c d : ℕ) → sub_ℕ (a + c) (b + d) ≡ sub_ℕ a b +ℤ sub_ℕ c d
sum-of-differences a b c d =
    minus-as-sum (a + c) (b + d)
    ∙ ap₂ (λ (x y : ℤ). x +ℤ y) (sym (pos-+ℤ-pos a c)) (ap neg_ℤ (sym (pos-+ℤ-pos b d)) ∙ neg_ℤ-+ℤ (pos b) (pos d))
    ∙ change-over (pos a) (pos c) (neg_ℤ (pos b)) (neg_ℤ (pos d))
    ∙ ap₂ (λ (x y : ℤ). x +ℤ y) (sym (minus-as-sum a b)) (sym (minus-as-sum c d))

pub gain-shares : (n : ℕ) (rs : List Requirement) (b s : ℕ) → gain n rs b s ≡ sum_of_shares n rs b s
unfolding gain sum_of_shares met_count share
gain-shares n [] b s = refl
gain-shares n (r ∷ rs) b s =
    sum-of-differences (cond (met n r (flip b s)) 1 0) (cond (met n r b) 1 0) (met_count n rs (flip b s)) (met_count n rs b)
    ∙ ap (λ (x : ℤ). share n r b s +ℤ x) (gain-shares n rs b s)
