-- A table raised at the members of a set, one member at a time.
use mathlib.Core.Path.{◌≡◌, refl, ap, ap₂, subst, sym}
use mathlib.Core.Bool.{Bool, true, false, cond}
use mathlib.Core.List.{List, [], ◌∷◌}
use Prim.Native.Nat.{ℕ, zero, suc, ◌+◌, ◌%◌, ◌^◌, ◌≤◌, ◌<◌}
use native.Mathlib.Nat.{add-zero}
use native.Mathlib.Omega.{arith}
use native.Mathlib.Decide.{dec_lt}
use lib.Seq.{set_out}
use lib.Dec.{eqb}
use lib.ListN.{length, get_or, set}
use borrow.Author.Tests.{eq-eqb, ne_eqb}
use lib.Count.{count_trailing_zeros}
use Rattle.sets.specs.Sets.{has, flip, size, without_lowest}
use Rattle.sets.proofs.Members.{has-none, has-flip, has-flip-other}
use Rattle.sets.proofs.LowestMember.{lowest-at, without_at, without-lt, without_fewer}
use Rattle.move_table.specs.Table.{raised}

pub raised-none : (by j : ℕ) (t : List ℕ) → raised by 0 j t ≡ t
unfolding raised
raised-none by j [] = refl
raised-none by j (v ∷ vs) =
    ap₂ (λ (x : Bool) (l : List ℕ). cond x ((v + by) % 2 ^ 32) v ∷ l) (ne_eqb (has 0 j) 1 (λ e. omega (arith, has-none j))) (raised-none by (suc j) vs)

-- sets with the same members among those of the table
raised-same : (by a b j : ℕ) (t : List ℕ) → ((i : ℕ) → j ≤ i → i < j + length t → has a i ≡ has b i) → raised by a j t ≡ raised by b j t
unfolding raised
raised-same by a b j [] h = refl
raised-same by a b j (v ∷ vs) h =
    ap₂ (λ (x : ℕ) (l : List ℕ). cond (eqb x 1) ((v + by) % 2 ^ 32) v ∷ l) (h j (omega arith) (omega arith)) (raised-same by a b (suc j) vs (λ i p q. h i (omega arith) (omega arith)))

-- member k is raised first, and taken out
raised-from : (by m : ℕ) (t : List ℕ) (j k : ℕ) → k < length t → has m (j + k) ≡ 1
    → raised by (flip m (j + k)) j (set t k ((get_or t k 0 + by) % 2 ^ 32)) ≡ raised by m j t
unfolding raised
raised-from by m [] j k p h = absurd (omega arith)
raised-from by m (v ∷ vs) j zero p h =
    let e : j + 0 ≡ j = add-zero j in
    let g : has m j ≡ 1 = subst (λ (i : ℕ). has m i ≡ 1) e h in
    let x : eqb (has (flip m j) j) 1 ≡ false = ne_eqb (has (flip m j) j) 1 (λ d. omega (arith, has-flip m j)) in
    let y : eqb (has m j) 1 ≡ true = eq-eqb (has m j) 1 g in
    let w : raised by (flip m j) (suc j) vs ≡ raised by m (suc j) vs = raised-same by (flip m j) m (suc j) vs (λ i q _. has-flip-other m j i (λ d. omega arith)) in
    subst (λ (i : ℕ). raised by (flip m i) j (set (v ∷ vs) 0 ((v + by) % 2 ^ 32)) ≡ raised by m j (v ∷ vs)) (sym e) (rw (x, y, w))
raised-from by m (v ∷ vs) j (suc k) p h =
    let e : j + suc k ≡ suc j + k = omega arith in
    let x : has (flip m (suc j + k)) j ≡ has m j = has-flip-other m (suc j + k) j (λ d. omega arith) in
    let g : has m (suc j + k) ≡ 1 = subst (λ (i : ℕ). has m i ≡ 1) e h in
    subst (λ (i : ℕ). raised by (flip m i) j (set (v ∷ vs) (suc k) ((get_or (v ∷ vs) (suc k) 0 + by) % 2 ^ 32)) ≡ raised by m j (v ∷ vs)) (sym e) (rw (x, raised-from by m vs (suc j) k (omega arith) g))

raised-in : (by m k : ℕ) (t : List ℕ) → k < length t → has m k ≡ 1 → raised by (flip m k) 0 (set t k ((get_or t k 0 + by) % 2 ^ 32)) ≡ raised by m 0 t
raised-in by m k t p h =
    let e : 0 + k ≡ k = omega arith in
    subst (λ (i : ℕ). raised by (flip m i) 0 (set t k ((get_or t k 0 + by) % 2 ^ 32)) ≡ raised by m 0 t) e (raised-from by m t 0 k p (rw e h))

-- one member of m raised, and taken out: what is left to raise is the rest
pub raised-member : (by m k : ℕ) (t : List ℕ) → has m k ≡ 1 → raised by (flip m k) 0 (set t k ((get_or t k 0 + by) % 2 ^ 32)) ≡ raised by m 0 t
raised-member by m k t h = go (dec_lt k (length t))
  where
    go : Dec (k < length t) → raised by (flip m k) 0 (set t k ((get_or t k 0 + by) % 2 ^ 32)) ≡ raised by m 0 t
    go (yes p) = raised-in by m k t p h
    go (no p) =
        let q : length t ≤ k = omega arith in
        rw (set_out t k ((get_or t k 0 + by) % 2 ^ 32) q) (raised-same by (flip m k) m 0 t (λ i _ r. has-flip-other m k i (λ d. omega arith)))

pub length-raised : (by m j : ℕ) (t : List ℕ) → length (raised by m j t) ≡ length t
unfolding raised
length-raised by m j [] = refl
length-raised by m j (v ∷ vs) = ap suc (length-raised by m (suc j) vs)

-- one turn of the loop that raises the members of a set, the lowest first
pub record Turn (by rest rest' : ℕ) (t t' : List ℕ) : Type 0 where
  pub same : raised by rest' 0 t' ≡ raised by rest 0 t
  pub fits : rest' < 2 ^ 64
  pub fewer : size rest' < size rest

pub turn : (by rest k rest' : ℕ) (t t' : List ℕ) → rest < 2 ^ 64 → (rest ≡ 0 → ⊥) → k ≡ count_trailing_zeros 64 rest → rest' ≡ without_lowest rest
    → t' ≡ set t k ((get_or t k 0 + by) % 2 ^ 32) → Turn by rest rest' t t'
turn by rest k rest' t t' p q ek er et =
    record {
      same = rw (without_at rest k rest' q ek er, et) (raised-member by rest k t (lowest-at rest k p q ek).1);
      fits = without-lt rest k rest' p q ek er;
      fewer = without_fewer rest k rest' p q ek er;
    }
