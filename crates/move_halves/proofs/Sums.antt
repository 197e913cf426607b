-- Sums over the states outside a family, each of which makes a requirement of its own.
use mathlib.Core.Path.{◌≡◌, refl, ap, ap₂, ◌∙◌}
use mathlib.Core.Bool.{Bool, true, false, cond}
use mathlib.Core.List.{List, [], ◌∷◌, map}
use Prim.Native.Nat.{ℕ, zero, suc, ◌+◌, ◌^◌, ◌<◌}
use native.Mathlib.Omega.{arith}
use lib.Bits.{bit_and}
use lib.Dec.{eqb}
use borrow.Author.Tests.{eq-eqb, ne_eqb}
use Rattle.sets.specs.Sets.{has, size, total, states_from}
use Rattle.sets.proofs.Members.{has-lt, has-and}
use Rattle.sets.proofs.Totals.{total-same}
use Rattle.sets.proofs.Size.{size-total}
use Rattle.rules.specs.Requirements.{met_count}
use Rattle.rules.specs.Looks.{looks_at, move_looks}
use Rattle.rules.specs.declared.Requirement.{Requirement}
use Rattle.move_table.proofs.Shares.{is_met}
use Rattle.families.specs.Families.{without, inside}
use Rattle.families.proofs.Parts.{part-lt, rest_lt, has_rest}
use Rattle.move_halves.specs.Halves.{held_by}

-- the sum of f over a list of states
unfoldable pub counted : (ℕ → ℕ) → List ℕ → ℕ
counted f [] = 0
counted f (t ∷ ts) = f t + counted f ts

module _ (n b : ℕ) (g : ℕ → Requirement) where
  pub met-counted : (ts : List ℕ) → met_count n (map g ts) b ≡ counted (λ t. is_met n (g t) b) ts
  unfolding met_count counted
  met-counted [] = refl
  met-counted (t ∷ ts) = ap (λ (k : ℕ). is_met n (g t) b + k) (met-counted ts)

  pub looks-counted : (s : ℕ) (ts : List ℕ) → move_looks n (map g ts) b s ≡ counted (λ t. cond (looks_at n (g t) b s) 1 0) ts
  unfolding move_looks counted
  looks-counted s [] = refl
  looks-counted s (t ∷ ts) = ap (λ (k : ℕ). cond (looks_at n (g t) b s) 1 0 + k) (looks-counted s ts)

-- f at the members of o, and nothing elsewhere
abbrev pub over : ℕ → (ℕ → ℕ) → ℕ → ℕ
over o f t = cond (eqb (has o t) 1) (f t) 0

pub over-in : (o : ℕ) (f : ℕ → ℕ) (t : ℕ) → has o t ≡ 1 → over o f t ≡ f t
over-in o f t e = rw (eq-eqb (has o t) 1 e)

pub over-out : (o : ℕ) (f : ℕ → ℕ) (t : ℕ) → has o t ≡ 0 → over o f t ≡ 0
over-out o f t e = rw (ne_eqb (has o t) 1 (λ d. omega arith))

-- one more state: a member counts, another does not
pub inside-step : (o : ℕ) (f : ℕ → ℕ) (t : ℕ) (ts : List ℕ) → counted f (inside o (t ∷ ts)) ≡ over o f t + counted f (inside o ts)
unfolding inside counted
inside-step o f t ts = go (has o t) refl
  where
    go : (d : ℕ) → has o t ≡ d → counted f (inside o (t ∷ ts)) ≡ over o f t + counted f (inside o ts)
    go zero e = rw (over-out o f t e, inside, e) (omega arith)
    go (suc d) e = rw (over-in o f t (omega (arith, has-lt o t)), inside, e) refl

pub counted-from : (o : ℕ) (f : ℕ → ℕ) (a j : ℕ) → counted f (inside o (states_from a j)) ≡ total j (λ i. over o f (a + i))
unfolding inside counted states_from total
counted-from o f a zero = refl
counted-from o f a (suc j) =
    let e : a ≡ a + 0 = omega arith in
    inside-step o f a (states_from (suc a) j)
    ∙ ap₂ (λ (x y : ℕ). x + y) (ap (over o f) e)
    (counted-from o f (suc a) j ∙ total-same j (λ i. over o f (suc a + i)) (λ i. over o f (a + suc i)) (λ i _. ap (over o f) (next i)))
  where
    next : (i : ℕ) → suc a + i ≡ a + suc i
    next i = omega arith

-- over all 64 states
pub counted-all : (o : ℕ) (f : ℕ → ℕ) → counted f (inside o (states_from 0 64)) ≡ total 64 (over o f)
counted-all o f = counted-from o f 0 64 ∙ total-same 64 (λ i. over o f (0 + i)) (over o f) (λ i _. ap (over o f) (none i))
  where
    none : (i : ℕ) → 0 + i ≡ i
    none i = omega arith

-- ---- sums of sums

pub total-add : (n : ℕ) (f g : ℕ → ℕ) → total n (λ t. f t + g t) ≡ total n f + total n g
unfolding total
total-add zero f g = refl
total-add (suc n) f g = let e = total-add n (λ t. f (suc t)) (λ t. g (suc t)) in omega arith

total-zero : (n : ℕ) → total n (λ t. 0) ≡ 0
unfolding total
total-zero zero = refl
total-zero (suc n) = omega (arith, total-zero n)

pub total-cond : (n : ℕ) (p : Bool) (f : ℕ → ℕ) → total n (λ t. cond p (f t) 0) ≡ cond p (total n f) 0
total-cond n true f = refl
total-cond n false f = total-zero n

pub total-held : (n z : ℕ) (f : ℕ → ℕ) → total n (λ t. held_by z (f t)) ≡ held_by z (total n f)
total-held n zero f = refl
total-held n (suc z) f = total-zero n

-- a set in two parts
pub size-parts : (n m x : ℕ) → m < 2 ^ n → size (bit_and m x) + size (without m x) ≡ size m
size-parts n m x h =
    let a = size-total n (bit_and m x) (part-lt n m x h) in
    let b = size-total n (without m x) (rest_lt n m x h) in
    let c = size-total n m h in
    let d = total-add n (has (bit_and m x)) (has (without m x)) in
    let e : total n (λ t. has (bit_and m x) t + has (without m x) t) ≡ total n (has m) =
    total-same n (λ t. has (bit_and m x) t + has (without m x) t) (has m) (λ t _. omega (arith, has-and m x t, has_rest m x t, has-lt m t, has-lt x t)) in
    omega arith
