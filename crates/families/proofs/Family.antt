-- The requirements of one family, by whether it has states outside; and that a family has at most one for each state.
use mathlib.Core.Path.{◌≡◌, refl, ap}
use mathlib.Core.Bool.{Bool, true, false}
use mathlib.Core.List.{List, [], ◌∷◌, map}
use Prim.Native.Nat.{ℕ, zero, suc, ◌*◌, ◌≤◌}
use native.Mathlib.Omega.{arith}
use lib.Bits.{bit_xor, and_zero_l}
use lib.Dec.{eqb}
use lib.ListN.{length, length-append, length-map}
use borrow.Author.Tests.{eq-eqb, ne_eqb, eqb-true, eqb-false}
use Rattle.sets.specs.Sets.{has, states_from}
use Rattle.sets.proofs.Members.{has-lt}
use Rattle.families.specs.Families.{without, inside, single, joined, requirements_of, requirements_in}
use Rattle.families.proofs.Inside.{inside-in, inside-out}

module _ (all flip out : ℕ) where
  pub family-one : out ≡ 0 → requirements_of all flip out ≡ single all flip ∷ []
  unfolding requirements_of
  family-one e = rw (eq-eqb out 0 e)

  pub family-more : (out ≡ 0 → ⊥) → requirements_of all flip out ≡ map (joined all flip) (inside (without out all) (states_from 0 64))
  unfolding requirements_of
  family-more o = rw (ne_eqb out 0 o)

-- nothing without some of it
pub none-without : (x : ℕ) → without 0 x ≡ 0
none-without x = ap (bit_xor 0) (and_zero_l x)

-- ---- how many

inside-few : (m a k : ℕ) → length (inside m (states_from a k)) ≤ k
unfolding inside states_from
inside-few m a zero = omega arith
inside-few m a (suc k) = go (has m a) refl (inside-few m (suc a) k)
  where
    go : (d : ℕ) → has m a ≡ d → length (inside m (states_from (suc a) k)) ≤ k → length (inside m (a ∷ states_from (suc a) k)) ≤ suc k
    go zero e h = omega (arith, ap length (inside-out m a (states_from (suc a) k) e))
    go (suc d) e h = omega (arith, ap length (inside-in m a (states_from (suc a) k) (omega (arith, has-lt m a))))

family-few : (all flip out : ℕ) → length (requirements_of all flip out) ≤ 64
family-few all flip out = go (eqb out 0) refl
  where
    go : (t : Bool) → eqb out 0 ≡ t → length (requirements_of all flip out) ≤ 64
    go true e = rw (family-one all flip out (eqb-true out 0 e)) (omega arith)
    go false e =
        rw (family-more all flip out (eqb-false out 0 e), length-map)
        (inside-few (without out all) 0 64)

-- at most 64 for each word
pub families-few : (fs : List ℕ) → length (requirements_in fs) ≤ 64 * length fs
unfolding requirements_in
families-few [] = omega arith
families-few (all ∷ []) = omega arith
families-few (all ∷ (flip ∷ [])) = omega arith
families-few (all ∷ (flip ∷ (out ∷ fs))) = omega (arith, length-append (requirements_of all flip out) (requirements_in fs), family-few all flip out, families-few fs)
