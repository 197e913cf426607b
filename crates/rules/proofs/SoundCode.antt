-- The code of a sound listing: it is built by the rule, its bits are sets of the states, and state 0's code is all zeros.
use mathlib.Core.Path.{◌≡◌, refl, ap₂, subst}
use mathlib.Core.List.{List, [], ◌∷◌}
use Prim.Native.Nat.{ℕ, suc, ◌^◌, ◌<◌}
use native.Mathlib.Omega.{arith}
use lib.ListN.{length, get_or, take, replicate}
use Rattle.sets.specs.Sets.{has}
use Rattle.rules.specs.Requirements.{requirements}
use Rattle.rules.specs.OneBit.{start}
use Rattle.rules.specs.Code.{Code, coded, coding, code_of}
use Rattle.rules.specs.declared.Requirement.{Requirement}
use Rattle.rules.specs.declared.Listing.{Listing}
use Rattle.rules.proofs.Complement.{new-bit-lt, new-bit-zero}
use Rattle.rules.proofs.Unmet.{unmet_in}
use Rattle.rules.proofs.Good.{start-lt, good_left, requirements-good}
use Rattle.rules.proofs.Built.{Built, built, most_of, was-built}
use Rattle.rules.proofs.Sound.{Sound}

zeros : (bits : List ℕ) (s : ℕ) → ((j : ℕ) → j < length bits → has (get_or bits j 0) s ≡ 0) → code_of bits s ≡ replicate (length bits) 0
zeros [] s h = refl
zeros (b ∷ bs) s h = ap₂ {C = List ℕ} (λ x l. x ∷ l) (h 0 (omega arith)) (zeros bs s (λ j q. h (suc j) (omega arith)))

module _ (t : Listing) (s : Sound t) (c : Code) (e : coding t ≡ coded c) where
  pub code-built : Built (most_of t) t.head.states (requirements t) c.bits
  code-built = subst (λ (d : Code). Built (most_of t) t.head.states (requirements t) d.bits) (was-built t c e) (built (most_of t) t.head.states (requirements t) (requirements-good t s))

  -- what the bits before bit j leave live: bit j is built from it
  left : ℕ → List Requirement
  left j = unmet_in t.head.states (take j c.bits) (requirements t)

  starts : (j : ℕ) → start (left j) < 2 ^ t.head.states
  unfolding left
  starts j = start-lt t.head.states (left j) (good_left t.head.states (take j c.bits) (requirements t) (requirements-good t s))

  -- each bit is a set of the states
  pub bits-lt : (j : ℕ) → j < length c.bits → get_or c.bits j 0 < 2 ^ t.head.states
  unfolding left
  bits-lt j h = rw (code-built.next j h) (new-bit-lt t.head.states (left j) (starts j))

  -- state 0's code is all zeros
  pub code-zeros : code_of c.bits 0 ≡ replicate (length c.bits) 0
  unfolding left
  code-zeros = zeros c.bits 0 (λ j h. rw (code-built.next j h) (new-bit-zero t.head.states (left j) s.head.some-states (starts j)))
