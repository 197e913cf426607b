-- 01, "Looks": when a requirement is near, and when a move looks at it.
use Rattle.std.specs.Prelude.{Bool, ◌&&◌, ◌||◌, cond, List, [], ◌∷◌, ℕ, ◌+◌, ◌-◌, ◌*◌, leb, eqb, ℤ}
use Rattle.std.proofs.Math.IntN.{sub_ℕ}
use Rattle.sets.specs.Sets.{has, flip, total}
use Rattle.rules.specs.Requirements.{met}
use Rattle.rules.specs.declared.Requirement.{Requirement}

-- the members whose value must change for the block z to have value 0 and the block o to have value 1
unfoldable pub must_change : ℕ → ℕ → ℕ → ℕ → ℕ
unfolding total
must_change n z o b = total n (λ s. has z s * has b s + has o s * (1 - has b s))

-- near: one count or the other is 0 or 1
unfoldable pub near : ℕ → Requirement → ℕ → Bool
unfolding must_change
near n r b = leb (must_change n r.first r.second b) 1 || leb (must_change n r.second r.first b) 1

-- a state of either block is a member
abbrev pub member : Requirement → ℕ → Bool
member r s = eqb (has r.first s) 1 || eqb (has r.second s) 1

-- the move of s looks at r: s is a member, and r is near before or after the move
unfoldable pub looks_at : ℕ → Requirement → ℕ → ℕ → Bool
unfolding near
looks_at n r b s = member r s && (near n r b || near n r (flip b s))

-- how many of the requirements the move of s looks at
unfoldable pub move_looks : ℕ → List Requirement → ℕ → ℕ → ℕ
unfolding looks_at
move_looks n [] b s = 0
move_looks n (r ∷ rs) b s = cond (looks_at n r b s) 1 0 + move_looks n rs b s

-- the looks of a run of moves from the bit b, those of moves later taken back too
unfoldable pub looks : ℕ → List Requirement → ℕ → List ℕ → ℕ
unfolding move_looks
looks n rs b [] = 0
looks n rs b (s ∷ ss) = move_looks n rs b s + looks n rs (flip b s) ss

-- a requirement's share in a state's gain: met after the flip less met now
unfoldable pub share : ℕ → Requirement → ℕ → ℕ → ℤ
unfolding met
share n r b s = sub_ℕ (cond (met n r (flip b s)) 1 0) (cond (met n r b) 1 0)
