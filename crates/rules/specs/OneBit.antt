-- 01, "One bit": how a bit is built for the live requirements.
use Rattle.std.specs.Prelude.{Bool, true, false, cond, List, [], ◌∷◌, ℕ, zero, suc, ◌+◌, ◌-◌, ltb, eqb, length, ℤ}
use Rattle.std.proofs.Math.IntN.{sub_ℕ}
use Rattle.sets.specs.Sets.{has, everyone, flip}
use Rattle.rules.specs.Requirements.{met_count}
use Rattle.rules.specs.Looks.{looks}
use Rattle.rules.specs.declared.Requirement.{Requirement}

-- a bit starts as 1 on the second block of the lowest live requirement, 0 elsewhere
abbrev pub start : List Requirement → ℕ
start [] = 0
start (r ∷ rs) = r.second

-- the gain of a state: live requirements met after flipping it, less those met now; it may be negative
unfoldable pub gain : ℕ → List Requirement → ℕ → ℕ → ℤ
unfolding met_count
gain n rs b s = sub_ℕ (met_count n rs (flip b s)) (met_count n rs b)

-- ---- a pass

-- by whether s is free, whether t is, and whether t has the smaller gain
abbrev pub rather : ℕ → ℕ → Bool → Bool
rather zero t smaller = false
rather (suc s) zero smaller = true
rather (suc s) (suc t) smaller = smaller

-- s goes before t: s is free, and t is not free or has the smaller gain.
-- What is met now is the same for both, so their gains are compared by what is met after the flip.
unfoldable pub before : ℕ → List Requirement → ℕ → ℕ → ℕ → ℕ → Bool
unfolding met_count
before n rs b free s t = rather (has free s) (has free t) (ltb (met_count n rs (flip b t)) (met_count n rs (flip b s)))

-- of the states below k, the free one with the greatest gain, the lowest number on ties
unfoldable pub choice : ℕ → List Requirement → ℕ → ℕ → ℕ → ℕ
unfolding before
choice n rs b free zero = 0
choice n rs b free (suc k) = let t : ℕ = choice n rs b free k in cond (before n rs b free k t) k t

-- k more moves: the chosen state is flipped and no longer free
unfoldable pub moves_from : ℕ → List Requirement → ℕ → ℕ → ℕ → List ℕ
unfolding choice
moves_from n rs zero b free = []
moves_from n rs (suc k) b free = let s : ℕ = choice n rs b free n in s ∷ moves_from n rs k (flip b s) (flip free s)

-- a pass: every state is free at first, and none at the end
unfoldable pub pass_moves : ℕ → List Requirement → ℕ → List ℕ
unfolding moves_from
pass_moves n rs b = moves_from n rs n b (everyone n)

-- the bit after the shortest run of the moves with the greatest number met
unfoldable pub kept : ℕ → List Requirement → ℕ → List ℕ → ℕ
unfolding met_count
kept n rs b [] = b
kept n rs b (s ∷ ss) = let c : ℕ = kept n rs (flip b s) ss in cond (ltb (met_count n rs b) (met_count n rs c)) c b

-- ---- passes, until none gains

-- a bit, the passes begun for it, and their looks
pub record Bit : Type 0 where
  pub bit : ℕ
  pub passes : ℕ
  pub looks : ℕ

abbrev pub counted : ℕ → Bit → Bit
counted l r = record { bit = r.bit; passes = suc r.passes; looks = l + r.looks }

-- If the kept run exceeds the number at the pass's start, its moves stand and another pass begins; if not, no move stands and the bit
-- is done. The first argument bounds the passes: each that is followed by another raises the number met.
unfoldable pub passes_from : ℕ → ℕ → List Requirement → ℕ → Bit
unfolding pass_moves kept met_count looks
passes_from zero n rs b = record { bit = b; passes = 0; looks = 0 }
passes_from (suc k) n rs b =
    let ss : List ℕ = pass_moves n rs b in
    let c : ℕ = kept n rs b ss in
    let more : Bit = counted (looks n rs b ss) (passes_from k n rs c) in
    cond (ltb (met_count n rs b) (met_count n rs c)) more (record { bit = b; passes = 1; looks = looks n rs b ss })

unfoldable pub passes : ℕ → List Requirement → Bit
unfolding passes_from
passes n rs = passes_from (suc (length rs)) n rs (start rs)

-- last, if state 0 has value 1, the whole bit is complemented
unfoldable pub complemented : ℕ → ℕ → ℕ
complemented n b = cond (eqb (has b 0) 1) (everyone n - b) b

-- the next bit, from the live requirements
unfoldable pub new_bit : ℕ → List Requirement → Bit
unfolding passes complemented
new_bit n rs = let r : Bit = passes n rs in record { bit = complemented n r.bit; passes = r.passes; looks = r.looks }
