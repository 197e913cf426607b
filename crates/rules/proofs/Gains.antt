-- 02, request 06: each new bit meets a requirement that no earlier bit meets, so what is live falls with every bit.
use mathlib.Core.Path.{◌≡◌, refl}
use mathlib.Core.Bool.{Bool, true, false}
use mathlib.Core.List.{List, [], ◌∷◌}
use Prim.Native.Nat.{ℕ, ◌+◌, ◌<◌}
use native.Mathlib.Omega.{arith}
use lib.ListN.{length}
use Rattle.rules.specs.Requirements.{met, met_count}
use Rattle.rules.specs.OneBit.{new_bit}
use Rattle.rules.specs.Code.{unmet_by}
use Rattle.rules.specs.declared.Requirement.{Requirement}
use Rattle.rules.proofs.Unmet.{left-met, left-unmet}
use Rattle.rules.proofs.Complement.{new-bit-meets}
use Rattle.rules.proofs.Good.{AllGood}

-- a bit meets some of the live requirements and leaves the others
pub left-count : (n b : ℕ) (rs : List Requirement) → met_count n rs b + length (unmet_by n b rs) ≡ length rs
unfolding met_count unmet_by
left-count n b [] = refl
left-count n b (r ∷ rs) = go (met n r b) refl (left-count n b rs)
  where
    go : (t : Bool) → met n r b ≡ t → met_count n rs b + length (unmet_by n b rs) ≡ length rs → met_count n (r ∷ rs) b + length (unmet_by n b (r ∷ rs)) ≡ length (r ∷ rs)
    go true e h = rw (left-met n b r rs e, e) (omega arith)
    go false e h = rw (left-unmet n b r rs e, e) (omega arith)

-- for any number of states and any live requirements, one at least, whose blocks are apart: the new bit leaves fewer of them live
pub new-bit-gains : (n : ℕ) (r : Requirement) (rs : List Requirement) → AllGood n (r ∷ rs) → length (unmet_by n (new_bit n (r ∷ rs)).bit (r ∷ rs)) < length (r ∷ rs)
new-bit-gains n r rs g =
    omega (arith, left-count n (new_bit n (r ∷ rs)).bit (r ∷ rs), new-bit-meets n r rs g.0.second g.0.apart)
