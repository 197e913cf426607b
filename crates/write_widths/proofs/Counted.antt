-- The requirements that no bit meets, counted.
use Rattle.std.specs.List.{filter}
use mathlib.Core.Path.{◌≡◌, refl, sym, ap, ◌∙◌}
use mathlib.Core.Bool.{Bool, true, false, not}
use mathlib.Core.List.{List, [], ◌∷◌}
use Prim.Native.Nat.{ℕ, suc}
use lib.ListN.{length}
use Rattle.rules.specs.Requirements.{met_by_code}
use Rattle.rules.specs.Code.{unmet_from}
use Rattle.rules.specs.declared.Requirement.{Requirement}
use Rattle.rules.proofs.Unmet.{listed-met, listed-unmet, unmet-length}

-- whichever number the first has
number-any : (k j n : ℕ) (bits : List ℕ) (rs : List Requirement) → length (unmet_from k n bits rs) ≡ length (unmet_from j n bits rs)
number-any k j n bits rs = unmet-length k n bits rs ∙ sym (unmet-length j n bits rs)

-- as std filters a list
pub filtered : (k : ℕ) (bits : List ℕ) (rs : List Requirement) → length (filter (λ r. not (met_by_code 64 bits r)) rs) ≡ length (unmet_from k 64 bits rs)
unfolding unmet_from
filtered k bits [] = refl
filtered k bits (r ∷ rs) = go (met_by_code 64 bits r) refl (filtered (suc k) bits rs)
  where
    fails : Requirement → Bool
    fails r = not (met_by_code 64 bits r)

    go : (t : Bool) → met_by_code 64 bits r ≡ t → length (filter (λ r. not (met_by_code 64 bits r)) rs) ≡ length (unmet_from (suc k) 64 bits rs)
        → length (filter (λ r. not (met_by_code 64 bits r)) (r ∷ rs)) ≡ length (unmet_from k 64 bits (r ∷ rs))
    go true e q = rw e (q ∙ sym (ap length (listed-met k 64 bits r rs e)))
    go false e q = rw e (ap suc q ∙ sym (ap length (listed-unmet k 64 bits r rs e)))
