-- The record of a start lists the requirements that it was given, and no others.
use Rattle.std.proofs.Common.{◌≡◌, ℕ, suc, ◌*◌, ◌≤◌, List, [], ◌∷◌, ◌++◌, length, take, refl, ap, ◌∙◌, ap₂, arith}
use Rattle.rules.specs.Limits.{most_trial}
use Rattle.rules.specs.Trial.{paired}
use Rattle.rules.specs.declared.Requirement.{Requirement}
use Rattle.rules.proofs.Good.{AllGood}
use Rattle.families.specs.Families.{requirements_in}
use Rattle.families.proofs.Drawn.{dichotomy-drawn}
use Rattle.move_trial.specs.Record.{families_of, stored}
use Rattle.move_trial.proofs.Stored.{stored-first}

-- a family of its own holds one requirement, if its blocks are apart
families-listed : (n : ℕ) (fs gs : List ℕ) → AllGood n (paired fs gs) → requirements_in (families_of fs gs) ≡ paired fs gs
unfolding families_of paired requirements_in
families-listed n [] gs h = refl
families-listed n (f ∷ fs) [] h = refl
families-listed n (f ∷ fs) (g ∷ gs) h =
    ap₂ (λ (rs qs : List Requirement). rs ++ qs) (dichotomy-drawn n f g h.0.first h.0.second h.0.apart) (families-listed n fs gs h.1)

pub paired-length : (fs gs : List ℕ) → length fs ≡ length gs → length (paired fs gs) ≡ length fs
unfolding paired
paired-length [] gs e = refl
paired-length (f ∷ fs) [] e = absurd (omega arith)
paired-length (f ∷ fs) (g ∷ gs) e = ap suc (paired-length fs gs (omega arith))

pub listed : (n : ℕ) (fs gs : List ℕ) → length fs ≡ length gs → length fs ≤ most_trial → AllGood n (paired fs gs)
    → requirements_in (take (3 * length fs) (stored fs gs)) ≡ paired fs gs
listed n fs gs like few good = ap requirements_in (stored-first fs gs like (omega arith)) ∙ families-listed n fs gs good
