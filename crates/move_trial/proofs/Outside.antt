-- A number that is no state's gains nothing: its flip changes no value that a requirement asks about.
use Rattle.std.proofs.Common.{◌≡◌, ℕ, ◌+◌, ◌≤◌, Bool, cond, ◌&&◌, ◌||◌, eqb, List, [], ◌∷◌, pos, refl, ap, ap₂, arith}
use Rattle.sets.specs.Sets.{has, flip}
use Rattle.sets.proofs.Every.{every-same}
use Rattle.sets.proofs.Members.{has-flip-other}
use Rattle.rules.specs.Requirements.{wholly, met, met_count}
use Rattle.rules.specs.OneBit.{gain}
use Rattle.rules.specs.declared.Requirement.{Requirement}
use Rattle.move_trial.proofs.Levels.{same-less}

module _ (n b s : ℕ) (h : n ≤ s) where
  wholly-out : (v block : ℕ) → wholly n (flip b s) v block ≡ wholly n b v block
  unfolding wholly
  wholly-out v block =
      every-same n (λ t. eqb (has block t) 0 || eqb (has (flip b s) t) v) (λ t. eqb (has block t) 0 || eqb (has b t) v)
      (λ t l. ap (λ (d : ℕ). eqb (has block t) 0 || eqb d v) (has-flip-other b s t (λ e. omega arith)))

  met-out : (r : Requirement) → met n r (flip b s) ≡ met n r b
  unfolding met
  met-out r = ap₂ ◌||◌ (ap₂ ◌&&◌ (wholly-out 0 r.first) (wholly-out 1 r.second)) (ap₂ ◌&&◌ (wholly-out 1 r.first) (wholly-out 0 r.second))

  count-out : (rs : List Requirement) → met_count n rs (flip b s) ≡ met_count n rs b
  unfolding met_count
  count-out [] = refl
  count-out (r ∷ rs) = ap₂ (λ (t : Bool) (k : ℕ). cond t 1 0 + k) (met-out r) (count-out rs)

  pub gain-out : (rs : List Requirement) → gain n rs b s ≡ pos 0
  unfolding gain
  gain-out rs = same-less (met_count n rs (flip b s)) (met_count n rs b) 0 0 (let e = count-out rs in omega arith)
