-- A code meets a requirement of n states alike whether it is asked over n states or over all 64 that a set can have.
use Rattle.rules.specs.declared.BitNumber.{BitNumber}
use Rattle.std.specs.Prelude.{Option, Some}
use mathlib.Core.Path.{◌≡◌, refl, sym, ap, ap₂, ◌∙◌}
use mathlib.Core.Bool.{Bool, true, false, ◌&&◌, ◌||◌, cond}
use mathlib.Core.List.{List, [], ◌∷◌}
use Prim.Native.Nat.{ℕ, zero, suc, ◌^◌, ◌≤◌, ◌<◌}
use lib.Pow.{pow_mono}
use native.Mathlib.Nat.{lt_of_lt_of_le}
use Rattle.rules.specs.Requirements.{wholly, met, judged_from, judgement, is_by, met_by_code}
use Rattle.rules.specs.Code.{unmet_from}
use Rattle.rules.specs.declared.Requirement.{Requirement}
use Rattle.rules.proofs.Good.{Good, AllGood}
use Rattle.rules.proofs.Wholly.{wholly-zero, wholly-one}
use Rattle.rules.proofs.Unmet.{listed-met, listed-unmet}
use Rattle.code_judging.specs.Judging.{judgement_at}

module _ (n : ℕ) (few : n ≤ 64) where
  wide : (m : ℕ) → m < 2 ^ n → m < 2 ^ 64
  wide m h = lt_of_lt_of_le h (pow_mono few)

  zero-wide : (b m : ℕ) → m < 2 ^ n → wholly 64 b 0 m ≡ wholly n b 0 m
  zero-wide b m h = wholly-zero 64 b m (wide m h) ∙ sym (wholly-zero n b m h)

  one-wide : (b m : ℕ) → m < 2 ^ n → wholly 64 b 1 m ≡ wholly n b 1 m
  one-wide b m h = wholly-one 64 b m (wide m h) ∙ sym (wholly-one n b m h)

  met-wide : (r : Requirement) (b : ℕ) → Good n r → met 64 r b ≡ met n r b
  unfolding met
  met-wide r b g =
      ap₂ ◌||◌ (ap₂ ◌&&◌ (zero-wide b r.first g.first) (one-wide b r.second g.second)) (ap₂ ◌&&◌ (one-wide b r.first g.first) (zero-wide b r.second g.second))

  from-wide : (k : ℕ) (bits : List ℕ) (r : Requirement) → Good n r → judged_from k 64 bits r ≡ judged_from k n bits r
  unfolding judged_from
  from-wide k [] r g = refl
  from-wide k (b ∷ bs) r g = ap₂ (λ (t : Bool) (j : Option BitNumber). cond t (Some (record { 0 = k })) j) (met-wide r b g) (from-wide (suc k) bs r g)

  pub judged-wide : (bits : List ℕ) (r : Requirement) → Good n r → judgement 64 bits r ≡ judgement n bits r
  unfolding judgement
  judged-wide bits r g = from-wide 0 bits r g

  code-wide : (bits : List ℕ) (r : Requirement) → Good n r → met_by_code 64 bits r ≡ met_by_code n bits r
  unfolding met_by_code
  code-wide bits r g = ap is_by (judged-wide bits r g)

  pub at_wide : (bits : List ℕ) (rs : List Requirement) (k : ℕ) → AllGood n rs → judgement_at 64 bits rs k ≡ judgement_at n bits rs k
  unfolding judgement_at
  at_wide bits [] k g = refl
  at_wide bits (r ∷ rs) zero g = judged-wide bits r g.0
  at_wide bits (r ∷ rs) (suc k) g = at_wide bits rs k g.1

  pub unmet-wide : (k : ℕ) (bits : List ℕ) (rs : List Requirement) → AllGood n rs → unmet_from k 64 bits rs ≡ unmet_from k n bits rs
  unfolding unmet_from
  unmet-wide k bits [] g = refl
  unmet-wide k bits (r ∷ rs) g = go (met_by_code n bits r) refl (unmet-wide (suc k) bits rs g.1)
    where
      go : (t : Bool) → met_by_code n bits r ≡ t → unmet_from (suc k) 64 bits rs ≡ unmet_from (suc k) n bits rs → unmet_from k 64 bits (r ∷ rs) ≡ unmet_from k n bits (r ∷ rs)
      go true e q = listed-met k 64 bits r rs (code-wide bits r g.0 ∙ e) ∙ q ∙ sym (listed-met k n bits r rs e)
      go false e q = listed-unmet k 64 bits r rs (code-wide bits r g.0 ∙ e) ∙ ap (λ (l : List ℕ). k ∷ l) q ∙ sym (listed-unmet k n bits r rs e)
