-- The requirements of some families judged one after the other, as an iterator yields them.
use Rattle.std.specs.Prelude.{Option, Some, None, not, slice_get}
use Rattle.std.specs.List.{list_any}
use Rattle.std.specs.Option.{is_some}
use Rattle.rules.specs.declared.BitNumber.{BitNumber}
use mathlib.Core.Path.{◌≡◌, refl, sym, ap, ◌∙◌}
use mathlib.Core.Bool.{Bool, true, false, ◌||◌}
use mathlib.Core.List.{List, [], ◌∷◌}
use Prim.Native.Nat.{ℕ, zero, suc}
use native.Mathlib.Omega.{arith}
use lib.Dec.{leb}
use lib.ListN.{length}
use borrow.Author.Tests.{le-leb, lt-leb}
use Rattle.rules.specs.Requirements.{judgement, is_by, met_by_code}
use Rattle.rules.specs.Code.{unmet_from}
use Rattle.rules.specs.declared.Requirement.{Requirement}
use Rattle.rules.proofs.Unmet.{listed-met, listed-unmet, unmet-length}
use Rattle.code_judging.specs.Judging.{judgement_at, some_unmet}

-- ---- by number

module _ (bits : List ℕ) where
  pub at_one : (rs : List Requirement) (k : ℕ) (r : Requirement) → Some r ≡ slice_get rs k → judgement 64 bits r ≡ judgement_at 64 bits rs k
  unfolding judgement_at
  at_one [] k r e = cc
  at_one (s ∷ rs) zero r e = cc
  at_one (s ∷ rs) (suc k) r e = at_one rs k r e

  pub at_none : (rs : List Requirement) (k : ℕ) → None ≡ slice_get rs k → None ≡ judgement_at 64 bits rs k
  unfolding judgement_at
  at_none [] k e = refl
  at_none (s ∷ rs) zero e = cc
  at_none (s ∷ rs) (suc k) e = at_none rs k e

-- ---- whether one is unmet

-- what an `is_none` says of a judgement
pub none-is : (j : Option BitNumber) (b : Bool) → is_some j ≡ not b → b ≡ not (is_by j)
unfolding is_by
none-is None true e = refl
none-is None false e = cc
none-is (Some k) true e = cc
none-is (Some k) false e = refl

module _ (bits : List ℕ) (r : Requirement) (rs : List Requirement) where
  some-met : met_by_code 64 bits r ≡ true → some_unmet bits (r ∷ rs) ≡ some_unmet bits rs
  unfolding some_unmet
  some-met e = ap (λ (l : List ℕ). leb 1 (length l)) (listed-met 0 64 bits r rs e) ∙ ap (leb 1) (unmet-length 1 64 bits rs ∙ sym (unmet-length 0 64 bits rs))

  some-unmet : met_by_code 64 bits r ≡ false → some_unmet bits (r ∷ rs) ≡ true
  unfolding some_unmet
  some-unmet e = ap (λ (l : List ℕ). leb 1 (length l)) (listed-unmet 0 64 bits r rs e) ∙ le-leb 1 (suc (length (unmet_from 1 64 bits rs))) (omega arith)

pub any_is : (bits : List ℕ) (rs : List Requirement) → list_any (λ r. not (met_by_code 64 bits r)) rs ≡ some_unmet bits rs
unfolding some_unmet unmet_from
any_is bits [] = sym (lt-leb 1 0 (omega arith))
any_is bits (r ∷ rs) = go (met_by_code 64 bits r) refl (any_is bits rs)
  where
    go : (t : Bool) → met_by_code 64 bits r ≡ t → list_any (λ r. not (met_by_code 64 bits r)) rs ≡ some_unmet bits rs
        → list_any (λ r. not (met_by_code 64 bits r)) (r ∷ rs) ≡ some_unmet bits (r ∷ rs)
    go true e q = ap (λ (t : Bool). not t || list_any (λ r. not (met_by_code 64 bits r)) rs) e ∙ q ∙ sym (some-met bits r rs e)
    go false e q = ap (λ (t : Bool). not t || list_any (λ r. not (met_by_code 64 bits r)) rs) e ∙ sym (some-unmet bits r rs e)
