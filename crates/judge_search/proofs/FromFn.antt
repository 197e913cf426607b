-- An array that a function of the place fills, where calls leave the function as it was.
use Rattle.std.specs.Array.{IsFromFnResult, IsFromFnResultFrom}
use Rattle.std.specs.Fn.{Called}
use denote.Param.Members.{Mut}
use mathlib.Core.Path.{◌≡◌, subst, ◌∙◌}
use mathlib.Core.List.{List, map}
use Prim.Native.Nat.{ℕ, zero, suc, ◌+◌, ◌<◌}
use native.Mathlib.Omega.{arith}
use lib.ListN.{get_or}
use Rattle.sets.specs.Sets.{states_from}
use Rattle.judge_search.proofs.Columns.{filled}

module _ {F : Type 0} {g : Mut F (ℕ × Unit {0}) ℕ} {f : F} (ys : List ℕ) (h : ℕ → ℕ) (says : (i y : ℕ) (q : F) → Called g f (i, tt) y q → (q ≡ f) × (y ≡ h i)) where
  each-at : (i k : ℕ) → IsFromFnResultFrom g f ys i k → (j : ℕ) → j < k → get_or ys (i + j) 0 ≡ h (i + j)
  each-at i zero e j l = absurd (omega arith)
  each-at i (suc k) e zero l =
      let z : i + 0 ≡ i = omega arith in
      rw z ((e.2).1 0 ∙ (says i e.1 e.0 e.3).1)
  each-at i (suc k) e (suc j) l =
      let z : i + suc j ≡ i + 1 + j = omega arith in
      rw z (each-at (i + 1) k (subst (λ (q : F). IsFromFnResultFrom g q ys (i + 1) k) (says i e.1 e.0 e.3).0 e.4) j (omega arith))

  pub from-fn : {n : ℕ} → IsFromFnResult g f ys n → ys ≡ map h (states_from 0 n)
  from-fn {n} r = filled h n ys r.long (λ k l. let z : 0 + k ≡ k = omega arith in rw z at (each-at 0 n r.each k l))
