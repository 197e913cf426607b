-- The widths of a search, one after the other: the first code of the first width that has one is the first of all codes up to any width beyond it.
use Rattle.std.specs.Prelude.{Some, None}
use mathlib.Core.Path.{◌≡◌, refl, sym, ap, ◌∙◌}
use mathlib.Core.Bool.{Bool, true, false, true≢false, false≢true}
use mathlib.Core.List.{List, ◌++◌}
use Prim.Native.Nat.{ℕ, zero, suc, ◌+◌, ◌≤◌, ◌<◌}
use native.Mathlib.Decide.{ℕ_discrete}
use native.Mathlib.Omega.{arith}
use lib.ListN.{length, take, drop}
use lib.Seq.{length-take-le}
use Rattle.rules.specs.Least.{codes_of, codes_up_to, First, first, none, first_with}
use Rattle.rules.proofs.Codes.{listed-code, first_of, or_then, first-append}
use Rattle.code_search.specs.Search.{takes_all, searched, told, told_width}
use Rattle.code_search.proofs.Order.{search-first}

module _ (p : List ℕ → Bool) (c : ℕ) where
  abbrev ofWidth : ℕ → First
  ofWidth w = first_with p (codes_of c w)

  abbrev up_to : ℕ → First
  up_to n = first_with p (codes_up_to c n)

  step : (n : ℕ) → up_to (suc n) ≡ or_then (up_to n) (ofWidth (suc n))
  unfolding codes_up_to
  step n = first-append p (codes_up_to c n) (codes_of c (suc n))

  pub none-up-to : (n : ℕ) → ((k : ℕ) → k ≤ n → ofWidth k ≡ none) → up_to n ≡ none
  unfolding codes_up_to or_then
  none-up-to zero h = h 0 (omega arith)
  none-up-to (suc n) h = step n ∙ ap (λ (f : First). or_then f (ofWidth (suc n))) (none-up-to n (λ k l. h k (omega arith))) ∙ h (suc n) (omega arith)

  pub first-up-to : (n w : ℕ) (code : List ℕ) → w ≤ n → ((k : ℕ) → k < w → ofWidth k ≡ none) → ofWidth w ≡ first code → up_to n ≡ first code
  unfolding codes_up_to or_then
  first-up-to zero w code l h e = let z : 0 ≡ w = omega arith in ap (λ (k : ℕ). ofWidth k) z ∙ e
  first-up-to (suc n) w code l h e = go (ℕ_discrete w (suc n)) (λ q. first-up-to n w code q h e)
    where
      go : Dec (w ≡ suc n) → (w ≤ n → up_to n ≡ first code) → up_to (suc n) ≡ first code
      go (yes s) f = step n ∙ ap (λ (g : First). or_then g (ofWidth (suc n))) (none-up-to n (λ k q. h k (omega arith))) ∙ ap (λ (k : ℕ). ofWidth k) (sym s) ∙ e
      go (no o) f = step n ∙ ap (λ (g : First). or_then g (ofWidth (suc n))) (f (omega arith))

-- ---- one width searched in the first places

-- what it came to
abbrev pub Searched : List ℕ → List ℕ → ℕ → ℕ → Bool → List ℕ → Type 0
Searched met cs left w r ys = (r, ys) ≡ told (searched met (length (take w cs)) 0 left) (take w cs)

module _ (met cs : List ℕ) (left w : ℕ) (l : w ≤ length cs) (r : Bool) (ys : List ℕ) where
  came : Searched met cs left w r ys → (r, ys) ≡ told (first_with (takes_all met left) (codes_of (length met) w)) (take w cs)
  came e =
      e
      ∙ ap (λ (k : ℕ). told (searched met k 0 left) (take w cs)) (length-take-le w cs l)
      ∙ ap (λ (f : First). told f (take w cs)) (search-first met w left)

  -- a code was found
  pub width-found : r ≡ true → ((k : ℕ) → k < w → first_with (takes_all met left) (codes_of (length met) k) ≡ none) → Searched met cs left w r ys
      → (Some w, ys ++ drop w cs) ≡ told_width (first_with (takes_all met left) (codes_up_to (length met) (length cs))) cs
  unfolding told told_width
  width-found q h e = go (first_with (takes_all met left) (codes_of (length met) w)) refl (came e)
    where
      go : (f : First) → first_with (takes_all met left) (codes_of (length met) w) ≡ f → (r, ys) ≡ told f (take w cs)
          → (Some w, ys ++ drop w cs) ≡ told_width (first_with (takes_all met left) (codes_up_to (length met) (length cs))) cs
      go (first code) s g =
          let wide : length code ≡ w = (listed-code (length met) w code (first_of (takes_all met left) (codes_of (length met) w) code s).listed).0 in
          ap (λ (k : List ℕ). (Some w, k ++ drop w cs)) (ap (λ (b : Bool × List ℕ). b.1) g)
          ∙ ap (λ (k : ℕ). (Some k, code ++ drop k cs)) (sym wide)
          ∙ sym (ap (λ (f : First). told_width f cs) (first-up-to (takes_all met left) (length met) (length cs) w code l h s))
      go none s g = absurd (true≢false (sym q ∙ ap (λ (b : Bool × List ℕ). b.0) g))

  -- none was: the places are as they came
  pub width-none : r ≡ false → Searched met cs left w r ys → (ys ≡ take w cs) × (first_with (takes_all met left) (codes_of (length met) w) ≡ none)
  unfolding told
  width-none q e = go (first_with (takes_all met left) (codes_of (length met) w)) refl (came e)
    where
      go : (f : First) → first_with (takes_all met left) (codes_of (length met) w) ≡ f → (r, ys) ≡ told f (take w cs) → (ys ≡ take w cs) × (first_with (takes_all met left) (codes_of (length met) w) ≡ none)
      go (first code) s g = absurd (false≢true (sym q ∙ ap (λ (b : Bool × List ℕ). b.0) g))
      go none s g = (ap (λ (b : Bool × List ℕ). b.1) g, s)

-- one width more that has none
pub none_more : (f : ℕ → First) (w : ℕ) → ((k : ℕ) → k < w → f k ≡ none) → f w ≡ none → (k : ℕ) → k < w + 1 → f k ≡ none
none_more f w h e k l = go (ℕ_discrete k w)
  where
    go : Dec (k ≡ w) → f k ≡ none
    go (yes s) = ap f s ∙ e
    go (no o) = h k (omega arith)

-- no width has one
pub no-width : (met cs : List ℕ) (left : ℕ) → ((k : ℕ) → k ≤ length cs → first_with (takes_all met left) (codes_of (length met) k) ≡ none)
    → (None, cs) ≡ told_width (first_with (takes_all met left) (codes_up_to (length met) (length cs))) cs
unfolding told_width
no-width met cs left h = sym (ap (λ (f : First). told_width f cs) (none-up-to (takes_all met left) (length met) (length cs) h))
