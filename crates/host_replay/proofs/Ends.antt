-- Where the whole lines among some bytes end, looked for from behind.
use Rattle.std.specs.Prelude.{◌≢◌}
use mathlib.Core.Path.{◌≡◌, refl, ap, ◌∙◌}
use mathlib.Core.Bool.{Bool, cond}
use mathlib.Core.List.{List, [], ◌∷◌}
use Prim.Native.Nat.{ℕ, zero, suc, ◌+◌, ◌-◌, ◌≤◌, ◌<◌}
use native.Mathlib.Omega.{arith}
use lib.ListN.{length, get_or}
use borrow.Author.Tests.{eq-eqb, ne_eqb}
use Rattle.rules.specs.Text.{lf}
use Rattle.rules.specs.Parts.{before, whole_lines}
use Rattle.host_replay.specs.Replaying.{piece_end}

-- behind a byte that is no LF nothing is whole
pub whole-on : (k : ℕ) (l : List ℕ) → k < length l → (get_or l k 0 ≡ lf → ⊥) → whole_lines (suc k) l ≡ whole_lines k l
unfolding whole_lines before
whole-on k [] h o = absurd (omega arith)
whole-on zero (x ∷ xs) h o = ap (λ (b : Bool). cond b (x ∷ []) []) (ne_eqb x lf o)
whole-on (suc k) (x ∷ xs) h o = ap (before x) (whole-on k xs (omega arith) o)

before-long : (x : ℕ) (l : List ℕ) → 0 < length l → length (before x l) ≡ suc (length l)
unfolding before
before-long x [] h = absurd (omega arith)
before-long x (y ∷ ys) h = refl

-- and up to a LF all is
pub whole_here : (k : ℕ) (l : List ℕ) → k < length l → get_or l k 0 ≡ lf → length (whole_lines (suc k) l) ≡ suc k
unfolding whole_lines before
whole_here k [] h e = absurd (omega arith)
whole_here zero (x ∷ xs) h e = ap (λ (b : Bool). length (cond b (x ∷ []) [])) (eq-eqb x lf e)
whole_here (suc k) (x ∷ xs) h e =
    let r = whole_here k xs (omega arith) e in
    before-long x (whole_lines (suc k) xs) (omega (arith, r)) ∙ ap suc r

whole-nothing : (l : List ℕ) → whole_lines 0 l ≡ []
unfolding whole_lines
whole-nothing l = refl

-- so it ends behind the last LF, or there is none
module _ (l : List ℕ) where
  -- up to m, behind k, where no byte is LF
  whole-behind : (m n k : ℕ) → m ≡ k + n → m ≤ length l → ((j : ℕ) → k ≤ j → j < length l → get_or l j 0 ≢ lf) → whole_lines m l ≡ whole_lines k l
  whole-behind m zero k e h o = ap (λ (i : ℕ). whole_lines i l) (omega (arith, e))
  whole-behind zero (suc n) k e h o = absurd (omega (arith, e))
  whole-behind (suc m) (suc n) k e h o =
      whole-on m l (omega arith) (o m (omega (arith, e)) (omega arith)) ∙ whole-behind m n k (omega (arith, e)) (omega arith) o

  pub ends-here : (k : ℕ) → k < length l → get_or l k 0 ≡ lf → ((j : ℕ) → k + 1 ≤ j → j < length l → get_or l j 0 ≢ lf) → k + 1 ≡ piece_end l
  unfolding piece_end
  ends-here k h b o =
      let n : length (whole_lines (length l) l) ≡ suc k =
      ap length (whole-behind (length l) (length l - suc k) (suc k) (omega arith) (omega arith) (λ j z. o j (omega (arith, z)))) ∙ whole_here k l h b in
      rw (n, ne_eqb (suc k) 0 (λ z. omega arith)) (omega arith)

  pub ends-none : ((j : ℕ) → j < length l → get_or l j 0 ≢ lf) → length l ≡ piece_end l
  unfolding piece_end
  ends-none o =
      let n : length (whole_lines (length l) l) ≡ 0 = ap length (whole-behind (length l) (length l) 0 (omega arith) (omega arith) (λ j z. o j) ∙ whole-nothing l) in
      rw n
