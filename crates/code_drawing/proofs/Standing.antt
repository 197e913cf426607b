-- Whether a group stands among families, read as chunks of three words.
use Rattle.std.proofs.Common.{◌≡◌, ℕ, zero, suc, ◌*◌, ◌+◌, ◌<◌, ◌≤◌, Bool, true, false, ◌||◌, eqb, List, [], ◌∷◌, length, get_or, refl, sym, ap₂, ◌∙◌, arith, eq-eqb, ne_eqb, eqb-true}
use borrow.Author.Tests.{eqb-false}
use Rattle.std.specs.List.{list_any}
use Rattle.std.specs.Simd.{first_chunks}
use Rattle.code_drawing.specs.Drawing.{stands_in}

-- the members in common of a family are g
abbrev pub first_is : ℕ → List ℕ → Bool
first_is g w = eqb (get_or w 0 0) g

pub stands-any : (g c : ℕ) (fs : List ℕ) → 3 * c ≤ length fs → length fs < 3 * c + 3 → list_any (first_is g) (first_chunks 3 c fs) ≡ stands_in g fs
unfolding stands_in
stands-any g zero [] h l = refl
stands-any g zero (a ∷ []) h l = refl
stands-any g zero (a ∷ (b ∷ [])) h l = refl
stands-any g zero (a ∷ (b ∷ (o ∷ fs))) h l = absurd (omega arith)
stands-any g (suc c) [] h l = absurd (omega arith)
stands-any g (suc c) (a ∷ []) h l = absurd (omega arith)
stands-any g (suc c) (a ∷ (b ∷ [])) h l = absurd (omega arith)
stands-any g (suc c) (a ∷ (b ∷ (o ∷ fs))) h l = ap₂ (λ (x y : Bool). x || y) (swap (eqb a g) refl) (stands-any g c fs (omega arith) (omega arith))
  where
    swap : (b : Bool) → eqb a g ≡ b → eqb a g ≡ eqb g a
    swap true e = e ∙ sym (eq-eqb g a (sym (eqb-true a g e)))
    swap false e = e ∙ sym (ne_eqb g a (λ z. eqb-false a g e (sym z)))
