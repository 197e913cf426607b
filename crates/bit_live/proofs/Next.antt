-- What a bit leaves of the live requirements: the families that are left, and the pairs of the longer code.
use Rattle.std.proofs.Common.{◌≡◌, ℕ, zero, suc, ◌^◌, ◌<◌, ◌≤◌, min, Bool, true, false, cond, eqb, List, [], ◌∷◌, ◌++◌, length, get_or, take, drop, sym, refl, ap, ◌∙◌, ap₂, arith, pow_pos}
use lib.Seq.{take-append_seam}
use Rattle.sets.specs.Sets.{size, states_from}
use Rattle.rules.specs.Requirements.{pairs}
use Rattle.rules.specs.Code.{unmet_by}
use Rattle.rules.specs.declared.Requirement.{Requirement}
use Rattle.rules.proofs.Unmet.{live_after, unmet_in, live-unmet}
use Rattle.families.specs.Families.{without, requirements_of, requirements_in}
use Rattle.families.proofs.Parts.{part-lt, rest_lt}
use Rattle.families.proofs.Left.{unmet-append}
use Rattle.move_halves.specs.Halves.{side, back, ones, zeros}
use Rattle.move_pairs.specs.Pairs.{live_pairs}
use Rattle.bit_live.specs.Live.{live_in}
use Rattle.bit_live.specs.Left.{left_by, left_families, sifted_families, left_of, stays_of}
use Rattle.bit_live.proofs.Family.{family-unmet}

-- families of n states
abbrev pub Within : ℕ → List ℕ → Type 0
Within n fs = (i : ℕ) → get_or fs i 0 < 2 ^ n

module _ (n b : ℕ) where
  pub families-left : (fs : List ℕ) → Within n fs → requirements_in (left_families b fs) ≡ unmet_by n b (requirements_in fs)
  unfolding requirements_in left_families unmet_by
  families-left [] w = refl
  families-left (all ∷ []) w = refl
  families-left (all ∷ (flip ∷ [])) w = refl
  families-left (all ∷ (flip ∷ (out ∷ fs))) w =
      one (stays_of all flip out b)
      ∙ ap₂ ◌++◌ (sym (family-unmet n all flip out b (w 0) (w 2))) (families-left fs (λ i. w (suc (suc (suc i)))))
      ∙ sym (unmet-append n b (requirements_of all flip out) (requirements_in fs))
    where
      one : (t : Bool) → requirements_in (cond t (all ∷ (flip ∷ (left_of all flip out b ∷ left_families b fs))) (left_families b fs))
          ≡ cond t (requirements_of all flip (left_of all flip out b)) [] ++ requirements_in (left_families b fs)
      one true = refl
      one false = refl

  -- a bit behind the others
  live-next : (bits : List ℕ) (rs : List Requirement) → live_after n (bits ++ (b ∷ [])) rs ≡ unmet_by n b (live_after n bits rs)
  unfolding live_after
  live-next [] rs = refl
  live-next (a ∷ bits) rs = live-next bits (unmet_by n a rs)

  pub unmet-next : (bits : List ℕ) (rs : List Requirement) → unmet_in n (bits ++ (b ∷ [])) rs ≡ unmet_by n b (unmet_in n bits rs)
  unmet-next bits rs = sym (live-unmet n (bits ++ (b ∷ [])) rs) ∙ live-next bits rs ∙ ap (unmet_by n b) (live-unmet n bits rs)

-- the families that are left stand in front
pub sifted-front : (b : ℕ) (fs : List ℕ) → take (length (left_families b fs)) (sifted_families b fs) ≡ left_families b fs
unfolding sifted_families
sifted-front b fs = take-append_seam (left_families b fs) (drop (length (left_families b fs)) fs)

-- what the sifting leaves of a list of families
pub sifted-left : (n b : ℕ) (fs : List ℕ) → Within n fs → requirements_in (take (length (left_families b fs)) (sifted_families b fs)) ≡ unmet_by n b (requirements_in fs)
sifted-left n b fs w = ap requirements_in (sifted-front b fs) ∙ families-left n b fs w

-- what stays live, for requirements of at most 64 states
module _ (n b : ℕ) (fits : n ≤ 64) (bits fs : List ℕ) (w : Within n fs) where
  pub pairs_next : live_pairs n (bits ++ (b ∷ [])) ≡ unmet_by n b (live_pairs n bits)
  unfolding live_pairs
  pairs_next =
      let e : min n 64 ≡ n = omega arith in
      unmet-next (min n 64) b bits (pairs (states_from 0 (min n 64)))
      ∙ ap (λ (k : ℕ). unmet_by k b (unmet_in (min n 64) bits (pairs (states_from 0 (min n 64))))) e

  pub live-left : live_in n (bits ++ (b ∷ [])) (take (length (left_families b fs)) (sifted_families b fs)) ≡ unmet_by n b (live_in n bits fs)
  live-left = ap₂ ◌++◌ pairs_next (sifted-left n b fs w) ∙ sym (unmet-append n b (live_pairs n bits) (requirements_in fs))

-- ---- what is left is of n states too

module _ (n b : ℕ) where
  left-by-lt : (x y o : ℕ) → o < 2 ^ n → left_by x y o b < 2 ^ n
  unfolding left_by
  left-by-lt x y o h = go (eqb x 0) (eqb y 0)
    where
      go : (u v : Bool) → cond u (cond v 0 (zeros o b)) (cond v (ones o b) o) < 2 ^ n
      go true true = pow_pos n
      go true false = rest_lt n o b h
      go false true = part-lt n o b h
      go false false = h

  pub within-left : (fs : List ℕ) → Within n fs → Within n (left_families b fs)
  unfolding left_families left_of
  within-left [] w = λ i. pow_pos n
  within-left (all ∷ []) w = λ i. pow_pos n
  within-left (all ∷ (flip ∷ [])) w = λ i. pow_pos n
  within-left (all ∷ (flip ∷ (out ∷ fs))) w = go (stays_of all flip out b) (within-left fs (λ i. w (suc (suc (suc i)))))
    where
      left : ℕ
      left = left_of all flip out b

      more : Within n (left_families b fs) → Within n (all ∷ (flip ∷ (left ∷ left_families b fs)))
      more r zero = w 0
      more r (suc zero) = w 1
      more r (suc (suc zero)) = left-by-lt (size (side all flip b)) (size (back all flip b)) (without out all) (rest_lt n out all (w 2))
      more r (suc (suc (suc i))) = r i

      go : (t : Bool) → Within n (left_families b fs) → Within n (cond t (all ∷ (flip ∷ (left ∷ left_families b fs))) (left_families b fs))
      go true r = more r
      go false r = r

  pub within-sifted : (fs : List ℕ) → Within n fs → Within n (take (length (left_families b fs)) (sifted_families b fs))
  within-sifted fs w = rw (sifted-front b fs) (within-left fs w)
