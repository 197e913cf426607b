-- Two block lists as requirements, as a loop over their places meets them.
use Rattle.std.proofs.Common.{◌≡◌, ℕ, ◌^◌, ◌<◌, ◌≤◌, Bool, true, false, ◌&&◌, ◌⊎◌, ⊎_elim, arith, eqb, List, [], ◌∷◌, length, sym, refl, ap, ◌∙◌, ap₂, lt_of_lt_of_le, pow_mono, lt-ltb}
use lib.Bits.{bit_and}
use Rattle.rules.specs.Requirements.{asks}
use Rattle.rules.specs.Trial.{within, paired, all_sound}

-- 64 digits or more hold every mask
pub within-wide : (n m : ℕ) → 64 ≤ n → m < 2 ^ 64 → true ≡ within n m
within-wide n m h l = sym (lt-ltb m (2 ^ n) (lt_of_lt_of_le l (pow_mono h)))

-- the blocks f and g are within n states and do not overlap
abbrev sound_one : ℕ → ℕ → ℕ → Bool
sound_one n f g = within n f && within n g && eqb (bit_and f g) 0

-- ---- the first place, and those behind it

module _ (n f g : ℕ) (fs gs fs' gs' : List ℕ) (e : fs ≡ f ∷ fs') (k : gs ≡ g ∷ gs') where
  paired-more : paired fs gs ≡ asks f g ∷ paired fs' gs'
  unfolding paired
  paired-more = ap₂ paired e k

  pub sound_more : sound_one n f g ≡ true → all_sound n (paired fs gs) ≡ all_sound n (paired fs' gs')
  unfolding all_sound
  sound_more t = ap (all_sound n) paired-more ∙ ap (λ (u : Bool). u && all_sound n (paired fs' gs')) t

  pub sound-not : sound_one n f g ≡ false → all_sound n (paired fs gs) ≡ false
  unfolding all_sound
  sound-not t = ap (all_sound n) paired-more ∙ ap (λ (u : Bool). u && all_sound n (paired fs' gs')) t

-- where one list ends, there are no more
pub sound-end : (n : ℕ) (fs gs : List ℕ) → (length fs ≡ 0) ⊎ (length gs ≡ 0) → all_sound n (paired fs gs) ≡ true
unfolding all_sound paired
sound-end n [] gs h = refl
sound-end n (f ∷ fs) [] h = refl
sound-end n (f ∷ fs) (g ∷ gs) h = absurd (⊎_elim (λ e. omega arith) (λ e. omega arith) h)
