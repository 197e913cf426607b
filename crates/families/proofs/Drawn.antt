-- What 01 asks for of a group, and of a dichotomy, is a family.
use mathlib.Core.Path.{◌≡◌, refl, sym, ap, ap₂, ◌∙◌}
use mathlib.Core.List.{List, [], ◌∷◌, map}
use Prim.Native.Nat.{ℕ, zero, suc, ◌+◌, ◌-◌, ◌^◌, ◌≤◌, ◌<◌}
use native.Mathlib.Omega.{arith}
use lib.Bits.{bit_and, bit_or, bit_xor, and_zero_r, or_zero_l, xor_zero_r, or_lt}
use lib.Pow.{pow_pos}
use borrow.Author.Tests.{ne_eqb}
use Rattle.sets.specs.Sets.{has, only, everyone, states_from}
use Rattle.sets.proofs.Members.{has-lt, has-and, has-or, has_all, has-high, same-mask}
use Rattle.rules.specs.Requirements.{asks, outside, group_asks}
use Rattle.rules.specs.declared.Requirement.{Requirement}
use Rattle.rules.proofs.Counts.{Apart}
use Rattle.families.specs.Families.{without, inside, joined, requirements_of}
use Rattle.families.proofs.Parts.{has_rest, part-lt, rest_lt}
use Rattle.families.proofs.Inside.{inside-in, inside-out}

pub map_same : (f g : ℕ → Requirement) → ((t : ℕ) → f t ≡ g t) → (ts : List ℕ) → map f ts ≡ map g ts
map_same f g h [] = refl
map_same f g h (t ∷ ts) = ap₂ (λ (r : Requirement) (rs : List Requirement). r ∷ rs) (h t) (map_same f g h ts)

-- nobody in common stands in the second block
pub plain-joined : (g t : ℕ) → joined g 0 t ≡ asks g (only t)
plain-joined g t = ap₂ asks (ap (bit_xor g) (and_zero_r g) ∙ xor_zero_r g) (ap (λ (m : ℕ). bit_or m (only t)) (and_zero_r g) ∙ or_zero_l (only t))

-- states from n on are no members
pub none-high : (n m : ℕ) → ((t : ℕ) → n ≤ t → has m t ≡ 0) → (r a : ℕ) → n ≤ a → inside m (states_from a r) ≡ []
unfolding inside states_from
none-high n m h zero a l = refl
none-high n m h (suc r) a l = inside-out m a (states_from (suc a) r) (h a l) ∙ none-high n m h r (suc a) (omega arith)

-- ---- a group

outside-in : (g t : ℕ) (ts : List ℕ) → has g t ≡ 1 → outside g (t ∷ ts) ≡ outside g ts
unfolding outside
outside-in g t ts e = rw (outside, e)

outside-out : (g t : ℕ) (ts : List ℕ) → has g t ≡ 0 → outside g (t ∷ ts) ≡ t ∷ outside g ts
unfolding outside
outside-out g t ts e = rw (outside, e)

module _ (n g m : ℕ) (low : (t : ℕ) → t < n → has m t ≡ 1 - has g t) (high : (t : ℕ) → n ≤ t → has m t ≡ 0) where
  inside-outside : (r k a : ℕ) → a + k ≡ n → inside m (states_from a (k + r)) ≡ outside g (states_from a k)
  unfolding inside outside states_from
  inside-outside r zero a e = let z : 0 + r ≡ r = omega arith in ap (λ (j : ℕ). inside m (states_from a j)) z ∙ none-high n m high r a (omega arith)
  inside-outside r (suc k) a e = go (has g a) refl (inside-outside r k (suc a) (omega arith))
    where
      z : suc k + r ≡ suc (k + r)
      z = omega arith

      go : (d : ℕ) → has g a ≡ d → inside m (states_from (suc a) (k + r)) ≡ outside g (states_from (suc a) k) → inside m (states_from a (suc k + r)) ≡ outside g (states_from a (suc k))
      go zero f later =
          ap (λ (j : ℕ). inside m (states_from a j)) z
          ∙ inside-in m a (states_from (suc a) (k + r)) (low a (omega arith) ∙ ap (λ (d : ℕ). 1 - d) f)
          ∙ ap (λ (l : List ℕ). a ∷ l) later
          ∙ sym (outside-out g a (states_from (suc a) k) f)
      go (suc d) f later =
          let i : has g a ≡ 1 = omega (arith, has-lt g a) in
          ap (λ (j : ℕ). inside m (states_from a j)) z
          ∙ inside-out m a (states_from (suc a) (k + r)) (low a (omega arith) ∙ ap (λ (d : ℕ). 1 - d) i)
          ∙ later
          ∙ sym (outside-in g a (states_from (suc a) k) i)

-- with its states outside, of which there is one
pub group-drawn : (n g : ℕ) → n ≤ 64 → (without (everyone n) g ≡ 0 → ⊥) → requirements_of g 0 (without (everyone n) g) ≡ group_asks n g
unfolding requirements_of group_asks
group-drawn n g fits o =
    let out : ℕ = without (everyone n) g in
    let m : ℕ = without out g in
    let e : 64 ≡ n + (64 - n) = omega arith in
    rw (ne_eqb out 0 o)
    (ap (λ (k : ℕ). map (joined g 0) (inside m (states_from 0 k))) e
    ∙ ap (map (joined g 0)) (inside-outside n g m low high (64 - n) n 0 (omega arith))
    ∙ map_same (joined g 0) (λ s. asks g (only s)) (plain-joined g) (outside g (states_from 0 n)))
  where
    all-lt : everyone n < 2 ^ n
    all-lt = omega (arith, pow_pos n)

    low : (t : ℕ) → t < n → has (without (without (everyone n) g) g) t ≡ 1 - has g t
    low t h = omega (arith, has_rest (without (everyone n) g) g t, has_rest (everyone n) g t, has_all n t h, has-lt g t)

    high : (t : ℕ) → n ≤ t → has (without (without (everyone n) g) g) t ≡ 0
    high t h = has-high n (without (without (everyone n) g) g) t (rest_lt n (without (everyone n) g) g (rest_lt n (everyone n) g all-lt)) h

-- ---- a dichotomy

pub dichotomy-drawn : (n f g : ℕ) → f < 2 ^ n → g < 2 ^ n → Apart f g → requirements_of (bit_or f g) g 0 ≡ asks f g ∷ []
unfolding requirements_of
dichotomy-drawn n f g hf hg apart = ap₂ (λ (x y : ℕ). asks x y ∷ []) first second
  where
    both : bit_or f g < 2 ^ n
    both = or_lt n f g hf hg

    first : without (bit_or f g) g ≡ f
    first = same-mask n (without (bit_or f g) g) f (rest_lt n (bit_or f g) g both) hf (λ t _. omega (arith, has_rest (bit_or f g) g t, has-or f g t, has-lt f t, has-lt g t, apart t))

    second : bit_and (bit_or f g) g ≡ g
    second = same-mask n (bit_and (bit_or f g) g) g (part-lt n (bit_or f g) g both) hg (λ t _. omega (arith, has-and (bit_or f g) g t, has-or f g t, has-lt f t, has-lt g t))
