-- The set of a field's characters that are c: within the field's length, and apart from the set of another character.
use mathlib.Core.Path.{◌≡◌, refl, sym, ap, ap₂, subst, ◌∙◌}
use mathlib.Core.Bool.{Bool, true, false, ◌&&◌}
use mathlib.Core.List.{List, [], ◌∷◌}
use Prim.Native.Nat.{ℕ, ◌+◌, ◌*◌, ◌/◌, ◌%◌, ◌^◌, ◌≤◌, ◌<◌, min}
use native.Mathlib.Nat.{pow-suc}
use native.Mathlib.Decide.{ℕ_discrete}
use native.Mathlib.Omega.{arith}
use lib.Dec.{leb, eqb}
use lib.Bits.{bit_and, and_step}
use lib.ListN.{length}
use borrow.Author.Tests.{eqb-true, ne_eqb}
use Rattle.sets.specs.Sets.{has}
use Rattle.sets.proofs.Members.{has-and, has-none, has-lt}
use Rattle.sets.proofs.Every.{and_first, and_second}
use Rattle.rules.specs.Text.{digit, all_of, sized, set_of}

digit_lt : (t : Bool) → digit t < 2
digit_lt true = omega arith
digit_lt false = omega arith

pub set-lt : (c : ℕ) (f : List ℕ) → set_of c f < 2 ^ length f
unfolding set_of
set-lt c [] = omega arith
set-lt c (x ∷ xs) = omega (arith, set-lt c xs, pow-suc 2 (length xs), digit_lt (eqb x c))

apart_more : (a b u v : ℕ) → u < 2 → v < 2 → bit_and a b ≡ 0 → min u v ≡ 0 → bit_and (a * 2 + u) (b * 2 + v) ≡ 0
apart_more a b u v h k e m =
    let high : bit_and ((a * 2 + u) / 2) ((b * 2 + v) / 2) ≡ 0 = ap₂ bit_and (halves a u h) (halves b v k) ∙ e in
    let low : min ((a * 2 + u) % 2) ((b * 2 + v) % 2) ≡ 0 = ap₂ min (lows a u h) (lows b v k) ∙ m in
    omega (arith, and_step (a * 2 + u) (b * 2 + v))
  where
    halves : (n d : ℕ) → d < 2 → (n * 2 + d) / 2 ≡ n
    halves n d h = omega arith

    lows : (n d : ℕ) → d < 2 → (n * 2 + d) % 2 ≡ d
    lows n d h = omega arith

-- no character is both
not-both : (x c d : ℕ) → (c ≡ d → ⊥) → min (digit (eqb x c)) (digit (eqb x d)) ≡ 0
not-both x c d o = go (ℕ_discrete x c)
  where
    go : Dec (x ≡ c) → min (digit (eqb x c)) (digit (eqb x d)) ≡ 0
    go (yes e) = omega (arith, ap digit (ne_eqb x d (λ q. o (sym e ∙ q))))
    go (no e) = omega (arith, ap digit (ne_eqb x c e))

pub set_apart : (c d : ℕ) → (c ≡ d → ⊥) → (f : List ℕ) → bit_and (set_of c f) (set_of d f) ≡ 0
unfolding set_of
set_apart c d o [] = refl
set_apart c d o (x ∷ xs) = apart_more (set_of c xs) (set_of d xs) _ _ (digit_lt (eqb x c)) (digit_lt (eqb x d)) (set_apart c d o xs) (not-both x c d o)

-- sets apart have no state in common
pub apart-has : (a b : ℕ) → bit_and a b ≡ 0 → (s : ℕ) → has a s + has b s ≤ 1
apart-has a b e s = omega (arith, sym (has-and a b s) ∙ ap (λ (k : ℕ). has k s) e ∙ has-none s, has-lt a s, has-lt b s)

-- a field of k characters
pub sized-length : (most k a b c : ℕ) (f : List ℕ) → sized most k a b c f ≡ true → length f ≡ k
unfolding sized
sized-length most k a b c f e =
    let long = eqb (length f) k in
    let each = all_of a b c f in
    eqb-true (length f) k (and_first long each (and_second (leb (length f) most) (long && each) e))

pub sized_set : (most k a b c : ℕ) (f : List ℕ) → sized most k a b c f ≡ true → (x : ℕ) → set_of x f < 2 ^ k
sized_set most k a b c f e x = subst (λ (l : ℕ). set_of x f < 2 ^ l) (sized-length most k a b c f e) (set-lt x f)
