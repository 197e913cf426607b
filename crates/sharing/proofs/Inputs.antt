-- Two rows share an input vector exactly when one mask of their patterns is empty.
use mathlib.Core.Path.{◌≡◌, refl, sym, ap, ◌∙◌}
use mathlib.Core.Bool.{Bool, true, false, ◌||◌, not}
use Prim.Native.Nat.{ℕ, ◌+◌, ◌-◌, ◌%◌, ◌^◌, ◌<◌, min, max}
use native.Mathlib.Omega.{arith}
use lib.Dec.{eqb}
use lib.Bits.{bit_and, bit_or, bit_xor, mask_lt, or_lt}
use lib.Pow.{pow_pos}
use borrow.Author.Tests.{eqb-true, eq-eqb, ne_eqb}
use Rattle.sets.specs.Sets.{has, every}
use Rattle.sets.proofs.Every.{every-at, at_every, every-same}
use Rattle.sets.proofs.Members.{has-lt, has-and, has-or, has-xor, has-not, has-none, has_all, same-mask}
use Rattle.rules.specs.Limits.{most_inputs}
use Rattle.rules.specs.Listing.{share_input}
use Rattle.rules.specs.declared.Row.{Row}

-- ---- the lowest n digits of a mask

low_digit : (n x s : ℕ) → s < n → has (bit_and x (2 ^ n - 1)) s ≡ has x s
low_digit n x s h =
    let a : has (2 ^ n - 1) s ≡ 1 = has_all n s h in
    let b : has (bit_and x (2 ^ n - 1)) s ≡ min (has x s) (has (2 ^ n - 1) s) = has-and x (2 ^ n - 1) s in
    omega (arith, has-lt x s)

empty-low : (n x : ℕ) → bit_and x (2 ^ n - 1) ≡ 0 → every n (λ s. eqb (has x s) 0) ≡ true
empty-low n x z = at_every n (λ s. eqb (has x s) 0) (λ s h. eq-eqb _ 0 (sym (low_digit n x s h) ∙ ap (λ (m : ℕ). has m s) z ∙ has-none s))

-- they are all 0 exactly when the mask's rest is empty
pub none-low : (n x : ℕ) → eqb (bit_and x (2 ^ n - 1)) 0 ≡ every n (λ s. eqb (has x s) 0)
none-low n x = go (every n (λ s. eqb (has x s) 0)) refl
  where
    go : (t : Bool) → every n (λ s. eqb (has x s) 0) ≡ t → eqb (bit_and x (2 ^ n - 1)) 0 ≡ t
    go true e =
        eq-eqb _ 0 (same-mask n (bit_and x (2 ^ n - 1)) 0 (mask_lt x n) (pow_pos n)
        (λ s h. low_digit n x s h ∙ eqb-true _ 0 (every-at n (λ s. eqb (has x s) 0) e s h) ∙ sym (has-none s)))
    go false e = ne_eqb _ 0 (λ z. let w = empty-low n x z in let y : ◌≡◌ {A = ℕ} 0 1 = cc in omega arith)

-- ---- one input

agree : Bool → Bool → Bool
agree true b = b
agree false b = not b

agree-eq : (a b : Bool) → agree a b ≡ true → a ≡ b
unfolding agree
agree-eq true b e = sym e
agree-eq false true e = e
agree-eq false false e = refl

-- the digits d and e of the dashes, o and p of the ones: one row says 0 and the other 1, and neither has a dash
digitwise : ℕ → ℕ → ℕ → ℕ → Bool
unfolding agree
digitwise d e o p = agree (eqb (min ((o + p) % 2) (1 - max d e)) 0) (eqb d 1 || (eqb e 1 || eqb o p))

-- all 16 ways that four digits fall
all_ways : every 2 (λ d. every 2 (λ e. every 2 (λ o. every 2 (λ p. digitwise d e o p)))) ≡ true
unfolding every digitwise
all_ways = refl

one_way : (d e o p : ℕ) → d < 2 → e < 2 → o < 2 → p < 2 → eqb (min ((o + p) % 2) (1 - max d e)) 0 ≡ (eqb d 1 || (eqb e 1 || eqb o p))
unfolding digitwise
one_way d e o p hd he ho hp =
    agree-eq _ _
    (every-at 2 (λ p. digitwise d e o p)
    (every-at 2 (λ o. every 2 (λ p. digitwise d e o p))
    (every-at 2 (λ e. every 2 (λ o. every 2 (λ p. digitwise d e o p)))
    (every-at 2 (λ d. every 2 (λ e. every 2 (λ o. every 2 (λ p. digitwise d e o p)))) all_ways d hd)
    e he)
    o ho)
    p hp)

-- digit s of the machine's mask, at any width of its words
pub unlike : (w d e o p s : ℕ) → d < 2 ^ w → e < 2 ^ w → s < w
    → eqb (has (bit_and (bit_xor o p) ((2 ^ w - 1) - bit_or d e)) s) 0 ≡ (eqb (has d s) 1 || (eqb (has e s) 1 || eqb (has o s) (has p s)))
unlike w d e o p s hd he hs =
    let a : has (bit_and (bit_xor o p) ((2 ^ w - 1) - bit_or d e)) s ≡ min (has (bit_xor o p) s) (has ((2 ^ w - 1) - bit_or d e) s)
    = has-and (bit_xor o p) ((2 ^ w - 1) - bit_or d e) s in
    let b : has ((2 ^ w - 1) - bit_or d e) s ≡ 1 - has (bit_or d e) s = has-not w (bit_or d e) s (or_lt w d e hd he) hs in
    rw (a, b, has-xor o p s, has-or d e s) (one_way (has d s) (has e s) (has o s) (has p s) (has-lt d s) (has-lt e s) (has-lt o s) (has-lt p s))

-- the same of one row and a vector, which has no dashes
pub unlike-vector : (w d o x s : ℕ) → d < 2 ^ w → s < w → eqb (has (bit_and (bit_xor o x) ((2 ^ w - 1) - d)) s) 0 ≡ (eqb (has d s) 1 || eqb (has o s) (has x s))
unlike-vector w d o x s hd hs =
    unlike w 0 d o x s (pow_pos w) hd hs ∙ ap (λ (k : ℕ). eqb k 1 || (eqb (has d s) 1 || eqb (has o s) (has x s))) (has-none s)

-- ---- all inputs

pub share-mask : (a b : Row) → a.input.dashes < 2 ^ 32 → b.input.dashes < 2 ^ 32
    → eqb (bit_and (bit_and (bit_xor a.input.ones b.input.ones) ((2 ^ 32 - 1) - bit_or a.input.dashes b.input.dashes)) (2 ^ most_inputs - 1)) 0 ≡ share_input a b
unfolding share_input
share-mask a b ha hb =
    none-low most_inputs (bit_and (bit_xor a.input.ones b.input.ones) ((2 ^ 32 - 1) - bit_or a.input.dashes b.input.dashes))
    ∙ every-same most_inputs _ _ (λ s h. unlike 32 a.input.dashes b.input.dashes a.input.ones b.input.ones s ha hb (omega arith))
