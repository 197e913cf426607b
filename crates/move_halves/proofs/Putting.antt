-- The shares of a half put on or taken off at a bit: the level of every state changes by what the half is worth after its flip, less what it is worth now.
use mathlib.Core.Path.{◌≡◌, refl, sym, ap, ap₂, ◌∙◌}
use mathlib.Core.Bool.{Bool, true, false, cond}
use mathlib.Core.List.{List}
use Prim.Native.Nat.{ℕ, zero, suc, ◌+◌, ◌-◌, ◌%◌, ◌^◌, ◌≤◌, ◌<◌}
use native.Mathlib.Decide.{ℕ_discrete}
use native.Mathlib.Omega.{arith}
use lib.Bits.{bit_xor}
use lib.Dec.{eqb}
use lib.ListN.{length, get_or}
use borrow.Author.Tests.{eqb-true}
use Rattle.sets.specs.Sets.{has, only, flip as turn, size}
use Rattle.sets.proofs.Members.{has-lt, has-and, has-none, has_other, has-flip-other}
use Rattle.sets.proofs.SizeMembers.{member-size, size_few}
use Rattle.families.specs.Families.{without}
use Rattle.move_halves.specs.Halves.{side, back, ones, zeros, worth, held_by, held, halved}
use Rattle.move_halves.proofs.Levels.{held_after, halved-on, halved-off}
use Rattle.families.proofs.Parts.{part-lt, rest_lt, has_rest}
use Rattle.move_halves.proofs.Sides.{has-side}
use Rattle.move_halves.proofs.Turns.{side-turned, back-turned, ones-size, zeros-size, ones-zeros, zeros-ones}

-- what each half is worth at the bit c
abbrev pub half1 : ℕ → ℕ → ℕ → ℕ → ℕ
half1 all flip out c = held (side all flip c) (worth out (ones (without out all) c))

abbrev pub half0 : ℕ → ℕ → ℕ → ℕ → ℕ
half0 all flip out c = held (back all flip c) (worth out (zeros (without out all) c))

-- the table with its shares at c
abbrev pub put1 : Bool → ℕ → ℕ → ℕ → ℕ → List ℕ → List ℕ
put1 on all flip out c t = halved on (worth out (ones (without out all) c)) all (side all flip c) (ones (without out all) c) (zeros (without out all) c) t

abbrev pub put0 : Bool → ℕ → ℕ → ℕ → ℕ → List ℕ → List ℕ
put0 on all flip out c t = halved on (worth out (zeros (without out all) c)) all (back all flip c) (zeros (without out all) c) (ones (without out all) c) t

-- a half without a state that must change is met, one with such a state is not
pub held_none : (n x s w : ℕ) → x < 2 ^ n → s < n → has x s ≡ 1 → held x w ≡ 0
held_none n x s w hx hs e = go (size x) (member-size n x hx s hs e)
  where
    go : (z : ℕ) → 1 ≤ z → held_by z w ≡ 0
    go zero h = absurd (omega arith)
    go (suc z) h = refl

module _ (n all flip out c k : ℕ) (ha : all < 2 ^ n) (ho : out < 2 ^ n) (hw : out < 2 ^ 64) (hk : k < n) where
  o : ℕ
  o = without out all

  fits : o < 2 ^ n
  unfolding o
  fits = rest_lt n out all ho

  none_right : out ≡ 0 → (m : ℕ) → has m k ≤ has o k → has m k ≡ 0
  unfolding o
  none_right e m h = omega (arith, has_rest out all k, ap (λ (m : ℕ). has m k) e, has-none k)

  ones-part : has (ones o c) k ≤ has o k
  ones-part = omega (arith, has-and o c k)

  zeros-part : has (zeros o c) k ≤ has o k
  zeros-part = omega (arith, has_rest o c k, has-lt o k, has-lt c k)

  both-parts : has (ones o c) k + has (zeros o c) k ≡ has o k
  both-parts = omega (arith, has-and o c k, has_rest o c k, has-lt o k, has-lt c k)

  -- a state is a member in common or outside
  apart_out : has all k + has o k ≤ 1
  unfolding o
  apart_out = omega (arith, has_rest out all k, has-lt all k, has-lt out k)

  -- what a half is worth after the flip of k: a state that is right is no more, another outside is
  worth-after : (x y : ℕ) → (out ≡ 0 → has y k ≡ 0) → (out ≡ 0 → has x k ≡ 0) → (z : ℕ) → size z + has x k ≡ size x + has y k
      → worth out z ≡ (worth out x + has y k) - has x k
  worth-after x y hy hx z e = go (eqb out 0) refl
    where
      go : (t : Bool) → eqb out 0 ≡ t → cond t 1 (size z) ≡ (cond t 1 (size x) + has y k) - has x k
      go true p = omega (arith, hy (eqb-true out 0 p), hx (eqb-true out 0 p))
      go false p = omega arith

  ones-worth : worth out (ones o (turn c k)) ≡ (worth out (ones o c) + has (zeros o c) k) - has (ones o c) k
  ones-worth =
      worth-after (ones o c) (zeros o c) (λ e. none_right e (zeros o c) zeros-part) (λ e. none_right e (ones o c) ones-part) (ones o (turn c k))
      (ones-size n o fits k (turn c k) c (has-flip-other c k) hk ∙ ap (λ (d : ℕ). size (ones o c) + d) (ones-zeros n o fits c k))

  zeros-worth : worth out (zeros o (turn c k)) ≡ (worth out (zeros o c) + has (ones o c) k) - has (zeros o c) k
  zeros-worth =
      worth-after (zeros o c) (ones o c) (λ e. none_right e (ones o c) ones-part) (λ e. none_right e (zeros o c) zeros-part) (zeros o (turn c k))
      (zeros-size n o fits k (turn c k) c (has-flip-other c k) hk ∙ ap (λ (d : ℕ). size (zeros o c) + d) (zeros-ones n o fits c k))

  -- a half is worth at most 64, and one where a state is right is worth 1 or more
  worth-fits : (x : ℕ) → x < 2 ^ 64 → worth out x < 2 ^ 32
  worth-fits x h = go (eqb out 0)
    where
      go : (t : Bool) → cond t 1 (size x) < 2 ^ 32
      go true = omega arith
      go false = omega (arith, size_few 64 x h)

  worth-some : (x : ℕ) → x < 2 ^ n → has x k ≤ worth out x
  worth-some x h = go (eqb out 0) (has x k) refl
    where
      go : (t : Bool) (d : ℕ) → has x k ≡ d → has x k ≤ cond t 1 (size x)
      go true d e = omega (arith, has-lt x k)
      go false zero e = omega arith
      go false (suc d) e = omega (arith, has-lt x k, member-size n x h k hk (omega (arith, has-lt x k)))

  module _ (t : List ℕ) (l : k < length t) where
    after1 : held_after (worth out (ones o c)) all (side all flip c) (ones o c) (zeros o c) k ≡ half1 all flip out (turn c k)
    unfolding o
    after1 = ap₂ held (side-turned n all flip ha c k) (sym ones-worth)

    after0 : held_after (worth out (zeros o c)) all (back all flip c) (zeros o c) (ones o c) k ≡ half0 all flip out (turn c k)
    unfolding o
    after0 = ap₂ held (back-turned n all flip ha c k) (sym zeros-worth)

    pub put1-on : (get_or (put1 true all flip out c t) k 0 + half1 all flip out c) % 2 ^ 32 ≡ (get_or t k 0 + half1 all flip out (turn c k)) % 2 ^ 32
    unfolding o
    put1-on =
        halved-on n (worth out (ones o c)) all (side all flip c) (ones o c) (zeros o c) t k l (part-lt n all (bit_xor c flip) ha) hk
        (worth-fits (ones o c) (part-lt 64 o c (rest_lt 64 out all hw)))
        (omega (arith, has-side all flip c k)) (omega (arith, both-parts, apart_out)) (worth-some (ones o c) (part-lt n o c fits))
        ∙ ap (λ (h : ℕ). (get_or t k 0 + h) % 2 ^ 32) after1

    pub put1-off : (get_or (put1 false all flip out c t) k 0 + half1 all flip out (turn c k)) % 2 ^ 32 ≡ (get_or t k 0 + half1 all flip out c) % 2 ^ 32
    unfolding o
    put1-off =
        ap (λ (h : ℕ). (get_or (put1 false all flip out c t) k 0 + h) % 2 ^ 32) (sym after1)
        ∙ halved-off n (worth out (ones o c)) all (side all flip c) (ones o c) (zeros o c) t k l (part-lt n all (bit_xor c flip) ha) hk
        (worth-fits (ones o c) (part-lt 64 o c (rest_lt 64 out all hw)))
        (omega (arith, has-side all flip c k)) (omega (arith, both-parts, apart_out)) (worth-some (ones o c) (part-lt n o c fits))

    back-part : has (back all flip c) k ≤ has all k
    back-part = omega (arith, has_rest all (bit_xor c flip) k, has-lt all k, has-lt (bit_xor c flip) k)

    pub put0-on : (get_or (put0 true all flip out c t) k 0 + half0 all flip out c) % 2 ^ 32 ≡ (get_or t k 0 + half0 all flip out (turn c k)) % 2 ^ 32
    unfolding o
    put0-on =
        halved-on n (worth out (zeros o c)) all (back all flip c) (zeros o c) (ones o c) t k l (rest_lt n all (bit_xor c flip) ha) hk
        (worth-fits (zeros o c) (rest_lt 64 o c (rest_lt 64 out all hw)))
        back-part (omega (arith, both-parts, apart_out)) (worth-some (zeros o c) (rest_lt n o c fits))
        ∙ ap (λ (h : ℕ). (get_or t k 0 + h) % 2 ^ 32) after0

    pub put0-off : (get_or (put0 false all flip out c t) k 0 + half0 all flip out (turn c k)) % 2 ^ 32 ≡ (get_or t k 0 + half0 all flip out c) % 2 ^ 32
    unfolding o
    put0-off =
        ap (λ (h : ℕ). (get_or (put0 false all flip out c t) k 0 + h) % 2 ^ 32) (sym after0)
        ∙ halved-off n (worth out (zeros o c)) all (back all flip c) (zeros o c) (ones o c) t k l (rest_lt n all (bit_xor c flip) ha) hk
        (worth-fits (zeros o c) (rest_lt 64 o c (rest_lt 64 out all hw)))
        back-part (omega (arith, both-parts, apart_out)) (worth-some (zeros o c) (rest_lt n o c fits))

-- ---- the requirement of a state s outside alone: a half that is worth 1, with s right

-- what it is worth after the flip of k: nothing after that of s
abbrev pub own_after : ℕ → ℕ → ℕ → ℕ
own_after x s k = held x (1 - has (only s) k)

module _ (n all flip c s k : ℕ) (ha : all < 2 ^ n) (hk : k < n) (outside : has all s ≡ 0) (t : List ℕ) (l : k < length t) where
  own-apart : has all k + has (only s) k + has 0 k ≤ 1
  own-apart = go (ℕ_discrete k s)
    where
      go : Dec (k ≡ s) → has all k + has (only s) k + has 0 k ≤ 1
      go (yes e) = omega (arith, ap (has all) e, has-none k, has-lt (only s) k)
      go (no e) = omega (arith, has_other s k e, has-none k, has-lt all k)

  own-enough : has (only s) k ≤ 1
  own-enough = omega (arith, has-lt (only s) k)

  own-worth : (1 + has 0 k) - has (only s) k ≡ 1 - has (only s) k
  own-worth = omega (arith, has-none k)

  pub own1-on : (get_or (halved true 1 all (side all flip c) (only s) 0 t) k 0 + held (side all flip c) 1) % 2 ^ 32 ≡ (get_or t k 0 + own_after (side all flip (turn c k)) s k) % 2 ^ 32
  own1-on =
      halved-on n 1 all (side all flip c) (only s) 0 t k l (part-lt n all (bit_xor c flip) ha) hk (omega arith) (omega (arith, has-side all flip c k)) own-apart own-enough
      ∙ ap (λ (h : ℕ). (get_or t k 0 + h) % 2 ^ 32) (ap₂ held (side-turned n all flip ha c k) own-worth)

  pub own1-off : (get_or (halved false 1 all (side all flip c) (only s) 0 t) k 0 + own_after (side all flip (turn c k)) s k) % 2 ^ 32 ≡ (get_or t k 0 + held (side all flip c) 1) % 2 ^ 32
  own1-off =
      ap (λ (h : ℕ). (get_or (halved false 1 all (side all flip c) (only s) 0 t) k 0 + h) % 2 ^ 32) (sym (ap₂ held (side-turned n all flip ha c k) own-worth))
      ∙ halved-off n 1 all (side all flip c) (only s) 0 t k l (part-lt n all (bit_xor c flip) ha) hk (omega arith) (omega (arith, has-side all flip c k)) own-apart own-enough

  own-part : has (back all flip c) k ≤ has all k
  own-part = omega (arith, has_rest all (bit_xor c flip) k, has-lt all k, has-lt (bit_xor c flip) k)

  pub own0-on : (get_or (halved true 1 all (back all flip c) (only s) 0 t) k 0 + held (back all flip c) 1) % 2 ^ 32 ≡ (get_or t k 0 + own_after (back all flip (turn c k)) s k) % 2 ^ 32
  own0-on =
      halved-on n 1 all (back all flip c) (only s) 0 t k l (rest_lt n all (bit_xor c flip) ha) hk (omega arith) own-part own-apart own-enough
      ∙ ap (λ (h : ℕ). (get_or t k 0 + h) % 2 ^ 32) (ap₂ held (back-turned n all flip ha c k) own-worth)

  pub own0-off : (get_or (halved false 1 all (back all flip c) (only s) 0 t) k 0 + own_after (back all flip (turn c k)) s k) % 2 ^ 32 ≡ (get_or t k 0 + held (back all flip c) 1) % 2 ^ 32
  own0-off =
      ap (λ (h : ℕ). (get_or (halved false 1 all (back all flip c) (only s) 0 t) k 0 + h) % 2 ^ 32) (sym (ap₂ held (back-turned n all flip ha c k) own-worth))
      ∙ halved-off n 1 all (back all flip c) (only s) 0 t k l (rest_lt n all (bit_xor c flip) ha) hk (omega arith) own-part own-apart own-enough
