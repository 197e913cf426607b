-- What a move changes of a family: every state's level by its change of gain, and the moved state's own by half of it.
use mathlib.Core.Path.{◌≡◌, refl, sym, ap, ap₂, ◌∙◌}
use mathlib.Core.Bool.{true, false}
use mathlib.Core.List.{List}
use Prim.Native.Nat.{ℕ, zero, suc, ◌+◌, ◌-◌, ◌%◌, ◌^◌, ◌<◌}
use native.Mathlib.Omega.{arith}
use lib.Bits.{bit_xor}
use lib.ListN.{length, get_or}
use borrow.Author.Tests.{eq-eqb, ne_eqb}
use Rattle.sets.specs.Sets.{has, only, flip as turn, size}
use Rattle.sets.proofs.Members.{has-lt, has-and, has-xor, has-none, has-only, has_other, has-flip, has-flip-other}
use Rattle.families.specs.Families.{without}
use Rattle.move_halves.specs.Halves.{side, back, ones, zeros, worth, held_by, held, halved, side_but, back_but, swayed_in, swayed_out, swayed}
use Rattle.move_halves.proofs.Modulo.{plus, cancel, sums, both}
use Rattle.move_halves.proofs.Levels.{length-halved}
use Rattle.families.proofs.Parts.{part-lt, rest_lt, has_rest}
use Rattle.move_halves.proofs.Sides.{has-side}
use Rattle.move_halves.proofs.Meets.{held_at, held-zero, outside-at}
use Rattle.move_halves.proofs.Looking.{value, side-in, back_in}
use Rattle.move_halves.proofs.Turns.{Agree, agree-turn, side-agrees, back-agrees, side-without, back-without, ones-agree, ones-size, zeros-size}
use Rattle.move_halves.proofs.Putting.{half1, half0, put1, put0, held_none, put1-on, put1-off, put0-on, put0-off, own_after, own1-on, own1-off, own0-on, own0-off}

-- the level of state k after the move of s from the bit b, t before it and t' after it
pub record Sways (all flip out b s k : ℕ) (t t' : List ℕ) : Type 0 where
  pub other : (k ≡ s → ⊥)
      → (get_or t' k 0 + held_at all flip out (turn b s) + held_at all flip out (turn b k)) % 2 ^ 32
      ≡ (get_or t k 0 + held_at all flip out b + held_at all flip out (turn (turn b s) k)) % 2 ^ 32
  pub own : k ≡ s → (get_or t' k 0 + held_at all flip out (turn b s)) % 2 ^ 32 ≡ (get_or t k 0 + held_at all flip out b) % 2 ^ 32

-- ---- the sums

-- half 1 put on and half 0 taken off; the others are worth nothing
on-off : (t v w p p' q q' x y x' y' : ℕ) → (v + p) % 2 ^ 32 ≡ (t + p') % 2 ^ 32 → (w + q') % 2 ^ 32 ≡ (v + q) % 2 ^ 32
    → x ≡ 0 → y ≡ 0 → x' ≡ 0 → y' ≡ 0 → (w + (p + y) + (x' + q')) % 2 ^ 32 ≡ (t + (x + q) + (p' + y')) % 2 ^ 32
on-off t v w p p' q q' x y x' y' e f a b c d =
    let l : w + (p + y) + (x' + q') ≡ w + p + q' = omega arith in
    let r : t + (x + q) + (p' + y') ≡ t + p' + q = omega arith in
    sums l r (both t v w p p' q' q e f)

off-on : (t v w p p' q q' x y x' y' : ℕ) → (v + p') % 2 ^ 32 ≡ (t + p) % 2 ^ 32 → (w + q) % 2 ^ 32 ≡ (v + q') % 2 ^ 32
    → x ≡ 0 → y ≡ 0 → x' ≡ 0 → y' ≡ 0 → (w + (x + q) + (p' + y')) % 2 ^ 32 ≡ (t + (p + y) + (x' + q')) % 2 ^ 32
off-on t v w p p' q q' x y x' y' e f a b c d =
    let l : w + (x + q) + (p' + y') ≡ w + p' + q = omega arith in
    let r : t + (p + y) + (x' + q') ≡ t + p + q' = omega arith in
    sums l r (both t v w p' p q q' e f)

own-on-off : (t v w p p' q q' x y : ℕ) → (v + p) % 2 ^ 32 ≡ (t + p') % 2 ^ 32 → (w + q') % 2 ^ 32 ≡ (v + q) % 2 ^ 32
    → p' ≡ 0 → q' ≡ 0 → x ≡ 0 → y ≡ 0 → (w + (p + y)) % 2 ^ 32 ≡ (t + (x + q)) % 2 ^ 32
own-on-off t v w p p' q q' x y e f a b c d =
    let l : w + (p + y) ≡ w + p + q' = omega arith in
    let r : t + (x + q) ≡ t + p' + q = omega arith in
    sums l r (both t v w p p' q' q e f)

own-off-on : (t v w p p' q q' x y : ℕ) → (v + p') % 2 ^ 32 ≡ (t + p) % 2 ^ 32 → (w + q) % 2 ^ 32 ≡ (v + q') % 2 ^ 32
    → p' ≡ 0 → q' ≡ 0 → x ≡ 0 → y ≡ 0 → (w + (x + q)) % 2 ^ 32 ≡ (t + (p + y)) % 2 ^ 32
own-off-on t v w p p' q q' x y e f a b c d =
    let l : w + (x + q) ≡ w + p' + q = omega arith in
    let r : t + (p + y) ≡ t + p + q' = omega arith in
    sums l r (both t v w p' p q q' e f)

-- one requirement goes from half 1 to half 0, or back
down-other : (w t u₁ u₀ v₁ v₀ hb ha hbk hak : ℕ) → (w + v₁ + u₀) % 2 ^ 32 ≡ (t + u₁ + v₀) % 2 ^ 32 → hb + u₀ ≡ ha + u₁ → hbk + v₀ ≡ hak + v₁
    → (w + ha + hbk) % 2 ^ 32 ≡ (t + hb + hak) % 2 ^ 32
down-other w t u₁ u₀ v₁ v₀ hb ha hbk hak h e f =
    let l : w + ha + hbk + (v₁ + u₀) ≡ w + v₁ + u₀ + (ha + hbk) = omega arith in
    let r : t + hb + hak + (v₁ + u₀) ≡ t + u₁ + v₀ + (ha + hbk) = omega arith in
    cancel (w + ha + hbk) (t + hb + hak) (v₁ + u₀) (sums l r (plus (w + v₁ + u₀) (t + u₁ + v₀) (ha + hbk) h))

up-other : (w t u₁ u₀ v₁ v₀ hb ha hbk hak : ℕ) → (w + u₁ + v₀) % 2 ^ 32 ≡ (t + v₁ + u₀) % 2 ^ 32 → ha + u₀ ≡ hb + u₁ → hak + v₀ ≡ hbk + v₁
    → (w + ha + hbk) % 2 ^ 32 ≡ (t + hb + hak) % 2 ^ 32
up-other w t u₁ u₀ v₁ v₀ hb ha hbk hak h e f =
    let l : w + ha + hbk + (u₀ + v₁) ≡ w + u₁ + v₀ + (hb + hak) = omega arith in
    let r : t + hb + hak + (u₀ + v₁) ≡ t + v₁ + u₀ + (hb + hak) = omega arith in
    cancel (w + ha + hbk) (t + hb + hak) (u₀ + v₁) (sums l r (plus (w + u₁ + v₀) (t + v₁ + u₀) (hb + hak) h))

down-own : (w t u₁ u₀ v₁ v₀ hb ha : ℕ) → (w + v₁ + u₀) % 2 ^ 32 ≡ (t + u₁ + v₀) % 2 ^ 32 → v₁ ≡ 0 → v₀ ≡ 0 → hb + u₀ ≡ ha + u₁
    → (w + ha) % 2 ^ 32 ≡ (t + hb) % 2 ^ 32
down-own w t u₁ u₀ v₁ v₀ hb ha h p q e =
    let l : w + ha + u₀ ≡ w + v₁ + u₀ + ha = omega arith in
    let r : t + hb + u₀ ≡ t + u₁ + v₀ + ha = omega arith in
    cancel (w + ha) (t + hb) u₀ (sums l r (plus (w + v₁ + u₀) (t + u₁ + v₀) ha h))

up-own : (w t u₁ u₀ v₁ v₀ hb ha : ℕ) → (w + u₁ + v₀) % 2 ^ 32 ≡ (t + v₁ + u₀) % 2 ^ 32 → v₁ ≡ 0 → v₀ ≡ 0 → ha + u₀ ≡ hb + u₁
    → (w + ha) % 2 ^ 32 ≡ (t + hb) % 2 ^ 32
up-own w t u₁ u₀ v₁ v₀ hb ha h p q e =
    let l : w + ha + u₀ ≡ w + u₁ + v₀ + hb = omega arith in
    let r : t + hb + u₀ ≡ t + v₁ + u₀ + hb = omega arith in
    cancel (w + ha) (t + hb) u₀ (sums l r (plus (w + u₁ + v₀) (t + v₁ + u₀) hb h))

module _ (n all flip out b s : ℕ) (ha : all < 2 ^ n) (ho : out < 2 ^ n) (hw : out < 2 ^ 64) (hs : s < n) where
  -- ---- the move of a member in common
  module _ (e : has all s ≡ 1) where
    -- 1 where s stands in half 1's side at the bit c, 0 where it stands in half 0's
    val : ℕ → ℕ
    val c = (has c s + has flip s) % 2

    val-moved : (c : ℕ) → val (turn c s) ≡ 1 - val c
    unfolding val
    val-moved c = value n all flip c s ha hs

    val-other : (c k : ℕ) → (k ≡ s → ⊥) → val (turn c k) ≡ val c
    unfolding val
    val-other c k o = ap (λ (d : ℕ). (d + has flip s) % 2) (has-flip-other c k s (λ z. o (sym z)))

    none1 : (c : ℕ) → val c ≡ 1 → half1 all flip out c ≡ 0
    unfolding val
    none1 c v = held_none n (side all flip c) s (worth out (ones (without out all) c)) (part-lt n all (bit_xor c flip) ha) hs (side-in all flip c s e ∙ v)

    none0 : (c : ℕ) → val c ≡ 0 → half0 all flip out c ≡ 0
    unfolding val
    none0 c v =
        held_none n (back all flip c) s (worth out (zeros (without out all) c)) (rest_lt n all (bit_xor c flip) ha) hs
        (back_in all flip c s e ∙ ap (λ (d : ℕ). 1 - d) v)

    no-out : has (without out all) s ≡ 0
    no-out = omega (arith, has_rest out all s, has-lt out s)

    same-ones : ones (without out all) (turn b s) ≡ ones (without out all) b
    same-ones = ones-agree n (without out all) (rest_lt n out all ho) s (turn b s) b (has-flip-other b s) no-out

    -- the half whose side s leaves is put on, at the bit after the move; the other is taken off, at the bit before it
    leaves1 : (t : List ℕ) → val b ≡ 1 → swayed_in all flip out b s t ≡ put0 false all flip out b (put1 true all flip out (turn b s) t)
    unfolding swayed_in val
    leaves1 t v =
        rw (
          eq-eqb (has (bit_xor b flip) s) 1 (has-xor b flip s ∙ v),
          back-without n all flip ha s b b (λ t _. refl) (back_in all flip b s e ∙ ap (λ (d : ℕ). 1 - d) v),
          side-without n all flip ha s (turn b s) b (has-flip-other b s) (side-in all flip (turn b s) s e ∙ val-moved b ∙ ap (λ (d : ℕ). 1 - d) v),
          same-ones,
        )

    leaves0 : (t : List ℕ) → val b ≡ 0 → swayed_in all flip out b s t ≡ put0 true all flip out (turn b s) (put1 false all flip out b t)
    unfolding swayed_in val
    leaves0 t v =
        rw (
          ne_eqb (has (bit_xor b flip) s) 1 (λ d. omega (arith, has-xor b flip s)),
          back-without n all flip ha s (turn b s) b (has-flip-other b s) (back_in all flip (turn b s) s e ∙ ap (λ (d : ℕ). 1 - d) (val-moved b) ∙ ap (λ (d : ℕ). 1 - (1 - d)) v),
          side-without n all flip ha s b b (λ t _. refl) (side-in all flip b s e ∙ v),
          same-ones,
        )

    module _ (t : List ℕ) (k : ℕ) (hk : k < n) (l : k < length t) where
      a : ℕ
      a = turn b s

      sways-in : Sways all flip out b s k t (swayed_in all flip out b s t)
      unfolding a val
      sways-in = go (val b) refl
        where
          go : (v : ℕ) → val b ≡ v → Sways all flip out b s k t (swayed_in all flip out b s t)
          go (suc v) f =
              let i : val b ≡ 1 = omega arith in
              let j : val a ≡ 0 = val-moved b ∙ ap (λ (d : ℕ). 1 - d) i in
              let u : List ℕ = put1 true all flip out a t in
              let lu : k < length u = omega (arith, length-halved true (worth out (ones (without out all) a)) all (side all flip a) (ones (without out all) a) (zeros (without out all) a) t) in
              let p = put1-on n all flip out a k ha ho hw hk t l in
              let q = put0-off n all flip out b k ha ho hw hk u lu in
              rw (leaves1 t i)
              (record {
                other = λ o.
                    on-off (get_or t k 0) (get_or u k 0) (get_or (put0 false all flip out b u) k 0) (half1 all flip out a) (half1 all flip out (turn a k)) (half0 all flip out b) (half0 all flip out (turn b k))
                    (half1 all flip out b) (half0 all flip out a) (half1 all flip out (turn b k)) (half0 all flip out (turn a k)) p q
                    (none1 b i) (none0 a j) (none1 (turn b k) (val-other b k o ∙ i)) (none0 (turn a k) (val-other a k o ∙ j));
                own = λ z.
                    own-on-off (get_or t k 0) (get_or u k 0) (get_or (put0 false all flip out b u) k 0) (half1 all flip out a) (half1 all flip out (turn a k)) (half0 all flip out b) (half0 all flip out (turn b k))
                    (half1 all flip out b) (half0 all flip out a) p q
                    (ap (λ (m : ℕ). half1 all flip out (turn a m)) z ∙ none1 (turn a s) (val-moved a ∙ ap (λ (d : ℕ). 1 - d) j))
                    (ap (λ (m : ℕ). half0 all flip out (turn b m)) z ∙ none0 a j)
                    (none1 b i) (none0 a j);
              })
          go zero f =
              let j : val a ≡ 1 = val-moved b ∙ ap (λ (d : ℕ). 1 - d) f in
              let u : List ℕ = put1 false all flip out b t in
              let lu : k < length u = omega (arith, length-halved false (worth out (ones (without out all) b)) all (side all flip b) (ones (without out all) b) (zeros (without out all) b) t) in
              let p = put1-off n all flip out b k ha ho hw hk t l in
              let q = put0-on n all flip out a k ha ho hw hk u lu in
              rw (leaves0 t f)
              (record {
                other = λ o.
                    off-on (get_or t k 0) (get_or u k 0) (get_or (put0 true all flip out a u) k 0) (half1 all flip out b) (half1 all flip out (turn b k)) (half0 all flip out a) (half0 all flip out (turn a k))
                    (half1 all flip out a) (half0 all flip out b) (half1 all flip out (turn a k)) (half0 all flip out (turn b k)) p q
                    (none1 a j) (none0 b f) (none1 (turn a k) (val-other a k o ∙ j)) (none0 (turn b k) (val-other b k o ∙ f));
                own = λ z.
                    own-off-on (get_or t k 0) (get_or u k 0) (get_or (put0 true all flip out a u) k 0) (half1 all flip out b) (half1 all flip out (turn b k)) (half0 all flip out a) (half0 all flip out (turn a k))
                    (half1 all flip out a) (half0 all flip out b) p q
                    (ap (λ (m : ℕ). half1 all flip out (turn b m)) z ∙ none1 a j)
                    (ap (λ (m : ℕ). half0 all flip out (turn a m)) z ∙ none0 (turn a s) (val-moved a ∙ ap (λ (d : ℕ). 1 - d) j))
                    (none1 a j) (none0 b f);
              })

  -- ---- the move of a state outside
  module _ (e : has all s ≡ 0) (i : has (without out all) s ≡ 1) where
    worth-size : (x : ℕ) → worth out x ≡ size x
    worth-size x =
        let z : has out s ≡ 1 = (outside-at n all out s ho i).2 in
        rw (ne_eqb out 0 (λ d. omega (arith, ap (λ (m : ℕ). has m s) d, has-none s)))

    -- its requirement stands in half 1 at the bit c and in half 0 at the bit d
    shifted : (c d : ℕ) → Agree s c d → has c s ≡ 1 → has d s ≡ 0
        → held_at all flip out c + held (back all flip c) 1 ≡ held_at all flip out d + held (side all flip c) 1
    shifted c d h hc hd =
        let o : ℕ = without out all in
        let fo : o < 2 ^ n = rest_lt n out all ho in
        let x : size (ones o c) ≡ size (ones o d) + 1 = omega (arith, ones-size n o fo s c d h hs, has-and o c s, has-and o d s) in
        let y : size (zeros o d) ≡ size (zeros o c) + 1 = omega (arith, zeros-size n o fo s c d h hs, has_rest o c s, has_rest o d s) in
        let p : half1 all flip out c ≡ half1 all flip out d + held (side all flip c) 1 =
        ap (held (side all flip c)) (worth-size (ones o c) ∙ x)
        ∙ held_more (size (side all flip c)) (size (ones o d))
        ∙ ap (λ (m : ℕ). m + held (side all flip c) 1) (ap₂ held (side-agrees n all flip ha s c d h e) (sym (worth-size (ones o d)))) in
        let q : half0 all flip out d ≡ half0 all flip out c + held (back all flip c) 1 =
        ap₂ held (sym (back-agrees n all flip ha s c d h e)) (worth-size (zeros o d) ∙ y)
        ∙ held_more (size (back all flip c)) (size (zeros o c))
        ∙ ap (λ (m : ℕ). m + held (back all flip c) 1) (ap (held (back all flip c)) (sym (worth-size (zeros o c)))) in
        swap (half1 all flip out c) (half0 all flip out c) (half1 all flip out d) (half0 all flip out d) (held (side all flip c) 1) (held (back all flip c) 1) p q
      where
        held_more : (z w : ℕ) → held_by z (w + 1) ≡ held_by z w + held_by z 1
        held_more zero w = refl
        held_more (suc z) w = refl

        swap : (a b c d x y : ℕ) → a ≡ c + x → d ≡ b + y → a + b + y ≡ c + d + x
        swap a b c d x y e f = omega arith

    module _ (t : List ℕ) (k : ℕ) (hk : k < n) (l : k < length t) where
      -- what the requirement is worth after the flip of another state, and of s
      after-other : (k ≡ s → ⊥) → (x : ℕ) → own_after x s k ≡ held x 1
      after-other o x = ap (λ (d : ℕ). held x (1 - d)) (has_other s k o)

      after-own : k ≡ s → (x : ℕ) → own_after x s k ≡ 0
      after-own z x = ap (λ (d : ℕ). held x (1 - d)) (ap (has (only s)) z ∙ has-only s) ∙ held-zero (size x)

      sways-out : Sways all flip out b s k t (swayed_out all flip b s t)
      unfolding swayed_out
      sways-out = go (has b s) refl
        where
          stays : side_but all flip b s ≡ side all flip b
          stays = side-without n all flip ha s b b (λ t _. refl) (omega (arith, has-side all flip b s))

          stays0 : back_but all flip b s ≡ back all flip b
          stays0 = back-without n all flip ha s b b (λ t _. refl) (omega (arith, has_rest all (bit_xor b flip) s))

          go : (v : ℕ) → has b s ≡ v → Sways all flip out b s k t (swayed_out all flip b s t)
          go (suc v) f =
              let one : has b s ≡ 1 = omega (arith, has-lt b s) in
              let a : ℕ = turn b s in
              let none : has a s ≡ 0 = omega (arith, has-flip b s) in
              let u : List ℕ = halved false 1 all (side all flip b) (only s) 0 t in
              let w : List ℕ = halved true 1 all (back all flip b) (only s) 0 u in
              let lu : k < length u = omega (arith, length-halved false 1 all (side all flip b) (only s) 0 t) in
              let v₁ : ℕ = own_after (side all flip (turn b k)) s k in
              let v₀ : ℕ = own_after (back all flip (turn b k)) s k in
              let h = both (get_or t k 0) (get_or u k 0) (get_or w k 0) v₁ (held (side all flip b) 1) (held (back all flip b) 1) v₀ (own1-off n all flip b s k ha hk e t l) (own0-on n all flip b s k ha hk e u lu) in
              let x = shifted b a (λ t o. sym (has-flip-other b s t o)) one none in
              rw (eq-eqb (has b s) 1 one, stays0, stays)
              (record {
                other = λ o.
                    down-other (get_or w k 0) (get_or t k 0) (held (side all flip b) 1) (held (back all flip b) 1) v₁ v₀ (held_at all flip out b) (held_at all flip out a) (held_at all flip out (turn b k)) (held_at all flip out (turn a k))
                    h x
                    (ap (λ (m : ℕ). held_at all flip out (turn b k) + m) (after-other o (back all flip (turn b k)))
                    ∙ shifted (turn b k) (turn a k) (agree-turn s b a k (λ t o. sym (has-flip-other b s t o))) (has-flip-other b k s (λ z. o (sym z)) ∙ one) (has-flip-other a k s (λ z. o (sym z)) ∙ none)
                    ∙ ap (λ (m : ℕ). held_at all flip out (turn a k) + m) (sym (after-other o (side all flip (turn b k)))));
                own = λ z.
                    down-own (get_or w k 0) (get_or t k 0) (held (side all flip b) 1) (held (back all flip b) 1) v₁ v₀ (held_at all flip out b) (held_at all flip out a) h
                    (after-own z (side all flip (turn b k))) (after-own z (back all flip (turn b k))) x;
              })
          go zero f =
              let a : ℕ = turn b s in
              let one : has a s ≡ 1 = omega (arith, has-flip b s) in
              let u : List ℕ = halved true 1 all (side all flip b) (only s) 0 t in
              let w : List ℕ = halved false 1 all (back all flip b) (only s) 0 u in
              let lu : k < length u = omega (arith, length-halved true 1 all (side all flip b) (only s) 0 t) in
              let v₁ : ℕ = own_after (side all flip (turn b k)) s k in
              let v₀ : ℕ = own_after (back all flip (turn b k)) s k in
              let h = both (get_or t k 0) (get_or u k 0) (get_or w k 0) (held (side all flip b) 1) v₁ v₀ (held (back all flip b) 1) (own1-on n all flip b s k ha hk e t l) (own0-off n all flip b s k ha hk e u lu) in
              let x : held_at all flip out a + held (back all flip b) 1 ≡ held_at all flip out b + held (side all flip b) 1 =
              ap (λ (m : ℕ). held_at all flip out a + held m 1) (sym (back-agrees n all flip ha s a b (has-flip-other b s) e))
              ∙ shifted a b (has-flip-other b s) one f
              ∙ ap (λ (m : ℕ). held_at all flip out b + held m 1) (side-agrees n all flip ha s a b (has-flip-other b s) e) in
              rw (ne_eqb (has b s) 1 (λ d. omega arith), stays0, stays)
              (record {
                other = λ o.
                    (let g : Agree s (turn a k) (turn b k) = agree-turn s a b k (has-flip-other b s) in
                    up-other (get_or w k 0) (get_or t k 0) (held (side all flip b) 1) (held (back all flip b) 1) v₁ v₀ (held_at all flip out b) (held_at all flip out a) (held_at all flip out (turn b k)) (held_at all flip out (turn a k))
                    h x
                    (ap (λ (m : ℕ). held_at all flip out (turn a k) + m) (after-other o (back all flip (turn b k)) ∙ ap (λ (m : ℕ). held m 1) (sym (back-agrees n all flip ha s (turn a k) (turn b k) g e)))
                    ∙ shifted (turn a k) (turn b k) g (has-flip-other a k s (λ z. o (sym z)) ∙ one) (has-flip-other b k s (λ z. o (sym z)) ∙ f)
                    ∙ ap (λ (m : ℕ). held_at all flip out (turn b k) + m) (ap (λ (m : ℕ). held m 1) (side-agrees n all flip ha s (turn a k) (turn b k) g e) ∙ sym (after-other o (side all flip (turn b k))))));
                own = λ z.
                    up-own (get_or w k 0) (get_or t k 0) (held (side all flip b) 1) (held (back all flip b) 1) v₁ v₀ (held_at all flip out b) (held_at all flip out a) h
                    (after-own z (side all flip (turn b k))) (after-own z (back all flip (turn b k))) x;
              })

  -- ---- the move of another state
  module _ (e : has all s ≡ 0) (i : has (without out all) s ≡ 0) where
    same-held : (c d : ℕ) → Agree s c d → held_at all flip out c ≡ held_at all flip out d
    same-held c d h =
        let o : ℕ = without out all in
        let fo : o < 2 ^ n = rest_lt n out all ho in
        ap₂ (λ (x y : ℕ). x + y)
        (ap₂ held (side-agrees n all flip ha s c d h e) (ap (worth out) (ones-agree n o fo s c d h i)))
        (ap₂ held (back-agrees n all flip ha s c d h e) (ap (λ (m : ℕ). worth out (bit_xor o m)) (ones-agree n o fo s c d h i)))

    sways-not : (t : List ℕ) (k : ℕ) → Sways all flip out b s k t t
    sways-not t k =
        let a : ℕ = turn b s in
        record {
          other = λ o. ap₂ (λ (x y : ℕ). (get_or t k 0 + x + y) % 2 ^ 32) (same-held a b (has-flip-other b s)) (sym (same-held (turn a k) (turn b k) (agree-turn s a b k (has-flip-other b s))));
          own = λ z. ap (λ (x : ℕ). (get_or t k 0 + x) % 2 ^ 32) (same-held a b (has-flip-other b s));
        }

  -- ---- any move
  pub sways : (t : List ℕ) (k : ℕ) → k < n → k < length t → Sways all flip out b s k t (swayed all flip out b s t)
  unfolding swayed
  sways t k hk l = go (has all s) refl (has (without out all) s) refl
    where
      go : (x : ℕ) → has all s ≡ x → (y : ℕ) → has (without out all) s ≡ y → Sways all flip out b s k t (swayed all flip out b s t)
      go (suc x) p y q = let i : has all s ≡ 1 = omega (arith, has-lt all s) in rw (eq-eqb (has all s) 1 i) (sways-in i t k hk l)
      go zero p (suc y) q =
          let i : has (without out all) s ≡ 1 = omega (arith, has-lt (without out all) s) in
          rw (ne_eqb (has all s) 1 (λ d. omega arith), eq-eqb (has (without out all) s) 1 i) (sways-out p i t k hk l)
      go zero p zero q = rw (ne_eqb (has all s) 1 (λ d. omega arith), ne_eqb (has (without out all) s) 1 (λ d. omega arith)) (sways-not p q t k)
