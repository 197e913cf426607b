-- `move_pairs::partners_of` meets its contract.
use mathlib.Core.Bool.{cond}
use lib.Bits.{bit_xor, and_zero_l}
use lib.Dec.{eqb}
use lib.ListN.{drop_of_length-le}
use Rattle.sets.specs.Sets.{has}
use Rattle.move_halves.specs.Halves.{ones, zeros}
use Rattle.families.proofs.Walk.{cons-left}
use Rattle.move_pairs.specs.Pairs.{like_of, alike_in, partners_of}
use Prim.Native.Nat.{ℕ, ◌≤◌, ◌<◌, ◌+◌}
use mathlib.Core.Path.{◌≡◌, refl, sym, ap, ◌∙◌}
use mathlib.Core.List.{List, [], ◌∷◌}
use mathlib.Core.Bool.{Bool, true, false}
use lib.ListN.{length, drop, get_or}
use Rattle.move_pairs.proofs.partners_of.Goals as goal

-- one bit more is read
alike-more : (bits : List ℕ) (i s p : ℕ) → i < length bits → alike_in (drop i bits) s p ≡ alike_in (drop (i + 1) bits) s (like_of p (get_or bits i 0) s)
unfolding alike_in
alike-more bits i s p h = ap (λ (l : List ℕ). alike_in l s p) (cons-left bits i h)

-- nobody is like s among none
alike-none : (bits : List ℕ) (s : ℕ) → alike_in bits s 0 ≡ 0
unfolding alike_in
alike-none [] s = refl
alike-none (b ∷ bits) s = ap (alike_in bits s) (none (eqb (has b s) 1)) ∙ alike-none bits s
  where
    none : (u : Bool) → cond u (ones 0 b) (zeros 0 b) ≡ 0
    none true = and_zero_l b
    none false = ap (bit_xor 0) (and_zero_l b)

alike_end : (bits : List ℕ) (i s p : ℕ) → length bits ≤ i → alike_in (drop i bits) s p ≡ p
unfolding alike_in
alike_end bits i s p h = ap (λ (l : List ℕ). alike_in l s p) (drop_of_length-le bits {i = i} h)

pub loop-bit-init : goal.loop-bit-init
unfolding partners_of
loop-bit-init c =
    let a = c.args in
    ap (alike_in a.bits.now a.s) c.others_of-p.ensures

pub returns-then-p-eq0 : goal.returns-then-p-eq0
returns-then-p-eq0 c =
    let a = c.args in
    let l = c.loop-bit in
    sym (alike-none (drop l.bit-index a.bits.now) a.s) ∙ ap (alike_in (drop l.bit-index a.bits.now) a.s) (sym c.if-p-eq0.true) ∙ l.invariant

pub loop-bit-preserved : goal.loop-bit-preserved
loop-bit-preserved c =
    let a = c.args in
    let l = c.loop-bit in
    ap (alike_in (drop (l.bit-index + 1) a.bits.now) a.s) c.like_of-p.ensures ∙ sym (alike-more a.bits.now l.bit-index a.s l.p c.loop-bit-test.true) ∙ l.invariant

pub returns : goal.returns
returns c =
    let a = c.args in
    let l = c.loop-bit in
    sym (alike_end a.bits.now l.bit-index a.s l.p c.loop-bit-test.false) ∙ l.invariant
