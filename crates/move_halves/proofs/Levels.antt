-- Levels modulo 2 ^ 32: what the shares of a half do to the level of one state.
use mathlib.Core.Path.{◌≡◌, refl, sym, ap, ◌∙◌}
use mathlib.Core.Bool.{Bool, true, false, not, cond}
use mathlib.Core.List.{List}
use Prim.Native.Nat.{ℕ, zero, suc, ◌+◌, ◌-◌, ◌%◌, ◌^◌, ◌≤◌, ◌<◌, min}
use native.Mathlib.Nat.{add-zero}
use native.Mathlib.Omega.{arith}
use native.Mathlib.Decide.{ℕ_discrete}
use lib.Bits.{bit_and, bit_xor, and_le_r, xor_zero_r}
use lib.Dec.{eqb}
use lib.ListN.{length, get_or}
use lib.Pow.{pow_pos, pow-lt}
use borrow.Author.Tests.{eq-eqb, ne_eqb}
use Rattle.sets.specs.Sets.{has, only, flip, size}
use Rattle.sets.proofs.Members.{has-lt, has-and, has-none, has-only, has_other, same-mask}
use Rattle.sets.proofs.Size.{size-flip, size_none}
use Rattle.move_table.specs.Table.{raised}
use Rattle.move_table.proofs.Raising.{length-raised}
use Rattle.move_table.proofs.Shows.{raised_at}
use Rattle.move_halves.specs.Halves.{held_by, held, signed, halved_by, halved}

-- by at a member, and nothing elsewhere
abbrev pub at : ℕ → ℕ → ℕ → ℕ
at m k by = cond (eqb (has m k) 1) by 0

pub at_one : (m k by : ℕ) → has m k ≡ 1 → at m k by ≡ by
at_one m k by e = rw (eq-eqb (has m k) 1 e)

pub at_none : (m k by : ℕ) → has m k ≡ 0 → at m k by ≡ 0
at_none m k by e = rw (ne_eqb (has m k) 1 (λ d. omega arith))

pub raised-level : (by m : ℕ) (t : List ℕ) (k : ℕ) → k < length t → get_or (raised by m 0 t) k 0 % 2 ^ 32 ≡ (get_or t k 0 + at m k by) % 2 ^ 32
raised-level by m t k h = ap (λ (v : ℕ). v % 2 ^ 32) (raised_at m t k h by) ∙ go (eqb (has m k) 1)
  where
    go : (u : Bool) → cond u ((get_or t k 0 + by) % 2 ^ 32) (get_or t k 0) % 2 ^ 32 ≡ (get_or t k 0 + cond u by 0) % 2 ^ 32
    go true = omega arith
    go false = omega arith

-- w taken off a level, and put on again
off-on : (u v w : ℕ) → w < 2 ^ 32 → u % 2 ^ 32 ≡ (v + (2 ^ 32 - w) % 2 ^ 32) % 2 ^ 32 → (u + w) % 2 ^ 32 ≡ v % 2 ^ 32
off-on u v zero h e = omega arith
off-on u v (suc w) h e =
    let z : (2 ^ 32 - suc w) % 2 ^ 32 ≡ 2 ^ 32 - suc w = omega arith in
    let y : u % 2 ^ 32 ≡ (v + (2 ^ 32 - suc w)) % 2 ^ 32 = e ∙ ap (λ (d : ℕ). (v + d) % 2 ^ 32) z in
    last u v w h y
  where
    last : (u v w : ℕ) → suc w < 2 ^ 32 → u % 2 ^ 32 ≡ (v + (2 ^ 32 - suc w)) % 2 ^ 32 → (u + suc w) % 2 ^ 32 ≡ v % 2 ^ 32
    last u v w h y = omega arith

-- ---- a side with state k turned over, where k is a member of all

abbrev pub turned : ℕ → ℕ → ℕ → ℕ
turned all x k = bit_xor x (bit_and all (only k))

and-only : (all k z : ℕ) → z < 2 ^ suc k → ((s : ℕ) → min (has all s) (has (only k) s) ≡ has z s) → bit_and all (only k) ≡ z
and-only all k z l h =
    let p : bit_and all (only k) ≤ only k = and_le_r all (only k) in
    let q : only k < 2 ^ suc k = pow-lt (omega arith) in
    same-mask (suc k) (bit_and all (only k)) z (omega arith) l (λ s _. has-and all (only k) s ∙ h s)

-- what a set has of one state
pub only_out : (all k : ℕ) → has all k ≡ 0 → bit_and all (only k) ≡ 0
only_out all k e = and-only all k 0 (pow_pos (suc k)) (λ s. each s (ℕ_discrete s k))
  where
    each : (s : ℕ) → Dec (s ≡ k) → min (has all s) (has (only k) s) ≡ has 0 s
    each s (yes d) = let z : has all s ≡ 0 = ap (has all) d ∙ e in omega (arith, has-none s)
    each s (no d) = omega (arith, has_other k s d, has-none s)

pub only-in : (all k : ℕ) → has all k ≡ 1 → bit_and all (only k) ≡ only k
only-in all k e = and-only all k (only k) (pow-lt (omega arith)) (λ s. each s (ℕ_discrete s k))
  where
    each : (s : ℕ) → Dec (s ≡ k) → min (has all s) (has (only k) s) ≡ has (only k) s
    each s (yes d) = let z : has all s ≡ 1 = ap (has all) d ∙ e in let y : has (only k) s ≡ 1 = ap (has (only k)) d ∙ has-only k in omega arith
    each s (no d) = omega (arith, has_other k s d)

pub turned-out : (all x k : ℕ) → has all k ≡ 0 → turned all x k ≡ x
turned-out all x k e = ap (bit_xor x) (only_out all k e) ∙ xor_zero_r x

pub turned-in : (all x k : ℕ) → has all k ≡ 1 → turned all x k ≡ flip x k
turned-in all x k e = ap (bit_xor x) (only-in all k e)

-- ---- the level of state k

-- what a half is worth after the flip of k
abbrev pub held_after : ℕ → ℕ → ℕ → ℕ → ℕ → ℕ → ℕ
held_after w all x right rest k = held (turned all x k) ((w + has rest k) - has right k)

pub length-halved : (on : Bool) (w all x right rest : ℕ) (t : List ℕ) → length (halved on w all x right rest t) ≡ length t
unfolding halved halved_by
length-halved on w all x right rest t = go (size x)
  where
    go : (z : ℕ) → length (halved_by z on w all x right rest t) ≡ length t
    go zero =
        length-raised _ rest 0 (raised (signed (not on) 1) right 0 (raised (signed (not on) w) all 0 t))
        ∙ length-raised _ right 0 (raised (signed (not on) w) all 0 t)
        ∙ length-raised _ all 0 t
    go (suc zero) = length-raised _ x 0 t
    go (suc (suc z)) = refl

module _ (n w all x right rest : ℕ) (t : List ℕ) (k : ℕ) (l : k < length t) (hx : x < 2 ^ n) (hk : k < n) (hw : w < 2 ^ 32)
    (part : has x k ≤ has all k) (apart : has all k + has right k + has rest k ≤ 1) (enough : has right k ≤ w) where
  -- nothing must change
  none-level : (on : Bool) → get_or (halved_by 0 on w all x right rest t) k 0 % 2 ^ 32
      ≡ (get_or t k 0 + at all k (signed (not on) w) + at right k (signed (not on) 1) + at rest k (signed on 1)) % 2 ^ 32
  unfolding halved_by
  none-level on =
      let u : List ℕ = raised (signed (not on) w) all 0 t in
      let v : List ℕ = raised (signed (not on) 1) right 0 u in
      let lu : length u ≡ length t = length-raised (signed (not on) w) all 0 t in
      let lv : length v ≡ length u = length-raised (signed (not on) 1) right 0 u in
      let a = raised-level (signed (not on) w) all t k l in
      let b = raised-level (signed (not on) 1) right u k (omega arith) in
      let c = raised-level (signed on 1) rest v k (omega arith) in
      omega arith

  held_out : has all k ≡ 0 → held_after w all x right rest k ≡ held_by (size x) ((w + has rest k) - has right k)
  held_out e = ap (λ (m : ℕ). held m ((w + has rest k) - has right k)) (turned-out all x k e)

  held_in : has all k ≡ 1 → held_after w all x right rest k ≡ held_by (size (flip x k)) w
  held_in e =
      let z : (w + has rest k) - has right k ≡ w = omega arith in
      ap (λ (m : ℕ). held m ((w + has rest k) - has right k)) (turned-in all x k e) ∙ ap (held_by (size (flip x k))) z

  -- what z to change does to the level: p taken off and q put on, or the reverse; and so the half is met p less often and q more often after the flip
  record Changes (z : ℕ) : Type 0 where
    p : ℕ
    q : ℕ
    on : (get_or (halved_by z true w all x right rest t) k 0 + p) % 2 ^ 32 ≡ (get_or t k 0 + q) % 2 ^ 32
    off : (get_or (halved_by z false w all x right rest t) k 0 + q) % 2 ^ 32 ≡ (get_or t k 0 + p) % 2 ^ 32
    same : held_by z w + q ≡ held_after w all x right rest k + p

  -- nothing must change: by where k stands
  none-changes : size x ≡ 0 → (d p q : ℕ) → has all k ≡ d → has right k ≡ p → has rest k ≡ q → Changes 0
  none-changes e zero zero zero f g h = record {
    p = 0;
    q = 0;
    on = omega (arith, none-level true, at_none all k (signed false w) f, at_none right k (signed false 1) g, at_none rest k (signed true 1) h);
    off = omega (arith, none-level false, at_none all k (signed true w) f, at_none right k (signed true 1) g, at_none rest k (signed false 1) h);
    same = (let a : held_after w all x right rest k ≡ (w + has rest k) - has right k = held_out f ∙ ap (λ (z : ℕ). held_by z ((w + has rest k) - has right k)) e in omega arith);
  }
  none-changes e zero zero (suc q) f g h = record {
    p = 0;
    q = 1;
    on = omega (arith, none-level true, at_none all k (signed false w) f, at_none right k (signed false 1) g, at_one rest k (signed true 1) (omega arith));
    off = omega (arith, none-level false, at_none all k (signed true w) f, at_none right k (signed true 1) g, at_one rest k (signed false 1) (omega arith));
    same = (let a : held_after w all x right rest k ≡ (w + has rest k) - has right k = held_out f ∙ ap (λ (z : ℕ). held_by z ((w + has rest k) - has right k)) e in omega arith);
  }
  none-changes e zero (suc p) zero f g h = record {
    p = 1;
    q = 0;
    on = omega (arith, none-level true, at_none all k (signed false w) f, at_one right k (signed false 1) (omega arith), at_none rest k (signed true 1) h);
    off = omega (arith, none-level false, at_none all k (signed true w) f, at_one right k (signed true 1) (omega arith), at_none rest k (signed false 1) h);
    same = (let a : held_after w all x right rest k ≡ (w + has rest k) - has right k = held_out f ∙ ap (λ (z : ℕ). held_by z ((w + has rest k) - has right k)) e in omega arith);
  }
  none-changes e (suc d) zero zero f g h =
      let i : has all k ≡ 1 = omega arith in
      let y : has x k ≡ 0 = size_none n x hx e k hk in
      let z : size (flip x k) ≡ 1 = omega (arith, size-flip n x k hx hk) in
      let a : held_after w all x right rest k ≡ 0 = held_in i ∙ ap (λ (z : ℕ). held_by z w) z in
      record {
        p = w;
        q = 0;
        on =
            off-on (get_or (halved_by 0 true w all x right rest t) k 0) (get_or t k 0) w hw
            (none-level true ∙ alone (get_or t k 0) (at_one all k (signed false w) i) (at_none right k (signed false 1) g) (at_none rest k (signed true 1) h))
            ∙ ap (λ (v : ℕ). v % 2 ^ 32) (sym (add-zero (get_or t k 0)));
        off = omega (arith, none-level false, at_one all k (signed true w) i, at_none right k (signed true 1) g, at_none rest k (signed false 1) h);
        same = omega arith;
      }
    where
      alone : (v : ℕ) {a b c d : ℕ} → a ≡ d → b ≡ 0 → c ≡ 0 → (v + a + b + c) % 2 ^ 32 ≡ (v + d) % 2 ^ 32
      alone v {a} {b} {c} {d} e f g = let z : v + a + b + c ≡ v + d = omega arith in ap (λ (y : ℕ). y % 2 ^ 32) z
  none-changes e zero (suc p) (suc q) f g h = absurd (omega arith)
  none-changes e (suc d) (suc p) q f g h = absurd (omega arith)
  none-changes e (suc d) zero (suc q) f g h = absurd (omega arith)

  -- one must change, and it is k or it is not
  one-level : (on : Bool) → get_or (halved_by 1 on w all x right rest t) k 0 % 2 ^ 32 ≡ (get_or t k 0 + at x k (signed on w)) % 2 ^ 32
  unfolding halved_by
  one-level on = raised-level (signed on w) x t k l

  -- a side that is not empty after the flip is not met
  held_none : (z : ℕ) → size (turned all x k) ≡ suc z → held_after w all x right rest k ≡ 0
  held_none z e = ap (λ (y : ℕ). held_by y ((w + has rest k) - has right k)) e

  one-changes : size x ≡ 1 → (c d : ℕ) → has x k ≡ c → has all k ≡ d → Changes 1
  one-changes e zero d f g = record {
    p = 0;
    q = 0;
    on = omega (arith, one-level true, at_none x k (signed true w) f);
    off = omega (arith, one-level false, at_none x k (signed false w) f);
    same = (let a = stays d g in omega arith);
  }
    where
      stays : (d : ℕ) → has all k ≡ d → held_after w all x right rest k ≡ 0
      stays zero g = held_none 0 (ap size (turned-out all x k g) ∙ e)
      stays (suc d) g = held_none 1 (ap size (turned-in all x k (omega (arith, has-lt all k))) ∙ omega (arith, size-flip n x k hx hk))
  one-changes e (suc c) d f g =
      let i : has all k ≡ 1 = omega (arith, has-lt all k) in
      let y : has x k ≡ 1 = omega (arith, has-lt x k) in
      let z : size (flip x k) ≡ 0 = omega (arith, size-flip n x k hx hk) in
      let a : held_after w all x right rest k ≡ w = held_in i ∙ ap (λ (z : ℕ). held_by z w) z in
      record {
        p = 0;
        q = w;
        on = omega (arith, one-level true, at_one x k (signed true w) y);
        off =
            off-on (get_or (halved_by 1 false w all x right rest t) k 0) (get_or t k 0) w hw
            (one-level false ∙ ap (λ (d : ℕ). (get_or t k 0 + d) % 2 ^ 32) (at_one x k (signed false w) y))
            ∙ ap (λ (v : ℕ). v % 2 ^ 32) (sym (add-zero (get_or t k 0)));
        same = omega arith;
      }

  -- more must change, before and after
  many-changes : (z : ℕ) → size x ≡ suc (suc z) → (d : ℕ) → has all k ≡ d → Changes (suc (suc z))
  unfolding halved_by
  many-changes z e d g = record { p = 0; q = 0; on = refl; off = refl; same = (let a = stays d g in omega arith) }
    where
      stays : (d : ℕ) → has all k ≡ d → held_after w all x right rest k ≡ 0
      stays zero g = held_none (suc z) (ap size (turned-out all x k g) ∙ e)
      stays (suc d) g =
          let f : size (flip x k) ≡ suc (size (flip x k) - 1) = omega (arith, size-flip n x k hx hk, has-lt x k) in
          held_none (size (flip x k) - 1) (ap size (turned-in all x k (omega (arith, has-lt all k))) ∙ f)

  changes : (z : ℕ) → size x ≡ z → Changes z
  changes zero e = none-changes e (has all k) (has right k) (has rest k) refl refl refl
  changes (suc zero) e = one-changes e (has x k) (has all k) refl refl
  changes (suc (suc z)) e = many-changes z e (has all k) refl

  -- put on: the level rises by what is met after the flip of k, less what is met now
  pub halved-on : (get_or (halved true w all x right rest t) k 0 + held x w) % 2 ^ 32 ≡ (get_or t k 0 + held_after w all x right rest k) % 2 ^ 32
  unfolding halved
  halved-on = let c = changes (size x) refl in omega (arith, c.on, c.same)

  -- taken off: it falls by as much
  pub halved-off : (get_or (halved false w all x right rest t) k 0 + held_after w all x right rest k) % 2 ^ 32 ≡ (get_or t k 0 + held x w) % 2 ^ 32
  unfolding halved
  halved-off = let c = changes (size x) refl in omega (arith, c.off, c.same)
