-- The shares of a half, by how many of its side must change, as code goes by them.
use mathlib.Core.Path.{◌≡◌, refl, sym, ap, ◌∙◌}
use mathlib.Core.Bool.{Bool, true, not}
use mathlib.Core.List.{List}
use Prim.Native.Nat.{ℕ, ◌^◌, ◌≤◌, ◌<◌}
use native.Mathlib.Decide.{ℕ_discrete}
use native.Mathlib.Omega.{arith}
use lib.Dec.{eqb, leb}
use borrow.Author.Tests.{eq-eqb, ne_eqb, leb-true}
use Rattle.sets.specs.Sets.{size, size_in}
use Rattle.sets.proofs.SizeMembers.{some-member, member-size}
use Rattle.move_table.specs.Table.{raised}
use Rattle.move_halves.specs.Halves.{signed, halved_by, halved}

empty : size 0 ≡ 0
unfolding size size_in
empty = refl

-- a set that is not empty has a size
pub size-some : (m : ℕ) → m < 2 ^ 64 → (m ≡ 0 → ⊥) → 1 ≤ size m
size-some m h o = let r = some-member 64 m h o in member-size 64 m h r.0 r.1 r.2

pub size-test : (m : ℕ) → m < 2 ^ 64 → eqb (size m) 0 ≡ eqb m 0
size-test m h = go (ℕ_discrete m 0)
  where
    go : Dec (m ≡ 0) → eqb (size m) 0 ≡ eqb m 0
    go (yes e) = ap (λ (k : ℕ). eqb (size k) 0) e ∙ eq-eqb (size 0) 0 empty ∙ sym (eq-eqb m 0 e)
    go (no o) = ne_eqb (size m) 0 (λ e. omega (arith, size-some m h o)) ∙ sym (ne_eqb m 0 o)

module _ (on : Bool) (w all x right rest : ℕ) (t : List ℕ) where
  pub halved_none : x ≡ 0 → halved on w all x right rest t ≡ raised (signed on 1) rest 0 (raised (signed (not on) 1) right 0 (raised (signed (not on) w) all 0 t))
  unfolding halved halved_by
  halved_none e = ap (λ (z : ℕ). halved_by z on w all x right rest t) (ap size e ∙ empty)

  pub halved-one : x < 2 ^ 64 → (x ≡ 0 → ⊥) → leb (size x) 1 ≡ true → halved on w all x right rest t ≡ raised (signed on w) x 0 t
  unfolding halved halved_by
  halved-one h o e =
      let one : size x ≡ 1 = omega (arith, size-some x h o, leb-true (size x) 1 e) in
      ap (λ (z : ℕ). halved_by z on w all x right rest t) one
