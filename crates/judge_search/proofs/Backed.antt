-- Rows that are backed, and rows that clash, as iterators and tests have them.
use Rattle.std.specs.List.{list_any, range_with_len}
use mathlib.Core.Path.{◌≡◌, refl, sym, ap, ap₂, ◌∙◌}
use mathlib.Core.Bool.{Bool, true, false, ◌&&◌, ◌||◌, not}
use mathlib.Core.List.{List}
use Prim.Native.Nat.{ℕ, zero, suc, ◌+◌, ◌*◌, ◌-◌, ◌^◌, ◌≤◌, ◌<◌, min}
use native.Mathlib.Numerals.{add-one}
use native.Mathlib.Omega.{arith}
use lib.Bits.{bit_and, bit_or, bit_xor}
use lib.Dec.{eqb}
use Rattle.sets.specs.Sets.{everyone}
use Rattle.sets.proofs.Every.{every-same}
use Rattle.sharing.proofs.Inputs.{none-low, unlike}
use Rattle.rules.specs.Limits.{most_inputs}
use lib.ListN.{get_or}
use Rattle.judge_search.specs.declared.Firing.{Firing}
use Rattle.judge_search.specs.declared.backing.Sayings.{Sayings}
use Rattle.judge_search.specs.Rows.{any_from, firing_at}
use Rattle.judge_search.specs.Backing.{within, of_listing, of_cover, no_sayings, backed_by, backed, unbacked, any_unbacked, share_inputs, clash, any_clash, row_by_row}

-- ---- tests, one behind the other

pub and-fails : {a : Bool} (b : Bool) → a ≡ false → false ≡ (a && b)
and-fails b e = rw e

pub and-holds : {r a b : Bool} → a ≡ true → r ≡ b → r ≡ (a && b)
and-holds e f = rw e f

-- ---- two rows, by where they fire

module _ (fires says : List ℕ) (x y : ℕ) {a b : Firing} (is-a : a ≡ firing_at fires x) (is-b : b ≡ firing_at fires y) where
  pub backed-by : (f g : ℕ) → (eqb a.ones b.ones && (eqb a.dashes b.dashes && (within a.states b.states && within (get_or says (x * 4 + f) 0) (get_or says (y * 4 + g) 0)))) ≡ backed_by fires says f g x y
  unfolding backed_by
  backed-by f g =
      ap₂ (λ (p q : Firing). eqb p.ones q.ones && (eqb p.dashes q.dashes && (within p.states q.states && within (get_or says (x * 4 + f) 0) (get_or says (y * 4 + g) 0)))) is-a is-b

  pub clash-by : (i : ℕ) → (not (eqb (bit_and (get_or says (x * 4 + 3) 0) (get_or says (y * 4 + 2) 0)) 0) && (not (eqb (bit_and a.states b.states) 0) && share_inputs i a.ones b.ones a.dashes b.dashes)) ≡ clash fires says i x y
  unfolding clash
  clash-by i =
      ap₂ (λ (p q : Firing). not (eqb (bit_and (get_or says (x * 4 + 3) 0) (get_or says (y * 4 + 2) 0)) 0) && (not (eqb (bit_and p.states q.states) 0) && share_inputs i p.ones q.ones p.dashes q.dashes)) is-a is-b

pub unbacked-by : (fires says : List ℕ) (f : ℕ) (by : Sayings) (x : ℕ) {a : Firing} → a ≡ firing_at fires x
    → (not (eqb a.states 0) && (not (eqb (get_or says (x * 4 + f) 0) 0) && not (backed fires says f by x))) ≡ unbacked fires says f by x
unfolding unbacked
unbacked-by fires says f by x e = ap (λ (p : Firing). not (eqb p.states 0) && (not (eqb (get_or says (x * 4 + f) 0) 0) && not (backed fires says f by x))) e

-- ---- the rows of some, from the first on

pub any-is : (p : ℕ → Bool) (a k : ℕ) → list_any p (range_with_len a k) ≡ any_from p a k
unfolding any_from
any-is p a zero = refl
any-is p a (suc k) = ap (λ (b : Bool). p a || b) (ap (λ (z : ℕ). list_any p (range_with_len z k)) (add-one a) ∙ any-is p (suc a) k)

-- ---- the mask of the inputs at which two rows differ

pub inputs-mask : (i o p d e : ℕ) {m : ℕ} → d < 2 ^ 64 → e < 2 ^ 64 → i ≤ most_inputs → m ≡ everyone (min i 64)
    → eqb (bit_and (bit_and (bit_xor o p) ((2 ^ 64 - 1) - bit_or d e)) m) 0 ≡ share_inputs i o p d e
unfolding share_inputs
inputs-mask i o p d e hd he few q =
    let least : min i 64 ≡ i = omega arith in
    ap (λ (m : ℕ). eqb (bit_and (bit_and (bit_xor o p) ((2 ^ 64 - 1) - bit_or d e)) m) 0) (q ∙ ap everyone least)
    ∙ none-low i (bit_and (bit_xor o p) ((2 ^ 64 - 1) - bit_or d e))
    ∙ every-same i _ _ (λ s h. unlike 64 d e o p s hd he (omega arith))

-- ---- the tests of all rows

module _ (fires says : List ℕ) (i : ℕ) {ones : Bool} (is-ones : ones ≡ any_unbacked fires says (of_cover 2) (of_listing 2)) where
  pub ones-added : ones ≡ true → false ≡ row_by_row fires says i
  unfolding row_by_row
  ones-added t = rw (sym is-ones ∙ t)

  module _ (no_ones : ones ≡ false) {dashes : Bool} (is-dashes : dashes ≡ any_unbacked fires says (of_cover 3) (of_listing 3)) where
    pub dashes-added : dashes ≡ true → false ≡ row_by_row fires says i
    unfolding row_by_row
    dashes-added t = rw (sym is-ones ∙ no_ones, sym is-dashes ∙ t)

    module _ (no-dashes : dashes ≡ false) {next : Bool} (is-next : next ≡ any_unbacked fires says (of_cover 0) (of_listing 1)) where
      pub next-added : next ≡ true → false ≡ row_by_row fires says i
      unfolding row_by_row
      next-added t = rw (sym is-ones ∙ no_ones, sym is-dashes ∙ no-dashes, sym is-next ∙ t)

      module _ (no-next : next ≡ false) {loose : Bool} (is-loose : loose ≡ any_unbacked fires says (of_cover 1) no_sayings) where
        pub next-loose : loose ≡ true → false ≡ row_by_row fires says i
        unfolding row_by_row
        next-loose t = rw (sym is-ones ∙ no_ones, sym is-dashes ∙ no-dashes, sym is-next ∙ no-next, sym is-loose ∙ t)

        module _ (no-loose : loose ≡ false) {lost : Bool} (is_lost : lost ≡ any_unbacked fires says (of_listing 2) (of_cover 2)) where
          pub ones-lost : lost ≡ true → false ≡ row_by_row fires says i
          unfolding row_by_row
          ones-lost t = rw (sym is-ones ∙ no_ones, sym is-dashes ∙ no-dashes, sym is-next ∙ no-next, sym is-loose ∙ no-loose, sym is_lost ∙ t)

          module _ (no-lost : lost ≡ false) {left : Bool} (is-left : left ≡ any_unbacked fires says (of_listing 1) (of_cover 0)) where
            pub next-lost : left ≡ true → false ≡ row_by_row fires says i
            unfolding row_by_row
            next-lost t = rw (sym is-ones ∙ no_ones, sym is-dashes ∙ no-dashes, sym is-next ∙ no-next, sym is-loose ∙ no-loose, sym is_lost ∙ no-lost, sym is-left ∙ t)

            pub clash-decides : {b : Bool} → left ≡ false → b ≡ any_clash fires says i → not b ≡ row_by_row fires says i
            unfolding row_by_row
            clash-decides no-left e = rw (sym is-ones ∙ no_ones, sym is-dashes ∙ no-dashes, sym is-next ∙ no-next, sym is-loose ∙ no-loose, sym is_lost ∙ no-lost, sym is-left ∙ no-left) (ap not e)
