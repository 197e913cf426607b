-- The search as it calls itself: a part that is decided, and the two halves of one that is not.
use Rattle.std.specs.Prelude.{Option, Some, None}
use Rattle.std.specs.Bool.{then_some}
use Rattle.std.specs.Option.{is_some}
use mathlib.Core.Path.{◌≡◌, refl, sym, ap, ap₂, ◌∙◌}
use mathlib.Core.Bool.{Bool, true, false, cond}
use mathlib.Core.List.{List}
use Prim.Native.Nat.{ℕ, zero, suc, ◌+◌, ◌*◌, ◌-◌, ◌^◌, ◌≤◌, ◌<◌}
use native.Mathlib.Nat.{pow-suc, le-mul_of_pos_right, mul-le-mul_right}
use native.Mathlib.Omega.{arith}
use Rattle.judge_search.specs.Search.{fails_over, kept_words, same_words, or_else, searched}
use Rattle.judge_search.specs.declared.Said.{Said}

module _ (listing cover : Said) (says cols : List ℕ) (at v : ℕ) (rows : List ℕ) where
  -- no input is left
  pub leaf : {b : Bool} {k : ℕ} → k ≡ 0 → b ≡ fails_over listing cover says rows → then_some b v ≡ searched listing cover says cols at k v rows
  unfolding searched
  leaf {b} z e = go b ∙ ap (λ (b : Bool). cond b (Some v) None) e ∙ sym (ap (λ (k : ℕ). searched listing cover says cols at k v rows) z)
    where
      go : (b : Bool) → then_some b v ≡ cond b (Some v) None
      go true = refl
      go false = refl

  module _ (k : ℕ) (some : k ≡ 0 → ⊥) (low high : List ℕ) (is-low : low ≡ kept_words rows cols at) (is-high : high ≡ kept_words rows cols (at + 7)) where
    abbrev first : Option ℕ
    first = searched listing cover says cols (at + 14) (k - 1) (v * 2) low

    abbrev second : Option ℕ
    second = searched listing cover says cols (at + 14) (k - 1) (v * 2 + 1) high

    abbrev halves : List ℕ → List ℕ → Option ℕ
    halves l h = or_else (searched listing cover says cols (at + 14) (k - 1) (v * 2) l) (cond (same_words l h) None (searched listing cover says cols (at + 14) (k - 1) (v * 2 + 1) h))

    two : searched listing cover says cols at k v rows ≡ or_else first (cond (same_words low high) None second)
    unfolding searched
    two =
        let e : k ≡ suc (k - 1) = omega arith in
        ap (λ (j : ℕ). searched listing cover says cols at j v rows) e ∙ ap₂ halves (sym is-low) (sym is-high)

    -- the first half has one
    pub in-first : {f : Option ℕ} → f ≡ first → is_some f ≡ true → f ≡ searched listing cover says cols at k v rows
    in-first {f} e q = e ∙ sym (two ∙ go first (ap is_some (sym e) ∙ q))
      where
        go : (x : Option ℕ) → is_some x ≡ true → or_else x (cond (same_words low high) None second) ≡ x
        go (Some x) e = refl
        go None e = cc

    in-second : {f : Option ℕ} → f ≡ first → is_some f ≡ false → searched listing cover says cols at k v rows ≡ cond (same_words low high) None second
    in-second {f} e q = two ∙ go first (ap is_some (sym e) ∙ q)
      where
        go : (x : Option ℕ) → is_some x ≡ false → or_else x (cond (same_words low high) None second) ≡ cond (same_words low high) None second
        go (Some x) e = cc
        go None e = refl

    -- the second is like it
    pub like-first : {f : Option ℕ} → f ≡ first → is_some f ≡ false → same_words low high ≡ true → None ≡ searched listing cover says cols at k v rows
    like-first e q s = sym (in-second e q ∙ ap (λ (b : Bool). cond b None second) s)

    -- or is searched
    pub as-second : {f g : Option ℕ} → f ≡ first → is_some f ≡ false → same_words low high ≡ false → g ≡ second → g ≡ searched listing cover says cols at k v rows
    as-second e q s r = r ∙ sym (in-second e q ∙ ap (λ (b : Bool). cond b None second) s)

-- ---- the numbers of both halves stay below 2^16

pub power_pos : (k : ℕ) → 1 ≤ 2 ^ k
power_pos zero = omega arith
power_pos (suc k) = omega (arith, pow-suc 2 k, power_pos k)

pub number_small : (v k : ℕ) → (v + 1) * 2 ^ k ≤ 65536 → v < 65536
number_small v k h = omega (arith, le-mul_of_pos_right (v + 1) (power_pos k))

double : (v p : ℕ) → (v * 2 + 1 + 1) * p ≡ (v + 1) * (p * 2)
double v p = omega arith

pub halves_small : (v k : ℕ) → (k ≡ 0 → ⊥) → (v + 1) * 2 ^ k ≤ 65536 → ((v * 2 + 1) * 2 ^ (k - 1) ≤ 65536) × ((v * 2 + 1 + 1) * 2 ^ (k - 1) ≤ 65536)
halves_small v zero o h = absurd (o refl)
halves_small v (suc k) o h =
    let p : ℕ = 2 ^ k in
    let e : (v + 1) * (p * 2) ≡ (v + 1) * 2 ^ suc k = ap (λ (q : ℕ). (v + 1) * q) (omega (arith, pow-suc 2 k)) in
    let less : (v * 2 + 1) * p ≤ (v * 2 + 1 + 1) * p = mul-le-mul_right p (omega arith) in
    let z : suc k - 1 ≡ k = omega arith in
    rw z (omega (arith, double v p, e, less), omega (arith, double v p, e))
