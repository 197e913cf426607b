-- State by state, the first where the search finds an input.
use Rattle.std.specs.Prelude.{Option, Some, None}
use mathlib.Core.Path.{◌≡◌, sym, ap, ◌∙◌}
use mathlib.Core.Bool.{Bool}
use mathlib.Core.List.{List}
use Prim.Native.Nat.{ℕ, suc, ◌+◌, ◌-◌, ◌*◌, ◌^◌, ◌≤◌, ◌<◌}
use native.Mathlib.Numerals.{add-one}
use native.Mathlib.Omega.{arith}
use lib.ListN.{length, length-map}
use lib.Pow.{pow_mono}
use Rattle.sets.specs.Sets.{states_from}
use Rattle.rules.specs.Limits.{most_inputs}
use Rattle.rules.specs.Check.{lowest_from, fault_at, fault_from}
use Rattle.rules.proofs.Most.{states-length}
use Rattle.judge_search.specs.Rows.{column_word, columns}
use Rattle.judge_search.specs.Search.{fails_at}

-- the first state of some
faults : (p : ℕ → ℕ → Bool) (i s n : ℕ) → s < n → fault_from p i s (n - s) ≡ elim (lowest_from (p s) 0 (2 ^ i)) [ Some v ↦ fault_at s v | None ↦ fault_from p i (s + 1) (n - (s + 1)) ]
unfolding fault_from
faults p i s n h =
    let more : n - s ≡ suc (n - (s + 1)) = omega arith in
    ap (fault_from p i s) more ∙ ap (λ (u : ℕ). elim (lowest_from (p s) 0 (2 ^ i)) [ Some v ↦ fault_at s v | None ↦ fault_from p i u (n - (s + 1)) ]) (sym (add-one s))

module _ (fires says : List ℕ) (i s n : ℕ) {f : Option ℕ} (found : f ≡ lowest_from (fails_at fires says i s) 0 (2 ^ i)) where
  pub state-fails : {v : ℕ} → s < n → f ≡ Some v → fault_at s v ≡ fault_from (fails_at fires says i) i s (n - s)
  state-fails {v} h e =
      sym (faults (fails_at fires says i) i s n h
      ∙ ap (λ (x : Option ℕ). elim x [ Some v ↦ fault_at s v | None ↦ fault_from (fails_at fires says i) i (s + 1) (n - (s + 1)) ]) (sym found ∙ e))

  pub state-passes : s < n → f ≡ None → fault_from (fails_at fires says i) i (s + 1) (n - (s + 1)) ≡ fault_from (fails_at fires says i) i s (n - s)
  state-passes h e =
      sym (faults (fails_at fires says i) i s n h
      ∙ ap (λ (x : Option ℕ). elim x [ Some v ↦ fault_at s v | None ↦ fault_from (fails_at fires says i) i (s + 1) (n - (s + 1)) ]) (sym found ∙ e))

pub states-over : (p : ℕ → ℕ → Bool) (i s n : ℕ) → n ≤ s → None ≡ fault_from p i s (n - s)
unfolding fault_from
states-over p i s n h = let over : n - s ≡ 0 = omega arith in sym (ap (fault_from p i s) over)

-- the numbers of all inputs are below 2^16
pub inputs-small : (i : ℕ) → i ≤ most_inputs → (0 + 1) * 2 ^ i ≤ 65536
inputs-small i h = let le : 2 ^ i ≤ 2 ^ 16 = pow_mono h in omega (arith, le)

pub columns-long : (fires : List ℕ) {cols : List ℕ} → cols ≡ columns fires → length cols ≡ 224
unfolding columns
columns-long fires e = ap length e ∙ length-map (states_from 0 224) (column_word fires) ∙ states-length 0 224
