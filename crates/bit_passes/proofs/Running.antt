-- The steps of building a bit, of what code has on the way.
use Rattle.std.proofs.Common.{◌≡◌, ℕ, ◌+◌, ◌-◌, ◌%◌, ◌^◌, ◌<◌, ◌≤◌, min, Bool, true, false, cond, ltb, List, ◌∷◌, ◌++◌, length, get_or, sym, refl, ap, ◌∙◌, ap₂, arith, length-append}
use Rattle.sets.specs.Sets.{flip, states_from}
use Rattle.rules.specs.Requirements.{pairs}
use Rattle.rules.specs.declared.Requirement.{Requirement}
use Rattle.rules.proofs.Unmet.{unmet_in}
use Rattle.move_table.specs.Table.{level}
use Rattle.move_table.specs.Moves.{moved, looked}
use Rattle.bit_choice.specs.Pass.{highest, reached, best_of, going, go_on, passed, passes_by, tallied, built_by}
use Rattle.bit_choice.proofs.Tally.{same-built, tally-more, tally-last, tally-none}
use Rattle.bit_choice.proofs.OneMove.{chosen-lt, go_on_lem}
use Rattle.bit_choice.specs.declared.Passed.{Passed}
use Rattle.bit_choice.specs.declared.Built.{Built}
use Rattle.bit_choice.specs.declared.Way.{Way}
use Rattle.families.specs.Families.{requirements_of, requirements_in}
use Rattle.move_pairs.specs.Pairs.{live_pairs}
use Rattle.bit_live.specs.Live.{live_in}
use Rattle.bit_live.proofs.Counts.{count-more, count-end}
use Rattle.bit_passes.specs.Runs.{ran_on, Ran}
use Rattle.bit_passes.specs.declared.Run.{Run}

-- ---- one move

-- the looks count modulo 2 ^ 64
best-looks : (p : Passed) (b now x : ℕ) → best_of p b now (x % 2 ^ 64) ≡ best_of p b now x
best-looks p b now x =
    ap
    (λ (l : ℕ). cond (ltb p.level now) (record { bit = b; level = now; looks = l }) (record { bit = p.bit; level = p.level; looks = l }))
    (sum p.looks x)
  where
    sum : (y x : ℕ) → (y + x % 2 ^ 64) % 2 ^ 64 ≡ (y + x) % 2 ^ 64
    sum y x = omega arith

module _ (n : ℕ) (rs : List Requirement) (w : Way) (t : List ℕ) where
  pub by_move : (s a f v l m : ℕ) (t' : List ℕ) (p : Passed) → n ≤ 64
      → s ≡ highest w.free t n → (s < 64 → a ≡ flip w.bit s) → (s < 64 → f ≡ flip w.free s) → v ≡ get_or t s 0 → l ≡ reached w.level v
      → (m ≡ looked rs w.bit (flip w.bit s) s % 2 ^ 64) × (t' ≡ moved rs w.bit (flip w.bit s) s t) → p ≡ best_of w.best a l m
      → going (record { bit = a; free = f; level = l; best = p }) t' ≡ go_on n rs (going w t)
  by_move s a f v l m t' p h es ea ef ev el em ep =
      let a₁ : flip w.bit s ≡ a = sym (ea (chosen-lt n s w.free t h es)) in
      go_on_lem n rs w t s a f v l (looked rs w.bit a s) t' p h es ea ef ev el refl
      (em.1 ∙ ap (λ (c : ℕ). moved rs w.bit c s t) a₁)
      (ep
      ∙ ap (best_of w.best a l) (em.0 ∙ ap (λ (c : ℕ). looked rs w.bit c s % 2 ^ 64) a₁)
      ∙ best-looks w.best a l (looked rs w.bit a s))

-- ---- some passes, from the bit b₀ with p₀ and l₀ counted, of which at most k are allowed for

module _ (n : ℕ) (rs : List Requirement) (b₀ p₀ l₀ k : ℕ) where
  -- what is counted, with what those that are left add, is what all add, whatever follows
  pub record Running (b p l left : ℕ) : Type 0 where
    pub counts : (m : ℕ) → tallied p l (passes_by (left + m) n rs b) ≡ tallied p₀ l₀ (passes_by (k + m) n rs b₀)
    pub passes_fit : p < 2 ^ 64
    pub looks_fit : l < 2 ^ 64

  module _ (b p l left p' l' : ℕ) (q : Passed) (some : 0 < left) (e : q ≡ passed n rs b) (ep : p' ≡ (p + 1) % 2 ^ 64) (el : l' ≡ (l + q.looks) % 2 ^ 64) (g : Running b p l left) where
    pub running_more : (left' : ℕ) → left ≡ left' + 1 → level < q.level → Running q.bit p' l' left'
    running_more left' one gain = record {
      counts = λ m.
          let h : 0 < left + m = omega arith in
          let f : left' + m ≡ left + m - 1 = omega arith in
          ap₂ (λ (x y : ℕ). tallied x y (passes_by (left' + m) n rs q.bit)) ep el
          ∙ ap (λ (j : ℕ). tallied ((p + 1) % 2 ^ 64) ((l + q.looks) % 2 ^ 64) (passes_by j n rs q.bit)) f
          ∙ sym (tally-more n rs b p l (left + m) q h e gain)
          ∙ g.counts m;
      passes_fit = omega arith;
      looks_fit = omega arith;
    }

    pub running-last : q.level ≤ level → (w : Run) → w.done ≡ false → w.bit ≡ b₀ → w.passes ≡ p₀ → w.looks ≡ l₀ → Ran n rs k w (record { bit = b; passes = p'; looks = l'; done = true })
    running-last none w d eb ew ev = record {
      goes = λ m.
          let h : 0 < left + m = omega arith in
          rw (d, eb, ew, ev) (sym (same-built b p' l' _ _ ep el ∙ tally-last n rs b p l (left + m) q h e none ∙ g.counts m));
      passes_fit = omega arith;
      looks_fit = omega arith;
    }

  pub running-end : (left : ℕ) (w r : Run) → left ≤ 0 → Running r.bit r.passes r.looks left → r.done ≡ false → w.done ≡ false → w.bit ≡ b₀ → w.passes ≡ p₀ → w.looks ≡ l₀ → Ran n rs k w r
  running-end left w r z g dr d eb ew ev = record {
    goes = λ m.
        let f : left + m ≡ m = omega arith in
        rw (d, eb, ew, ev, dr) (sym (g.counts m) ∙ ap (λ (j : ℕ). tallied r.passes r.looks (passes_by j n rs r.bit)) f);
    passes_fit = g.passes_fit;
    looks_fit = g.looks_fit;
  }

-- what is built, where none follows
pub built-end : (n : ℕ) (rs : List Requirement) (w : Run) → w.passes < 2 ^ 64 → w.looks < 2 ^ 64 → ◌≡◌ {A = Built} (record { bit = w.bit; passes = w.passes; looks = w.looks }) (ran_on 0 n rs w)
built-end n rs w h g = go w.done
  where
    go : (d : Bool) → ◌≡◌ {A = Built} (record { bit = w.bit; passes = w.passes; looks = w.looks })
        (cond d (record { bit = w.bit; passes = w.passes; looks = w.looks }) (tallied w.passes w.looks (passes_by 0 n rs w.bit)))
    go true = refl
    go false = tally-none n rs w.bit w.passes w.looks 0 refl h g

-- ---- the whole: as many passes as there are requirements, and one more

-- a count of states above 64 is 64
live_same : (n : ℕ) (bits fs : List ℕ) → live_in (min n 64) bits fs ≡ live_in n bits fs
unfolding live_pairs
live_same n bits fs =
    let e : min (min n 64) 64 ≡ min n 64 = omega arith in
    ap (λ (k : ℕ). unmet_in k bits (pairs (states_from 0 k)) ++ requirements_in fs) e

pub built-is : (n m : ℕ) (bits fs : List ℕ) (b : ℕ) → m ≡ min n 64 → tallied 0 0 (passes_by (length (live_in m bits fs) + 1) m (live_in m bits fs) b) ≡ built_by n (live_in n bits fs) b
unfolding built_by
built-is n m bits fs b e =
    ap (λ (k : ℕ). tallied 0 0 (passes_by (length (live_in k bits fs) + 1) k (live_in k bits fs) b)) e
    ∙ ap (λ (rs : List Requirement). tallied 0 0 (passes_by (length rs + 1) (min n 64) rs b)) (live_same n bits fs)

module _ (n : ℕ) (bits : List ℕ) where
  -- the passes still allowed for: those of the families still to come, and of the pairs
  unfoldable pub allowed : List ℕ → ℕ
  unfolding requirements_in live_pairs
  allowed rest = length (requirements_in rest) + length (live_pairs n bits)

  pub allowed-first : (fs : List ℕ) → 1 + allowed fs ≡ length (live_in n bits fs) + 1
  unfolding allowed
  allowed-first fs = swap (length (live_pairs n bits)) (length (requirements_in fs)) (length (live_in n bits fs)) (length-append (live_pairs n bits) (requirements_in fs))
    where
      swap : (p q s : ℕ) → s ≡ p + q → 1 + (q + p) ≡ s + 1
      swap p q s e = omega arith

  pub allowed-more : (l rest : List ℕ) (all flip out k : ℕ) → l ≡ all ∷ (flip ∷ (out ∷ rest)) → k ≡ length (requirements_of all flip out) → allowed l ≡ k + allowed rest
  unfolding allowed
  allowed-more l rest all flip out k w e =
      ap (λ (x : ℕ). x + length (live_pairs n bits)) (count-more l rest all flip out w ∙ ap (λ (x : ℕ). x + length (requirements_in rest)) (sym e))
      ∙ assoc k (length (requirements_in rest)) (length (live_pairs n bits))
    where
      assoc : (x y z : ℕ) → x + y + z ≡ x + (y + z)
      assoc x y z = omega arith

  pub allowed-last : (l : List ℕ) (k : ℕ) → length l ≤ 2 → k ≡ length (live_pairs n bits) → allowed l ≡ k + 0
  unfolding allowed
  allowed-last l k h e = last (length (requirements_in l)) (length (live_pairs n bits)) k (count-end l h) e
    where
      last : (x y k : ℕ) → x ≡ 0 → k ≡ y → x + y ≡ k + 0
      last x y k e f = omega arith
