-- Passes, as a loop counts them: what is counted so far, and what the passes from here on add.
use Rattle.std.proofs.Common.{◌≡◌, ℕ, suc, ◌+◌, ◌-◌, ◌%◌, ◌^◌, ◌<◌, ◌≤◌, Bool, cond, List, sym, refl, ap, ◌∙◌, add_comm, arith, le-ltb, lt-ltb}
use Rattle.rules.specs.declared.Requirement.{Requirement}
use Rattle.move_table.specs.Table.{level}
use Rattle.bit_choice.specs.Pass.{passed, after_pass, passes_by, tallied}
use Rattle.bit_choice.specs.declared.Passed.{Passed}
use Rattle.bit_choice.specs.declared.Built.{Built}

pub same-built : (b p l p' l' : ℕ) → p ≡ p' → l ≡ l' → ◌≡◌ {A = Built} (record { bit = b; passes = p; looks = l }) (record { bit = b; passes = p'; looks = l' })
same-built b p l p' l' e f = λ i. record { bit = b; passes = e i; looks = f i }

passes-step : (k n : ℕ) (rs : List Requirement) (b : ℕ) → passes_by (suc k) n rs b ≡ after_pass b (passed n rs b) (passes_by k n rs (passed n rs b).bit)
unfolding passes_by
passes-step k n rs b = refl

-- sums modulo 2 ^ 64, one part after the other
sum_over : (x y z : ℕ) → (x + (y + z) % 2 ^ 64) % 2 ^ 64 ≡ ((x + y) % 2 ^ 64 + z) % 2 ^ 64
sum_over x y z = omega arith

module _ (n : ℕ) (rs : List Requirement) (b p l left : ℕ) (q : Passed) (some : 0 < left) (e : q ≡ passed n rs b) where
  step : passes_by left n rs b ≡ after_pass b q (passes_by (left - 1) n rs q.bit)
  step =
      let h : left ≡ suc (left - 1) = omega arith in
      ap (λ (k : ℕ). passes_by k n rs b) h ∙ passes-step (left - 1) n rs b ∙ ap (λ (x : Passed). after_pass b x (passes_by (left - 1) n rs x.bit)) (sym e)

  -- the pass gains: those that follow count on
  pub tally-more : level < q.level → tallied p l (passes_by left n rs b) ≡ tallied ((p + 1) % 2 ^ 64) ((l + q.looks) % 2 ^ 64) (passes_by (left - 1) n rs q.bit)
  tally-more g =
      let more : Built = passes_by (left - 1) n rs q.bit in
      ap (tallied p l) (step ∙ ap (λ (t : Bool). cond t (record { bit = more.bit; passes = (more.passes + 1) % 2 ^ 64; looks = (q.looks + more.looks) % 2 ^ 64 }) (record { bit = b; passes = 1; looks = q.looks })) (lt-ltb level q.level g))
      ∙ same-built more.bit _ _ _ _ (ap (λ (x : ℕ). (p + x % 2 ^ 64) % 2 ^ 64) (add_comm more.passes 1) ∙ sum_over p 1 more.passes) (sum_over l q.looks more.looks)

  -- it gains nothing, and is the last
  pub tally-last : q.level ≤ level → ◌≡◌ {A = Built} (record { bit = b; passes = (p + 1) % 2 ^ 64; looks = (l + q.looks) % 2 ^ 64 }) (tallied p l (passes_by left n rs b))
  tally-last g =
      let more : Built = passes_by (left - 1) n rs q.bit in
      sym (ap (tallied p l) (step ∙ ap (λ (t : Bool). cond t (record { bit = more.bit; passes = (more.passes + 1) % 2 ^ 64; looks = (q.looks + more.looks) % 2 ^ 64 }) (record { bit = b; passes = 1; looks = q.looks })) (le-ltb level q.level g)))

passes_none : (n : ℕ) (rs : List Requirement) (b : ℕ) → passes_by 0 n rs b ≡ record { bit = b; passes = 0; looks = 0 }
unfolding passes_by
passes_none n rs b = refl

-- none is left
pub tally-none : (n : ℕ) (rs : List Requirement) (b p l left : ℕ) → left ≡ 0 → p < 2 ^ 64 → l < 2 ^ 64
    → ◌≡◌ {A = Built} (record { bit = b; passes = p; looks = l }) (tallied p l (passes_by left n rs b))
tally-none n rs b p l left h hp hl =
    same-built b _ _ _ _ (omega arith) (omega arith) ∙ sym (ap (tallied p l) (ap (λ (k : ℕ). passes_by k n rs b) h ∙ passes_none n rs b))
