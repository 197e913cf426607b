-- Passes by the gain table until none gains are 01's passes: the same bit, as many passes, as many looks.
use Rattle.std.proofs.Common.{◌≡◌, ℕ, zero, suc, ◌+◌, ◌*◌, ◌%◌, ◌^◌, ◌<◌, ◌≤◌, min, Bool, true, false, cond, ltb, List, length, refl, subst, suc-mul, mul-le-mul, arith}
use Rattle.rules.specs.Requirements.{met_count}
use Rattle.rules.specs.Looks.{looks}
use Rattle.rules.specs.OneBit.{Bit, start, pass_moves, kept, counted, passes_from, passes}
use Rattle.rules.specs.declared.Requirement.{Requirement}
use Rattle.rules.proofs.Good.{AllGood, start-lt}
use Rattle.move_table.specs.Table.{level}
use Rattle.bit_choice.specs.Pass.{passed, passes_by, built_by}
use Rattle.bit_choice.specs.declared.Passed.{Passed}
use Rattle.bit_choice.specs.declared.Built.{Built}
use Rattle.move_table.proofs.Ready.{Ready}
use Rattle.bit_choice.proofs.Highest.{same-ltb}
use Rattle.bit_choice.proofs.OnePass.{OnePass, pass-is, pass-looks}

-- the same bit, as many passes, as many looks
pub record Same (a : Built) (r : Bit) : Type 0 where
  pub bit : a.bit ≡ r.bit
  pub passes : a.passes ≡ r.passes
  pub looks : a.looks ≡ r.looks

-- ---- no sum is long

-- at most k passes, each with at most four looks at a requirement
pub record Few (k m : ℕ) (r : Bit) : Type 0 where
  pub passes-few : r.passes ≤ k
  pub looks-few : r.looks ≤ k * m

few-none : (n : ℕ) (rs : List Requirement) (b m : ℕ) → Few 0 m (passes_from 0 n rs b)
unfolding passes_from
few-none n rs b m = record { passes-few = omega arith; looks-few = omega arith }

few : (k n : ℕ) (rs : List Requirement) (b : ℕ) → AllGood n rs → Few k (4 * length rs) (passes_from k n rs b)
unfolding passes_from
few zero n rs b good = few-none n rs b (4 * length rs)
few (suc k) n rs b good =
    go (ltb (met_count n rs b) (met_count n rs c)) (pass-looks n rs b good) (few k n rs c good)
  where
    c : ℕ
    c = kept n rs b (pass_moves n rs b)

    l : ℕ
    l = looks n rs b (pass_moves n rs b)

    go : (t : Bool) → l ≤ 4 * length rs → Few k (4 * length rs) (passes_from k n rs c)
        → Few (suc k) (4 * length rs) (cond t (counted l (passes_from k n rs c)) (record { bit = b; passes = 1; looks = l }))
    go true p f = record { passes-few = omega (arith, f.passes-few); looks-few = omega (arith, f.looks-few, suc-mul k (4 * length rs)) }
    go false p f = record { passes-few = omega arith; looks-few = omega (arith, suc-mul k (4 * length rs)) }

-- ---- the passes

-- one of two, against one of two
same-choice : (t : Bool) (x y : Built) (u v : Bit) → Same x u → Same y v → Same (cond t x y) (cond t u v)
same-choice true x y u v p q = p
same-choice false x y u v p q = q

-- one pass more, where the sums fit
same-counted : (k m l : ℕ) (a : Built) (r : Bit) → k ≤ 2 ^ 20 → m ≤ 4 * 2 ^ 20 → l ≤ m → Few k m r → Same a r
    → Same (record { bit = a.bit; passes = (a.passes + 1) % 2 ^ 64; looks = (l + a.looks) % 2 ^ 64 }) (counted l r)
same-counted k m l a r hk hm hl f h =
    let most : k * m ≤ 2 ^ 20 * (4 * 2 ^ 20) = mul-le-mul {m₂ = 4 * 2 ^ 20} hk hm in
    record { bit = h.bit; passes = omega (arith, h.passes, f.passes-few); looks = omega (arith, h.looks, f.looks-few) }

module _ (n : ℕ) (rs : List Requirement) (ready : Ready n rs) where
  same_none : (b : ℕ) → Same (passes_by 0 n rs b) (passes_from 0 n rs b)
  unfolding passes_by passes_from
  same_none b = record { bit = refl; passes = refl; looks = refl }

  same_more : (k b : ℕ) → k ≤ length rs → b < 2 ^ n → Same (passes_by k n rs (passed n rs b).bit) (passes_from k n rs (passed n rs b).bit)
      → Same (passes_by (suc k) n rs b) (passes_from (suc k) n rs b)
  unfolding passes_by passes_from
  same_more k b h hb later =
      let p : Passed = passed n rs b in
      let is : OnePass n rs b p = pass-is n rs ready b hb in
      let c : ℕ = kept n rs b (pass_moves n rs b) in
      let l : ℕ = looks n rs b (pass_moves n rs b) in
      let e : ltb level p.level ≡ ltb (met_count n rs b) (met_count n rs c) =
      same-ltb level p.level (met_count n rs b) (met_count n rs c) (omega (arith, is.level)) in
      let counts =
      same-counted k (4 * length rs) l (passes_by k n rs p.bit) (passes_from k n rs c) (omega (arith, ready.few)) (omega (arith, ready.few))
      (pass-looks n rs b ready.good) (few k n rs c ready.good)
      (subst (λ (d : ℕ). Same (passes_by k n rs p.bit) (passes_from k n rs d)) is.bit later) in
      rw (e, is.looks) (same-choice (ltb (met_count n rs b) (met_count n rs c)) _ _ _ _ counts (record { bit = refl; passes = refl; looks = refl }))

  pub passes_same : (k : ℕ) → k ≤ suc (length rs) → (b : ℕ) → b < 2 ^ n → Same (passes_by k n rs b) (passes_from k n rs b)
  passes_same zero h b hb = same_none b
  passes_same (suc k) h b hb = same_more k b (omega arith) hb (passes_same k (omega arith) (passed n rs b).bit (pass-is n rs ready b hb).fits)

  -- one bit
  pub bit-same : Same (passes_by (suc (length rs)) n rs (start rs)) (passes n rs)
  unfolding passes
  bit-same = passes_same (suc (length rs)) (omega arith) (start rs) (start-lt n rs ready.good)

  pub bit-few : Few (suc (length rs)) (4 * length rs) (passes n rs)
  unfolding passes
  bit-few = few (suc (length rs)) n rs (start rs) ready.good

  -- the same, as code counts
  pub built-same : Same (built_by n rs (start rs)) (passes n rs)
  unfolding built_by
  built-same =
      let m : min n 64 ≡ n = omega (arith, ready.fits) in
      let l : length rs + 1 ≡ suc (length rs) = omega arith in
      let s : Same (passes_by (suc (length rs)) n rs (start rs)) (passes n rs) = bit-same in
      let f : Few (suc (length rs)) (4 * length rs) (passes n rs) = bit-few in
      let most : suc (length rs) * (4 * length rs) ≤ 2 ^ 21 * (4 * 2 ^ 20) = mul-le-mul {n₂ = 2 ^ 21} {m₂ = 4 * 2 ^ 20} (omega (arith, ready.few)) (omega (arith, ready.few)) in
      rw (m, l) (record { bit = s.bit; passes = omega (arith, s.passes, f.passes-few, ready.few); looks = omega (arith, s.looks, f.looks-few) })
