-- A bit of some codes, state by state from the last.
use mathlib.Core.Path.{◌≡◌, sym, ap, ap₂, ◌∙◌}
use mathlib.Core.List.{List, [], ◌∷◌}
use Prim.Native.Nat.{ℕ, suc, ◌+◌, ◌*◌, ◌-◌, ◌^◌, ◌≤◌, ◌<◌}
use native.Mathlib.Nat.{pow-suc}
use native.Mathlib.Omega.{arith}
use lib.ListN.{length, take, drop, get_or, length-take, length-drop, drop_of_length-le}
use lib.Pow.{pow_mono}
use lib.Seq.{drop-cons, get_or-take}
use Rattle.sets.specs.Sets.{has}
use Rattle.sets.proofs.Members.{has-lt}
use Rattle.rules.specs.CheckTexts.{bit_in}

-- ---- one bit, from the last state

bit-lt : (k : ℕ) (cs : List ℕ) → bit_in k cs < 2 ^ length cs
unfolding bit_in
bit-lt k [] = omega arith
bit-lt k (c ∷ cs) = omega (arith, bit-lt k cs, has-lt c k, pow-suc 2 (length cs))

module _ (codes : List ℕ) (n k s : ℕ) (long : length codes ≡ 64) (few : n ≤ 64) (some : 0 < s) (within : s ≤ n) where
  pub bit-room : {m : ℕ} → m ≡ bit_in k (drop s (take n codes)) → m * 2 + 1 < 2 ^ 64
  bit-room e =
      let l : length (drop s (take n codes)) ≡ n - s = length-drop s (take n codes) ∙ omega (arith, length-take n codes) in
      let le : suc (n - s) ≤ 64 = omega arith in
      let h : 2 ^ suc (n - s) ≤ 2 ^ 64 = pow_mono le in
      let t : bit_in k (drop s (take n codes)) < 2 ^ (n - s) = rw l at (bit-lt k (drop s (take n codes))) in
      omega (arith, e, t, pow-suc 2 (n - s), h)

  pub bit-back : {m d : ℕ} → m ≡ bit_in k (drop s (take n codes)) → d ≡ has (get_or codes (s - 1) 0) k → m * 2 + d ≡ bit_in k (drop (s - 1) (take n codes))
  unfolding bit_in
  bit-back e f =
      let q : suc (s - 1) ≡ s = omega arith in
      let in_take : s - 1 < length (take n codes) = omega (arith, length-take n codes) in
      ap₂ (λ (a b : ℕ). a * 2 + b) (e ∙ ap (λ (i : ℕ). bit_in k (drop i (take n codes))) (sym q)) (f ∙ ap (λ (c : ℕ). has c k) (sym (get_or-take n codes (s - 1) 0 (omega arith))))
      ∙ sym (ap (bit_in k) (drop-cons (take n codes) (s - 1) 0 in_take))

pub bit-end : (codes : List ℕ) (n k : ℕ) → length codes ≡ 64 → n ≤ 64 → 0 ≡ bit_in k (drop n (take n codes))
unfolding bit_in
bit-end codes n k long few = sym (ap (bit_in k) (drop_of_length-le (take n codes) {i = n} (omega (arith, length-take n codes))))
