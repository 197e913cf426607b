-- The filled table of the live pairs is the list's filled table over them.
use mathlib.Core.Path.{◌≡◌, refl, sym, ap, ap₂, ◌∙◌, subst}
use mathlib.Core.Bool.{Bool, true, false, cond}
use mathlib.Core.List.{List, [], ◌∷◌}
use Prim.Native.Nat.{ℕ, zero, suc, ◌+◌, ◌-◌, ◌*◌, ◌%◌, ◌^◌, ◌≤◌, ◌<◌, min}
use native.Mathlib.Nat.{add-zero, lt_of_lt_of_le}
use native.Mathlib.Numerals.{add-one}
use native.Mathlib.Decide.{dec_lt}
use native.Mathlib.Omega.{arith}
use lib.Bits.{bit_xor, and_zero_l}
use lib.Dec.{eqb}
use lib.ListN.{length, get_or, drop, length-set, drop_of_length-le}
use lib.Pow.{pow_mono, pow_pos}
use lib.Seq.{ext_get_or, get_or-set_same, get_or-set_other}
use Rattle.sets.specs.Sets.{has, flip as turn, size, total, states_from}
use Rattle.sets.proofs.Members.{has-none}
use Rattle.sets.proofs.Totals.{total-same}
use Rattle.sets.proofs.Size.{size-total, none-size}
use Rattle.sets.proofs.SizeMembers.{size_few}
use Rattle.rules.specs.Requirements.{met_count}
use Rattle.rules.specs.declared.Requirement.{Requirement}
use Rattle.move_table.specs.Moves.{filled}
use Rattle.move_table.proofs.Shows.{length-filled}
use Rattle.move_halves.specs.Halves.{ones, zeros}
use Rattle.move_halves.proofs.Modulo.{plus, cancel, sums}
use Rattle.move_halves.proofs.Sums.{over}
use Rattle.move_families.proofs.Lists.{Fits}
use Rattle.move_families.proofs.Whole.{same-level}
use Rattle.families.proofs.Walk.{cons-left}
use Rattle.move_families.proofs.Filling.{filled-level, filled-fits}
use Rattle.move_pairs.specs.Pairs.{live_pairs, like_of, unlike_of, partners_of, pairs_added}
use Rattle.move_pairs.proofs.Partners.{pairs_among, pairs_of, Partners}
use Rattle.move_pairs.proofs.Pair.{unlike}
use Rattle.move_pairs.proofs.Flips.{pairs-good}
use Rattle.move_pairs.proofs.Changes.{difference, unlike-at, parts-lt, parts-size, flip-in, flip-out, nobody-past, set-fits}
use Rattle.move_pairs.proofs.Agreed.{partners_by, partners-at, partners-length, partners-table, partners-pairs}

-- the states from i on, of which these are the partners
unfoldable pub pairs_filled : ℕ → ℕ → List ℕ → List ℕ → List ℕ
pairs_filled b i [] t = t
pairs_filled b i (p ∷ ps) t = pairs_filled b (suc i) ps (pairs_added b i p t)

size-nobody : size 0 ≡ 0
size-nobody = none-size 0 0 (pow_pos 0) (λ s _. has-none s)

like-size : (b k : ℕ) → (size (like_of 0 b k) ≡ 0) × (size (unlike_of 0 b k) ≡ 0)
like-size b k = go (eqb (has b k) 1)
  where
    o : size (ones 0 b) ≡ 0
    o = ap size (and_zero_l b) ∙ size-nobody

    z : size (zeros 0 b) ≡ 0
    z = ap (λ (m : ℕ). size (bit_xor 0 m)) (and_zero_l b) ∙ size-nobody

    go : (u : Bool) → (size (cond u (ones 0 b) (zeros 0 b)) ≡ 0) × (size (cond u (zeros 0 b) (ones 0 b)) ≡ 0)
    go true = (o, z)
    go false = (z, o)

module _ (b : ℕ) where
  length_pairs : (i : ℕ) (ps t : List ℕ) → length (pairs_filled b i ps t) ≡ length t
  unfolding pairs_filled
  length_pairs i [] t = refl
  length_pairs i (p ∷ ps) t = length_pairs (suc i) ps (pairs_added b i p t) ∙ length-set t i _

  pairs-fits : (i : ℕ) (ps t : List ℕ) → Fits t → Fits (pairs_filled b i ps t)
  unfolding pairs_filled
  pairs-fits i [] t h = h
  pairs-fits i (p ∷ ps) t h = pairs-fits (suc i) ps (pairs_added b i p t) (set-fits t i _ h (omega arith))

  -- a state below i is done, and is left as it is
  below : (k i : ℕ) (ps t : List ℕ) → k < i → get_or (pairs_filled b i ps t) k 0 ≡ get_or t k 0
  unfolding pairs_filled
  below k i [] t h = refl
  below k i (p ∷ ps) t h = below k (suc i) ps (pairs_added b i p t) (omega arith) ∙ get_or-set_other t i k _ 0 (λ z. omega arith)

  -- state i + d gains by its partners of its value, and loses by the others
  level : (d i : ℕ) (ps t : List ℕ) → ((j : ℕ) → get_or ps j 0 < 2 ^ 64) → i + d < length t
      → (get_or (pairs_filled b i ps t) (i + d) 0 + size (unlike_of (get_or ps d 0) b (i + d))) % 2 ^ 32 ≡ (get_or t (i + d) 0 + size (like_of (get_or ps d 0) b (i + d))) % 2 ^ 32
  unfolding pairs_filled
  level d i [] t w l = ap (λ (x : ℕ). (get_or t (i + d) 0 + x) % 2 ^ 32) ((like-size b (i + d)).1 ∙ sym (like-size b (i + d)).0)
  level zero i (p ∷ ps) t w l =
      let e : i + 0 ≡ i = add-zero i in
      let v : ℕ = (get_or t i 0 + (size (like_of p b i) + (2 ^ 32 - size (unlike_of p b i))) % 2 ^ 32) % 2 ^ 32 in
      rw e
      (ap (λ (x : ℕ). (x + size (unlike_of p b i)) % 2 ^ 32) (below i (suc i) ps (pairs_added b i p t) (omega arith) ∙ get_or-set_same t i v 0 (omega arith))
      ∙ difference (get_or t i 0) v (size (like_of p b i)) (size (unlike_of p b i)) (omega (arith, size_few 64 (unlike_of p b i) (parts-lt p b i 0 64 (w 0)).1)) refl)
  level (suc d) i (p ∷ ps) t w l =
      let e : i + suc d ≡ suc i + d = omega arith in
      rw e
      (level d (suc i) ps (pairs_added b i p t) (λ j. w (suc j)) (omega (arith, length-set t i ((get_or t i 0 + (size (like_of p b i) + (2 ^ 32 - size (unlike_of p b i))) % 2 ^ 32) % 2 ^ 32)))
      ∙ ap (λ (x : ℕ). (x + size (like_of (get_or ps d 0) b (suc i + d))) % 2 ^ 32) (get_or-set_other t i (suc i + d) _ 0 (λ z. omega arith)))

-- ---- the list's table

module _ (ps : List ℕ) (table : Partners ps) (b : ℕ) (hb : b < 2 ^ 64) (t : List ℕ) (fit : Fits t) where
  each : (k : ℕ) → k < length t → get_or (pairs_filled b 0 ps t) k 0 ≡ get_or (filled (pairs_of ps) b t) k 0
  unfolding pairs_of
  each k l =
      let n : ℕ = 64 + length t in
      let wide : 64 ≤ n = omega arith in
      let hk : k < n = omega arith in
      let e : 0 + k ≡ k = omega arith in
      let rs = pairs_among ps (states_from 0 64) in
      let x : (get_or (pairs_filled b 0 ps t) k 0 + size (unlike_of (get_or ps k 0) b k)) % 2 ^ 32 ≡ (get_or t k 0 + size (like_of (get_or ps k 0) b k)) % 2 ^ 32 =
      subst (λ (j : ℕ). (get_or (pairs_filled b 0 ps t) j 0 + size (unlike_of (get_or ps k 0) b j)) % 2 ^ 32 ≡ (get_or t j 0 + size (like_of (get_or ps k 0) b j)) % 2 ^ 32) e
      (level b k 0 ps t table.words (omega arith)) in
      same-level (get_or (pairs_filled b 0 ps t) k 0) (get_or (filled rs b t) k 0) (met_count n rs b) (pairs-fits b 0 ps t fit k) (filled-fits rs b t fit k)
      (close (get_or t k 0) (get_or (pairs_filled b 0 ps t) k 0) (met_count n rs b) (met_count n rs (turn b k)) (size (like_of (get_or ps k 0) b k)) (size (unlike_of (get_or ps k 0) b k)) (gain n wide (dec_lt k 64)) x
      ∙ sym (filled-level n b k (lt_of_lt_of_le hb (pow_mono wide)) hk rs (pairs-good n ps table 64 0 (omega arith)) t l))
    where
      close : (t v m m' x y : ℕ) → m' + y ≡ m + x → (v + y) % 2 ^ 32 ≡ (t + x) % 2 ^ 32 → (v + m) % 2 ^ 32 ≡ (t + m') % 2 ^ 32
      close t v m m' x y e h =
          let i : v + m + y ≡ v + y + m = omega arith in
          let j : t + m' + y ≡ t + x + m = omega arith in
          cancel (v + m) (t + m') y (sums i j (plus (v + y) (t + x) m h))

      gain : (n : ℕ) → 64 ≤ n → Dec (k < 64)
          → met_count n (pairs_among ps (states_from 0 64)) (turn b k) + size (unlike_of (get_or ps k 0) b k) ≡ met_count n (pairs_among ps (states_from 0 64)) b + size (like_of (get_or ps k 0) b k)
      gain n wide (yes h) =
          let d : total 64 (over (get_or ps k 0) (unlike b k)) ≡ size (unlike_of (get_or ps k 0) b k) =
          total-same 64 (over (get_or ps k 0) (unlike b k)) (has (unlike_of (get_or ps k 0) b k)) (λ j _. sym (unlike-at (get_or ps k 0) b k j))
          ∙ sym (size-total 64 (unlike_of (get_or ps k 0) b k) (parts-lt (get_or ps k 0) b k 0 64 (table.words k)).1) in
          last (met_count n (pairs_among ps (states_from 0 64)) (turn b k)) (met_count n (pairs_among ps (states_from 0 64)) b) (total 64 (over (get_or ps k 0) (unlike b k))) (size (unlike_of (get_or ps k 0) b k)) (size (like_of (get_or ps k 0) b k)) (size (get_or ps k 0))
          (flip-in n wide ps table b k h b k h) d (parts-size (get_or ps k 0) b k 0 (table.words k))
        where
          last : (m' m d y x z : ℕ) → m' + 2 * d ≡ m + z → d ≡ y → x + y ≡ z → m' + y ≡ m + x
          last m' m d y x z e f g = omega arith
      gain n wide (no h) =
          let z = nobody-past ps table k (omega arith) in
          ap₂ (λ (m p : ℕ). m + size (unlike_of p b k)) (flip-out n wide ps table b 0 (omega arith) b k (omega arith)) z
          ∙ ap (λ (y : ℕ). met_count n (pairs_among ps (states_from 0 64)) b + y) ((like-size b k).1 ∙ sym (like-size b k).0)
          ∙ sym (ap (λ (p : ℕ). met_count n (pairs_among ps (states_from 0 64)) b + size (like_of p b k)) z)

  filled-pairs : pairs_filled b 0 ps t ≡ filled (pairs_of ps) b t
  filled-pairs =
      ext_get_or 0 (pairs_filled b 0 ps t) (filled (pairs_of ps) b t) (length_pairs b 0 ps t ∙ sym (length-filled (pairs_of ps) b t)) (λ k l. each k (omega (arith, length_pairs b 0 ps t)))

-- ---- the loop: the states from i on are still to be put on

module _ (n : ℕ) (bits : List ℕ) (b : ℕ) where
  unfoldable pub filledFrom : ℕ → List ℕ → List ℕ
  unfolding pairs_filled partners_by
  filledFrom i t = pairs_filled b i (drop i (partners_by n bits)) t

  pub filled-first : (t : List ℕ) → b < 2 ^ 64 → Fits t → filledFrom 0 t ≡ filled (live_pairs n bits) b t
  unfolding filledFrom
  filled-first t hb fit = filled-pairs (partners_by n bits) (partners-table n bits) b hb t fit ∙ ap (λ (rs : List Requirement). filled rs b t) (partners-pairs n bits)

  pub filled_more : (i : ℕ) (t : List ℕ) → i < min n 64 → filledFrom i t ≡ filledFrom (i + 1) (pairs_added b i (partners_of n bits i) t)
  unfolding filledFrom pairs_filled
  filled_more i t h =
      let l : i < length (partners_by n bits) = omega (arith, partners-length n bits) in
      ap (λ (l : List ℕ). pairs_filled b i l t) (cons-left (partners_by n bits) i l)
      ∙ ap₂ (λ (k p : ℕ). pairs_filled b k (drop (i + 1) (partners_by n bits)) (pairs_added b i p t)) (sym (add-one i)) (partners-at n bits i)

  pub filled-end : (i : ℕ) (t : List ℕ) → min n 64 ≤ i → filledFrom i t ≡ t
  unfolding filledFrom pairs_filled
  filled-end i t h =
      let l : length (partners_by n bits) ≤ i = omega (arith, partners-length n bits) in
      ap (λ (l : List ℕ). pairs_filled b i l t) (drop_of_length-le (partners_by n bits) {i = i} l)
