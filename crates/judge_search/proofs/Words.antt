-- What rows say together, and sets of rows as words, step by step as loops have them.
use mathlib.Core.Path.{◌≡◌, refl, sym, ap, ap₂, ◌∙◌}
use mathlib.Core.Bool.{Bool, true, false, ◌&&◌, ◌||◌, not, cond}
use mathlib.Core.List.{List, [], ◌∷◌}
use Prim.Native.Nat.{ℕ, zero, suc, ◌+◌, ◌*◌, ◌-◌, ◌/◌, ◌%◌, ◌^◌, ◌≤◌, ◌<◌, min, max}
use native.Mathlib.Nat.{pow-suc}
use native.Mathlib.Numerals.{add-one}
use native.Mathlib.Omega.{arith}
use lib.Arith.{lt-one}
use lib.Bits.{bit_and, bit_or, bit_xor, xor_shr, xor_zero_r, and_mask, or_lt, xor_lt, and_lt}
use lib.Count.{count_trailing_zeros, under}
use lib.Dec.{eqb}
use lib.ListN.{length, get_or}
use lib.Pointwise.{pointwise}
use borrow.Author.Tests.{ne_eqb}
use Rattle.sets.specs.Sets.{has, flip, every, without_lowest}
use Rattle.sets.proofs.Every.{every-same}
use Rattle.sets.proofs.Members.{has-lt, has-and, has-or, has-xor, has-not, has-zero, has-flip, has-flip-other, half_lt, not-lt}
use Rattle.sets.proofs.LowestMember.{without_at}
use Rattle.sharing.proofs.Inputs.{none-low}
use Rattle.judge_search.specs.Search.{differ, differs, said_with, gathered_word, gathered_words, kept_words, sure_words, same_words}
use Rattle.judge_search.specs.declared.Said.{Said}

-- ---- places that are not as meant

-- one place: f free, n meant to be 1, o said to be 1, d said to be a dash
one_way : (f n o d : ℕ) → f < 2 → n < 2 → o < 2 → d < 2 → eqb (min (max ((o + n) % 2) d) (max (1 - f) n)) 0 ≡ ((eqb f 1 && eqb n 0) || (eqb o n && eqb d 0))
one_way zero zero zero zero a b c e = refl
one_way zero zero zero (suc zero) a b c e = refl
one_way zero zero (suc zero) zero a b c e = refl
one_way zero zero (suc zero) (suc zero) a b c e = refl
one_way zero (suc zero) zero zero a b c e = refl
one_way zero (suc zero) zero (suc zero) a b c e = refl
one_way zero (suc zero) (suc zero) zero a b c e = refl
one_way zero (suc zero) (suc zero) (suc zero) a b c e = refl
one_way (suc zero) zero zero zero a b c e = refl
one_way (suc zero) zero zero (suc zero) a b c e = refl
one_way (suc zero) zero (suc zero) zero a b c e = refl
one_way (suc zero) zero (suc zero) (suc zero) a b c e = refl
one_way (suc zero) (suc zero) zero zero a b c e = refl
one_way (suc zero) (suc zero) zero (suc zero) a b c e = refl
one_way (suc zero) (suc zero) (suc zero) zero a b c e = refl
one_way (suc zero) (suc zero) (suc zero) (suc zero) a b c e = refl
one_way (suc (suc f)) n o d a b c e = absurd (omega arith)
one_way zero (suc (suc n)) o d a b c e = absurd (omega arith)
one_way (suc zero) (suc (suc n)) o d a b c e = absurd (omega arith)
one_way zero zero (suc (suc o)) d a b c e = absurd (omega arith)
one_way zero (suc zero) (suc (suc o)) d a b c e = absurd (omega arith)
one_way (suc zero) zero (suc (suc o)) d a b c e = absurd (omega arith)
one_way (suc zero) (suc zero) (suc (suc o)) d a b c e = absurd (omega arith)
one_way zero zero zero (suc (suc d)) a b c e = absurd (omega arith)
one_way zero zero (suc zero) (suc (suc d)) a b c e = absurd (omega arith)
one_way zero (suc zero) zero (suc (suc d)) a b c e = absurd (omega arith)
one_way zero (suc zero) (suc zero) (suc (suc d)) a b c e = absurd (omega arith)
one_way (suc zero) zero zero (suc (suc d)) a b c e = absurd (omega arith)
one_way (suc zero) zero (suc zero) (suc (suc d)) a b c e = absurd (omega arith)
one_way (suc zero) (suc zero) zero (suc (suc d)) a b c e = absurd (omega arith)
one_way (suc zero) (suc zero) (suc zero) (suc (suc d)) a b c e = absurd (omega arith)

module _ (on free ones dashes : ℕ) (hn : on < 2 ^ 64) (hf : free < 2 ^ 64) (ho : ones < 2 ^ 64) (hd : dashes < 2 ^ 64) where
  -- the machine's mask
  abbrev unlike : ℕ
  unlike = bit_and (bit_or (bit_xor ones on) dashes) (bit_or ((2 ^ 64 - 1) - free) on)

  unlike-at : (s : ℕ) → s < 64 → eqb (has unlike s) 0 ≡ ((eqb (has free s) 1 && eqb (has on s) 0) || (eqb (has ones s) (has on s) && eqb (has dashes s) 0))
  unlike-at s l =
      rw (has-and (bit_or (bit_xor ones on) dashes) (bit_or ((2 ^ 64 - 1) - free) on) s, has-or (bit_xor ones on) dashes s, has-or ((2 ^ 64 - 1) - free) on s, has-xor ones on s, has-not 64 free s hf l)
      (one_way (has free s) (has on s) (has ones s) (has dashes s) (has-lt free s) (has-lt on s) (has-lt ones s) (has-lt dashes s))

  unlike-lt : unlike < 2 ^ 64
  unlike-lt = and_lt 64 _ _ (or_lt 64 (bit_xor ones on) dashes (xor_lt 64 ones on ho hn) hd) (or_lt 64 ((2 ^ 64 - 1) - free) on (not-lt 64 free) hn)

  pub unlike-mask : not (eqb unlike 0) ≡ differ on free ones dashes
  unfolding differ
  unlike-mask =
      let m : bit_and unlike (2 ^ 64 - 1) ≡ unlike = and_mask unlike 64 ∙ omega (arith, unlike-lt) in
      ap not (ap (λ (u : ℕ). eqb u 0) (sym m) ∙ none-low 64 unlike ∙ every-same 64 _ _ unlike-at)

module _ (l c : Said) where
  pub differs-outputs : differ l.c l.d c.c c.d ≡ true → differs l c ≡ true
  unfolding differs
  differs-outputs e = rw e

  pub differs-unnamed : differ l.c l.d c.c c.d ≡ false → l.a ≡ 0 → differs l c ≡ false
  unfolding differs
  differs-unnamed e z = rw (e, z)

  pub differs-named : {b : Bool} → differ l.c l.d c.c c.d ≡ false → (l.a ≡ 0 → ⊥) → b ≡ differ l.b 0 c.a c.b → b ≡ differs l c
  unfolding differs
  differs-named e o q = q ∙ rw (e, ne_eqb l.a 0 o)

-- ---- the rows of a set, the lowest first

-- none
pub gathered_none : (says : List ℕ) (r k : ℕ) (s : Said) → gathered_word says r k 0 s ≡ s
unfolding gathered_word
gathered_none says r zero s = refl
gathered_none says r (suc k) s = gathered_none says (suc r) k s

-- a digit turned over, above the lowest
flip-half : (m k : ℕ) → flip m (suc k) / 2 ≡ flip (m / 2) k
flip-half m k =
    let u : 2 ^ suc k / 2 ≡ 2 ^ k = ap (λ (x : ℕ). x / 2) (pow-suc 2 k) ∙ omega arith in
    xor_shr m (2 ^ suc k) 1 ∙ ap (λ (x : ℕ). bit_xor (m / 2) x) u

flip_low : (m k : ℕ) → flip m (suc k) % 2 ≡ m % 2
flip_low m k = sym (has-zero (flip m (suc k))) ∙ has-flip-other m (suc k) 0 (λ e. omega arith) ∙ has-zero m

-- or the lowest
flip-first : (m : ℕ) → m % 2 ≡ 1 → (flip m 0 % 2 ≡ 0) × (flip m 0 / 2 ≡ m / 2)
flip-first m e =
    (sym (has-zero (flip m 0)) ∙ has-flip m 0 ∙ omega (arith, has-zero m), xor_shr m 1 1 ∙ xor_zero_r (m / 2))

-- the lowest row's first, and the others
gathered-lowest : (says : List ℕ) (k r m : ℕ) (s : Said) → m < 2 ^ k → 0 < m
    → gathered_word says r k m s ≡ gathered_word says r k (flip m (count_trailing_zeros k m)) (said_with says (r + count_trailing_zeros k m) s)
unfolding gathered_word count_trailing_zeros
gathered-lowest says zero r m s h o = absurd (omega (arith, lt-one h))
gathered-lowest says (suc k) r m s h o = go (m % 2) refl (λ p. gathered-lowest says k (suc r) (m / 2) s (half_lt k h) p)
  where
    z : ℕ
    z = count_trailing_zeros k (m / 2)

    go : (d : ℕ) → m % 2 ≡ d → (0 < m / 2 → gathered_word says (suc r) k (m / 2) s ≡ gathered_word says (suc r) k (flip (m / 2) z) (said_with says (suc r + z) s))
        → gathered_word says (suc r) k (m / 2) (cond (eqb d 1) (said_with says r s) s)
        ≡ gathered_word says (suc r) k (flip m (under d z) / 2) (cond (eqb (flip m (under d z) % 2) 1) (said_with says r (said_with says (r + under d z) s)) (said_with says (r + under d z) s))
    go zero e later =
        let at : suc r + z ≡ r + suc z = omega arith in
        later (omega arith) ∙ rw (flip-half m z, flip_low m z, e, at)
    go (suc zero) e later = let f = flip-first m e in let at : r ≡ r + 0 = omega arith in rw (f.0, f.1, ← at)
    go (suc (suc d)) e later = absurd (omega arith)

pub gathered-more : (says : List ℕ) (r m : ℕ) (s : Said) {z n : ℕ} {t : Said} → m < 2 ^ 64 → (m ≡ 0 → ⊥) → z ≡ count_trailing_zeros 64 m → n ≡ without_lowest m
    → t ≡ said_with says (r + z) s → gathered_word says r 64 n t ≡ gathered_word says r 64 m s
gathered-more says r m s {z} {n} {t} h o e f g =
    ap₂ (gathered_word says r 64) (without_at m z n o e f ∙ ap (flip m) e) (g ∙ ap (λ (x : ℕ). said_with says (r + x) s) e)
    ∙ sym (gathered-lowest says 64 r m s h (omega arith))

-- ---- the rows of words

module _ (says rows : List ℕ) where
  pub words-next : (q to : ℕ) (s : Said) {t : Said} → q < to → t ≡ gathered_word says (q * 64) 64 (get_or rows q 0) s
      → gathered_words says rows (q + 1) (to - (q + 1)) t ≡ gathered_words says rows q (to - q) s
  unfolding gathered_words
  words-next q to s h e =
      let more : to - q ≡ suc (to - (q + 1)) = omega arith in
      rw (more, e) (ap (λ (p : ℕ). gathered_words says rows p (to - (q + 1)) (gathered_word says (q * 64) 64 (get_or rows q 0) s)) (add-one q))

  pub words-over : (q to : ℕ) (s : Said) → to ≤ q → gathered_words says rows q (to - q) s ≡ s
  unfolding gathered_words
  words-over q to s h = let none : to - q ≡ 0 = omega arith in rw none

-- ---- two sets of rows

every-place : (n : ℕ) (a b : List ℕ) → length a ≡ n → length b ≡ n → pointwise eqb a b ≡ every n (λ q. eqb (get_or a q 0) (get_or b q 0))
unfolding every
every-place zero [] [] h k = refl
every-place zero (x ∷ a) b h k = absurd (omega arith)
every-place zero [] (y ∷ b) h k = absurd (omega arith)
every-place (suc n) [] b h k = absurd (omega arith)
every-place (suc n) (x ∷ a) [] h k = absurd (omega arith)
every-place (suc n) (x ∷ a) (y ∷ b) h k = ap (λ (t : Bool). eqb x y && t) (every-place n a b (omega arith) (omega arith))

pub same-is : (a b : List ℕ) → length a ≡ 7 → length b ≡ 7 → pointwise eqb a b ≡ same_words a b
unfolding same_words
same-is = every-place 7

-- of a set, the rows that let both digits stand, with an input more
module _ (cols : List ℕ) where
  pub sure_next : (j i : ℕ) (rows : List ℕ) {low sure : List ℕ} → j < i → low ≡ kept_words rows cols (j * 14) → sure ≡ kept_words low cols (j * 14 + 7)
      → sure_words sure cols ((j + 1) * 14) (i - (j + 1)) ≡ sure_words rows cols (j * 14) (i - j)
  unfolding sure_words
  sure_next j i rows h e f =
      let more : i - j ≡ suc (i - (j + 1)) = omega arith in
      let at : (j + 1) * 14 ≡ j * 14 + 14 = omega arith in
      rw (more, at) (ap (λ (s : List ℕ). sure_words s cols (j * 14 + 14) (i - (j + 1))) (f ∙ ap (λ (l : List ℕ). kept_words l cols (j * 14 + 7)) e))

  pub sure-over : (j i : ℕ) (rows : List ℕ) → i ≤ j → sure_words rows cols (j * 14) (i - j) ≡ rows
  unfolding sure_words
  sure-over j i rows h = let none : i - j ≡ 0 = omega arith in rw none
