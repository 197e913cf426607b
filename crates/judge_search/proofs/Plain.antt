-- The search finds the lowest input of all that fails: a part of the inputs is its two halves, and halves that leave the same rows are alike.
use Rattle.std.specs.Prelude.{Option, Some, None}
use mathlib.Core.Path.{◌≡◌, refl, sym, ap, ap₂, ◌∙◌}
use mathlib.Core.Bool.{Bool, true, false, ◌&&◌, not, cond}
use mathlib.Core.List.{List, map}
use Prim.Native.Nat.{ℕ, zero, suc, ◌+◌, ◌*◌, ◌/◌, ◌%◌, ◌^◌, ◌≤◌, ◌<◌, min}
use native.Mathlib.Nat.{pow-suc, zero-add, le-div_iff_mul-le, div-lt_iff_lt-mul}
use native.Mathlib.Omega.{arith}
use lib.Bits.{bit_and, bit_xor, differ, and_step, and_zero_l, xor_step, xor_zero_r}
use lib.Dec.{eqb}
use lib.ListN.{length, get_or, length-map}
use lib.Seq.{ext_get_or}
use borrow.Author.Tests.{eqb-true}
use Rattle.sets.specs.Sets.{has, states_from}
use Rattle.sets.proofs.Every.{every-at}
use Rattle.rules.specs.Text.{digit}
use Rattle.rules.specs.Check.{lowest_from}
use Rattle.rules.proofs.Most.{states-length}
use Rattle.rules.proofs.Agreeing.{each-state}
use Rattle.judge_search.specs.Rows.{lets, lets_from, word_from, words_of, column_word, columns}
use Rattle.judge_search.specs.Search.{fails_over, kept_words, turned_words, same_words, or_else, searched}
use Rattle.judge_search.specs.declared.Said.{Said}
use Rattle.judge_search.proofs.Columns.{rest-digits, last-digit}
use Rattle.judge_search.proofs.Halves.{power_pos}

-- ---- the lowest of some numbers

pub lowest-same : (p q : ℕ → Bool) (a k : ℕ) → ((x : ℕ) → a ≤ x → x < a + k → p x ≡ q x) → lowest_from p a k ≡ lowest_from q a k
unfolding lowest_from
lowest-same p q a zero h = refl
lowest-same p q a (suc k) h =
    let rest = lowest-same p q (suc a) k (λ x l r. h x (omega arith) (omega arith)) in
    ap₂ (λ (b : Bool) (r : Option ℕ). elim b [ true ↦ Some a | false ↦ r ]) (h a (omega arith) (omega arith)) rest

pub lowest-parts : (p : ℕ → Bool) (a k m : ℕ) → lowest_from p a (k + m) ≡ or_else (lowest_from p a k) (lowest_from p (a + k) m)
unfolding lowest_from
lowest-parts p a zero m = let e : a ≡ a + 0 = omega arith in let f : 0 + m ≡ m = omega arith in ap₂ (lowest_from p) e f
lowest-parts p a (suc k) m =
    let e : suc a + k ≡ a + suc k = omega arith in
    let n : suc k + m ≡ suc (k + m) = omega arith in
    ap (lowest_from p a) n
    ∙ ap (λ (r : Option ℕ). elim (p a) [ true ↦ Some a | false ↦ r ]) (lowest-parts p (suc a) k m ∙ ap (λ (b : ℕ). or_else (lowest_from p (suc a) k) (lowest_from p b m)) e)
    ∙ go (p a) (lowest_from p (suc a) k)
  where
    go : (b : Bool) (x : Option ℕ) → elim b [ true ↦ Some a | false ↦ or_else x (lowest_from p (a + suc k) m) ] ≡ or_else (elim b [ true ↦ Some a | false ↦ x ]) (lowest_from p (a + suc k) m)
    go true x = refl
    go false x = refl

-- ---- words of rows

pub word_same : (p q : ℕ → Bool) (a k : ℕ) → ((r : ℕ) → p r ≡ q r) → word_from p a k ≡ word_from q a k
unfolding word_from
word_same p q a zero h = refl
word_same p q a (suc k) h = ap₂ (λ (w : ℕ) (b : Bool). w * 2 + digit b) (word_same p q (suc a) k h) (h a)

-- two words row by row, by a way of two masks that goes digit by digit
word-by : (way : ℕ → ℕ → ℕ) (one : Bool → Bool → Bool) → way 0 0 ≡ 0 → ((x y : ℕ) (b c : Bool) → way (x * 2 + digit b) (y * 2 + digit c) ≡ way x y * 2 + digit (one b c))
    → (p q : ℕ → Bool) (a k : ℕ) → way (word_from p a k) (word_from q a k) ≡ word_from (λ r. one (p r) (q r)) a k
unfolding word_from
word-by way one z step p q a zero = z
word-by way one z step p q a (suc k) = step (word_from p (suc a) k) (word_from q (suc a) k) (p a) (q a) ∙ ap (λ (w : ℕ). w * 2 + digit (one (p a) (q a))) (word-by way one z step p q (suc a) k)

word-both : (p q : ℕ → Bool) (a k : ℕ) → bit_and (word_from p a k) (word_from q a k) ≡ word_from (λ r. p r && q r) a k
word-both = word-by bit_and ◌&&◌ (and_zero_l 0) both
  where
    both : (x y : ℕ) (b c : Bool) → bit_and (x * 2 + digit b) (y * 2 + digit c) ≡ bit_and x y * 2 + digit (b && c)
    both x y b c = and_step (x * 2 + digit b) (y * 2 + digit c) ∙ rw (rest-digits x b, rest-digits y c, last-digit x b, last-digit y c) (ap (λ (d : ℕ). bit_and x y * 2 + d) (least b c))
      where
        least : (b c : Bool) → min (digit b) (digit c) ≡ digit (b && c)
        least true true = refl
        least true false = refl
        least false true = refl
        least false false = refl

-- turned over where the other is
abbrev pub turn : Bool → Bool → Bool
turn b c = cond c (not b) b

word-turned : (p q : ℕ → Bool) (a k : ℕ) → bit_xor (word_from p a k) (word_from q a k) ≡ word_from (λ r. turn (p r) (q r)) a k
word-turned = word-by bit_xor turn (xor_zero_r 0) over
  where
    over : (x y : ℕ) (b c : Bool) → bit_xor (x * 2 + digit b) (y * 2 + digit c) ≡ bit_xor x y * 2 + digit (turn b c)
    over x y b c = xor_step (x * 2 + digit b) (y * 2 + digit c) ∙ rw (rest-digits x b, rest-digits y c, last-digit x b, last-digit y c) (ap (λ (d : ℕ). bit_xor x y * 2 + d) (other b c))
      where
        other : (b c : Bool) → differ (digit b) (digit c) ≡ digit (turn b c)
        other true true = refl
        other true false = refl
        other false true = refl
        other false false = refl

abbrev words : (ℕ → ℕ) → List ℕ
words f = map f (states_from 0 7)

words-at : (f : ℕ → ℕ) (q : ℕ) → q < 7 → get_or (words f) q 0 ≡ f q
words-at f q h = each-state f 0 7 q h ∙ ap f (zero-add q)

words-length : (f : ℕ → ℕ) → length (words f) ≡ 7
words-length f = length-map (states_from 0 7) f ∙ states-length 0 7

words-like : (f g : ℕ → ℕ) → ((q : ℕ) → q < 7 → f q ≡ g q) → words f ≡ words g
words-like f g h =
    ext_get_or 0 (words f) (words g) (words-length f ∙ sym (words-length g))
    (λ q b. let c : q < 7 = omega (arith, words-length f) in words-at f q c ∙ h q c ∙ sym (words-at g q c))

pub rows_same : (p q : ℕ → Bool) → ((r : ℕ) → p r ≡ q r) → words_of p ≡ words_of q
unfolding words_of
rows_same p q h = words-like _ _ (λ k l. word_same p q (k * 64) 64 h)

-- a set of rows with those of another turned over
pub turned_rows : (p q : ℕ → Bool) → turned_words (words_of p) (words_of q) ≡ words_of (λ r. turn (p r) (q r))
unfolding turned_words words_of
turned_rows p q =
    words-like _ _
    (λ k h. ap₂ bit_xor (words-at (λ k. word_from p (k * 64) 64) k h) (words-at (λ k. word_from q (k * 64) 64) k h) ∙ word-turned p q (k * 64) 64)

-- two sets of rows that are the same, word for word
same_rows : (p q : ℕ → Bool) → same_words (words_of p) (words_of q) ≡ true → words_of p ≡ words_of q
unfolding same_words words_of
same_rows p q e = go (λ k. word_from p (k * 64) 64) (λ k. word_from q (k * 64) 64) e
  where
    go : (f g : ℕ → ℕ) → same_words (words f) (words g) ≡ true → words f ≡ words g
    go f g e = words-like f g (λ q h. sym (words-at f q h) ∙ eqb-true _ _ (every-at 7 (λ q. eqb (get_or (words f) q 0) (get_or (words g) q 0)) e q h) ∙ words-at g q h)

-- ---- a column

module _ (fires : List ℕ) where
  column-at : (w : ℕ) → w < 224 → get_or (columns fires) w 0 ≡ column_word fires w
  unfolding columns
  column-at w h = each-state (column_word fires) 0 224 w h ∙ ap (column_word fires) (zero-add w)

  column-is : (j d q : ℕ) → j < 16 → d < 2 → q < 7 → get_or (columns fires) (j * 14 + d * 7 + q) 0 ≡ word_from (lets fires j d) (q * 64) 64
  unfolding column_word
  column-is j d q hj hd hq =
      let w : ℕ = j * 14 + d * 7 + q in
      let a : (j * 14 + d * 7 + q) / 14 ≡ j = omega arith in
      let b : (j * 14 + d * 7 + q) % 14 / 7 ≡ d = omega arith in
      let c : (j * 14 + d * 7 + q) % 7 ≡ q = omega arith in
      column-at (j * 14 + d * 7 + q) (omega arith) ∙ rw (a, b, c)

  -- what a digit leaves of a set of rows
  pub kept-rows : (p : ℕ → Bool) (j d : ℕ) → j < 16 → d < 2 → kept_words (words_of p) (columns fires) (j * 14 + d * 7) ≡ words_of (λ r. p r && lets fires j d r)
  unfolding kept_words words_of
  kept-rows p j d hj hd =
      words-like _ _
      (λ q h. ap₂ bit_and (words-at (λ q. word_from p (q * 64) 64) q h) (column-is j d q hj hd h) ∙ word-both p (lets fires j d) (q * 64) 64)

-- ---- where a part has none, it has none under any number

module _ (listing cover : Said) (says cols : List ℕ) where
  none_alike : (k at v u : ℕ) (rows : List ℕ) → searched listing cover says cols at k v rows ≡ None → searched listing cover says cols at k u rows ≡ None
  unfolding searched
  none_alike zero at v u rows e = go (fails_over listing cover says rows) e
    where
      go : (b : Bool) → cond b (Some v) None ≡ None → cond b (Some u) None ≡ None
      go true e = absurd (let z : ◌≡◌ {A = ℕ} 0 1 = cc in omega arith)
      go false e = refl
  none_alike (suc k) at v u rows e =
      go (searched listing cover says cols (at + 14) k (v * 2) low) (searched listing cover says cols (at + 14) k (u * 2) low) (same_words low high) (searched listing cover says cols (at + 14) k (v * 2 + 1) high) (searched listing cover says cols (at + 14) k (u * 2 + 1) high)
      (none_alike k (at + 14) (v * 2) (u * 2) low) (none_alike k (at + 14) (v * 2 + 1) (u * 2 + 1) high) e
    where
      low : List ℕ
      low = kept_words rows cols at

      high : List ℕ
      high = kept_words rows cols (at + 7)

      go : (a b : Option ℕ) (s : Bool) (c d : Option ℕ) → (a ≡ None → b ≡ None) → (c ≡ None → d ≡ None) → or_else a (cond s None c) ≡ None → or_else b (cond s None d) ≡ None
      go (Some x) b s c d f g e = absurd (let z : ◌≡◌ {A = ℕ} 0 1 = cc in omega arith)
      go None b true c d f g e = rw (f refl)
      go None b false c d f g e = rw (f refl) (g e)

-- ---- a digit of the numbers of a part

quotient : (u m x : ℕ) → 0 < m → u * m ≤ x → x < u * m + m → x / m ≡ u
quotient u m x o l h =
    let up : x / m < suc u = (div-lt_iff_lt-mul o).1 (let e : suc u * m ≡ u * m + m = omega arith in omega (arith, e)) in
    let down : u ≤ x / m = (le-div_iff_mul-le o).1 l in
    omega arith

pub part-digit : (u k x : ℕ) → u * 2 ^ k ≤ x → x < u * 2 ^ k + 2 ^ k → has x k ≡ u % 2
part-digit u k x l h = ap (λ (n : ℕ). n % 2) (quotient u (2 ^ k) x (power_pos k) l h)

-- ---- the two halves

module _ (listing cover : Said) (fires says : List ℕ) where
  abbrev cols : List ℕ
  cols = columns fires

  -- the rows of p that fire at the inputs from j on
  abbrev failing : (ℕ → Bool) → ℕ → ℕ → ℕ → Bool
  failing p j k x = fails_over listing cover says (words_of (λ r. p r && lets_from fires j k x r))

  -- with the digit of the input j known
  with-digit : (p : ℕ → Bool) (j k d x : ℕ) → has x k ≡ d → failing p j (suc k) x ≡ failing (λ r. p r && lets fires j d r) (suc j) k x
  unfolding lets_from
  with-digit p j k d x e = ap (fails_over listing cover says) (rows_same _ _ (λ r. ap (λ (n : ℕ). p r && (lets fires j n r && lets_from fires (suc j) k x r)) e ∙ grouped (p r) (lets fires j d r) (lets_from fires (suc j) k x r)))
    where
      grouped : (a b c : Bool) → (a && (b && c)) ≡ ((a && b) && c)
      grouped true b c = refl
      grouped false b c = refl

  module _ (p : ℕ → Bool) (j k v : ℕ) (few : j < 16) where
    abbrev low : List ℕ
    low = words_of (λ r. p r && lets fires j 0 r)

    abbrev high : List ℕ
    high = words_of (λ r. p r && lets fires j 1 r)

    abbrev first : Option ℕ
    first = searched listing cover says cols (suc j * 14) k (v * 2) low

    abbrev second : List ℕ → Option ℕ
    second rows = searched listing cover says cols (suc j * 14) k (v * 2 + 1) rows

    abbrev halves : ℕ → List ℕ → List ℕ → Option ℕ
    halves at l h = or_else (searched listing cover says cols at k (v * 2) l) (cond (same_words l h) None (searched listing cover says cols at k (v * 2 + 1) h))

    in_halves : searched listing cover says cols (j * 14) (suc k) v (words_of p) ≡ halves (suc j * 14) low high
    unfolding searched
    in_halves =
        let a : j * 14 ≡ j * 14 + 0 * 7 = omega arith in
        let b : j * 14 + 7 ≡ j * 14 + 1 * 7 = omega arith in
        let n : j * 14 + 14 ≡ suc j * 14 = omega arith in
        ap₂ (halves (j * 14 + 14)) (ap (kept_words (words_of p) cols) a ∙ kept-rows fires p j 0 few (omega arith)) (ap (kept_words (words_of p) cols) b ∙ kept-rows fires p j 1 few (omega arith))
        ∙ ap (λ (at : ℕ). halves at low high) n

    alike : same_words low high ≡ true → first ≡ None → second high ≡ None
    alike e z = ap second (sym (same_rows (λ r. p r && lets fires j 0 r) (λ r. p r && lets fires j 1 r) e)) ∙ none_alike listing cover says cols k (suc j * 14) (v * 2) (v * 2 + 1) low z

    both_halves : searched listing cover says cols (j * 14) (suc k) v (words_of p) ≡ or_else first (second high)
    both_halves = in_halves ∙ go (same_words low high) refl first refl
      where
        go : (b : Bool) → same_words low high ≡ b → (x : Option ℕ) → first ≡ x → or_else x (cond b None (second high)) ≡ or_else x (second high)
        go b e (Some y) f = refl
        go true e None f = sym (alike e f)
        go false e None f = refl

  -- ---- the whole

  pub plain : (k j v : ℕ) (p : ℕ → Bool) → j + k ≤ 16 → searched listing cover says cols (j * 14) k v (words_of p) ≡ lowest_from (failing p j k) (v * 2 ^ k) (2 ^ k)
  unfolding searched lowest_from lets_from
  plain zero j v p few =
      let e : v * 1 ≡ v = omega arith in
      sym (ap (λ (u : ℕ). lowest_from (failing p j zero) u 1) e ∙ go (failing p j zero v) ∙ ap (λ (rows : List ℕ). cond (fails_over listing cover says rows) (Some v) None) (rows_same _ p (λ r. alone (p r))))
    where
      alone : (b : Bool) → (b && true) ≡ b
      alone true = refl
      alone false = refl

      go : (b : Bool) → elim b [ true ↦ Some v | false ↦ None ] ≡ cond b (Some v) None
      go true = refl
      go false = refl
  plain (suc k) j v p few =
      let m : ℕ = 2 ^ k in
      let two : 2 ^ suc k ≡ m + m = omega (arith, pow-suc 2 k) in
      let from : v * 2 ^ suc k ≡ v * 2 * m = ap (λ (n : ℕ). v * n) two ∙ omega arith in
      let next : v * 2 * m + m ≡ (v * 2 + 1) * m = omega arith in
      both_halves p j k v (omega arith)
      ∙ ap₂ or_else
      (plain k (suc j) (v * 2) (λ r. p r && lets fires j 0 r) (omega arith) ∙ sym (lowest-same (failing p j (suc k)) _ (v * 2 * m) m (λ x l h. with-digit p j k 0 x (part-digit (v * 2) k x l h ∙ omega arith))))
      (plain k (suc j) (v * 2 + 1) (λ r. p r && lets fires j 1 r) (omega arith) ∙ sym (lowest-same (failing p j (suc k)) _ ((v * 2 + 1) * m) m (λ x l h. with-digit p j k 1 x (part-digit (v * 2 + 1) k x l h ∙ omega arith))))
      ∙ sym
      (ap₂ (lowest_from (failing p j (suc k))) from two
      ∙ lowest-parts (failing p j (suc k)) (v * 2 * m) m m
      ∙ ap (λ (n : ℕ). or_else (lowest_from (failing p j (suc k)) (v * 2 * m) m) (lowest_from (failing p j (suc k)) n m)) next)
