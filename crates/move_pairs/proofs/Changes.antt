-- What the move of a state changes of its pairs: 2 less for each partner of its value, 2 more for each other, and its own by half; and the looks.
use mathlib.Core.Path.{◌≡◌, refl, sym, ap, ap₂, ◌∙◌, subst}
use mathlib.Core.Bool.{Bool, true, false, cond}
use mathlib.Core.List.{List}
use Prim.Native.Nat.{ℕ, zero, suc, ◌+◌, ◌-◌, ◌*◌, ◌%◌, ◌^◌, ◌≤◌, ◌<◌, min}
use native.Mathlib.Decide.{ℕ_discrete, dec_lt}
use native.Mathlib.Omega.{arith}
use lib.Dec.{eqb}
use lib.ListN.{length, get_or, set, length-set}
use lib.Pow.{pow_pos}
use lib.Seq.{get_or-set_same, get_or-set_other, set_out}
use borrow.Author.Tests.{eq-eqb, ne_eqb}
use Rattle.sets.specs.Sets.{has, only, flip as turn, size, total, states_from}
use Rattle.sets.proofs.Members.{has-lt, has-and, has-xor, has-none, has-high, same-mask, flip-lt}
use Rattle.sets.proofs.Totals.{total-same, total-change}
use Rattle.sets.proofs.Size.{size-total, none-size}
use Rattle.sets.proofs.SizeMembers.{size_few}
use Rattle.rules.specs.Requirements.{met_count}
use Rattle.rules.specs.Looks.{move_looks}
use Rattle.move_table.specs.Table.{raised}
use Rattle.move_table.proofs.Raising.{length-raised}
use Rattle.move_halves.specs.Halves.{ones, zeros}
use Rattle.move_halves.proofs.Modulo.{plus, cancel, sums, both}
use Rattle.move_halves.proofs.Levels.{at_one, at_none, raised-level}
use Rattle.families.proofs.Parts.{part-lt, rest_lt, has_rest}
use Rattle.move_halves.proofs.Sums.{over, over-in, over-out, size-parts}
use Rattle.move_halves.proofs.Sides.{digit}
use Rattle.move_families.proofs.Lists.{Fits, raised-fits}
use Rattle.move_families.proofs.Whole.{Changed}
use Rattle.move_pairs.specs.Pairs.{unlike_of, like_of, parted, pairs_put, pairs_swayed}
use Rattle.move_pairs.proofs.Partners.{pairs_among, pairs_of, Partners}
use Rattle.move_pairs.proofs.Pair.{unlike}
use Rattle.move_pairs.proofs.Row.{unlike-turned, unlike-second, unlike-other}
use Rattle.move_pairs.proofs.Flips.{met-in, met-out, looks-in, looks-out}

-- ---- the table

length-parted : (like un : ℕ) (t : List ℕ) → length (parted like un t) ≡ length t
length-parted like un t = length-raised 2 un 0 (raised 4294967294 like 0 t) ∙ length-raised 4294967294 like 0 t

module _ (like un : ℕ) (t : List ℕ) (k : ℕ) (l : k < length t) where
  -- 2 at a member, modulo 2 ^ 32
  parted-level : (get_or (parted like un t) k 0 + 2 * has like k) % 2 ^ 32 ≡ (get_or t k 0 + 2 * has un k) % 2 ^ 32
  parted-level =
      let u : List ℕ = raised 4294967294 like 0 t in
      let lu : k < length u = omega (arith, length-raised 4294967294 like 0 t) in
      sums (swap (get_or (parted like un t) k 0) (2 * has like k)) (swap' (get_or t k 0) (2 * has un k))
      (both (get_or t k 0) (get_or u k 0) (get_or (parted like un t) k 0) (2 * has like k) 0 0 (2 * has un k) (less (has like k) refl) (more u lu (has un k) refl))
    where
      swap : (x y : ℕ) → x + y ≡ x + y + 0
      swap x y = omega arith

      swap' : (x y : ℕ) → x + y ≡ x + 0 + y
      swap' x y = omega arith

      less : (d : ℕ) → has like k ≡ d → (get_or (raised 4294967294 like 0 t) k 0 + 2 * has like k) % 2 ^ 32 ≡ (get_or t k 0 + 0) % 2 ^ 32
      less zero e = omega (arith, raised-level 4294967294 like t k l, at_none like k 4294967294 e)
      less (suc d) e =
          let i : has like k ≡ 1 = omega (arith, has-lt like k) in
          omega (arith, raised-level 4294967294 like t k l, at_one like k 4294967294 i)

      more : (u : List ℕ) → k < length u → (d : ℕ) → has un k ≡ d → (get_or (raised 2 un 0 u) k 0 + 0) % 2 ^ 32 ≡ (get_or u k 0 + 2 * has un k) % 2 ^ 32
      more u lu zero e = omega (arith, raised-level 2 un u k lu, at_none un k 2 e)
      more u lu (suc d) e =
          let i : has un k ≡ 1 = omega (arith, has-lt un k) in
          omega (arith, raised-level 2 un u k lu, at_one un k 2 i)

-- x - y put on
pub difference : (v w x y : ℕ) → y < 2 ^ 32 → w ≡ (v + (x + (2 ^ 32 - y)) % 2 ^ 32) % 2 ^ 32 → (w + y) % 2 ^ 32 ≡ (v + x) % 2 ^ 32
difference v w x y h e =
    let p : v + (x + (2 ^ 32 - y)) + y ≡ v + x + 2 ^ 32 = omega arith in
    ap (λ (m : ℕ). (m + y) % 2 ^ 32) (e ∙ inner v (x + (2 ^ 32 - y))) ∙ outer (v + (x + (2 ^ 32 - y))) y ∙ ap (λ (m : ℕ). m % 2 ^ 32) p ∙ whole (v + x)
  where
    inner : (a b : ℕ) → (a + b % 2 ^ 32) % 2 ^ 32 ≡ (a + b) % 2 ^ 32
    inner a b = omega arith

    outer : (a b : ℕ) → (a % 2 ^ 32 + b) % 2 ^ 32 ≡ (a + b) % 2 ^ 32
    outer a b = omega arith

    whole : (x : ℕ) → (x + 2 ^ 32) % 2 ^ 32 ≡ x % 2 ^ 32
    whole x = omega arith

module _ (like un s : ℕ) (t : List ℕ) (hl : like < 2 ^ 64) where
  put_other : (k : ℕ) → k < length t → (k ≡ s → ⊥) → (get_or (pairs_put like un s t) k 0 + 2 * has like k) % 2 ^ 32 ≡ (get_or t k 0 + 2 * has un k) % 2 ^ 32
  unfolding pairs_put
  put_other k l o =
      ap (λ (v : ℕ). (v + 2 * has like k) % 2 ^ 32) (get_or-set_other (parted like un t) s k _ 0 o) ∙ parted-level like un t k l

  put-own : s < length t → has like s ≡ 0 → has un s ≡ 0 → (get_or (pairs_put like un s t) s 0 + size like) % 2 ^ 32 ≡ (get_or t s 0 + size un) % 2 ^ 32
  unfolding pairs_put
  put-own l e f =
      let v : ℕ = get_or (parted like un t) s 0 in
      let w : ℕ = (v + (size un + (2 ^ 32 - size like)) % 2 ^ 32) % 2 ^ 32 in
      let z : v % 2 ^ 32 ≡ get_or t s 0 % 2 ^ 32 = still v (get_or t s 0) (has like s) (has un s) e f (parted-level like un t s l) in
      ap (λ (x : ℕ). (x + size like) % 2 ^ 32) (get_or-set_same (parted like un t) s w 0 (omega (arith, length-parted like un t)))
      ∙ difference v w (size un) (size like) (omega (arith, size_few 64 like hl)) refl
      ∙ plus v (get_or t s 0) (size un) z
    where
      still : (v t x y : ℕ) → x ≡ 0 → y ≡ 0 → (v + 2 * x) % 2 ^ 32 ≡ (t + 2 * y) % 2 ^ 32 → v % 2 ^ 32 ≡ t % 2 ^ 32
      still v t x y e f h =
          let p : v ≡ v + 2 * x = omega arith in
          let q : t ≡ t + 2 * y = omega arith in
          sums p q h

pub length-swayed : (p b s : ℕ) (t : List ℕ) → length (pairs_swayed p b s t) ≡ length t
unfolding pairs_swayed pairs_put
length-swayed p b s t = go (eqb (has b s) 1)
  where
    put : (like un : ℕ) → length (pairs_put like un s t) ≡ length t
    put like un = length-set (parted like un t) s _ ∙ length-parted like un t

    go : (u : Bool) → length (cond u (pairs_put (ones p b) (zeros p b) s t) (pairs_put (zeros p b) (ones p b) s t)) ≡ length t
    go true = put (ones p b) (zeros p b)
    go false = put (zeros p b) (ones p b)

-- levels stay numbers of 32 digits
pub set-fits : (t : List ℕ) (i v : ℕ) → Fits t → v < 2 ^ 32 → Fits (set t i v)
set-fits t i v h l k = go (ℕ_discrete k i) (dec_lt i (length t))
  where
    go : Dec (k ≡ i) → Dec (i < length t) → get_or (set t i v) k 0 < 2 ^ 32
    go (yes e) (yes m) = rw (e, get_or-set_same t i v 0 m) l
    go (yes e) (no m) = let o : length t ≤ i = omega arith in rw (set_out t i v o) (h k)
    go (no e) m = rw (get_or-set_other t i k v 0 e) (h k)

pub swayed-fits : (p b s : ℕ) (t : List ℕ) → Fits t → Fits (pairs_swayed p b s t)
unfolding pairs_swayed pairs_put
swayed-fits p b s t h = go (eqb (has b s) 1)
  where
    put : (like un : ℕ) → Fits (pairs_put like un s t)
    put like un =
        set-fits (parted like un t) s ((get_or (parted like un t) s 0 + (size un + (2 ^ 32 - size like)) % 2 ^ 32) % 2 ^ 32)
        (raised-fits (raised 4294967294 like 0 t) (raised-fits t h 4294967294 like) 2 un) (omega arith)

    go : (u : Bool) → Fits (cond u (pairs_put (ones p b) (zeros p b) s t) (pairs_put (zeros p b) (ones p b) s t))
    go true = put (ones p b) (zeros p b)
    go false = put (zeros p b) (ones p b)

-- ---- the pairs that it changes

swayed-is : (p b s : ℕ) (t : List ℕ) → pairs_swayed p b s t ≡ pairs_put (like_of p b s) (unlike_of p b s) s t
unfolding pairs_swayed
swayed-is p b s t = go (eqb (has b s) 1)
  where
    go : (u : Bool) → cond u (pairs_put (ones p b) (zeros p b) s t) (pairs_put (zeros p b) (ones p b) s t) ≡ pairs_put (cond u (ones p b) (zeros p b)) (cond u (zeros p b) (ones p b)) s t
    go true = refl
    go false = refl

-- by their digits
two_ways : (P : ℕ → ℕ → Type 0) (p b s : ℕ) → (has b s ≡ 1 → P (ones p b) (zeros p b)) → (has b s ≡ 0 → P (zeros p b) (ones p b)) → P (like_of p b s) (unlike_of p b s)
two_ways P p b s f g = go (has b s) refl
  where
    go : (d : ℕ) → has b s ≡ d → P (like_of p b s) (unlike_of p b s)
    go zero e = rw (ne_eqb (has b s) 1 (λ z. omega arith)) (g e)
    go (suc d) e = let i : has b s ≡ 1 = omega (arith, has-lt b s) in rw (eq-eqb (has b s) 1 i) (f i)

over-digit : (p : ℕ) (f : ℕ → ℕ) (j : ℕ) → f j < 2 → over p f j ≡ min (has p j) (f j)
over-digit p f j h = go (has p j) refl
  where
    go : (d : ℕ) → has p j ≡ d → over p f j ≡ min (has p j) (f j)
    go zero e = omega (arith, over-out p f j e)
    go (suc d) e = let i : has p j ≡ 1 = omega (arith, has-lt p j) in omega (arith, over-in p f j i)

module _ (p b s j : ℕ) where
  pub unlike-at : has (unlike_of p b s) j ≡ over p (unlike b s) j
  unlike-at =
      two_ways (λ (l u : ℕ). has u j ≡ over p (unlike b s) j) p b s
      (λ e. has_rest p b j ∙ one (has p j) (has-lt p j) (has b j) (has-lt b j) ∙ ap (λ (d : ℕ). min (has p j) ((d + has b j) % 2)) (sym e) ∙ sym (over-digit p (unlike b s) j (omega arith)))
      (λ e. has-and p b j ∙ none (has p j) (has-lt p j) (has b j) (has-lt b j) ∙ ap (λ (d : ℕ). min (has p j) ((d + has b j) % 2)) (sym e) ∙ sym (over-digit p (unlike b s) j (omega arith)))
    where
      one : (q : ℕ) → q < 2 → (c : ℕ) → c < 2 → (q + min q c) % 2 ≡ min q ((1 + c) % 2)
      one q hq c hc =
          digit (λ q. (q + min q c) % 2 ≡ min q ((1 + c) % 2)) q hq (digit (λ c. (0 + min 0 c) % 2 ≡ min 0 ((1 + c) % 2)) c hc refl refl) (digit (λ c. (1 + min 1 c) % 2 ≡ min 1 ((1 + c) % 2)) c hc refl refl)

      none : (q : ℕ) → q < 2 → (c : ℕ) → c < 2 → min q c ≡ min q ((0 + c) % 2)
      none q hq c hc = digit (λ c. min q c ≡ min q ((0 + c) % 2)) c hc refl refl

  pub like_at : has (like_of p b s) j ≡ over p (λ j. 1 - unlike b s j) j
  like_at =
      two_ways (λ (l u : ℕ). has l j ≡ over p (λ j. 1 - unlike b s j) j) p b s
      (λ e. has-and p b j ∙ one (has p j) (has-lt p j) (has b j) (has-lt b j) ∙ ap (λ (d : ℕ). min (has p j) (1 - (d + has b j) % 2)) (sym e) ∙ sym (over-digit p (λ j. 1 - unlike b s j) j (omega arith)))
      (λ e. has_rest p b j ∙ none (has p j) (has-lt p j) (has b j) (has-lt b j) ∙ ap (λ (d : ℕ). min (has p j) (1 - (d + has b j) % 2)) (sym e) ∙ sym (over-digit p (λ j. 1 - unlike b s j) j (omega arith)))
    where
      one : (q : ℕ) → q < 2 → (c : ℕ) → c < 2 → min q c ≡ min q (1 - (1 + c) % 2)
      one q hq c hc = digit (λ c. min q c ≡ min q (1 - (1 + c) % 2)) c hc refl refl

      none : (q : ℕ) → q < 2 → (c : ℕ) → c < 2 → (q + min q c) % 2 ≡ min q (1 - (0 + c) % 2)
      none q hq c hc =
          digit (λ q. (q + min q c) % 2 ≡ min q (1 - (0 + c) % 2)) q hq (digit (λ c. (0 + min 0 c) % 2 ≡ min 0 (1 - (0 + c) % 2)) c hc refl refl) (digit (λ c. (1 + min 1 c) % 2 ≡ min 1 (1 - (0 + c) % 2)) c hc refl refl)

  pub parts-lt : (n : ℕ) → p < 2 ^ n → (like_of p b s < 2 ^ n) × (unlike_of p b s < 2 ^ n)
  parts-lt n h = two_ways (λ (l u : ℕ). (l < 2 ^ n) × (u < 2 ^ n)) p b s (λ _. (part-lt n p b h, rest_lt n p b h)) (λ _. (rest_lt n p b h, part-lt n p b h))

  pub parts-size : p < 2 ^ 64 → size (like_of p b s) + size (unlike_of p b s) ≡ size p
  parts-size h =
      two_ways (λ (l u : ℕ). size l + size u ≡ size p) p b s (λ _. size-parts 64 p b h) (λ _. swap (size (ones p b)) (size (zeros p b)) (size p) (size-parts 64 p b h))
    where
      swap : (x y z : ℕ) → x + y ≡ z → y + x ≡ z
      swap x y z e = omega arith

-- ---- the law

none-plus : (d : ℕ) → 0 + d ≡ d
none-plus d = omega arith

module _ (n : ℕ) (wide : 64 ≤ n) (ps : List ℕ) (table : Partners ps) (b s : ℕ) (hs : s < 64) where
  abbrev met : ℕ → ℕ
  met x = met_count n (pairs_among ps (states_from 0 64)) x

  -- what is met after the flip of a state
  pub flip-in : (x k : ℕ) → k < 64 → met (turn x k) + 2 * total 64 (over (get_or ps k 0) (unlike x k)) ≡ met x + size (get_or ps k 0)
  flip-in x k h =
      ap (λ (d : ℕ). met (turn x k) + 2 * d) (sym (total-same 64 (λ d. over (get_or ps k 0) (unlike x k) (0 + d)) (over (get_or ps k 0) (unlike x k)) (λ d _. ap (over (get_or ps k 0) (unlike x k)) (none-plus d))))
      ∙ met-in n ps table k x 64 0 (omega arith) (omega arith) (omega arith)
      ∙ ap (λ (d : ℕ). met x + d)
      (total-same 64 (λ d. has (get_or ps k 0) (0 + d)) (has (get_or ps k 0)) (λ d _. ap (has (get_or ps k 0)) (none-plus d)) ∙ sym (size-total 64 (get_or ps k 0) (table.words k)))

  pub flip-out : (x k : ℕ) → 64 ≤ k → met (turn x k) ≡ met x
  flip-out x k h = met-out n ps table x k 64 0 (omega arith) (λ d l e. omega arith)

  like : ℕ
  like = like_of (get_or ps s 0) b s

  un : ℕ
  un = unlike_of (get_or ps s 0) b s

  -- a partner of s, and s as its partner
  mirror : (f : ℕ → ℕ → ℕ) (k : ℕ) → f k s ≡ f s k → over (get_or ps k 0) (f k) s ≡ over (get_or ps s 0) (f s) k
  mirror f k e = ap₂ (λ (d v : ℕ). cond (eqb d 1) v 0) (table.back k s) e

  un-mirror : (k : ℕ) → over (get_or ps k 0) (unlike b k) s ≡ has un k
  unfolding un
  un-mirror k = mirror (unlike b) k (unlike-turned b k s) ∙ sym (unlike-at (get_or ps s 0) b s k)

  like-mirror : (k : ℕ) → (k ≡ s → ⊥) → over (get_or ps k 0) (unlike (turn b s) k) s ≡ has like k
  unfolding like
  like-mirror k o =
      ap (λ (v : ℕ). cond (eqb (has (get_or ps k 0) s) 1) v 0) (unlike-second b k s o)
      ∙ mirror (λ k j. 1 - unlike b k j) k (ap (λ (d : ℕ). 1 - d) (unlike-turned b k s))
      ∙ sym (like_at (get_or ps s 0) b s k)

  module _ (t : List ℕ) (k : ℕ) (l : k < length t) where
    t' : List ℕ
    t' = pairs_put like un s t

    fits-like : like < 2 ^ 64
    unfolding like
    fits-like = (parts-lt (get_or ps s 0) b s 0 64 (table.words s)).0

    fits-un : un < 2 ^ 64
    unfolding un
    fits-un = (parts-lt (get_or ps s 0) b s 0 64 (table.words s)).1

    other-in : (k ≡ s → ⊥) → k < 64 → (get_or t' k 0 + met (turn b s) + met (turn b k)) % 2 ^ 32 ≡ (get_or t k 0 + met b + met (turn (turn b s) k)) % 2 ^ 32
    unfolding t'
    other-in o h =
        let q : ℕ = get_or ps k 0 in
        let da : ℕ = total 64 (over q (unlike (turn b s) k)) in
        let db : ℕ = total 64 (over q (unlike b k)) in
        let c : da + over q (unlike b k) s ≡ db + over q (unlike (turn b s) k) s =
        total-change 64 s (over q (unlike (turn b s) k)) (over q (unlike b k)) hs
        (λ j _ z. ap (λ (v : ℕ). cond (eqb (has q j) 1) v 0) (unlike-other b k j s o z)) in
        close (get_or t k 0) (get_or t' k 0) (met (turn b s)) (met (turn b k)) (met b) (met (turn (turn b s) k)) da db (over q (unlike b k) s) (over q (unlike (turn b s) k) s) (has un k) (has like k) (size q)
        (flip-in b k h) (flip-in (turn b s) k h) c (un-mirror k) (like-mirror k o) (put_other like un s t fits-like k l o)
      where
        close : (t v ma mbk mb mak da db e e' u w z : ℕ) → mbk + 2 * db ≡ mb + z → mak + 2 * da ≡ ma + z → da + e ≡ db + e' → e ≡ u → e' ≡ w
            → (v + 2 * w) % 2 ^ 32 ≡ (t + 2 * u) % 2 ^ 32 → (v + ma + mbk) % 2 ^ 32 ≡ (t + mb + mak) % 2 ^ 32
        close t v ma mbk mb mak da db e e' u w z f g c p q h =
            let i : v + ma + mbk + (2 * db + 2 * da + 2 * e) ≡ v + 2 * w + (ma + mb + z + 2 * db) = omega arith in
            let j : t + mb + mak + (2 * db + 2 * da + 2 * e) ≡ t + 2 * u + (ma + mb + z + 2 * db) = omega arith in
            cancel (v + ma + mbk) (t + mb + mak) (2 * db + 2 * da + 2 * e) (sums i j (plus (v + 2 * w) (t + 2 * u) (ma + mb + z + 2 * db) h))

    other-out : (k ≡ s → ⊥) → 64 ≤ k → (get_or t' k 0 + met (turn b s) + met (turn b k)) % 2 ^ 32 ≡ (get_or t k 0 + met b + met (turn (turn b s) k)) % 2 ^ 32
    unfolding t'
    other-out o h =
        close (get_or t k 0) (get_or t' k 0) (met (turn b s)) (met (turn b k)) (met b) (met (turn (turn b s) k)) (has like k) (has un k)
        (flip-out b k h) (flip-out (turn b s) k h) (has-high 64 like k fits-like h) (has-high 64 un k fits-un h) (put_other like un s t fits-like k l o)
      where
        close : (t v ma mbk mb mak w u : ℕ) → mbk ≡ mb → mak ≡ ma → w ≡ 0 → u ≡ 0 → (v + 2 * w) % 2 ^ 32 ≡ (t + 2 * u) % 2 ^ 32 → (v + ma + mbk) % 2 ^ 32 ≡ (t + mb + mak) % 2 ^ 32
        close t v ma mbk mb mak w u e f g c h =
            let i : v + ma + mbk ≡ v + 2 * w + (ma + mb) = omega arith in
            let j : t + mb + mak ≡ t + 2 * u + (ma + mb) = omega arith in
            sums i j (plus (v + 2 * w) (t + 2 * u) (ma + mb) h)

  own-level : (t : List ℕ) → s < length t → (get_or (pairs_put like un s t) s 0 + met (turn b s)) % 2 ^ 32 ≡ (get_or t s 0 + met b) % 2 ^ 32
  unfolding like un
  own-level t l =
      let q : ℕ = get_or ps s 0 in
      let d : total 64 (over q (unlike b s)) ≡ size un =
      total-same 64 (over q (unlike b s)) (has un) (λ j _. sym (unlike-at q b s j)) ∙ sym (size-total 64 un (fits-un t s l)) in
      close (get_or t s 0) (get_or (pairs_put like un s t) s 0) (met (turn b s)) (met b) (total 64 (over q (unlike b s))) (size un) (size like) (size q)
      (flip-in b s hs) d (parts-size q b s 0 (table.words s))
      (put-own like un s t (fits-like t s l) l (like_at q b s s ∙ over-out q (λ j. 1 - unlike b s j) s (table.others s)) (unlike-at q b s s ∙ over-out q (unlike b s) s (table.others s)))
    where
      close : (t v ma mb d u w z : ℕ) → ma + 2 * d ≡ mb + z → d ≡ u → w + u ≡ z → (v + w) % 2 ^ 32 ≡ (t + u) % 2 ^ 32 → (v + ma) % 2 ^ 32 ≡ (t + mb) % 2 ^ 32
      close t v ma mb d u w z e f g h =
          let i : v + ma + (u + u) ≡ v + w + (mb + u) = omega arith in
          let j : t + mb + (u + u) ≡ t + u + (mb + u) = omega arith in
          cancel (v + ma) (t + mb) (u + u) (sums i j (plus (v + w) (t + u) (mb + u) h))

  changed-in : (t : List ℕ) (k : ℕ) → k < length t → Changed n (pairs_of ps) b s k t (pairs_swayed (get_or ps s 0) b s t)
  unfolding pairs_of like un t'
  changed-in t k l =
      rw (swayed-is (get_or ps s 0) b s t)
      (record {
        other = λ o. go o (dec_lt k 64);
        own = λ z. subst (λ (k : ℕ). (get_or (pairs_put like un s t) k 0 + met (turn b s)) % 2 ^ 32 ≡ (get_or t k 0 + met b) % 2 ^ 32) (sym z) (own-level t (subst (λ (k : ℕ). k < length t) z l));
      })
    where
      go : (k ≡ s → ⊥) → Dec (k < 64) → (get_or (pairs_put like un s t) k 0 + met (turn b s) + met (turn b k)) % 2 ^ 32 ≡ (get_or t k 0 + met b + met (turn (turn b s) k)) % 2 ^ 32
      go o (yes h) = other-in t k l o h
      go o (no h) = other-out t k l o (omega arith)

  -- every live pair of s is looked at
  looks-within : move_looks n (pairs_of ps) b s ≡ size (get_or ps s 0)
  unfolding pairs_of
  looks-within =
      looks-in n ps table s b 64 0 (omega arith) (omega arith) (omega arith) (omega arith)
      ∙ total-same 64 (λ d. has (get_or ps s 0) (0 + d)) (has (get_or ps s 0)) (λ d _. ap (has (get_or ps s 0)) (none-plus d))
      ∙ sym (size-total 64 (get_or ps s 0) (table.words s))

-- ---- a state past the mask's width has no partner, and stands in no pair

pub nobody-past : (ps : List ℕ) → Partners ps → (k : ℕ) → 64 ≤ k → get_or ps k 0 ≡ 0
nobody-past ps table k h =
    same-mask 64 (get_or ps k 0) 0 (table.words k) (pow_pos 64) (λ j _. table.back k j ∙ has-high 64 (get_or ps j 0) k (table.words j) h ∙ sym (has-none j))

-- two flips, in either order
turn-order : (n b s k : ℕ) → b < 2 ^ n → s < n → k < n → turn (turn b s) k ≡ turn (turn b k) s
turn-order n b s k hb hs hk =
    same-mask n (turn (turn b s) k) (turn (turn b k) s) (flip-lt n (turn b s) k (flip-lt n b s hb hs) hk) (flip-lt n (turn b k) s (flip-lt n b k hb hk) hs)
    (λ t _. has-xor (turn b s) (only k) t
    ∙ ap (λ (d : ℕ). (d + has (only k) t) % 2) (has-xor b (only s) t)
    ∙ swap (has b t) (has (only s) t) (has (only k) t)
    ∙ sym (has-xor (turn b k) (only s) t ∙ ap (λ (d : ℕ). (d + has (only s) t) % 2) (has-xor b (only k) t)))
  where
    swap : (x y z : ℕ) → ((x + y) % 2 + z) % 2 ≡ ((x + z) % 2 + y) % 2
    swap x y z = omega arith

module _ (n : ℕ) (wide : 64 ≤ n) (ps : List ℕ) (table : Partners ps) (b s : ℕ) (hb : b < 2 ^ n) (hs : s < n) (past : 64 ≤ s) where
  none : (f : ℕ → ℕ) (k : ℕ) → over (get_or ps s 0) f k ≡ 0
  none f k = over-out (get_or ps s 0) f k (ap (λ (m : ℕ). has m k) (nobody-past ps table s past) ∙ has-none k)

  sizes : size (like_of (get_or ps s 0) b s) + size (unlike_of (get_or ps s 0) b s) ≡ 0
  sizes = parts-size (get_or ps s 0) b s 0 (table.words s) ∙ ap size (nobody-past ps table s past) ∙ none-size 0 0 (pow_pos 0) (λ j _. has-none j)

  stays : (x : ℕ) → met_count n (pairs_of ps) (turn x s) ≡ met_count n (pairs_of ps) x
  unfolding pairs_of
  stays x = flip-out n wide ps table b 0 (omega arith) x s past

  changed-past : (t : List ℕ) (k : ℕ) → k < n → k < length t → Changed n (pairs_of ps) b s k t (pairs_swayed (get_or ps s 0) b s t)
  changed-past t k hk l =
      let like : ℕ = like_of (get_or ps s 0) b s in
      let un : ℕ = unlike_of (get_or ps s 0) b s in
      let t' : List ℕ = pairs_put like un s t in
      let fits : like < 2 ^ 64 = (parts-lt (get_or ps s 0) b s 0 64 (table.words s)).0 in
      let no-like : (j : ℕ) → has like j ≡ 0 = λ j. like_at (get_or ps s 0) b s j ∙ none (λ j. 1 - unlike b s j) j in
      let no-un : (j : ℕ) → has un j ≡ 0 = λ j. unlike-at (get_or ps s 0) b s j ∙ none (unlike b s) j in
      let order : turn (turn b s) k ≡ turn (turn b k) s = turn-order n b s k hb hs hk in
      rw (swayed-is (get_or ps s 0) b s t)
      (record {
        other = λ o.
            four (get_or t k 0) (get_or t' k 0) (met_count n (pairs_of ps) (turn b s)) (met_count n (pairs_of ps) (turn b k)) (met_count n (pairs_of ps) b) (met_count n (pairs_of ps) (turn (turn b s) k)) (has like k) (has un k)
            (stays b) (ap (met_count n (pairs_of ps)) order ∙ stays (turn b k)) (no-like k) (no-un k) (put_other like un s t fits k l o);
        own = λ z.
            subst (λ (k : ℕ). (get_or t' k 0 + met_count n (pairs_of ps) (turn b s)) % 2 ^ 32 ≡ (get_or t k 0 + met_count n (pairs_of ps) b) % 2 ^ 32) (sym z)
            (two (get_or t s 0) (get_or t' s 0) (met_count n (pairs_of ps) (turn b s)) (met_count n (pairs_of ps) b) (size like) (size un) (stays b) sizes
            (put-own like un s t fits (subst (λ (k : ℕ). k < length t) z l) (no-like s) (no-un s)));
      })
    where
      four : (t v ma mbk mb mak w u : ℕ) → ma ≡ mb → mak ≡ mbk → w ≡ 0 → u ≡ 0 → (v + 2 * w) % 2 ^ 32 ≡ (t + 2 * u) % 2 ^ 32 → (v + ma + mbk) % 2 ^ 32 ≡ (t + mb + mak) % 2 ^ 32
      four t v ma mbk mb mak w u e f g c h =
          let i : v + ma + mbk ≡ v + 2 * w + (ma + mbk) = omega arith in
          let j : t + mb + mak ≡ t + 2 * u + (ma + mbk) = omega arith in
          sums i j (plus (v + 2 * w) (t + 2 * u) (ma + mbk) h)

      two : (t v ma mb w u : ℕ) → ma ≡ mb → w + u ≡ 0 → (v + w) % 2 ^ 32 ≡ (t + u) % 2 ^ 32 → (v + ma) % 2 ^ 32 ≡ (t + mb) % 2 ^ 32
      two t v ma mb w u e f h =
          let i : v + ma ≡ v + w + ma = omega arith in
          let j : t + mb ≡ t + u + ma = omega arith in
          sums i j (plus (v + w) (t + u) ma h)

-- ---- any state

module _ (n : ℕ) (wide : 64 ≤ n) (ps : List ℕ) (table : Partners ps) (b s : ℕ) (hb : b < 2 ^ n) (hs : s < n) where
  pub pairs-changed : (t : List ℕ) (k : ℕ) → k < n → k < length t → Changed n (pairs_of ps) b s k t (pairs_swayed (get_or ps s 0) b s t)
  pairs-changed t k hk l = go (dec_lt s 64)
    where
      go : Dec (s < 64) → Changed n (pairs_of ps) b s k t (pairs_swayed (get_or ps s 0) b s t)
      go (yes h) = changed-in n wide ps table b s h t k l
      go (no h) = changed-past n wide ps table b s hb hs (omega arith) t k hk l

  -- every live pair of s is looked at
  pub pairs-looks : move_looks n (pairs_of ps) b s ≡ size (get_or ps s 0)
  unfolding pairs_of
  pairs-looks = go (dec_lt s 64)
    where
      go : Dec (s < 64) → move_looks n (pairs_among ps (states_from 0 64)) b s ≡ size (get_or ps s 0)
      go (yes h) = looks-within n wide ps table b s h
      go (no h) =
          looks-out n ps table b s 64 0 hs (omega arith) (λ d l e. omega arith)
          ∙ sym (ap size (nobody-past ps table s (omega arith)) ∙ none-size 0 0 (pow_pos 0) (λ j _. has-none j))
