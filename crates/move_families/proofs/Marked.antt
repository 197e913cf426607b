-- A run of families by its marks: which digits they have, and that the visits of the marked ones, the lowest first, are the visits of all.
use Rattle.std.proofs.Common.{◌≡◌, ℕ, zero, suc, ◌+◌, ◌-◌, ◌*◌, ◌/◌, ◌%◌, ◌^◌, ◌<◌, ◌≤◌, Bool, true, false, cond, eqb, List, [], ◌∷◌, ◌++◌, length, get_or, drop, sym, refl, ap, ◌∙◌, subst, ap₂, lt_of_lt_of_le, add-zero, pow-suc, arith, pow_mono, eq-eqb, ne_eqb}
use native.Mathlib.Decide.{dec_lt, ℕ_discrete}
use lib.Count.{count_trailing_zeros}
use Rattle.sets.specs.Sets.{has, flip, size, without_lowest}
use Rattle.sets.proofs.Members.{has-zero, has-suc, has-none, has-high, has-flip, has-flip-other}
use Rattle.sets.proofs.LowestMember.{lowest-at, lowest-least, without_at, without-lt, without_fewer}
use Rattle.std.specs.Simd.{first_chunks}
use Rattle.std.proofs.lemmas.List.{get_or_append_left, get_or_push, length_push}
use Rattle.families.proofs.Walk.{short-left}
use Rattle.families.proofs.Chunks.{chunks-length, chunk-three}
use Rattle.move_halves.specs.Halves.{near_at, swayed, looks_of}
use Rattle.move_halves.proofs.Moving.{move-passed}
use Rattle.move_families.specs.Swayed.{swayed_all, looks_all}
use Rattle.move_families.specs.Marks.{near_of, swayed_of, looks_at, marks_from, visited_from, looks_from}
use Rattle.move_families.proofs.Turn.{short, swayed-more, looks-more, looks-add}

digit_lt : (u : Bool) → cond {A = ℕ} u 1 0 < 2
digit_lt true = omega arith
digit_lt false = omega arith

pub digit-below : (u : Bool) (d : ℕ) → d ≡ cond u 1 0 → d < 2
digit-below u d e = omega (arith, digit_lt u)

digit-true : (u : Bool) → cond {A = ℕ} u 1 0 ≡ 1 → u ≡ true
digit-true true e = refl
digit-true false e = absurd (omega arith)

module _ (fs : List ℕ) (b s : ℕ) where
  -- ---- the digits

  marks-lt : (c k : ℕ) → marks_from c k fs b s < 2 ^ c
  unfolding marks_from
  marks-lt zero k = omega arith
  marks-lt (suc c) k = omega (arith, pow-suc 2 c, digit_lt (near_of fs b s k), marks-lt c (suc k))

  marks-digit : (c k i : ℕ) → i < c → has (marks_from c k fs b s) i ≡ cond (near_of fs b s (k + i)) 1 0
  unfolding marks_from
  marks-digit zero k i h = absurd (omega arith)
  marks-digit (suc c) k zero h =
      let d : ℕ = cond (near_of fs b s k) 1 0 in
      let w : ℕ = marks_from c (suc k) fs b s in
      let e : (d + 2 * w) % 2 ≡ d = omega (arith, digit_lt (near_of fs b s k)) in
      has-zero (d + 2 * w) ∙ e ∙ ap (λ (j : ℕ). cond (near_of fs b s j) 1 0) (sym (add-zero k))
  marks-digit (suc c) k (suc i) h =
      let d : ℕ = cond (near_of fs b s k) 1 0 in
      let w : ℕ = marks_from c (suc k) fs b s in
      let e : (d + 2 * w) / 2 ≡ w = omega (arith, digit_lt (near_of fs b s k)) in
      let f : suc k + i ≡ k + suc i = omega arith in
      has-suc (d + 2 * w) i
      ∙ ap (λ (m : ℕ). has m i) e
      ∙ marks-digit c (suc k) i (omega arith)
      ∙ ap (λ (j : ℕ). cond (near_of fs b s j) 1 0) f

  -- with one more to come there is room for a digit
  marks-room : (c k word : ℕ) → c ≤ 64 → 0 < k → word ≡ marks_from (c - k) k fs b s → word < 2 ^ 63
  marks-room c k word h l e =
      let m : c - k ≤ 63 = omega arith in
      subst (λ (x : ℕ). x < 2 ^ 63) (sym e) (lt_of_lt_of_le (marks-lt (c - k) k) (pow_mono m))

  -- one digit more in front
  marks-turn : (c k word one : ℕ) → suc k ≤ c → word ≡ marks_from (c - suc k) (suc k) fs b s → one ≡ cond (near_of fs b s k) 1 0 → 2 * word + one ≡ marks_from (c - k) k fs b s
  unfolding marks_from
  marks-turn c k word one l ew eo =
      let e : suc (c - suc k) ≡ c - k = omega arith in
      let x : 2 * word + one ≡ marks_from (suc (c - suc k)) k fs b s = omega arith in
      x ∙ ap (λ (n : ℕ). marks_from n k fs b s) e

  -- ---- the visits

  visit-none : (c k : ℕ) (t : List ℕ) → (looks_from c k 0 fs b s ≡ 0) × (visited_from c k 0 fs b s t ≡ t)
  unfolding looks_from visited_from
  visit-none zero k t = (refl, refl)
  visit-none (suc c) k t =
      let e : eqb (has 0 k) 1 ≡ false = ne_eqb (has 0 k) 1 (λ d. omega (arith, has-none k)) in
      let r = visit-none c (suc k) t in
      (rw e (omega (arith, r.0)), rw e r.1)

  -- the digits from the first family's on alone matter
  visit-same : (m l c j : ℕ) → ((i : ℕ) → j ≤ i → has m i ≡ has l i) → (t : List ℕ)
      → (looks_from c j m fs b s ≡ looks_from c j l fs b s) × (visited_from c j m fs b s t ≡ visited_from c j l fs b s t)
  unfolding looks_from visited_from
  visit-same m l zero j h t = (refl, refl)
  visit-same m l (suc c) j h t =
      let e : has m j ≡ has l j = h j (omega arith) in
      let r = visit-same m l c (suc j) (λ i p. h i (omega arith)) (cond (eqb (has l j) 1) (swayed_of fs b s j t) t) in (
        ap₂ (λ (d x : ℕ). cond (eqb d 1) (looks_at fs b s j) 0 + x) e r.0,
        ap (λ (d : ℕ). visited_from c (suc j) m fs b s (cond (eqb d 1) (swayed_of fs b s j t) t)) e ∙ r.1,
      )

  -- the lowest goes first, and what is left is what is marked without it
  module _ (m k : ℕ) (here : has m k ≡ 1) (least : (i : ℕ) → i < k → has m i ≡ 0) where
    visit-lowest : (c j : ℕ) → j ≤ k → k < j + c → (t : List ℕ)
        → (looks_from c j m fs b s ≡ looks_at fs b s k + looks_from c j (flip m k) fs b s)
        × (visited_from c j m fs b s t ≡ visited_from c j (flip m k) fs b s (swayed_of fs b s k t))
    unfolding looks_from visited_from
    visit-lowest zero j p q t = absurd (omega arith)
    visit-lowest (suc c) j p q t = go (ℕ_discrete j k) (λ r l. visit-lowest c (suc j) r l t)
      where
        assoc : (x : ℕ) → 0 + x ≡ x
        assoc x = omega arith

        go : Dec (j ≡ k)
            → (suc j ≤ k → k < suc j + c
            → (looks_from c (suc j) m fs b s ≡ looks_at fs b s k + looks_from c (suc j) (flip m k) fs b s)
            × (visited_from c (suc j) m fs b s t ≡ visited_from c (suc j) (flip m k) fs b s (swayed_of fs b s k t)))
            → (looks_from (suc c) j m fs b s ≡ looks_at fs b s k + looks_from (suc c) j (flip m k) fs b s)
            × (visited_from (suc c) j m fs b s t ≡ visited_from (suc c) j (flip m k) fs b s (swayed_of fs b s k t))
        go (yes e) later =
            let x : eqb (has m k) 1 ≡ true = eq-eqb (has m k) 1 here in
            let y : eqb (has (flip m k) k) 1 ≡ false = ne_eqb (has (flip m k) k) 1 (λ d. omega (arith, has-flip m k)) in
            let r = visit-same m (flip m k) c (suc k) (λ i q. sym (has-flip-other m k i (λ d. omega arith))) (swayed_of fs b s k t) in
            rw (e, x, y) (ap (λ (x : ℕ). looks_at fs b s k + x) (r.0 ∙ sym (assoc (looks_from c (suc k) (flip m k) fs b s))), r.1)
        go (no o) later =
            let x : eqb (has m j) 1 ≡ false = ne_eqb (has m j) 1 (λ d. omega (arith, least j (omega arith))) in
            let y : eqb (has (flip m k) j) 1 ≡ false = ne_eqb (has (flip m k) j) 1 (λ d. omega (arith, least j (omega arith), has-flip-other m k j o)) in
            let r = later (omega arith) (omega arith) in
            rw (x, y) (omega (arith, r.0), r.1)

  -- a family that is not marked is passed over, so the visits of the marked ones are those of all
  visit-all : (m c j : ℕ) → ((i : ℕ) → j ≤ i → i < j + c → has m i ≡ cond (near_of fs b s i) 1 0) → 3 * (j + c) ≤ length fs → length fs ≤ 3 * (j + c) + 2
      → (t : List ℕ) → (looks_from c j m fs b s ≡ looks_all (drop (3 * j) fs) b s) × (visited_from c j m fs b s t ≡ swayed_all (drop (3 * j) fs) b s t)
  unfolding looks_from visited_from
  visit-all m zero j h p q t = let r = short (drop (3 * j) fs) b s t (short-left fs (3 * j) (omega arith)) in (sym r.0, sym r.1)
  visit-all m (suc c) j h p q t =
      go (near_of fs b s j) refl (λ u. visit-all m c (suc j) (λ i x y. h i (omega arith) (omega arith)) (omega arith) (omega arith) u)
    where
      e : 3 * j + 3 ≡ 3 * suc j
      e = omega arith

      more : looks_all (drop (3 * j) fs) b s ≡ looks_at fs b s j + looks_all (drop (3 * suc j) fs) b s
      more = looks-more fs (3 * j) b s (omega arith) ∙ ap (λ (i : ℕ). looks_at fs b s j + looks_all (drop i fs) b s) e

      moved : swayed_all (drop (3 * j) fs) b s t ≡ swayed_all (drop (3 * suc j) fs) b s (swayed_of fs b s j t)
      moved = swayed-more fs (3 * j) b s t (omega arith) ∙ ap (λ (i : ℕ). swayed_all (drop i fs) b s (swayed_of fs b s j t)) e

      go : (u : Bool) → near_of fs b s j ≡ u
          → ((u : List ℕ) → (looks_from c (suc j) m fs b s ≡ looks_all (drop (3 * suc j) fs) b s) × (visited_from c (suc j) m fs b s u ≡ swayed_all (drop (3 * suc j) fs) b s u))
          → (looks_from (suc c) j m fs b s ≡ looks_all (drop (3 * j) fs) b s) × (visited_from (suc c) j m fs b s t ≡ swayed_all (drop (3 * j) fs) b s t)
      go true n r =
          let x : eqb (has m j) 1 ≡ true = eq-eqb (has m j) 1 (h j (omega arith) (omega arith) ∙ ap {B = ℕ} (λ (u : Bool). cond u 1 0) n) in
          rw x (ap (λ (i : ℕ). looks_at fs b s j + i) (r t).0 ∙ sym more, (r (swayed_of fs b s j t)).1 ∙ sym moved)
      go false n r =
          let z : has m j ≡ 0 = h j (omega arith) (omega arith) ∙ ap {B = ℕ} (λ (u : Bool). cond u 1 0) n in
          let x : eqb (has m j) 1 ≡ false = ne_eqb (has m j) 1 (λ d. omega arith) in
          let f = move-passed (get_or fs (3 * j) 0) (get_or fs (3 * j + 1) 0) (get_or fs (3 * j + 2) 0) b s t n in
          rw x (omega (arith, (r t).0, more, f.0), (r t).1 ∙ ap (swayed_all (drop (3 * suc j) fs) b s) (sym f.1) ∙ sym moved)

-- ---- the loop that makes the marks, from the last family to the first: those of the families behind the rest are made

pub record Marking (fs : List ℕ) (b s : ℕ) (rest : List (List ℕ)) (word : ℕ) : Type 0 where
  pub marks : word ≡ marks_from (length fs / 3 - length rest) (length rest) fs b s
  pub few : length rest ≤ length fs / 3
  pub same : (j : ℕ) → j < length rest → get_or rest j [] ≡ get_or (first_chunks 3 (length fs / 3) fs) j []

module _ (fs : List ℕ) (b s : ℕ) where
  -- family k, read as a chunk
  near_chunk : (k : ℕ) (x : List ℕ) → k < length fs / 3 → x ≡ get_or (first_chunks 3 (length fs / 3) fs) k [] → near_at (get_or x 0 0) (get_or x 1 0) (get_or x 2 0) b s ≡ near_of fs b s k
  near_chunk k x h e =
      let w = chunk-three fs (first_chunks 3 (length fs / 3) fs) refl (chunks-length (length fs / 3) fs) k (omega (arith, chunks-length (length fs / 3) fs)) in
      rw (e, w.0, w.1, w.2) refl

  pub marking-none : (rest : List (List ℕ)) → rest ≡ first_chunks 3 (length fs / 3) fs → Marking fs b s rest 0
  unfolding marks_from
  marking-none rest e =
      let l : length rest ≡ length fs / 3 = ap length e ∙ chunks-length (length fs / 3) fs in
      let z : 0 ≡ length fs / 3 - length rest = omega (arith, l) in
      record {
        marks = ap (λ (n : ℕ). marks_from n (length rest) fs b s) z;
        few = omega (arith, l);
        same = λ j h. ap (λ (l : List (List ℕ)). get_or l j []) e;
      }

  module _ (rest rest' : List (List ℕ)) (x : List ℕ) (word : ℕ) (e : rest ≡ rest' ++ (x ∷ [])) (left : Marking fs b s rest word) where
    longer : length rest ≡ suc (length rest')
    longer = omega (arith, ap length e, length_push rest' x)

    -- there is room for one digit more
    pub marking-room : length fs ≤ 192 → word < 2 ^ 63
    marking-room h = marks-room fs b s (length fs / 3) (length rest) word (omega arith) (omega (arith, longer)) left.marks

    pub marking-turn : (one : ℕ) → one ≡ cond (near_at (get_or x 0 0) (get_or x 1 0) (get_or x 2 0) b s) 1 0 → Marking fs b s rest' (2 * word + one)
    marking-turn one f =
        let few : suc (length rest') ≤ length fs / 3 = omega (arith, longer, left.few) in
        let item : x ≡ get_or (first_chunks 3 (length fs / 3) fs) (length rest') [] =
        sym (get_or_push rest' x [] (length rest') refl) ∙ ap (λ (l : List (List ℕ)). get_or l (length rest') []) (sym e) ∙ left.same (length rest') (omega (arith, longer)) in
        record {
          marks =
              marks-turn fs b s (length fs / 3) (length rest') word one few (left.marks ∙ ap (λ (k : ℕ). marks_from (length fs / 3 - k) k fs b s) longer)
              (f ∙ ap (λ (u : Bool). cond u 1 0) (near_chunk (length rest') x (omega arith) item));
          few = omega arith;
          same = λ j h. sym (get_or_append_left rest' (x ∷ []) [] j h) ∙ ap (λ (l : List (List ℕ)). get_or l j []) (sym e) ∙ left.same j (omega (arith, longer));
        }

  -- the end
  pub marking-done : (rest : List (List ℕ)) (word : ℕ) → length rest ≡ 0 → Marking fs b s rest word → word ≡ marks_from (length fs / 3) 0 fs b s
  marking-done rest word z left =
      let n : length fs / 3 - 0 ≡ length fs / 3 = omega arith in
      left.marks ∙ ap (λ (k : ℕ). marks_from (length fs / 3 - k) k fs b s) z ∙ ap (λ (k : ℕ). marks_from k 0 fs b s) n

-- the move for family k, read as a chunk
pub moved-chunk : (fs : List ℕ) (b s : ℕ) (families : List (List ℕ)) → families ≡ first_chunks 3 (length fs / 3) fs → length families ≡ length fs / 3 → (k : ℕ) → k < length families
    → (t t' : List ℕ) (one : ℕ) → let x = get_or families k [] in (one ≡ looks_of (get_or x 0 0) (get_or x 1 0) (get_or x 2 0) b s) × (t' ≡ swayed (get_or x 0 0) (get_or x 1 0) (get_or x 2 0) b s t)
    → (one ≡ looks_at fs b s k) × (t' ≡ swayed_of fs b s k t)
moved-chunk fs b s families front count k h t t' one e =
    let w = chunk-three fs families front count k h in
    rw (sym w.0, sym w.1, sym w.2) e

-- ---- the loop: what is still marked is still to be visited

pub record Marked (fs : List ℕ) (b s : ℕ) (t₀ t : List ℕ) (looks m : ℕ) : Type 0 where
  pub table : visited_from (length fs / 3) 0 m fs b s t ≡ swayed_all fs b s t₀
  pub count : (looks + looks_from (length fs / 3) 0 m fs b s) % 2 ^ 64 ≡ looks_all fs b s % 2 ^ 64
  pub fits : looks < 2 ^ 64
  pub word : m < 2 ^ 64
  pub near : (k : ℕ) → has m k ≡ 1 → (k < length fs / 3) × (near_of fs b s k ≡ true)

module _ (fs : List ℕ) (b s : ℕ) (t₀ : List ℕ) where
  pub marked_all : (m : ℕ) → length fs ≤ 192 → m ≡ marks_from (length fs / 3) 0 fs b s → Marked fs b s t₀ t₀ 0 m
  marked_all m h e =
      let c : ℕ = length fs / 3 in
      let few : c ≤ 64 = omega arith in
      let v = visit-all fs b s m c 0 (λ i _ q. digit i (omega arith)) (omega arith) (omega arith) t₀ in
      record {
        table = v.1;
        count = ap (λ (x : ℕ). (0 + x) % 2 ^ 64) v.0 ∙ ap (λ (x : ℕ). x % 2 ^ 64) (none (looks_all fs b s));
        fits = omega arith;
        word = lt_of_lt_of_le low (pow_mono few);
        near = λ k i. marked k i (dec_lt k c);
      }
    where
      none : (x : ℕ) → 0 + x ≡ x
      none x = omega arith

      low : m < 2 ^ (length fs / 3)
      low = subst (λ (x : ℕ). x < 2 ^ (length fs / 3)) (sym e) (marks-lt fs b s (length fs / 3) 0)

      digit : (i : ℕ) → i < length fs / 3 → has m i ≡ cond (near_of fs b s i) 1 0
      digit i q = ap (λ (x : ℕ). has x i) e ∙ marks-digit fs b s (length fs / 3) 0 i q ∙ ap (λ (j : ℕ). cond (near_of fs b s j) 1 0) (none i)

      marked : (k : ℕ) → has m k ≡ 1 → Dec (k < length fs / 3) → (k < length fs / 3) × (near_of fs b s k ≡ true)
      marked k i (yes q) = (q, digit-true (near_of fs b s k) (sym (digit k q) ∙ i))
      marked k i (no q) = absurd (omega (arith, has-high (length fs / 3) m k low (omega arith)))

  module _ (t : List ℕ) (looks m k : ℕ) (left : Marked fs b s t₀ t looks m) (some : m ≡ 0 → ⊥) (low : k ≡ count_trailing_zeros 64 m) where
    pub marked-lowest : (k < length fs / 3) × (near_of fs b s k ≡ true)
    marked-lowest = left.near k (lowest-at m k left.word some low).1

    -- a turn
    pub marked_turn : (t' : List ℕ) (one next m' : ℕ) → (one ≡ looks_at fs b s k) × (t' ≡ swayed_of fs b s k t) → next ≡ (looks + one) % 2 ^ 64 → m' ≡ without_lowest m
        → Marked fs b s t₀ t' next m'
    marked_turn t' one next m' e f g =
        let c : ℕ = length fs / 3 in
        let w : m' ≡ flip m k = without_at m k m' some low g in
        let i = (lowest-at m k left.word some low).1 in
        let v = visit-lowest fs b s m k i (λ j q. lowest-least 64 m j (omega arith)) c 0 (omega arith) (omega (arith, marked-lowest.0)) t in
        let more : ℕ = looks_from c 0 m' fs b s in
        let x : looks_from c 0 m fs b s ≡ one + more = v.0 ∙ ap₂ (λ (x y : ℕ). x + y) (sym e.0) (ap (λ (l : ℕ). looks_from c 0 l fs b s) (sym w)) in
        let n = looks-add looks one more (looks_from c 0 m fs b s) (looks_all fs b s) next left.count x f in
        record {
          table = ap₂ (λ (l : ℕ) (u : List ℕ). visited_from c 0 l fs b s u) w e.1 ∙ sym v.1 ∙ left.table;
          count = n.0;
          fits = n.1;
          word = without-lt m k m' left.word some low g;
          near = λ j q. left.near j (still j (subst (λ (l : ℕ). has l j ≡ 1) w q) (ℕ_discrete j k));
        }
      where
        still : (j : ℕ) → has (flip m k) j ≡ 1 → Dec (j ≡ k) → has m j ≡ 1
        still j q (no o) = sym (has-flip-other m k j o) ∙ q
        still j q (yes e) = subst (λ (i : ℕ). has m i ≡ 1) (sym e) (lowest-at m k left.word some low).1

    pub marked-fewer : (m' : ℕ) → m' ≡ without_lowest m → size m' < size m
    marked-fewer m' g = without_fewer m k m' left.word some low g

  -- the end
  pub marked-none : (t : List ℕ) (looks m : ℕ) → m ≡ 0 → Marked fs b s t₀ t looks m → (looks ≡ looks_all fs b s % 2 ^ 64) × (t ≡ swayed_all fs b s t₀)
  marked-none t looks m e left =
      let c : ℕ = length fs / 3 in
      let v = visit-none fs b s c 0 t in (
        last looks _ _ left.fits (ap (λ (l : ℕ). looks_from c 0 l fs b s) e ∙ v.0) left.count,
        sym v.1 ∙ ap (λ (l : ℕ). visited_from c 0 l fs b s t) (sym e) ∙ left.table,
      )
    where
      last : (x y z : ℕ) → x < 2 ^ 64 → y ≡ 0 → (x + y) % 2 ^ 64 ≡ z → x ≡ z
      last x y z h e f = omega arith
