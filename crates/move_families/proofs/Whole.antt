-- The move for a list of families is the list's move over all their requirements.
use Rattle.std.proofs.Common.{◌≡◌, ℕ, zero, suc, ◌+◌, ◌-◌, ◌*◌, ◌%◌, ◌^◌, ◌<◌, ◌≤◌, Bool, true, false, cond, not, eqb, List, [], ◌∷◌, ◌++◌, map, length, get_or, sym, refl, ap, ◌∙◌, subst, ap₂, lt_of_lt_of_le, arith, length-set, get_or-set_other, get_or-set_same, ext_get_or, pow_mono}
use native.Mathlib.Decide.{ℕ_discrete}
use Rattle.sets.specs.Sets.{has, flip as turn, size, states_from}
use Rattle.sets.proofs.Members.{has-lt, has-flip, has-flip-other, same-mask, flip-lt}
use Rattle.rules.specs.Requirements.{met_count}
use Rattle.rules.specs.Looks.{looks_at, move_looks}
use Rattle.rules.specs.declared.Requirement.{Requirement}
use Rattle.rules.proofs.Good.{AllGood}
use Rattle.move_table.specs.Moves.{moved, looked}
use Rattle.move_table.proofs.Looks.{looked-looks}
use Rattle.move_table.proofs.Shows.{length_moved}
use Rattle.move_table.specs.Table.{raised}
use Rattle.move_table.proofs.Shares.{is_met}
use Rattle.families.specs.Families.{without, inside, single, joined, requirements_of, requirements_in}
use Rattle.families.proofs.Walk.{Words, words-three}
use Rattle.move_halves.specs.Halves.{signed, halved_by, halved, side_but, back_but, swayed_in, swayed_out, swayed}
use Rattle.move_halves.proofs.Modulo.{plus, cancel, sums, both}
use Rattle.move_halves.proofs.Levels.{length-halved}
use Rattle.move_halves.proofs.Sides.{single-good, joined-good}
use Rattle.move_halves.proofs.Meets.{held_at, spare, family-met, outside-at}
use Rattle.move_halves.proofs.Looking.{family-looks}
use Rattle.move_halves.proofs.Swaying.{sways}
use Rattle.move_families.specs.Swayed.{swayed_all, looks_all, doubled}
use Rattle.move_families.proofs.Lists.{join, moved-level, Fits, raised-fits, moved-fits}

-- ---- sums over two lists

pub met-append : (n : ℕ) (rs qs : List Requirement) (b : ℕ) → met_count n (rs ++ qs) b ≡ met_count n rs b + met_count n qs b
unfolding met_count
met-append n [] qs b = sym (zero-plus (met_count n qs b))
  where
    zero-plus : (k : ℕ) → 0 + k ≡ k
    zero-plus k = omega arith
met-append n (r ∷ rs) qs b =
    ap (λ (k : ℕ). is_met n r b + k) (met-append n rs qs b) ∙ assoc (is_met n r b) (met_count n rs b) (met_count n qs b)
  where
    assoc : (x y z : ℕ) → x + (y + z) ≡ x + y + z
    assoc x y z = omega arith

pub looks-append : (n : ℕ) (rs qs : List Requirement) (b s : ℕ) → move_looks n (rs ++ qs) b s ≡ move_looks n rs b s + move_looks n qs b s
unfolding move_looks
looks-append n [] qs b s = sym (zero-plus (move_looks n qs b s))
  where
    zero-plus : (k : ℕ) → 0 + k ≡ k
    zero-plus k = omega arith
looks-append n (r ∷ rs) qs b s =
    ap (λ (k : ℕ). cond (looks_at n r b s) 1 0 + k) (looks-append n rs qs b s) ∙ assoc (cond (looks_at n r b s) 1 0) (move_looks n rs b s) (move_looks n qs b s)
  where
    assoc : (x y z : ℕ) → x + (y + z) ≡ x + y + z
    assoc x y z = omega arith

pub good-append : (n : ℕ) (rs qs : List Requirement) → AllGood n rs → AllGood n qs → AllGood n (rs ++ qs)
good-append n [] qs g h = h
good-append n (r ∷ rs) qs g h = (g.0, good-append n rs qs g.1 h)

-- ---- one family

module _ (n all flip out : ℕ) (ha : all < 2 ^ n) (ho : out < 2 ^ n) (hw : out < 2 ^ 64) where
  good-inside : (ts : List ℕ) → AllGood n (map (joined all flip) (inside (without out all) ts))
  unfolding inside
  good-inside [] = tt
  good-inside (t ∷ ts) = go (has (without out all) t) refl (good-inside ts)
    where
      go : (d : ℕ) → has (without out all) t ≡ d → AllGood n (map (joined all flip) (inside (without out all) ts)) → AllGood n (map (joined all flip) (inside (without out all) (t ∷ ts)))
      go zero e more = rw (inside, e) more
      go (suc d) e more =
          let h = outside-at n all out t ho (omega (arith, has-lt (without out all) t)) in
          rw (inside, e) (joined-good n all flip 0 ha t h.0 h.1, more)

  pub family-good : AllGood n (requirements_of all flip out)
  unfolding requirements_of
  family-good = go (eqb out 0)
    where
      go : (t : Bool) → AllGood n (cond t (single all flip ∷ []) (map (joined all flip) (inside (without out all) (states_from 0 64))))
      go true = (single-good n all flip 0 ha, tt)
      go false = good-inside (states_from 0 64)

-- state k's level, by what is met of some requirements: the moved state's own changes by half
pub record Changed (n : ℕ) (rs : List Requirement) (b s k : ℕ) (t t' : List ℕ) : Type 0 where
  pub other : (k ≡ s → ⊥)
      → (get_or t' k 0 + met_count n rs (turn b s) + met_count n rs (turn b k)) % 2 ^ 32 ≡ (get_or t k 0 + met_count n rs b + met_count n rs (turn (turn b s) k)) % 2 ^ 32
  pub own : k ≡ s → (get_or t' k 0 + met_count n rs (turn b s)) % 2 ^ 32 ≡ (get_or t k 0 + met_count n rs b) % 2 ^ 32

-- one list after another
pub changed-append : (n : ℕ) (rs qs : List Requirement) (b s k : ℕ) (t u w : List ℕ) → Changed n rs b s k t u → Changed n qs b s k u w → Changed n (rs ++ qs) b s k t w
changed-append n rs qs b s k t u w x y =
    let a : ℕ = turn b s in
    record {
      other = λ o.
          sums (sum₄ (get_or w k 0) a (turn b k)) (sum₄ (get_or t k 0) b (turn a k))
          (join (get_or t k 0) (get_or u k 0) (get_or w k 0) (met_count n rs a) (met_count n rs (turn b k)) (met_count n rs b) (met_count n rs (turn a k))
          (met_count n qs a) (met_count n qs (turn b k)) (met_count n qs b) (met_count n qs (turn a k)) (x.other o) (y.other o));
      own = λ z.
          sums (sum₂ (get_or w k 0) a) (sum₂ (get_or t k 0) b)
          (both (get_or t k 0) (get_or u k 0) (get_or w k 0) (met_count n rs a) (met_count n rs b) (met_count n qs a) (met_count n qs b) (x.own z) (y.own z));
    }
  where
    sum₄ : (v c d : ℕ) → v + met_count n (rs ++ qs) c + met_count n (rs ++ qs) d ≡ v + (met_count n rs c + met_count n qs c) + (met_count n rs d + met_count n qs d)
    sum₄ v c d = ap₂ (λ (x y : ℕ). v + x + y) (met-append n rs qs c) (met-append n rs qs d)

    assoc : (x y z : ℕ) → x + (y + z) ≡ x + y + z
    assoc x y z = omega arith

    sum₂ : (v c : ℕ) → v + met_count n (rs ++ qs) c ≡ v + met_count n rs c + met_count n qs c
    sum₂ v c = ap (λ (x : ℕ). v + x) (met-append n rs qs c) ∙ assoc v (met_count n rs c) (met_count n qs c)

module _ (n all flip out b s : ℕ) (ha : all < 2 ^ n) (ho : out < 2 ^ n) (hw : out < 2 ^ 64) (hs : s < n) where
  family-changed : (t : List ℕ) (k : ℕ) → k < n → k < length t → Changed n (requirements_of all flip out) b s k t (swayed all flip out b s t)
  family-changed t k hk l =
      let w = sways n all flip out b s ha ho hw hs t k hk l in
      let rs = requirements_of all flip out in
      let t' : List ℕ = swayed all flip out b s t in
      let m : (c : ℕ) → met_count n (requirements_of all flip out) c + spare all out ≡ held_at all flip out c = λ c. family-met n all flip out c ha ho hw in
      record {
        other = λ o.
            four (get_or t k 0) (get_or t' k 0) (met_count n rs (turn b s)) (met_count n rs (turn b k)) (met_count n rs b) (met_count n rs (turn (turn b s) k)) (spare all out)
            (held_at all flip out (turn b s)) (held_at all flip out (turn b k)) (held_at all flip out b) (held_at all flip out (turn (turn b s) k))
            (m (turn b s)) (m (turn b k)) (m b) (m (turn (turn b s) k)) (w.other o);
        own = λ z.
            two (get_or t k 0) (get_or t' k 0) (met_count n rs (turn b s)) (met_count n rs b) (spare all out) (held_at all flip out (turn b s)) (held_at all flip out b)
            (m (turn b s)) (m b) (w.own z);
      }
    where
      four : (t v x y z u c x' y' z' u' : ℕ) → x + c ≡ x' → y + c ≡ y' → z + c ≡ z' → u + c ≡ u' → (v + x' + y') % 2 ^ 32 ≡ (t + z' + u') % 2 ^ 32
          → (v + x + y) % 2 ^ 32 ≡ (t + z + u) % 2 ^ 32
      four t v x y z u c x' y' z' u' p q r w h =
          let i : v + x + y + (c + c) ≡ v + x' + y' = omega arith in
          let j : t + z + u + (c + c) ≡ t + z' + u' = omega arith in
          cancel (v + x + y) (t + z + u) (c + c) (sums i j h)

      two : (t v x z c x' z' : ℕ) → x + c ≡ x' → z + c ≡ z' → (v + x') % 2 ^ 32 ≡ (t + z') % 2 ^ 32 → (v + x) % 2 ^ 32 ≡ (t + z) % 2 ^ 32
      two t v x z c x' z' p q h =
          let i : v + x + c ≡ v + x' = omega arith in
          let j : t + z + c ≡ t + z' = omega arith in
          cancel (v + x) (t + z) c (sums i j h)

-- the table stays as long, and its levels stay numbers of 32 digits
pub halved-fits : (on : Bool) (w all x right rest : ℕ) (t : List ℕ) → Fits t → Fits (halved on w all x right rest t)
unfolding halved halved_by
halved-fits on w all x right rest t h = go (size x)
  where
    go : (z : ℕ) → Fits (halved_by z on w all x right rest t)
    go zero =
        raised-fits (raised (signed (not on) 1) right 0 (raised (signed (not on) w) all 0 t))
        (raised-fits (raised (signed (not on) w) all 0 t) (raised-fits t h (signed (not on) w) all) (signed (not on) 1) right)
        (signed on 1) rest
    go (suc zero) = raised-fits t h (signed on w) x
    go (suc (suc z)) = h

either-of : (P : List ℕ → Type 0) (u v : Bool) (x y t : List ℕ) → P x → P y → P t → P (cond u x (cond v y t))
either-of P true v x y t p q r = p
either-of P false true x y t p q r = q
either-of P false false x y t p q r = r

module _ (all flip out b s : ℕ) (t : List ℕ) where
  pub length-swayed : length (swayed all flip out b s t) ≡ length t
  unfolding swayed swayed_in swayed_out
  length-swayed =
      either-of (λ (l : List ℕ). length l ≡ length t) (eqb (has all s) 1) (eqb (has (without out all) s) 1) (swayed_in all flip out b s t) (swayed_out all flip b s t) t
      (length-halved _ _ all (back_but all flip b s) _ _ (halved _ _ all (side_but all flip b s) _ _ t) ∙ length-halved _ _ all (side_but all flip b s) _ _ t)
      (length-halved _ _ all (back_but all flip b s) _ _ (halved _ _ all (side_but all flip b s) _ _ t) ∙ length-halved _ _ all (side_but all flip b s) _ _ t)
      refl

  swayed-fits : Fits t → Fits (swayed all flip out b s t)
  unfolding swayed swayed_in swayed_out
  swayed-fits h =
      either-of Fits (eqb (has all s) 1) (eqb (has (without out all) s) 1) (swayed_in all flip out b s t) (swayed_out all flip b s t) t
      (halved-fits _ _ all (back_but all flip b s) _ _ (halved _ _ all (side_but all flip b s) _ _ t) (halved-fits _ _ all (side_but all flip b s) _ _ t h))
      (halved-fits _ _ all (back_but all flip b s) _ _ (halved _ _ all (side_but all flip b s) _ _ t) (halved-fits _ _ all (side_but all flip b s) _ _ t h))
      h

-- ---- a list of families

module _ (b s : ℕ) where
  pub length-swayed-all : (fs : List ℕ) (t : List ℕ) → length (swayed_all fs b s t) ≡ length t
  unfolding swayed_all
  length-swayed-all [] t = refl
  length-swayed-all (all ∷ []) t = refl
  length-swayed-all (all ∷ (flip ∷ [])) t = refl
  length-swayed-all (all ∷ (flip ∷ (out ∷ fs))) t = length-swayed-all fs (swayed all flip out b s t) ∙ length-swayed all flip out b s t

  pub swayed-all-fits : (fs : List ℕ) (t : List ℕ) → Fits t → Fits (swayed_all fs b s t)
  unfolding swayed_all
  swayed-all-fits [] t h = h
  swayed-all-fits (all ∷ []) t h = h
  swayed-all-fits (all ∷ (flip ∷ [])) t h = h
  swayed-all-fits (all ∷ (flip ∷ (out ∷ fs))) t h = swayed-all-fits fs (swayed all flip out b s t) (swayed-fits all flip out b s t h)

module _ (n : ℕ) (wide : 64 ≤ n) where
  pub widen : (x : ℕ) → x < 2 ^ 64 → x < 2 ^ n
  widen x h = lt_of_lt_of_le h (pow_mono wide)

  pub all-good : (fs : List ℕ) → Words fs → AllGood n (requirements_in fs)
  unfolding requirements_in
  all-good [] hw = tt
  all-good (all ∷ []) hw = tt
  all-good (all ∷ (flip ∷ [])) hw = tt
  all-good (all ∷ (flip ∷ (out ∷ fs))) hw =
      good-append n (requirements_of all flip out) (requirements_in fs) (family-good n all flip out (widen all (hw 0)) (widen out (hw 2)) (hw 2))
      (all-good fs (words-three all flip out fs hw))

module _ (n b s : ℕ) (wide : 64 ≤ n) (hs : s < n) where
  -- the looks
  pub all-looks : (fs : List ℕ) → Words fs → move_looks n (requirements_in fs) b s ≡ looks_all fs b s
  unfolding requirements_in looks_all move_looks
  all-looks [] hw = refl
  all-looks (all ∷ []) hw = refl
  all-looks (all ∷ (flip ∷ [])) hw = refl
  all-looks (all ∷ (flip ∷ (out ∷ fs))) hw =
      looks-append n (requirements_of all flip out) (requirements_in fs) b s
      ∙ ap₂ (λ (x y : ℕ). x + y) (family-looks n all flip out b s (widen n wide all (hw 0)) (widen n wide out (hw 2)) (hw 2) hs)
      (all-looks fs (words-three all flip out fs hw))

  -- the levels
  module _ (k : ℕ) (hk : k < n) where
    pub all_changed : (fs : List ℕ) → Words fs → (t : List ℕ) → k < length t → Changed n (requirements_in fs) b s k t (swayed_all fs b s t)
    unfolding requirements_in swayed_all met_count
    all_changed [] hw t l = record { other = λ o. refl; own = λ z. refl }
    all_changed (all ∷ []) hw t l = record { other = λ o. refl; own = λ z. refl }
    all_changed (all ∷ (flip ∷ [])) hw t l = record { other = λ o. refl; own = λ z. refl }
    all_changed (all ∷ (flip ∷ (out ∷ fs))) hw t l =
        let u : List ℕ = swayed all flip out b s t in
        let lu : k < length u = omega (arith, length-swayed all flip out b s t) in
        changed-append n (requirements_of all flip out) (requirements_in fs) b s k t u (swayed_all fs b s u)
        (family-changed n all flip out b s (widen n wide all (hw 0)) (widen n wide out (hw 2)) (hw 2) hs t k hk l)
        (all_changed fs (words-three all flip out fs hw) u lu)

-- ---- the table as it ends

turn-back : (n b s : ℕ) → b < 2 ^ n → s < n → turn (turn b s) s ≡ b
turn-back n b s hb hs = same-mask n (turn (turn b s) s) b (flip-lt n (turn b s) s (flip-lt n b s hb hs) hs) hb (λ t _. each t (ℕ_discrete t s))
  where
    each : (t : ℕ) → Dec (t ≡ s) → has (turn (turn b s) s) t ≡ has b t
    each t (yes e) = subst (λ (u : ℕ). has (turn (turn b u) u) t ≡ has b t) e (omega (arith, has-flip (turn b t) t, has-flip b t, has-lt b t))
    each t (no o) = has-flip-other (turn b s) s t o ∙ has-flip-other b s t o

-- numbers of 32 digits with the same sums
pub same-level : (x y c : ℕ) → x < 2 ^ 32 → y < 2 ^ 32 → (x + c) % 2 ^ 32 ≡ (y + c) % 2 ^ 32 → x ≡ y
same-level x y c h g e = let z = cancel x y c e in omega arith

twice : (v w p q : ℕ) → v < 2 ^ 32 → (w + p) % 2 ^ 32 ≡ (v + q) % 2 ^ 32 → ((2 * w + (2 ^ 32 - v)) % 2 ^ 32 + (p + p)) % 2 ^ 32 ≡ (v + (q + q)) % 2 ^ 32
twice v w p q h e =
    let x : w + (w + p) + p ≡ w + w + p + p = omega arith in
    let f : (w + p + (w + p)) % 2 ^ 32 ≡ (v + q + (v + q)) % 2 ^ 32 = two (w + p) (v + q) e in
    let l : 2 * w + (2 ^ 32 - v) + (p + p) ≡ w + p + (w + p) + (2 ^ 32 - v) = omega arith in
    let r : v + (q + q) + 2 ^ 32 ≡ v + q + (v + q) + (2 ^ 32 - v) = omega arith in
    inner (2 * w + (2 ^ 32 - v)) (p + p)
    ∙ ap (λ (m : ℕ). m % 2 ^ 32) l
    ∙ plus (w + p + (w + p)) (v + q + (v + q)) (2 ^ 32 - v) f
    ∙ sym (ap (λ (m : ℕ). m % 2 ^ 32) r)
    ∙ whole (v + (q + q))
  where
    two : (x y : ℕ) → x % 2 ^ 32 ≡ y % 2 ^ 32 → (x + x) % 2 ^ 32 ≡ (y + y) % 2 ^ 32
    two x y e = omega arith

    inner : (x c : ℕ) → (x % 2 ^ 32 + c) % 2 ^ 32 ≡ (x + c) % 2 ^ 32
    inner x c = omega arith

    whole : (x : ℕ) → (x + 2 ^ 32) % 2 ^ 32 ≡ x % 2 ^ 32
    whole x = omega arith

-- a table in which each level has changed so, with the moved state's own change made twice, is the list's move
pub changed-moved : (n : ℕ) (rs : List Requirement) → AllGood n rs → (b s : ℕ) → b < 2 ^ n → s < n → (t u : List ℕ) → length t ≤ n → length u ≡ length t → Fits t → Fits u
    → ((k : ℕ) → k < length t → Changed n rs b s k t u) → doubled s (get_or t s 0) u ≡ moved rs b (turn b s) s t
changed-moved n rs good b s hb hs t u short long fit fit' changed =
    ext_get_or 0 (doubled s (get_or t s 0) u) (moved rs b (turn b s) s t)
    (length-set u s _ ∙ long ∙ sym (length_moved rs b (turn b s) s t))
    (λ k h. each k (omega (arith, long, length-set u s ((2 * get_or u s 0 + (2 ^ 32 - get_or t s 0)) % 2 ^ 32))) (ℕ_discrete k s))
  where
    assoc : (x y z : ℕ) → x + (y + z) ≡ x + y + z
    assoc x y z = omega arith

    own : s < length t → get_or (doubled s (get_or t s 0) u) s 0 ≡ get_or (moved rs b (turn b s) s t) s 0
    own l =
        let y = moved-level n b s s hb hs hs rs good t l in
        let w : ℕ = (2 * get_or u s 0 + (2 ^ 32 - get_or t s 0)) % 2 ^ 32 in
        let p : ℕ = met_count n rs (turn b s) in
        let q : ℕ = met_count n rs b in
        get_or-set_same u s w 0 (omega (arith, long))
        ∙ same-level w (get_or (moved rs b (turn b s) s t) s 0) (p + p) (omega arith) (moved-fits rs b (turn b s) s t fit s)
        (twice (get_or t s 0) (get_or u s 0) p q (fit s) ((changed s l).own refl)
        ∙ sums (assoc (get_or t s 0) q q) refl refl
        ∙ ap (λ (m : ℕ). (get_or t s 0 + q + met_count n rs m) % 2 ^ 32) (sym (turn-back n b s hb hs))
        ∙ sym y
        ∙ sym (sums (assoc (get_or (moved rs b (turn b s) s t) s 0) p p) refl refl))

    each : (k : ℕ) → k < length t → Dec (k ≡ s) → get_or (doubled s (get_or t s 0) u) k 0 ≡ get_or (moved rs b (turn b s) s t) k 0
    each k l (no o) =
        let y = moved-level n b s k hb hs (omega arith) rs good t l in
        let p : ℕ = met_count n rs (turn b s) in
        let q : ℕ = met_count n rs (turn b k) in
        get_or-set_other u s k _ 0 o
        ∙ same-level (get_or u k 0) (get_or (moved rs b (turn b s) s t) k 0) (p + q) (fit' k) (moved-fits rs b (turn b s) s t fit k)
        (sums (assoc (get_or u k 0) p q) (assoc (get_or (moved rs b (turn b s) s t) k 0) p q) ((changed k l).other o ∙ sym y))
    each k l (yes e) = subst (λ (k : ℕ). k < length t → get_or (doubled s (get_or t s 0) u) k 0 ≡ get_or (moved rs b (turn b s) s t) k 0) (sym e) own l

module _ (fs : List ℕ) (hw : Words fs) (b s : ℕ) (hb : b < 2 ^ 64) (t : List ℕ) (fit : Fits t) where
  -- as many states as the table and the move may name
  n : ℕ
  n = 64 + (length t + suc s)

  wide : 64 ≤ n
  unfolding n
  wide = omega arith

  hs : s < n
  unfolding n
  hs = omega arith

  hb' : b < 2 ^ n
  hb' = lt_of_lt_of_le hb (pow_mono wide)

  pub moved-families : doubled s (get_or t s 0) (swayed_all fs b s t) ≡ moved (requirements_in fs) b (turn b s) s t
  unfolding n
  moved-families =
      changed-moved n (requirements_in fs) (all-good n wide fs hw) b s hb' hs t (swayed_all fs b s t) (omega arith)
      (length-swayed-all b s fs t) fit (swayed-all-fits b s fs t fit)
      (λ k l. all_changed n b s wide hs k (omega arith) fs hw t l)

  pub looked-families : looked (requirements_in fs) b (turn b s) s ≡ looks_all fs b s
  looked-families = looked-looks n b s hb' hs (requirements_in fs) (all-good n wide fs hw) ∙ all-looks n b s wide hs fs hw
