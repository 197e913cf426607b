-- How many requirements there are: of a family, of a list of families, and of the live pairs.
use Rattle.std.proofs.Common.{◌≡◌, ℕ, zero, suc, ◌+◌, ◌-◌, ◌%◌, ◌^◌, ◌<◌, ◌≤◌, min, List, ◌∷◌, map, length, get_or, sym, ap, ◌∙◌, ap₂, arith, length-append, pow_pos, eq-eqb, ne_eqb}
use lib.ListN.{length-map}
use Rattle.sets.specs.Sets.{has, everyone, size, total, states_from}
use Rattle.sets.proofs.Members.{has-lt, has_all, has-high}
use Rattle.sets.proofs.Totals.{total-same, none-total}
use Rattle.sets.proofs.Size.{size-total}
use Rattle.sets.proofs.SizeMembers.{size_few}
use Rattle.families.specs.Families.{without, inside, joined, requirements_of, requirements_in}
use Rattle.families.proofs.Parts.{has_rest, rest_lt}
use Rattle.families.proofs.Walking.{walked-total, walked-length}
use Rattle.move_families.proofs.Turn.{looks-add}
use Rattle.move_pairs.specs.Pairs.{live_pairs, partners_of}
use Rattle.move_pairs.proofs.Partners.{pairs_among, pairs_of, Partners}
use Rattle.move_pairs.proofs.Pair.{pair}
use Rattle.move_pairs.proofs.Agreed.{partners_by, partners-at, partners-table, partners-pairs}
use Rattle.bit_live.proofs.Starts.{families-short, nobody-from, none-behind}

-- a sum in two parts
total-parts : (f : ℕ → ℕ) (a k : ℕ) → total (a + k) f ≡ total a f + total k (λ d. f (a + d))
unfolding total
total-parts f zero k =
    let e : 0 + k ≡ k = omega arith in
    ap (λ (j : ℕ). total j f) e ∙ total-same k f (λ d. f (0 + d)) (λ d _. ap f (none d)) ∙ sym (nought (total k (λ d. f (0 + d))))
  where
    none : (d : ℕ) → d ≡ 0 + d
    none d = omega arith

    nought : (x : ℕ) → 0 + x ≡ x
    nought x = omega arith
total-parts f (suc a) k =
    let e : suc a + k ≡ suc (a + k) = omega arith in
    ap (λ (j : ℕ). total j f) e
    ∙ ap (λ (x : ℕ). f 0 + x) (total-parts (λ d. f (suc d)) a k ∙ ap (λ (x : ℕ). total a (λ d. f (suc d)) + x) (total-same k (λ d. f (suc (a + d))) (λ d. f (suc a + d)) (λ d _. ap f (next d))))
    ∙ assoc (f 0) (total a (λ d. f (suc d))) (total k (λ d. f (suc a + d)))
  where
    next : (d : ℕ) → suc (a + d) ≡ suc a + d
    next d = omega arith

    assoc : (x y z : ℕ) → x + (y + z) ≡ x + y + z
    assoc x y z = omega arith

-- the members from a on
above-count : (p a k : ℕ) → p < 2 ^ 64 → a + k ≡ 64 → length (inside p (states_from a k)) ≡ size (without p (everyone a))
above-count p a k h e =
    let q : ℕ = without p (everyone a) in
    let z : total a (has q) ≡ 0 = none-total a (has q) (λ t l. omega (arith, has_rest p (everyone a) t, has_all a t l, has-lt p t)) in
    let s : total (a + k) (has q) ≡ total a (has q) + total k (λ d. has q (a + d)) = total-parts (has q) a k in
    walked-total p a k
    ∙ total-same k (λ d. has p (a + d)) (λ d. has q (a + d))
    (λ d _. sym (has_rest p (everyone a) (a + d) ∙ behind (has p (a + d)) (has (everyone a) (a + d)) (has-high a (everyone a) (a + d) all-lt (omega arith)) (has-lt p (a + d))))
    ∙ last (total k (λ d. has q (a + d))) (total a (has q)) (total (a + k) (has q)) z s
    ∙ ap (λ (j : ℕ). total j (has q)) e
    ∙ sym (size-total 64 q (rest_lt 64 p (everyone a) h))
  where
    all-lt : everyone a < 2 ^ a
    all-lt = omega (arith, pow_pos a)

    behind : (x y : ℕ) → y ≡ 0 → x < 2 → (x + min x y) % 2 ≡ x
    behind x y e l = omega arith

    last : (x y w : ℕ) → y ≡ 0 → w ≡ y + x → x ≡ w
    last x y w e f = omega arith

-- ---- a family

module _ (all flip out : ℕ) where
  pub count-single : out ≡ 0 → length (requirements_of all flip out) ≡ 1
  unfolding requirements_of
  count-single e = rw (eq-eqb out 0 e)

  pub count-group : (out ≡ 0 → ⊥) → out < 2 ^ 64 → length (requirements_of all flip out) ≡ size (without out all)
  unfolding requirements_of
  count-group o h =
      rw (ne_eqb out 0 o)
      (length-map (inside (without out all) (states_from 0 64)) (joined all flip) ∙ walked-length (without out all) (rest_lt 64 out all h))

-- ---- a list of families, modulo 2 ^ 64: what is left of it is still to be counted

pub count-more : (l rest : List ℕ) (all flip out : ℕ) → l ≡ all ∷ (flip ∷ (out ∷ rest)) → length (requirements_in l) ≡ length (requirements_of all flip out) + length (requirements_in rest)
unfolding requirements_in
count-more l rest all flip out e = ap (λ (k : List ℕ). length (requirements_in k)) e ∙ length-append (requirements_of all flip out) (requirements_in rest)

pub count-end : (l : List ℕ) → length l ≤ 2 → length (requirements_in l) ≡ 0
count-end l h = ap length (families-short l h)

pub record Counted (fs : List ℕ) (count : ℕ) (rest : List ℕ) : Type 0 where
  pub sum : (count + length (requirements_in rest)) % 2 ^ 64 ≡ length (requirements_in fs) % 2 ^ 64
  pub fits : count < 2 ^ 64

module _ (fs : List ℕ) where
  pub counted_none : Counted fs 0 fs
  counted_none = record { sum = ap (λ (m : ℕ). m % 2 ^ 64) (none (length (requirements_in fs))); fits = omega arith }
    where
      none : (x : ℕ) → 0 + x ≡ x
      none x = omega arith

  pub counted_next : (count one next : ℕ) (l rest : List ℕ) (all flip out : ℕ) → l ≡ all ∷ (flip ∷ (out ∷ rest)) → Counted fs count l → one ≡ length (requirements_of all flip out)
      → next ≡ (count + one) % 2 ^ 64 → Counted fs next rest
  counted_next count one next l rest all flip out w g e f =
      let more : ℕ = length (requirements_in rest) in
      let k = looks-add count one more (length (requirements_in l)) (length (requirements_in fs)) next g.sum (count-more l rest all flip out w ∙ ap (λ (m : ℕ). m + more) (sym e)) f in
      record { sum = k.0; fits = k.1 }

  pub counted-all : (count : ℕ) (l : List ℕ) → length l ≤ 2 → Counted fs count l → count ≡ length (requirements_in fs) % 2 ^ 64
  counted-all count l h g = last count (length (requirements_in l)) (length (requirements_in fs) % 2 ^ 64) g.fits (count-end l h) g.sum
    where
      last : (x y z : ℕ) → x < 2 ^ 64 → y ≡ 0 → (x + y) % 2 ^ 64 ≡ z → x ≡ z
      last x y z h e f = omega arith

-- ---- the live pairs: for each state those of its partners that stand behind it

among-step : (ps : List ℕ) → Partners ps → (k a : ℕ) → suc a + k ≡ 64
    → length (pairs_among ps (states_from a (suc k))) ≡ size (without (get_or ps a 0) (everyone (suc a))) + length (pairs_among ps (states_from (suc a) k))
unfolding pairs_among states_from
among-step ps table k a e =
    length-append (map (pair a) (inside (get_or ps a 0) (states_from (suc a) k))) (pairs_among ps (states_from (suc a) k))
    ∙ ap (λ (x : ℕ). x + length (pairs_among ps (states_from (suc a) k)))
    (length-map (inside (get_or ps a 0) (states_from (suc a) k)) (pair a) ∙ above-count (get_or ps a 0) (suc a) k (table.words a) e)

module _ (n : ℕ) (bits : List ℕ) where
  -- those of the states from i on
  unfoldable pub pairsFrom : ℕ → ℕ
  unfolding partners_by pairs_among states_from
  pairsFrom i = length (pairs_among (partners_by n bits) (states_from i (64 - i)))

  pub pairs_first : pairsFrom 0 ≡ length (live_pairs n bits)
  unfolding pairsFrom pairs_of
  pairs_first = ap length (partners-pairs n bits)

  pub pairs-more : (i p above : ℕ) → i < min n 64 → p ≡ partners_of n bits i → above ≡ without p (everyone (min (i + 1) 64)) → pairsFrom i ≡ size above + pairsFrom (i + 1)
  unfolding pairsFrom
  pairs-more i p above h ep ea =
      let ps : List ℕ = partners_by n bits in
      let e : 64 - i ≡ suc (64 - (i + 1)) = omega arith in
      let j : suc i ≡ i + 1 = omega arith in
      let m : min (i + 1) 64 ≡ i + 1 = omega arith in
      ap (λ (k : ℕ). length (pairs_among ps (states_from i k))) e
      ∙ among-step ps (partners-table n bits) (64 - (i + 1)) i (omega arith)
      ∙ ap₂ (λ (p a : ℕ). size (without p (everyone a)) + length (pairs_among ps (states_from a (64 - (i + 1))))) (partners-at n bits i ∙ sym ep) j
      ∙ ap (λ (x : ℕ). size x + length (pairs_among ps (states_from (i + 1) (64 - (i + 1))))) (sym (ea ∙ ap (λ (a : ℕ). without p (everyone a)) m))

  pub pairs_end : (i : ℕ) → min n 64 ≤ i → pairsFrom i ≡ 0
  unfolding pairsFrom
  pairs_end i h = ap length (nobody-from (partners_by n bits) (64 - i) i (λ t l. none-behind n bits t (omega arith)))

  pub above-few : (i p above : ℕ) → p ≡ partners_of n bits i → above ≡ without p (everyone (min (i + 1) 64)) → size above ≤ 64
  above-few i p above ep ea =
      let h : p < 2 ^ 64 = rw (ep, ← partners-at n bits i) ((partners-table n bits).words i) in
      size_few 64 above (rw ea (rest_lt 64 p (everyone (min (i + 1) 64)) h))
