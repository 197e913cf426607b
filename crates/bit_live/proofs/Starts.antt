-- The lowest requirement: of a family, of a list of families, and of the live ones.
use Rattle.std.proofs.Common.{◌≡◌, ℕ, zero, suc, ◌+◌, ◌-◌, ◌^◌, ◌<◌, ◌≤◌, min, Bool, cond, List, [], ◌∷◌, ◌++◌, map, length, get_or, sym, refl, ap, ◌∙◌, subst, ap₂, append_assoc, append-nil, arith, eq-eqb, ne_eqb}
use native.Mathlib.Decide.{dec_lt, ℕ_discrete}
use lib.Bits.{bit_and, bit_or}
use lib.Count.{count_trailing_zeros}
use lib.ListN.{get_or-eq_default}
use Rattle.sets.specs.Sets.{has, only, states_from}
use Rattle.sets.proofs.Members.{has-none}
use Rattle.sets.proofs.LowestMember.{lowest-at, lowest-least}
use Rattle.rules.specs.OneBit.{start}
use Rattle.rules.specs.declared.Requirement.{Requirement}
use Rattle.families.specs.Families.{without, inside, single, joined, requirements_of, requirements_in}
use Rattle.families.proofs.Inside.{inside-in, inside-out, inside-none}
use Rattle.move_pairs.specs.Pairs.{live_pairs, partners_of}
use Rattle.move_pairs.proofs.Partners.{pairs_among, pairs_of, Partners}
use Rattle.move_pairs.proofs.Pair.{pair}
use Rattle.move_pairs.proofs.Agreed.{partners_by, partners-at, partners-length, partners-table, partners-pairs}
use Rattle.bit_live.specs.Lowest.{FirstPaired}

-- the first requirement of some states is that of the lowest member
start-inside : (g : ℕ → Requirement) (qs : List Requirement) (m j k a : ℕ) → a ≤ j → j < a + k → has m j ≡ 1 → ((t : ℕ) → t < j → has m t ≡ 0)
    → start (map g (inside m (states_from a k)) ++ qs) ≡ (g j).second
unfolding inside states_from
start-inside g qs m j zero a l h e o = absurd (omega arith)
start-inside g qs m j (suc k) a l h e o = go (ℕ_discrete a j) (λ z. start-inside g qs m j k (suc a) (omega arith) (omega arith) e o)
  where
    go : Dec (a ≡ j) → ((a ≡ j → ⊥) → start (map g (inside m (states_from (suc a) k)) ++ qs) ≡ (g j).second) → start (map g (inside m (states_from a (suc k))) ++ qs) ≡ (g j).second
    go (yes z) later = ap (λ (l : List ℕ). start (map g l ++ qs)) (inside-in m a (states_from (suc a) k) (ap (has m) z ∙ e)) ∙ ap (λ (t : ℕ). (g t).second) z
    go (no z) later = ap (λ (l : List ℕ). start (map g l ++ qs)) (inside-out m a (states_from (suc a) k) (o a (omega arith))) ∙ later z

none_after : (g : ℕ → Requirement) (m : ℕ) → m ≡ 0 → (ts : List ℕ) → map g (inside m ts) ≡ []
none_after g m e ts = ap (map g) (inside-none m (λ t. ap (λ (k : ℕ). has k t) e ∙ has-none t) ts)

-- ---- a family

module _ (all flip out : ℕ) where
  pub start-single : out ≡ 0 → start (requirements_of all flip out) ≡ bit_and all flip
  unfolding requirements_of
  start-single e = ap (λ (t : Bool). start (cond t (single all flip ∷ []) (map (joined all flip) (inside (without out all) (states_from 0 64))))) (eq-eqb out 0 e)

  group : (out ≡ 0 → ⊥) → start (requirements_of all flip out) ≡ start (map (joined all flip) (inside (without out all) (states_from 0 64)))
  unfolding requirements_of
  group o = ap (λ (t : Bool). start (cond t (single all flip ∷ []) (map (joined all flip) (inside (without out all) (states_from 0 64))))) (ne_eqb out 0 o)

  pub start_none : (out ≡ 0 → ⊥) → without out all ≡ 0 → start (requirements_of all flip out) ≡ 0
  start_none o e = group o ∙ ap start (none_after (joined all flip) (without out all) e (states_from 0 64))

  pub start-group : (k : ℕ) → (out ≡ 0 → ⊥) → without out all < 2 ^ 64 → (without out all ≡ 0 → ⊥) → k ≡ count_trailing_zeros 64 (without out all)
      → start (requirements_of all flip out) ≡ bit_or (bit_and all flip) (only k)
  start-group k o h z e =
      let m : ℕ = without out all in
      let l = lowest-at m k h z e in
      group o
      ∙ ap start (sym (append-nil (map (joined all flip) (inside m (states_from 0 64)))))
      ∙ start-inside (joined all flip) [] m k 64 0 (omega arith) (omega (arith, l.0)) l.1 (λ t q. lowest-least 64 m t (subst (λ (j : ℕ). t < j) e q))

-- ---- a list of families: those without a requirement are passed over

pub families-short : (fs : List ℕ) → length fs ≤ 2 → requirements_in fs ≡ []
unfolding requirements_in
families-short [] h = refl
families-short (all ∷ []) h = refl
families-short (all ∷ (flip ∷ [])) h = refl
families-short (all ∷ (flip ∷ (out ∷ fs))) h = absurd (omega arith)

-- a list without an element
empty : (rs : List Requirement) → length rs ≡ 0 → rs ≡ []
empty [] e = refl
empty (r ∷ rs) e = absurd (omega arith)

start_first : (rs qs : List Requirement) → (length rs ≡ 0 → ⊥) → start (rs ++ qs) ≡ start rs
start_first [] qs o = absurd (o refl)
start_first (r ∷ rs) qs o = refl

module _ (l rest : List ℕ) (all flip out : ℕ) (e : l ≡ all ∷ (flip ∷ (out ∷ rest))) where
  parts : requirements_in l ≡ requirements_of all flip out ++ requirements_in rest
  unfolding requirements_in
  parts = ap requirements_in e

  pub passed_over : length (requirements_of all flip out) ≡ 0 → requirements_in rest ≡ requirements_in l
  passed_over z = sym (parts ∙ ap (λ (rs : List Requirement). rs ++ requirements_in rest) (empty (requirements_of all flip out) z))

  pub start-here : (length (requirements_of all flip out) ≡ 0 → ⊥) → start (requirements_of all flip out) ≡ start (requirements_in l)
  start-here o = sym (ap start parts ∙ start_first (requirements_of all flip out) (requirements_in rest) o)

pub start-over : (l : List ℕ) → length l ≤ 2 → 0 ≡ start (requirements_in l)
start-over l h = sym (ap start (families-short l h))

-- ---- the live pairs

-- states without a partner are passed over
skip : (ps : List ℕ) (i d a m : ℕ) → i ≡ a + d → ((t : ℕ) → t < i → get_or ps t 0 ≡ 0) → pairs_among ps (states_from a (d + m)) ≡ pairs_among ps (states_from i m)
unfolding pairs_among states_from
skip ps i zero a m e o = let z : 0 + m ≡ m = omega arith in let y : a ≡ i = omega arith in ap₂ (λ (b k : ℕ). pairs_among ps (states_from b k)) y z
skip ps i (suc d) a m e o =
    let z : suc d + m ≡ suc (d + m) = omega arith in
    ap (λ (k : ℕ). pairs_among ps (states_from a k)) z
    ∙ ap (λ (l : List Requirement). l ++ pairs_among ps (states_from (suc a) (d + m))) (none_after (pair a) (get_or ps a 0) (o a (omega arith)) (states_from (suc a) (d + m)))
    ∙ skip ps i d (suc a) m (omega arith) o

pub nobody-from : (ps : List ℕ) (m a : ℕ) → ((t : ℕ) → a ≤ t → get_or ps t 0 ≡ 0) → pairs_among ps (states_from a m) ≡ []
unfolding pairs_among states_from
nobody-from ps zero a o = refl
nobody-from ps (suc m) a o =
    ap (λ (l : List Requirement). l ++ pairs_among ps (states_from (suc a) m)) (none_after (pair a) (get_or ps a 0) (o a (omega arith)) (states_from (suc a) m))
    ∙ nobody-from ps m (suc a) (λ t h. o t (omega arith))

pub none-behind : (n : ℕ) (bits : List ℕ) (t : ℕ) → min n 64 ≤ t → get_or (partners_by n bits) t 0 ≡ 0
none-behind n bits t h = let l : length (partners_by n bits) ≤ t = omega (arith, partners-length n bits) in get_or-eq_default (partners_by n bits) 0 l

pub pairs-nobody : (n : ℕ) (bits : List ℕ) → ((k : ℕ) → k < min n 64 → partners_of n bits k ≡ 0) → live_pairs n bits ≡ []
unfolding pairs_of
pairs-nobody n bits o = sym (partners-pairs n bits) ∙ nobody-from (partners_by n bits) 64 0 (λ t _. go t (dec_lt t (min n 64)))
  where
    go : (t : ℕ) → Dec (t < min n 64) → get_or (partners_by n bits) t 0 ≡ 0
    go t (yes h) = partners-at n bits t ∙ o t h
    go t (no h) = none-behind n bits t (omega arith)

module _ (n : ℕ) (bits : List ℕ) (i : ℕ) (f : FirstPaired n bits i) where
  ps : List ℕ
  ps = partners_by n bits

  at : (t : ℕ) → get_or ps t 0 ≡ partners_of n bits t
  unfolding ps
  at t = partners-at n bits t

  pub pairs-some : (k : ℕ) (qs : List Requirement) → k ≡ count_trailing_zeros 64 (partners_of n bits i) → (k < 64) × (start (live_pairs n bits ++ qs) ≡ only k)
  unfolding pairs_of pairs_among states_from ps
  pairs-some k qs e =
      let table : Partners ps = partners-table n bits in
      let p : ℕ = get_or ps i 0 in
      let o' : p ≡ 0 → ⊥ = λ z. f.some (sym (at i) ∙ z) in
      let e' : k ≡ count_trailing_zeros 64 p = e ∙ ap (count_trailing_zeros 64) (sym (at i)) in
      let l = lowest-at p k (table.words i) o' e' in
      let back : has (get_or ps k 0) i ≡ 1 = sym (table.back i k) ∙ l.1 in
      let after : i < k = behind table (dec_lt i k) l.1 back in
      let hi : i < 64 = omega (arith, l.0) in
      let z : 64 ≡ i + suc (63 - i) = omega arith in
      let rest : List Requirement = pairs_among ps (states_from (suc i) (63 - i)) in (
        l.0,
        ap (λ (rs : List Requirement). start (rs ++ qs))
            (sym (partners-pairs n bits)
            ∙ ap (λ (m : ℕ). pairs_among ps (states_from 0 m)) z
            ∙ skip ps i i 0 (suc (63 - i)) (omega arith) (λ t h. at t ∙ f.none t h))
            ∙ ap start (append_assoc (map (pair i) (inside p (states_from (suc i) (63 - i)))) rest qs)
            ∙ start-inside (pair i) (rest ++ qs) p k (63 - i) (suc i) after (omega (arith, l.0)) l.1 (λ t q. lowest-least 64 p t (subst (λ (j : ℕ). t < j) e' q)),
      )
    where
      behind : Partners ps → Dec (i < k) → has (get_or ps i 0) k ≡ 1 → has (get_or ps k 0) i ≡ 1 → i < k
      behind table (yes h) x y = h
      behind table (no h) x y = go (ℕ_discrete k i)
        where
          go : Dec (k ≡ i) → i < k
          go (yes z) = absurd (omega (arith, table.others i, ap (has (get_or ps i 0)) z))
          go (no z) = absurd (omega (arith, ap (λ (m : ℕ). has m i) (at k ∙ f.none k (omega arith)), has-none i))
