-- The codes of a small machine as lists of columns: every one is listed and no other, in their order; where the first of some codes that has p stands; and the
-- columns tried one after the other.
use mathlib.Core.Path.{◌≡◌, refl, sym, ap, ◌∙◌}
use mathlib.Core.Logic.{◌⊎◌, inl, inr, ⊎_elim}
use mathlib.Core.Bool.{Bool, true, false}
use mathlib.Core.List.{List, [], ◌∷◌, ◌++◌, map, Memᴰ}
use Prim.Native.Nat.{ℕ, zero, suc, ◌<◌}
use native.Mathlib.Omega.{arith}
use lib.ListN.{length}
use Rattle.sets.specs.Sets.{states_from}
use Rattle.rules.specs.Least.{in_front, codes_of, First, first, none, first_with}
use Rattle.rules.proofs.Runs.{Below}
use Rattle.rules.proofs.Asked.{state-listed, state-below}
use mathlib.Core.List.Memᴰ

-- a code of w columns, each a number below c
abbrev pub Columns : ℕ → ℕ → List ℕ → Type 0
Columns c w code = (length code ≡ w) × Below c code

-- one code comes before another of its width: compared first column first
abbrev pub Before : List ℕ → List ℕ → Type 0
Before [] b = ⊥
Before (v ∷ a) [] = ⊥
Before (v ∷ a) (u ∷ b) = (v < u) ⊎ ((v ≡ u) × Before a b)

-- each comes before all that stand behind it
abbrev pub InOrder : List (List ℕ) → Type 0
InOrder [] = Unit {0}
InOrder (code ∷ codes) = ((other : List ℕ) → Memᴰ other codes → Before code other) × InOrder codes

-- ---- every code is listed, and no other

module _ (codes : List (List ℕ)) where
  in-front : (vs : List ℕ) (v : ℕ) (code : List ℕ) → Memᴰ v vs → Memᴰ code codes → Memᴰ (v ∷ code) (in_front vs codes)
  unfolding in_front
  in-front [] v code h m = absurd (Memᴰ.not-nil h)
  in-front (u ∷ us) v code h m =
      ⊎_elim
      (λ e. Memᴰ.append_left (in_front us codes) (Memᴰ.cast (ap (λ (x : ℕ). x ∷ code) e) (Memᴰ.map (λ (l : List ℕ). u ∷ l) m)))
      (λ q. Memᴰ.append_right (map (λ l. u ∷ l) codes) (in-front us v code q m))
      (Memᴰ.cases_cons h)

  -- what stands in front is a column, and behind it stands a code
  abbrev Fronted : List ℕ → List ℕ → Type 0
  Fronted vs l = (v : ℕ) × (code : List ℕ) × (l ≡ v ∷ code) × Memᴰ v vs × Memᴰ code codes

  fronted : (vs : List ℕ) (l : List ℕ) → Memᴰ l (in_front vs codes) → Fronted vs l
  unfolding in_front
  fronted [] l m = absurd (Memᴰ.not-nil m)
  fronted (u ∷ us) l m = ⊎_elim here (λ q. later (fronted us l q)) (Memᴰ.append_cases (map (λ l. u ∷ l) codes) m)
    where
      here : Memᴰ l (map (λ l. u ∷ l) codes) → Fronted (u ∷ us) l
      here q = let o = Memᴰ.of_map (λ (l : List ℕ). u ∷ l) codes q in (u, o.0, sym o.2, Memᴰ.head refl, o.1)

      later : Fronted us l → Fronted (u ∷ us) l
      later o = (o.0, o.1, o.2, Memᴰ.tail o.3, o.4)

pub code-listed : (c w : ℕ) (code : List ℕ) → Columns c w code → Memᴰ code (codes_of c w)
unfolding codes_of
code-listed c zero [] h = Memᴰ.head refl
code-listed c zero (v ∷ code) h = absurd (omega (arith, h.0))
code-listed c (suc w) [] h = absurd (omega (arith, h.0))
code-listed c (suc w) (v ∷ code) h =
    in-front (codes_of c w) (states_from 0 c) v code (state-listed 0 c v (omega arith) (omega (arith, h.1.0))) (code-listed c w code (omega (arith, h.0), h.1.1))

pub listed-code : (c w : ℕ) (code : List ℕ) → Memᴰ code (codes_of c w) → Columns c w code
unfolding codes_of
listed-code c zero code m = ⊎_elim (λ e. rw e (refl, tt)) (λ q. absurd (Memᴰ.not-nil q)) (Memᴰ.cases_cons m)
listed-code c (suc w) code m =
    let o = fronted (codes_of c w) (states_from 0 c) code m in
    let s = state-below 0 c o.0 o.3 in
    let k = listed-code c w o.1 o.4 in
    rw o.2 (ap suc k.0, (omega (arith, s.1), k.1))

-- ---- they stand in their order

order-map : (v : ℕ) (codes : List (List ℕ)) → InOrder codes → InOrder (map (λ l. v ∷ l) codes)
order-map v [] h = tt
order-map v (code ∷ codes) h = (behind, order-map v codes h.1)
  where
    behind : (other : List ℕ) → Memᴰ other (map (λ l. v ∷ l) codes) → Before (v ∷ code) other
    behind other m = let o = Memᴰ.of_map (λ (l : List ℕ). v ∷ l) codes m in rw (sym o.2) (inr (refl, h.0 o.0 o.1))

order-append : (ls ms : List (List ℕ)) → InOrder ls → InOrder ms → ((a b : List ℕ) → Memᴰ a ls → Memᴰ b ms → Before a b) → InOrder (ls ++ ms)
order-append [] ms p q h = q
order-append (a ∷ ls) ms p q h =
    ((λ other m. ⊎_elim (p.0 other) (h a other (Memᴰ.head refl)) (Memᴰ.append_cases ls m)), order-append ls ms p.1 q (λ x y m. h x y (Memᴰ.tail m)))

order-front : (a n : ℕ) (codes : List (List ℕ)) → InOrder codes → InOrder (in_front (states_from a n) codes)
unfolding in_front states_from
order-front a zero codes h = tt
order-front a (suc n) codes h = order-append (map (λ l. a ∷ l) codes) (in_front (states_from (suc a) n) codes) (order-map a codes h) (order-front (suc a) n codes h) across
  where
    across : (x y : List ℕ) → Memᴰ x (map (λ l. a ∷ l) codes) → Memᴰ y (in_front (states_from (suc a) n) codes) → Before x y
    across x y m q =
        let o = Memᴰ.of_map (λ (l : List ℕ). a ∷ l) codes m in
        let p = fronted codes (states_from (suc a) n) y q in
        let s = state-below (suc a) n p.0 p.3 in
        rw (sym o.2, p.2) (inl (omega (arith, s.0)))

pub codes-in-order : (c w : ℕ) → InOrder (codes_of c w)
unfolding codes_of
codes-in-order c zero = ((λ other m. absurd (Memᴰ.not-nil m)), tt)
codes-in-order c (suc w) = order-front 0 c (codes_of c w) (codes-in-order c w)

-- no code comes before one that comes before it
pub not-both : (a b : List ℕ) → Before a b → Before b a → ⊥
not-both [] b h q = h
not-both (v ∷ a) [] h q = h
not-both (v ∷ a) (u ∷ b) h q = ⊎_elim (λ l. ⊎_elim (λ m. omega arith) (λ m. omega (arith, m.0)) q) (λ l. ⊎_elim (λ m. omega (arith, l.0)) (λ m. not-both a b l.1 m.1) q) h

-- ---- the first that has p

module _ (p : List ℕ → Bool) where
  pub first-here : (code : List ℕ) (codes : List (List ℕ)) → p code ≡ true → first_with p (code ∷ codes) ≡ first code
  unfolding first_with
  first-here code codes e = rw (e, first_with)

  pub first-later : (code : List ℕ) (codes : List (List ℕ)) → p code ≡ false → first_with p (code ∷ codes) ≡ first_with p codes
  unfolding first_with
  first-later code codes e = rw (e, first_with)

  -- where there is none, none of them has it, and the other way round
  pub none_has : (codes : List (List ℕ)) → first_with p codes ≡ none → (code : List ℕ) → Memᴰ code codes → p code ≡ false
  none_has [] e code m = absurd (Memᴰ.not-nil m)
  none_has (x ∷ xs) e code m = go (p x) refl (none_has xs)
    where
      go : (b : Bool) → p x ≡ b → (first_with p xs ≡ none → (code : List ℕ) → Memᴰ code xs → p code ≡ false) → p code ≡ false
      go true q f = absurd (let z : ◌≡◌ {A = ℕ} 0 1 = cc (first-here x xs q) in omega arith)
      go false q f = ⊎_elim (λ h. ap p h ∙ q) (f (sym (first-later x xs q) ∙ e) code) (Memᴰ.cases_cons m)

  pub has-none : (codes : List (List ℕ)) → ((code : List ℕ) → Memᴰ code codes → p code ≡ false) → first_with p codes ≡ none
  unfolding first_with
  has-none [] h = refl
  has-none (x ∷ xs) h = first-later x xs (h x (Memᴰ.head refl)) ∙ has-none xs (λ code m. h code (Memᴰ.tail m))

  -- the first is one of them, has p, and none before it does
  pub record FirstOf (codes : List (List ℕ)) (code : List ℕ) : Type 0 where
    pub listed : Memᴰ code codes
    pub has : p code ≡ true
    pub earlier : InOrder codes → (other : List ℕ) → Memᴰ other codes → Before other code → p other ≡ false

  pub first_of : (codes : List (List ℕ)) (code : List ℕ) → first_with p codes ≡ first code → FirstOf codes code
  unfolding first_with
  first_of [] code e = absurd (let z : ◌≡◌ {A = ℕ} 0 1 = cc in omega arith)
  first_of (x ∷ xs) code e = go (p x) refl (first_of xs code)
    where
      go : (b : Bool) → p x ≡ b → (first_with p xs ≡ first code → FirstOf xs code) → FirstOf (x ∷ xs) code
      go true q f =
          let same : code ≡ x = cc (first-here x xs q) in
          record {
            listed = Memᴰ.head same;
            has = ap p same ∙ q;
            earlier = λ o other m b.
                let b' : Before other x = rw same at b in
                absurd (⊎_elim (λ h. not-both other x b' (rw h (rw h at b'))) (λ n. not-both other x b' (o.0 other n)) (Memᴰ.cases_cons m));
          }
      go false q f =
          let r = f (sym (first-later x xs q) ∙ e) in
          record { listed = Memᴰ.tail r.listed; has = r.has; earlier = λ o other m b. ⊎_elim (λ h. ap p h ∙ q) (λ n. r.earlier o.1 other n b) (Memᴰ.cases_cons m) }

-- of two lists, the first of the second where the first has none
unfoldable pub or_then : First → First → First
or_then (first code) b = first code
or_then none b = b

pub first-append : (p : List ℕ → Bool) (ls ms : List (List ℕ)) → first_with p (ls ++ ms) ≡ or_then (first_with p ls) (first_with p ms)
unfolding first_with or_then
first-append p [] ms = refl
first-append p (a ∷ ls) ms = go (p a) refl (first-append p ls ms)
  where
    go : (b : Bool) → p a ≡ b → first_with p (ls ++ ms) ≡ or_then (first_with p ls) (first_with p ms) → first_with p (a ∷ (ls ++ ms)) ≡ or_then (first_with p (a ∷ ls)) (first_with p ms)
    go true q r = rw (first-here p a (ls ++ ms) q, first-here p a ls q)
    go false q r = rw (first-later p a (ls ++ ms) q, first-later p a ls q) r

-- ---- columns tried one after the other

-- v in front of the code that it leads to, or what comes behind
unfoldable pub leading : ℕ → First → First → First
leading v (first code) rest = first (v ∷ code)
leading v none rest = rest

-- n columns from a on, each with the first code behind it
unfoldable pub tried : (ℕ → First) → ℕ → ℕ → First
unfolding leading
tried f a zero = none
tried f a (suc n) = leading a (f a) (tried f (suc a) n)

first-map : (p : List ℕ → Bool) (v : ℕ) (codes rest : List (List ℕ))
    → first_with p (map (λ l. v ∷ l) codes ++ rest) ≡ leading v (first_with (λ code. p (v ∷ code)) codes) (first_with p rest)
unfolding first_with leading
first-map p v [] rest = refl
first-map p v (code ∷ codes) rest = go (p (v ∷ code)) refl (first-map p v codes rest)
  where
    go : (b : Bool) → p (v ∷ code) ≡ b → first_with p (map (λ l. v ∷ l) codes ++ rest) ≡ leading v (first_with (λ code. p (v ∷ code)) codes) (first_with p rest)
        → first_with p ((v ∷ code) ∷ (map (λ l. v ∷ l) codes ++ rest)) ≡ leading v (first_with (λ code. p (v ∷ code)) (code ∷ codes)) (first_with p rest)
    go true q r = rw (first-here p (v ∷ code) (map (λ l. v ∷ l) codes ++ rest) q, first-here (λ code. p (v ∷ code)) code codes q)
    go false q r = rw (first-later p (v ∷ code) (map (λ l. v ∷ l) codes ++ rest) q, first-later (λ code. p (v ∷ code)) code codes q) r

first-front : (p : List ℕ → Bool) (a n : ℕ) (codes : List (List ℕ)) → first_with p (in_front (states_from a n) codes) ≡ tried (λ v. first_with (λ code. p (v ∷ code)) codes) a n
unfolding in_front states_from tried first_with
first-front p a zero codes = refl
first-front p a (suc n) codes =
    first-map p a codes (in_front (states_from (suc a) n) codes) ∙ ap (leading a (first_with (λ code. p (a ∷ code)) codes)) (first-front p (suc a) n codes)

-- the first of all codes of one column more
pub first-tried : (p : List ℕ → Bool) (c w : ℕ) → first_with p (codes_of c (suc w)) ≡ tried (λ v. first_with (λ code. p (v ∷ code)) (codes_of c w)) 0 c
unfolding codes_of
first-tried p c w = first-front p 0 c (codes_of c w)
