-- The least code is the least of all: it meets everything, and every code of fewer columns, and every one of its width that comes before it, leaves something
-- unmet; 16 is answered exactly where every code of at most 5 columns does.
use mathlib.Core.Path.{◌≡◌, refl, sym, ap, ◌∙◌}
use mathlib.Core.Logic.{◌↔◌}
use mathlib.Core.Bool.{Bool, true, false, cond, true≢false}
use mathlib.Core.List.{List, [], ◌∷◌}
use Prim.Native.Nat.{ℕ, zero, suc, ◌≤◌, ◌<◌}
use native.Mathlib.Decide.{ℕ_discrete}
use native.Mathlib.Omega.{arith}
use lib.ListN.{length}
use borrow.Author.Tests.{eqb-true}
use Rattle.rules.specs.Limits.{most_small_bits}
use Rattle.rules.specs.Requirements.{requirements}
use Rattle.rules.specs.Code.{Code, coded, uncoded, unmet_from, unmet}
use Rattle.rules.specs.Least.{columns_of, bits_for, codes_of, codes_up_to, meets_all, First, first, none, first_with, least, coded_by, is_small, least_coding}
use Rattle.rules.specs.declared.Requirement.{Requirement}
use Rattle.rules.specs.declared.Listing.{Listing}
use Rattle.rules.specs.declared.Refusal.{Refusal}
use Rattle.rules.specs.declared.Refusal.TheVariants.{Limit, NoShortCode}
use Rattle.rules.proofs.Ways.{chose-first, chose-second}
use Rattle.rules.proofs.Codes.{Columns, Before, code-listed, listed-code, codes-in-order, none_has, first_of, or_then, first-append}

-- ---- the first of the codes of at most w columns

module _ (p : List ℕ → Bool) (c : ℕ) where
  -- it has p, and no code of fewer columns, and none of its width that comes before it, has
  pub record LeastWith (w : ℕ) (code : List ℕ) : Type 0 where
    pub few : length code ≤ w
    pub columns : Columns c (length code) code
    pub has : p code ≡ true
    pub fewer : (other : List ℕ) (k : ℕ) → k < length code → Columns c k other → p other ≡ false
    pub earlier : (other : List ℕ) → Columns c (length code) other → Before other code → p other ≡ false

  -- no code of at most w columns has p
  abbrev pub NoneWith : ℕ → Type 0
  NoneWith w = (other : List ℕ) (k : ℕ) → k ≤ w → Columns c k other → p other ≡ false

  none_of : (w : ℕ) → first_with p (codes_of c w) ≡ none → (other : List ℕ) → Columns c w other → p other ≡ false
  none_of w e other h = none_has p (codes_of c w) e other (code-listed c w other h)

  -- no code of fewer columns has p
  abbrev Fewer : ℕ → Type 0
  Fewer w = (other : List ℕ) (k : ℕ) → k < w → Columns c k other → p other ≡ false

  of_width : (w : ℕ) (code : List ℕ) → Fewer w → first_with p (codes_of c w) ≡ first code → LeastWith w code
  of_width w code h e =
      let f = first_of p (codes_of c w) code e in
      let k = listed-code c w code f.listed in
      record {
        few = omega (arith, k.0);
        columns = (refl, k.1);
        has = f.has;
        fewer = λ other j l q. h other j (omega (arith, k.0)) q;
        earlier = λ other q b. f.earlier (codes-in-order c w) other (code-listed c w other (q.0 ∙ k.0, q.1)) b;
      }

  wider : (w : ℕ) (code : List ℕ) → LeastWith w code → LeastWith (suc w) code
  wider w code h = record { few = omega (arith, h.few); columns = h.columns; has = h.has; fewer = h.fewer; earlier = h.earlier }

  -- which of the two holds
  abbrev pub Told : ℕ → First → Type 0
  Told w (first code) = LeastWith w code
  Told w none = NoneWith w

  told_none : (w : ℕ) → first_with p (codes_of c w) ≡ none → Fewer w → NoneWith w
  told_none w e h other k l q = go (ℕ_discrete k w)
    where
      go : Dec (k ≡ w) → p other ≡ false
      go (yes s) = none_of w e other (rw s at q)
      go (no o) = h other k (omega arith) q

  told_of : (w : ℕ) (f : First) → first_with p (codes_of c w) ≡ f → Fewer w → Told w f
  told_of w (first code) e h = of_width w code h e
  told_of w none e h = told_none w e h

  pub told : (w : ℕ) → Told w (first_with p (codes_up_to c w))
  unfolding codes_up_to or_then
  told zero = told_of zero (first_with p (codes_of c zero)) refl (λ other k l q. absurd (omega arith))
  told (suc w) = rw (first-append p (codes_up_to c w) (codes_of c (suc w))) (go (first_with p (codes_up_to c w)) (told w))
    where
      go : (f : First) → Told w f → Told (suc w) (or_then f (first_with p (codes_of c (suc w))))
      go (first code) h = wider w code h
      go none h = told_of (suc w) (first_with p (codes_of c (suc w))) refl (λ other k l q. h other k (omega arith) q)

-- ---- the least code of some requirements

-- all codes of n states leave something unmet, as far as 5 columns
abbrev pub NoCode : ℕ → List Requirement → Type 0
NoCode n rs = NoneWith (meets_all n rs) (columns_of n) most_small_bits

abbrev pub LeastCode : ℕ → List Requirement → List ℕ → Type 0
LeastCode n rs code = LeastWith (meets_all n rs) (columns_of n) most_small_bits code

pub least-code : (n : ℕ) (rs : List Requirement) (code : List ℕ) → least n rs ≡ first code → LeastCode n rs code
unfolding least
least-code n rs code e = rw e at (told (meets_all n rs) (columns_of n) most_small_bits)

pub no_code : (n : ℕ) (rs : List Requirement) → least n rs ≡ none → NoCode n rs
unfolding least
no_code n rs e = rw e at (told (meets_all n rs) (columns_of n) most_small_bits)

-- nothing is listed unmet
pub meets-all : (n : ℕ) (rs : List Requirement) (code : List ℕ) → meets_all n rs code ≡ true → unmet_from 0 n (bits_for n code) rs ≡ []
unfolding meets_all
meets-all n rs code e = empty (unmet_from 0 n (bits_for n code) rs) (eqb-true (length (unmet_from 0 n (bits_for n code) rs)) 0 e)
  where
    empty : (l : List ℕ) → length l ≡ 0 → l ≡ []
    empty [] e = refl
    empty (x ∷ xs) e = absurd (omega arith)

-- ---- the code of a listing

-- it is the least code of the listing's requirements, and leaves none unmet
pub record LeastCoded (t : Listing) (c : Code) : Type 0 where
  pub small : is_small t ≡ true
  pub columns : List ℕ
  pub bits : c.bits ≡ bits_for t.head.states columns
  pub passes : c.passes ≡ 0
  pub looks : c.looks ≡ 0
  pub least : LeastCode t.head.states (requirements t) columns
  pub all-met : unmet t c.bits ≡ []

-- a code is not refused, and a refusal is not another
coded-not : (c : Code) (r : Refusal) → coded c ≡ uncoded r → ⊥
coded-not c r e = let z : ◌≡◌ {A = ℕ} 0 1 = cc in omega arith

limit-not : uncoded Limit ≡ uncoded NoShortCode → ⊥
limit-not e = let z : ◌≡◌ {A = ℕ} 0 1 = cc in omega arith

module _ (t : Listing) where
  by_first : (f : First) → least t.head.states (requirements t) ≡ f → (c : Code) → is_small t ≡ true → coded_by t.head.states f ≡ coded c → LeastCoded t c
  unfolding coded_by unmet
  by_first (first code) e c s q =
      let same : record { bits = bits_for t.head.states code; passes = 0; looks = 0 } ≡ c = cc in
      let l = least-code t.head.states (requirements t) code e in
      record {
        small = s;
        columns = code;
        bits = ap (λ (d : Code). d.bits) (sym same);
        passes = ap (λ (d : Code). d.passes) (sym same);
        looks = ap (λ (d : Code). d.looks) (sym same);
        least = l;
        all-met = ap (λ (d : Code). unmet t d.bits) (sym same) ∙ meets-all t.head.states (requirements t) code l.has;
      }
  by_first none e c s q = absurd (coded-not c NoShortCode (sym q))

  pub least-coded : (c : Code) → least_coding t ≡ coded c → LeastCoded t c
  unfolding least_coding
  least-coded c e =
      let w = chose-first (is_small t) e (λ q. coded-not c Limit (sym q)) in
      by_first (least t.head.states (requirements t)) refl c w.0 w.1

  -- 16 exactly where no code of at most 5 columns meets everything that a small machine asks
  by-none : (f : First) → least t.head.states (requirements t) ≡ f → coded_by t.head.states f ≡ uncoded NoShortCode → NoCode t.head.states (requirements t)
  unfolding coded_by
  by-none (first code) e q = absurd (coded-not _ NoShortCode q)
  by-none none e q = no_code t.head.states (requirements t) e

  from-none : (f : First) → least t.head.states (requirements t) ≡ f → NoCode t.head.states (requirements t) → coded_by t.head.states f ≡ uncoded NoShortCode
  unfolding coded_by
  from-none (first code) e h =
      let l = least-code t.head.states (requirements t) code e in
      absurd (true≢false (sym l.has ∙ h code (length code) l.few l.columns))
  from-none none e h = refl

  pub no-short-code : (least_coding t ≡ uncoded NoShortCode) ↔ ((is_small t ≡ true) × NoCode t.head.states (requirements t))
  unfolding least_coding
  no-short-code = (to, from)
    where
      to : least_coding t ≡ uncoded NoShortCode → (is_small t ≡ true) × NoCode t.head.states (requirements t)
      to e =
          let w = chose-first (is_small t) e limit-not in
          (w.0, by-none (least t.head.states (requirements t)) refl w.1)

      from : (is_small t ≡ true) × NoCode t.head.states (requirements t) → least_coding t ≡ uncoded NoShortCode
      from h =
          ap (λ (b : Bool). cond b (coded_by t.head.states (least t.head.states (requirements t))) (uncoded Limit)) h.0
          ∙ from-none (least t.head.states (requirements t)) refl h.1

  -- 2 exactly where it is not small
  not-limit : (f : First) → coded_by t.head.states f ≡ uncoded Limit → ⊥
  unfolding coded_by
  not-limit (first code) e = coded-not _ Limit e
  not-limit none e = limit-not (sym e)

  pub not-small : (least_coding t ≡ uncoded Limit) ↔ (is_small t ≡ false)
  unfolding least_coding
  not-small = (
    (λ e. (chose-second (is_small t) e (not-limit (least t.head.states (requirements t)))).0),
    (λ h. ap (λ (b : Bool). cond b (coded_by t.head.states (least t.head.states (requirements t))) (uncoded Limit)) h),
  )
