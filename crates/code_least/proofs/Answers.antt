-- What a search told, as the encoder's answer, and the answer for a listing.
use Rattle.std.specs.Prelude.{Option, Some, None, Ok}
use mathlib.Core.Path.{◌≡◌, refl, sym, ap, ap₂, subst, ◌∙◌}
use mathlib.Core.Bool.{Bool, true, false, cond, ◌&&◌}
use mathlib.Core.List.{List, ◌++◌}
use Prim.Native.Nat.{ℕ, zero, suc, ◌-◌, ◌≤◌, ◌<◌}
use native.Mathlib.Omega.{arith}
use lib.Dec.{leb}
use lib.ListN.{length, take, drop, replicate, length-map}
use lib.Pow.{pow_mono}
use lib.Seq.{take-append_seam}
use borrow.Author.Tests.{le-leb, lt-leb}
use Rattle.sets.specs.Places.{padded}
use Rattle.rules.specs.Limits.{most_bits, most_small, most_small_asked, most_small_bits}
use Rattle.rules.specs.Requirements.{requirements}
use Rattle.rules.specs.Code.{uncoded, unmet}
use Rattle.rules.specs.Least.{column, columns_of, bits_for, First, first, none, least, coded_by, least_coding}
use Rattle.rules.specs.declared.Requirement.{Requirement}
use Rattle.rules.specs.declared.Listing.{Listing}
use Rattle.rules.specs.declared.Encoding.{Encoding}
use Rattle.rules.specs.declared.Refusal.TheVariants.{Limit, NoShortCode}
use Rattle.rules.proofs.Good.{AllGood}
use Rattle.rules.proofs.Least.{least-code, meets-all}
use Rattle.code_search.specs.Search.{told_width}
use Rattle.families.specs.Families.{requirements_in}
use Rattle.code_fair.specs.Fair.{fair}
use Rattle.code_fair.proofs.Limits.{fair-grants}
use Rattle.code_fair.proofs.FairListings.{few-requirements, good-requirements}
use Rattle.code_drawing.specs.Drawing.{all_families}
use Rattle.code_drawing.proofs.Requirements.{all_are}
use Rattle.code_encoding.specs.Encode.{encoding_of, encoded_as}
use Rattle.code_least.specs.Drawn.{Drawn}
use Rattle.code_least.specs.Encode.{coded_as, Within, found_as, answer_of, small_encoded, least_encoded}
use Rattle.rules.specs.Refusals.{refused}

-- ---- the columns of a small machine

pub few-columns : (n : ℕ) → n ≤ most_small → columns_of n ≤ 32
few-columns n h = pow_mono {i = n - 1} {j = 5} (omega arith)

-- ---- a code's answer

drop-replicate : (k w v : ℕ) → drop k (replicate w v) ≡ replicate (w - k) v
drop-replicate zero w v = let e : w ≡ w - 0 = omega arith in ap (λ (j : ℕ). replicate j v) e
drop-replicate (suc k) zero v = let e : 0 ≡ 0 - suc k = omega arith in ap (λ (j : ℕ). replicate j v) e
drop-replicate (suc k) (suc w) v = let e : w - k ≡ suc w - suc k = omega arith in drop-replicate k w v ∙ ap (λ (j : ℕ). replicate j v) e

pub coded-is : (n asked : ℕ) (code bits : List ℕ) → bits ≡ bits_for n code ++ drop (length code) (replicate most_bits 0) → ◌≡◌ {A = Encoding} (record {
  width = length code;
  bits = bits;
  asked = asked;
  unmet = 0;
  passes = 0;
  looks = 0;
}) (coded_as n asked code)
unfolding coded_as
coded-is n asked code bits e =
    ap (λ (b : List ℕ). record { width = length code; bits = b; asked = asked; unmet = 0; passes = 0; looks = 0 })
    (e ∙ ap (λ (l : List ℕ). bits_for n code ++ l) (drop-replicate (length code) most_bits 0) ∙ ap (λ (k : ℕ). bits_for n code ++ replicate (most_bits - k) 0) (sym (length-map code (column n))))

-- ---- what a search told

-- where it found a code, its places are there
pub width-within : (f : Option ℕ) (w : ℕ) (l : List ℕ) → f ≡ Some w → Within f l → (w ≤ length l) × (w ≤ most_bits)
width-within f w l e h = rw e at h

pub width-as : (n asked : ℕ) (f : Option ℕ) (w : ℕ) (l : List ℕ) → f ≡ Some w → Ok (coded_as n asked (take w l)) ≡ found_as n asked f l
unfolding found_as
width-as n asked f w l e = sym (ap (λ (g : Option ℕ). found_as n asked g l) e)

pub nothing-as : (n asked : ℕ) (f : Option ℕ) (l : List ℕ) → f ≡ None → refused NoShortCode 0 ≡ found_as n asked f l
unfolding found_as
nothing-as n asked f l e = sym (ap (λ (g : Option ℕ). found_as n asked g l) e)

-- the least code goes to the first of its five places
module _ (n : ℕ) (rs : List Requirement) (came : List ℕ) (five : length came ≡ most_small_bits) {f : Option ℕ} {l : List ℕ} (e : (f, l) ≡ told_width (least n rs) came) where
  pub told-within : length l ≡ most_small_bits → Within f l
  unfolding told_width
  told-within k = go (least n rs) refl e
    where
      go : (x : First) → least n rs ≡ x → (f, l) ≡ told_width x came → Within f l
      go (first code) s q =
          let w = (least-code n rs code s).few in
          rw (ap (λ (p : Option ℕ × List ℕ). p.0) q) (omega (arith, k, w), omega (arith, w))
      go none s q = rw (ap (λ (p : Option ℕ × List ℕ). p.0) q) tt

  pub told-answer : (asked : ℕ) → found_as n asked f l ≡ answer_of n asked (least n rs)
  unfolding told_width found_as answer_of
  told-answer asked = ap (λ (p : Option ℕ × List ℕ). found_as n asked p.0 p.1) e ∙ go (least n rs)
    where
      go : (x : First) → found_as n asked (told_width x came).0 (told_width x came).1 ≡ answer_of n asked x
      go (first code) = ap (λ (l : List ℕ). Ok (coded_as n asked l)) (take-append_seam code (drop (length code) came))
      go none = refl

-- ---- which machines are small

module _ (n : ℕ) (rs : List Requirement) where
  small_by : (a b : Bool) → leb n most_small ≡ a → leb (length rs) most_small_asked ≡ b
      → cond a (cond b (answer_of n (length rs) (least n rs)) (refused Limit 0)) (refused Limit 0) ≡ small_encoded n rs
  unfolding small_encoded
  small_by a b e f =
      sym
      (ap₂ (λ (x y : Bool). cond x (cond y (answer_of n (length rs) (least n rs)) (refused Limit 0)) (refused Limit 0)) e f)

  pub many-states : most_small < n → refused Limit 0 ≡ small_encoded n rs
  many-states h = small_by false (leb (length rs) most_small_asked) (lt-leb n most_small h) refl

  pub many-asked : n ≤ most_small → (asked : ℕ) → asked ≡ length rs → most_small_asked < asked → refused Limit 0 ≡ small_encoded n rs
  many-asked h asked e l = small_by true false (le-leb n most_small h) (lt-leb (length rs) most_small_asked (omega arith))

  pub small-answer : n ≤ most_small → (asked : ℕ) → asked ≡ length rs → asked ≤ most_small_asked → answer_of n asked (least n rs) ≡ small_encoded n rs
  small-answer h asked e l = ap (λ (a : ℕ). answer_of n a (least n rs)) e ∙ small_by true true (le-leb n most_small h) (le-leb (length rs) most_small_asked (omega arith))

-- ---- a fair listing

module _ (t : Listing) where
  by_first : (f : First) → least t.head.states (requirements t) ≡ f → answer_of t.head.states (length (requirements t)) f ≡ encoded_as t (coded_by t.head.states f)
  unfolding answer_of coded_as encoded_as encoding_of coded_by unmet
  by_first (first code) e =
      let none-unmet = meets-all t.head.states (requirements t) code (least-code t.head.states (requirements t) code e).has in
      let w : length code ≡ length (bits_for t.head.states code) = sym (length-map code (column t.head.states)) in
      ap₂ (λ (w u : ℕ). Ok (record { width = w; bits = padded most_bits 0 (bits_for t.head.states code); asked = length (requirements t); unmet = u; passes = 0; looks = 0 }))
      w (sym (ap (λ (l : List ℕ). length l) none-unmet))
  by_first none e = refl

  pub small-listing : small_encoded t.head.states (requirements t) ≡ encoded_as t (least_coding t)
  unfolding small_encoded least_coding encoded_as
  small-listing = go (leb t.head.states most_small) (leb (length (requirements t)) most_small_asked)
    where
      f : First
      f = least t.head.states (requirements t)

      go : (a b : Bool) → cond a (cond b (answer_of t.head.states (length (requirements t)) f) (refused Limit 0)) (refused Limit 0)
          ≡ encoded_as t (cond (a && b) (coded_by t.head.states f) (uncoded Limit))
      go true true = by_first f refl
      go true false = refl
      go false b = refl

  pub drawn-of : fair t ≡ true → (fs : List ℕ) → fs ≡ all_families t → Drawn t.head.states fs
  drawn-of f fs e =
      let are : requirements_in fs ≡ requirements t = ap requirements_in e ∙ all_are t f in
      record {
        some = (fair-grants t f).limits.some-states;
        states = (fair-grants t f).limits.few-states;
        asked = omega (arith, ap length are, few-requirements t f);
        good = subst (AllGood t.head.states) (sym are) (good-requirements t f);
      }

  pub least-is : (x : Bool) → fair t ≡ x → cond x (encoded_as t (least_coding t)) (refused Limit 0) ≡ least_encoded t
  unfolding least_encoded
  least-is x e = sym (ap (λ (b : Bool). cond b (encoded_as t (least_coding t)) (refused Limit 0)) e)

  -- drawn up as families, it is answered
  pub small-families : fair t ≡ true → (fs : List ℕ) → fs ≡ all_families t → small_encoded t.head.states (requirements_in fs) ≡ least_encoded t
  small-families f fs e = ap (small_encoded t.head.states) (ap requirements_in e ∙ all_are t f) ∙ small-listing ∙ least-is true f
