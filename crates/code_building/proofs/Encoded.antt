-- A fair listing is encoded: its families begin a run of bits, and what the run comes to is 01's coding.
use mathlib.Core.Path.{◌≡◌, refl, sym, ap, ◌∙◌, subst}
use mathlib.Core.Bool.{Bool, true, false, cond, not, ◌&&◌}
use mathlib.Core.List.{List, [], ◌++◌}
use Prim.Native.Nat.{ℕ, zero, suc, ◌-◌, ◌≤◌, min}
use native.Mathlib.Omega.{arith}
use lib.Dec.{eqb}
use lib.ListN.{length, drop, replicate, length-replicate}
use Rattle.sets.specs.Sets.{states_from}
use Rattle.rules.specs.Limits.{most_bits, most_asked}
use Rattle.rules.specs.Requirements.{pairs, requirements}
use Rattle.rules.specs.Code.{Code, coded, uncoded, build, coding, unmet, unmet_from}
use Rattle.rules.specs.declared.Requirement.{Requirement}
use Rattle.rules.specs.declared.Listing.{Listing}
use Rattle.rules.specs.declared.Encoding.{Encoding}
use Rattle.rules.specs.declared.Refusal.TheVariants.{TooWide}
use Rattle.rules.proofs.Unmet.{unmet-all}
use Rattle.rules.proofs.Good.{AllGood}
use Rattle.code_fair.specs.Fair.{fair}
use Rattle.code_fair.proofs.Limits.{fair-grants}
use Rattle.code_fair.proofs.FairListings.{few-requirements, good-requirements}
use Rattle.families.specs.Families.{requirements_in}
use Rattle.move_pairs.specs.Pairs.{live_pairs}
use Rattle.bit_live.specs.Live.{live_in}
use Rattle.bit_live.proofs.Next.{Within}
use Rattle.code_encoding.specs.Encode.{encoding_of, encoded_as}
use Rattle.code_drawing.specs.Drawing.{families_of}
use Rattle.code_drawing.proofs.Requirements.{families-are}
use Rattle.code_drawing.proofs.Within.{families-within}
use Rattle.code_building.specs.Build.{Asked, Begun, Done, answer, encoded_for}
use Rattle.rules.specs.Refusals.{refused}
use Rattle.std.specs.Prelude.{Ok, Result}
use Rattle.rules.specs.declared.Refused.{Refused}

drop-replicate : (k w v : ℕ) → drop k (replicate w v) ≡ replicate (w - k) v
drop-replicate zero w v = let e : w ≡ w - 0 = omega arith in ap (λ (j : ℕ). replicate j v) e
drop-replicate (suc k) zero v = let e : 0 ≡ 0 - suc k = omega arith in ap (λ (j : ℕ). replicate j v) e
drop-replicate (suc k) (suc w) v = let e : w - k ≡ suc w - suc k = omega arith in drop-replicate k w v ∙ ap (λ (j : ℕ). replicate j v) e

-- ---- the requirements of a fair listing

module _ (t : Listing) (f : fair t ≡ true) where
  pub drawn-live : live_in t.head.states [] (families_of t) ≡ requirements t
  unfolding live_pairs
  drawn-live =
      let n : ℕ = t.head.states in
      let m : min n 64 ≡ n = omega (arith, (fair-grants t f).limits.few-states) in
      ap (λ (rs : List Requirement). rs ++ requirements_in (families_of t)) (unmet-all (min n 64) (pairs (states_from 0 (min n 64))) ∙ ap (λ (k : ℕ). pairs (states_from 0 k)) m)
      ∙ families-are t f

-- ---- a run begins

pub begun : (n width : ℕ) (fs : List ℕ) → Asked n width fs → (m : ℕ) → m ≡ cond (eqb width 0) most_bits width → Begun n m fs (replicate most_bits 0)
begun n width fs a m e = record { drawn = a.drawn; width = rw e (go (eqb width 0)); room = length-replicate {A = ℕ} most_bits 0 }
  where
    go : (b : Bool) → cond b most_bits width ≤ most_bits
    go true = omega arith
    go false = a.narrow

-- ---- what a run came to

module _ (n width : ℕ) (rs : List Requirement) (m : ℕ) (em : m ≡ cond (eqb width 0) most_bits width)
    {wide live passes looks : ℕ} {bits : List ℕ} (d : Done n m rs (replicate most_bits 0) wide live passes looks bits) where
  code : Code
  code = build m n rs

  -- the answer, by whether the code falls short
  by_code : (a : Bool) → a ≡ (eqb width 0 && not (eqb live 0)) → cond a (refused TooWide 0) (Ok (answer n rs code)) ≡ encoded_for n width rs
  unfolding encoded_for code
  by_code a h =
      ap (λ (b : Bool). cond b (refused TooWide 0) (Ok (answer n rs code))) (h ∙ ap (λ (k : ℕ). eqb width 0 && not (eqb k 0)) d.left)
      ∙ ap (λ (k : ℕ). cond (eqb width 0 && not (eqb (length (unmet_from 0 n (build k n rs).bits rs)) 0)) (refused TooWide 0) (Ok (answer n rs (build k n rs)))) em

  pub too_wide : true ≡ (eqb width 0 && not (eqb live 0)) → refused TooWide 0 ≡ encoded_for n width rs
  too_wide h = by_code true h

  pub wide_enough : (asked : ℕ) → asked ≡ length rs → false ≡ (eqb width 0 && not (eqb live 0)) → ◌≡◌ {A = Result Encoding Refused} (Ok (record {
    width = wide;
    bits = bits;
    asked = asked;
    unmet = live;
    passes = passes;
    looks = looks;
  })) (encoded_for n width rs)
  unfolding code
  wide_enough asked k h = rw (d.wide, d.shown, drop-replicate (length code.bits) most_bits 0, d.left, d.took, d.looked, k) (by_code false h)

-- ---- a fair listing

module _ (t : Listing) (f : fair t ≡ true) where
  pub encoded-for : encoded_for t.head.states t.head.width (requirements t) ≡ encoded_as t (coding t)
  unfolding encoded_for encoded_as encoding_of coding unmet
  encoded-for = go (eqb t.head.width 0 && not (eqb (length (unmet t c.bits)) 0))
    where
      c : Code
      c = build (cond (eqb t.head.width 0) most_bits t.head.width) t.head.states (requirements t)

      go : (a : Bool) → cond a (refused TooWide 0) (Ok (answer t.head.states (requirements t) c)) ≡ encoded_as t (cond a (uncoded TooWide) (coded c))
      go true = refl
      go false = refl

  pub asked_of : (fs : List ℕ) → fs ≡ families_of t → Asked t.head.states t.head.width fs
  asked_of fs e = record {
    drawn = record {
      ready = record {
        some = (fair-grants t f).limits.some-states;
        fits = omega (arith, (fair-grants t f).limits.few-states);
        few = omega (arith, few-live);
        good = subst (AllGood t.head.states) (sym live) (good-requirements t f);
      };
      within = subst (Within t.head.states) (sym e) (families-within t f);
      few = few-live;
    };
    narrow = (fair-grants t f).limits.few_bits;
  }
    where
      live : live_in t.head.states [] fs ≡ requirements t
      live = ap (live_in t.head.states []) e ∙ drawn-live t f

      few-live : length (live_in t.head.states [] fs) ≤ most_asked
      few-live = omega (arith, ap length live, few-requirements t f)
