-- Places that differ are places that do not agree: what is judged of masks is what 02 says of each place.
use mathlib.Core.Path.{◌≡◌, refl, ap, ap₂, ◌∙◌}
use mathlib.Core.Bool.{Bool, true, false, ◌&&◌, ◌||◌, not, cond}
use mathlib.Core.List.{List}
use Prim.Native.Nat.{ℕ, ◌+◌, ◌*◌}
use native.Mathlib.Omega.{arith}
use lib.Dec.{eqb}
use lib.ListN.{get_or}
use Rattle.sets.specs.Sets.{has, every}
use Rattle.sets.proofs.Every.{every-same}
use Rattle.sets.proofs.Members.{has-none}
use Rattle.rules.specs.Text.{digit, one, dash}
use Rattle.rules.specs.Meaning.{Meaning, on, free, off, cover_says, place_agrees}
use Rattle.judge_search.specs.Search.{differ, differs, gathered_from, fails_with}
use Rattle.judge_search.specs.Rows.{any_from, words_of}
use Rattle.judge_search.specs.declared.Said.{Said}
use Rattle.judge_search.proofs.Gathered.{gathered-says}

-- what is meant of a place, against whether some firing row of a cover says 1 of it, and whether one says dash
unfoldable pub agrees_by : Meaning → Bool → Bool → Bool
agrees_by on says dashes = says && not dashes
agrees_by free says dashes = true
agrees_by off says dashes = not says && not dashes

pub place-agrees : (m : Meaning) (ls : List (List ℕ)) (ds : List ℕ) (place : ℕ) → place_agrees m ls ds place ≡ agrees_by m (cover_says ls ds place one) (cover_says ls ds place dash)
unfolding place_agrees agrees_by
place-agrees on ls ds place = refl
place-agrees free ls ds place = refl
place-agrees off ls ds place = refl

-- what is meant where rows say 1, or dash
abbrev pub meant : Bool → Bool → Meaning
meant ones dashes = cond ones on (cond dashes free off)

one_place : (n f o d : Bool) → ((eqb (digit f) 1 && eqb (digit n) 0) || (eqb (digit o) (digit n) && eqb (digit d) 0)) ≡ agrees_by (meant n f) o d
unfolding agrees_by
one_place true true true true = refl
one_place true true true false = refl
one_place true true false true = refl
one_place true true false false = refl
one_place true false true true = refl
one_place true false true false = refl
one_place true false false true = refl
one_place true false false false = refl
one_place false true true true = refl
one_place false true true false = refl
one_place false true false true = refl
one_place false true false false = refl
one_place false false true true = refl
one_place false false true false = refl
one_place false false false true = refl
one_place false false false false = refl

-- masks whose digits are told by tests differ where some place does not agree
pub differ-by : (m x y z : ℕ) (n f o d : ℕ → Bool) → ((j : ℕ) → has m j ≡ digit (n j)) → ((j : ℕ) → has x j ≡ digit (f j)) → ((j : ℕ) → has y j ≡ digit (o j)) → ((j : ℕ) → has z j ≡ digit (d j))
    → differ m x y z ≡ not (every 64 (λ j. agrees_by (meant (n j) (f j)) (o j) (d j)))
unfolding differ
differ-by m x y z n f o d hn hf ho hd =
    ap not
    (every-same 64 (λ j. (eqb (has x j) 1 && eqb (has m j) 0) || (eqb (has y j) (has m j) && eqb (has z j) 0)) (λ j. agrees_by (meant (n j) (f j)) (o j) (d j))
    (λ j l. by_digits (hn j) (hf j) (ho j) (hd j) ∙ one_place (n j) (f j) (o j) (d j)))
  where
    by_digits : {a b c e t u v w : ℕ} → a ≡ t → b ≡ u → c ≡ v → e ≡ w → ((eqb b 1 && eqb a 0) || (eqb c a && eqb e 0)) ≡ ((eqb u 1 && eqb t 0) || (eqb v t && eqb w 0))
    by_digits p q r s = ap₂ (λ (x y : Bool). x || y) (ap₂ (λ (b a : ℕ). eqb b 1 && eqb a 0) q p) (ap₂ (λ (x : Bool) (e : ℕ). x && eqb e 0) (ap₂ eqb r p) s)

-- ---- the rows of a table that are in a set

module _ (says : List ℕ) (p : ℕ → Bool) where
  -- some row of the listing's says digit j of its number f, and some row of the cover's
  abbrev pub listed : ℕ → ℕ → Bool
  listed f j = any_from (λ r. p r && eqb (has (get_or says (r * 4 + f) 0) j) 1) 0 192

  abbrev pub covered : ℕ → ℕ → Bool
  covered f j = any_from (λ r. p r && eqb (has (get_or says (r * 4 + f) 0) j) 1) 192 256

  abbrev listing : Said
  listing = gathered_from says (words_of p) 0 3

  abbrev cover : Said
  cover = gathered_from says (words_of p) 3 7

  -- it fails where an output, or, where a next state is named, a bit of the next code does not agree
  pub fails-is : fails_with says (words_of p)
      ≡ (not (every 64 (λ j. agrees_by (meant (listed 2 j) (listed 3 j)) (covered 2 j) (covered 3 j)))
      || (not (eqb listing.a 0) && not (every 64 (λ k. agrees_by (meant (listed 1 k) false) (covered 0 k) (covered 1 k)))))
  unfolding fails_with differs
  fails-is =
      ap₂ (λ (a b : Bool). a || (not (eqb listing.a 0) && b))
      (differ-by listing.c listing.d cover.c cover.d (listed 2) (listed 3) (covered 2) (covered 3)
      (λ j. gathered-says says 2 j (omega arith) p 0 3 (omega arith) (omega arith)) (λ j. gathered-says says 3 j (omega arith) p 0 3 (omega arith) (omega arith))
      (λ j. gathered-says says 2 j (omega arith) p 3 7 (omega arith) (omega arith)) (λ j. gathered-says says 3 j (omega arith) p 3 7 (omega arith) (omega arith)))
      (differ-by listing.b 0 cover.a cover.b (listed 1) (λ k. false) (covered 0) (covered 1)
      (λ j. gathered-says says 1 j (omega arith) p 0 3 (omega arith) (omega arith)) has-none
      (λ j. gathered-says says 0 j (omega arith) p 3 7 (omega arith) (omega arith)) (λ j. gathered-says says 1 j (omega arith) p 3 7 (omega arith) (omega arith)))

  -- a digit of the states named
  pub named-is : (j : ℕ) → has listing.a j ≡ digit (listed 0 j)
  named-is j = gathered-says says 0 j (omega arith) p 0 3 (omega arith) (omega arith)
