-- The families of a listing drawn in one go: how many words they take, and those drawn behind others.
use mathlib.Core.Path.{◌≡◌, refl, ap, ◌∙◌}
use mathlib.Core.List.{List, [], ◌∷◌, ◌++◌, append_assoc}
use Prim.Native.Nat.{ℕ, zero, suc, ◌+◌, ◌*◌, ◌-◌, ◌≤◌, min}
use native.Mathlib.Omega.{arith}
use lib.ListN.{length, take, drop, length-append, length-take}
use lib.Seq.{length-take-le, take-append_seam}
use Rattle.rules.specs.Limits.{most_states, most_rows, most_dichotomies}
use Rattle.rules.specs.Listing.{rows_of, dichotomies_of}
use Rattle.rules.specs.declared.Row.{Row}
use Rattle.rules.specs.declared.Requirement.{Requirement}
use Rattle.rules.specs.declared.Listing.{Listing}
use Rattle.code_drawing.specs.Drawing.{with_groups, pair_words, pairs_of, dichotomy_words, first_families, all_families, Drew}
use Rattle.code_drawing.proofs.Growing.{drew-then, drew-as, drew-words}
use Rattle.code_drawing.proofs.Groups.{rows-length}

-- ---- how many words

pub pairs-length : (n i k : ℕ) → length (pair_words n i k) ≡ 3 * k
unfolding pair_words
pairs-length n i zero = refl
pairs-length n i (suc k) = omega (arith, pairs-length n (suc i) k)

module _ (t : Listing) (long : length t.table ≡ most_rows) where
  pub few-rows : length (rows_of t) ≤ most_rows
  few-rows = omega (arith, length-take t.rows t.table)

  pub few-first : length (first_families t) ≤ 3 * most_states + 3 * most_rows
  unfolding first_families
  few-first =
      let m : ℕ = min t.head.states most_states in
      omega (arith, few-rows, (rows-length t.head.states (rows_of t) (pairs_of m)).1, pairs-length m 0 (m - 1))

pub few-asked : (t : Listing) → length t.asked ≡ most_dichotomies → length (dichotomies_of t) ≤ most_dichotomies
few-asked t wide = omega (arith, length-take t.dichotomies t.asked)

-- ---- behind others

module _ {came ws is after : List ℕ} {k q : ℕ} (fits : k ≤ length is) (d : Drew came ws k is) where
  pub drew-behind : (more : List ℕ) → Drew is (take k is ++ more) q after → Drew came (ws ++ more) q after
  drew-behind more u =
      drew-as (drew-then d u (omega (arith, u.count, length-append (take k is) more, length-take-le k is fits))) (ap (λ (l : List ℕ). l ++ more) (drew-words d))

  pub drew-rows : (n : ℕ) (rs : List Row) → Drew is (with_groups n (take k is) rs) q after → Drew came (with_groups n ws rs) q after
  drew-rows n rs u =
      drew-as (drew-then d u (omega (arith, u.count, (rows-length n rs (take k is)).0, length-take-le k is fits))) (ap (λ (l : List ℕ). with_groups n l rs) (drew-words d))

-- ---- of all that a listing asks

dichotomies-length : (ds : List Requirement) → length (dichotomy_words ds) ≡ 3 * length ds
unfolding dichotomy_words
dichotomies-length [] = refl
dichotomies-length (d ∷ ds) = omega (arith, dichotomies-length ds)

pub few-all : (t : Listing) → length t.table ≡ most_rows → length t.asked ≡ most_dichotomies → length (all_families t) ≤ 3 * (most_states + most_rows + most_dichotomies)
unfolding all_families
few-all t long wide =
    omega (
      arith,
      few-first t long,
      length-append (first_families t) (dichotomy_words (dichotomies_of t)),
      dichotomies-length (dichotomies_of t),
      length-take t.dichotomies t.asked,
    )

-- those of the pairs and the groups stand before the dichotomies'
module _ (t : Listing) (wide : length t.asked ≡ most_dichotomies) (few : t.dichotomies ≤ most_dichotomies) where
  pub all-length : length (all_families t) ≡ length (first_families t) + 3 * t.dichotomies
  unfolding all_families
  all-length =
      omega (
        arith,
        length-append (first_families t) (dichotomy_words (dichotomies_of t)),
        dichotomies-length (dichotomies_of t),
        length-take t.dichotomies t.asked,
      )

  pub front-words : take (length (all_families t) - 3 * t.dichotomies) (all_families t) ≡ first_families t
  unfolding all_families
  front-words =
      let e : length (all_families t) - 3 * t.dichotomies ≡ length (first_families t) = omega (arith, all-length) in
      ap (λ (k : ℕ). take k (all_families t)) e ∙ take-append_seam (first_families t) (dichotomy_words (dichotomies_of t))

  pub first-words : {came is : List ℕ} {k : ℕ} → Drew came (all_families t) k is → take (k - 3 * t.dichotomies) is ≡ first_families t
  unfolding all_families
  first-words {came} {is} {k} d =
      let e : k - 3 * t.dichotomies ≡ length (first_families t) = omega (arith, d.count, all-length) in
      rw (e, d.holds, append_assoc (first_families t) (dichotomy_words (dichotomies_of t)) (drop k came))
      (take-append_seam (first_families t) (dichotomy_words (dichotomies_of t) ++ drop k came))
