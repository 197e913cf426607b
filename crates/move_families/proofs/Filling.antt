-- The filled table of a list of families is the list's filled table over all their requirements.
use Rattle.std.proofs.Common.{◌≡◌, ℕ, ◌+◌, ◌%◌, ◌^◌, ◌<◌, ◌≤◌, true, List, [], ◌∷◌, ◌++◌, length, get_or, sym, refl, ap, ◌∙◌, ap₂, lt_of_lt_of_le, arith, ext_get_or, pow_mono}
use lib.Bits.{bit_xor}
use Rattle.sets.specs.Sets.{flip as turn}
use Rattle.rules.specs.Requirements.{met_count}
use Rattle.rules.specs.declared.Requirement.{Requirement}
use Rattle.rules.proofs.Good.{AllGood}
use Rattle.move_table.specs.Table.{less, raised, weighed, shared}
use Rattle.move_table.proofs.Shares.{is_met, makes_of, breaks_of}
use Rattle.move_table.specs.Moves.{filled}
use Rattle.move_table.proofs.Shows.{length-weighed, length-filled}
use Rattle.families.specs.Families.{without, requirements_of, requirements_in}
use Rattle.move_halves.specs.Halves.{side, back, ones, zeros, worth, halved}
use Rattle.move_halves.proofs.Modulo.{cancel, sums, both}
use Rattle.move_halves.proofs.Levels.{length-halved}
use Rattle.move_halves.proofs.Meets.{spare, family-met}
use Rattle.move_halves.proofs.Putting.{half1, half0, put1, put0, put1-on, put0-on}
use Rattle.families.proofs.Walk.{Words, words-three}
use Rattle.move_families.proofs.Lists.{shared-level, Fits, raised-fits}
use Rattle.move_families.proofs.Whole.{met-append, widen, all-good, halved-fits, same-level}
use Rattle.move_families.specs.Filled.{family_filled, filled_all}

-- ---- the list's table

module _ (n b k : ℕ) (hb : b < 2 ^ n) (hk : k < n) where
  pub filled-level : (rs : List Requirement) → AllGood n rs → (t : List ℕ) → k < length t
      → (get_or (filled rs b t) k 0 + met_count n rs b) % 2 ^ 32 ≡ (get_or t k 0 + met_count n rs (turn b k)) % 2 ^ 32
  unfolding filled met_count
  filled-level [] good t l = refl
  filled-level (r ∷ rs) good t l =
      let u : List ℕ = shared r.first r.second b t in
      let lu : k < length u = omega (arith, length-weighed 1 less r.first r.second b t) in
      join (get_or t k 0) (get_or u k 0) (get_or (filled rs b u) k 0) (is_met n r b) (is_met n r (turn b k)) (met_count n rs b) (met_count n rs (turn b k))
      (shared-level n r good.0 b k hb hk t l) (filled-level rs good.1 u lu)
    where
      join : (t v w p p' q q' : ℕ) → (v + p) % 2 ^ 32 ≡ (t + p') % 2 ^ 32 → (w + q) % 2 ^ 32 ≡ (v + q') % 2 ^ 32 → (w + (p + q)) % 2 ^ 32 ≡ (t + (p' + q')) % 2 ^ 32
      join t v w p p' q q' e f =
          let x : w + (p + q) ≡ w + p + q = omega arith in
          let y : t + (p' + q') ≡ t + p' + q' = omega arith in
          sums x y (both t v w p p' q q' e f)

pub filled-fits : (rs : List Requirement) (b : ℕ) (t : List ℕ) → Fits t → Fits (filled rs b t)
unfolding filled weighed
filled-fits [] b t h = h
filled-fits (r ∷ rs) b t h =
    filled-fits rs b (shared r.first r.second b t) (raised-fits (raised less (breaks_of r b) 0 t) (raised-fits t h less (breaks_of r b)) 1 (makes_of r b))

-- ---- one family

module _ (all flip out b : ℕ) (t : List ℕ) where
  length-family : length (family_filled all flip out b t) ≡ length t
  unfolding family_filled
  length-family =
      length-halved true (worth out (zeros (without out all) b)) all (back all flip b) (zeros (without out all) b) (ones (without out all) b) (put1 true all flip out b t)
      ∙ length-halved true (worth out (ones (without out all) b)) all (side all flip b) (ones (without out all) b) (zeros (without out all) b) t

  family-fits : Fits t → Fits (family_filled all flip out b t)
  unfolding family_filled
  family-fits h =
      halved-fits true (worth out (zeros (without out all) b)) all (back all flip b) (zeros (without out all) b) (ones (without out all) b) (put1 true all flip out b t)
      (halved-fits true (worth out (ones (without out all) b)) all (side all flip b) (ones (without out all) b) (zeros (without out all) b) t h)

  family-level : (n k : ℕ) → all < 2 ^ n → out < 2 ^ n → out < 2 ^ 64 → k < n → k < length t
      → (get_or (family_filled all flip out b t) k 0 + met_count n (requirements_of all flip out) b) % 2 ^ 32 ≡ (get_or t k 0 + met_count n (requirements_of all flip out) (turn b k)) % 2 ^ 32
  unfolding family_filled
  family-level n k ha ho hw hk l =
      let u : List ℕ = put1 true all flip out b t in
      let lu : k < length u = omega (arith, length-halved true (worth out (ones (without out all) b)) all (side all flip b) (ones (without out all) b) (zeros (without out all) b) t) in
      close (get_or t k 0) (get_or (put0 true all flip out b u) k 0) (half1 all flip out b) (half0 all flip out b) (half1 all flip out (turn b k)) (half0 all flip out (turn b k))
      (met_count n (requirements_of all flip out) b) (met_count n (requirements_of all flip out) (turn b k)) (spare all out)
      (family-met n all flip out b ha ho hw) (family-met n all flip out (turn b k) ha ho hw)
      (both (get_or t k 0) (get_or u k 0) (get_or (put0 true all flip out b u) k 0) (half1 all flip out b) (half1 all flip out (turn b k)) (half0 all flip out b) (half0 all flip out (turn b k))
      (put1-on n all flip out b k ha ho hw hk t l) (put0-on n all flip out b k ha ho hw hk u lu))
    where
      close : (t w p q p' q' m m' c : ℕ) → m + c ≡ p + q → m' + c ≡ p' + q' → (w + p + q) % 2 ^ 32 ≡ (t + p' + q') % 2 ^ 32 → (w + m) % 2 ^ 32 ≡ (t + m') % 2 ^ 32
      close t w p q p' q' m m' c e f h =
          let i : w + m + c ≡ w + p + q = omega arith in
          let j : t + m' + c ≡ t + p' + q' = omega arith in
          cancel (w + m) (t + m') c (sums i j h)

-- ---- a list of families

module _ (b : ℕ) where
  length-all : (fs : List ℕ) (t : List ℕ) → length (filled_all fs b t) ≡ length t
  unfolding filled_all
  length-all [] t = refl
  length-all (all ∷ []) t = refl
  length-all (all ∷ (flip ∷ [])) t = refl
  length-all (all ∷ (flip ∷ (out ∷ fs))) t = length-all fs (family_filled all flip out b t) ∙ length-family all flip out b t

  all-fits : (fs : List ℕ) (t : List ℕ) → Fits t → Fits (filled_all fs b t)
  unfolding filled_all
  all-fits [] t h = h
  all-fits (all ∷ []) t h = h
  all-fits (all ∷ (flip ∷ [])) t h = h
  all-fits (all ∷ (flip ∷ (out ∷ fs))) t h = all-fits fs (family_filled all flip out b t) (family-fits all flip out b t h)

module _ (n b k : ℕ) (wide : 64 ≤ n) (hk : k < n) where
  all-level : (fs : List ℕ) → Words fs → (t : List ℕ) → k < length t
      → (get_or (filled_all fs b t) k 0 + met_count n (requirements_in fs) b) % 2 ^ 32 ≡ (get_or t k 0 + met_count n (requirements_in fs) (turn b k)) % 2 ^ 32
  unfolding filled_all requirements_in met_count
  all-level [] hw t l = refl
  all-level (all ∷ []) hw t l = refl
  all-level (all ∷ (flip ∷ [])) hw t l = refl
  all-level (all ∷ (flip ∷ (out ∷ fs))) hw t l =
      let u : List ℕ = family_filled all flip out b t in
      let lu : k < length u = omega (arith, length-family all flip out b t) in
      let rs : List Requirement = requirements_of all flip out in
      let qs : List Requirement = requirements_in fs in
      join (get_or t k 0) (get_or u k 0) (get_or (filled_all fs b u) k 0) (met_count n rs b) (met_count n rs (turn b k)) (met_count n qs b) (met_count n qs (turn b k))
      (met_count n (rs ++ qs) b) (met_count n (rs ++ qs) (turn b k)) (met-append n rs qs b) (met-append n rs qs (turn b k))
      (family-level all flip out b t n k (widen n wide all (hw 0)) (widen n wide out (hw 2)) (hw 2) hk l)
      (all-level fs (words-three all flip out fs hw) u lu)
    where
      join : (t v w p p' q q' r r' : ℕ) → r ≡ p + q → r' ≡ p' + q' → (v + p) % 2 ^ 32 ≡ (t + p') % 2 ^ 32 → (w + q) % 2 ^ 32 ≡ (v + q') % 2 ^ 32 → (w + r) % 2 ^ 32 ≡ (t + r') % 2 ^ 32
      join t v w p p' q q' r r' a c e f =
          let x : w + r ≡ w + p + q = omega arith in
          let y : t + r' ≡ t + p' + q' = omega arith in
          sums x y (both t v w p p' q q' e f)

pub filled-families : (fs : List ℕ) → Words fs → (b : ℕ) → b < 2 ^ 64 → (t : List ℕ) → Fits t → filled_all fs b t ≡ filled (requirements_in fs) b t
filled-families fs hw b hb t fit =
    ext_get_or 0 (filled_all fs b t) (filled (requirements_in fs) b t) (length-all b fs t ∙ sym (length-filled (requirements_in fs) b t))
    (λ k l. each k (omega (arith, length-all b fs t)))
  where
    each : (k : ℕ) → k < length t → get_or (filled_all fs b t) k 0 ≡ get_or (filled (requirements_in fs) b t) k 0
    each k l =
        let n : ℕ = 64 + length t in
        let wide : 64 ≤ n = omega arith in
        let hk : k < n = omega arith in
        let rs : List Requirement = requirements_in fs in
        same-level (get_or (filled_all fs b t) k 0) (get_or (filled rs b t) k 0) (met_count n rs b) (all-fits b fs t fit k) (filled-fits rs b t fit k)
        (all-level n b k wide hk fs hw t l
        ∙ sym (filled-level n b k (lt_of_lt_of_le hb (pow_mono wide)) hk rs (all-good n wide fs hw) t l))

-- ---- the loop: what is left of the list is still to be put on

pub filled-end : (l : List ℕ) (b : ℕ) (t : List ℕ) → length l ≤ 2 → filled_all l b t ≡ t
unfolding filled_all
filled-end [] b t h = refl
filled-end (all ∷ []) b t h = refl
filled-end (all ∷ (flip ∷ [])) b t h = refl
filled-end (all ∷ (flip ∷ (out ∷ fs))) b t h = absurd (omega arith)

pub filled_more : (l : List ℕ) (all flip out : ℕ) (rest : List ℕ) (b : ℕ) (t : List ℕ) → l ≡ all ∷ (flip ∷ (out ∷ rest)) → filled_all l b t ≡ filled_all rest b (family_filled all flip out b t)
unfolding filled_all
filled_more l all flip out rest b t e = ap (λ (k : List ℕ). filled_all k b t) e

-- one family, of what code has on the way
pub by-family : (all flip out b x o w v : ℕ) (t u t' : List ℕ) → x ≡ side all flip b → o ≡ without out all → w ≡ worth out (ones o b) → v ≡ worth out (zeros o b)
    → u ≡ halved true w all x (ones o b) (zeros o b) t → t' ≡ halved true v all (bit_xor all x) (zeros o b) (ones o b) u → t' ≡ family_filled all flip out b t
unfolding family_filled
by-family all flip out b x o w v t u t' ex eo ew ev eu et =
    et
    ∙ ap₂ (λ (v : ℕ) (u : List ℕ). halved true v all (bit_xor all x) (zeros o b) (ones o b) u) ev (eu ∙ ap (λ (w : ℕ). halved true w all x (ones o b) (zeros o b) t) ew)
    ∙ ap₂
    (λ (x o : ℕ). halved true (worth out (zeros o b)) all (bit_xor all x) (zeros o b) (ones o b) (halved true (worth out (ones o b)) all x (ones o b) (zeros o b) t))
    ex eo
