-- The words of a fair listing's families are sets of its states.
use mathlib.Core.Path.{◌≡◌, sym, subst}
use mathlib.Core.Bool.{Bool, true, false, ◌&&◌, not, cond}
use mathlib.Core.List.{List, [], ◌∷◌, ◌++◌}
use Prim.Native.Nat.{ℕ, zero, suc, ◌^◌, ◌≤◌, ◌<◌, min}
use native.Mathlib.Omega.{arith}
use lib.Bits.{bit_or, or_lt}
use lib.Dec.{leb, ltb}
use lib.ListN.{length, get_or}
use lib.Pow.{pow_pos}
use Rattle.sets.specs.Sets.{everyone, size}
use Rattle.rules.specs.Listing.{no_row, no_requirement, rows_of, dichotomies_of}
use Rattle.rules.specs.declared.Row.{Row}
use Rattle.rules.specs.declared.Requirement.{Requirement}
use Rattle.rules.specs.declared.Listing.{Listing}
use Rattle.rules.proofs.SoundLines.{SoundBlocks}
use Rattle.code_fair.specs.Fair.{fair}
use Rattle.code_fair.proofs.Limits.{fair-grants}
use Rattle.families.specs.Families.{without}
use Rattle.families.proofs.Parts.{rest_lt}
use Rattle.code_drawing.specs.Drawing.{family, stands_in, with_group, with_groups, dichotomy_words, group_families, families_of}

-- every word of a list is a set of n states; what a list has not is no state
abbrev Words : ℕ → List ℕ → Type 0
Words n l = (i : ℕ) → get_or l i 0 < 2 ^ n

words-none : (n : ℕ) → Words n []
words-none n i = pow_pos n

words-cons : (n x : ℕ) (l : List ℕ) → x < 2 ^ n → Words n l → Words n (x ∷ l)
words-cons n x l h w zero = h
words-cons n x l h w (suc i) = w i

-- a family more
words-family : (n all flip out : ℕ) (l : List ℕ) → all < 2 ^ n → flip < 2 ^ n → out < 2 ^ n → Words n l → Words n (all ∷ (flip ∷ (out ∷ l)))
words-family n all flip out l a f o w = words-cons n all (flip ∷ (out ∷ l)) a (words-cons n flip (out ∷ l) f (words-cons n out l o w))

words_append : (n : ℕ) (k l : List ℕ) → Words n k → Words n l → Words n (k ++ l)
words_append n [] l w u = u
words_append n (x ∷ k) l w u = words-cons n x (k ++ l) (w 0) (words_append n k l (λ i. w (suc i)) u)

module _ (n : ℕ) (fits : n ≤ 64) where
  group-words : (fs : List ℕ) (g : ℕ) → Words n fs → g < 2 ^ n → Words n (with_group n fs g)
  unfolding with_group
  group-words fs g w h = go (leb 2 (size g) && ltb (size g) n && not (stands_in g fs))
    where
      out : without (everyone (min n 64)) g < 2 ^ n
      out =
          let e : min n 64 ≡ n = omega arith in
          let all : everyone n < 2 ^ n = omega (arith, pow_pos n) in
          subst (λ (k : ℕ). without (everyone k) g < 2 ^ n) (sym e) (rest_lt n (everyone n) g all)

      go : (b : Bool) → Words n (cond b (fs ++ family g 0 (without (everyone (min n 64)) g)) fs)
      go true = words_append n fs (family g 0 (without (everyone (min n 64)) g)) w (words-family n g 0 (without (everyone (min n 64)) g) [] h (pow_pos n) out (words-none n))
      go false = w

  groups-words : (rs : List Row) (fs : List ℕ) → Words n fs → ((k : ℕ) → k < length rs → (get_or rs k no_row).group < 2 ^ n) → Words n (with_groups n fs rs)
  unfolding with_groups
  groups-words [] fs w h = w
  groups-words (r ∷ rs) fs w h = groups-words rs (with_group n fs r.group) (group-words fs r.group w (h 0 (omega arith))) (λ k q. h (suc k) (omega arith))

dichotomies-words : (n : ℕ) (ds : List Requirement) → ((k : ℕ) → k < length ds → SoundBlocks n (get_or ds k no_requirement)) → Words n (dichotomy_words ds)
unfolding dichotomy_words
dichotomies-words n [] h = words-none n
dichotomies-words n (d ∷ ds) h =
    let s = h 0 (omega arith) in
    words-family n (bit_or d.first d.second) d.second 0 (dichotomy_words ds) (or_lt n d.first d.second s.first s.second) s.second (pow_pos n)
    (dichotomies-words n ds (λ k q. h (suc k) (omega arith)))

pub families-within : (t : Listing) → fair t ≡ true → Words t.head.states (families_of t)
unfolding families_of group_families
families-within t e =
    let n : ℕ = t.head.states in
    let few : n ≤ 64 = omega (arith, (fair-grants t e).limits.few-states) in
    words_append n (group_families t) (dichotomy_words (dichotomies_of t)) (groups-words n few (rows_of t) [] (words-none n) (fair-grants t e).group)
    (dichotomies-words n (dichotomies_of t) (fair-grants t e).dichotomy)
