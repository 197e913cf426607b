-- Lists that a loop goes through, one element more at the end: what a loop has written is the text of the elements passed.
use mathlib.Core.Path.{◌≡◌, refl, sym, ap, ◌∙◌}
use mathlib.Core.List.{List, [], ◌∷◌, ◌++◌, map, map-append, append_assoc, append-nil}
use Prim.Native.Nat.{ℕ, zero, suc, ◌+◌, ◌<◌}
use native.Mathlib.Nat.{add-zero, zero-add}
use native.Mathlib.Numerals.{add-one}
use native.Mathlib.Omega.{arith}
use lib.ListN.{length, take, get_or}
use lib.Seq.{take-suc}
use Rattle.std.proofs.lemmas.List.{map_more}
use Rattle.sets.specs.Sets.{has, states_from}
use Rattle.rules.specs.Text.{nought}
use Rattle.rules.specs.Report.{joined_lines}
use Rattle.write_pen.specs.Pen.{digits_text}

-- ---- elements of a list

pub take-one {ℓ} : {A : Type ℓ} (l : List A) (i : ℕ) (d : A) → i < length l → take (i + 1) l ≡ take i l ++ (get_or l i d ∷ [])
take-one l i d h = rw add-one (take-suc l i d h)

-- a byte for each
pub bytes-of-one : {A : Type 0} (f : A → ℕ) (l : List A) (i : ℕ) (d : A) {b : ℕ} → i < length l → b ≡ f (get_or l i d) → map f (take (i + 1) l) ≡ map f (take i l) ++ (b ∷ [])
bytes-of-one f l i d h e = map_more f l i d h ∙ rw (sym e)

-- ---- states, from 0

states-more : (a n : ℕ) → states_from a (suc n) ≡ states_from a n ++ ((a + n) ∷ [])
unfolding states_from
states-more a zero = rw add-zero
states-more a (suc n) =
    let e : suc a + n ≡ a + suc n = omega arith in
    ap (λ (l : List ℕ). a ∷ l) (states-more (suc a) n ∙ rw e)

pub states-one : (i : ℕ) → states_from 0 (i + 1) ≡ states_from 0 i ++ (i ∷ [])
states-one i = rw add-one (states-more 0 i ∙ rw zero-add)

-- a byte for each
pub bytes_one : (f : ℕ → ℕ) (i : ℕ) {b : ℕ} → b ≡ f i → map f (states_from 0 (i + 1)) ≡ map f (states_from 0 i) ++ (b ∷ [])
bytes_one f i e = ap (map f) (states-one i) ∙ map-append f (states_from 0 i) (i ∷ []) ∙ rw (sym e)

pub digits-none : (m : ℕ) → digits_text m 0 ≡ []
unfolding digits_text
digits-none m = refl

pub digits-one : (m i : ℕ) {b : ℕ} → b ≡ nought + has m i → digits_text m (i + 1) ≡ digits_text m i ++ (b ∷ [])
unfolding digits_text
digits-one m i e = bytes_one (λ s. nought + has m s) i e

-- ---- lines

pub joined-append : (xs ys : List (List ℕ)) → joined_lines (xs ++ ys) ≡ joined_lines xs ++ joined_lines ys
unfolding joined_lines
joined-append [] ys = refl
joined-append (x ∷ xs) ys = ap (λ (l : List ℕ). x ++ l) (joined-append xs ys) ∙ sym (append_assoc x (joined_lines xs) (joined_lines ys))

pub joined-one : (l : List ℕ) → joined_lines (l ∷ []) ≡ l
unfolding joined_lines
joined-one l = append-nil l

pub joined-none : joined_lines [] ≡ []
unfolding joined_lines
joined-none = refl

-- one line more
pub joined-more : (ls : List (List ℕ)) (l : List ℕ) → joined_lines (ls ++ (l ∷ [])) ≡ joined_lines ls ++ l
joined-more ls l = joined-append ls (l ∷ []) ∙ rw (joined-one l)
