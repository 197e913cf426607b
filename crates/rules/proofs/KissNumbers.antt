-- How a KISS2 text's states are numbered, and that comparing rows is comparing texts: a name has the number with which it first appeared, whatever is named later; and
-- fields of `0 1 -` of one length are the same exactly when their patterns are.
use mathlib.Core.Path.{◌≡◌, refl, sym, ap, ap₂, ◌∙◌}
use mathlib.Core.Bool.{Bool, true, false, ◌||◌, cond, false≢true}
use mathlib.Core.List.{List, [], ◌∷◌, ◌++◌}
use Prim.Native.Nat.{ℕ, suc, ◌+◌, ◌*◌, ◌<◌}
use native.Mathlib.Omega.{arith}
use lib.Dec.{ltb, eqb}
use lib.ListN.{length, get_or}
use borrow.Author.Tests.{ltb-false, eqb-true, eq-eqb}
use Rattle.sets.proofs.Every.{and_first, and_second}
use Rattle.rules.specs.Text.{nought, one, dash, digit, same, all_of, set_of}
use Rattle.rules.specs.KissLines.{is_star, first_place}
use Rattle.rules.specs.Kiss.{number_of, named}
use Rattle.rules.proofs.FirstPlace.{place-most, place-has}
use Rattle.rules.proofs.Known.{same-eq}

-- ---- the first place in a longer list

module _ {A : Type 0} (p : A → Bool) where
  place_kept : (l m : List A) → first_place p l < length l → first_place p (l ++ m) ≡ first_place p l
  unfolding first_place
  place_kept [] m h = absurd (omega arith)
  place_kept (x ∷ xs) m h = go (p x) h (λ g. place_kept xs m g)
    where
      go : (b : Bool) → elim b as (λ _. ℕ) [ true ↦ 0 | false ↦ suc (first_place p xs) ] < suc (length xs) → (first_place p xs < length xs → first_place p (xs ++ m) ≡ first_place p xs)
          → ◌≡◌ {A = ℕ} (elim b [ true ↦ 0 | false ↦ suc (first_place p (xs ++ m)) ]) (elim b [ true ↦ 0 | false ↦ suc (first_place p xs) ])
      go true h f = refl
      go false h f = ap suc (f (omega arith))

  place-behind : (l : List A) (x : A) → p x ≡ true → first_place p l ≡ length l → first_place p (l ++ (x ∷ [])) ≡ length l
  unfolding first_place
  place-behind [] x e h = go (p x) e
    where
      go : (b : Bool) → b ≡ true → ◌≡◌ {A = ℕ} (elim b [ true ↦ 0 | false ↦ 1 ]) 0
      go true e = refl
      go false e = absurd (false≢true e)
  place-behind (y ∷ ys) x e h = go (p y) h (λ g. place-behind ys x e g)
    where
      go : (b : Bool) → ◌≡◌ {A = ℕ} (elim b [ true ↦ 0 | false ↦ suc (first_place p ys) ]) (suc (length ys)) → (first_place p ys ≡ length ys → first_place p (ys ++ (x ∷ [])) ≡ length ys)
          → ◌≡◌ {A = ℕ} (elim b [ true ↦ 0 | false ↦ suc (first_place p (ys ++ (x ∷ []))) ]) (suc (length ys))
      go true h f = absurd (omega arith)
      go false h f = ap suc (f (omega arith))

-- ---- numbers

pub same_self : (f : List ℕ) → same f f ≡ true
unfolding same
same_self [] = refl
same_self (x ∷ xs) = rw (eq-eqb x x refl) (same_self xs)

-- the state of a name has that name
pub number-names : (ns : List (List ℕ)) (f : List ℕ) → number_of ns f < length ns → get_or ns (number_of ns f) [] ≡ f
unfolding number_of
number-names ns f h = same-eq (get_or ns (number_of ns f) []) f (place-has (λ n. same n f) ns [] h)

-- and keeps its number when another is named
pub number-kept : (ns : List (List ℕ)) (f g : List ℕ) → number_of ns g < length ns → number_of (named ns f) g ≡ number_of ns g
unfolding named number_of
number-kept ns f g h = go (is_star f || ltb (number_of ns f) (length ns))
  where
    go : (b : Bool) → first_place (λ n. same n g) (cond b ns (ns ++ (f ∷ []))) ≡ first_place (λ n. same n g) ns
    go true = refl
    go false = place_kept (λ n. same n g) ns (f ∷ []) h

-- the number that a name gets is the one that it had, or the next
pub number-given : (ns : List (List ℕ)) (f : List ℕ) → is_star f ≡ false → number_of (named ns f) f ≡ number_of ns f
unfolding named number_of
number-given ns f e = rw e (go (ltb (number_of ns f) (length ns)) refl)
  where
    go : (b : Bool) → ltb (number_of ns f) (length ns) ≡ b → first_place (λ n. same n f) (cond b ns (ns ++ (f ∷ []))) ≡ first_place (λ n. same n f) ns
    go true h = refl
    go false h =
        let l : first_place (λ n. same n f) ns ≡ length ns = omega (arith, place-most (λ n. same n f) ns, ltb-false (number_of ns f) (length ns) h) in
        place-behind (λ n. same n f) ns f (same_self f) l ∙ sym l

-- the name of `.r` is state 0
pub reset-first : (f : List ℕ) → number_of (f ∷ []) f ≡ 0
unfolding number_of
reset-first f = place-behind (λ n. same n f) [] f (same_self f) refl

-- ---- patterns and texts

digits-apart : (a b : Bool) (m n : ℕ) → m * 2 + digit a ≡ n * 2 + digit b → (m ≡ n) × (a ≡ b)
digits-apart true true m n e = (omega arith, refl)
digits-apart false false m n e = (omega arith, refl)
digits-apart true false m n e = absurd (omega arith)
digits-apart false true m n e = absurd (omega arith)

-- a character is told by whether it is 1 and whether it is a dash
character : (x : ℕ) → (eqb x nought || (eqb x one || eqb x dash)) ≡ true → x ≡ cond (eqb x one) one (cond (eqb x dash) dash nought)
character x e = go (eqb x nought) (eqb x one) (eqb x dash) refl refl refl e
  where
    go : (a b c : Bool) → eqb x nought ≡ a → eqb x one ≡ b → eqb x dash ≡ c → (a || (b || c)) ≡ true → x ≡ cond b one (cond c dash nought)
    go a true c p q r e = eqb-true x one q
    go a false true p q r e = eqb-true x dash r
    go true false false p q r e = eqb-true x nought p
    go false false false p q r e = absurd (false≢true e)

pub pattern-text : (f g : List ℕ) → length f ≡ length g → all_of nought one dash f ≡ true → all_of nought one dash g ≡ true → set_of one f ≡ set_of one g → set_of dash f ≡ set_of dash g
    → f ≡ g
unfolding all_of set_of
pattern-text [] [] h a b p q = refl
pattern-text [] (y ∷ ys) h a b p q = absurd (omega arith)
pattern-text (x ∷ xs) [] h a b p q = absurd (omega arith)
pattern-text (x ∷ xs) (y ∷ ys) h a b p q =
    let u = digits-apart (eqb x one) (eqb y one) (set_of one xs) (set_of one ys) p in
    let v = digits-apart (eqb x dash) (eqb y dash) (set_of dash xs) (set_of dash ys) q in
    let c : x ≡ y = character x (and_first _ (all_of nought one dash xs) a)
    ∙ ap₂ (λ (s t : Bool). cond s one (cond t dash nought)) u.1 v.1
    ∙ sym (character y (and_first _ (all_of nought one dash ys) b))
    in
    ap₂ (λ (z : ℕ) (zs : List ℕ). z ∷ zs) c
    (pattern-text xs ys (omega arith) (and_second (eqb x nought || (eqb x one || eqb x dash)) _ a) (and_second (eqb y nought || (eqb y one || eqb y dash)) _ b) u.0 v.0)
