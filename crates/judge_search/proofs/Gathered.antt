-- What rows say together, digit by digit: a digit is 1 where some row of them says it.
use mathlib.Core.Path.{◌≡◌, refl, sym, ap, ap₂, ◌∙◌}
use mathlib.Core.Bool.{Bool, true, false, ◌&&◌, ◌||◌, cond}
use mathlib.Core.List.{List, [], ◌∷◌}
use Prim.Native.Nat.{ℕ, zero, suc, ◌+◌, ◌*◌, ◌-◌, ◌≤◌, ◌<◌, max}
use native.Mathlib.Nat.{zero-add}
use native.Mathlib.Omega.{arith}
use lib.Bits.{bit_or}
use lib.Dec.{eqb}
use lib.ListN.{length, get_or}
use Rattle.sets.specs.Sets.{has}
use Rattle.sets.proofs.Members.{has-or, has-none}
use Rattle.rules.specs.Text.{digit}
use Rattle.rules.specs.Listing.{some}
use Rattle.rules.proofs.Agreeing.{each-state}
use Rattle.judge_search.specs.Rows.{any_from, word_from, words_of}
use Rattle.judge_search.specs.Search.{said_with, unsaid, gathered_word, gathered_words, gathered_from}
use Rattle.judge_search.specs.declared.Said.{Said}
use Rattle.judge_search.proofs.Columns.{digit-has, rest-digits, last-digit}

pub any-parts : (p : ℕ → Bool) (a k m : ℕ) → any_from p a (k + m) ≡ (any_from p a k || any_from p (a + k) m)
unfolding any_from
any-parts p a zero m = let e : a ≡ a + 0 = omega arith in let f : 0 + m ≡ m = omega arith in ap₂ (any_from p) e f
any-parts p a (suc k) m =
    let n : suc k + m ≡ suc (k + m) = omega arith in
    let e : suc a + k ≡ a + suc k = omega arith in
    ap (any_from p a) n ∙ ap (λ (b : Bool). p a || b) (any-parts p (suc a) k m ∙ ap (λ (c : ℕ). any_from p (suc a) k || any_from p c m) e) ∙ grouped (p a) (any_from p (suc a) k) (any_from p (a + suc k) m)
  where
    grouped : (x y z : Bool) → (x || (y || z)) ≡ ((x || y) || z)
    grouped true y z = refl
    grouped false y z = refl

-- one of either kind
pub any-either : (p q all : ℕ → Bool) → ((r : ℕ) → (p r || q r) ≡ all r) → (a k : ℕ) → (any_from p a k || any_from q a k) ≡ any_from all a k
unfolding any_from
any-either p q all h a zero = refl
any-either p q all h a (suc k) = go (p a) (q a) (any_from p (suc a) k) (any_from q (suc a) k) ∙ ap₂ ◌||◌ (h a) (any-either p q all h (suc a) k)
  where
    go : (w x y z : Bool) → ((w || y) || (x || z)) ≡ ((w || x) || (y || z))
    go true x y z = refl
    go false true true z = refl
    go false true false z = refl
    go false false y z = refl

-- a digit that is 1 where something is, and where something else is
pub joined : (x : ℕ) (b c : Bool) → max (max x (digit b)) (digit c) ≡ max x (digit (b || c))
joined x true true = omega arith
joined x true false = omega arith
joined x false true = omega arith
joined x false false = omega arith

-- ---- the four numbers of what is said

abbrev pub part : ℕ → Said → ℕ
part zero s = s.a
part (suc zero) s = s.b
part (suc (suc zero)) s = s.c
part (suc (suc (suc f))) s = s.d

part-with : (says : List ℕ) (f r : ℕ) (s : Said) → f < 4 → part f (said_with says r s) ≡ bit_or (part f s) (get_or says (r * 4 + f) 0)
part-with says zero r s h = let e : r * 4 ≡ r * 4 + 0 = omega arith in ap (λ (at : ℕ). bit_or s.a (get_or says at 0)) e
part-with says (suc zero) r s h = refl
part-with says (suc (suc zero)) r s h = refl
part-with says (suc (suc (suc zero))) r s h = refl
part-with says (suc (suc (suc (suc f)))) r s h = absurd (omega arith)

-- ---- a word of rows

module _ (says : List ℕ) (f j : ℕ) (within : f < 4) (p : ℕ → Bool) where
  -- a row of them says 1 at the digit j
  abbrev pub saysIt : ℕ → Bool
  saysIt r = p r && eqb (has (get_or says (r * 4 + f) 0) j) 1

  one_more : (r : ℕ) (s : Said) → has (part f (cond (p r) (said_with says r s) s)) j ≡ max (has (part f s) j) (digit (saysIt r))
  one_more r s = go (p r)
    where
      go : (b : Bool) → has (part f (cond b (said_with says r s) s)) j ≡ max (has (part f s) j) (digit (b && eqb (has (get_or says (r * 4 + f) 0) j) 1))
      go true = ap (λ (m : ℕ). has m j) (part-with says f r s within) ∙ has-or (part f s) (get_or says (r * 4 + f) 0) j ∙ ap (max (has (part f s) j)) (sym (digit-has (get_or says (r * 4 + f) 0) j))
      go false = omega arith

  gathered-word : (r k : ℕ) (s : Said) → has (part f (gathered_word says r k (word_from p r k) s)) j ≡ max (has (part f s) j) (digit (any_from saysIt r k))
  unfolding gathered_word word_from any_from
  gathered-word r zero s = omega arith
  gathered-word r (suc k) s =
      ap₂ (λ (m d : ℕ). has (part f (gathered_word says (suc r) k m (cond (eqb d 1) (said_with says r s) s))) j) (rest-digits (word_from p (suc r) k) (p r)) (last-digit (word_from p (suc r) k) (p r))
      ∙ ap (λ (b : Bool). has (part f (gathered_word says (suc r) k (word_from p (suc r) k) (cond b (said_with says r s) s))) j) (is_one (p r))
      ∙ gathered-word (suc r) k (cond (p r) (said_with says r s) s)
      ∙ ap (λ (m : ℕ). max m (digit (any_from saysIt (suc r) k))) (one_more r s)
      ∙ joined (has (part f s) j) (saysIt r) (any_from saysIt (suc r) k)
    where
      is_one : (b : Bool) → eqb (digit b) 1 ≡ b
      is_one true = refl
      is_one false = refl

  -- ---- some words of them

  word_at : (q : ℕ) → q < 7 → get_or (words_of p) q 0 ≡ word_from p (q * 64) 64
  unfolding words_of
  word_at q h = each-state (λ q. word_from p (q * 64) 64) 0 7 q h ∙ ap (λ (q : ℕ). word_from p (q * 64) 64) (zero-add q)

  pub gathered-words : (q k : ℕ) (s : Said) → q + k ≤ 7 → has (part f (gathered_words says (words_of p) q k s)) j ≡ max (has (part f s) j) (digit (any_from saysIt (q * 64) (k * 64)))
  unfolding gathered_words any_from
  gathered-words q zero s h = omega arith
  gathered-words q (suc k) s h =
      let block : suc k * 64 ≡ 64 + k * 64 = omega arith in
      let next : suc q * 64 ≡ q * 64 + 64 = omega arith in
      ap (λ (m : ℕ). has (part f (gathered_words says (words_of p) (suc q) k (gathered_word says (q * 64) 64 m s))) j) (word_at q (omega arith))
      ∙ gathered-words (suc q) k (gathered_word says (q * 64) 64 (word_from p (q * 64) 64) s) (omega arith)
      ∙ ap₂ (λ (m a : ℕ). max m (digit (any_from saysIt a (k * 64)))) (gathered-word (q * 64) 64 s) next
      ∙ joined (has (part f s) j) (any_from saysIt (q * 64) 64) (any_from saysIt (q * 64 + 64) (k * 64))
      ∙ ap (λ (b : Bool). max (has (part f s) j) (digit b)) (sym (ap (any_from saysIt (q * 64)) block ∙ any-parts saysIt (q * 64) 64 (k * 64)))

  -- from nothing on
  pub gathered-says : (from to : ℕ) → from ≤ to → to ≤ 7 → has (part f (gathered_from says (words_of p) from to)) j ≡ digit (any_from saysIt (from * 64) ((to - from) * 64))
  unfolding gathered_from
  gathered-says from to le few =
      gathered-words from (to - from) unsaid (omega arith) ∙ ap (λ (m : ℕ). max m (digit (any_from saysIt (from * 64) ((to - from) * 64)))) (nothing f) ∙ omega arith
    where
      nothing : (f : ℕ) → has (part f unsaid) j ≡ 0
      nothing zero = has-none j
      nothing (suc zero) = has-none j
      nothing (suc (suc zero)) = has-none j
      nothing (suc (suc (suc f))) = has-none j

-- ---- numbers that stand for the entries of a list

pub any_some : {A : Type 0} (d : A) (p : ℕ → Bool) (q : A → Bool) (xs : List A) (a : ℕ) → ((i : ℕ) → i < length xs → p (a + i) ≡ q (get_or xs i d)) → any_from p a (length xs) ≡ some q xs
unfolding any_from some
any_some d p q [] a h = refl
any_some d p q (x ∷ xs) a h =
    let here : a ≡ a + 0 = omega arith in
    ap₂ ◌||◌ (ap p here ∙ h 0 (omega arith)) (any_some d p q xs (suc a) (λ i l. let e : suc a + i ≡ a + suc i = omega arith in ap p e ∙ h (suc i) (omega arith)))

pub any_none : (p : ℕ → Bool) (a k : ℕ) → ((r : ℕ) → a ≤ r → r < a + k → p r ≡ false) → any_from p a k ≡ false
unfolding any_from
any_none p a zero h = refl
any_none p a (suc k) h = ap₂ ◌||◌ (h a (omega arith) (omega arith)) (any_none p (suc a) k (λ r l m. h r (omega arith) (omega arith)))
