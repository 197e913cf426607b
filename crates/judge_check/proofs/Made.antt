-- Digits of numbers that are made of lists, the digit of the first entry at digit 0: fields of characters, bits of codes, and states that take a code.
use mathlib.Core.Path.{◌≡◌, refl, sym, ap, ap₂, subst, ◌∙◌}
use mathlib.Core.Bool.{Bool, true, false, ◌&&◌, ◌||◌}
use mathlib.Core.List.{List, [], ◌∷◌}
use Prim.Native.Nat.{ℕ, zero, suc, ◌+◌, ◌*◌, ◌/◌, ◌%◌, ◌≤◌, ◌<◌}
use native.Mathlib.Decide.{ℕ_discrete}
use native.Mathlib.Omega.{arith}
use lib.Dec.{eqb}
use lib.ListN.{length, get_or, take, drop, length-take, length-drop}
use lib.Seq.{get_or-take, get_or-drop}
use borrow.Author.Tests.{ne_eqb, le-leb}
use Rattle.sets.specs.Sets.{has, every}
use Rattle.sets.proofs.Every.{and_first, and_second, and_both, every-same}
use Rattle.sets.proofs.Members.{has-lt, has-none, has-zero, has-suc}
use Rattle.rules.specs.Text.{digit, nought, one, dash, all_of, set_of}
use Rattle.rules.specs.Cover.{takes}
use Rattle.rules.specs.CheckTexts.{bit_in}
use Rattle.judge_rows.specs.Rows.{marks_of, takes_digit, states_taking}

module _ (d : ℕ → ℕ) (small : (x : ℕ) → d x < 2) (f : List ℕ → ℕ) (none : f [] ≡ 0) (next : (x : ℕ) (xs : List ℕ) → f (x ∷ xs) ≡ f xs * 2 + d x) where
  half : (m x : ℕ) → (m * 2 + d x) / 2 ≡ m
  half m x = omega (arith, small x)

  low : (m x : ℕ) → (m * 2 + d x) % 2 ≡ d x
  low m x = omega (arith, small x)

  later : (x : ℕ) (xs : List ℕ) (s : ℕ) → has (f (x ∷ xs)) (suc s) ≡ has (f xs) s
  later x xs s = ap (λ (m : ℕ). has m (suc s)) (next x xs) ∙ has-suc (f xs * 2 + d x) s ∙ ap (λ (m : ℕ). has m s) (half (f xs) x)

  digit-made : (l : List ℕ) (s : ℕ) → s < length l → has (f l) s ≡ d (get_or l s 0)
  digit-made [] s h = absurd (omega arith)
  digit-made (x ∷ xs) zero h = ap (λ (m : ℕ). has m 0) (next x xs) ∙ has-zero (f xs * 2 + d x) ∙ low (f xs) x
  digit-made (x ∷ xs) (suc s) h = later x xs s ∙ digit-made xs s (omega arith)

  digit-past : (l : List ℕ) (s : ℕ) → length l ≤ s → has (f l) s ≡ 0
  digit-past [] s h = ap (λ (m : ℕ). has m s) none ∙ has-none s
  digit-past (x ∷ xs) zero h = absurd (omega arith)
  digit-past (x ∷ xs) (suc s) h = later x xs s ∙ digit-past xs s (omega arith)

digit_lt : (b : Bool) → digit b < 2
digit_lt true = omega arith
digit_lt false = omega arith

pub is_one : (b : Bool) → eqb (digit b) 1 ≡ b
is_one true = refl
is_one false = refl

-- ---- a field's characters that are c

module _ (c : ℕ) where
  set_at : (f : List ℕ) (s : ℕ) → s < length f → has (set_of c f) s ≡ digit (eqb (get_or f s 0) c)
  unfolding set_of
  set_at = digit-made (λ x. digit (eqb x c)) (λ x. digit_lt (eqb x c)) (set_of c) refl (λ x xs. refl)

  pub set_past : (f : List ℕ) (s : ℕ) → length f ≤ s → has (set_of c f) s ≡ 0
  unfolding set_of
  set_past = digit-past (λ x. digit (eqb x c)) (λ x. digit_lt (eqb x c)) (set_of c) refl (λ x xs. refl)

  pub set_says : (f : List ℕ) (s : ℕ) → s < length f → eqb (has (set_of c f) s) 1 ≡ eqb (get_or f s 0) c
  set_says f s h = ap (λ (d : ℕ). eqb d 1) (set_at f s h) ∙ is_one (eqb (get_or f s 0) c)

-- ---- bits of codes

pub bit_at : (k : ℕ) (cs : List ℕ) (s : ℕ) → s < length cs → has (bit_in k cs) s ≡ has (get_or cs s 0) k
unfolding bit_in
bit_at k = digit-made (λ c. has c k) (λ c. has-lt c k) (bit_in k) refl (λ x xs. refl)

module _ (f : List ℕ) where
  takes-lt : (c : ℕ) → takes_digit (marks_of f) c < 2
  unfolding takes_digit
  takes-lt c = digit_lt (every 64 (λ k. eqb (has (marks_of f).dashes k) 1 || eqb (has (marks_of f).ones k) (has c k)))

  pub taking-at : (cs : List ℕ) (s : ℕ) → s < length cs → has (states_taking (marks_of f) cs) s ≡ takes_digit (marks_of f) (get_or cs s 0)
  unfolding states_taking
  taking-at = digit-made (takes_digit (marks_of f)) takes-lt (states_taking (marks_of f)) refl (λ x xs. refl)

-- ---- fields of `0 1 -`

abbrev is_place : ℕ → Bool
is_place x = eqb x nought || (eqb x one || eqb x dash)

all-at : (f : List ℕ) → all_of nought one dash f ≡ true → (m : ℕ) → m < length f → is_place (get_or f m 0) ≡ true
unfolding all_of
all-at [] e m h = absurd (omega arith)
all-at (x ∷ xs) e zero h = and_first (is_place x) (all_of nought one dash xs) e
all-at (x ∷ xs) e (suc m) h = all-at xs (and_second (is_place x) (all_of nought one dash xs) e) m (omega arith)

at_all : (f : List ℕ) → ((m : ℕ) → m < length f → is_place (get_or f m 0) ≡ true) → all_of nought one dash f ≡ true
unfolding all_of
at_all [] h = refl
at_all (x ∷ xs) h = and_both (is_place x) (all_of nought one dash xs) (h 0 (omega arith)) (at_all xs (λ m l. h (suc m) (omega arith)))

pub all_take : (n : ℕ) (f : List ℕ) → all_of nought one dash f ≡ true → all_of nought one dash (take n f) ≡ true
all_take n f e = at_all (take n f) (λ m l. let h : m < n = omega (arith, length-take n f) in ap is_place (get_or-take n f m 0 h) ∙ all-at f e m (omega (arith, length-take n f)))

pub all_drop : (n : ℕ) (f : List ℕ) → all_of nought one dash f ≡ true → all_of nought one dash (drop n f) ≡ true
all_drop n f e = at_all (drop n f) (λ m l. ap is_place (get_or-drop n f m 0) ∙ all-at f e (n + m) (omega (arith, length-drop n f)))

-- a character against a digit
place-takes : (x d : ℕ) → d < 2 → is_place x ≡ true → (eqb x dash || eqb x (nought + d)) ≡ (eqb (digit (eqb x dash)) 1 || eqb (digit (eqb x one)) d)
place-takes x d h e = go (ℕ_discrete x nought) (ℕ_discrete x one) (ℕ_discrete x dash)
  where
    Alike : ℕ → Type 0
    Alike y = (eqb y dash || eqb y (nought + d)) ≡ (eqb (digit (eqb y dash)) 1 || eqb (digit (eqb y one)) d)

    at-nought : (d : ℕ) → d < 2 → (eqb nought dash || eqb nought (nought + d)) ≡ (eqb (digit (eqb nought dash)) 1 || eqb (digit (eqb nought one)) d)
    at-nought zero h = refl
    at-nought (suc zero) h = refl
    at-nought (suc (suc d)) h = absurd (omega arith)

    at_one : (d : ℕ) → d < 2 → (eqb one dash || eqb one (nought + d)) ≡ (eqb (digit (eqb one dash)) 1 || eqb (digit (eqb one one)) d)
    at_one zero h = refl
    at_one (suc zero) h = refl
    at_one (suc (suc d)) h = absurd (omega arith)

    go : Dec (x ≡ nought) → Dec (x ≡ one) → Dec (x ≡ dash) → Alike x
    go (yes p) q r = subst Alike (sym p) (at-nought d h)
    go (no p) (yes q) r = subst Alike (sym q) (at_one d h)
    go (no p) (no q) (yes r) = subst Alike (sym r) refl
    go (no p) (no q) (no r) = absurd (let z : ◌≡◌ {A = ℕ} 0 1 = ap digit (sym (ap₂ ◌||◌ (ne_eqb x nought p) (ap₂ ◌||◌ (ne_eqb x one q) (ne_eqb x dash r))) ∙ e) in omega arith)

takes-each : (f ds : List ℕ) → length f ≡ length ds → takes f ds ≡ every (length f) (λ m. eqb (get_or f m 0) dash || eqb (get_or f m 0) (nought + get_or ds m 0))
unfolding takes every
takes-each [] [] e = refl
takes-each [] (d ∷ ds) e = absurd (omega arith)
takes-each (c ∷ cs) [] e = absurd (omega arith)
takes-each (c ∷ cs) (d ∷ ds) e = ap (λ (b : Bool). (eqb c dash || eqb c (nought + d)) && b) (takes-each cs ds (omega arith))

-- a field takes digits where its masks let each of them stand
pub field-takes : (n : ℕ) (f ds : List ℕ) → length f ≡ n → length ds ≡ n → all_of nought one dash f ≡ true → ((m : ℕ) → m < n → get_or ds m 0 < 2)
    → takes f ds ≡ every n (λ m. eqb (has (set_of dash f) m) 1 || eqb (has (set_of one f) m) (get_or ds m 0))
field-takes n f ds long wide good low =
    takes-each f ds (long ∙ sym wide)
    ∙ ap (λ (k : ℕ). every k (λ m. eqb (get_or f m 0) dash || eqb (get_or f m 0) (nought + get_or ds m 0))) long
    ∙ every-same n _ _ (λ m l. place-takes (get_or f m 0) (get_or ds m 0) (low m l) (all-at f good m (omega arith))
    ∙ ap₂ (λ (a b : ℕ). eqb a 1 || eqb b (get_or ds m 0)) (sym (set_at dash f m (omega arith))) (sym (set_at one f m (omega arith))))

-- what such a field says
pub marks-fit : (f : List ℕ) → length f ≤ 64 → all_of nought one dash f ≡ true → marks_of f ≡ record { ones = set_of one f; dashes = set_of dash f }
unfolding marks_of
marks-fit f h e = rw (le-leb _ _ h, e)
