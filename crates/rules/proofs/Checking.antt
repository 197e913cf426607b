-- 02, request 10: checking says `OK` exactly when every pair and group requirement is met and the cover agrees at each state and input; `AT` where they are met and
-- it does not agree there and nowhere before; and `UN` with the lowest that is unmet. A cover of ours is `OK` by its own code.
use Rattle.std.specs.Prelude.{Option, Some, None, Ok}
use mathlib.Core.Path.{◌≡◌, refl, sym, ap, ap₂, subst, ◌∙◌}
use mathlib.Core.Bool.{Bool, true, false, not}
use mathlib.Core.List.{List, [], ◌∷◌, ◌++◌}
use Prim.Native.Nat.{ℕ, zero, suc, ◌+◌, ◌^◌, ◌≤◌, ◌<◌}
use native.Mathlib.Decide.{ℕ_discrete}
use native.Mathlib.Omega.{arith}
use lib.Dec.{leb}
use lib.ListN.{length, get_or}
use borrow.Author.Tests.{not-false, leb-false}
use Rattle.rules.specs.Text.{bytes, decimal, space, lf, lines_of}
use Rattle.rules.specs.Requirements.{pairs_and_groups}
use Rattle.rules.specs.Listing.{rows_of, conflict}
use Rattle.rules.specs.Code.{Code, coded, unmet_from}
use Rattle.rules.specs.Report.{unmet_line}
use Rattle.rules.specs.Meaning.{agrees_at}
use Rattle.rules.specs.Least.{turned}
use Rattle.rules.specs.Check.{fails, lowest_from, fault_at, fault_from, fault_of, fault_line, check_line, check_text}
use Rattle.rules.specs.Answers.{says, cover_of}
use Rattle.rules.specs.declared.Listing.{Listing}
use Rattle.rules.specs.declared.Refusal.TheVariants.{Unmet}
use Rattle.rules.specs.declared.Fault.{Fault}
use Rattle.rules.proofs.Ways.{chose-second}
use Rattle.rules.proofs.Sound.{Sound}
use Rattle.rules.proofs.Written.{of-coding, says-not}

-- ---- the lowest of some numbers

abbrev is_none : Option ℕ → ℕ
is_none (Some v) = 0
is_none None = 1

abbrev number_in : Option ℕ → ℕ
number_in (Some v) = v
number_in None = 0

not_none : (v : ℕ) → Some v ≡ None → ⊥
not_none v e = let z : ◌≡◌ {A = ℕ} 0 1 = ap is_none e in omega arith

-- p holds of none before v
abbrev pub Before : (ℕ → Bool) → ℕ → ℕ → Type 0
Before p a v = (x : ℕ) → a ≤ x → x < v → p x ≡ false

abbrev pub First : (ℕ → Bool) → ℕ → ℕ → ℕ → Type 0
First p a k v = (a ≤ v) × (v < a + k) × (p v ≡ true) × Before p a v

module _ (p : ℕ → Bool) where
  before-next : (a v : ℕ) → p a ≡ false → Before p (suc a) v → Before p a v
  before-next a v e h = λ x l m. go x l m (ℕ_discrete a x)
    where
      go : (x : ℕ) → a ≤ x → x < v → Dec (a ≡ x) → p x ≡ false
      go x l m (yes q) = ap p (sym q) ∙ e
      go x l m (no o) = h x (omega (arith, o)) m

  none_before : (a k : ℕ) → lowest_from p a k ≡ None → Before p a (a + k)
  unfolding lowest_from
  none_before a zero e = λ x l m. absurd (omega arith)
  none_before a (suc k) e = go (p a) refl e (none_before (suc a) k)
    where
      go : (b : Bool) → p a ≡ b → ◌≡◌ {A = Option ℕ} (elim b [ true ↦ Some a | false ↦ lowest_from p (suc a) k ]) (None) → (lowest_from p (suc a) k ≡ None → Before p (suc a) (suc a + k)) → Before p a (a + suc k)
      go true q e later = absurd (not_none a e)
      go false q e later = before-next a (a + suc k) q (λ y i j. later e y i (omega arith))

  before-none : (a k : ℕ) → Before p a (a + k) → lowest_from p a k ≡ None
  unfolding lowest_from
  before-none a zero h = refl
  before-none a (suc k) h =
      ap {B = Option ℕ} (λ (b : Bool). elim b [ true ↦ Some a | false ↦ lowest_from p (suc a) k ]) (h a (omega arith) (omega arith))
      ∙ before-none (suc a) k (λ x l m. h x (omega arith) (omega arith))

  lowest-first : (a k v : ℕ) → lowest_from p a k ≡ Some v → First p a k v
  unfolding lowest_from
  lowest-first a zero v e = absurd (not_none v (sym e))
  lowest-first a (suc k) v e = go (p a) refl e (lowest-first (suc a) k v)
    where
      go : (b : Bool) → p a ≡ b → ◌≡◌ {A = Option ℕ} (elim b [ true ↦ Some a | false ↦ lowest_from p (suc a) k ]) (Some v) → (lowest_from p (suc a) k ≡ Some v → First p (suc a) k v) → First p a (suc k) v
      go true q e later = let s : a ≡ v = ap number_in e in (omega arith, omega arith, ap p (sym s) ∙ q, λ x l m. absurd (omega arith))
      go false q e later = let f = later e in (omega (arith, f.0), omega (arith, f.1), f.2, before-next a v q f.3)

  first-lowest : (a k v : ℕ) → First p a k v → lowest_from p a k ≡ Some v
  unfolding lowest_from
  first-lowest a zero v f = absurd (omega (arith, f.0, f.1))
  first-lowest a (suc k) v f = go (ℕ_discrete a v) (first-lowest (suc a) k v)
    where
      go : Dec (a ≡ v) → (First p (suc a) k v → lowest_from p (suc a) k ≡ Some v) → elim (p a) [ true ↦ Some a | false ↦ lowest_from p (suc a) k ] ≡ Some v
      go (yes q) later = ap {B = Option ℕ} (λ (b : Bool). elim b [ true ↦ Some a | false ↦ lowest_from p (suc a) k ]) (ap p q ∙ f.2) ∙ ap Some q
      go (no o) later =
          ap {B = Option ℕ} (λ (b : Bool). elim b [ true ↦ Some a | false ↦ lowest_from p (suc a) k ]) (f.3 a (omega arith) (omega (arith, o, f.0)))
          ∙ later (omega (arith, o, f.0), omega (arith, f.1), f.2, λ x l m. f.3 x (omega arith) m)

-- ---- the lowest state and its lowest input

abbrev is-nowhere : Option Fault → ℕ
is-nowhere (Some f) = 0
is-nowhere None = 1

abbrev state-in : Option Fault → ℕ
state-in (Some f) = f.state.0
state-in None = 0

abbrev input-in : Option Fault → ℕ
input-in (Some f) = f.input
input-in None = 0

-- no state from a on and before s fails
abbrev pub States : (ℕ → ℕ → Bool) → ℕ → ℕ → ℕ → Type 0
States p i a s = (y : ℕ) → a ≤ y → y < s → (v : ℕ) → v < 2 ^ i → p y v ≡ false

module _ (p : ℕ → ℕ → Bool) (i : ℕ) where
  abbrev fault-by : ℕ → ℕ → Option ℕ → Option Fault
  fault-by s k l = elim l [ Some v ↦ fault_at s v | None ↦ fault_from p i (suc s) k ]

  states-next : (a s : ℕ) → lowest_from (p a) 0 (2 ^ i) ≡ None → States p i (suc a) s → States p i a s
  states-next a s e h = λ y l m v b. go y l m v b (ℕ_discrete a y)
    where
      go : (y : ℕ) → a ≤ y → y < s → (v : ℕ) → v < 2 ^ i → Dec (a ≡ y) → p y v ≡ false
      go y l m v b (yes q) = ap (λ (z : ℕ). p z v) (sym q) ∙ none_before (p a) 0 (2 ^ i) e v (omega arith) (omega arith)
      go y l m v b (no o) = h y (omega (arith, o)) m v b

  nowhere-states : (a k : ℕ) → fault_from p i a k ≡ None → States p i a (a + k)
  unfolding fault_from
  nowhere-states a zero e = λ y l m v b. absurd (omega arith)
  nowhere-states a (suc k) e = go (lowest_from (p a) 0 (2 ^ i)) refl e (nowhere-states (suc a) k)
    where
      go : (l : Option ℕ) → lowest_from (p a) 0 (2 ^ i) ≡ l → fault-by a k l ≡ None → (fault_from p i (suc a) k ≡ None → States p i (suc a) (suc a + k)) → States p i a (a + suc k)
      go (Some x) q e later = absurd (let z : ◌≡◌ {A = ℕ} 0 1 = ap is-nowhere e in omega arith)
      go None q e later = states-next a (a + suc k) q (λ z g h. later e z g (omega arith))

  pub states-nowhere : (a k : ℕ) → States p i a (a + k) → fault_from p i a k ≡ None
  unfolding fault_from
  states-nowhere a zero h = refl
  states-nowhere a (suc k) h =
      ap (fault-by a k) (before-none (p a) 0 (2 ^ i) (λ v l m. h a (omega arith) (omega arith) v (omega arith)))
      ∙ states-nowhere (suc a) k (λ y l m. h y (omega arith) (omega arith))

  abbrev Found : ℕ → ℕ → ℕ → ℕ → Type 0
  Found a k s v = (a ≤ s) × (s < a + k) × First (p s) 0 (2 ^ i) v × States p i a s

  at-found : (a k s v : ℕ) → fault_from p i a k ≡ fault_at s v → Found a k s v
  unfolding fault_from
  at-found a zero s v e = absurd (let z : ◌≡◌ {A = ℕ} 1 0 = ap is-nowhere e in omega arith)
  at-found a (suc k) s v e = go (lowest_from (p a) 0 (2 ^ i)) refl e (at-found (suc a) k s v)
    where
      go : (l : Option ℕ) → lowest_from (p a) 0 (2 ^ i) ≡ l → fault-by a k l ≡ fault_at s v → (fault_from p i (suc a) k ≡ fault_at s v → Found (suc a) k s v) → Found a (suc k) s v
      go (Some x) q e later =
          let here : a ≡ s = ap state-in e in
          let there : x ≡ v = ap input-in e in
          (omega arith, omega arith, lowest-first (p s) 0 (2 ^ i) v (ap (λ (y : ℕ). lowest_from (p y) 0 (2 ^ i)) (sym here) ∙ q ∙ ap Some there), λ y l m. absurd (omega arith))
      go None q e later = let f = later e in (omega (arith, f.0), omega (arith, f.1), f.2, states-next a s q f.3)

  found_at : (a k s v : ℕ) → Found a k s v → fault_from p i a k ≡ fault_at s v
  unfolding fault_from
  found_at a zero s v f = absurd (omega (arith, f.0, f.1))
  found_at a (suc k) s v f = go (ℕ_discrete a s) (found_at (suc a) k s v)
    where
      go : Dec (a ≡ s) → (Found (suc a) k s v → fault_from p i (suc a) k ≡ fault_at s v) → fault-by a k (lowest_from (p a) 0 (2 ^ i)) ≡ fault_at s v
      go (yes q) later = ap (fault-by a k) (ap (λ (y : ℕ). lowest_from (p y) 0 (2 ^ i)) q ∙ first-lowest (p s) 0 (2 ^ i) v f.2) ∙ ap (λ (y : ℕ). fault_at y v) q
      go (no o) later =
          ap (fault-by a k) (before-none (p a) 0 (2 ^ i) (λ x l m. f.3 a (omega arith) (omega (arith, o, f.0)) x (omega arith)))
          ∙ later (omega (arith, o, f.0), omega (arith, f.1), f.2, λ y l m. f.3 y (omega arith) m)

-- ---- what is said

module _ (t : Listing) (bits : List ℕ) (ls : List (List ℕ)) where
  abbrev n : ℕ
  n = t.head.states

  abbrev i : ℕ
  i = t.head.inputs

  abbrev pub unmet-ones : List ℕ
  unmet-ones = unmet_from 0 n bits (pairs_and_groups t)

  -- the cover agrees at the state s and the input v
  abbrev pub Agrees : ℕ → ℕ → Type 0
  Agrees s v = agrees_at t bits ls (turned i v) s ≡ true

  agrees-not : (s v : ℕ) → fails t bits ls s v ≡ false → Agrees s v
  unfolding fails
  agrees-not s v e = not-false (agrees_at t bits ls (turned i v) s) e

  not_agrees : (s v : ℕ) → Agrees s v → fails t bits ls s v ≡ false
  unfolding fails
  not_agrees s v e = ap not e

  -- its first byte tells an answer
  ok-line : (us : List ℕ) (f : Option Fault) → check_line us f ≡ bytes "OK\n" → (us ≡ []) × (f ≡ None)
  unfolding check_line fault_line unmet_line
  ok-line [] (Some f) e = absurd (let z : ◌≡◌ {A = ℕ} 65 79 = ap (λ (l : List ℕ). get_or l 0 0) e in omega arith)
  ok-line [] None e = (refl, refl)
  ok-line (u ∷ us) f e = absurd (let z : ◌≡◌ {A = ℕ} 85 79 = ap (λ (l : List ℕ). get_or l 0 0) e in omega arith)

  pub says-ok : check_text t bits ls ≡ bytes "OK\n" → (unmet-ones ≡ []) × ((s : ℕ) → s < n → (v : ℕ) → v < 2 ^ i → Agrees s v)
  unfolding check_text fault_of
  says-ok e =
      let o = ok-line unmet-ones (fault_of t bits ls) e in
      (o.0, λ s l v b. agrees-not s v (nowhere-states (fails t bits ls) i 0 n o.1 s (omega arith) (omega arith) v b))

  pub ok-said : unmet-ones ≡ [] → ((s : ℕ) → s < n → (v : ℕ) → v < 2 ^ i → Agrees s v) → check_text t bits ls ≡ bytes "OK\n"
  unfolding check_text fault_of check_line fault_line
  ok-said met h =
      ap₂ check_line met (states-nowhere (fails t bits ls) i 0 n (λ s l m v b. not_agrees s v (h s (omega arith) v b)))

  -- it does not agree at s and v, and agrees at each state before s, and in s at each input before v
  abbrev pub FirstFault : ℕ → ℕ → Type 0
  FirstFault s v = (s < n) × (v < 2 ^ i) × (fails t bits ls s v ≡ true) × ((x : ℕ) → x < v → Agrees s x) × ((y : ℕ) → y < s → (x : ℕ) → x < 2 ^ i → Agrees y x)

  pub at-said : unmet-ones ≡ [] → (s v : ℕ) → FirstFault s v → check_text t bits ls ≡ bytes "AT " ++ (decimal s ++ (space ∷ (decimal v ++ (lf ∷ []))))
  unfolding check_text fault_of check_line fault_line
  at-said met s v f =
      ap₂ check_line met
      (found_at (fails t bits ls) i 0 n s v
      (omega arith, omega (arith, f.0), (omega arith, omega (arith, f.1), f.2, λ x l m. not_agrees s x (f.3 x m)), λ y l m x b. not_agrees y x (f.4 y m x b)))

  pub fault-first : (s v : ℕ) → fault_of t bits ls ≡ fault_at s v → FirstFault s v
  unfolding fault_of
  fault-first s v e =
      let f = at-found (fails t bits ls) i 0 n s v e in
      (omega (arith, f.1), omega (arith, f.2.1), f.2.2, λ x m. agrees-not s x (f.2.3 x (omega arith) m), λ y m x b. agrees-not y x (f.3 y (omega arith) m x b))

  -- the lowest that is unmet goes first, whatever the cover is
  pub un-said : (r : ℕ) (rs : List ℕ) → unmet-ones ≡ r ∷ rs → check_text t bits ls ≡ unmet_line (record { 0 = r })
  unfolding check_text check_line
  un-said r rs e = ap (λ (us : List ℕ). check_line us (fault_of t bits ls)) e

-- ---- a cover of ours, by its own code, is found right

none-listed : (us : List ℕ) → leb 1 (length us) ≡ false → us ≡ []
none-listed [] e = refl
none-listed (u ∷ us) e = absurd (omega (arith, leb-false 1 (suc (length us)) e))

code_same : (a b : Code) → coded a ≡ coded b → a ≡ b
code_same a b e = cc

pub own-ok : (t : Listing) (c : Code) (text : List ℕ) → Sound t → conflict (rows_of t) ≡ Ok tt → cover_of t (coded c) ≡ says text → check_text t c.bits (lines_of text) ≡ bytes "OK\n"
unfolding cover_of
own-ok t c text sound apart e =
    let un : List ℕ = unmet_from 0 t.head.states c.bits (pairs_and_groups t) in
    let o = of-coding t (coded c) text sound apart e in
    let met : leb 1 (length un) ≡ false = (chose-second (leb 1 (length un)) e (says-not Unmet 0 text)).0 in
    ok-said t c.bits (lines_of text) (none-listed un met)
    (λ s l v b. subst (λ (d : Code). agrees_at t d.bits (lines_of text) (turned t.head.inputs v) s ≡ true) (sym (code_same c o.0 o.1)) (o.2.agrees (turned t.head.inputs v) s l))
