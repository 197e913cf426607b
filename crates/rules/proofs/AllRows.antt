-- All that a listing says, row by row: its rows, and those that the states of a Moore machine add. Each is fit for a line, no two clash, and each has a met group.
use mathlib.Core.Path.{◌≡◌, refl, sym, ap, subst, ◌∙◌}
use mathlib.Core.Bool.{Bool, true, false, ◌&&◌, not, cond}
use mathlib.Core.List.{List, [], ◌∷◌, ◌++◌}
use Prim.Native.Nat.{ℕ, zero, suc, ◌+◌, ◌-◌, ◌≤◌, ◌<◌}
use native.Mathlib.Decide.{dec_lt}
use native.Mathlib.Omega.{arith}
use lib.Dec.{eqb}
use lib.Pow.{pow_pos, pow-lt}
use lib.ListN.{length, take, get_or, length-take, length-append, get_or-append}
use lib.Seq.{get_or-append-add}
use Rattle.sets.proofs.Size.{size-zero, size-only}
use Rattle.rules.specs.Limits.{most_states, most_lines}
use Rattle.rules.specs.Listing.{no_pattern, no_row, rows_of, state_row, state_rows, all_rows, meets, clash, conflict}
use Rattle.rules.specs.declared.Pattern.{Pattern}
use Rattle.rules.specs.declared.Row.{Row}
use Rattle.rules.specs.declared.Listing.{Listing}
use Rattle.rules.proofs.Faces.{GroupMet}
use Rattle.rules.proofs.SoundLines.{FitRow, sound-fits}
use Rattle.rules.proofs.Sound.{Sound, rows-length, row_of}
use Rattle.rules.proofs.Sharing.{rows_apart}
use Rattle.std.specs.Prelude.{Ok}

-- ---- of each

each_append : {A : Type 0} (P : A → Type 0) (d : A) (xs ys : List A) → ((k : ℕ) → k < length xs → P (get_or xs k d)) → ((k : ℕ) → k < length ys → P (get_or ys k d))
    → (k : ℕ) → k < length (xs ++ ys) → P (get_or (xs ++ ys) k d)
each_append P d [] ys f g k l = g k l
each_append P d (x ∷ xs) ys f g zero l = f 0 (omega arith)
each_append P d (x ∷ xs) ys f g (suc k) l = each_append P d xs ys (λ j q. f (suc j) (omega arith)) g k (omega arith)

-- row j of those that states add is that of state j
pub state-rows-long : (s : ℕ) (ps : List Pattern) → length (state_rows s ps) ≡ length ps
unfolding state_rows
state-rows-long s [] = refl
state-rows-long s (p ∷ ps) = ap suc (state-rows-long (s + 1) ps)

pub state-row-at : (s : ℕ) (ps : List Pattern) (j : ℕ) → j < length ps → get_or (state_rows s ps) j no_row ≡ state_row (s + j) (get_or ps j no_pattern)
unfolding state_rows
state-row-at s [] j l = absurd (omega arith)
state-row-at s (p ∷ ps) zero l = let e : s ≡ s + 0 = omega arith in ap (λ (k : ℕ). state_row k p) e
state-row-at s (p ∷ ps) (suc j) l =
    let e : s + 1 + j ≡ s + suc j = omega arith in
    state-row-at (s + 1) ps j (omega arith) ∙ ap (λ (k : ℕ). state_row k (get_or ps j no_pattern)) e

-- what the states say
abbrev pub said_of : Listing → List Pattern
said_of t = take t.head.states t.said

abbrev pub added_rows : Listing → List Row
added_rows t = cond t.head.moore (state_rows 0 (said_of t)) []

each-added : (t : Listing) (P : Row → Type 0) → ((s : ℕ) → s < length (said_of t) → P (state_row s (get_or (said_of t) s no_pattern)))
    → (k : ℕ) → k < length (added_rows t) → P (get_or (added_rows t) k no_row)
each-added t P f k l = go t.head.moore l
  where
    go : (m : Bool) → k < length (cond m (state_rows 0 (said_of t)) []) → P (get_or (cond m (state_rows 0 (said_of t)) []) k no_row)
    go true l =
        let h : k < length (said_of t) = omega (arith, state-rows-long 0 (said_of t)) in
        let z : 0 + k ≡ k = omega arith in
        subst P (sym (state-row-at 0 (said_of t) k h ∙ ap (λ (s : ℕ). state_row s (get_or (said_of t) k no_pattern)) z)) (f k h)
    go false l = absurd (omega arith)

pub each_row : (t : Listing) (P : Row → Type 0) → ((k : ℕ) → k < length (rows_of t) → P (get_or (rows_of t) k no_row))
    → ((s : ℕ) → s < length (said_of t) → P (state_row s (get_or (said_of t) s no_pattern))) → (k : ℕ) → k < length (all_rows t) → P (get_or (all_rows t) k no_row)
unfolding all_rows
each_row t P f g = each_append P no_row (rows_of t) (added_rows t) f (each-added t P g)

-- no more than a cover may have
pub all-few : (t : Listing) → Sound t → length (all_rows t) ≤ most_lines
unfolding all_rows
all-few t sound = omega (arith, length-append (rows_of t) (added_rows t), rows-length t sound, sound.few-rows, few t.head.moore)
  where
    few : (m : Bool) → length (cond m (state_rows 0 (said_of t)) []) ≤ most_states
    few true = omega (arith, state-rows-long 0 (said_of t), length-take t.head.states t.said, sound.said)
    few false = omega arith

-- ---- each is fit for a line

state-fit : (t : Listing) (s : ℕ) → s < length (said_of t) → (p : Pattern) → FitRow t.head (state_row s p)
state-fit t s l p = record {
  ones = pow_pos t.head.inputs;
  group = pow-lt (omega (arith, length-take t.head.states t.said));
  some = λ e. omega (arith, pow_pos s);
  next = pow_pos t.head.states;
  one-next = omega (arith, size-zero);
}

pub all_fit : (t : Listing) → Sound t → (k : ℕ) → k < length (all_rows t) → FitRow t.head (get_or (all_rows t) k no_row)
all_fit t sound =
    each_row t (FitRow t.head) (λ k l. sound-fits (row_of t sound k (omega (arith, rows-length t sound)))) (λ s l. state-fit t s l (get_or (said_of t) s no_pattern))

-- ---- no two clash: those that are added name no next state

-- no row clashes with one behind it
abbrev pub Apart : List Row → Type 0
Apart rs = (i j : ℕ) → i < j → j < length rs → clash (get_or rs i no_row) (get_or rs j no_row) ≡ false

names-none : (a b : Row) → b.next ≡ 0 → clash a b ≡ false
unfolding clash
names-none a b e = rw e (none (meets a b) (not (eqb a.next 0)) (not (eqb a.next 0)))
  where
    none : (p q r : Bool) → (p && q && false && r) ≡ false
    none true true r = refl
    none true false r = refl
    none false q r = refl

apart-behind : (xs ys : List Row) → Apart xs → ((k : ℕ) → k < length ys → (get_or ys k no_row).next ≡ 0) → Apart (xs ++ ys)
apart-behind xs ys f g i j h l = go (dec_lt j (length xs))
  where
    go : Dec (j < length xs) → clash (get_or (xs ++ ys) i no_row) (get_or (xs ++ ys) j no_row) ≡ false
    go (yes q) = rw (get_or-append xs ys no_row i (omega arith), get_or-append xs ys no_row j q) (f i j h q)
    go (no q) =
        let k = j - length xs in
        let e : j ≡ length xs + k = omega arith in
        names-none (get_or (xs ++ ys) i no_row) (get_or (xs ++ ys) j no_row)
        (ap (λ (m : ℕ). (get_or (xs ++ ys) m no_row).next) e ∙ ap (λ (r : Row). r.next) (get_or-append-add xs ys k no_row) ∙ g k (omega (arith, length-append xs ys)))

pub all_apart : (t : Listing) → conflict (rows_of t) ≡ Ok tt → Apart (all_rows t)
unfolding all_rows
all_apart t e = apart-behind (rows_of t) (added_rows t) (rows_apart (rows_of t) e) (each-added t (λ (r : Row). r.next ≡ 0) (λ s l. refl))

-- ---- each group is met: one state asks nothing

pub all-met-groups : (t : Listing) (bits : List ℕ) → ((k : ℕ) → k < length (rows_of t) → GroupMet t.head.states bits (get_or (rows_of t) k no_row).group)
    → (k : ℕ) → k < length (all_rows t) → GroupMet t.head.states bits (get_or (all_rows t) k no_row).group
all-met-groups t bits f = each_row t (λ (r : Row). GroupMet t.head.states bits r.group) f (λ s l two some. absurd (omega (arith, two, size-only s)))
