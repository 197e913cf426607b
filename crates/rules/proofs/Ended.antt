-- Lines that end in LF and have no other: a line stands in their text exactly where it is one of them.
use mathlib.Core.Path.{◌≡◌, refl, sym, ap, ◌∙◌}
use mathlib.Core.Logic.{⊎_elim}
use mathlib.Core.List.{List, [], ◌∷◌, ◌++◌, map, append_assoc, Memᴰ}
use Prim.Native.Nat.{ℕ, ◌<◌}
use native.Mathlib.Omega.{arith}
use Rattle.rules.specs.Text.{lf, space, split, lines_of, decimal}
use Rattle.rules.specs.Report.{joined_lines}
use Rattle.rules.proofs.Fields.{Without, none, more, split-part}
use Rattle.rules.proofs.Decimal.{decimal-without}
use mathlib.Core.List.Memᴰ

-- a text has the line l, which ends in LF
abbrev pub HasLine : List ℕ → List ℕ → Type 0
HasLine text l = (m : List ℕ) × (l ≡ m ++ (lf ∷ [])) × Memᴰ m (lines_of text)

-- ---- lines that end in LF and have no other

pub data Ended : List ℕ → Type 0 where
  last : Ended (lf ∷ [])
  then : {x : ℕ} {l : List ℕ} → (x ≡ lf → ⊥) → Ended l → Ended (x ∷ l)

pub ended-behind : {a l : List ℕ} → Without lf a → Ended l → Ended (a ++ l)
ended-behind none e = e
ended-behind (more o h) e = then o (ended-behind h e)

-- what stands before its LF
pub ended-body : {l : List ℕ} → Ended l → (m : List ℕ) × (l ≡ m ++ (lf ∷ [])) × Without lf m
ended-body last = ([], refl, none)
ended-body (then {x} o e) = let b = ended-body e in (x ∷ b.0, ap {B = List ℕ} (λ l. x ∷ l) b.1, more o b.2)

pub data AllEnded : List (List ℕ) → Type 0 where
  no_line : AllEnded []
  line : {l : List ℕ} {ls : List (List ℕ)} → Ended l → AllEnded ls → AllEnded (l ∷ ls)

pub ended-append : {ks ls : List (List ℕ)} → AllEnded ks → AllEnded ls → AllEnded (ks ++ ls)
ended-append no_line b = b
ended-append (line e a) b = line e (ended-append a b)

pub ended-map : {A : Type 0} (f : A → List ℕ) → ((a : A) → Ended (f a)) → (xs : List A) → AllEnded (map f xs)
ended-map f h [] = no_line
ended-map f h (x ∷ xs) = line (h x) (ended-map f h xs)

-- such lines, with empty ones among them, which add nothing to their text
pub data Pieces : List (List ℕ) → Type 0 where
  no-piece : Pieces []
  gap : {ls : List (List ℕ)} → Pieces ls → Pieces ([] ∷ ls)
  piece : {l : List ℕ} {ls : List (List ℕ)} → Ended l → Pieces ls → Pieces (l ∷ ls)

pub pieces : {ls : List (List ℕ)} → AllEnded ls → Pieces ls
pieces no_line = no-piece
pieces (line e a) = piece e (pieces a)

pub pieces-append : {ks ls : List (List ℕ)} → Pieces ks → Pieces ls → Pieces (ks ++ ls)
pieces-append no-piece b = b
pieces-append (gap a) b = gap (pieces-append a b)
pieces-append (piece e a) b = piece e (pieces-append a b)

-- ---- the lines of such lines, one behind the other

pub lines-first : (l rest : List ℕ) (m : List ℕ) → l ≡ m ++ (lf ∷ []) → Without lf m → lines_of (l ++ rest) ≡ m ∷ lines_of rest
lines-first l rest m e h = ap (λ (k : List ℕ). lines_of (k ++ rest)) e ∙ ap lines_of (append_assoc m (lf ∷ []) rest) ∙ split-part lf m rest h

pub of-text : (l : List ℕ) → (l ≡ lf ∷ [] → ⊥) → (ls : List (List ℕ)) → AllEnded ls → HasLine (joined_lines ls) l → Memᴰ l ls
unfolding joined_lines split
of-text l some [] no_line h = absurd (some (h.1 ∙ ap (λ (m : List ℕ). m ++ (lf ∷ [])) (Memᴰ.eq_of_singleton h.2)))
of-text l some (k ∷ ls) (line e a) h =
    let b = ended-body e in
    ⊎_elim
    (λ q. Memᴰ.head (h.1 ∙ ap (λ (m : List ℕ). m ++ (lf ∷ [])) q ∙ sym b.1))
    (λ q. Memᴰ.tail (of-text l some ls a (h.0, h.1, q)))
    (Memᴰ.cases_cons (rw (lines-first k (joined_lines ls) b.0 b.1 b.2) at h.2))

pub in-text : (l : List ℕ) (ls : List (List ℕ)) → AllEnded ls → Memᴰ l ls → HasLine (joined_lines ls) l
unfolding joined_lines
in-text l [] no_line h = absurd (Memᴰ.not-nil h)
in-text l (k ∷ ls) (line e a) h =
    let b = ended-body e in
    let first = lines-first k (joined_lines ls) b.0 b.1 b.2 in
    ⊎_elim
    (λ q. (b.0, q ∙ b.1, rw first (Memᴰ.head refl)))
    (λ q. let r = in-text l ls a q in (r.0, r.1, rw first (Memᴰ.tail r.2)))
    (Memᴰ.cases_cons h)

-- ---- what such lines are made of

pub digits-ended : (v : ℕ) {l : List ℕ} → Ended l → Ended (decimal v ++ l)
digits-ended v e = ended-behind (decimal-without lf (omega arith) v) e

pub space-then : {l : List ℕ} → Ended l → Ended (space ∷ l)
space-then e = then {x = space} (λ q. omega arith) e

-- two letters and a space
pub mark-then : (a b : ℕ) {l : List ℕ} → lf < a → lf < b → Ended l → Ended (a ∷ (b ∷ (space ∷ l)))
mark-then a b h q e = then {x = a} (λ z. omega arith) (then {x = b} (λ z. omega arith) (space-then e))
