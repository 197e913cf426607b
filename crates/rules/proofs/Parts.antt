-- The parts of a text, one after the other, are the text, byte for byte; each gets on; and where the next line does not fit, none is given.
use mathlib.Core.Path.{◌≡◌, refl, sym, ap, ◌∙◌}
use mathlib.Core.Bool.{Bool, true, false, cond, ◌||◌, or-true}
use mathlib.Core.List.{List, [], ◌∷◌, ◌++◌, map, append_assoc, append-nil}
use Prim.Native.Nat.{ℕ, zero, suc, ◌+◌, ◌-◌, ◌≤◌, ◌<◌}
use native.Mathlib.Omega.{arith}
use lib.Dec.{leb, eqb}
use lib.ListN.{length, drop, length-append, length-drop, drop_of_length-le}
use lib.Seq.{drop-drop, drop-append-add, drop-append-le}
use borrow.Author.Tests.{ne_eqb, le-leb, lt-leb, leb-true, leb-false}
use Rattle.rules.specs.Text.{lf}
use Rattle.rules.specs.Report.{joined_lines}
use Rattle.rules.specs.Parts.{before, whole_lines, part, gets_on, gathered}
use Rattle.rules.proofs.Ended.{Ended, last, then, Pieces, no-piece, gap, piece}

-- ---- a part of a text that begins with a line

-- nothing but an LF can stand before no line
before-none : (x : ℕ) → (x ≡ lf → ⊥) → before x [] ≡ []
unfolding before
before-none x o = rw (ne_eqb x lf o)

before-some : (x y : ℕ) (ys : List ℕ) → before x (y ∷ ys) ≡ x ∷ (y ∷ ys)
unfolding before
before-some x y ys = refl

before-end : (ls : List ℕ) → before lf ls ≡ lf ∷ ls
unfolding before
before-end [] = refl
before-end (y ∷ ys) = refl

-- an ended line has a byte
ended_some : {l : List ℕ} → Ended l → 1 ≤ length l
ended_some last = omega arith
ended_some (then o e) = omega arith

before-line : (x : ℕ) {l : List ℕ} → Ended l → (rest : List ℕ) → before x (l ++ rest) ≡ x ∷ (l ++ rest)
before-line x last rest = before-some x lf rest
before-line x (then {x = y} {l = l} o e) rest = before-some x y (l ++ rest)

-- a line that fits comes whole, and the lines behind it have the room that is left
pub whole-first : (room : ℕ) {l : List ℕ} → Ended l → (rest : List ℕ) → length l ≤ room → whole_lines room (l ++ rest) ≡ l ++ whole_lines (room - length l) rest
unfolding whole_lines
whole-first zero e rest h = absurd (omega (arith, ended_some e))
whole-first (suc k) last rest h =
    let z : suc k - 1 ≡ k = omega arith in
    rw z (before-end (whole_lines k rest))
whole-first (suc k) (then {x} {l} o e) rest h =
    let z : suc k - suc (length l) ≡ k - length l = omega arith in
    rw z (ap (before x) (whole-first k e rest (omega arith)) ∙ before-line x e (whole_lines (k - length l) rest))

-- a line that does not fit ends the part
pub whole-none : (room : ℕ) {l : List ℕ} → Ended l → (rest : List ℕ) → room < length l → whole_lines room (l ++ rest) ≡ []
unfolding whole_lines
whole-none zero e rest h = refl
whole-none (suc k) last rest h = absurd (omega arith)
whole-none (suc k) (then {x} o e) rest h = ap (before x) (whole-none k e rest (omega arith)) ∙ before-none x o

pub whole-end : (room : ℕ) → whole_lines room [] ≡ []
unfolding whole_lines
whole-end zero = refl
whole-end (suc k) = refl

-- ---- any part of any text

before-drop : (x : ℕ) (l rest : List ℕ) → l ++ drop (length l) rest ≡ rest → before x l ++ drop (length (before x l)) (x ∷ rest) ≡ x ∷ rest
unfolding before
before-drop x [] rest h = go (eqb x lf)
  where
    go : (b : Bool) → cond b (x ∷ []) [] ++ drop (length (cond b (x ∷ []) [])) (x ∷ rest) ≡ x ∷ rest
    go true = refl
    go false = refl
before-drop x (y ∷ ys) rest h = ap {B = List ℕ} (λ l. x ∷ l) h

-- it stands at the front of what is left
pub whole-front : (room : ℕ) (l : List ℕ) → whole_lines room l ++ drop (length (whole_lines room l)) l ≡ l
unfolding whole_lines
whole-front zero l = refl
whole-front (suc k) [] = refl
whole-front (suc k) (x ∷ xs) = before-drop x (whole_lines k xs) xs (whole-front k xs)

before-few : (x k : ℕ) (l : List ℕ) → length l ≤ k → length (before x l) ≤ suc k
unfolding before
before-few x k [] h = go (eqb x lf)
  where
    go : (b : Bool) → length (cond b (x ∷ []) []) ≤ suc k
    go true = omega arith
    go false = omega arith
before-few x k (y ∷ ys) h = omega arith

-- and has room
pub whole-fits : (room : ℕ) (l : List ℕ) → length (whole_lines room l) ≤ room
unfolding whole_lines
whole-fits zero l = omega arith
whole-fits (suc k) [] = omega arith
whole-fits (suc k) (x ∷ xs) = before-few x k (whole_lines k xs) (whole-fits k xs)

pub part-fits : (room from : ℕ) (text : List ℕ) → length (part room from text) ≤ room
unfolding part
part-fits room from text = whole-fits room (drop from text)

-- so parts, each from where the one before it ended, are the front of the text
pub gathered-front : (room k : ℕ) (text : List ℕ) → gathered room k text ++ drop (length (gathered room k text)) text ≡ text
unfolding gathered part
gathered-front room zero text = refl
gathered-front room (suc k) text =
    let have : List ℕ = gathered room k text in
    let more : List ℕ = whole_lines room (drop (length have) text) in
    append_assoc have more (drop (length (have ++ more)) text)
    ∙ ap (λ (n : ℕ). have ++ (more ++ drop n text)) (length-append have more)
    ∙ ap (λ (l : List ℕ). have ++ (more ++ l)) (sym (drop-drop (length more) (length have) text))
    ∙ ap (λ (l : List ℕ). have ++ l) (whole-front room (drop (length have) text))
    ∙ gathered-front room k text

-- ---- a text of lines, each of which fits

pub data AllFit (room : ℕ) : List (List ℕ) → Type 0 where
  fit_none : AllFit room []
  fit-more : {l : List ℕ} {ls : List (List ℕ)} → length l ≤ room → AllFit room ls → AllFit room (l ∷ ls)

pub fit_append : {room : ℕ} {ks ls : List (List ℕ)} → AllFit room ks → AllFit room ls → AllFit room (ks ++ ls)
fit_append fit_none b = b
fit_append (fit-more h a) b = fit-more h (fit_append a b)

pub fit-map : {A : Type 0} (room : ℕ) (f : A → List ℕ) → ((a : A) → length (f a) ≤ room) → (xs : List A) → AllFit room (map f xs)
fit-map room f h [] = fit_none
fit-map room f h (x ∷ xs) = fit-more (h x) (fit-map room f h xs)

-- what is left of a line is a line
pub ended-drop : {l : List ℕ} → Ended l → (from : ℕ) → from < length l → Ended (drop from l)
ended-drop e zero h = e
ended-drop last (suc from) h = absurd (omega arith)
ended-drop (then o e) (suc from) h = ended-drop e from (omega arith)

-- there is always a next line, and it fits
pub gets-on : (room from : ℕ) (ls : List (List ℕ)) → Pieces ls → AllFit room ls → from < length (joined_lines ls) → 1 ≤ length (part room from (joined_lines ls))
unfolding part joined_lines
gets-on room from [] no-piece fit_none h = absurd (omega arith)
gets-on room from ([] ∷ ls) (gap a) (fit-more f fs) h = gets-on room from ls a fs h
gets-on room from (l ∷ ls) (piece e a) (fit-more f fs) h = go (leb (length l) from) refl (gets-on room (from - length l) ls a fs)
  where
    rest : List ℕ
    rest = joined_lines ls

    go : (b : Bool) → leb (length l) from ≡ b → (from - length l < length rest → 1 ≤ length (whole_lines room (drop (from - length l) rest)))
        → 1 ≤ length (whole_lines room (drop from (l ++ rest)))
    go true q later =
        let past : length l ≤ from = leb-true (length l) from q in
        let z : length l + (from - length l) ≡ from = omega arith in
        let d : drop from (l ++ rest) ≡ drop (from - length l) rest = ap (λ (k : ℕ). drop k (l ++ rest)) (sym z) ∙ drop-append-add l rest (from - length l) in
        rw d (later (omega (arith, length-append l rest)))
    go false q later =
        let in-it : from < length l = leb-false (length l) from q in
        let d : drop from (l ++ rest) ≡ drop from l ++ rest = drop-append-le from l rest (omega arith) in
        let n = length-drop from l in
        let w = whole-first room (ended-drop e from in-it) rest (omega arith) in
        omega (arith, ap length (ap (whole_lines room) d ∙ w), length-append (drop from l) (whole_lines (room - length (drop from l)) rest))

-- so no part is refused for want of room
pub always-room : (room from : ℕ) (ls : List (List ℕ)) → Pieces ls → AllFit room ls → gets_on room from (joined_lines ls) ≡ true
unfolding gets_on
always-room room from ls a f = go (leb (length (joined_lines ls)) from) refl
  where
    go : (b : Bool) → leb (length (joined_lines ls)) from ≡ b → (leb 1 (length (part room from (joined_lines ls))) || b) ≡ true
    go true q = or-true (leb 1 (length (part room from (joined_lines ls))))
    go false q = rw (le-leb 1 (length (part room from (joined_lines ls))) (gets-on room from ls a f (leb-false (length (joined_lines ls)) from q)))

-- and the parts are the whole text: at the latest after as many as it has bytes
gathered-some : (room k : ℕ) (ls : List (List ℕ)) → Pieces ls → AllFit room ls → k ≤ length (joined_lines ls) → k ≤ length (gathered room k (joined_lines ls))
unfolding gathered
gathered-some room zero ls a f h = omega arith
gathered-some room (suc k) ls a f h = go (leb (length text) (length have)) refl (gathered-some room k ls a f (omega arith))
  where
    text : List ℕ
    text = joined_lines ls

    have : List ℕ
    have = gathered room k text

    go : (b : Bool) → leb (length text) (length have) ≡ b → k ≤ length have → suc k ≤ length (have ++ part room (length have) text)
    go true q so_far = omega (arith, leb-true (length text) (length have) q, length-append have (part room (length have) text))
    go false q so_far =
        omega (
          arith,
          gets-on room (length have) ls a f (leb-false (length text) (length have) q),
          length-append have (part room (length have) text),
        )

pub gathered-all : (room : ℕ) (ls : List (List ℕ)) → Pieces ls → AllFit room ls → gathered room (length (joined_lines ls)) (joined_lines ls) ≡ joined_lines ls
gathered-all room ls a f =
    let text : List ℕ = joined_lines ls in
    let have : List ℕ = gathered room (length text) text in
    let all : length text ≤ length have = gathered-some room (length text) ls a f (omega arith) in
    sym (ap (λ (l : List ℕ). have ++ l) (drop_of_length-le text all) ∙ append-nil have) ∙ gathered-front room (length text) text

-- ---- of any text, at any byte: whether the next line fits decides

module _ (room from : ℕ) (text : List ℕ) {l : List ℕ} (e : Ended l) (rest : List ℕ) (next : drop from text ≡ l ++ rest) where
  left : from < length text
  left = omega (arith, length-drop from text, ap length next, length-append l rest, ended_some e)

  pub next_fits : length l ≤ room → gets_on room from text ≡ true
  unfolding gets_on part
  next_fits h =
      let some : 1 ≤ length (whole_lines room (drop from text)) =
      omega (arith, ap length (ap (whole_lines room) next ∙ whole-first room e rest h), length-append l (whole_lines (room - length l) rest), ended_some e) in
      rw (le-leb 1 (length (whole_lines room (drop from text))) some)

  pub next-waits : room < length l → gets_on room from text ≡ false
  unfolding gets_on part
  next-waits h = rw (next, whole-none room e rest h, lt-leb (length text) from left)
