-- Lines added to a part that begins at a byte of their text make the part that 02 asks for: the whole lines from there on that fit.
use mathlib.Core.Path.{◌≡◌, refl, sym, ap, ◌∙◌}
use mathlib.Core.Bool.{Bool, true, false}
use mathlib.Core.List.{List, [], ◌∷◌, ◌++◌}
use Prim.Native.Nat.{ℕ, ◌+◌, ◌-◌, ◌≤◌, ◌<◌}
use native.Mathlib.Omega.{arith}
use lib.Dec.{leb, ltb}
use lib.ListN.{length, drop, length-append, length-drop}
use lib.Seq.{drop-nil, drop-append-add, drop-append-le}
use borrow.Author.Tests.{leb-true, leb-false, le-ltb, lt-ltb, ltb-true, ltb-false}
use Rattle.rules.specs.Report.{joined_lines}
use Rattle.rules.specs.Parts.{whole_lines, part}
use Rattle.rules.proofs.Ended.{Ended, Pieces, no-piece, gap, piece}
use Rattle.rules.proofs.Parts.{whole-first, whole-none, whole-end, whole-fits, ended-drop}
use Rattle.write_pen.specs.Pen.{put}
use Rattle.write_pen.proofs.Laws.{put-append, put-fits, put-length}
use Rattle.write_parts.specs.Parts.{standing, begun, fits, added, added_all}
use Rattle.write_parts.proofs.Adding.{Lent, added_none, added-passed, added-kept, added-put, all-full}

-- ---- what is left of a text, put behind the first g bytes of a buffer

-- Those of its lines that fit stand there, the bytes behind them are as they came, and the part is full where something more is left.
pub record Parted (left : List ℕ) (g : ℕ) (out : List ℕ) (s : Lent) : Type 0 where
  pub given : s.0.given ≡ g + length (whole_lines (length out - g) left)
  pub holds : s.1 ≡ put out g (whole_lines (length out - g) left)
  pub full : s.0.full ≡ ltb (length (whole_lines (length out - g) left)) (length left)

none_left : (skip g : ℕ) (out : List ℕ) → Parted [] g out (standing skip g false, out)
unfolding put
none_left skip g out =
    let w = whole-end (length out - g) in
    record {
      given = rw w (omega arith);
      holds = rw w;
      full = rw w (sym (le-ltb 0 0 (omega arith)));
    }

-- a line that does not fit
none-fits : (skip g : ℕ) (out : List ℕ) {d : List ℕ} → Ended d → (rest : List ℕ) → length out < g + length d → 1 ≤ length d → Parted (d ++ rest) g out (standing skip g true, out)
unfolding put
none-fits skip g out {d} e rest h some =
    let w = whole-none (length out - g) e rest (omega arith) in
    record {
      given = rw w (omega arith);
      holds = rw w;
      full = rw w (sym (lt-ltb 0 (length (d ++ rest)) (omega (arith, length-append d rest))));
    }

more_left : (m a b : ℕ) → ltb (m + a) (m + b) ≡ ltb a b
more_left m a b = go (ltb a b) refl
  where
    go : (t : Bool) → ltb a b ≡ t → ltb (m + a) (m + b) ≡ ltb a b
    go true e = lt-ltb (m + a) (m + b) (omega (arith, ltb-true a b e)) ∙ sym e
    go false e = le-ltb (m + a) (m + b) (omega (arith, ltb-false a b e)) ∙ sym e

-- a line that fits, and what comes behind it
one-fits : (g : ℕ) (out : List ℕ) {d : List ℕ} → Ended d → (rest : List ℕ) (s : Lent) → g + length d ≤ length out → Parted rest (g + length d) (put out g d) s → Parted (d ++ rest) g out s
one-fits g out {d} e rest s h p =
    let w = whole-first (length out - g) e rest (omega arith) in
    let n : length (put out g d) - (g + length d) ≡ length out - g - length d = omega (arith, put-length out g d) in
    let k : List ℕ = whole_lines (length out - g - length d) rest in
    record {
      given = p.given ∙ rw (n, w, length-append) (omega arith);
      holds = p.holds ∙ rw (n, w) (put-append out g d k);
      full = p.full ∙ rw (n, w, length-append, length-append) (sym (more_left (length d) (length k) (length rest)));
    }

-- ---- lines, one after the other

-- wherever the part stands
abbrev Any : List (List ℕ) → Type 0
Any ls = (skip g : ℕ) (out : List ℕ) → g ≤ length out → Parted (drop skip (joined_lines ls)) g out (added_all ls (standing skip g false, out))

pub parted : (ls : List (List ℕ)) → Pieces ls → Any ls
unfolding added_all joined_lines fits
parted [] no-piece skip g out h = rw (drop-nil skip) (none_left skip g out)
parted ([] ∷ ls) (gap a) skip g out h = rw (added_none (standing skip g false, out)) (parted ls a skip g out h)
parted (l ∷ ls) (piece e a) skip g out h = go (leb (length l) skip) refl (parted ls a)
  where
    rest : List ℕ
    rest = joined_lines ls

    put-or-kept : (b : Bool) → fits (length out) g (length l - skip) ≡ b → skip < length l → Any ls → Parted (drop skip (l ++ rest)) g out (added_all ls (added l (standing skip g false, out)))
    put-or-kept true f k later =
        let d : List ℕ = drop skip l in
        let n = length-drop skip l in
        let z : g + (length l - skip) ≡ g + length d = omega arith in
        let room : g + (length l - skip) ≤ length out = leb-true (g + (length l - skip)) (length out) f in
        rw (drop-append-le skip l rest (omega arith), added-put l out (standing skip g false) refl k f, z)
        (one-fits g out (ended-drop e skip k) rest _ (omega arith) (later 0 (g + length d) (put out g d) (omega (arith, put-length out g d))))
    put-or-kept false f k later =
        let n = length-drop skip l in
        let full : length out < g + (length l - skip) = leb-false (g + (length l - skip)) (length out) f in
        rw (drop-append-le skip l rest (omega arith), added-kept l out (standing skip g false) refl k f, all-full ls out (standing skip g true) refl)
        (none-fits skip g out (ended-drop e skip k) rest (omega arith) (omega arith))

    go : (b : Bool) → leb (length l) skip ≡ b → Any ls → Parted (drop skip (l ++ rest)) g out (added_all ls (added l (standing skip g false, out)))
    go true q later =
        let past : length l ≤ skip = leb-true (length l) skip q in
        let z : length l + (skip - length l) ≡ skip = omega arith in
        let d : drop skip (l ++ rest) ≡ drop (skip - length l) rest = ap (λ (k : ℕ). drop k (l ++ rest)) (sym z) ∙ drop-append-add l rest (skip - length l) in
        rw (d, added-passed l out (standing skip g false) refl past) (later (skip - length l) g out h)
    go false q later = put-or-kept (fits (length out) g (length l - skip)) refl (leb-false (length l) skip q) later

-- ---- from a byte on, into the whole buffer

-- the part that 02 asks for, with the bytes behind it as they came
pub record Made (text : List ℕ) (from : ℕ) (out : List ℕ) (s : Lent) : Type 0 where
  pub given : s.0.given ≡ length (part (length out) from text)
  pub holds : s.1 ≡ part (length out) from text ++ drop (length (part (length out) from text)) out
  pub full : s.0.full ≡ ltb (length (part (length out) from text)) (length (drop from text))

pub made : (ls : List (List ℕ)) → Pieces ls → (from : ℕ) (out : List ℕ) → Made (joined_lines ls) from out (added_all ls (begun from, out))
unfolding part begun
made ls a from out =
    let p = parted ls a from 0 out (omega arith) in
    let n : length out - 0 ≡ length out = omega arith in
    let w : List ℕ = whole_lines (length out) (drop from (joined_lines ls)) in
    let z : 0 + length w ≡ length w = omega arith in
    record {
      given = p.given ∙ rw n (omega arith);
      holds = p.holds ∙ rw n (put-fits out 0 w (omega (arith, whole-fits (length out) (drop from (joined_lines ls)))) ∙ rw z);
      full = p.full ∙ rw n;
    }

-- without any room the part is full exactly where something is left: so a text is measured
pub measured : (ls : List (List ℕ)) → Pieces ls → (from : ℕ) → (added_all ls (begun from, [])).0.full ≡ ltb from (length (joined_lines ls))
unfolding part whole_lines
measured ls a from = (made ls a from []).full ∙ left_over (ltb from (length (joined_lines ls))) refl
  where
    left_over : (b : Bool) → ltb from (length (joined_lines ls)) ≡ b → ltb 0 (length (drop from (joined_lines ls))) ≡ ltb from (length (joined_lines ls))
    left_over true e = lt-ltb 0 (length (drop from (joined_lines ls))) (omega (arith, length-drop from (joined_lines ls), ltb-true from (length (joined_lines ls)) e)) ∙ sym e
    left_over false e = le-ltb 0 (length (drop from (joined_lines ls))) (omega (arith, length-drop from (joined_lines ls), ltb-false from (length (joined_lines ls)) e)) ∙ sym e

-- a text that fits is its own part
whole-pieces : (room : ℕ) (ls : List (List ℕ)) → Pieces ls → length (joined_lines ls) ≤ room → whole_lines room (joined_lines ls) ≡ joined_lines ls
unfolding joined_lines
whole-pieces room [] no-piece h = whole-end room
whole-pieces room ([] ∷ ls) (gap a) h = whole-pieces room ls a h
whole-pieces room (l ∷ ls) (piece e a) h =
    let n = length-append l (joined_lines ls) in
    whole-first room e (joined_lines ls) (omega arith) ∙ ap (λ (t : List ℕ). l ++ t) (whole-pieces (room - length l) ls a (omega arith))

pub whole_part : (room : ℕ) (ls : List (List ℕ)) → Pieces ls → length (joined_lines ls) ≤ room → part room 0 (joined_lines ls) ≡ joined_lines ls
unfolding part
whole_part room ls a h = whole-pieces room ls a h
