-- Laws of writing: texts written one behind the other, and what a buffer holds that had room for the whole text.
use mathlib.Core.Path.{◌≡◌, refl, sym, ap, ap₂, ◌∙◌, subst}
use mathlib.Core.Bool.{Bool, true, false}
use mathlib.Core.List.{List, [], ◌∷◌, ◌++◌, append-nil}
use Prim.Native.Nat.{ℕ, suc, ◌+◌, ◌≤◌, ◌<◌, min}
use native.Mathlib.Nat.{add-zero}
use native.Mathlib.Numerals.{add-one}
use native.Mathlib.Omega.{arith}
use lib.Dec.{leb}
use borrow.Author.Tests.{leb-true, leb-false}
use lib.ListN.{length, set, take, drop, length-set, length-append, take-append-drop}
use lib.Seq.{set_out, take-suc-set, drop-set-lt, append_snoc, take_at}
use Rattle.write_pen.specs.Pen.{last_place, put, Wrote}

-- ---- put

pub put-length : (d : List ℕ) (at : ℕ) (xs : List ℕ) → length (put d at xs) ≡ length d
unfolding put
put-length d at [] = refl
put-length d at (x ∷ xs) = put-length (set d at x) (at + 1) xs ∙ length-set d at x

pub put-append : (d : List ℕ) (at : ℕ) (xs ys : List ℕ) → put (put d at xs) (at + length xs) ys ≡ put d at (xs ++ ys)
unfolding put
put-append d at [] ys = rw add-zero
put-append d at (x ∷ xs) ys =
    let e : at + suc (length xs) ≡ at + 1 + length xs = omega arith in
    rw e (put-append (set d at x) (at + 1) xs ys)

-- behind the buffer's end nothing is kept
pub put-lost : (d : List ℕ) (at : ℕ) (xs : List ℕ) → length d ≤ at → put d at xs ≡ d
unfolding put
put-lost d at [] h = refl
put-lost d at (x ∷ xs) h = rw (set_out d at x h) (put-lost d (at + 1) xs (omega arith))

-- where all of it fits
pub put-fits : (d : List ℕ) (at : ℕ) (xs : List ℕ) → at + length xs ≤ length d → put d at xs ≡ take at d ++ xs ++ drop (at + length xs) d
unfolding put
put-fits d at [] h = rw (add-zero, append-nil) (sym (take-append-drop at d))
put-fits d at (x ∷ xs) h =
    let g : at < length d = omega arith in
    let e : at + suc (length xs) ≡ at + 1 + length xs = omega arith in
    let k : at < at + 1 + length xs = omega arith in
    put-fits (set d at x) (at + 1) xs (rw length-set (omega arith))
    ∙ rw (e, drop-set-lt (at + 1 + length xs) d at x k, add-one, take-suc-set d at x g, append_snoc)

-- a place past the last, and the last, both lie behind the buffer's end
put-far : (d : List ℕ) (at : ℕ) (xs : List ℕ) → length d ≤ last_place → put d (min at last_place) xs ≡ put d at xs
put-far d at xs h = go (leb at last_place) refl
  where
    go : (t : Bool) → leb at last_place ≡ t → put d (min at last_place) xs ≡ put d at xs
    go true e =
        let m : min at last_place ≡ at = omega (arith, leb-true at last_place e) in
        ap (λ (k : ℕ). put d k xs) m
    go false e =
        let k : last_place < at = leb-false at last_place e in
        put-lost d (min at last_place) xs (omega arith) ∙ sym (put-lost d at xs (omega arith))

-- ---- what was written

-- no text
pub wrote_none : (d : List ℕ) (at : ℕ) → at ≤ last_place → length d ≤ last_place → Wrote d at [] at d
unfolding put
wrote_none d at h k = record { ends = omega arith; holds = refl; within = k }

-- one byte, stored or lost
pub wrote_one : (d : List ℕ) (at b : ℕ) {r : ℕ} → r ≡ min (at + 1) last_place → length d ≤ last_place → Wrote d at (b ∷ []) r (set d at b)
unfolding put
wrote_one d at b e k = record { ends = e; holds = refl; within = k }

pub wrote-lost : (d : List ℕ) (at b : ℕ) {r : ℕ} → r ≡ min (at + 1) last_place → length d ≤ last_place → length d ≤ at → Wrote d at (b ∷ []) r d
unfolding put
wrote-lost d at b e k h = record { ends = e; holds = sym (set_out d at b h); within = k }

-- a text behind a text
pub wrote_then : {d e f : List ℕ} {at r q : ℕ} {xs ys : List ℕ} → Wrote d at xs r e → Wrote e r ys q f → Wrote d at (xs ++ ys) q f
wrote_then {d} {e} {f} {at} {r} {q} {xs} {ys} u w = record {
  ends = simp length-append (omega arith);
  holds =
      w.holds
      ∙ ap₂ (λ (l : List ℕ) (k : ℕ). put l k ys) u.holds u.ends
      ∙ put-far (put d at xs) (at + length xs) ys (rw put-length u.within)
      ∙ put-append d at xs ys;
  within = u.within;
}

pub wrote_as : {d e : List ℕ} {at r : ℕ} {xs ys : List ℕ} → Wrote d at xs r e → xs ≡ ys → Wrote d at ys r e
wrote_as {d} {e} {at} {r} u z = subst (λ (l : List ℕ). Wrote d at l r e) z u

-- the buffer keeps its length
pub wrote-same : {d e : List ℕ} {at r : ℕ} {bs : List ℕ} → Wrote d at bs r e → length e ≡ length d
wrote-same {d} {e} {at} {r} {bs} u = ap length u.holds ∙ put-length d at bs

-- the text leaves one answer and one content
pub wrote-only : {d e f : List ℕ} {at r q : ℕ} {bs : List ℕ} → Wrote d at bs r e → Wrote d at bs q f → (r ≡ q) × (e ≡ f)
wrote-only u w = (u.ends ∙ sym w.ends, u.holds ∙ sym w.holds)

-- ---- a whole text, from the buffer's start

-- a text that fits stands at the start, and the bytes behind it are as they came
pub wrote-all : {d t e : List ℕ} {r : ℕ} → Wrote d 0 t r e → length t ≤ length d → e ≡ t ++ drop (length t) d
wrote-all {d} {t} {e} {r} w k =
    let z : 0 + length t ≡ length t = omega arith in
    w.holds ∙ put-fits d 0 t (omega arith) ∙ rw z

-- the run tells the length, also on a buffer that is too small
pub wrote-length : {d t e : List ℕ} {r : ℕ} → Wrote d 0 t r e → length t ≤ last_place → r ≡ length t
wrote-length w h = omega (arith, w.ends)

-- the text as a part of the buffer
pub wrote-part : {d t e : List ℕ} {r : ℕ} → Wrote d 0 t r e → length t ≤ length d → take r e ≡ t
wrote-part {d} {t} {e} {r} w k =
    let z : length t ≡ r = omega (arith, w.ends, w.within) in
    rw (wrote-all w k) (take_at t (drop (length t) d) r z)
