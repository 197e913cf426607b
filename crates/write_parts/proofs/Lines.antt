-- A line that is written, into a buffer of its own or straight behind those given, where it fits, and so added.
use mathlib.Core.Path.{◌≡◌, sym, ap, ap₂, ◌∙◌}
use mathlib.Core.Bool.{false, true, not}
use mathlib.Core.List.{List, [], ◌∷◌}
use Prim.Native.Nat.{ℕ, ◌+◌, ◌-◌, ◌≤◌, ◌<◌}
use native.Mathlib.Omega.{arith}
use lib.Dec.{eqb}
use lib.ListN.{length, take, drop, length-drop}
use borrow.Author.Tests.{eqb-true, leb-true, le-leb, not-true}
use Rattle.sets.proofs.Every.{and_first, and_second}
use Rattle.write_pen.specs.Pen.{put, Wrote}
use Rattle.write_pen.proofs.Laws.{wrote-same, wrote-part, wrote_as}
use Rattle.write_parts.specs.Parts.{standing, fits, open_for, added}
use Rattle.write_parts.specs.declared.Part.{Part}
use Rattle.write_parts.proofs.Adding.{Lent, added-passed, added-put}

-- ---- through a buffer of its own

module _ {d t e : List ℕ} {r : ℕ} (w : Wrote d 0 t r e) (fits : length t ≤ length d) where
  pub line-ends : r ≤ length e
  line-ends = omega (arith, w.ends, w.within, wrote-same w)

  pub line-long : r ≡ length (take r e)
  line-long =
      let n : r ≡ length t = omega (arith, w.ends, w.within) in
      n ∙ sym (ap length (wrote-part w fits))

  pub line-added : (s : Lent) (p : Part) (out : List ℕ) → s ≡ added (take r e) (p, out) → s ≡ added t (p, out)
  line-added s p out h = h ∙ ap (λ (l : List ℕ). added l (p, out)) (wrote-part w fits)

-- ---- straight behind those given

-- what was written of a line is what was left of it
pub put-down : (l out after : List ℕ) (p : Part) {end : ℕ} → p.full ≡ false → p.skip < length l → fits (length out) p.given (length l - p.skip) ≡ true
    → Wrote out p.given (drop p.skip l) end after → (standing 0 end false, after) ≡ added l (p, out)
unfolding fits
put-down l out after p {end} f h k w =
    let room : p.given + (length l - p.skip) ≤ length out = leb-true (p.given + (length l - p.skip)) (length out) k in
    let e : end ≡ p.given + (length l - p.skip) = omega (arith, w.ends, length-drop p.skip l, w.within) in
    ap₂ (λ (n : ℕ) (o : List ℕ). (standing 0 n false, o)) e w.holds ∙ sym (added-put l out p f h k)

-- all of it, where nothing is left to pass over
module _ (out after : List ℕ) (p : Part) {end : ℕ} (f : p.full ≡ false) (z : p.skip ≡ 0) where
  whole-down : (l : List ℕ) → p.given + length l ≤ length out → Wrote out p.given l end after → (standing 0 end false, after) ≡ added l (p, out)
  unfolding put fits
  whole-down [] h w =
      let e : end ≡ p.given = omega (arith, w.ends, w.within) in
      let s : 0 ≡ p.skip - 0 = omega arith in
      cc (e, w.holds, s, added-passed [] out p f (omega arith))
  whole-down (x ∷ xs) h w =
      put-down (x ∷ xs) out after p f (omega arith) (le-leb (p.given + (length (x ∷ xs) - p.skip)) (length out) (omega arith))
      (wrote_as w (sym (ap (λ (k : ℕ). drop k (x ∷ xs)) z)))

-- and where the part is open for it, by its writer
pub line-put : (l out after : List ℕ) (p : Part) {most end : ℕ} → open_for most (length out) p ≡ true → length l ≤ most → Wrote out p.given l end after
    → (standing 0 end false, after) ≡ added l (p, out)
unfolding open_for fits
line-put l out after p {most} h few w =
    let rest = and_second (not p.full) _ h in
    let room = leb-true (p.given + most) (length out) (and_second (eqb p.skip 0) _ rest) in
    whole-down out after p (not-true _ (and_first (not p.full) _ h)) (eqb-true p.skip 0 (and_first (eqb p.skip 0) _ rest)) l (omega arith) w
