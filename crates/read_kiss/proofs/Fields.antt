-- The pieces of a line are its fields, and a piece of a line is a piece of the text.
use mathlib.Core.Path.{◌≡◌, refl, sym, ap, ◌∙◌}
use mathlib.Core.Logic.{⊎_elim}
use mathlib.Core.List.{List, [], ◌∷◌}
use Prim.Native.Nat.{ℕ, zero, suc, ◌+◌, ◌-◌, ◌≤◌, ◌<◌}
use native.Mathlib.Nat.{eq-or-lt_of_le}
use native.Mathlib.Omega.{arith}
use lib.ListN.{length, get_or, take, drop, length-drop}
use lib.Seq.{take-nil, take-take, drop-drop, get_or-drop}
use Rattle.rules.specs.Text.{space, split, fields_of, field_at}
use Rattle.read_pieces.specs.Pieces.{end_of}
use Rattle.read_pieces.proofs.Laws.{part, Cut, cut_of, piece-first}
use Rattle.read_names.specs.Names.{piece_of}
use Rattle.read_names.specs.declared.Piece.{Piece}
use Rattle.read_kiss_lines.specs.Says.{field_start, field_piece}
use Rattle.read_kiss.specs.Says.{moved_by}

-- ---- fields

-- the fields from field k on are what is parted from its place on
record From (l : List ℕ) (k at : ℕ) : Type 0 where
  within : at ≤ length l
  rest : split space (drop at l) ≡ drop k (fields_of l)

from_next : (l : List ℕ) (k at : ℕ) → suc k < length (fields_of l) → From l k at → From l (suc k) (end_of space l at + 1)
from_next l k at h f =
    let c : Cut space l at (end_of space l at) = cut_of space l at f.within refl in
    let more : length (split space (drop at l)) ≡ length (fields_of l) - k = ap length f.rest ∙ length-drop k (fields_of l) in
    let e : k + 1 ≡ suc k = omega arith in
    ⊎_elim
    (λ q. absurd (omega (arith, ap length (c.last (omega arith)), more)))
    (λ g. record { within = omega arith; rest = ap (drop 1) (sym (c.more g) ∙ f.rest) ∙ drop-drop 1 k (fields_of l) ∙ ap (λ (n : ℕ). drop n (fields_of l)) e })
    (eq-or-lt_of_le c.to)

fields-from : (l : List ℕ) (k : ℕ) → k < length (fields_of l) → From l k (field_start l k)
unfolding field_start
fields-from l zero h = record { within = omega arith; rest = refl }
fields-from l (suc k) h = from_next l k (field_start l k) h (fields-from l k (omega arith))

-- a piece is within n bytes
pub record Inside (n : ℕ) (p : Piece) : Type 0 where
  pub start : p.start ≤ n
  pub end : p.end ≤ n

module _ (l : List ℕ) (k : ℕ) (h : k < length (fields_of l)) where
  pub field-inside : Inside (length l) (field_piece l k)
  unfolding field_piece
  field-inside =
      let f : From l k (field_start l k) = fields-from l k h in
      record { start = f.within; end = (cut_of space l (field_start l k) f.within refl).to }

  pub field-piece : piece_of l (field_piece l k) ≡ field_at l k
  unfolding field_piece piece_of
  field-piece =
      let f : From l k (field_start l k) = fields-from l k h in
      let e : k + 0 ≡ k = omega arith in
      sym (piece-first space l (field_start l k) (end_of space l (field_start l k)) (cut_of space l (field_start l k) f.within refl))
      ∙ ap (λ (ps : List (List ℕ)). get_or ps 0 []) f.rest
      ∙ get_or-drop k (fields_of l) 0 []
      ∙ ap (λ (j : ℕ). get_or (fields_of l) j []) e

-- ---- a piece of the line from `at` to e, in the text

drop-take : (m n : ℕ) (l : List ℕ) → drop m (take n l) ≡ take (n - m) (drop m l)
drop-take zero n l = let e : n - 0 ≡ n = omega arith in rw e
drop-take (suc m) zero l = let e : 0 - suc m ≡ 0 = omega arith in rw e
drop-take (suc m) (suc n) [] = sym (take-nil (suc n - suc m))
drop-take (suc m) (suc n) (x ∷ xs) = let e : suc n - suc m ≡ n - m = omega arith in drop-take m n xs ∙ rw e

pub piece-moved : (s : List ℕ) (at e : ℕ) (p : Piece) → Inside (e - at) p → piece_of s (moved_by at p) ≡ piece_of (part s at e) p
unfolding piece_of moved_by
piece-moved s at e p i =
    let n : ℕ = p.end - p.start in
    let a : (at + p.end) - (at + p.start) ≡ n = omega arith in
    let b : n ≤ e - at - p.start = omega (arith, i.end) in
    ap (λ (m : ℕ). take m (drop (at + p.start) s)) a
    ∙ ap (take n) (sym (drop-drop p.start at s))
    ∙ sym (take-take n (e - at - p.start) (drop p.start (drop at s)) b)
    ∙ ap (take n) (sym (drop-take p.start (e - at) (drop at s)))
