-- A program that reads a run in pieces of whole lines, and prints what each does from the place that the one before it came to, prints the replay, byte for
-- byte: no piece of 512 bytes is longer in print than a buffer of 64 KiB.
use mathlib.Core.Path.{◌≡◌, refl, sym, ap, ap₂, ◌∙◌}
use mathlib.Core.List.{List, [], ◌∷◌, ◌++◌, append_assoc}
use Prim.Native.Nat.{ℕ, ◌+◌, ◌≤◌}
use native.Mathlib.Omega.{arith}
use lib.ListN.{length, take, length-append}
use Rattle.rules.specs.Text.{lf, lines_of}
use Rattle.rules.specs.Report.{joined_lines}
use Rattle.rules.specs.Parts.{part}
use Rattle.write_parts.proofs.Parted.{whole_part}
use Rattle.run_replay.specs.Places.{Course, in_front, ran_by, course_of}
use Rattle.run_replay.specs.declared.Machines.{Machines}
use Rattle.run_replay.specs.declared.Place.{Place}
use Rattle.run_replay.proofs.Pieces.{joined, in_pieces, pieces-are-all}
use Rattle.run_replay.proofs.Replies.{Early, all_whole, all_short, text-long}

-- the most bytes of a piece, and the room for what it prints
abbrev pub piece_bytes : ℕ
piece_bytes = 512

abbrev pub print-room : ℕ
print-room = 65536

-- every piece but the last has its LF, and all are short enough
pub data Brief : List (List ℕ) → List ℕ → Type 0 where
  the_last : {last : List ℕ} → length last ≤ piece_bytes → Brief [] last
  before : {a : List ℕ} {ps : List (List ℕ)} {last : List ℕ} → length a + 1 ≤ piece_bytes → Brief ps last → Brief (a ∷ ps) last

module _ (m : Machines) where
  -- the bytes that a piece gives
  abbrev given : Place → List ℕ → List ℕ
  given p text = part print-room 0 (joined_lines (course_of m p text).0)

  -- and all pieces, one behind the other
  unfoldable pub printedPieces : Place → List (List ℕ) → List ℕ → List ℕ
  printedPieces p [] last = given p last
  printedPieces p (a ∷ ps) last = given p (a ++ (lf ∷ [])) ++ printedPieces (course_of m p (a ++ (lf ∷ []))).1 ps last

  given-all : (p : Place) → Early p → (text : List ℕ) → length text ≤ piece_bytes → given p text ≡ joined_lines (course_of m p text).0
  unfolding course_of
  given-all p e text h =
      let bits : List ℕ = take m.width m.bits in
      whole_part print-room (ran_by m.listing m.terms bits p (lines_of text)).0 (all_whole m.listing m.terms bits p (lines_of text))
      (omega (arith, text-long m.listing m.terms bits p e text))

  early-after : (p : Place) → Early p → (text : List ℕ) → Early (course_of m p text).1
  unfolding course_of
  early-after p e text = (all_short m.listing m.terms (take m.width m.bits) p e (lines_of text)).early

  joined-front : (ks ls : List (List ℕ)) → joined_lines (ks ++ ls) ≡ joined_lines ks ++ joined_lines ls
  unfolding joined_lines
  joined-front [] ls = refl
  joined-front (k ∷ ks) ls = ap (λ (l : List ℕ). k ++ l) (joined-front ks ls) ∙ sym (append_assoc k (joined_lines ks) (joined_lines ls))

  by-pieces : (p : Place) → Early p → (ps : List (List ℕ)) (last : List ℕ) → Brief ps last → printedPieces p ps last ≡ joined_lines (in_pieces m.listing m.terms (take m.width m.bits) p ps last).0
  unfolding printedPieces in_pieces in_front course_of
  by-pieces p e [] last (the_last h) = given-all p e last h
  by-pieces p e (a ∷ ps) last (before h b) =
      ap₂ (λ (x y : List ℕ). x ++ y) (given-all p e (a ++ (lf ∷ [])) (omega (arith, length-append a (lf ∷ [])))) (by-pieces (course_of m p (a ++ (lf ∷ []))).1 (early-after p e (a ++ (lf ∷ []))) ps last b)
      ∙ sym (joined-front (course_of m p (a ++ (lf ∷ []))).0 (in_pieces m.listing m.terms (take m.width m.bits) (course_of m p (a ++ (lf ∷ []))).1 ps last).0)

  -- what is printed is what the whole run prints
  pub pieces-printed : (ps : List (List ℕ)) (last : List ℕ) → Brief ps last
      → printedPieces Place.First ps last ≡ joined_lines (course_of m Place.First (joined ps last)).0
  unfolding course_of
  pieces-printed ps last b =
      by-pieces Place.First tt ps last b ∙ ap (λ (g : Course). joined_lines g.0) (pieces-are-all m.listing m.terms (take m.width m.bits) Place.First ps last)
