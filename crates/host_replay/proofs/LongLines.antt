-- A line that is longer than any good one is bad, whatever comes behind: so a program that reads a run in pieces may refuse it when it has seen that much of it.
use Rattle.std.specs.Prelude.{Ok, Err}
use mathlib.Core.Path.{◌≡◌, refl, sym, ap, ◌∙◌}
use mathlib.Core.Bool.{Bool, true, false, ◌&&◌, cond}
use mathlib.Core.List.{List, [], ◌∷◌, ◌++◌}
use Prim.Native.Nat.{ℕ, ◌+◌, ◌≤◌}
use native.Mathlib.Omega.{arith}
use lib.Dec.{leb}
use lib.ListN.{length, take}
use borrow.Author.Tests.{leb-true}
use Rattle.sets.proofs.Every.{and_first, and_second}
use Rattle.rules.specs.Limits.{most_inputs, most_steps}
use Rattle.rules.specs.Text.{bytes, nought, one, lf, field_at, sized, set_of, numeral_of}
use Rattle.rules.specs.Replay.{marked, start_read, start_line, vector_line}
use Rattle.rules.specs.declared.Head.{Head}
use Rattle.rules.specs.declared.Listing.{Listing}
use Rattle.rules.specs.declared.Refusal.TheVariants.{BadLine, Limit}
use Rattle.rules.proofs.Fields.{Without, split-last}
use Rattle.run_lines.proofs.Lengths.{marked-long, numeral-long, first-line}
use Rattle.run_encoded.specs.declared.Terms.{Terms}
use Rattle.run_replay.specs.Places.{Course, ends_at, ran_from, ran_first, ran_by, course_of}
use Rattle.run_replay.specs.declared.Machines.{Machines}
use Rattle.run_replay.specs.declared.Place.{Place}
use Rattle.run_replay.proofs.Lines.{lineBy, line-by, end-bad, firstBy, first_by}

-- no good line is so long
abbrev pub long-line : ℕ
long-line = 20

-- ---- so it is not long

sized-short : (k : ℕ) (f : List ℕ) → sized most_inputs k nought one one f ≡ true → length f ≤ most_inputs
unfolding sized
sized-short k f e = leb-true (length f) most_inputs (and_first (leb (length f) most_inputs) _ e)

module _ (h : Head) (l : List ℕ) (long : long-line ≤ length l) where
  vector-long : (done : ℕ) → vector_line h done l ≡ Err BadLine
  unfolding vector_line
  vector-long done = go (marked (bytes "IN") l && sized most_inputs h.inputs nought one one (field_at l 1)) refl
    where
      go : (b : Bool) → (marked (bytes "IN") l && sized most_inputs h.inputs nought one one (field_at l 1)) ≡ b
          → cond b (cond (leb most_steps done) (Err Limit) (Ok (set_of one (field_at l 1)))) (Err BadLine) ≡ Err BadLine
      go true e = absurd (omega (arith, marked-long (bytes "IN") l (and_first (marked (bytes "IN") l) _ e), sized-short h.inputs (field_at l 1) (and_second (marked (bytes "IN") l) _ e)))
      go false e = refl

  start-long : start_line h l ≡ Err BadLine
  unfolding start_line start_read
  start-long = go (marked (bytes "SS") l) refl
    where
      go : (b : Bool) → marked (bytes "SS") l ≡ b → cond b (start_read h (numeral_of (field_at l 1))) (Err BadLine) ≡ Err BadLine
      go true e = ap (start_read h) (numeral-long (field_at l 1) (omega (arith, marked-long (bytes "SS") l e)))
      go false e = refl

-- ---- a run that stands before such a line ends there

abbrev bad_end : Place → Course
bad_end Place.First = ends_at BadLine 1
bad_end (Place.Behind done s code) = ends_at BadLine (done + 2)
bad_end Place.Over = ([], Place.Over)

module _ (t : Listing) (ts : Terms) (bits : List ℕ) (l : List ℕ) (long : long-line ≤ length l) where
  from-long : (done s code : ℕ) (rest : List (List ℕ)) → ran_from t ts (length bits) done s code (l ∷ rest) ≡ ends_at BadLine (done + 2)
  unfolding ran_from
  from-long done s code [] = end-bad t ts (length bits) done s code l (omega arith)
  from-long done s code (k ∷ ks) = line-by t ts (length bits) done s code l (k ∷ ks) (omega arith) ∙ ap (lineBy t ts (length bits) done s code (k ∷ ks)) (vector-long t.head l long done)

  first-long : (rest : List (List ℕ)) → ran_first t ts bits (l ∷ rest) ≡ ends_at BadLine 1
  unfolding ran_first
  first-long [] = refl
  first-long (k ∷ ks) = first_by t ts bits l (k ∷ ks) (omega arith) ∙ ap (firstBy t ts bits (k ∷ ks)) (start-long t.head l long)

  long-ends : (p : Place) (rest : List (List ℕ)) → ran_by t ts bits p (l ∷ rest) ≡ bad_end p
  unfolding ran_by
  long-ends Place.First rest = first-long rest
  long-ends (Place.Behind done s code) rest = from-long done s code rest
  long-ends Place.Over rest = refl

-- from any place: with what comes behind it or without
pub long-alone : (m : Machines) (p : Place) (a b : List ℕ) → Without lf a → long-line ≤ length a → course_of m p (a ++ b) ≡ course_of m p a
unfolding course_of
long-alone m p a b w long =
    let bits : List ℕ = take m.width m.bits in
    let r = first-line a b w in
    ap (ran_by m.listing m.terms bits p) r.1.1
    ∙ long-ends m.listing m.terms bits r.0 (omega (arith, r.1.2)) p r.1.0
    ∙ sym (ap (ran_by m.listing m.terms bits p) (split-last lf a w) ∙ long-ends m.listing m.terms bits a long p [])
