-- What a piece of a run does, from a place in the run on: the lines that it prints, and the place that it comes to.
use Rattle.std.specs.Prelude.{true, false, List, [], ◌∷◌, ◌++◌, ℕ, ◌+◌, eqb, length, take, Ok, Err}
use Rattle.rules.specs.Text.{split, lines_of}
use Rattle.rules.specs.Answers.{refuses, printed}
use Rattle.rules.specs.Replay.{start_line, vector_line}
use Rattle.rules.specs.declared.Listing.{Listing}
use Rattle.rules.specs.declared.Refusal.{Refusal}
use Rattle.rules.specs.declared.Refusal.TheVariants.{BadLine, NoNext}
use Rattle.write_parts.specs.Parts.{added_all}
use Rattle.write_parts.specs.declared.Part.{Part}
use Rattle.run_encoded.specs.Terms.{code_for}
use Rattle.run_encoded.specs.declared.Terms.{Terms}
use Rattle.run_print.specs.Lines.{step_within}
use Rattle.run_replay.specs.Moves.{moved_by}
use Rattle.run_replay.specs.declared.Machines.{Machines}
use Rattle.run_replay.specs.declared.Moved.{Moved}
use Rattle.run_replay.specs.declared.Place.{Place}
use Rattle.run_replay.specs.declared.Ran.{Ran}

abbrev pub Course : Type 0
Course = List (List ℕ) × Place

-- a refusal is its line, and the end of the run
unfoldable pub ends_at : Refusal → ℕ → Course
unfolding printed
ends_at r k = (printed (refuses r k) ∷ [], Place.Over)

-- lines in front of what comes
unfoldable pub in_front : List (List ℕ) → Course → Course
in_front ks g = (ks ++ g.0, g.1)

-- the line of a step
unfoldable pub line_of : Listing → ℕ → Moved → List (List ℕ)
unfolding step_within
line_of t w m = step_within m.state w m.code m.outputs t.head.outputs

-- what stands behind the last LF: nothing, or a line without LF
unfoldable pub ran_end : ℕ → ℕ → ℕ → List ℕ → Course
unfolding ends_at
ran_end done s code [] = ([], Place.Behind done s code)
ran_end done s code (x ∷ xs) = ends_at BadLine (done + 2)

-- behind `SS` and so many steps, from a state and a code
unfoldable pub ran_from : Listing → Terms → ℕ → ℕ → ℕ → ℕ → List (List ℕ) → Course
unfolding ends_at in_front line_of ran_end vector_line moved_by
ran_from t ts w done s code [] = ([], Place.Behind done s code)
ran_from t ts w done s code (l ∷ []) = ran_end done s code l
ran_from t ts w done s code (l ∷ (k ∷ ks)) =
    elim (vector_line t.head done l) [
      | Err r ↦ ends_at r (done + 2)
      | Ok x ↦ elim (eqb (moved_by t ts w x s code).next 0) [
        | true ↦ ends_at NoNext (done + 2)
        | false ↦ in_front (line_of t w (moved_by t ts w x s code)) (ran_from t ts w (done + 1) (moved_by t ts w x s code).state (moved_by t ts w x s code).code (k ∷ ks))
      ]
    ]

-- from the first line on
unfoldable pub ran_first : Listing → Terms → List ℕ → List (List ℕ) → Course
unfolding ends_at start_line code_for ran_from
ran_first t ts bits [] = ends_at BadLine 1
ran_first t ts bits (l ∷ []) = ends_at BadLine 1
ran_first t ts bits (l ∷ (k ∷ ks)) =
    elim (start_line t.head l) [
      | Err r ↦ ends_at r 1
      | Ok s ↦ ran_from t ts (length bits) 0 s.0 (code_for bits s.0) (k ∷ ks)
    ]

-- from any place on
unfoldable pub ran_by : Listing → Terms → List ℕ → Place → List (List ℕ) → Course
unfolding ran_from ran_first
ran_by t ts bits Place.First lines = ran_first t ts bits lines
ran_by t ts bits (Place.Behind done s code) lines = ran_from t ts (length bits) done s code lines
ran_by t ts bits Place.Over lines = ([], Place.Over)

-- of both machines, the text of a piece
unfoldable pub course_of : Machines → Place → List ℕ → Course
unfolding split ran_by
course_of m p text = ran_by m.listing m.terms (take m.width m.bits) p (lines_of text)

-- the part and the buffer with those lines added, and the place
unfoldable pub ran_on : Course → Part × List ℕ → Ran × List ℕ
unfolding added_all
ran_on g a = (record { part = (added_all g.0 a).0; place = g.1 }, (added_all g.0 a).1)
