-- How far the lines of a KISS2 text come: why they stop, what they have made by then, and what is made of that.
use Rattle.std.specs.Prelude.{◌≡◌, cond, List, [], ◌∷◌, ℕ, ◌+◌, ◌≤◌, length, Ok, Err, Result}
use Rattle.rules.specs.Limits.{most_states}
use Rattle.rules.specs.Text.{mark_of}
use Rattle.rules.specs.Listing.{nothing}
use Rattle.rules.specs.KissLines.{kiss_mark}
use Rattle.rules.specs.Kiss.{Draft as Drafted, goes, ends, stops, kiss_placed, kiss_step, kiss_made, kiss_reading}
use Rattle.rules.specs.KissAnswers.{kiss_names}
use Rattle.rules.specs.declared.KissHeads.{KissHeads}
use Rattle.rules.specs.declared.Row.{Row}
use Rattle.rules.specs.Refusals.{Verdict, refused}
use Rattle.rules.specs.declared.Refusal.TheVariants.{BadLine, Place}
use Rattle.read_names.specs.Names.{names_in}
use Rattle.read_names.specs.declared.Names.{Names}
use Rattle.read_kiss_rows.specs.Drafts.{draft_in}
use Rattle.read_kiss_rows.specs.declared.Draft.{Draft}
use Rattle.rules.specs.declared.Refused.{Refused}
use Rattle.std.specs.Result.{IfOk}

-- after `.e`, which stood on line k: bytes after it are 3
unfoldable pub after_end : ℕ → List (List ℕ) → Verdict
unfolding nothing
after_end k rest = cond (nothing rest) (Ok tt) (refused Place (k + 1))

-- what stands behind the last LF, as line k
unfoldable pub broken : ℕ → KissHeads → List ℕ → Refused
unfolding kiss_placed kiss_mark mark_of
broken k h [] = record { refusal = Place; line = k }
broken k h (x ∷ xs) = cond (kiss_placed (kiss_mark (mark_of (x ∷ xs))) h) (record { refusal = BadLine; line = k }) (record { refusal = Place; line = k })

-- what was made, unless the end is refused
abbrev pub ended_with : Drafted → Verdict → Result Drafted Refused
ended_with d (Ok _) = Ok d
ended_with d (Err why) = Err why

-- the lines from number k on, behind those that made d
unfoldable pub walked : ℕ → Drafted → List (List ℕ) → Result Drafted Refused
unfolding after_end broken kiss_step
walked k d [] = refused Place k
walked k d (l ∷ []) = Err (broken k d.heads l)
walked k d (l ∷ (m ∷ ms)) =
    elim (kiss_step k d l) [
      | goes u ↦ walked (k + 1) u (m ∷ ms)
      | ends ↦ ended_with d (after_end k (m ∷ ms))
      | stops r ↦ refused r k
    ]

-- the code has made that draft in the text s
pub record Walked (s : List ℕ) (d : Draft) (w : Result Drafted Refused) : Type 0 where
  pub same : Ok (draft_in s d) ≡ w
  pub count : length (names_in s d.names) ≡ d.names.count
  pub few : d.names.count ≤ most_states

-- the draft that was lent, unless a line is refused
abbrev pub held : Verdict → Draft → Result Draft Refused
held (Ok _) d = Ok d
held (Err why) d = Err why

-- or has come to the same refusal
abbrev pub Walks : List ℕ → Result Draft Refused → Result Drafted Refused → Type 0
Walks s (Ok d) w = Walked s d w
Walks s (Err why) w = Err why ≡ w

-- a verdict alone
abbrev pub verdict_of : {A : Type 0} → Result A Refused → Verdict
verdict_of (Ok x) = Ok tt
verdict_of (Err why) = Err why

-- the verdict is that on the text, and where it is accepted these are its names
pub record NamedBy (s : List ℕ) (r : Result Names Refused) : Type 0 where
  pub verdict : verdict_of r ≡ verdict_of (kiss_reading s)
  pub names : IfOk r (λ ns. names_in s ns ≡ kiss_names s)
