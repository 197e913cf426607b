-- The states that a row names, judged one test after the other.
use Rattle.std.specs.Prelude.{Option, Some, None}
use mathlib.Core.Path.{◌≡◌}
use mathlib.Core.Bool.{Bool, true, false, cond}
use mathlib.Core.List.{List}
use Prim.Native.Nat.{ℕ}
use lib.Dec.{leb, ltb}
use Rattle.sets.specs.Sets.{only}
use Rattle.rules.specs.Limits.{most_states}
use Rattle.rules.specs.KissLines.{is_star}
use Rattle.rules.specs.Kiss.{number_of}
use Rattle.read_names.specs.Names.{piece_of, names_in, with_name}
use Rattle.read_names.specs.declared.Names.{Names}
use Rattle.read_names.specs.declared.Piece.{Piece}
use Rattle.read_kiss_rows.specs.Drafts.{called_of}
use Rattle.read_kiss_rows.specs.declared.states.Called.{Called}

-- the names and the set
abbrev pub calls : Names → ℕ → Option Called
calls ns m = Some (record { names = ns; set = m })

module _ (s : List ℕ) (ns : Names) (p : Piece) (star : ℕ) where
  pub called-star : is_star (piece_of s p) ≡ true → called_of s ns p star ≡ calls ns star
  unfolding called_of
  called-star e = rw e

  module _ {n : ℕ} (no : is_star (piece_of s p) ≡ false) (is : n ≡ number_of (names_in s ns) (piece_of s p)) where
    pub called-by : {a b : Bool} → leb most_states n ≡ a → ltb n ns.count ≡ b
        → called_of s ns p star ≡ cond a None (cond b (calls ns (only n)) (calls (with_name ns p) (only n)))
    unfolding called_of
    called-by e f = rw (no, ← is, e, f)
