-- The names of a text, and the place of one among them.
use mathlib.Core.Path.{◌≡◌, refl, ap, ◌∙◌}
use mathlib.Core.List.{List, [], ◌∷◌, ◌++◌, map, map-append}
use Prim.Native.Nat.{ℕ, min, ◌+◌, ◌<◌}
use native.Mathlib.Omega.{arith}
use native.Mathlib.Numerals.{add-one}
use lib.ListN.{length, get_or, take, set, length-take, length-map}
use borrow.Author.Tests.{lt-ltb}
use lib.Seq.{get_or-take, take-suc-set}
use Rattle.sets.proofs.Places.{map_at}
use Rattle.rules.specs.Limits.{most_states}
use Rattle.rules.specs.Text.{same}
use Rattle.rules.specs.KissLines.{first_place}
use Rattle.rules.specs.Kiss.{number_of}
use Rattle.read_names.specs.Names.{piece_of, names_in, with_name}
use Rattle.read_names.specs.declared.Piece.{Piece}
use Rattle.read_names.specs.declared.Names.{Names}

abbrev pub nowhere : Piece
nowhere = record { start = 0; end = 0 }

module _ (s : List ℕ) (ns : Names) where
  pub names-length : length (names_in s ns) ≡ min ns.count (length ns.places)
  unfolding names_in
  names-length = length-map (take ns.count ns.places) (piece_of s) ∙ length-take ns.count ns.places

  pub name-at : (i : ℕ) → i < ns.count → i < length ns.places → get_or (names_in s ns) i [] ≡ piece_of s (get_or ns.places i nowhere)
  unfolding names_in
  name-at i h g =
      map_at (piece_of s) (take ns.count ns.places) i nowhere [] (omega (arith, length-take ns.count ns.places))
      ∙ ap (piece_of s) (get_or-take ns.count ns.places i nowhere h)

-- one name more
pub names_more : (s : List ℕ) (ns : Names) (p : Piece) → length ns.places ≡ most_states → ns.count < most_states
    → names_in s (with_name ns p) ≡ names_in s ns ++ (piece_of s p ∷ [])
unfolding names_in with_name
names_more s ns p l h =
    let e : take (ns.count + 1) (set ns.places ns.count p) ≡ take ns.count ns.places ++ (p ∷ []) = rw add-one (take-suc-set ns.places ns.count p (omega arith)) in
    rw (lt-ltb _ _ h) (ap (map (piece_of s)) e ∙ map-append (piece_of s) (take ns.count ns.places) (p ∷ []))

-- the number of a name is its first place
pub number-first : (ns : List (List ℕ)) (f : List ℕ) → first_place (λ n. same n f) ns ≡ number_of ns f
unfolding number_of
number-first ns f = refl
