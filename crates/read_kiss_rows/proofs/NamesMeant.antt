-- The names that stand in the text, with those of a row, are those that the rules number.
use Rattle.std.specs.Prelude.{Option, Some, None}
use mathlib.Core.Path.{◌≡◌, refl, sym, ap, ◌∙◌, subst}
use mathlib.Core.Bool.{Bool, true, false, cond}
use mathlib.Core.List.{List, [], ◌∷◌, ◌++◌}
use Prim.Native.Nat.{ℕ, ◌≤◌, ◌<◌}
use native.Mathlib.Omega.{arith}
use lib.ListN.{length, length-append, length-set, length-replicate}
use lib.Dec.{leb, ltb}
use borrow.Author.Tests.{lt-ltb, le-ltb, leb-true, leb-false, ltb-true, ltb-false}
use Rattle.sets.specs.Sets.{only, everyone}
use Rattle.rules.specs.Limits.{most_states}
use Rattle.rules.specs.KissLines.{is_star}
use Rattle.rules.specs.Kiss.{number_of, named, present_of, next_of}
use Rattle.rules.proofs.KissSound.{number-most, named-grows}
use Rattle.read_names.specs.Names.{piece_of, names_in, no_names, with_name}
use Rattle.read_names.specs.declared.Names.{Names}
use Rattle.read_names.specs.declared.Piece.{Piece}
use Rattle.read_names.proofs.Found.{nowhere, names-length, names_more}
use Rattle.read_kiss_lines.specs.declared.row.StatePieces.{StatePieces}
use Rattle.read_kiss_rows.specs.Drafts.{called_of, both, states_by, states_of}
use Rattle.read_kiss_rows.specs.declared.states.Called.{Called}
use Rattle.read_kiss_rows.specs.declared.states.RowStates.{RowStates}
use Rattle.read_kiss_rows.proofs.Called.{calls, called-star, called-by}

-- ---- names as an array has them

pub record NamesRoom (ns : Names) : Type 0 where
  pub few : ns.count ≤ most_states
  pub places : length ns.places ≡ most_states

pub no-names-room : NamesRoom no_names
unfolding no_names
no-names-room = record { few = omega arith; places = length-replicate most_states nowhere }

pub names-count : (s : List ℕ) (ns : Names) → NamesRoom ns → length (names_in s ns) ≡ ns.count
names-count s ns r = names-length s ns ∙ omega (arith, r.few, r.places)

pub more_room : (ns : Names) (p : Piece) → NamesRoom ns → ns.count < most_states → NamesRoom (with_name ns p)
unfolding with_name
more_room ns p r h = rw (lt-ltb _ _ h) (record { few = omega arith; places = length-set ns.places ns.count p ∙ r.places })

-- ---- the names of the rules

module _ (l : List (List ℕ)) (f : List ℕ) where
  named-star : is_star f ≡ true → named l f ≡ l
  unfolding named
  named-star e = rw e

  named_by : {b : Bool} → is_star f ≡ false → ltb (number_of l f) (length l) ≡ b → named l f ≡ cond b l (l ++ (f ∷ []))
  unfolding named
  named_by e h = rw (e, h)

-- ---- one state

module _ (s : List ℕ) (ns : Names) (p : Piece) (star : ℕ) (r : NamesRoom ns) where
  -- the names with it, and its set
  pub record CalledIs (q : Called) : Type 0 where
    pub names : names_in s q.names ≡ named (names_in s ns) (piece_of s p)
    pub room : NamesRoom q.names
    pub set : q.set ≡ cond (is_star (piece_of s p)) star (only (number_of (names_in s ns) (piece_of s p)))

  -- that, or a 65th name
  abbrev pub CalledMeans : Option Called → Type 0
  CalledMeans (Some q) = CalledIs q
  CalledMeans None = most_states < length (named (names_in s ns) (piece_of s p))

  by-star : is_star (piece_of s p) ≡ true → CalledMeans (calls ns star)
  by-star e = record { names = sym (named-star (names_in s ns) (piece_of s p) e); room = r; set = rw e }

  module _ (other : is_star (piece_of s p) ≡ false) where
    by-full : most_states ≤ number_of (names_in s ns) (piece_of s p) → CalledMeans None
    by-full h =
        let l : List (List ℕ) = names_in s ns in
        let f : List ℕ = piece_of s p in
        let c : length l ≤ number_of l f = omega (arith, names-count s ns r, r.few) in
        let e : named l f ≡ l ++ (f ∷ []) = named_by l f other (le-ltb _ _ c) in
        omega (arith, ap length e, length-append l (f ∷ []), number-most l f)

    by-known : number_of (names_in s ns) (piece_of s p) < ns.count → CalledMeans (calls ns (only (number_of (names_in s ns) (piece_of s p))))
    by-known h =
        let l : List (List ℕ) = names_in s ns in
        let f : List ℕ = piece_of s p in
        let c : number_of l f < length l = omega (arith, names-count s ns r) in
        record { names = sym (named_by l f other (lt-ltb _ _ c)); room = r; set = rw other }

    by-new : number_of (names_in s ns) (piece_of s p) < most_states → ns.count ≤ number_of (names_in s ns) (piece_of s p)
        → CalledMeans (calls (with_name ns p) (only (number_of (names_in s ns) (piece_of s p))))
    by-new h g =
        let l : List (List ℕ) = names_in s ns in
        let f : List ℕ = piece_of s p in
        let c : length l ≤ number_of l f = omega (arith, names-count s ns r) in
        let k : ns.count < most_states = omega arith in
        record { names = names_more s ns p r.places k ∙ sym (named_by l f other (le-ltb _ _ c)); room = more_room ns p r k; set = rw other }

  pub called-means : CalledMeans (called_of s ns p star)
  called-means = by (is_star (piece_of s p)) refl
    where
      numbered : is_star (piece_of s p) ≡ false → (a b : Bool) → leb most_states (number_of (names_in s ns) (piece_of s p)) ≡ a → ltb (number_of (names_in s ns) (piece_of s p)) ns.count ≡ b
          → CalledMeans (called_of s ns p star)
      numbered other true b e f = subst CalledMeans (sym (called-by s ns p star other refl e f)) (by-full other (leb-true _ _ e))
      numbered other false true e f = subst CalledMeans (sym (called-by s ns p star other refl e f)) (by-known other (ltb-true _ _ f))
      numbered other false false e f = subst CalledMeans (sym (called-by s ns p star other refl e f)) (by-new other (leb-false _ _ e) (ltb-false _ _ f))

      by : (t : Bool) → is_star (piece_of s p) ≡ t → CalledMeans (called_of s ns p star)
      by true e = subst CalledMeans (sym (called-star s ns p star e)) (by-star e)
      by false e = numbered e (leb most_states (number_of (names_in s ns) (piece_of s p))) (ltb (number_of (names_in s ns) (piece_of s p)) ns.count) refl refl

-- ---- the two states of a row

pub present-is : (l : List (List ℕ)) (f : List ℕ) → cond (is_star f) (everyone most_states) (only (number_of l f)) ≡ present_of l f
unfolding present_of
present-is l f = refl

pub next-is : (l : List (List ℕ)) (f : List ℕ) → cond (is_star f) 0 (only (number_of l f)) ≡ next_of l f
unfolding next_of
next-is l f = refl

module _ (s : List ℕ) (ns : Names) (ps : StatePieces) (r : NamesRoom ns) where
  pub record StatesAre (q : RowStates) : Type 0 where
    pub names : names_in s q.names ≡ named (named (names_in s ns) (piece_of s ps.present)) (piece_of s ps.next)
    pub room : NamesRoom q.names
    pub group : q.group ≡ present_of (names_in s ns) (piece_of s ps.present)
    pub next : q.next ≡ next_of (named (names_in s ns) (piece_of s ps.present)) (piece_of s ps.next)

  abbrev pub StatesMean : Option RowStates → Type 0
  StatesMean (Some q) = StatesAre q
  StatesMean None = most_states < length (named (named (names_in s ns) (piece_of s ps.present)) (piece_of s ps.next))

  pub states-mean : StatesMean (states_of s ns ps)
  unfolding states_of states_by
  states-mean = by (called_of s ns ps.present (everyone most_states)) (called-means s ns ps.present (everyone most_states) r)
    where
      behind : (q : Called) (m : CalledIs s ns ps.present (everyone most_states) r q) (y : Option Called) → CalledMeans s q.names ps.next 0 m.room y → StatesMean (both q y)
      behind q m (Some t) k =
          let i : names_in s q.names ≡ named (names_in s ns) (piece_of s ps.present) = m.names in
          record {
            names = k.names ∙ ap (λ (l : List (List ℕ)). named l (piece_of s ps.next)) i;
            room = k.room;
            group = m.set ∙ present-is (names_in s ns) (piece_of s ps.present);
            next = k.set ∙ next-is (names_in s q.names) (piece_of s ps.next) ∙ ap (λ (l : List (List ℕ)). next_of l (piece_of s ps.next)) i;
          }
      behind q m None k = subst (λ (l : List (List ℕ)). most_states < length (named l (piece_of s ps.next))) m.names k

      by : (x : Option Called) → CalledMeans s ns ps.present (everyone most_states) r x → StatesMean (states_by s x ps.next)
      by (Some q) m = behind q m (called_of s q.names ps.next 0) (called-means s q.names ps.next 0 m.room)
      by None m = omega (arith, m, named-grows (named (names_in s ns) (piece_of s ps.present)) (piece_of s ps.next))
