-- A row more, as the code has it, is what the rules do with a row; and there is room for the next.
use Rattle.std.specs.Prelude.{Option, Some, None}
use mathlib.Core.Path.{◌≡◌, refl, sym, ap, ap₂, ◌∙◌, subst}
use mathlib.Core.Bool.{Bool, true, false, cond}
use mathlib.Core.List.{List}
use Prim.Native.Nat.{ℕ, ◌+◌, ◌≤◌, ◌<◌}
use native.Mathlib.Omega.{arith}
use lib.ListN.{length, take, get_or, set, length-set, length-take}
use lib.Dec.{leb, ltb}
use borrow.Author.Tests.{lt-ltb, le-ltb, le-leb, lt-leb, leb-true, leb-false, ltb-true, ltb-false}
use Rattle.rules.specs.Limits.{most_states, most_rows}
use Rattle.rules.specs.Listing.{no_row}
use Rattle.rules.specs.Kiss.{KissStep, goes, stops, with_line, named, present_of, next_of, same_row, place_of, joined, row_joins, row_does}
use Rattle.rules.specs.declared.KissHeads.{KissHeads}
use Rattle.rules.specs.declared.Pattern.{Pattern}
use Rattle.rules.specs.declared.Row.{Row}
use Rattle.rules.specs.declared.Refusal.TheVariants.{Limit}
use Rattle.rules.proofs.FirstPlace.{place-most}
use Rattle.read_names.specs.Names.{piece_of, names_in}
use Rattle.read_names.specs.declared.Names.{Names}
use Rattle.read_kiss_lines.specs.declared.row.KissRow.{KissRow}
use Rattle.read_kiss_rows.specs.Drafts.{drafts, draft_in, more_in, states_of, join_of, more_by, more_of}
use Rattle.read_kiss_rows.specs.declared.Draft.{Draft}
use Rattle.read_kiss_rows.specs.declared.states.RowStates.{RowStates}
use Rattle.read_kiss_rows.proofs.Joined.{place-first, join_by}
use Rattle.read_kiss_rows.proofs.NamesMeant.{NamesRoom, names-count, StatesAre, StatesMean, states-mean}

-- a draft within its arrays
pub record Room (d : Draft) : Type 0 where
  pub names : NamesRoom d.names
  pub few : d.rows ≤ most_rows
  pub table : length d.table ≡ most_rows

abbrev pub RoomIn : Option Draft → Type 0
RoomIn (Some d) = Room d
RoomIn None = Unit {0}

-- one row more means what the step does, and leaves room
pub record MoreMeans (s : List ℕ) (step : KissStep) (m : Option Draft) : Type 0 where
  pub does : more_in s m ≡ step
  pub room : RoomIn m

-- ---- the rows

place-within : (r : Row) (rows : ℕ) (table : List Row) → rows ≤ length table → place_of r (take rows table) ≤ rows
place-within r rows table h = omega (arith, place-most (same_row r) (take rows table), place-first r (take rows table), length-take rows table)

joins-by : (r : Row) (h : KissHeads) (ns : List (List ℕ)) (rows : ℕ) (table : List Row) {a b : Bool} → ltb (place_of r (take rows table)) rows ≡ a → ltb rows most_rows ≡ b
    → row_joins r h ns rows table
    ≡ cond a
    (goes (record { heads = h; names = ns; rows = rows; table = set table (place_of r (take rows table)) (joined (get_or table (place_of r (take rows table)) no_row) r) }))
    (cond b (goes (record { heads = h; names = ns; rows = rows + 1; table = set table rows r })) (stops Limit))
unfolding row_joins
joins-by r h ns rows table e f = rw (e, f)

module _ (s : List ℕ) (h : KissHeads) (ns : Names) (rows : ℕ) (table : List Row) (r : Row) (nr : NamesRoom ns) (few : rows ≤ most_rows) (all : length table ≡ most_rows) where
  abbrev Joins : Option Draft → Type 0
  Joins m = MoreMeans s (row_joins r h (names_in s ns) rows table) m

  join-full : most_rows ≤ place_of r (take rows table) → Joins None
  unfolding more_in
  join-full g =
      let w : place_of r (take rows table) ≤ rows = place-within r rows table (omega arith) in
      record {
        does = sym (joins-by r h (names_in s ns) rows table (le-ltb (place_of r (take rows table)) rows (omega arith)) (le-ltb rows most_rows (omega arith)));
        room = tt;
      }

  join-old : place_of r (take rows table) < rows
      → Joins (Some (drafts h ns rows (set table (place_of r (take rows table)) (joined (get_or table (place_of r (take rows table)) no_row) r))))
  unfolding more_in draft_in
  join-old g = record {
    does = sym (joins-by r h (names_in s ns) rows table (lt-ltb _ _ g) refl);
    room = record { names = nr; few = few; table = length-set table _ _ ∙ all };
  }

  join-new : rows ≤ place_of r (take rows table) → place_of r (take rows table) < most_rows
      → Joins (Some (drafts h ns (place_of r (take rows table) + 1) (set table (place_of r (take rows table)) r)))
  unfolding more_in draft_in
  join-new g l =
      let w : place_of r (take rows table) ≤ rows = place-within r rows table (omega arith) in
      let e : place_of r (take rows table) ≡ rows = omega arith in
      record {
        does = ap (λ (p : ℕ). goes (record { heads = h; names = names_in s ns; rows = p + 1; table = set table p r })) e
            ∙ sym (joins-by r h (names_in s ns) rows table (le-ltb _ _ g) (lt-ltb rows most_rows (omega arith)));
        room = record { names = nr; few = omega arith; table = length-set table _ r ∙ all };
      }

  pub join-means : Joins (join_of h ns rows table r)
  join-means = by (leb most_rows (place_of r (take rows table))) (ltb (place_of r (take rows table)) rows) refl refl
    where
      by : (a b : Bool) → leb most_rows (place_of r (take rows table)) ≡ a → ltb (place_of r (take rows table)) rows ≡ b → Joins (join_of h ns rows table r)
      by true b e f = subst Joins (sym (join_by h ns rows table r refl e f)) (join-full (leb-true _ _ e))
      by false true e f = subst Joins (sym (join_by h ns rows table r refl e f)) (join-old (ltb-true _ _ f))
      by false false e f = subst Joins (sym (join_by h ns rows table r refl e f)) (join-new (ltb-false _ _ f) (leb-false _ _ e))

-- ---- the whole row

does-by : (k : ℕ) (s : List ℕ) (d : Draft) (i o : Pattern) (f g : List ℕ) {a : Bool} → leb (length (named (named (names_in s d.names) f) g)) most_states ≡ a
    → row_does k (draft_in s d) i f g o
    ≡ cond a
    (row_joins (record { input = i; group = present_of (names_in s d.names) f; next = next_of (named (names_in s d.names) f) g; outputs = o; line = k })
    (with_line d.heads) (named (named (names_in s d.names) f) g) d.rows d.table)
    (stops Limit)
unfolding row_does draft_in
does-by k s d i o f g e = rw e

module _ (s : List ℕ) (k : ℕ) (row : KissRow) (d : Draft) (r : Room d) where
  abbrev Does : Option Draft → Type 0
  Does m = MoreMeans s (row_does k (draft_in s d) row.input (piece_of s row.states.present) (piece_of s row.states.next) row.outputs) m

  full-does : StatesMean s d.names row.states r.names None → Does None
  unfolding more_in
  full-does m = record { does = sym (does-by k s d row.input row.outputs (piece_of s row.states.present) (piece_of s row.states.next) (lt-leb _ _ m)); room = tt }

  row-does : (q : RowStates) → StatesAre s d.names row.states r.names q
      → Does (join_of (with_line d.heads) q.names d.rows d.table (record { input = row.input; group = q.group; next = q.next; outputs = row.outputs; line = k }))
  row-does q m =
      let f : List ℕ = piece_of s row.states.present in
      let g : List ℕ = piece_of s row.states.next in
      let ns : List (List ℕ) = named (named (names_in s d.names) f) g in
      let new : Row = record { input = row.input; group = q.group; next = q.next; outputs = row.outputs; line = k } in
      let j : MoreMeans s (row_joins new (with_line d.heads) (names_in s q.names) d.rows d.table) (join_of (with_line d.heads) q.names d.rows d.table new)
      = join-means s (with_line d.heads) q.names d.rows d.table new m.room r.few r.table
      in
      let few : length ns ≤ most_states = omega (arith, ap length m.names, names-count s q.names m.room, m.room.few) in
      record {
        does = j.does
            ∙ ap (λ (l : List (List ℕ)). row_joins new (with_line d.heads) l d.rows d.table) m.names
            ∙ ap₂ (λ (a b : ℕ). row_joins (record { input = row.input; group = a; next = b; outputs = row.outputs; line = k }) (with_line d.heads) ns d.rows d.table) m.group m.next
            ∙ sym (does-by k s d row.input row.outputs f g (le-leb _ _ few));
        room = j.room;
      }

  pub more-means : Does (more_of s k row (with_line d.heads) d)
  unfolding more_of more_by
  more-means = by (states_of s d.names row.states) (states-mean s d.names row.states r.names)
    where
      by : (x : Option RowStates) → StatesMean s d.names row.states r.names x → Does (more_by x k row (with_line d.heads) d)
      by (Some q) m = row-does q m
      by None m = full-does m
