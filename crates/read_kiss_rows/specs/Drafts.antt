-- What the functions of this crate answer: the draft of `rules` with its names as places in the text, and one row more.
use Rattle.std.specs.Prelude.{cond, List, ℕ, ◌+◌, take, get_or, set, leb, ltb, Option, Some, None}
use Rattle.sets.specs.Sets.{only, everyone}
use Rattle.rules.specs.Limits.{most_states, most_rows}
use Rattle.rules.specs.Listing.{no_row}
use Rattle.rules.specs.KissLines.{is_star}
use Rattle.rules.specs.Kiss.{Draft as Said, KissStep, goes, stops, number_of, place_of, joined}
use Rattle.rules.specs.declared.KissHeads.{KissHeads}
use Rattle.rules.specs.declared.Row.{Row}
use Rattle.rules.specs.declared.Refusal.TheVariants.{Limit}
use Rattle.read_names.specs.Names.{piece_of, names_in, with_name}
use Rattle.read_names.specs.declared.Names.{Names}
use Rattle.read_names.specs.declared.Piece.{Piece}
use Rattle.read_kiss_lines.specs.declared.row.StatePieces.{StatePieces}
use Rattle.read_kiss_lines.specs.declared.row.KissRow.{KissRow}
use Rattle.read_kiss_rows.specs.declared.Draft.{Draft}
use Rattle.read_kiss_rows.specs.declared.states.Called.{Called}
use Rattle.read_kiss_rows.specs.declared.states.RowStates.{RowStates}

-- ---- what is meant

-- a draft whose names stand in the text s
unfoldable pub draft_in : List ℕ → Draft → Said
unfolding names_in
draft_in s d = record { heads = d.heads; names = names_in s d.names; rows = d.rows; table = d.table }

-- one row more, or 2
unfoldable pub more_in : List ℕ → Option Draft → KissStep
unfolding draft_in
more_in s (Some d) = goes (draft_in s d)
more_in s None = stops Limit

-- ---- states

abbrev numbered : ℕ → Names → Piece → Option Called
unfolding with_name
numbered n ns p = cond (leb most_states n) None (cond (ltb n ns.count) (Some (record { names = ns; set = only n })) (Some (record { names = with_name ns p; set = only n })))

unfoldable pub called_of : List ℕ → Names → Piece → ℕ → Option Called
unfolding is_star piece_of names_in number_of with_name
called_of s ns p star = cond (is_star (piece_of s p)) (Some (record { names = ns; set = star })) (numbered (number_of (names_in s ns) (piece_of s p)) ns p)

-- both states of a row, of which the present one has named its own
abbrev pub both : Called → Option Called → Option RowStates
both present (Some q) = Some (record { names = q.names; group = present.set; next = q.set })
both present None = None

-- the next state, behind the present one
unfoldable pub states_by : List ℕ → Option Called → Piece → Option RowStates
unfolding called_of
states_by s (Some present) next = both present (called_of s present.names next 0)
states_by s None next = None

unfoldable pub states_of : List ℕ → Names → StatePieces → Option RowStates
unfolding called_of states_by
states_of s ns ps = states_by s (called_of s ns ps.present (everyone most_states)) ps.next

-- ---- rows

abbrev pub drafts : KissHeads → Names → ℕ → List Row → Draft
drafts h ns rows table = record { heads = h; names = ns; rows = rows; table = table }

-- by the place of the row that r joins, or behind the last
unfoldable pub join_at : ℕ → KissHeads → Names → ℕ → List Row → Row → Option Draft
join_at place h ns rows table r =
    cond (leb most_rows place) None
    (cond (ltb place rows) (Some (drafts h ns rows (set table place (joined (get_or table place no_row) r)))) (Some (drafts h ns (place + 1) (set table place r))))

unfoldable pub join_of : KissHeads → Names → ℕ → List Row → Row → Option Draft
unfolding join_at place_of
join_of h ns rows table r = join_at (place_of r (take rows table)) h ns rows table r

unfoldable pub more_by : Option RowStates → ℕ → KissRow → KissHeads → Draft → Option Draft
unfolding join_of
more_by (Some q) k row h d = join_of h q.names d.rows d.table (record { input = row.input; group = q.group; next = q.next; outputs = row.outputs; line = k })
more_by None k row h d = None

unfoldable pub more_of : List ℕ → ℕ → KissRow → KissHeads → Draft → Option Draft
unfolding states_of more_by
more_of s k row h d = more_by (states_of s d.names row.states) k row h d
