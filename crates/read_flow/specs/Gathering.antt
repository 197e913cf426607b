-- How dichotomies are gathered: the first 64 in the places of a table, and how many there were, 65 for any more; and how the sets of a column are.
use Rattle.std.specs.Prelude.{◌&&◌, cond, List, [], ◌∷◌, ℕ, ◌+◌, leb, eqb, set, replicate}
use Rattle.std.specs.Int.Bits.{bit_or}
use Rattle.sets.specs.Sets.{has, only}
use Rattle.rules.specs.Limits.{most_states, most_dichotomies}
use Rattle.rules.specs.Text.{set_of}
use Rattle.rules.specs.FlowTable.{is_state}
use Rattle.rules.specs.Listing.{no_requirement}
use Rattle.rules.specs.declared.Requirement.{Requirement}
use Rattle.read_flow.specs.declared.asks.Gathered.{Gathered}
use Rattle.read_flow.specs.declared.asks.Sets.{Sets}

abbrev pub nothing : Gathered
nothing = record { count = 0; asked = replicate most_dichotomies no_requirement }

abbrev pub between : ℕ → ℕ → Requirement
between a b = record { first = a; second = b }

unfoldable pub with_asked : Requirement → Gathered → Gathered
with_asked d g = cond (leb most_dichotomies g.count) (record { count = 65; asked = g.asked }) (record { count = g.count + 1; asked = set g.asked g.count d })

unfoldable pub with_all : List Requirement → Gathered → Gathered
unfolding with_asked
with_all [] g = g
with_all (d ∷ ds) g = with_all ds (with_asked d g)

-- ---- the sets of a column

abbrev pub no_sets : Sets
no_sets = record { count = 0; sets = replicate most_states 0; met = 0 }

-- behind those met, the set of d, if it is a state that was not met
unfoldable pub with_entry : List ℕ → ℕ → Sets → Sets
with_entry column d g =
    cond (is_state d && eqb (has g.met d) 0)
    (record { count = g.count + 1; sets = set g.sets g.count (set_of d column); met = bit_or g.met (only d) })
    g
