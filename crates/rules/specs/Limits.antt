-- The limits that 01 sets, with the states and the width of 02, request 09, each under one name.
use Rattle.std.specs.Prelude.{ℕ}

abbrev pub most_states : ℕ
most_states = 64

abbrev pub most_inputs : ℕ
most_inputs = 16

abbrev pub most_outputs : ℕ
most_outputs = 32

-- the widest code
abbrev pub most_bits : ℕ
most_bits = 64

abbrev pub most_rows : ℕ
most_rows = 128

-- the rows of a cover: those of a listing, and one for each state of a Moore machine
abbrev pub most_lines : ℕ
most_lines = 192

abbrev pub most_dichotomies : ℕ
most_dichotomies = 64

-- the columns of a flow table (02, request 05)
abbrev pub most_columns : ℕ
most_columns = 16

-- pairs, groups and dichotomies together: 2,016 + 7,936 + 64
abbrev pub most_asked : ℕ
most_asked = 10016

abbrev pub most_bytes : ℕ
most_bytes = 65536

-- the requirements of a trial record
abbrev pub most_trial : ℕ
most_trial = 256

-- a small machine, of which the least code is found (02, request 11): its states, its requirements, and the bits of the code
abbrev pub most_small : ℕ
most_small = 6

abbrev pub most_small_asked : ℕ
most_small_asked = 32

abbrev pub most_small_bits : ℕ
most_small_bits = 5

-- the bytes of a state's name (02, request 01)
abbrev pub most_name : ℕ
most_name = 31

-- the steps of a run that is replayed (02, request 08)
abbrev pub most_steps : ℕ
most_steps = 10000

-- the rows of a cover that is checked (02, request 10)
abbrev pub most_checked : ℕ
most_checked = 256
