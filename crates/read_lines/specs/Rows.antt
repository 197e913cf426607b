-- A row by what stands behind its mark, and by its fields.
use Rattle.rules.specs.declared.Row.{Row}
use Rattle.rules.specs.declared.Refusal.{Refusal}
use Rattle.std.specs.Prelude.{Bool, true, false, ◌&&◌, cond, List, [], ◌∷◌, ℕ, length, get_or, eqb, Result, Err}
use Rattle.rules.specs.Text.{one, dash, space, split, set_of}
use Rattle.rules.specs.Lines.{row_fits, outputs_fit, row_of, row_checked}
use Rattle.rules.specs.declared.Head.{Head}
use Rattle.rules.specs.declared.Pattern.{Pattern}
use Rattle.rules.specs.declared.Refusal.TheVariants.{BadLine}

-- three fields, in order or refused, and outputs that are read already
unfoldable pub row_read : Head → ℕ → ℕ → List ℕ → List ℕ → List ℕ → Pattern → Result Row Refusal
unfolding row_fits row_checked set_of
row_read h count line input group next outputs =
    cond (row_fits h input group next)
    (row_checked count (record { input = record { ones = set_of one input; dashes = set_of dash input }; group = set_of one group; next = set_of one next; outputs = outputs; line = line }))
    (Err BadLine)

-- as many pieces as the row has fields, and these in order: three in a Moore machine, and four in another
unfoldable pub pieces_fit : Bool → Head → List (List ℕ) → Bool
unfolding row_fits outputs_fit
pieces_fit true h ps = eqb (length ps) 3 && row_fits h (get_or ps 0 []) (get_or ps 1 []) (get_or ps 2 [])
pieces_fit false h ps = eqb (length ps) 4 && (row_fits h (get_or ps 0 []) (get_or ps 1 []) (get_or ps 2 []) && outputs_fit h (get_or ps 3 []))

-- the outputs: none in a Moore machine
unfoldable pub outputs_in : Bool → List (List ℕ) → List ℕ
outputs_in true ps = []
outputs_in false ps = get_or ps 3 []

unfoldable pub row_pieces : Bool → Head → ℕ → ℕ → List (List ℕ) → Result Row Refusal
unfolding pieces_fit outputs_in row_checked set_of
row_pieces moore h count line ps =
    cond (pieces_fit moore h ps) (row_checked count (row_of line (get_or ps 0 []) (get_or ps 1 []) (get_or ps 2 []) (outputs_in moore ps))) (Err BadLine)

-- what stands behind the mark and its space
unfoldable pub row_rest : Head → ℕ → ℕ → List ℕ → Result Row Refusal
unfolding split row_pieces
row_rest h count line t = row_pieces h.moore h count line (split space t)

-- what stands behind the group and its space, where the row has outputs
unfoldable pub row_end : Head → ℕ → ℕ → List ℕ → List ℕ → List ℕ → Result Row Refusal
unfolding split row_pieces
row_end h count line input group v = row_pieces false h count line (input ∷ (group ∷ split space v))
