-- 01, "The listing": what each line says, or its refusal. Within a line the order is 1, 2, 4, 5; its place, 3, is the listing's to judge.
use Rattle.rules.specs.declared.StateOutputs.{StateOutputs}
use Rattle.rules.specs.declared.Requirement.{Requirement}
use Rattle.rules.specs.declared.Refusal.{Refusal}
use Rattle.std.specs.Prelude.{Bool, ◌&&◌, cond, List, [], ℕ, length, leb, ltb, eqb, Result, Option, Ok, Err, Some, None}
use Rattle.sets.specs.Sets.{size}
use Rattle.rules.specs.Limits.{most_states, most_inputs, most_outputs, most_bits, most_rows, most_dichotomies}
use Rattle.rules.specs.Text.{nought, one, dash, plus, dot, split, fields_of, field_at, sized, set_of, numeral_of}
use Rattle.rules.specs.declared.Head.{Head}
use Rattle.rules.specs.declared.Row.{Row}
use Rattle.rules.specs.declared.Refusal.TheVariants.{BadLine, Limit, EmptyGroup, NextState}

-- ---- `MC n i o w`, or `MC n i o w k` (02, request 07); the same behind `MO` (02, request 13), which m says

-- states 1..64, inputs 1..16, outputs 1..32, width 0..64; 0, or 1 that keeps every row in the cover
unfoldable pub head_numbers : Bool → ℕ → ℕ → ℕ → ℕ → ℕ → Result Head Refusal
head_numbers m n i o w k =
    cond (leb 1 n && leb n most_states && (leb 1 i && leb i most_inputs) && (leb 1 o && leb o most_outputs) && leb w most_bits && leb k 1)
    (Ok (record { states = n; inputs = i; outputs = o; width = w; keeps = eqb k 1; moore = m }))
    (Err Limit)

unfoldable pub head_numerals : Bool → Option ℕ → Option ℕ → Option ℕ → Option ℕ → Option ℕ → Result Head Refusal
unfolding head_numbers
head_numerals m (Some n) (Some i) (Some o) (Some w) (Some k) = head_numbers m n i o w k
head_numerals m (Some n) (Some i) (Some o) (Some w) None = Err BadLine
head_numerals m (Some n) (Some i) (Some o) None k = Err BadLine
head_numerals m (Some n) (Some i) None w k = Err BadLine
head_numerals m (Some n) None o w k = Err BadLine
head_numerals m None i o w k = Err BadLine

-- the fifth number, 0 where there are four
unfoldable pub fifth_of : List ℕ → Option ℕ
unfolding split numeral_of
fifth_of l = cond (eqb (length (fields_of l)) 5) (Some 0) (numeral_of (field_at l 5))

-- four numbers behind the mark, or five
unfoldable pub head_line : Bool → List ℕ → Result Head Refusal
unfolding split head_numerals numeral_of fifth_of
head_line m l =
    cond (leb 5 (length (fields_of l)) && leb (length (fields_of l)) 6)
    (head_numerals m (numeral_of (field_at l 1)) (numeral_of (field_at l 2)) (numeral_of (field_at l 3)) (numeral_of (field_at l 4)) (fifth_of l))
    (Err BadLine)

-- ---- `PT input group next outputs`, and under `MO` `PT input group next` (02, request 13)

-- input: i of `0 1 -`; group: n of `0 1`; next: n of `0 1`
unfoldable pub row_fits : Head → List ℕ → List ℕ → List ℕ → Bool
unfolding sized
row_fits h input group next =
    sized most_inputs h.inputs nought one dash input && sized most_states h.states nought one one group && sized most_states h.states nought one one next

-- outputs: o of `0 1 -`
unfoldable pub outputs_fit : Head → List ℕ → Bool
unfolding sized
outputs_fit h outputs = sized most_outputs h.outputs nought one dash outputs

abbrev pub row_of : ℕ → List ℕ → List ℕ → List ℕ → List ℕ → Row
row_of line input group next outputs = record {
  input = record { ones = set_of one input; dashes = set_of dash input };
  group = set_of one group;
  next = set_of one next;
  outputs = record { ones = set_of one outputs; dashes = set_of dash outputs };
  line = line;
}

-- a row whose characters are in order, behind `count` others: 2 for the 129th, 4 for a group without 1, 5 for two or more in next
unfoldable pub row_checked : ℕ → Row → Result Row Refusal
unfolding size
row_checked count row =
    cond (leb most_rows count) (Err Limit)
    (cond (eqb row.group 0) (Err EmptyGroup)
    (cond (leb 2 (size row.next)) (Err NextState)
    (Ok row)))

-- line number `line`, behind `count` rows
unfoldable pub mealy_line : Head → ℕ → ℕ → List ℕ → Result Row Refusal
unfolding split set_of row_fits outputs_fit row_checked
mealy_line h count line l =
    cond (eqb (length (fields_of l)) 5 && (row_fits h (field_at l 1) (field_at l 2) (field_at l 3) && outputs_fit h (field_at l 4)))
    (row_checked count (row_of line (field_at l 1) (field_at l 2) (field_at l 3) (field_at l 4)))
    (Err BadLine)

-- the row of a Moore machine has no outputs, and so says 0 of each
unfoldable pub moore_line : Head → ℕ → ℕ → List ℕ → Result Row Refusal
unfolding split set_of row_fits row_checked
moore_line h count line l =
    cond (eqb (length (fields_of l)) 4 && row_fits h (field_at l 1) (field_at l 2) (field_at l 3))
    (row_checked count (row_of line (field_at l 1) (field_at l 2) (field_at l 3) []))
    (Err BadLine)

unfoldable pub row_line : Head → ℕ → ℕ → List ℕ → Result Row Refusal
unfolding moore_line mealy_line
row_line h count line l = cond h.moore (moore_line h count line l) (mealy_line h count line l)

-- ---- `DI` and n of `+ - .`: `+` is the first block, `-` the second, `.` neither

-- behind `count` others: 2 for the 65th
unfoldable pub dichotomy_line : Head → ℕ → List ℕ → Result Requirement Refusal
unfolding split sized set_of
dichotomy_line h count l =
    cond (eqb (length (fields_of l)) 2 && sized most_states h.states plus dash dot (field_at l 1))
    (cond (leb most_dichotomies count) (Err Limit)
    (Ok (record { first = set_of plus (field_at l 1); second = set_of dash (field_at l 1) })))
    (Err BadLine)

-- ---- `OU state outputs` (02, request 13)

-- a state that is not below n is 2
unfoldable pub outputs_read : Head → ℕ → List ℕ → Result StateOutputs Refusal
unfolding set_of
outputs_read h s outputs =
    cond (ltb s h.states) (Ok (record { state = record { 0 = s }; outputs = record { ones = set_of one outputs; dashes = set_of dash outputs } })) (Err Limit)

unfoldable pub outputs_line : Head → List ℕ → Result StateOutputs Refusal
unfolding split numeral_of outputs_fit outputs_read
outputs_line h l =
    cond (eqb (length (fields_of l)) 3 && outputs_fit h (field_at l 2))
    (elim (numeral_of (field_at l 1)) [ Some s ↦ outputs_read h s (field_at l 2) | None ↦ Err BadLine ])
    (Err BadLine)

-- ---- `EN`: the mark alone

unfoldable pub end_line : List ℕ → Result Unit Refusal
unfolding split
end_line l = cond (eqb (length (fields_of l)) 1) (Ok tt) (Err BadLine)
