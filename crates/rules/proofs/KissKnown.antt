-- KISS2 texts whose answers are known: one table, computed once against the definitions.
use mathlib.Core.Path.{◌≡◌, refl}
use mathlib.Core.List.{List, [], ◌∷◌, map}
use Prim.Native.Nat.{ℕ}
use Prim.Native.String.{String}
use Rattle.rules.specs.Text.{bytes}
use Rattle.rules.specs.Refusals.{number}
use Rattle.rules.specs.Listing.{rows_of, Reading}
use Rattle.rules.specs.Kiss.{kiss_reading}
use Rattle.rules.specs.Answers.{printed}
use Rattle.rules.specs.KissAnswers.{kiss_names_reply}
use Rattle.rules.specs.declared.Row.{Row}
use Rattle.std.specs.Prelude.{Ok, Err}

-- a text, and what is read: a refusal's number and its line; or 0, states, inputs, outputs, and for each row its line, input, group, next state and outputs
pub record Case : Type 0 where
  pub text : String
  pub answer : List ℕ

abbrev case : String → List ℕ → Case
case text answer = record { text = text; answer = answer }

unfoldable pub numbers_of_rows : List Row → List ℕ
numbers_of_rows [] = []
numbers_of_rows (r ∷ rs) = r.line ∷ r.input.ones ∷ r.input.dashes ∷ r.group ∷ r.next ∷ r.outputs.ones ∷ r.outputs.dashes ∷ numbers_of_rows rs

unfoldable pub numbers_of : Reading → List ℕ
unfolding numbers_of_rows
numbers_of (Ok t) = 0 ∷ t.head.states ∷ t.head.inputs ∷ t.head.outputs ∷ numbers_of_rows (rows_of t)
numbers_of (Err why) = number why.refusal ∷ why.line ∷ []

unfoldable pub answer_of : Case → List ℕ
unfolding numbers_of kiss_reading
answer_of c = numbers_of (kiss_reading (bytes c.text))

abbrev pub cases : List Case
cases =
    -- the `.r` name is state 0; present before next, line by line; equal lines are joined where the first stood
    case ".i 1\n.o 2\n.s 3\n.p 3\n.r c\n0 a b 1-\n1 c a 00\n0 c b 1-\n.e\n" (0 ∷ 3 ∷ 1 ∷ 2 ∷ 6 ∷ 0 ∷ 0 ∷ 3 ∷ 4 ∷ 1 ∷ 2 ∷ 7 ∷ 1 ∷ 0 ∷ 1 ∷ 2 ∷ 0 ∷ 0 ∷ [])
    -- `*` takes in the states named later, and as next state names none
    ∷ case ".o 1\n.i 1\n- * a 0\n1 b * 1\n.e\n" (0 ∷ 2 ∷ 1 ∷ 1 ∷ 3 ∷ 0 ∷ 1 ∷ 3 ∷ 1 ∷ 0 ∷ 0 ∷ 4 ∷ 1 ∷ 0 ∷ 2 ∷ 0 ∷ 1 ∷ 0 ∷ [])
    -- an unused `.r` name is a state
    ∷ case ".r a\n.i 1\n.o 1\n.s 1\n.p 0\n.e\n" (0 ∷ 1 ∷ 1 ∷ 1 ∷ [])
    -- 3: nothing, no `.e`, a header repeated or after a row even if malformed, a row or `.e` before `.i` and `.o`, bytes after `.e`
    ∷ case "" (3 ∷ 1 ∷ [])
    ∷ case ".i 1\n.o 1\n0 a a 0\n" (3 ∷ 4 ∷ [])
    ∷ case ".i 1\n.i x\n" (3 ∷ 2 ∷ [])
    ∷ case ".i 1\n.o 1\n0 a a 0\n.r\n.e\n" (3 ∷ 4 ∷ [])
    ∷ case "0 a a 0\n" (3 ∷ 1 ∷ [])
    ∷ case ".o 1\n.e\n" (3 ∷ 2 ∷ [])
    ∷ case ".i 1\n.o 1\n0 a a 0\n.e\n\n" (3 ∷ 5 ∷ [])
    -- 1: an unknown mark, fields, characters, `.r *`, no LF
    ∷ case ".ilb a\n" (1 ∷ 1 ∷ [])
    ∷ case ".i 01\n" (1 ∷ 1 ∷ [])
    ∷ case ".r *\n" (1 ∷ 1 ∷ [])
    ∷ case ".i 1\n.o 1\n\n" (1 ∷ 3 ∷ [])
    ∷ case ".i 1\n.o 1\n0  a 0\n" (1 ∷ 3 ∷ [])
    ∷ case ".i 1\n.o 1\n0 a a 0\n.e" (1 ∷ 4 ∷ [])
    -- 12 after 1 and before 2; 31 bytes are taken
    ∷ case ".r abcdefghijklmnopqrstuvwxyzabcdef\n" (12 ∷ 1 ∷ [])
    ∷ case ".r abcdefghijklmnopqrstuvwxyzabcde\n.i 17\n" (2 ∷ 2 ∷ [])
    ∷ case ".i 1\n.o 1\n2 a abcdefghijklmnopqrstuvwxyzabcdef 0\n" (1 ∷ 3 ∷ [])
    ∷ case ".i 1\n.o 1\n1 a abcdefghijklmnopqrstuvwxyzabcdef 0\n" (12 ∷ 3 ∷ [])
    -- 2: `.e` with no state, before the bytes after it
    ∷ case ".i 1\n.o 1\n.e\n.e\n" (2 ∷ 3 ∷ [])
    ∷ case ".i 1\n.o 1\n- * * 0\n.e\n" (2 ∷ 4 ∷ [])
    -- 12 after all lines, the earlier line first, before 6
    ∷ case ".i 1\n.o 1\n.p 2\n.s 2\n0 a a 0\n.e\n" (12 ∷ 3 ∷ [])
    ∷ case ".i 1\n.o 1\n.s 3\n.p 3\n0 a a 0\n- a b 0\n.e\n" (12 ∷ 3 ∷ [])
    ∷ case ".i 1\n.o 1\n.p 1\n0 a a 0\n0 b a 0\n.e\n" (12 ∷ 3 ∷ [])
    -- 6 at the first line of the later row
    ∷ case ".i 1\n.o 1\n0 a a 0\n1 b a 0\n1 b b 1\n- c b 0\n- a b 0\n.e\n" (6 ∷ 6 ∷ [])
    ∷ []

pub known : map answer_of cases ≡ map (λ c. c.answer) cases
unfolding answer_of
known = refl

-- and the names of the first text, as they are printed
pub known-names : printed (kiss_names_reply (bytes ".i 1\n.o 2\n.s 3\n.p 3\n.r c\n0 a b 1-\n1 c a 00\n0 c b 1-\n.e\n")) ≡ bytes "NM 0 c\nNM 1 a\nNM 2 b\nEN\n"
unfolding printed kiss_names_reply
known-names = refl
