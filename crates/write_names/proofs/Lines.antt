-- The lines of names, one more at the end, as they are written; and a line by its fields.
use mathlib.Core.Path.{◌≡◌, refl, sym, ap, ◌∙◌}
use mathlib.Core.List.{List, [], ◌∷◌, ◌++◌, append_assoc}
use Prim.Native.Nat.{ℕ, suc, ◌+◌, ◌≤◌, ◌<◌}
use native.Mathlib.Nat.{add-zero}
use native.Mathlib.Omega.{arith}
use lib.ListN.{length, take, get_or, length-take}
use lib.Seq.{take_all}
use Rattle.rules.specs.Text.{bytes, space, lf, decimal}
use Rattle.rules.specs.Report.{joined_lines}
use Rattle.rules.specs.NamesText.{name_line, name_lines_from, names_lines, names_text}
use Rattle.rules.specs.declared.StateNumber.{StateNumber}
use Rattle.std.proofs.lemmas.List.{take_more}
use Rattle.write_pen.proofs.Growing.{joined-append, joined-one}

-- the lines of the first i names
abbrev pub lines_to : List (List ℕ) → ℕ → List ℕ
lines_to names i = joined_lines (name_lines_from 0 (take i names))

lines_more : (s : ℕ) (names : List (List ℕ)) (name : List ℕ) → name_lines_from s (names ++ (name ∷ [])) ≡ name_lines_from s names ++ (name_line (record { 0 = s + length names }) name ∷ [])
unfolding name_lines_from
lines_more s [] name = rw add-zero
lines_more s (x ∷ xs) name =
    let e : suc s + length xs ≡ s + suc (length xs) = omega arith in
    ap {B = List (List ℕ)} (λ ls. name_line (record { 0 = s }) x ∷ ls) (lines_more (suc s) xs name ∙ rw e)

module _ (names : List (List ℕ)) where
  pub lines_none : [] ≡ lines_to names 0
  unfolding name_lines_from joined_lines
  lines_none = refl

  pub lines-one : (i : ℕ) {name : List ℕ} → i < length names → name ≡ get_or names i [] → lines_to names i ++ name_line (record { 0 = i }) name ≡ lines_to names (i + 1)
  lines-one i {name} h e =
      let long : 0 + length (take i names) ≡ i = omega (arith, length-take i names) in
      sym
      (ap (λ (ns : List (List ℕ)). joined_lines (name_lines_from 0 ns)) (take_more names i [] h)
      ∙ ap joined_lines (lines_more 0 (take i names) (get_or names i []))
      ∙ joined-append (name_lines_from 0 (take i names)) (name_line (record { 0 = 0 + length (take i names) }) (get_or names i []) ∷ [])
      ∙ rw (joined-one (name_line (record { 0 = 0 + length (take i names) }) (get_or names i [])), long, ← e))

  pub lines-all : (i : ℕ) → length names ≤ i → lines_to names i ≡ joined_lines (name_lines_from 0 names)
  lines-all i h = ap (λ (ns : List (List ℕ)). joined_lines (name_lines_from 0 ns)) (take_all i names h)

  pub with-end : joined_lines (name_lines_from 0 names) ++ bytes "EN\n" ≡ names_text names
  unfolding names_text names_lines
  with-end = sym (joined-append (name_lines_from 0 names) (bytes "EN\n" ∷ []) ∙ ap (λ (l : List ℕ). joined_lines (name_lines_from 0 names) ++ l) (joined-one (bytes "EN\n")))

pub name-fields : (s : StateNumber) (name : List ℕ) → bytes "NM " ++ ((decimal s.0 ++ (space ∷ [])) ++ (name ++ (lf ∷ []))) ≡ name_line s name
unfolding name_line
name-fields s name = simp append_assoc
