-- The lines of the states' names: each ends in LF and has no other, where no name has one, and how long they can be.
use mathlib.Core.List.{List, [], ◌∷◌, ◌++◌}
use Prim.Native.Nat.{ℕ, suc, ◌+◌, ◌*◌, ◌^◌, ◌≤◌, ◌<◌}
use native.Mathlib.Omega.{arith}
use lib.ListN.{length, get_or, length-append}
use Rattle.rules.specs.Limits.{most_states, most_name}
use Rattle.rules.specs.Text.{bytes, lf}
use Rattle.rules.specs.Report.{joined_lines}
use Rattle.rules.specs.NamesText.{name_line, name_lines_from, names_lines, names_text}
use Rattle.rules.specs.declared.StateNumber.{StateNumber}
use Rattle.rules.proofs.Fields.{Without}
use Rattle.rules.proofs.Decimal.{decimal-length}
use Rattle.rules.proofs.Ended.{Ended, last, then, ended-behind, AllEnded, no_line, line, ended-append, digits-ended, space-then, mark-then}
use Rattle.rules.proofs.Parts.{AllFit, fit_none, fit-more, fit_append}

-- ---- each is ended

name-ended : (s : StateNumber) (name : List ℕ) → Without lf name → Ended (name_line s name)
unfolding name_line
name-ended s name h = mark-then 78 77 (omega arith) (omega arith) (digits-ended s.0 (space-then (ended-behind h last)))

names-from : (s : ℕ) (names : List (List ℕ)) → ((k : ℕ) → Without lf (get_or names k [])) → AllEnded (name_lines_from s names)
unfolding name_lines_from
names-from s [] h = no_line
names-from s (name ∷ names) h = line (name-ended (record { 0 = s }) name (h 0)) (names-from (suc s) names (λ k. h (suc k)))

pub names-ended : (names : List (List ℕ)) → ((k : ℕ) → Without lf (get_or names k [])) → AllEnded (names_lines names)
unfolding names_lines
names-ended names h = ended-append (names-from 0 names h) (line (then {x = 69} (λ e. omega arith) (then {x = 78} (λ e. omega arith) last)) no_line)

-- ---- how long

-- by how many digits behind the first the state's number has
pub name-length : (d most : ℕ) (s : StateNumber) (name : List ℕ) → s.0 < 10 ^ (d + 1) → length name ≤ most → length (name_line s name) ≤ d + most + 6
unfolding name_line
name-length d most s name h k = simp length-append (omega (arith, decimal-length d s.0 h))

module _ (most : ℕ) where
  from-fit : (s : ℕ) (names : List (List ℕ)) → s + length names ≤ 100 → ((k : ℕ) → length (get_or names k []) ≤ most) → AllFit (most + 7) (name_lines_from s names)
  unfolding name_lines_from
  from-fit s [] h f = fit_none
  from-fit s (name ∷ names) h f =
      fit-more {l = name_line (record { 0 = s }) name} (omega (arith, name-length 1 most (record { 0 = s }) name (omega arith) (f 0)))
      (from-fit (suc s) names (omega arith) (λ k. f (suc k)))

  pub names-fit : (names : List (List ℕ)) → length names ≤ 100 → ((k : ℕ) → length (get_or names k []) ≤ most) → AllFit (most + 7) (names_lines names)
  unfolding names_lines
  names-fit names h f = fit_append (from-fit 0 names (omega arith) f) (fit-more {l = bytes "EN\n"} (omega arith) fit_none)

-- the lines of names that are no longer than a name may be
lines-few : (s : ℕ) (names rest : List (List ℕ)) → s + length names ≤ 100 → ((k : ℕ) → length (get_or names k []) ≤ most_name)
    → length (joined_lines (name_lines_from s names ++ rest)) ≤ 38 * length names + length (joined_lines rest)
unfolding name_lines_from joined_lines
lines-few s [] rest h f = omega arith
lines-few s (x ∷ xs) rest h f =
    let ih : length (joined_lines (name_lines_from (suc s) xs ++ rest)) ≤ 38 * length xs + length (joined_lines rest) = lines-few (suc s) xs rest (omega arith) (λ k. f (suc k)) in
    rw length-append (omega (arith, name-length 1 most_name (record { 0 = s }) x (omega arith) (f 0)))

-- 64 lines of 38 bytes at the most, and the end
pub names-length : (names : List (List ℕ)) → length names ≤ most_states → ((k : ℕ) → length (get_or names k []) ≤ most_name) → length (names_text names) ≤ 2435
unfolding names_text names_lines joined_lines
names-length names h f = omega (arith, lines-few 0 names (bytes "EN\n" ∷ []) (omega arith) f)
