-- The lines of a report's text are ended lines, so a line stands in the text exactly where it is one of them; and so are a refusal's line and those of
-- what each width buys.
use Rattle.std.specs.Prelude.{Option, Some, None}
use mathlib.Core.Path.{◌≡◌}
use mathlib.Core.Logic.{◌↔◌}
use mathlib.Core.Bool.{Bool}
use mathlib.Core.List.{List, [], ◌∷◌, Memᴰ}
use Prim.Native.Nat.{ℕ, suc, ◌+◌, ◌<◌}
use native.Mathlib.Omega.{arith}
use lib.ListN.{length}
use Rattle.sets.specs.Sets.{states_from}
use Rattle.rules.specs.Limits.{most_bits}
use Rattle.rules.specs.Refusals.{number}
use Rattle.rules.specs.Text.{bytes, digit, lf, dash, nought}
use Rattle.rules.specs.Requirements.{requirements, judgement}
use Rattle.rules.specs.Code.{Code, unmet, code_of}
use Rattle.rules.specs.Report.{code_text, count_line, state_line, met_line, unmet_line, met_lines, report_lines, report}
use Rattle.rules.specs.Answers.{refuses, printed}
use Rattle.rules.specs.Widths.{bits_of, covered, width_line, width_lines}
use Rattle.rules.specs.declared.Listing.{Listing}
use Rattle.rules.specs.declared.Refusal.{Refusal}
use Rattle.rules.specs.declared.Requirement.{Requirement}
use Rattle.rules.specs.declared.StateNumber.{StateNumber}
use Rattle.rules.specs.declared.RequirementNumber.{RequirementNumber}
use Rattle.rules.specs.declared.BitNumber.{BitNumber}
use Rattle.rules.proofs.Fields.{Without, none, more, without-map}
use Rattle.rules.proofs.Ended.{Ended, last, then, ended-behind, AllEnded, no_line, line, ended-append, ended-map, HasLine, of-text, in-text, digits-ended, space-then, mark-then}

-- characters of a code come behind the space and LF
pub code-high : (q : ℕ) → q < dash → (ds : List ℕ) → Without q (code_text ds)
unfolding code_text
code-high q h [] = more {x = dash} (λ e. omega arith) none
code-high q h (d ∷ ds) = without-map q (λ x. nought + x) (d ∷ ds) (λ x e. omega arith)

pub code-without : (ds : List ℕ) → Without lf (code_text ds)
code-without ds = code-high lf (omega arith) ds

pub count-ended : (bits asked unmet passes looks : ℕ) → Ended (count_line bits asked unmet passes looks)
unfolding count_line
count-ended bits asked unmet passes looks =
    mark-then 67 84 (omega arith) (omega arith)
    (digits-ended bits (space-then (digits-ended asked (space-then (digits-ended unmet (space-then (digits-ended passes (space-then (digits-ended looks last)))))))))

pub state-ended : (bits : List ℕ) (s : StateNumber) → Ended (state_line bits s)
unfolding state_line
state-ended bits s = mark-then 83 67 (omega arith) (omega arith) (digits-ended s.0 (space-then (ended-behind (code-without (code_of bits s.0)) last)))

pub met-ended : (r : RequirementNumber) (b : BitNumber) → Ended (met_line r b)
unfolding met_line
met-ended r b = mark-then 66 89 (omega arith) (omega arith) (digits-ended r.0 (space-then (digits-ended b.0 last)))

pub unmet-ended : (r : RequirementNumber) → Ended (unmet_line r)
unfolding unmet_line
unmet-ended r = mark-then 85 78 (omega arith) (omega arith) (digits-ended r.0 last)

mets-ended : (k n : ℕ) (bits : List ℕ) (rs : List Requirement) → AllEnded (met_lines k n bits rs)
unfolding met_lines
mets-ended k n bits [] = no_line
mets-ended k n bits (r ∷ rs) = go (judgement n bits r) (mets-ended (suc k) n bits rs)
  where
    go : (j : Option BitNumber) → AllEnded (met_lines (suc k) n bits rs)
        → AllEnded (elim j [ Some b ↦ met_line (record { 0 = k }) b ∷ met_lines (suc k) n bits rs | None ↦ met_lines (suc k) n bits rs ])
    go (Some b) a = line (met-ended (record { 0 = k }) b) a
    go None a = a

pub end-ended : Ended (bytes "EN\n")
end-ended = then {x = 69} (λ e. omega arith) (then {x = 78} (λ e. omega arith) last)

pub report-ended : (t : Listing) (c : Code) → AllEnded (report_lines t c)
unfolding report_lines
report-ended t c =
    let un : List ℕ = unmet t c.bits in
    line (count-ended (length c.bits) (length (requirements t)) (length un) c.passes c.looks)
    (ended-append (ended-map (λ s. state_line c.bits (record { 0 = s })) (λ s. state-ended c.bits (record { 0 = s })) (states_from 0 t.head.states))
    (ended-append (mets-ended 0 t.head.states c.bits (requirements t))
    (ended-append (ended-map (λ r. unmet_line (record { 0 = r })) (λ r. unmet-ended (record { 0 = r })) un) (line end-ended no_line))))

-- a line that is more than LF stands in a report's text exactly where it is one of its lines
pub report-has : (t : Listing) (c : Code) (l : List ℕ) → (l ≡ lf ∷ [] → ⊥) → HasLine (report t c) l ↔ Memᴰ l (report_lines t c)
unfolding report
report-has t c l some = (of-text l some (report_lines t c) (report-ended t c), in-text l (report_lines t c) (report-ended t c))

-- ---- and of what each width buys, and of a refusal

pub width-ended : (width unmet : ℕ) (cov : Bool) → Ended (width_line width unmet cov)
unfolding width_line
width-ended width unmet cov = mark-then 87 68 (omega arith) (omega arith) (digits-ended width (space-then (digits-ended unmet (space-then (digits-ended (digit cov) last)))))

pub widths-ended : (t : Listing) → AllEnded (width_lines t)
unfolding width_lines
widths-ended t =
    ended-append (ended-map (λ w. width_line w (length (unmet t (bits_of t w))) (covered t (bits_of t w))) (λ w. width-ended w (length (unmet t (bits_of t w))) (covered t (bits_of t w))) (states_from 1 (length (bits_of t most_bits))))
    (line end-ended no_line)

pub refused-ended : (r : Refusal) (k : ℕ) → Ended (printed (refuses r k))
unfolding printed
refused-ended r k = mark-then 78 79 (omega arith) (omega arith) (digits-ended (number r) (space-then (digits-ended k last)))
