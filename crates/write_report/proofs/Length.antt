-- How long the lines of a report can be, by the digits of their numbers, and the whole, within 01's limits: what a lent buffer has to hold.
use Rattle.std.specs.Prelude.{Option, Some, None}
use mathlib.Core.Path.{◌≡◌, refl}
use mathlib.Core.Bool.{Bool, true, false}
use mathlib.Core.List.{List, [], ◌∷◌, ◌++◌, map}
use Prim.Native.Nat.{ℕ, zero, suc, ◌+◌, ◌*◌, ◌^◌, ◌≤◌, ◌<◌}
use native.Mathlib.Omega.{arith}
use lib.ListN.{length, take, length-append, length-map, length-take}
use Rattle.sets.specs.Sets.{has, states_from}
use Rattle.rules.specs.declared.Encoding.{Encoding}
use Rattle.rules.specs.declared.StateNumber.{StateNumber}
use Rattle.rules.specs.declared.RequirementNumber.{RequirementNumber}
use Rattle.rules.specs.declared.BitNumber.{BitNumber}
use Rattle.rules.specs.Limits.{most_states, most_bits, most_asked}
use Rattle.rules.specs.Text.{bytes, nought}
use Rattle.rules.specs.Code.{code_of, unmet_from}
use Rattle.rules.specs.Report.{code_text, count_line, state_line, met_line, unmet_line, joined_lines}
use Rattle.rules.proofs.Decimal.{decimal-length}
use Rattle.rules.proofs.Parts.{AllFit, fit_none, fit-more, fit_append}
use Rattle.write_parts.specs.Parts.{longest_line}
use Rattle.write_report.specs.Report.{state_lines, line_for, lines_of, first_of, encoded_lines, encoded_report}
use Rattle.write_report.specs.declared.Listed.{Listed}
use Rattle.rules.specs.Requirements.{judgement, met_by_code}
use Rattle.rules.specs.declared.Requirement.{Requirement}
use Rattle.rules.proofs.Judged.{judged-by}
use Rattle.rules.proofs.Unmet.{listed-met, listed-unmet}
use Rattle.families.specs.Families.{requirements_in}
use Rattle.write_pen.proofs.Growing.{joined-append, joined-more}
use Rattle.write_report.proofs.Fields.{count-fields, state-fields}
use Rattle.write_report.proofs.Lines.{states-none, states-more}

-- ---- lines, by how many digits behind the first their numbers have

code-length : (bits : List ℕ) (s : ℕ) → length bits ≤ most_bits → length (code_text (code_of bits s)) ≤ most_bits
unfolding code_text
code-length [] s h = omega arith
code-length (b ∷ bits) s h = omega (arith, length-map (code_of bits s) (λ d. nought + d), length-map bits (λ b. has b s))

pub state-length : (d : ℕ) (bits : List ℕ) (s : StateNumber) → length bits ≤ most_bits → s.0 < 10 ^ (d + 1) → length (state_line bits s) ≤ d + 70
state-length d bits s h k = rw (← state-fields bits s) (simp length-append (omega (arith, decimal-length d s.0 k, code-length bits s.0 h)))

pub met-length : (d f : ℕ) (r : RequirementNumber) (b : BitNumber) → r.0 < 10 ^ (d + 1) → b.0 < 10 ^ (f + 1) → length (met_line r b) ≤ d + f + 7
unfolding met_line
met-length d f r b h k = simp length-append (omega (arith, decimal-length d r.0 h, decimal-length f b.0 k))

pub unmet-length : (d : ℕ) (r : RequirementNumber) → r.0 < 10 ^ (d + 1) → length (unmet_line r) ≤ d + 5
unfolding unmet_line
unmet-length d r h = simp length-append (omega (arith, decimal-length d r.0 h))

pub count-length : (d f bits asked unmet passes looks : ℕ) → bits < 10 ^ (d + 1) → asked < 10 ^ (f + 1) → unmet < 10 ^ (f + 1) → passes < 2 ^ 64 → looks < 2 ^ 64
    → length (count_line bits asked unmet passes looks) ≤ d + f + f + 51
count-length d f bits asked unmet passes looks a b c p l =
    rw (← count-fields bits asked unmet passes looks)
    (simp length-append
    (omega (arith, decimal-length d bits a, decimal-length f asked b, decimal-length f unmet c, decimal-length 19 passes (omega arith), decimal-length 19 looks (omega arith))))

-- a requirement has one line of the two kinds
judged-length : (d f k : ℕ) (j : Option BitNumber) → k < 10 ^ (d + 1) → ((b : BitNumber) → j ≡ Some b → b.0 < 10 ^ (f + 1))
    → length (line_for Listed.Met k j) + length (line_for Listed.Unmet k j) ≤ d + f + 7
unfolding line_for
judged-length d f k (Some b) h low = omega (arith, met-length d f (record { 0 = k }) b h (low b refl))
judged-length d f k None h low = omega (arith, unmet-length d (record { 0 = k }) h)

pub line-length : (l : Listed) (k : ℕ) (bits : List ℕ) (r : Requirement) → k < 2 ^ 64 → length bits < 2 ^ 64 → length (line_for l k (judgement 64 bits r)) ≤ 45
line-length l k bits r h w = go l (judged-length 19 19 k (judgement 64 bits r) (omega arith) (λ b e. omega (arith, (judged-by 64 bits r b e).below)))
  where
    go : (l : Listed) → length (line_for Listed.Met k (judgement 64 bits r)) + length (line_for Listed.Unmet k (judgement 64 bits r)) ≤ 45 → length (line_for l k (judgement 64 bits r)) ≤ 45
    go Listed.Met q = omega arith
    go Listed.Unmet q = omega arith

-- ---- and all lines of a kind

states-length : (bits : List ℕ) (n : ℕ) → length bits ≤ most_bits → n ≤ 100 → length (joined_lines (state_lines bits n)) ≤ 71 * n
unfolding joined_lines
states-length bits zero h k = rw (states-none bits) (omega arith)
states-length bits (suc n) h k =
    let e : suc n ≡ n + 1 = omega arith in
    let ih : length (joined_lines (state_lines bits n)) ≤ 71 * n = states-length bits n h (omega arith) in
    rw (e, states-more bits n, joined-more (state_lines bits n) (state_line bits (record { 0 = n })), length-append)
    (omega (arith, state-length 1 bits (record { 0 = n }) h (omega arith)))

lines-length : (k : ℕ) (bits : List ℕ) (rs : List Requirement) → length bits ≤ 100 → k + length rs ≤ 100000
    → length (joined_lines (lines_of Listed.Met k bits rs)) + length (joined_lines (lines_of Listed.Unmet k bits rs)) ≤ 12 * length rs
unfolding lines_of joined_lines
lines-length k bits [] w h = omega arith
lines-length k bits (r ∷ rs) w h =
    let met = joined_lines (lines_of Listed.Met (suc k) bits rs) in
    let unmet = joined_lines (lines_of Listed.Unmet (suc k) bits rs) in
    let j = judgement 64 bits r in
    let one = judged-length 4 1 k j (omega arith) (λ b e. omega (arith, (judged-by 64 bits r b e).below)) in
    let more = lines-length (suc k) bits rs w (omega arith) in
    omega (arith, one, more, length-append (line_for Listed.Met k j) met, length-append (line_for Listed.Unmet k j) unmet)

-- no more are unmet than there are
pub unmet-few : (k n : ℕ) (bits : List ℕ) (rs : List Requirement) → length (unmet_from k n bits rs) ≤ length rs
unfolding unmet_from
unmet-few k n bits [] = omega arith
unmet-few k n bits (r ∷ rs) = go (met_by_code n bits r) refl (unmet-few (suc k) n bits rs)
  where
    go : (t : Bool) → met_by_code n bits r ≡ t → length (unmet_from (suc k) n bits rs) ≤ length rs → length (unmet_from k n bits (r ∷ rs)) ≤ suc (length rs)
    go true e ih = rw (listed-met k n bits r rs e) (omega arith)
    go false e ih = rw (listed-unmet k n bits r rs e) (omega arith)

-- ---- no line is longer than the longest

states-fit : (bits : List ℕ) → length bits ≤ most_bits → (a n : ℕ) → a + n ≤ 100 → AllFit longest_line (map (λ s. state_line bits (record { 0 = s })) (states_from a n))
unfolding states_from
states-fit bits h a zero k = fit_none
states-fit bits h a (suc n) k = fit-more {l = state_line bits (record { 0 = a })} (omega (arith, state-length 1 bits (record { 0 = a }) h (omega arith))) (states-fit bits h (suc a) n (omega arith))

lines_fit : (l : Listed) (k : ℕ) (bits : List ℕ) (rs : List Requirement) → length bits ≤ 100 → k + length rs ≤ 100000 → AllFit longest_line (lines_of l k bits rs)
unfolding lines_of
lines_fit l k bits [] w h = fit_none
lines_fit l k bits (r ∷ rs) w h = fit-more {l = line_for l k (judgement 64 bits r)} (omega (arith, line-length l k bits r (omega arith) (omega arith))) (lines_fit l (suc k) bits rs w (omega arith))

-- ---- the whole

pub report-fit : (n : ℕ) (fs : List ℕ) (e : Encoding) → n ≤ most_states → length (requirements_in (first_of fs)) ≤ most_asked
    → e.width ≤ most_bits → e.asked ≤ most_asked → e.unmet ≤ most_asked → e.passes < 2 ^ 64 → e.looks < 2 ^ 64 → AllFit longest_line (encoded_lines n fs e)
unfolding encoded_lines state_lines
report-fit n fs e hn hr hw ha hu hp hl =
    let bits : List ℕ = take e.width e.bits in
    let narrow : length bits ≤ most_bits = omega (arith, length-take e.width e.bits) in
    let c = count-length 1 4 e.width e.asked e.unmet e.passes e.looks (omega arith) (omega arith) (omega arith) hp hl in
    let rs : List Requirement = requirements_in (first_of fs) in
    fit-more {l = count_line e.width e.asked e.unmet e.passes e.looks} (omega arith)
    (fit_append (states-fit bits narrow 0 n (omega arith))
    (fit_append (lines_fit Listed.Met 0 bits rs (omega arith) (omega arith)) (fit_append (lines_fit Listed.Unmet 0 bits rs (omega arith) (omega arith)) (fit-more {l = bytes "EN\n"} (omega arith) fit_none))))

pub report-length : (n : ℕ) (fs : List ℕ) (e : Encoding) → n ≤ most_states → length (requirements_in (first_of fs)) ≤ most_asked
    → e.width ≤ most_bits → e.asked ≤ most_asked → e.unmet ≤ most_asked → e.passes < 2 ^ 64 → e.looks < 2 ^ 64 → length (encoded_report n fs e) ≤ 124799
unfolding encoded_report encoded_lines joined_lines
report-length n fs e hn hr hw ha hu hp hl =
    let bits : List ℕ = take e.width e.bits in
    let rs : List Requirement = requirements_in (first_of fs) in
    let mets : List (List ℕ) = lines_of Listed.Met 0 bits rs in
    let unmets : List (List ℕ) = lines_of Listed.Unmet 0 bits rs in
    let narrow : length bits ≤ most_bits = omega (arith, length-take e.width e.bits) in
    let c = count-length 1 4 e.width e.asked e.unmet e.passes e.looks (omega arith) (omega arith) (omega arith) hp hl in
    let s = states-length bits n narrow (omega arith) in
    let l = lines-length 0 bits rs (omega arith) (omega arith) in
    rw (joined-append (state_lines bits n) (mets ++ (unmets ++ (bytes "EN\n" ∷ []))), joined-append mets (unmets ++ (bytes "EN\n" ∷ [])), joined-append unmets (bytes "EN\n" ∷ []))
    (simp length-append (omega arith))
