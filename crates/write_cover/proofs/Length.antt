-- How long the lines of a cover, and a cover, can be, within 01's limits: what a lent buffer has to hold.
use mathlib.Core.Path.{refl, subst}
use mathlib.Core.List.{List, [], ◌∷◌, ◌++◌}
use Prim.Native.Nat.{ℕ, ◌+◌, ◌*◌, ◌^◌, ◌≤◌, ◌<◌}
use native.Mathlib.Omega.{arith}
use lib.ListN.{length, length-append}
use Rattle.rules.specs.Limits.{most_bits, most_lines}
use Rattle.rules.specs.Text.{bytes, lf}
use Rattle.rules.specs.Listing.{all_rows}
use Rattle.rules.specs.Report.{joined_lines}
use Rattle.rules.specs.Cover.{counted_line, cover_row, printed_rows, cover_lines, cover}
use Rattle.rules.specs.declared.Head.{Head}
use Rattle.rules.specs.declared.Row.{Row}
use Rattle.rules.specs.declared.Listing.{Listing}
use Rattle.rules.proofs.Decimal.{decimal-length}
use Rattle.rules.proofs.Printed.{printed-few}
use Rattle.rules.proofs.Parts.{AllFit, fit_none, fit-more, fit_append, fit-map}
use Rattle.write_parts.specs.Parts.{longest_line}
use Rattle.write_pen.proofs.Growing.{joined-append, joined-one}
use Rattle.write_faces.specs.Faces.{row_text}
use Rattle.write_faces.proofs.Length.{row-length}
use Rattle.write_rows.specs.Rows.{kept_row}
use Rattle.write_cover.specs.Covers.{row_texts, count_lines, Bounded}
use Rattle.write_cover.proofs.RowTexts.{kept-text}
use Rattle.write_cover.proofs.Whole.{cover-text}

-- ---- lines

-- a mark of three bytes, by how many digits behind the first its number has
pub counted-length : (d : ℕ) (mark : List ℕ) (v : ℕ) → length mark ≤ 3 → v < 10 ^ (d + 1) → length (counted_line mark v) ≤ d + 5
counted-length d mark v m h = simp length-append (omega (arith, decimal-length d v h))

pub row-few : (h : Head) (bits : List ℕ) (r : Row) → Bounded h → length bits ≤ most_bits → length (row_text h bits r) ≤ 178
row-few h bits r b w = omega (arith, row-length h bits r, b.inputs, b.outputs)

-- ---- all of them

rows-length : (h : Head) (bits : List ℕ) (rs qs : List Row) → Bounded h → length bits ≤ most_bits → length (joined_lines (row_texts h bits rs qs)) ≤ 178 * length qs
unfolding row_texts joined_lines
rows-length h bits rs [] b w = omega arith
rows-length h bits rs (q ∷ qs) b w =
    let ih : length (joined_lines (row_texts h bits rs qs)) ≤ 178 * length qs = rows-length h bits rs qs b w in
    rw length-append (omega (arith, row-few h bits (kept_row rs q) b w))

counts-length : (i o p : ℕ) → i < 100 → o < 100 → p < 1000 → length (joined_lines (count_lines i o p)) ≤ 28
unfolding count_lines joined_lines
counts-length i o p a b c =
    omega (
      arith,
      counted-length 1 (bytes ".i ") i (omega arith) a,
      counted-length 1 (bytes ".o ") o (omega arith) b,
      counted-length 2 (bytes ".p ") p (omega arith) c,
      length-append (counted_line (bytes ".i ") i) (counted_line (bytes ".o ") o ++ (bytes ".type fd\n" ++ (counted_line (bytes ".p ") p ++ []))),
      length-append (counted_line (bytes ".o ") o) (bytes ".type fd\n" ++ (counted_line (bytes ".p ") p ++ [])),
      length-append (counted_line (bytes ".p ") p) [],
    )

pub cover-length : (t : Listing) (bits : List ℕ) → Bounded t.head → length (all_rows t) ≤ most_lines → length bits ≤ most_bits → length (cover t bits) ≤ 34207
unfolding cover
cover-length t bits b r w =
    let i = t.head.inputs + length bits in
    let o = length bits + t.head.outputs in
    let printed : List Row = printed_rows t.head bits (all_rows t) in
    let few = printed-few t.head bits (all_rows t) in
    let c = counts-length i o (length printed) (omega (arith, b.inputs)) (omega (arith, b.outputs)) (omega arith) in
    let l = rows-length t.head bits (all_rows t) printed b w in
    let rows : List (List ℕ) = row_texts t.head bits (all_rows t) printed in
    subst (λ (ls : List (List ℕ)). length (joined_lines ls) ≤ 34207) (cover-text t bits refl)
    (rw (joined-append (count_lines i o (length printed)) (rows ++ (bytes ".e\n" ∷ [])), joined-append rows (bytes ".e\n" ∷ []), joined-one (bytes ".e\n"))
    (simp length-append (omega arith)))

-- ---- no line is longer than the longest

pub cover-fit : (t : Listing) (bits : List ℕ) → Bounded t.head → length (all_rows t) ≤ most_lines → length bits ≤ most_bits → AllFit longest_line (cover_lines t bits)
unfolding cover_lines
cover-fit t bits b r w =
    fit-more {l = counted_line (bytes ".i ") (t.head.inputs + length bits)} (omega (arith, counted-length 1 (bytes ".i ") (t.head.inputs + length bits) (omega arith) (omega (arith, b.inputs))))
    (fit-more {l = counted_line (bytes ".o ") (length bits + t.head.outputs)} (omega (arith, counted-length 1 (bytes ".o ") (length bits + t.head.outputs) (omega arith) (omega (arith, b.outputs))))
    (fit-more {l = bytes ".type fd\n"} (omega arith)
    (fit-more {l = counted_line (bytes ".p ") (length printed)} (omega (arith, counted-length 2 (bytes ".p ") (length printed) (omega arith) (omega (arith, printed-few t.head bits (all_rows t)))))
    (fit_append (fit-map longest_line (λ q. cover_row t.head bits (all_rows t) q ++ (lf ∷ [])) each printed) (fit-more {l = bytes ".e\n"} (omega arith) fit_none)))))
  where
    printed : List Row
    printed = printed_rows t.head bits (all_rows t)

    each : (q : Row) → length (cover_row t.head bits (all_rows t) q ++ (lf ∷ [])) ≤ longest_line
    each q = rw (← kept-text t.head bits (all_rows t) q) (omega (arith, row-few t.head bits (kept_row (all_rows t) q) b w))
