-- The lines of a cover's text: each ends in LF and has no other, so the text parts into them.
use mathlib.Core.Path.{◌≡◌, refl, ap, ◌∙◌}
use mathlib.Core.List.{List, [], ◌∷◌, ◌++◌, map}
use Prim.Native.Nat.{ℕ, ◌+◌}
use native.Mathlib.Omega.{arith}
use lib.ListN.{length}
use Rattle.rules.specs.Text.{bytes, lf, space, dot, split, lines_of, decimal}
use Rattle.rules.specs.Listing.{all_rows}
use Rattle.rules.specs.Report.{joined_lines}
use Rattle.rules.specs.Cover.{counted_line, cover_row, printed_rows, cover_lines, cover}
use Rattle.rules.specs.declared.Row.{Row}
use Rattle.rules.specs.declared.Listing.{Listing}
use Rattle.rules.proofs.Fields.{Without, none, more}
use Rattle.rules.proofs.Decimal.{decimal-without}
use Rattle.rules.proofs.Fires.{row-without}
use Rattle.rules.proofs.Ended.{Ended, last, then, ended-behind, AllEnded, no_line, line, ended-append, ended-map, lines-first}

-- a mark is a dot, a letter and a space (the letters `i`, `o`, `p`, `e` are 105, 111, 112, 101)
abbrev mark : ℕ → List ℕ
mark c = dot ∷ (c ∷ (space ∷ []))

-- `.i 3`
marked : (c v : ℕ) → (c ≡ lf → ⊥) → Without lf (mark c ++ decimal v)
marked c v o = more {x = dot} (λ e. omega arith) (more o (more {x = space} (λ e. omega arith) (decimal-without lf (omega arith) v)))

-- ---- each is ended

counted-ended : (c v : ℕ) → (c ≡ lf → ⊥) → Ended (counted_line (mark c) v)
counted-ended c v o = ended-behind (marked c v o) last

end-ended : Ended (bytes ".e\n")
end-ended = then {x = dot} (λ e. omega arith) (then {x = 101} (λ e. omega arith) last)

typed : Without lf (bytes ".type fd")
typed =
    more {x = 46} (λ e. omega arith)
    (more {x = 116} (λ e. omega arith)
    (more {x = 121} (λ e. omega arith)
    (more {x = 112} (λ e. omega arith) (more {x = 101} (λ e. omega arith) (more {x = 32} (λ e. omega arith) (more {x = 102} (λ e. omega arith) (more {x = 100} (λ e. omega arith) none)))))))

type-ended : Ended (bytes ".type fd\n")
type-ended = ended-behind typed last

pub cover-ended : (t : Listing) (bits : List ℕ) → AllEnded (cover_lines t bits)
unfolding cover_lines
cover-ended t bits =
    let printed : List Row = printed_rows t.head bits (all_rows t) in
    line (counted-ended 105 (t.head.inputs + length bits) (λ e. omega arith))
    (line (counted-ended 111 (length bits + t.head.outputs) (λ e. omega arith))
    (line type-ended
    (line (counted-ended 112 (length printed) (λ e. omega arith))
    (ended-append (ended-map (λ r. cover_row t.head bits (all_rows t) r ++ (lf ∷ [])) (λ r. ended-behind (row-without t.head bits (all_rows t) r) last) printed)
    (line end-ended no_line)))))

-- ---- so the text parts into them

counted-first : (c v : ℕ) → (c ≡ lf → ⊥) → (rest : List ℕ) → lines_of (counted_line (mark c) v ++ rest) ≡ (mark c ++ decimal v) ∷ lines_of rest
counted-first c v o rest = lines-first (counted_line (mark c) v) rest (mark c ++ decimal v) refl (marked c v o)

pub rows-first : {A : Type 0} (f : A → List ℕ) → ((r : A) → Without lf (f r)) → (rows : List A) (ls : List (List ℕ))
    → lines_of (joined_lines (map (λ r. f r ++ (lf ∷ [])) rows ++ ls)) ≡ map f rows ++ lines_of (joined_lines ls)
unfolding joined_lines
rows-first f h [] ls = refl
rows-first f h (r ∷ rs) ls =
    lines-first (f r ++ (lf ∷ [])) (joined_lines (map (λ r. f r ++ (lf ∷ [])) rs ++ ls)) (f r) refl (h r)
    ∙ ap {B = List (List ℕ)} (λ ks. f r ∷ ks) (rows-first f h rs ls)

last_line : lines_of (joined_lines (bytes ".e\n" ∷ [])) ≡ bytes ".e" ∷ ([] ∷ [])
unfolding split joined_lines
last_line = refl

-- the lines without their LF, and nothing behind the last
abbrev pub cover_bodies : Listing → List ℕ → List (List ℕ)
cover_bodies t bits =
    (bytes ".i " ++ decimal (t.head.inputs + length bits))
    ∷ ((bytes ".o " ++ decimal (length bits + t.head.outputs))
    ∷ (bytes ".type fd"
    ∷ ((bytes ".p " ++ decimal (length (printed_rows t.head bits (all_rows t))))
    ∷ (map (cover_row t.head bits (all_rows t)) (printed_rows t.head bits (all_rows t)) ++ (bytes ".e" ∷ ([] ∷ []))))))

pub cover-lines : (t : Listing) (bits : List ℕ) → lines_of (cover t bits) ≡ cover_bodies t bits
unfolding cover cover_lines joined_lines
cover-lines t bits =
    counted-first 105 (t.head.inputs + length bits) (λ e. omega arith) (counted_line (bytes ".o ") outs ++ (bytes ".type fd\n" ++ (counted_line (bytes ".p ") (length printed) ++ rows)))
    ∙ ap {B = List (List ℕ)} (λ ls. (bytes ".i " ++ decimal (t.head.inputs + length bits)) ∷ ls)
    (counted-first 111 outs (λ e. omega arith) (bytes ".type fd\n" ++ (counted_line (bytes ".p ") (length printed) ++ rows))
    ∙ ap {B = List (List ℕ)} (λ ls. (bytes ".o " ++ decimal outs) ∷ ls)
    (lines-first (bytes ".type fd\n") (counted_line (bytes ".p ") (length printed) ++ rows) (bytes ".type fd") refl typed
    ∙ ap {B = List (List ℕ)} (λ ls. bytes ".type fd" ∷ ls)
    (counted-first 112 (length printed) (λ e. omega arith) rows
    ∙ ap {B = List (List ℕ)} (λ ls. (bytes ".p " ++ decimal (length printed)) ∷ ls)
    (rows-first (cover_row t.head bits (all_rows t)) (row-without t.head bits (all_rows t)) printed (bytes ".e\n" ∷ [])
    ∙ ap (λ (ls : List (List ℕ)). map (cover_row t.head bits (all_rows t)) printed ++ ls) last_line))))
  where
    outs : ℕ
    outs = length bits + t.head.outputs

    printed : List Row
    printed = printed_rows t.head bits (all_rows t)

    rows : List ℕ
    rows = joined_lines (map (λ r. cover_row t.head bits (all_rows t) r ++ (lf ∷ [])) printed ++ (bytes ".e\n" ∷ []))
