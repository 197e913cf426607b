-- The lines from one on: what the next line does decides what all of them say.
use Rattle.rules.specs.declared.Refusal.{Refusal}
use Rattle.std.specs.Prelude.{Result}
use mathlib.Core.Path.{◌≡◌, refl, sym, ap, ◌∙◌}
use mathlib.Core.List.{List, [], ◌∷◌}
use Prim.Native.Nat.{ℕ, ◌+◌, ◌≤◌, ◌<◌}
use native.Mathlib.Omega.{arith}
use lib.ListN.{length, drop}
use Rattle.rules.specs.Text.{lf, lines_of}
use Rattle.rules.specs.Listing.{Step, goes, ends, stops, line_step, ended, unended, read_lines, Reading}
use Rattle.rules.specs.declared.Listing.{Listing}
use Rattle.read_pieces.proofs.Laws.{part, Cut, split-some}
use Rattle.read_listing.specs.declared.says.Said.{Said}
use Rattle.read_listing.specs.Says.{step_of, line_says}
use Rattle.read_listing.proofs.Saying.{says-step}
use Rattle.rules.specs.Refusals.{refused}

-- behind a line that does x, the rest of the lines
abbrev pub behind : Step → ℕ → Listing → List (List ℕ) → Reading
behind (goes u) k t rest = read_lines (k + 1) u rest
behind ends k t rest = ended k t rest
behind (stops r) k t rest = refused r k

read-cons : (k : ℕ) (t : Listing) (l : List ℕ) (rest : List (List ℕ)) → 1 ≤ length rest → read_lines k t (l ∷ rest) ≡ behind (line_step k t l) k t rest
unfolding read_lines
read-cons k t l [] h = absurd (omega arith)
read-cons k t l (m ∷ ms) h = go (line_step k t l)
  where
    go : (x : Step) → elim x [ goes u ↦ read_lines (k + 1) u (m ∷ ms) | ends ↦ ended k t (m ∷ ms) | stops r ↦ refused r k ] ≡ behind x k t (m ∷ ms)
    go (goes u) = refl
    go ends = refl
    go (stops r) = refl

-- the line from `at` to r, which says x
pub read-line : (k : ℕ) (t : Listing) (s : List ℕ) (at r : ℕ) {x : Result Said Refusal} → Cut lf s at r → r < length s → x ≡ line_says k t.head t.rows t.dichotomies t.given (part s at r)
    → read_lines k t (lines_of (drop at s)) ≡ behind (step_of x t) k t (lines_of (drop (r + 1) s))
read-line k t s at r {x} c h e =
    ap (read_lines k t) (c.more h)
    ∙ read-cons k t (part s at r) (lines_of (drop (r + 1) s)) (split-some lf (drop (r + 1) s))
    ∙ ap (λ (y : Step). behind y k t (lines_of (drop (r + 1) s))) (sym (says-step k t (part s at r)) ∙ ap (λ (y : Result Said Refusal). step_of y t) (sym e))

-- what stands behind the last LF
pub read-last : (k : ℕ) (t : Listing) (s : List ℕ) (at r : ℕ) → Cut lf s at r → length s ≤ r → read_lines k t (lines_of (drop at s)) ≡ unended k t.head t.given (part s at (length s))
unfolding read_lines
read-last k t s at r c h =
    let z : r ≡ length s = omega arith in
    ap (read_lines k t) (c.last h) ∙ rw z
