-- The end of a KISS2 text: bytes behind `.e`, what disagrees, and a line without LF.
use mathlib.Core.Path.{◌≡◌, refl, sym, ap, ap₂, ◌∙◌}
use mathlib.Core.Bool.{Bool, true, false, ◌||◌, cond}
use mathlib.Core.List.{List, [], ◌∷◌, map}
use Prim.Native.Nat.{ℕ, ◌+◌, ◌-◌, ◌≤◌, ◌<◌}
use native.Mathlib.Omega.{arith}
use lib.ListN.{length, drop, length-drop}
use lib.Seq.{take_all}
use lib.Dec.{ltb, eqb}
use borrow.Author.Tests.{le-leb, lt-leb}
use Rattle.rules.specs.Limits.{most_bytes}
use Rattle.rules.specs.Text.{lines_of, mark_of}
use Rattle.rules.specs.Listing.{blank, rows_of, conflict, or_else, judged}
use Rattle.rules.specs.KissLines.{kiss_mark}
use Rattle.rules.specs.Kiss.{no_draft, kiss_placed, cut_to, listing_of, disagrees, disagreement, kiss_made, kiss_lines, kiss_reading}
use Rattle.rules.specs.declared.KissHeads.{KissHeads}
use Rattle.rules.specs.declared.Listing.{Listing}
use Rattle.rules.specs.declared.Row.{Row}
use Rattle.rules.specs.declared.Told.{Told}
use Rattle.rules.specs.declared.Refusal.TheVariants.{BadLine, Limit, Place, Names}
use Rattle.rules.specs.Refusals.{Verdict, refused}
use Rattle.read_answers.proofs.Behind.{none-behind, some-behind}
use Rattle.read_pieces.proofs.Laws.{part}
use Rattle.read_kiss.specs.Walks.{after_end, broken}
use Rattle.std.specs.Prelude.{Ok}

-- ---- bytes behind `.e`

module _ (k : ℕ) where
  pub end_more : (s : List ℕ) → (length s ≡ 0 → ⊥) → after_end k (lines_of s) ≡ refused Place (k + 1)
  unfolding after_end
  end_more s e = rw (some-behind s e)

  pub end-here : (s : List ℕ) → length s ≡ 0 → after_end k (lines_of s) ≡ Ok tt
  unfolding after_end
  end-here s e = rw (none-behind s e)

  -- the bytes from a on
  pub end_is : (s : List ℕ) (a : ℕ) → after_end k (lines_of (part s a (length s))) ≡ after_end k (lines_of (drop a s))
  end_is s a =
      let m : length (drop a s) ≤ length s - a = omega (arith, length-drop a s) in
      rw (take_all (length s - a) (drop a s) m)

-- ---- what disagrees

pub disagrees-by : (t : Told) (count : ℕ) {a b : Bool} → eqb t.line 0 ≡ a → eqb t.number count ≡ b → disagrees t count ≡ cond (a || b) (Ok tt) (refused Names t.line)
unfolding disagrees
disagrees-by t count e f = rw (e, f)

pub disagreement-by : (h : KissHeads) (n : ℕ) {s p : Verdict} {b : Bool} → s ≡ disagrees h.states n → p ≡ disagrees h.products h.lines → ltb h.states.line h.products.line ≡ b
    → disagreement h n ≡ cond b (or_else s p) (or_else p s)
unfolding disagreement
disagreement-by h n {s} {p} {b} e f g = go (ltb h.states.line h.products.line) ∙ ap (λ (c : Bool). cond c (or_else s p) (or_else p s)) g
  where
    go : (c : Bool) → elim c [ true ↦ or_else (disagrees h.states n) (disagrees h.products h.lines) | false ↦ or_else (disagrees h.products h.lines) (disagrees h.states n) ]
        ≡ cond c (or_else s p) (or_else p s)
    go true = ap₂ or_else (sym e) (sym f)
    go false = ap₂ or_else (sym f) (sym e)

-- ---- a line without LF

module _ (k : ℕ) (h : KissHeads) where
  pub unended-none : (l : List ℕ) → length l ≡ 0 → broken k h l ≡ record { refusal = Place; line = k }
  unfolding broken
  unended-none [] e = refl
  unended-none (x ∷ xs) e = absurd (omega arith)

  pub unended-some : (l : List ℕ) {b : Bool} → (length l ≡ 0 → ⊥) → kiss_placed (kiss_mark (mark_of l)) h ≡ b → broken k h l ≡ cond b (record { refusal = BadLine; line = k }) (record { refusal = Place; line = k })
  unfolding broken
  unended-some [] o e = absurd (o refl)
  unended-some (x ∷ xs) o e = rw e

-- ---- the whole

pub too_long : (s : List ℕ) → most_bytes < length s → kiss_reading s ≡ refused Limit 0
unfolding kiss_reading
too_long s h = rw (lt-leb _ _ h)

pub short : (s : List ℕ) → length s ≤ most_bytes → kiss_reading s ≡ kiss_lines 1 no_draft (lines_of s)
unfolding kiss_reading
short s h = rw (le-leb _ _ h)

-- ---- the listing so made

pub made-here : (h : KissHeads) (n rows : ℕ) (table : List Row) {t : Listing} {v : Verdict} → t ≡ listing_of h n rows table → v ≡ or_else (disagreement h n) (conflict (rows_of t))
    → kiss_made h n rows table ≡ judged v t
unfolding kiss_made
made-here h n rows table {t} {v} f g =
    ap (λ (x : Listing). judged (or_else (disagreement h n) (conflict (rows_of x))) x) (sym f) ∙ ap (λ (w : Verdict). judged w t) (sym g)

pub made_by : (h : KissHeads) (n rows : ℕ) (table : List Row) {b : Listing} {w : List Row} → b ≡ blank → w ≡ map (cut_to n) table
    → record {
      head = record { states = n; inputs = h.inputs; outputs = h.outputs; width = 0; keeps = false; moore = false };
      rows = rows;
      table = w;
      dichotomies = b.dichotomies;
      asked = b.asked;
      said = b.said;
      given = b.given;
    }
    ≡ listing_of h n rows table
unfolding listing_of blank
made_by h n rows table e f = rw (e, f)
