-- A row of a cover in the tables, and the end of a cover.
use mathlib.Core.Path.{◌≡◌, refl, sym, ap, ◌∙◌}
use mathlib.Core.Bool.{Bool, true, false, ◌&&◌, cond}
use mathlib.Core.List.{List, [], ◌∷◌}
use Prim.Native.Nat.{ℕ, ◌+◌, ◌≤◌, ◌<◌, min}
use native.Mathlib.Omega.{arith}
use lib.Dec.{ltb, eqb}
use lib.ListN.{length, take}
use borrow.Author.Tests.{eq-eqb, ne_eqb, lt-ltb, le-ltb}
use Rattle.rules.specs.Limits.{most_states, most_checked}
use Rattle.rules.specs.CheckTexts.{fitting, is_over, cover_end}
use Rattle.rules.specs.declared.Refusal.{Refusal}
use Rattle.rules.specs.declared.Refusal.TheVariants.{BadLine}
use Rattle.rules.specs.Refusals.{Verdict, refused}
use Rattle.rules.specs.declared.CoverHeads.{CoverHeads}
use Rattle.judge_rows.specs.Rows.{line_laid}
use Rattle.judge_reading.specs.Tables.{is_laid, row_laid}
use Rattle.judge_reading.specs.Pieces.{closed_by, Reached, at_line}
use Rattle.judge_reading.specs.declared.Reader.{Reader}
use Rattle.rules.specs.declared.Refused.{Refused}
use Rattle.std.specs.Prelude.{Ok, Err}
use Rattle.judge_reading.specs.declared.Place.{Place}

-- ---- a row in the tables

module _ (q : Reader) (h g : CoverHeads) (l : List ℕ) (t : List ℕ × List ℕ) where
  laid_by : {b : Bool} → is_laid q h g ≡ b → row_laid q h g l t ≡ cond b (line_laid q.inputs (take (min q.states most_states) q.codes.table) q.codes.width (192 + h.rows) l t) t
  unfolding row_laid
  laid_by e = ap (λ (b : Bool). cond b (line_laid q.inputs (take (min q.states most_states) q.codes.table) q.codes.width (192 + h.rows) l t) t) e

  is-by : {a b c d : Bool} → ltb h.rows g.rows ≡ a → ltb h.rows most_checked ≡ b → eqb h.inputs q.taken ≡ c → eqb h.outputs q.given ≡ d → is_laid q h g ≡ (a && (b && (c && d)))
  unfolding is_laid
  is-by e f p r = rw (e, f, p, r)

  pub no_row : g.rows ≤ h.rows → t ≡ row_laid q h g l t
  no_row o = sym (laid_by (is-by (le-ltb _ _ o) refl refl refl))

  pub no_place : h.rows < g.rows → most_checked ≤ h.rows → t ≡ row_laid q h g l t
  no_place e o = sym (laid_by (is-by (lt-ltb _ _ e) (le-ltb _ _ o) refl refl))

  pub unfit-inputs : h.rows < g.rows → h.rows < most_checked → (h.inputs ≡ q.taken → ⊥) → t ≡ row_laid q h g l t
  unfit-inputs e f o = sym (laid_by (is-by (lt-ltb _ _ e) (lt-ltb _ _ f) (ne_eqb _ _ o) refl))

  pub unfit-outputs : h.rows < g.rows → h.rows < most_checked → h.inputs ≡ q.taken → (h.outputs ≡ q.given → ⊥) → t ≡ row_laid q h g l t
  unfit-outputs e f p o = sym (laid_by (is-by (lt-ltb _ _ e) (lt-ltb _ _ f) (eq-eqb _ _ p) (ne_eqb _ _ o)))

  pub row_laid_lem : {u : List ℕ × List ℕ} → h.rows < g.rows → h.rows < most_checked → h.inputs ≡ q.taken → h.outputs ≡ q.given
      → u ≡ line_laid q.inputs (take (min q.states most_states) q.codes.table) q.codes.width (192 + h.rows) l t → u ≡ row_laid q h g l t
  row_laid_lem e f p r s = s ∙ sym (laid_by (is-by (lt-ltb _ _ e) (lt-ltb _ _ f) (eq-eqb _ _ p) (eq-eqb _ _ r)))

-- ---- the end

module _ (i o k : ℕ) (h : CoverHeads) (l : List ℕ) where
  pub end_more : (length l ≡ 0 → ⊥) → refused BadLine k ≡ cover_end i o k h l
  unfolding cover_end
  end_more n = go l n
    where
      go : (l : List ℕ) → (length l ≡ 0 → ⊥) → refused BadLine k ≡ cover_end i o k h l
      go [] n = absurd (n refl)
      go (x ∷ xs) n = refl

  end_by : {b : Bool} → length l ≡ 0 → is_over h.part ≡ b → cover_end i o k h l ≡ cond b (fitting i o h) (refused BadLine k)
  unfolding cover_end
  end_by {b} e f = go l e
    where
      go : (l : List ℕ) → length l ≡ 0 → cover_end i o k h l ≡ cond b (fitting i o h) (refused BadLine k)
      go [] e = ap (λ (b : Bool). cond b (fitting i o h) (refused BadLine k)) f
      go (x ∷ xs) e = absurd (omega arith)

  pub end-over : {v : Verdict} → length l ≡ 0 → is_over h.part ≡ true → v ≡ fitting i o h → v ≡ cover_end i o k h l
  end-over e p q = q ∙ sym (end_by e p)

  pub end-early : length l ≡ 0 → is_over h.part ≡ false → refused BadLine k ≡ cover_end i o k h l
  end-early e f = sym (end_by e f)

-- by the place

module _ (q : Reader) (rest : List ℕ) {p : Reached} where
  pub closed-refused : {why : Refused} → p ≡ Err why → Err why ≡ closed_by q p rest
  unfolding closed_by
  closed-refused e = sym (ap (λ (x : Reached). closed_by q x rest) e)

  pub closed-line : {at : Place} {v : Verdict} → p ≡ Ok at → v ≡ cover_end q.taken q.given at.line at.heads rest → v ≡ closed_by q p rest
  unfolding closed_by
  closed-line e f = f ∙ sym (ap (λ (x : Reached). closed_by q x rest) e)
