-- The lines of rows: a row with the dashes that it keeps has the line of 02, a row that is left out has none, and rows behind a row have theirs behind its own.
use mathlib.Core.Path.{◌≡◌, refl, ap, ◌∙◌}
use mathlib.Core.Bool.{Bool, true, false, cond}
use mathlib.Core.List.{List, [], ◌∷◌, ◌++◌, map, map-append, append_assoc}
use Prim.Native.Nat.{ℕ}
use Rattle.sets.specs.Sets.{states_from}
use Rattle.rules.specs.Text.{lf}
use Rattle.rules.specs.Cover.{output_at, cover_row, is_left_out, printed_rows}
use Rattle.rules.specs.declared.Head.{Head}
use Rattle.rules.specs.declared.Row.{Row}
use Rattle.rules.proofs.LinesAside.{map-like}
use Rattle.rules.proofs.Printed.{printed-none, printed-out, printed-in, printed-append}
use Rattle.write_faces.specs.Faces.{pattern_at, pattern_text, face_text, next_text, row_text}
use Rattle.write_rows.specs.Rows.{kept_row}
use Rattle.write_rows.proofs.Kept.{kept_at}
use Rattle.write_cover.specs.Covers.{printed_text, row_texts}

-- ---- the line of 02

pub kept-text : (h : Head) (bits : List ℕ) (rs : List Row) (r : Row) → row_text h bits (kept_row rs r) ≡ cover_row h bits rs r ++ (lf ∷ [])
unfolding row_text pattern_text pattern_at face_text next_text cover_row kept_row
kept-text h bits rs r = rw (map-like (pattern_at (kept_row rs r).outputs) (output_at rs r) (states_from 0 h.outputs) (kept_at rs r)) (simp append_assoc)

pub kept-texts : (h : Head) (bits : List ℕ) (rs qs : List Row) → row_texts h bits rs qs ≡ map (λ q. cover_row h bits rs q ++ (lf ∷ [])) qs
unfolding row_texts
kept-texts h bits rs qs = map-like (λ q. row_text h bits (kept_row rs q)) (λ q. cover_row h bits rs q ++ (lf ∷ [])) qs (kept-text h bits rs)

-- ---- row by row

module _ (h : Head) (bits : List ℕ) (rs : List Row) where
  texts-none : row_texts h bits rs (printed_rows h bits []) ≡ []
  unfolding row_texts
  texts-none = ap (map (λ q. row_text h bits (kept_row rs q))) (printed-none h bits)

  -- a row that is left out has no line, another has one
  text-one : (r : Row) → row_texts h bits rs (printed_rows h bits (r ∷ [])) ≡ printed_text h bits r (kept_row rs r)
  unfolding row_texts printed_text
  text-one r = go (is_left_out h bits r) refl
    where
      text : Row → List ℕ
      text q = row_text h bits (kept_row rs q)

      go : (b : Bool) → is_left_out h bits r ≡ b → map text (printed_rows h bits (r ∷ [])) ≡ cond b [] (text r ∷ [])
      go true e = ap (map text) (printed-out h bits r [] e ∙ printed-none h bits)
      go false e = ap (map text) (printed-in h bits r [] e ∙ ap {B = List Row} (λ ps. r ∷ ps) (printed-none h bits))

  -- a row, and rows behind it
  pub texts-first : (q : Row) (qs ps : List Row) → qs ≡ q ∷ ps → row_texts h bits rs (printed_rows h bits qs) ≡ printed_text h bits q (kept_row rs q) ++ row_texts h bits rs (printed_rows h bits ps)
  unfolding row_texts
  texts-first q qs ps e =
      let text : Row → List ℕ = λ q. row_text h bits (kept_row rs q) in
      ap (λ (l : List Row). map text (printed_rows h bits l)) e
      ∙ ap (map text) (printed-append h bits (q ∷ []) ps)
      ∙ map-append text (printed_rows h bits (q ∷ [])) (printed_rows h bits ps)
      ∙ ap (λ (ls : List (List ℕ)). ls ++ map text (printed_rows h bits ps)) (text-one q)

  pub texts-end : (qs : List Row) → qs ≡ [] → row_texts h bits rs (printed_rows h bits qs) ≡ []
  texts-end qs e = ap (λ (l : List Row). row_texts h bits rs (printed_rows h bits l)) e ∙ texts-none

pub text_out : (h : Head) (bits : List ℕ) (r kept : Row) → is_left_out h bits r ≡ true → printed_text h bits r kept ≡ []
unfolding printed_text
text_out h bits r kept e = rw e

pub text_in : (h : Head) (bits : List ℕ) (r kept : Row) → is_left_out h bits r ≡ false → printed_text h bits r kept ≡ row_text h bits kept ∷ []
unfolding printed_text
text_in h bits r kept e = rw e
