-- A cover that comes in pieces, each read with what was left of the one before it: the verdict and the tables are those of the whole.
use mathlib.Core.Path.{◌≡◌, refl, sym, ap, ap₂, ◌∙◌}
use mathlib.Core.List.{List, [], ◌∷◌, ◌++◌, append_assoc}
use Prim.Native.Nat.{ℕ}
use Rattle.rules.specs.Text.{lines_of}
use Rattle.rules.specs.CheckTexts.{no_heads, cover_reading}
use Rattle.rules.specs.Refusals.{Verdict}
use Rattle.judge_reading.specs.Tables.{tables_from}
use Rattle.judge_reading.specs.Pieces.{last_of, whole_reached, whole_tables, closed_by, Reached, at_line}
use Rattle.judge_reading.specs.declared.Reader.{Reader}
use Rattle.judge_reading.proofs.Whole.{whole-tables, cover-verdict, carried, seam-place, seam-tables, seam-last}

-- the text that the pieces are, the last behind all others
unfoldable pub joined : List (List ℕ) → List ℕ → List ℕ
joined [] last = last
joined (a ∷ ps) last = a ++ joined ps last

module _ (q : Reader) where
  abbrev pub Found : Type 0
  Found = Verdict × (List ℕ × List ℕ)

  -- a text from a place on, to its end
  abbrev pub found_of : Reached → List ℕ → List ℕ × List ℕ → Found
  found_of p text t = (closed_by q (whole_reached p (lines_of text)) (last_of (lines_of text)), whole_tables q p (lines_of text) t)

  -- piece by piece, with the bytes that are held
  unfoldable pub in_pieces : Reached → List ℕ → List (List ℕ) → List ℕ → List ℕ × List ℕ → Found
  unfolding whole_reached last_of whole_tables closed_by
  in_pieces p held [] last t = found_of p (held ++ last) t
  in_pieces p held (a ∷ ps) last t =
      in_pieces (whole_reached p (lines_of (held ++ a))) (last_of (lines_of (held ++ a))) ps last (whole_tables q p (lines_of (held ++ a)) t)

  behind : (p : Reached) (a z : List ℕ) (t : List ℕ × List ℕ) → found_of (whole_reached p (lines_of a)) (carried a z) (whole_tables q p (lines_of a) t) ≡ found_of p (a ++ z) t
  behind p a z t =
      ap₂ (λ (v : Verdict) (u : List ℕ × List ℕ). (v, u))
      (ap₂ (closed_by q) (sym (seam-place a z p)) (sym (seam-last a z)))
      (sym (seam-tables a z q p t))

  pub pieces-are-all : (p : Reached) (held : List ℕ) (ps : List (List ℕ)) (last : List ℕ) (t : List ℕ × List ℕ) → in_pieces p held ps last t ≡ found_of p (held ++ joined ps last) t
  unfolding in_pieces joined
  pieces-are-all p held [] last t = refl
  pieces-are-all p held (a ∷ ps) last t =
      pieces-are-all (whole_reached p (lines_of (held ++ a))) (last_of (lines_of (held ++ a))) ps last (whole_tables q p (lines_of (held ++ a)) t)
      ∙ behind p (held ++ a) (joined ps last) t
      ∙ ap (λ (s : List ℕ). found_of p s t) (append_assoc held a (joined ps last))

  -- from the start
  pub cover-in-pieces : (ps : List (List ℕ)) (last : List ℕ) (t : List ℕ × List ℕ)
      → in_pieces (at_line 1 no_heads) [] ps last t ≡ (cover_reading q.taken q.given (lines_of (joined ps last)), tables_from q no_heads (lines_of (joined ps last)) t)
  cover-in-pieces ps last t =
      pieces-are-all (at_line 1 no_heads) [] ps last t
      ∙ ap₂ (λ (v : Verdict) (u : List ℕ × List ℕ). (v, u)) (cover-verdict q (joined ps last)) (whole-tables q 1 no_heads (lines_of (joined ps last)) t)
