-- A `DI` line: what stands behind its mark is one field in order or refused, one of the first 64 or refused.
use Rattle.rules.specs.declared.Requirement.{Requirement}
use Rattle.rules.specs.declared.Refusal.{Refusal}
use Rattle.std.specs.Prelude.{Result, Ok, Err, Some, None}
use mathlib.Core.Path.{◌≡◌, refl, ◌∙◌}
use mathlib.Core.Bool.{Bool, ◌&&◌, cond}
use mathlib.Core.List.{List, [], ◌∷◌}
use Prim.Native.Nat.{ℕ, ◌+◌, ◌≤◌, ◌<◌}
use native.Mathlib.Omega.{arith}
use lib.ListN.{length, get_or, drop}
use lib.Dec.{leb, eqb, eqb-suc-suc}
use borrow.Author.Tests.{eqb-true}
use Rattle.sets.proofs.Every.{and_first, and_second}
use Rattle.rules.specs.Limits.{most_states, most_dichotomies}
use Rattle.rules.specs.Text.{plus, dash, dot, space, split, sized, set_of}
use Rattle.rules.specs.Lines.{dichotomy_line}
use Rattle.rules.specs.declared.Head.{Head}
use Rattle.rules.specs.declared.Refusal.TheVariants.{BadLine, Limit}
use Rattle.read_fields.specs.Fields.{places_in}
use Rattle.read_fields.proofs.Characters.{sized-turn}
use Rattle.read_fields.proofs.Sets.{places-sized}
use Rattle.read_pieces.proofs.Laws.{Cut}
use Rattle.read_lines.proofs.Fields.{field-last}

-- what a field that is in order says, behind so many others
abbrev said : Bool → List ℕ → Result Requirement Refusal
said s f = cond s (Err Limit) (Ok (record { first = set_of plus f; second = set_of dash f }))

-- the mark is a piece, and the rest decides
line-pieces : (h : Head) (count : ℕ) (l f : List ℕ) (ps : List (List ℕ)) {s : Bool} → leb most_dichotomies count ≡ s → split space l ≡ f ∷ ps
    → dichotomy_line h count l ≡ cond (eqb (length ps) 1 && sized most_states h.states plus dash dot (get_or ps 0 [])) (said s (get_or ps 0 [])) (Err BadLine)
unfolding dichotomy_line
line-pieces h count l f ps s e = rw (e, eqb-suc-suc (length ps) 1, s)

-- a field in order is one piece, and one piece is the field
rest-pieces : (k : ℕ) (t : List ℕ) (s b : Bool) → sized most_states k plus dash dot t ≡ b
    → cond (eqb (length (split space t)) 1 && sized most_states k plus dash dot (get_or (split space t) 0 [])) (said s (get_or (split space t) 0 [])) (Err BadLine)
    ≡ cond b (said s t) (Err BadLine)
rest-pieces k t s b e =
    field-last (λ ps. eqb (length ps) 1 && sized most_states k plus dash dot (get_or ps 0 [])) (λ ps. said s (get_or ps 0 [])) (Err BadLine) most_states k plus dash dot
    (λ z. omega arith) (λ z. omega arith) (λ z. omega arith) (λ ps f. and_second (eqb (length ps) 1) _ f) (λ ps f. eqb-true _ 1 (and_first _ _ f)) t
    ∙ rw e

-- the mark ends at r
module _ (h : Head) (count : ℕ) (l : List ℕ) (r : ℕ) (c : Cut space l 0 r) where
  pub dichotomy-none : length l ≤ r → dichotomy_line h count l ≡ Err BadLine
  dichotomy-none n = line-pieces h count l _ [] refl (c.last n)

  module _ {t : List ℕ} (n : r < length l) (e : t ≡ drop (r + 1) l) where
    pub dichotomy-rest : {s b : Bool} → leb most_dichotomies count ≡ s → sized most_states h.states plus dash dot t ≡ b
        → dichotomy_line h count l ≡ cond b (said s t) (Err BadLine)
    dichotomy-rest {s} {b} p q = line-pieces h count l _ _ p (c.more n) ∙ rw (← e) (rest-pieces h.states t s b q)

-- the two blocks are what a field in order says
pub blocks-sized : (k : ℕ) (t : List ℕ)
    → places_in most_states k dot plus dash t ≡ cond (sized most_states k plus dash dot t) (Some (record { second = set_of plus t; third = set_of dash t })) None
blocks-sized k t = rw (← sized-turn most_states k dot plus dash t) (places-sized dot plus dash t most_states k (λ k. omega arith) refl)
