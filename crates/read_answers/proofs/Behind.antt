-- Whether anything stands behind the line that ends a text: nothing does exactly when no byte is left.
use mathlib.Core.Path.{◌≡◌, refl}
use mathlib.Core.Bool.{Bool, true, false, cond}
use mathlib.Core.List.{List, [], ◌∷◌}
use Prim.Native.Nat.{ℕ, ◌≤◌}
use native.Mathlib.Omega.{arith}
use lib.Dec.{eqb}
use lib.ListN.{length}
use Rattle.rules.specs.Text.{push, split, lines_of}
use Rattle.rules.specs.Listing.{nothing}
use Rattle.read_pieces.proofs.Laws.{split-some}

pub none-behind : (s : List ℕ) → length s ≡ 0 → nothing (lines_of s) ≡ true
unfolding split nothing
none-behind [] h = refl
none-behind (x ∷ xs) h = absurd (omega arith)

cond-behind : (b : Bool) (x : ℕ) (ps : List (List ℕ)) → 1 ≤ length ps → nothing (cond b ([] ∷ ps) (push x ps)) ≡ false
unfolding nothing
cond-behind true x [] h = absurd (omega arith)
cond-behind true x (p ∷ ps) h = refl
cond-behind false x [] h = refl
cond-behind false x (p ∷ ps) h = refl

pub some-behind : (s : List ℕ) → (length s ≡ 0 → ⊥) → nothing (lines_of s) ≡ false
unfolding split
some-behind [] h = absurd (h refl)
some-behind (x ∷ xs) h = cond-behind (eqb x 10) x (split 10 xs) (split-some 10 xs)
