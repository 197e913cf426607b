-- One move of a pass, as code makes it step by step.
use Rattle.std.proofs.Common.{◌≡◌, ℕ, suc, ◌+◌, ◌-◌, ◌<◌, ◌≤◌, List, get_or, sym, ap, subst, arith}
use Rattle.sets.specs.Sets.{flip}
use Rattle.rules.specs.declared.Requirement.{Requirement}
use Rattle.move_table.specs.Moves.{moved, looked}
use Rattle.bit_choice.specs.Pass.{Going, highest, reached, best_of, going, go_on, go_moves}
use Rattle.bit_choice.proofs.Highest.{highest-lt}
use Rattle.bit_choice.specs.declared.Passed.{Passed}
use Rattle.bit_choice.specs.declared.Way.{Way}

-- the state chosen is one of 64
pub chosen-lt : (n s free : ℕ) (t : List ℕ) → n ≤ 64 → s ≡ highest free t n → s < 64
chosen-lt n s free t h e = subst (λ (k : ℕ). k < 64) (sym e) (highest-lt 64 free t n (omega arith) h)

module _ (n : ℕ) (rs : List Requirement) (w : Way) (t : List ℕ) where
  pub go_on_lem : (s a f v l m : ℕ) (t' : List ℕ) (p : Passed) → n ≤ 64
      → s ≡ highest w.free t n → (s < 64 → a ≡ flip w.bit s) → (s < 64 → f ≡ flip w.free s) → v ≡ get_or t s 0 → l ≡ reached w.level v
      → m ≡ looked rs w.bit a s → t' ≡ moved rs w.bit a s t → p ≡ best_of w.best a l m
      → going (record { bit = a; free = f; level = l; best = p }) t' ≡ go_on n rs (going w t)
  unfolding go_on
  go_on_lem s a f v l m t' p h es ea ef ev el em et ep =
      let q : s < 64 = chosen-lt n s w.free t h es in
      let a₁ : a ≡ flip w.bit s = ea q in
      let f₁ : f ≡ flip w.free s = ef q in
      cc

-- the moves of a pass, as a loop makes them
pub moves-start : (n : ℕ) (rs : List Requirement) (g : Going) → go_moves (n - 0) n rs g ≡ go_moves n n rs g
moves-start n rs g = let e : n - 0 ≡ n = omega arith in ap (λ (k : ℕ). go_moves k n rs g) e

pub moves_more : (n i : ℕ) (rs : List Requirement) (g : Going) → i < n → go_moves (n - i) n rs g ≡ go_moves (n - (i + 1)) n rs (go_on n rs g)
unfolding go_moves
moves_more n i rs g h = let e : n - i ≡ suc (n - (i + 1)) = omega arith in ap (λ (k : ℕ). go_moves k n rs g) e

pub moves-end : (n i : ℕ) (rs : List Requirement) (g : Going) → n ≤ i → go_moves (n - i) n rs g ≡ g
unfolding go_moves
moves-end n i rs g h = let e : n - i ≡ 0 = omega arith in ap (λ (k : ℕ). go_moves k n rs g) e
