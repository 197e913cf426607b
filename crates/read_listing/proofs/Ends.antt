-- The end of a listing: bytes behind `EN`, a state without outputs, and a line without LF.
use mathlib.Core.Path.{◌≡◌, refl, sym, ap, ◌∙◌}
use mathlib.Core.Bool.{Bool, true, false, cond}
use mathlib.Core.List.{List, [], ◌∷◌}
use Prim.Native.Nat.{ℕ, ◌+◌, ◌-◌, ◌≤◌, ◌<◌}
use native.Mathlib.Omega.{arith}
use lib.ListN.{length, drop, length-drop}
use lib.Seq.{take_all}
use lib.Dec.{eqb}
use Rattle.sets.specs.Sets.{has, every}
use Rattle.sets.proofs.Every.{every-at, at_every}
use Rattle.rules.specs.Text.{lines_of, mark_of, mark_is}
use Rattle.rules.specs.Listing.{placed, nothing, complete, ended, unended, judged}
use Rattle.rules.specs.declared.Head.{Head}
use Rattle.rules.specs.declared.Listing.{Listing}
use Rattle.rules.specs.declared.Refusal.TheVariants.{BadLine, Place, NoOutputs}
use Rattle.rules.specs.Refusals.{Verdict, refused}
use Rattle.read_pieces.proofs.Laws.{part}
use Rattle.read_pieces.proofs.Nothing.{none-behind, some-behind}
use Rattle.read_listing.specs.Says.{outputs_verdict, end_verdict}
use Rattle.std.specs.Prelude.{Ok}

-- ---- behind `EN`: 3, then 17

pub end_more : (k : ℕ) (h : Head) (given : ℕ) (s : List ℕ) → (length s ≡ 0 → ⊥) → refused Place (k + 1) ≡ end_verdict k h given (lines_of s)
unfolding end_verdict
end_more k h given s o = rw (some-behind s o)

pub end-here : (k : ℕ) (h : Head) (given : ℕ) (s : List ℕ) → length s ≡ 0 → outputs_verdict k h given ≡ end_verdict k h given (lines_of s)
unfolding end_verdict
end-here k h given s e = rw (none-behind s e)

pub verdict-by : (k : ℕ) (h : Head) (given : ℕ) {b : Bool} → complete h given ≡ b → outputs_verdict k h given ≡ cond b (Ok tt) (refused NoOutputs k)
unfolding outputs_verdict
verdict-by k h given e = rw e

-- the listing as it stands then, with that verdict
ended-judged : (k : ℕ) (t : Listing) (rest : List (List ℕ)) → judged (end_verdict k t.head t.given rest) t ≡ ended k t rest
unfolding end_verdict outputs_verdict ended
ended-judged k t rest = go (nothing rest) (complete t.head t.given)
  where
    go : (b c : Bool)
        → judged (cond b (cond c (Ok tt) (refused NoOutputs k)) (refused Place (k + 1))) t
        ≡ cond b (cond c (Ok t) (refused NoOutputs k)) (refused Place (k + 1))
    go true true = refl
    go true false = refl
    go false c = refl

-- the bytes from a on
pub end-at : (k : ℕ) (t : Listing) (s : List ℕ) (a : ℕ) {v : Verdict} → v ≡ end_verdict k t.head t.given (lines_of (part s a (length s))) → judged v t ≡ ended k t (lines_of (drop a s))
end-at k t s a e =
    let n : length (drop a s) ≤ length s - a = omega (arith, length-drop a s) in
    ap (λ (v : Verdict). judged v t) (e ∙ ap (λ (l : List ℕ). end_verdict k t.head t.given (lines_of l)) (take_all (length s - a) (drop a s) n))
    ∙ ended-judged k t (lines_of (drop a s))

-- ---- a state without outputs

module _ (h : Head) (given : ℕ) where
  pub complete-mealy : h.moore ≡ false → complete h given ≡ true
  unfolding complete
  complete-mealy e = rw e

  pub complete-all : h.moore ≡ true → ((s : ℕ) → s < h.states → eqb (has given s) 1 ≡ true) → complete h given ≡ true
  unfolding complete
  complete-all e f = rw (e, at_every h.states (λ s. eqb (has given s) 1) f)

  pub complete-not : (s : ℕ) → h.moore ≡ true → s < h.states → eqb (has given s) 1 ≡ false → complete h given ≡ false
  unfolding complete
  complete-not s e l f = rw e (go (every h.states (λ s. eqb (has given s) 1)) refl)
    where
      go : (b : Bool) → every h.states (λ s. eqb (has given s) 1) ≡ b → b ≡ false
      go true g = sym (every-at h.states (λ s. eqb (has given s) 1) g s l) ∙ f
      go false g = refl

-- ---- a line without LF

module _ (k : ℕ) (h : Head) (given : ℕ) where
  pub unended-none : (l : List ℕ) → length l ≡ 0 → unended k h given l ≡ refused Place k
  unfolding unended
  unended-none [] e = refl
  unended-none (x ∷ xs) e = absurd (omega arith)

  pub unended-some : (l : List ℕ) {b : Bool} → (length l ≡ 0 → ⊥) → placed (mark_is (mark_of l)) k h given l ≡ b
      → unended k h given l ≡ cond b (refused BadLine k) (refused Place k)
  unfolding unended
  unended-some [] o e = absurd (o refl)
  unended-some (x ∷ xs) o e = rw e
