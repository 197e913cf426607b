-- What a trial record shows after a start and any calls of a move, refused ones among them (01, "Looks").
use mathlib.Core.Path.{◌≡◌, refl, sym, ◌∙◌, subst}
use mathlib.Core.Bool.{Bool, true, false, ◌&&◌, cond}
use mathlib.Core.List.{List, [], ◌∷◌}
use Prim.Native.Nat.{ℕ, ◌+◌, ◌≤◌, ◌<◌}
use native.Mathlib.Nat.{add_assoc, add-zero}
use native.Mathlib.Omega.{arith}
use lib.Dec.{ltb, eqb}
use lib.IntN.{sub_ℕ}
use borrow.Author.Tests.{ltb-true, eqb-true}
use Rattle.sets.specs.Sets.{has, flip}
use Rattle.sets.proofs.Members.{has-flip, has-flip-other}
use Rattle.sets.proofs.Every.{and_first, and_second}
use Rattle.rules.specs.Requirements.{met_count}
use Rattle.rules.specs.Looks.{move_looks, looks}
use Rattle.rules.specs.OneBit.{gain}
use Rattle.rules.specs.Trial.{Trial, move, gain_shown, taken, turned_down}
use Rattle.rules.specs.declared.Requirement.{Requirement}
use Rattle.rules.specs.declared.StateNumber.{StateNumber}
use Rattle.rules.proofs.Counts.{Apart}
use Rattle.rules.proofs.Runs.{Fresh, Once, Below}
use Rattle.rules.proofs.Passes.{after}
use Rattle.rules.proofs.FourLooks.{four-looks}

-- the record after some calls of a move
unfoldable pub called : Trial → List StateNumber → Trial
called t [] = t
called t (s ∷ ss) = called (move t s).trial ss

-- the accepted moves ss made u of t: no state that had moved moves, none moves twice, and the looks are those of the moves
pub record Moved (t : Trial) (ss : List ℕ) (u : Trial) : Type 0 where
  pub same-states : u.states ≡ t.states
  pub same_asked : u.asked ≡ t.asked
  pub bit-after : u.bit ≡ after t.bit ss
  pub free-before : (s : ℕ) → has t.moved s ≡ 1 → Fresh s ss
  pub once : Once ss
  pub below : Below t.states ss
  pub looks-sum : u.looks ≡ t.looks + looks t.states t.asked t.bit ss

moved_none : (t : Trial) → Moved t [] t
unfolding after looks
moved_none t = record {
  same-states = refl;
  same_asked = refl;
  bit-after = refl;
  free-before = λ s h. tt;
  once = tt;
  below = tt;
  looks-sum = sym (add-zero t.looks);
}

-- the record after an accepted move of s
abbrev stepped : Trial → ℕ → Trial
stepped t s = record {
  states = t.states;
  asked = t.asked;
  bit = flip t.bit s;
  moved = flip t.moved s;
  looks = t.looks + move_looks t.states t.asked t.bit s;
}

moved_more : (t : Trial) (s : ℕ) (ss : List ℕ) (u : Trial) → s < t.states → has t.moved s ≡ 0 → Moved (stepped t s) ss u → Moved t (s ∷ ss) u
unfolding after looks
moved_more t s ss u p q m = record {
  same-states = m.same-states;
  same_asked = m.same_asked;
  bit-after = m.bit-after;
  free-before = λ v h. (differs v h, m.free-before v (has-flip-other t.moved s v (λ e. differs v h (sym e)) ∙ h));
  once = (m.free-before s (let e = has-flip t.moved s in omega arith), m.once);
  below = (p, m.below);
  looks-sum = m.looks-sum ∙ add_assoc t.looks (move_looks t.states t.asked t.bit s) (looks t.states t.asked (flip t.bit s) ss);
}
  where
    differs : (v : ℕ) → has t.moved v ≡ 1 → s ≡ v → ⊥
    differs v h e = let z : has t.moved s ≡ 1 = subst (λ (k : ℕ). has t.moved k ≡ 1) (sym e) h in omega arith

-- whatever is called, the record is what some accepted moves made
pub calls_moved : (cs : List StateNumber) (t : Trial) → (ss : List ℕ) × Moved t ss (called t cs)
unfolding called move
calls_moved [] t = ([], moved_none t)
calls_moved (c ∷ cs) t =
    go (ltb c.0 t.states && eqb (has t.moved c.0) 0) refl (calls_moved cs (stepped t c.0)) (calls_moved cs t)
  where
    go : (b : Bool) → (ltb c.0 t.states && eqb (has t.moved c.0) 0) ≡ b
        → ((ss : List ℕ) × Moved (stepped t c.0) ss (called (stepped t c.0) cs)) → ((ss : List ℕ) × Moved t ss (called t cs))
        → (ss : List ℕ) × Moved t ss (called (cond b (taken (stepped t c.0)) (turned_down t)).trial cs)
    go true e yea nay =
        let p : ltb c.0 t.states ≡ true = and_first (ltb c.0 t.states) (eqb (has t.moved c.0) 0) e in
        let q : eqb (has t.moved c.0) 0 ≡ true = and_second (ltb c.0 t.states) (eqb (has t.moved c.0) 0) e in
        (c.0 ∷ yea.0, moved_more t c.0 yea.0 (called (stepped t c.0) cs) (ltb-true c.0 t.states p) (eqb-true (has t.moved c.0) 0 q) yea.1)
    go false e yea nay = nay

-- the looks that a record shows are those of its moves, and at most four of them fall on any one requirement whose blocks are apart
pub trial-four : (t : Trial) (cs : List StateNumber) (r : Requirement) → Apart r.first r.second
    → looks t.states (r ∷ []) t.bit (calls_moved cs t).0 ≤ 4
trial-four t cs r apart = let m = calls_moved cs t in four-looks t.states r apart t.bit m.0 m.1.once m.1.below

-- the gain that a record shows is the true change, counted afresh
pub gain-true : (t : Trial) (s : StateNumber) → gain_shown t s ≡ sub_ℕ (met_count t.states t.asked (flip t.bit s.0)) (met_count t.states t.asked t.bit)
unfolding gain_shown gain
gain-true t s = refl
