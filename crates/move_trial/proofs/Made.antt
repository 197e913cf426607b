-- The records that code makes step by step are those of the definitions.
use Rattle.std.proofs.Common.{◌≡◌, ℕ, ◌+◌, ◌*◌, ◌%◌, ◌^◌, ◌<◌, ◌≤◌, Bool, true, false, List, length, get_or, take, replicate, pos, sym, ap, ◌∙◌, ap₂, arith, le-ltb, lt-ltb}
use native.Mathlib.Nat.{add-mod-mod}
use lib.IntN.{sub_ℕ}
use Rattle.sets.specs.Sets.{flip}
use Rattle.rules.specs.Trial.{startable}
use Rattle.rules.specs.declared.StateNumber.{StateNumber}
use Rattle.move_table.specs.Table.{level}
use Rattle.families.specs.Families.{requirements_in}
use Rattle.move_table.specs.Moves.{filled, moved, looked}
use Rattle.move_trial.specs.declared.Trial.{Trial}
use Rattle.move_trial.specs.declared.Answer.{Answer}
use Rattle.move_trial.specs.Record.{taken, turned_down, stored, none, shown, start_of, asked_of, next_of, move_of, gain_of}
use Rattle.move_trial.specs.Movable.{movable}
use Rattle.move_trial.proofs.Startable.{startable-has}
use Rattle.move_trial.proofs.Movable.{movable-has}

-- a record that nothing has moved in, with the families and the table that code made
abbrev begun : ℕ → ℕ → ℕ → List ℕ → List ℕ → Trial
begun n k b families table = record { states = n; count = k; bit = b; moved = 0; looks = 0; families = families; table = table }

pub shown-made : (n b : ℕ) (fs gs families table : List ℕ) → families ≡ stored fs gs
    → table ≡ filled (requirements_in (take (3 * length fs) families)) b (replicate 64 level) → begun n (length fs) b families table ≡ shown n b fs gs
unfolding shown
shown-made n b fs gs families table p q =
    ap (begun n (length fs) b families) q
    ∙ ap (λ (l : List ℕ). begun n (length fs) b l (filled (requirements_in (take (3 * length fs) l)) b (replicate 64 level))) p

-- a start, by what the test of it said
module _ (n b : ℕ) (fs gs : List ℕ) (said : Bool) (tested : said ≡ startable n b fs gs) where
  pub start-room : said ≡ true → (length fs ≤ 256) × (length fs ≡ length gs)
  start-room e = let h = startable-has n b fs gs (sym tested ∙ e) in (h.few, h.like)

  pub start-taken : (t : Trial) (r : Answer) → said ≡ true → t ≡ shown n b fs gs → r ≡ taken t → r ≡ start_of n b fs gs
  unfolding start_of
  start-taken t r e p q = let z : startable n b fs gs ≡ true = sym tested ∙ e in rw z (q ∙ ap taken p)

  pub start-refused : (t : Trial) (r : Answer) → said ≡ false → t ≡ none → r ≡ turned_down t → r ≡ start_of n b fs gs
  unfolding start_of
  start-refused t r e p q = let z : startable n b fs gs ≡ false = sym tested ∙ e in rw z (q ∙ ap turned_down p)

-- the record of a move
module _ (t : Trial) (s : ℕ) where
  -- with the bit, the states that have moved, the looks and the table that the move leaves
  abbrev after : ℕ → ℕ → ℕ → List ℕ → Trial
  after a m l table = record {
    states = t.states;
    count = t.count;
    bit = a;
    moved = m;
    looks = l;
    families = t.families;
    table = table;
  }

  pub next-made : (a m l k : ℕ) (table : List ℕ) → a ≡ flip t.bit s → m ≡ flip t.moved s
      → k ≡ looked (asked_of t) t.bit (flip t.bit s) s % 2 ^ 64 → table ≡ moved (asked_of t) t.bit (flip t.bit s) s t.table → l ≡ (t.looks + k) % 2 ^ 64
      → after a m l table ≡ next_of t s
  unfolding next_of
  next-made a m l k table p q e f g =
      let n : ℕ = looked (asked_of t) t.bit (flip t.bit s) s in
      let z : l ≡ (t.looks + n) % 2 ^ 64 = g ∙ ap (λ (j : ℕ). (t.looks + j) % 2 ^ 64) e ∙ add-mod-mod t.looks n (2 ^ 64) in
      ap₂ (λ (x y : ℕ). after x y l table) p q ∙ ap₂ (λ (x : ℕ) (y : List ℕ). after (flip t.bit s) (flip t.moved s) x y) z f

-- a move, by what the test of it said
module _ (t : Trial) (s : StateNumber) (said : Bool) (tested : said ≡ movable t.states t.count t.moved s.0) where
  pub move-room : said ≡ true → (t.count ≤ 256) × (s.0 < 64)
  move-room e = let h = movable-has t.states t.count t.moved s.0 (sym tested ∙ e) in (h.few, omega (arith, h.state, h.few-states))

  pub move_taken : (u : Trial) (r : Answer) → said ≡ true → u ≡ next_of t s.0 → r ≡ taken u → r ≡ move_of t s
  unfolding move_of
  move_taken u r e p q = let z : movable t.states t.count t.moved s.0 ≡ true = sym tested ∙ e in rw z (q ∙ ap taken p)

  pub move-refused : (r : Answer) → said ≡ false → r ≡ turned_down t → r ≡ move_of t s
  unfolding move_of
  move-refused r e q = let z : movable t.states t.count t.moved s.0 ≡ false = sym tested ∙ e in rw z q

-- the gain that a record shows
module _ (t : Trial) (s : StateNumber) where
  pub gain-none : t.states ≤ s.0 → pos 0 ≡ gain_of t s
  unfolding gain_of
  gain-none h = rw (le-ltb s.0 t.states h)

  pub gain-read : (v : ℕ) → s.0 < t.states → v ≡ get_or t.table s.0 0 → sub_ℕ v level ≡ gain_of t s
  unfolding gain_of
  gain-read v h e = rw (lt-ltb s.0 t.states h) (ap (λ (w : ℕ). sub_ℕ w level) e)
