-- What a trial record shows, read as the record of 01's rules: of each record that a start and any moves gave, the moves and the gains are
-- those of the rules.
use Rattle.std.proofs.Common.{◌≡◌, ℕ, ◌+◌, ◌<◌, ◌≤◌, Bool, true, false, cond, List, get_or, sym, refl, ap, ◌∙◌, arith}
use native.Mathlib.Decide.{dec_lt}
use Rattle.sets.specs.Sets.{flip}
use Rattle.rules.specs.Requirements.{met_count}
use Rattle.rules.specs.Looks.{move_looks}
use Rattle.rules.specs.OneBit.{gain}
use Rattle.rules.specs.Trial as rules
use Rattle.rules.specs.Trial.{paired, startable}
use Rattle.rules.specs.declared.Requirement.{Requirement}
use Rattle.rules.specs.declared.StateNumber.{StateNumber}
use Rattle.move_table.specs.Table.{level}
use Rattle.families.specs.Families.{requirements_in}
use Rattle.move_table.proofs.Looks.{looked-looks}
use Rattle.move_trial.specs.declared.Trial.{Trial}
use Rattle.move_trial.specs.declared.Answer.{Answer}
use Rattle.move_trial.specs.Record.{taken, turned_down, none, shown, start_of, asked_of, next_of, move_of, gain_of}
use Rattle.move_trial.specs.Movable.{movable}
use Rattle.move_trial.proofs.Startable.{startable-has}
use Rattle.move_trial.proofs.Movable.{Movable, movable-has, within-limits}
use Rattle.move_trial.proofs.Levels.{same-less}
use Rattle.move_trial.proofs.Made.{gain-none, gain-read}
use Rattle.move_trial.proofs.Outside.{gain-out}
use Rattle.move_trial.proofs.Listed.{listed}
use Rattle.move_trial.proofs.Fair.{Fair, sound-good, none-fair, shown-fair, next-fair, next-looks}

-- the record of the rules that a record shows
abbrev pub shown_by : Trial → rules.Trial
shown_by t = record { states = t.states; asked = asked_of t; bit = t.bit; moved = t.moved; looks = t.looks }

-- and so of an answer
abbrev pub shown_in : Answer → rules.Tried
shown_in a = record { verdict = a.verdict; trial = shown_by a.trial }

-- a record that a start and any moves after it gave, a refused start's included
pub data Reached : Trial → Type 0 where
  by-start : (n b : ℕ) (fs gs : List ℕ) → Reached (start_of n b fs gs).trial
  by_move : (t : Trial) (s : StateNumber) → Reached t → Reached (move_of t s).trial

-- ---- every such record is fair

start-fair : (n b : ℕ) (fs gs : List ℕ) → Fair (start_of n b fs gs).trial
unfolding start_of
start-fair n b fs gs = go (startable n b fs gs) refl
  where
    go : (c : Bool) → startable n b fs gs ≡ c → Fair (cond c (taken (shown n b fs gs)) (turned_down none)).trial
    go true e = shown-fair n b fs gs (startable-has n b fs gs e)
    go false e = none-fair

move-fair : (t : Trial) (s : StateNumber) → Fair t → Fair (move_of t s).trial
unfolding move_of
move-fair t s fair = go (movable t.states t.count t.moved s.0) refl
  where
    go : (c : Bool) → movable t.states t.count t.moved s.0 ≡ c → Fair (cond c (taken (next_of t s.0)) (turned_down t)).trial
    go true e = next-fair t s.0 fair (movable-has t.states t.count t.moved s.0 e)
    go false e = fair

pub reached-fair : (t : Trial) → Reached t → Fair t
reached-fair t (by-start n b fs gs) = start-fair n b fs gs
reached-fair t (by_move u s r) = move-fair u s (reached-fair u r)

-- ---- a start is the rules' start

none-shown : shown_by none ≡ rules.empty
unfolding none requirements_in
none-shown = refl

pub start-shown : (n b : ℕ) (fs gs : List ℕ) → shown_in (start_of n b fs gs) ≡ rules.begin n b fs gs
unfolding start_of rules.begin shown
start-shown n b fs gs = go (startable n b fs gs) refl
  where
    go : (c : Bool) → startable n b fs gs ≡ c
        → shown_in (cond c (taken (shown n b fs gs)) (turned_down none))
        ≡ cond c (rules.taken (record { states = n; asked = paired fs gs; bit = b; moved = 0; looks = 0 })) (rules.turned_down rules.empty)
    go true e =
        let h = startable-has n b fs gs e in
        ap (λ (rs : List Requirement). rules.taken (record { states = n; asked = rs; bit = b; moved = 0; looks = 0 })) (listed n fs gs h.like h.few (sound-good n (paired fs gs) h.sound))
    go false e = ap rules.turned_down none-shown

-- ---- a move is the rules' move

module _ (t : Trial) (reached : Reached t) (s : StateNumber) where
  fair : Fair t
  fair = reached-fair t reached

  -- the rules' record after an accepted move, with so many looks
  abbrev after : ℕ → rules.Trial
  after l = record { states = t.states; asked = asked_of t; bit = flip t.bit s.0; moved = flip t.moved s.0; looks = l }

  next-shown : Movable t.states t.count t.moved s.0
      → shown_by (next_of t s.0) ≡ after (t.looks + move_looks t.states (asked_of t) t.bit s.0)
  unfolding next_of
  next-shown h =
      ap after
      (next-looks t s.0 fair h
      ∙ ap (λ (k : ℕ). t.looks + k) (looked-looks t.states t.bit s.0 fair.bit h.state (asked_of t) fair.good))

  pub move-shown : shown_in (move_of t s) ≡ rules.move (shown_by t) s
  unfolding move_of rules.move
  move-shown =
      go (movable t.states t.count t.moved s.0) refl
      ∙ ap (λ (c : Bool). cond c (rules.taken (after (t.looks + move_looks t.states (asked_of t) t.bit s.0))) (rules.turned_down (shown_by t)))
      (within-limits t.states t.count t.moved s.0 fair.few-states fair.few)
    where
      go : (c : Bool) → movable t.states t.count t.moved s.0 ≡ c
          → shown_in (cond c (taken (next_of t s.0)) (turned_down t))
          ≡ cond c (rules.taken (after (t.looks + move_looks t.states (asked_of t) t.bit s.0))) (rules.turned_down (shown_by t))
      go true e = ap rules.taken (next-shown (movable-has t.states t.count t.moved s.0 e))
      go false e = refl

  -- ---- the gain shown is the rules' gain, of every number

  pub gain-shown : gain_of t s ≡ rules.gain_shown (shown_by t) s
  unfolding rules.gain_shown gain
  gain-shown = go (dec_lt s.0 t.states)
    where
      go : Dec (s.0 < t.states) → gain_of t s ≡ gain t.states (asked_of t) t.bit s.0
      go (yes h) =
          let v : ℕ = get_or t.table s.0 0 in
          let after-flip : ℕ = met_count t.states (asked_of t) (flip t.bit s.0) in
          let now : ℕ = met_count t.states (asked_of t) t.bit in
          let e : v + now ≡ level + after-flip = fair.shows.each s.0 h in
          sym (gain-read t s v h refl) ∙ same-less v level after-flip now (omega arith)
      go (no h) = let l : t.states ≤ s.0 = omega arith in sym (gain-none t s l) ∙ sym (gain-out t.states t.bit s.0 l (asked_of t))
