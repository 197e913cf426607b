-- A start and any calls of a move after it, refused ones among them: the gains and the looks that the record then shows are true, and at
-- most four looks fall on a requirement.
use Rattle.std.proofs.Common.{◌≡◌, ℕ, zero, suc, ◌*◌, ◌<◌, ◌≤◌, Bool, true, false, cond, List, [], ◌∷◌, length, get_or, sym, refl, ap, ◌∙◌, subst, arith}
use lib.IntN.{sub_ℕ}
use Rattle.sets.specs.Sets.{flip}
use Rattle.rules.specs.Listing.{no_requirement}
use Rattle.rules.specs.Requirements.{met_count}
use Rattle.rules.specs.Looks.{looks}
use Rattle.rules.specs.Trial as rules
use Rattle.rules.specs.Trial.{startable}
use Rattle.rules.specs.declared.Requirement.{Requirement}
use Rattle.rules.specs.declared.StateNumber.{StateNumber}
use Rattle.rules.proofs.Good.{Good, AllGood}
use Rattle.rules.proofs.Runs.{Once, Below}
use Rattle.rules.proofs.FourLooks.{four-looks, looks_each, looks-each}
use Rattle.rules.proofs.TrialRuns as runs
use Rattle.rules.proofs.TrialRuns.{Moved, calls_moved, gain-true}
use Rattle.move_trial.specs.declared.Trial.{Trial}
use Rattle.move_trial.specs.Record.{taken, turned_down, none, shown, start_of, asked_of, move_of, gain_of}
use Rattle.move_trial.proofs.Movable.{no-state}
use Rattle.move_trial.proofs.Shown.{shown_by, Reached, by-start, by_move, reached-fair, move-shown, gain-shown}

-- ---- refusals

-- every move on the empty record is refused
pub none-refuses : (s : StateNumber) → move_of none s ≡ turned_down none
unfolding move_of none
none-refuses s = rw (sym (no-state 0 0 0 s.0 (omega arith) (omega arith) (omega arith)))

-- ---- calls

-- the record after some calls of a move
unfoldable pub called : Trial → List StateNumber → Trial
called t [] = t
called t (s ∷ ss) = called (move_of t s).trial ss

pub called-reached : (cs : List StateNumber) (t : Trial) → Reached t → Reached (called t cs)
unfolding called
called-reached [] t r = r
called-reached (s ∷ cs) t r = called-reached cs (move_of t s).trial (by_move t s r)

-- it shows what the same calls make of the rules' record
pub called-shown : (cs : List StateNumber) (t : Trial) → Reached t → shown_by (called t cs) ≡ runs.called (shown_by t) cs
unfolding called runs.called
called-shown [] t r = refl
called-shown (s ∷ cs) t r =
    called-shown cs (move_of t s).trial (by_move t s r)
    ∙ ap (λ (a : rules.Tried). runs.called a.trial cs) (move-shown t r s)

-- ---- looks on a list of requirements, at most four on each

four-a-piece : (n : ℕ) (rs : List Requirement) → AllGood n rs → (b : ℕ) (ss : List ℕ) → Once ss → Below n ss
    → looks_each n rs b ss ≤ 4 * length rs
unfolding looks_each
four-a-piece n [] good b ss o l = omega arith
four-a-piece n (r ∷ rs) good b ss o l = omega (arith, four-looks n r good.0.apart b ss o l, four-a-piece n rs good.1 b ss o l)

good-at : (n : ℕ) (rs : List Requirement) → AllGood n rs → (i : ℕ) → i < length rs → Good n (get_or rs i no_requirement)
good-at n [] good i h = absurd (omega arith)
good-at n (r ∷ rs) good zero h = good.0
good-at n (r ∷ rs) good (suc i) h = good-at n rs good.1 i (omega arith)

-- ---- a start and some calls

module _ (n b : ℕ) (fs gs : List ℕ) (cs : List StateNumber) where
  -- the record of the start, and the record after the calls
  abbrev pub first : Trial
  first = (start_of n b fs gs).trial

  abbrev pub last : Trial
  last = called first cs

  -- those of the calls that were accepted
  abbrev pub moves : List ℕ
  moves = (calls_moved cs (shown_by first)).0

  pub last-reached : Reached last
  last-reached = called-reached cs first (by-start n b fs gs)

  -- what the record shows, these moves made: each of a state below n, none of them twice
  pub last-moved : Moved (shown_by first) moves (shown_by last)
  last-moved = subst (Moved (shown_by first) moves) (sym (called-shown cs first (by-start n b fs gs))) (calls_moved cs (shown_by first)).1

  -- each gain shown is what is met after the flip, less what is met now
  pub gains-true : (s : StateNumber)
      → gain_of last s ≡ sub_ℕ (met_count last.states (asked_of last) (flip last.bit s.0)) (met_count last.states (asked_of last) last.bit)
  gains-true s = gain-shown last last-reached s ∙ gain-true (shown_by last) s

  -- at most four of the moves look at any one requirement
  pub four-on-each : (i : ℕ) → i < length (asked_of first) → looks first.states (get_or (asked_of first) i no_requirement ∷ []) first.bit moves ≤ 4
  four-on-each i h =
      four-looks first.states (get_or (asked_of first) i no_requirement)
      (good-at first.states (asked_of first) (reached-fair first (by-start n b fs gs)).good i h).apart
      first.bit moves last-moved.once last-moved.below

  first-looks : first.looks ≡ 0
  unfolding start_of shown none
  first-looks = go (startable n b fs gs)
    where
      go : (c : Bool) → (cond c (taken (shown n b fs gs)) (turned_down none)).trial.looks ≡ 0
      go true = refl
      go false = refl

  -- the looks shown are the looks of the moves on each requirement, summed
  pub looks-true : last.looks ≡ looks_each first.states (asked_of first) first.bit moves
  looks-true = omega (arith, last-moved.looks-sum, first-looks, looks-each first.states (asked_of first) first.bit moves)

  pub looks-most : last.looks ≤ 4 * first.count
  looks-most =
      let fair = reached-fair first (by-start n b fs gs) in
      let each = four-a-piece first.states (asked_of first) fair.good first.bit moves last-moved.once last-moved.below in
      omega (arith, looks-true, each, fair.asked)
