-- What every record that a start and any moves gave has: it is fair, and a fair record shows the true gains.
use Rattle.std.proofs.Common.{◌≡◌, ℕ, ◌+◌, ◌*◌, ◌^◌, ◌<◌, ◌≤◌, Bool, true, ◌&&◌, eqb, List, [], ◌∷◌, length, sym, ap, subst, mod-eq_of_lt, arith, pow_pos, ltb-true, eqb-true}
use lib.Bits.{bit_and}
use lib.ListN.{length-replicate}
use Rattle.sets.specs.Sets.{flip, size}
use Rattle.sets.proofs.Every.{and_first, and_second}
use Rattle.sets.proofs.Members.{flip-lt}
use Rattle.sets.proofs.Size.{size-flip}
use Rattle.sets.proofs.SizeMembers.{size_few}
use Rattle.rules.specs.Limits.{most_states, most_trial}
use Rattle.rules.specs.Trial.{within, paired, all_sound}
use Rattle.rules.specs.declared.Requirement.{Requirement}
use Rattle.rules.proofs.Good.{AllGood, apart-and}
use Rattle.move_table.specs.Table.{level}
use Rattle.families.specs.Families.{requirements_in}
use Rattle.move_table.specs.Moves.{looked}
use Rattle.move_table.proofs.Lists.{looked-le}
use Rattle.move_table.proofs.Ready.{Ready}
use Rattle.move_table.proofs.Shows.{Shows, shows-filled, shows-moved}
use Rattle.move_trial.specs.declared.Trial.{Trial}
use Rattle.move_trial.specs.Record.{none, shown, asked_of, next_of}
use Rattle.move_trial.proofs.Startable.{Startable}
use Rattle.move_trial.proofs.Movable.{Movable}
use Rattle.move_trial.proofs.Listed.{paired-length, listed}

pub record Fair (t : Trial) : Type 0 where
  pub few-states : t.states ≤ most_states
  pub few : t.count ≤ most_trial
  pub asked : length (asked_of t) ≤ t.count
  pub good : AllGood t.states (asked_of t)
  pub bit : t.bit < 2 ^ t.states
  pub moved : t.moved < 2 ^ t.states
  pub looks : t.looks ≤ most_trial * size t.moved
  pub shows : Shows t.states (asked_of t) t.bit t.table

-- ---- the empty record

pub none-fair : Fair none
unfolding none size requirements_in
none-fair = record {
  few-states = omega arith;
  few = omega arith;
  asked = omega arith;
  good = tt;
  bit = omega arith;
  moved = omega arith;
  looks = omega arith;
  shows = record { long = length-replicate 64 level; each = λ k h. absurd (omega arith) };
}

-- ---- a start

-- blocks that are sound make good requirements
pub sound-good : (n : ℕ) (rs : List Requirement) → all_sound n rs ≡ true → AllGood n rs
unfolding all_sound
sound-good n [] e = tt
sound-good n (r ∷ rs) e =
    let two : Bool = within n r.first && within n r.second in
    let apart : Bool = eqb (bit_and r.first r.second) 0 in
    let e₃ = and_first (two && apart) (all_sound n rs) e in
    let e₂ = and_first two apart e₃ in (
      record {
        first = ltb-true r.first (2 ^ n) (and_first (within n r.first) (within n r.second) e₂);
        second = ltb-true r.second (2 ^ n) (and_second (within n r.first) (within n r.second) e₂);
        apart = apart-and r.first r.second (eqb-true (bit_and r.first r.second) 0 (and_second two apart e₃));
      },
      sound-good n rs (and_second (two && apart) (all_sound n rs) e),
    )

pub shown-fair : (n b : ℕ) (fs gs : List ℕ) → Startable n b fs gs → Fair (shown n b fs gs)
unfolding shown size
shown-fair n b fs gs h = record {
  few-states = h.few-states;
  few = h.few;
  asked = few-asked;
  good = good;
  bit = h.bit;
  moved = pow_pos n;
  looks = omega arith;
  shows = shows-filled n (asked_of (shown n b fs gs)) ready b h.bit;
}
  where
    given : AllGood n (paired fs gs)
    given = sound-good n (paired fs gs) h.sound

    lists : asked_of (shown n b fs gs) ≡ paired fs gs
    lists = listed n fs gs h.like h.few given

    few-asked : length (asked_of (shown n b fs gs)) ≤ length fs
    few-asked = omega (arith, ap length lists, paired-length fs gs h.like)

    good : AllGood n (asked_of (shown n b fs gs))
    good = subst (AllGood n) (sym lists) given

    ready : Ready n (asked_of (shown n b fs gs))
    ready = record { some = h.some-states; fits = omega (arith, h.few-states); few = omega (arith, h.few, few-asked); good = good }

-- ---- a move

module _ (t : Trial) (s : ℕ) (fair : Fair t) (h : Movable t.states t.count t.moved s) where
  -- the looks are far from 64 digits
  pub looks_fit : t.looks + looked (asked_of t) t.bit (flip t.bit s) s < 2 ^ 64
  looks_fit =
      omega (
        arith,
        fair.looks,
        fair.few,
        fair.few-states,
        size_few t.states t.moved fair.moved,
        looked-le (asked_of t) t.bit (flip t.bit s) s,
        fair.asked,
      )

  pub next-looks : (next_of t s).looks ≡ t.looks + looked (asked_of t) t.bit (flip t.bit s) s
  unfolding next_of
  next-looks = mod-eq_of_lt looks_fit

  pub fair-ready : Ready t.states (asked_of t)
  fair-ready = record {
    some = omega (arith, h.state);
    fits = omega (arith, fair.few-states);
    few = omega (arith, fair.few, fair.asked);
    good = fair.good;
  }

  looks-few : (next_of t s).looks ≤ most_trial * size (flip t.moved s)
  looks-few =
      omega (
        arith,
        next-looks,
        fair.looks,
        fair.few,
        h.unmoved-yet,
        size-flip t.states t.moved s fair.moved h.state,
        looked-le (asked_of t) t.bit (flip t.bit s) s,
        fair.asked,
      )

  pub next-fair : Fair (next_of t s)
  unfolding next_of
  next-fair = record {
    few-states = fair.few-states;
    few = fair.few;
    asked = fair.asked;
    good = fair.good;
    bit = flip-lt t.states t.bit s fair.bit h.state;
    moved = flip-lt t.states t.moved s fair.moved h.state;
    looks = looks-few;
    shows = shows-moved t.states (asked_of t) fair-ready t.bit fair.bit s h.state t.table fair.shows;
  }
