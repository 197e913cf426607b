-- What gain tables ask of n states and a list of requirements, so that they show 01's gains: it is shown once, and kept from bit to bit.
use mathlib.Core.List.{List}
use Prim.Native.Nat.{ℕ, ◌^◌, ◌≤◌, ◌<◌}
use native.Mathlib.Omega.{arith}
use lib.ListN.{length}
use Rattle.rules.specs.Requirements.{requirements}
use Rattle.rules.specs.Code.{unmet_by}
use Rattle.rules.specs.declared.Requirement.{Requirement}
use Rattle.rules.specs.declared.Listing.{Listing}
use Rattle.rules.proofs.Sound.{Sound}
use Rattle.rules.proofs.Most.{most-requirements}
use Rattle.rules.proofs.Good.{AllGood, good-unmet, requirements-good}
use Rattle.rules.proofs.Gains.{left-count}

pub record Ready (n : ℕ) (rs : List Requirement) : Type 0 where
  pub some : 0 < n
  pub fits : n ≤ 64
  pub few : length rs ≤ 2 ^ 20
  pub good : AllGood n rs

pub sound-ready : (t : Listing) → Sound t → Ready t.head.states (requirements t)
sound-ready t s = record {
  some = s.head.some-states;
  fits = omega (arith, s.head.few-states);
  few = omega (arith, most-requirements t s);
  good = requirements-good t s;
}

pub ready-left : (n b : ℕ) (rs : List Requirement) → Ready n rs → Ready n (unmet_by n b rs)
ready-left n b rs h = record { some = h.some; fits = h.fits; few = omega (arith, h.few, left-count n b rs); good = good-unmet n b rs h.good }
