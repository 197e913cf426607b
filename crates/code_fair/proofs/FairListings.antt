-- The requirements of every fair listing: there are at most 4,400, and each is good. Every listing that a reader accepts is fair.
use mathlib.Core.Path.{◌≡◌, subst}
use mathlib.Core.Bool.{true}
use Prim.Native.Nat.{◌≤◌, ◌<◌}
use native.Mathlib.Omega.{arith}
use lib.ListN.{length, length-take}
use lib.Seq.{get_or-take}
use Rattle.rules.specs.Limits.{most_asked}
use Rattle.rules.specs.Listing.{no_requirement}
use Rattle.rules.specs.Requirements.{requirements}
use Rattle.rules.specs.declared.Listing.{Listing}
use Rattle.rules.proofs.Sound.{Sound, rows-length, row_of}
use Rattle.rules.proofs.Most.{most-requirements}
use Rattle.rules.proofs.Good.{AllGood, requirements-good}
use Rattle.code_fair.specs.Fair.{fair}
use Rattle.code_fair.proofs.Limits.{fair-grants, grants-fair}
use Rattle.code_fair.proofs.Twin.{twin, same-requirements, twin-sound}

module _ (t : Listing) (e : fair t ≡ true) where
  pub few-requirements : length (requirements t) ≤ most_asked
  few-requirements = rw (← same-requirements t) (most-requirements (twin t) (twin-sound t (fair-grants t e)))

  pub good-requirements : AllGood t.head.states (requirements t)
  unfolding twin
  good-requirements = subst (AllGood t.head.states) (same-requirements t) (requirements-good (twin t) (twin-sound t (fair-grants t e)))

-- ---- accepted listings

pub sound-fair : (t : Listing) → Sound t → fair t ≡ true
sound-fair t s = grants-fair t record {
  limits = record {
    some-states = s.head.some-states;
    few-states = s.head.few-states;
    few_bits = s.head.few_bits;
    few-rows = s.few-rows;
    few-dichotomies = s.few-dichotomies;
  };
  group = λ k h. (row_of t s k (omega (arith, rows-length t s))).group;
  dichotomy = λ k h.
      let in-t : k < t.dichotomies = omega (arith, length-take t.dichotomies t.asked) in
      rw (get_or-take t.dichotomies t.asked k no_requirement in-t) (s.dichotomy k in-t);
}
