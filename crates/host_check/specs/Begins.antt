-- A listing and codes as a program reads them, by whether more bytes follow than a listing can have.
use Rattle.std.specs.Prelude.{Bool, cond, List, ℕ}
use Rattle.rules.specs.Refusals.{refused}
use Rattle.rules.specs.declared.Refusal.TheVariants.{Limit}
use Rattle.judge_check.specs.Checked.{Beginning, begun}

-- a listing that is too long
abbrev pub too_long : Beginning
too_long = refused Limit 0

unfoldable pub begun_for : List ℕ → Bool → List ℕ → Beginning
unfolding begun
begun_for s more codes = cond more too_long (begun s codes)
