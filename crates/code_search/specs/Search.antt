-- A search over masks: what a code takes off, and the columns tried, none lower than the one before it.
use Rattle.std.specs.Prelude.{Bool, true, false, cond, List, [], ◌∷◌, ◌++◌, ℕ, zero, suc, ◌-◌, eqb, length, get_or, drop, Option, Some, None}
use Rattle.rules.specs.Least.{First, first, none}
use Rattle.rules.proofs.Codes.{tried}
use Rattle.families.specs.Families.{without}

-- what is left behind the column v
abbrev pub behind : List ℕ → ℕ → ℕ → ℕ
behind met left v = without left (get_or met v 0)

-- a code takes off all that is left
unfoldable pub takes_all : List ℕ → ℕ → List ℕ → Bool
takes_all met left [] = eqb left 0
takes_all met left (v ∷ code) = takes_all met (behind met left v) code

-- of the codes of w columns, from that column on and none lower than the one before it, the first that does
unfoldable pub searched : List ℕ → ℕ → ℕ → ℕ → First
unfolding tried
searched met zero from left = cond (eqb left 0) (first []) none
searched met (suc w) from left = tried (λ v. searched met w v (behind met left v)) from (length met - from)

-- whether there is one, and the places where it goes
unfoldable pub told : First → List ℕ → Bool × List ℕ
told (first code) came = (true, code)
told none came = (false, came)

-- its width, and the places of which the first hold it
unfoldable pub told_width : First → List ℕ → Option ℕ × List ℕ
told_width (first code) came = (Some (length code), code ++ drop (length code) came)
told_width none came = (None, came)
