-- The lines of what was found, by their fields, and how the listing is read.
use Rattle.std.specs.Prelude.{Some}
use mathlib.Core.Path.{◌≡◌, refl}
use mathlib.Core.List.{List, [], ◌∷◌, ◌++◌, append_assoc}
use Prim.Native.Nat.{ℕ}
use Rattle.rules.specs.Text.{bytes, lf, space, decimal}
use Rattle.rules.specs.Listing.{reading}
use Rattle.rules.specs.Check.{fault_line}
use Rattle.rules.specs.declared.Fault.{Fault}
use Rattle.host_replies.specs.Plans.{is_kiss, is_small, reading_as}
use Rattle.host_replies.specs.declared.plans.Form.{Form}

pub at_fields : (f : Fault) → bytes "AT " ++ ((decimal f.state.0 ++ (space ∷ [])) ++ (decimal f.input ++ (lf ∷ []))) ≡ fault_line (Some f)
unfolding fault_line
at_fields f = simp append_assoc

pub as_listing : (s : List ℕ) → reading_as Form.Listing s ≡ reading s
unfolding reading_as is_kiss is_small
as_listing s = refl
