-- `read_fields::numeral_of` meets its contract: the digits from i on, behind those that made v, say what the whole field says.
use mathlib.Core.Path.{◌≡◌}
use Prim.Native.Nat.{◌^◌, ◌≤◌, ◌<◌}
use lib.ListN.{length, drop}
use Rattle.rules.specs.Text.{digits_of, numeral_of}
use Rattle.read_fields.proofs.numeral_of.Given as goal

abbrev pub invariant-loop-x : goal.invariant-loop-x
invariant-loop-x l = (length l.f ≤ 4) × (l.v < 10 ^ l.x-index) × (digits_of l.v (drop l.x-index l.f) ≡ numeral_of l.f)
