-- `read_fields::places_of` meets its contract: the characters from i on are in order, and the two masks stand for them.
use mathlib.Core.Path.{◌≡◌}
use mathlib.Core.Bool.{true}
use Prim.Native.Nat.{◌≤◌}
use lib.ListN.{length, drop}
use Rattle.rules.specs.Text.{all_of, set_of}
use Rattle.read_fields.proofs.places_of.Given as goal

abbrev pub invariant-loop-i : goal.invariant-loop-i
invariant-loop-i l = (l.i ≤ length l.f) × (length l.f ≤ 64) × (all_of l.a l.b l.c (drop l.i l.f) ≡ true) × (l.m ≡ set_of l.b (drop l.i l.f)) × (l.n ≡ set_of l.c (drop l.i l.f))
