-- `code_drawing::draw_pairs` meets its contract: the states still to come, behind the words drawn, make what all of them make.
use mathlib.Core.Path.{◌≡◌}
use Prim.Native.Nat.{◌-◌, ◌*◌}
use Rattle.code_drawing.specs.Drawing.{pair_words, pairs_of, Drew}
use mathlib.Core.List.{◌++◌}
use lib.ListN.{take}
use Rattle.code_drawing.proofs.draw_pairs.Given as goal

abbrev pub invariant-loop-i : goal.invariant-loop-i
invariant-loop-i l =
    (l.k ≡ 3 * l.i) × Drew l.initial.fs (take l.k l.fs) l.k l.fs × (take l.k l.fs ++ pair_words l.n l.i ((l.n - 1) - l.i) ≡ pairs_of l.n)
