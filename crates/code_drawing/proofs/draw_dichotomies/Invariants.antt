-- `code_drawing::draw_dichotomies` meets its contract: the dichotomies still to come, behind the words drawn, make what all of them make.
use Rattle.std.proofs.Common.{◌≡◌, ◌+◌, ◌*◌, ◌++◌, take, drop}
use Rattle.code_drawing.specs.Drawing.{dichotomy_words, Drew}
use Rattle.code_drawing.proofs.draw_dichotomies.Given as goal

abbrev pub invariant-loop-d : goal.invariant-loop-d
invariant-loop-d l =
    (l.k ≡ l.at + 3 * l.d-index) × Drew l.initial.fs (take l.k l.fs) l.k l.fs × (take l.k l.fs ++ dichotomy_words (drop l.d-index l.asked) ≡ take l.at l.initial.fs ++ dichotomy_words l.asked)
