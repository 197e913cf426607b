-- `read_lines::dichotomy::dichotomy_line` meets its contract: first where the mark ends, then the field behind it, then how many there are.
use mathlib.Core.Path.{refl, sym}
use native.Mathlib.Omega.{arith}
use borrow.Author.Tests.{le-leb, lt-leb}
use Rattle.std.proofs.lemmas.Grind.{common_steps}
use Rattle.read_pieces.proofs.Laws.{cut_of}
use Rattle.read_lines.proofs.dichotomy.Laws.{dichotomy-none, dichotomy-rest, blocks-sized}
use Rattle.read_lines.proofs.dichotomy.dichotomy_line.Goals as goal

pub returns-then-l-mark : goal.returns-then-l-mark
returns-then-l-mark c = sym (dichotomy-none _ _ _ _ (cut_of _ _ 0 (omega arith) c.cut-mark.ensures) c.if-l-mark.true)

pub returns-in_err-blocks : goal.returns-in_err-blocks
returns-in_err-blocks c =
    let d = dichotomy-rest c.args.h c.args.count _ _ (cut_of _ _ 0 (omega arith) c.cut-mark.ensures) c.if-l-mark.false c.behind.ensures refl refl in
    grind (arith, common_steps, d, blocks-sized c.args.h.states c.behind.result.now)

pub returns-then-count-ge-MOST_DICHOTOMIES : goal.returns-then-count-ge-MOST_DICHOTOMIES
returns-then-count-ge-MOST_DICHOTOMIES c =
    let d = dichotomy-rest c.args.h c.args.count _ _ (cut_of _ _ 0 (omega arith) c.cut-mark.ensures) c.if-l-mark.false c.behind.ensures (le-leb _ _ c.if-count-ge-MOST_DICHOTOMIES.true) refl in
    grind (arith, common_steps, d, blocks-sized c.args.h.states c.behind.result.now)

pub returns : goal.returns
returns c =
    let d = dichotomy-rest c.args.h c.args.count _ _ (cut_of _ _ 0 (omega arith) c.cut-mark.ensures) c.if-l-mark.false c.behind.ensures (lt-leb _ _ c.if-count-ge-MOST_DICHOTOMIES.false) refl in
    grind (arith, common_steps, d, blocks-sized c.args.h.states c.behind.result.now)
