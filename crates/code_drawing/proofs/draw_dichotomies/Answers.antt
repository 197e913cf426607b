-- `code_drawing::draw_dichotomies` meets its contract: the dichotomies still to come, behind the words drawn, make what all of them make.
use Rattle.std.proofs.Common.{◌+◌, ℕ, List, ◌++◌, take, drop, ap, ◌∙◌, arith}
use Rattle.rules.specs.Listing.{no_requirement}
use Rattle.code_drawing.specs.Drawing.{dichotomy_words}
use Rattle.code_drawing.proofs.Growing.{drew-more, drew-as, drew-words}
use Rattle.code_drawing.proofs.Words.{dichotomy-more, dichotomy-none}
use Rattle.code_drawing.proofs.draw_dichotomies.Goals as goal

pub loop-d-preserved : goal.loop-d-preserved
loop-d-preserved c =
    let l = c.loop-d in
    let asked = c.args.asked.now in
    let p = c.put_family-k.ensures.1 in
    let three = c.put_family-k.ensures.0 in (
      omega (arith, l.invariant.0),
      drew-more l.invariant.1 p (omega arith),
      ap (λ (x : List ℕ). x ++ dichotomy_words (drop (l.d-index + 1) asked)) (drew-words p)
          ∙ dichotomy-more asked l.d-index (take l.k l.fs) no_requirement c.loop-d-test.true
          ∙ l.invariant.2,
    )

pub returns : goal.returns
returns c =
    let l = c.loop-d in
    drew-as l.invariant.1 (dichotomy-none c.args.asked.now l.d-index (take l.k l.fs) c.loop-d-test.false ∙ l.invariant.2)
