-- `code_drawing::stands` meets its contract.
use Rattle.std.proofs.Common.{◌/◌, length, ap, ◌∙◌, rules, arith}
use Rattle.std.proofs.lemmas.Iterator.{YieldsList-from_slice}
use Rattle.std.proofs.lemmas.Iterator.Search.{any_from_yields_List}
use Rattle.std.specs.List.{list_any}
use borrow.Author.Tests.{tests}
use Rattle.code_drawing.proofs.Standing.{first_is, stands-any}
use Rattle.code_drawing.proofs.stands.Goals as goal

pub returns : goal.returns
returns c =
    let fs = c.args.fs.now in
    let w = c.as_chunks.ensures in
    any_from_yields_List (first_is c.args.g) _ _ _ c.any.ensures.ran (YieldsList-from_slice _ c.iter.ensures.rest) (λ x b q k. search (rules, tests))
    ∙ ap (list_any (first_is c.args.g)) w.front
    ∙ stands-any c.args.g (length fs / 3) fs (omega arith) (omega arith)
