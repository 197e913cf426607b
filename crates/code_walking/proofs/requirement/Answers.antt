-- `code_walking::requirement` meets its contract.
use borrow.Author.Tests.{ltb-true}
use Rattle.code_walking.proofs.Ahead.{here-over}
use mathlib.Core.Path.{sym, ◌∙◌}
use Rattle.code_walking.proofs.requirement.Goals as goal

pub returns-then-is_over : goal.returns-then-is_over
returns-then-is_over c =
    let a = c.args in
    sym (here-over a.fs.now a.w (ltb-true _ _ (sym c.is_over.ensures ∙ c.if-is_over.true)))
