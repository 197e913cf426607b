-- `judge_cover::kind_said` meets its contract.
use mathlib.Core.Path.{sym, ◌∙◌}
use Rattle.judge_cover.proofs.Laws.{kind-fd, kind-none}
use Rattle.judge_cover.proofs.kind_said.Goals as goal

pub returns-then-same_bytes : goal.returns-then-same_bytes
returns-then-same_bytes c = kind-fd _ _ (sym c.same_bytes.ensures ∙ c.if-same_bytes.true)

pub returns : goal.returns
returns c =
    kind-none _ _ (sym c.same_bytes.ensures ∙ c.if-same_bytes.false) c.number_behind.ensures c.products_said.ensures
