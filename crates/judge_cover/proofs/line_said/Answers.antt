-- `judge_cover::line_said` meets its contract.
use Rattle.judge_cover.proofs.Laws.{in-part, of-inputs, of-outputs, of-products, of-over}
use Rattle.judge_cover.proofs.line_said.Goals as goal

pub returns-in-Inputs : goal.returns-in-Inputs
returns-in-Inputs c =
    in-part _ _ c.in-Inputs.is (of-inputs _ _ c.number_behind.ensures c.inputs_said.ensures)

pub returns-in-Outputs : goal.returns-in-Outputs
returns-in-Outputs c =
    in-part _ _ c.in-Outputs.is (of-outputs _ _ c.number_behind-in-Outputs.ensures c.outputs_said.ensures)

pub returns-in-Kind : goal.returns-in-Kind
returns-in-Kind c =
    in-part _ _ c.in-Kind.is c.kind_said.ensures

pub returns-in-Products : goal.returns-in-Products
returns-in-Products c =
    in-part _ _ c.in-Products.is (of-products _ _ c.number_behind-in-Products.ensures c.products_said.ensures)

pub returns-in-Rows : goal.returns-in-Rows
returns-in-Rows c =
    in-part _ _ c.in-Rows.is c.body_said.ensures

pub returns-in-Over : goal.returns-in-Over
returns-in-Over c =
    in-part _ _ c.in-Over.is (of-over _ _)
