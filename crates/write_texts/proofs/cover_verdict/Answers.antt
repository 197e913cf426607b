-- `write_texts::cover_verdict` meets its contract: what is judged is the listing's pairs and groups.
use mathlib.Core.Path.{◌≡◌, sym, ap, ◌∙◌}
use mathlib.Core.Bool.{Bool, cond}
use mathlib.Core.List.{List}
use Prim.Native.Nat.{ℕ}
use Rattle.rules.specs.Refusals.{refused, Verdict}
use Rattle.rules.specs.declared.Refusal.TheVariants.{Unmet}
use Rattle.code_drawing.specs.Drawing.{first_families}
use Rattle.code_drawing.proofs.Growing.{drew-words}
use Rattle.code_judging.specs.Judging.{any_unmet}
use Rattle.write_texts.specs.Texts.{cover_verdict}
use Rattle.write_texts.proofs.cover_verdict.Goals.{After-is_any_unmet}
use Rattle.std.specs.Prelude.{Ok, Err}
use Rattle.write_texts.proofs.cover_verdict.Goals as goal

-- the test is the definition's
judged : (c : After-is_any_unmet) → let a = c.args in c.is_any_unmet.result ≡ any_unmet (first_families a.t) a.e
judged c = let a = c.args in c.is_any_unmet.ensures ∙ ap (λ (fs : List ℕ). any_unmet fs a.e) (drew-words c.draw_first-words.ensures)

pub returns-then-is_any_unmet : goal.returns-then-is_any_unmet
unfolding cover_verdict
returns-then-is_any_unmet c = ap Err c.at.ensures ∙ ap (λ (b : Bool). cond {A = Verdict} b (refused Unmet 0) (Ok tt)) (sym c.if-is_any_unmet.true ∙ judged (goal.at.returns-then-is_any_unmet c).After-is_any_unmet)

pub returns : goal.returns
unfolding cover_verdict
returns c = ap (λ (b : Bool). cond {A = Verdict} b (refused Unmet 0) (Ok tt)) (sym c.if-is_any_unmet.false ∙ judged (goal.at.returns c).After-is_any_unmet)
