-- `code_least::encode_least` meets its contract: a fair listing has its families drawn and its code found, and any other is refused.
use mathlib.Core.Path.{◌≡◌, sym, ◌∙◌}
use mathlib.Core.Bool.{true, false}
use Rattle.code_fair.specs.Fair.{fair}
use Rattle.code_drawing.proofs.Growing.{drew-words}
use Rattle.code_least.proofs.Answers.{drawn-of, least-is, small-families}
use Rattle.code_least.proofs.encode_least.Goals.{After-draw_all-words}
use Rattle.code_least.proofs.encode_least.Goals as goal

-- behind the test the listing is fair
so-fair : (c : After-draw_all-words) → fair c.args.t ≡ true
so-fair c = sym c.is_fair.ensures ∙ c.if-not-is_fair.false

pub returns-then-not-is_fair : goal.returns-then-not-is_fair
returns-then-not-is_fair c =
    c.uncoded_as.ensures ∙ least-is _ false (sym c.is_fair.ensures ∙ c.if-not-is_fair.true)

pub encode_small-requires : goal.encode_small-requires
encode_small-requires c =
    drawn-of c.args.t (so-fair (goal.at.encode_small-requires c).After-draw_all-words) _ (drew-words c.draw_all-words.ensures)

pub returns : goal.returns
returns c =
    c.encode_small.ensures ∙ small-families c.args.t (so-fair (goal.at.returns c).After-draw_all-words) _ (drew-words c.draw_all-words.ensures)
