-- `code_building::encode` meets its contract: a fair listing has its families drawn and its code built, and any other is refused.
use mathlib.Core.Path.{◌≡◌, sym, ap, ◌∙◌}
use mathlib.Core.Bool.{true, false}
use mathlib.Core.List.{List, []}
use Prim.Native.Nat.{ℕ}
use Rattle.code_fair.specs.Fair.{fair}
use Rattle.bit_live.specs.Live.{live_in}
use Rattle.code_encoding.proofs.Answered.{encoded-is}
use Rattle.code_drawing.proofs.Growing.{drew-words}
use Rattle.code_building.specs.Build.{encoded_for}
use Rattle.code_building.proofs.Encoded.{asked_of, encoded-for, drawn-live}
use Rattle.code_building.proofs.encode.Goals.{After-draw-words}
use Rattle.code_building.proofs.encode.Goals as goal

-- behind the test the listing is fair
so-fair : (c : After-draw-words) → fair c.args.t ≡ true
so-fair c = sym c.is_fair.ensures ∙ c.if-not-is_fair.false

pub returns-then-not-is_fair : goal.returns-then-not-is_fair
returns-then-not-is_fair c = c.uncoded_as.ensures ∙ encoded-is _ false (sym c.is_fair.ensures ∙ c.if-not-is_fair.true)

pub encode_families-requires : goal.encode_families-requires
encode_families-requires c = asked_of _ (so-fair (goal.at.encode_families-requires c).After-draw-words) _ (drew-words c.draw-words.ensures)

pub returns : goal.returns
returns c = let t = c.args.t in
    c.encode_families.ensures
    ∙ ap (λ (fs : List ℕ). encoded_for t.head.states t.head.width (live_in t.head.states [] fs)) (drew-words c.draw-words.ensures)
    ∙ ap (encoded_for t.head.states t.head.width) (drawn-live t (so-fair (goal.at.returns c).After-draw-words))
    ∙ encoded-for t (so-fair (goal.at.returns c).After-draw-words)
    ∙ encoded-is t true (so-fair (goal.at.returns c).After-draw-words)
