-- `code_drawing::draw_pairs` meets its contract: the states still to come, behind the words drawn, make what all of them make.
use Rattle.std.proofs.Common.{◌≡◌, ℕ, min, ◌<◌, ◌-◌, ◌+◌, List, ◌++◌, take, ap, ap₂, ◌∙◌, arith}
use Rattle.sets.specs.Sets.{everyone}
use Rattle.sets.proofs.Members.{shl_one}
use Rattle.families.specs.Families.{without}
use Rattle.code_drawing.specs.Drawing.{pair_words}
use Rattle.code_drawing.proofs.Growing.{drew-more, drew-as, drew-words}
use Rattle.code_drawing.proofs.Words.{pair-more, pair-none}
use Rattle.code_drawing.proofs.draw_pairs.Goals as goal

pub loop-i-preserved : goal.loop-i-preserved
loop-i-preserved c =
    let n = c.args.n in
    let l = c.loop-i in
    let i = l.i in
    let p = c.put_family-k.ensures.1 in
    let three = c.put_family-k.ensures.0 in
    let room : i + 1 < n = omega (arith, c.loop-i-test.true, c.saturating_sub-i-end.ensures) in
    let all : min n 64 ≡ n = omega (arith, c.requires) in
    let low : min (i + 1) 64 ≡ i + 1 = omega (arith, c.requires) in (
      omega (arith, l.invariant.0),
      drew-more l.invariant.1 p (omega arith),
      ap (λ (x : List ℕ). x ++ pair_words n (i + 1) ((n - 1) - (i + 1))) (drew-words p)
          ∙ pair-more n i (take l.k l.fs) room (shl_one 64 i (omega (arith, c.requires))) (c.without_of-behind.ensures ∙ ap₂ without (c.everyone_of-all.ensures ∙ ap everyone all) (c.everyone_of.ensures ∙ ap everyone low))
          ∙ l.invariant.2,
    )

pub returns : goal.returns
returns c =
    let l = c.loop-i in
    drew-as l.invariant.1 (pair-none c.args.n l.i (take l.k l.fs) (omega (arith, c.loop-i-test.false, c.saturating_sub-i-end.ensures)) ∙ l.invariant.2)
