-- `code_judging::judge_number` meets its contract: the families of all that the listing asks, drawn up and looked through.
use Rattle.std.specs.Prelude.{None}
use lib.ListN.{length, take}
use mathlib.Core.Bool.{cond, Bool}
use mathlib.Core.Path.{ap₂, ◌≡◌, sym, ap, ◌∙◌}
use Rattle.sets.proofs.Places.{take-most}
use Rattle.rules.specs.Limits.{most_bits}
use Rattle.families.specs.Families.{requirements_in}
use Rattle.code_drawing.specs.Drawing.{all_families}
use Rattle.code_drawing.proofs.Growing.{drew-words}
use Rattle.code_judging.specs.Judging.{judgement_at, judged}
use Prim.Native.Nat.{ℕ}
use mathlib.Core.List.{List}
use borrow.Author.Rules.{rules}
use borrow.Author.Tests.{lt-ltb, le-ltb}
use Rattle.code_judging.proofs.judge_number.Goals.{Start}
use Rattle.code_judging.proofs.judge_number.Goals as goal

-- the places of the code
long : (c : Start) → length c.args.e.bits ≡ most_bits
long c = search rules

pub returns-then-asked-k : goal.returns-then-asked-k
unfolding judged
returns-then-asked-k c =
    let s = c.args in
    sym (ap (λ (x : Bool). cond x (judgement_at 64 (take s.e.width s.e.bits) (requirements_in (all_families s.t)) s.r.0) None) (le-ltb s.r.0 s.e.asked c.if-asked-k.true))

pub returns : goal.returns
unfolding judged
returns c =
    let a = c.args in
    c.judge_in.ensures
    ∙ ap₂ (λ (bs : List ℕ) (fs : List ℕ). judgement_at 64 bs (requirements_in fs) a.r.0) (ap (λ (k : ℕ). take k a.e.bits) c.least-width.ensures ∙ take-most a.e.width most_bits a.e.bits (long (goal.at.returns c).Start)) (drew-words c.draw_all-words.ensures)
    ∙ sym (ap (λ (x : Bool). cond x (judgement_at 64 (take a.e.width a.e.bits) (requirements_in (all_families a.t)) a.r.0) None) (lt-ltb a.r.0 a.e.asked c.if-asked-k.false))
