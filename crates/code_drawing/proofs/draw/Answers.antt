-- `code_drawing::draw` meets its contract: the groups, and the dichotomies behind them.
use Rattle.std.proofs.Common.{◌≡◌, ℕ, List, [], ◌++◌, length, take, ap, rules, arith}
use Rattle.rules.specs.Listing.{dichotomies_of}
use Rattle.rules.specs.declared.Row.{Row}
use Rattle.rules.specs.declared.Requirement.{Requirement}
use Rattle.code_drawing.specs.Drawing.{with_groups, group_families, families_of, dichotomy_words}
use Rattle.code_drawing.proofs.Groups.{rows-length}
use Rattle.code_drawing.proofs.Growing.{drew-as, drew-length, drew-fits}
use Rattle.code_drawing.proofs.Whole.{few-rows, few-asked, drew-behind}
use Rattle.code_drawing.proofs.draw.Goals.{Start}
use Rattle.code_drawing.proofs.draw.Goals as goal

-- the places of the listing's tables
places : (c : Start) → (length c.args.t.table ≡ 128) × (length c.args.t.asked ≡ 64)
places c = search rules

pub draw_rows-k-requires : goal.draw_rows-k-requires
draw_rows-k-requires c =
    let t = c.args.t in
    omega (arith, few-rows t (places (goal.at.draw_rows-k-requires c).Start).0, ap length c.counted-rows.ensures)

pub draw_dichotomies-requires : goal.draw_dichotomies-requires
draw_dichotomies-requires c =
    let t = c.args.t in
    let p = places (goal.at.draw_dichotomies-requires c).Start in
    let d = c.draw_rows-k.ensures in
    let count = d.count in
    let rows = rows-length t.head.states c.counted-rows.result.now [] in
    let few = few-rows t p.0 in
    let asked = few-asked t p.1 in
    let same = drew-length (omega (arith, few, rows.1, ap length c.counted-rows.ensures)) d in
    omega (arith, few, asked, rows.1, ap length c.counted-rows.ensures, ap length c.counted-asked.ensures)

pub returns : goal.returns
unfolding families_of group_families
returns c =
    let t = c.args.t in
    let d = c.draw_rows-k.ensures in
    let k : ℕ = c.draw_rows-k.result in
    drew-behind (drew-fits d) (drew-as d (ap (λ (rs : List Row). with_groups t.head.states [] rs) c.counted-rows.ensures)) (dichotomy_words (dichotomies_of t))
    (drew-as c.draw_dichotomies.ensures (ap (λ (ds : List Requirement). take k c.draw_rows-k.new.fs ++ dichotomy_words ds) c.counted-asked.ensures))
