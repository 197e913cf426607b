-- `code_drawing::draw_all` meets its contract: the pairs and the groups, and the dichotomies behind them.
use Rattle.std.proofs.Common.{◌≡◌, List, ◌++◌, min, length, take, ap, rules, arith}
use Rattle.rules.specs.Limits.{most_states}
use Rattle.rules.specs.Listing.{dichotomies_of}
use Rattle.rules.specs.declared.Row.{Row}
use Rattle.rules.specs.declared.Requirement.{Requirement}
use Rattle.code_drawing.specs.Drawing.{with_groups, pairs_of, first_families, all_families, dichotomy_words, Drew}
use Rattle.code_drawing.proofs.Growing.{drew-as, drew-length, drew-fits}
use Rattle.code_drawing.proofs.Whole.{few-rows, few-asked, few-first, drew-behind}
use Rattle.code_drawing.proofs.draw_all.Goals.{Start, After-draw_before-k}
use Rattle.code_drawing.proofs.draw_all.Goals as goal

-- the places of the listing's tables
places : (c : Start) → (length c.args.t.table ≡ 128) × (length c.args.t.asked ≡ 64)
places c = search rules

-- the families drawn first
first : (c : After-draw_before-k) → Drew c.args.fs.now (first_families c.args.t) c.draw_before-k.result c.draw_before-k.new.fs
unfolding first_families
first c =
    let t = c.args.t in
    drew-as c.draw_before-k.ensures (ap (λ (rs : List Row). with_groups t.head.states (pairs_of (min t.head.states most_states)) rs) c.counted-rows.ensures)

pub draw_before-k-requires : goal.draw_before-k-requires
draw_before-k-requires c =
    let few = few-rows c.args.t (places (goal.at.draw_before-k-requires c).Start).0 in
    (omega (arith, few, ap length c.counted-rows.ensures), search rules)

pub draw_dichotomies-requires : goal.draw_dichotomies-requires
draw_dichotomies-requires c =
    let t = c.args.t in
    let p = places (goal.at.draw_dichotomies-requires c).Start in
    let d = first (goal.at.draw_dichotomies-requires c).After-draw_before-k in
    let count = d.count in
    let few = few-first t p.0 in
    let asked = few-asked t p.1 in
    let same = drew-length (omega (arith, few, count)) d in
    omega (arith, few, asked, count, same, ap length c.counted-asked.ensures)

pub returns : goal.returns
unfolding all_families
returns c =
    let d = first (goal.at.returns c).After-draw_before-k in
    drew-behind (drew-fits d) d (dichotomy_words (dichotomies_of c.args.t))
    (drew-as c.draw_dichotomies.ensures (ap (λ (ds : List Requirement). take c.draw_before-k.result c.draw_before-k.new.fs ++ dichotomy_words ds) c.counted-asked.ensures))
