-- `write_names::put_states` meets its contract. The loop's invariant: what is written is the lines of the first i names.
use mathlib.Core.Path.{◌≡◌, sym, ◌∙◌}
use native.Mathlib.Omega.{arith}
use borrow.Author.Rules.{rules}
use lib.ListN.{length}
use Rattle.read_names.specs.Names.{names_in}
use Rattle.read_names.proofs.Found.{names-length, name-at}
use Rattle.write_pen.proofs.Laws.{wrote_none, wrote_then, wrote_as}
use Rattle.write_names.proofs.Lines.{lines_none, lines-one, lines-all}
use Rattle.write_names.proofs.put_states.Goals.{Start}
use Rattle.write_names.proofs.put_states.Goals as goal

places-long : (c : Start) → length c.args.names.places ≡ 64
places-long c = search rules

pub loop-i-init : goal.loop-i-init
loop-i-init c = wrote_as (wrote_none _ _ (omega arith) (omega arith)) (lines_none (names_in c.args.text.now c.args.names))

pub loop-i-preserved : goal.loop-i-preserved
loop-i-preserved c =
    let a = c.args in
    let names = names_in a.text.now a.names in
    let long = places-long (goal.at.loop-i-preserved c).Start in
    let name =
    c.bytes_of-name.ensures
    ∙ sym (name-at a.text.now a.names c.loop-i.i (omega (arith, c.least-n.ensures)) (omega (arith, c.least-n.ensures, long))) in
    wrote_as (wrote_then c.loop-i.invariant c.put_line-to.ensures) (lines-one names c.loop-i.i (omega (arith, names-length a.text.now a.names, c.least-n.ensures, long)) name)

pub returns : goal.returns
returns c =
    let a = c.args in
    let long = places-long (goal.at.returns c).Start in
    wrote_as c.loop-i.invariant
    (lines-all (names_in a.text.now a.names) c.loop-i.i
    (omega (arith, names-length a.text.now a.names, c.least-n.ensures, long)))
