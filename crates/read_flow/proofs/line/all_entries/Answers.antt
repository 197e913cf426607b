-- `line::all_entries` meets its contract: the columns before c have their entries.
use mathlib.Core.Path.{sym, ◌∙◌}
use native.Mathlib.Omega.{arith}
use Rattle.read_flow.proofs.Entries.{entries-all, entries-not}
use Rattle.read_flow.proofs.line.all_entries.Goals as goal

pub returns-then-not-has_entry : goal.returns-then-not-has_entry
returns-then-not-has_entry c =
    let l = c.loop-c in
    sym (entries-not _ _ _ l.c (omega arith) (sym c.has_entry.ensures ∙ c.if-not-has_entry.true))

pub returns : goal.returns
returns c =
    let l = c.loop-c in
    sym (entries-all _ _ _ (λ i h. l.invariant.1 i (omega (arith, h))))
