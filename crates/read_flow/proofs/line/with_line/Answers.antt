-- `line::with_line` meets its contract: the entries from column c on, stored in the table so far, give what all of them give.
use mathlib.Core.Path.{sym, ap, ◌∙◌}
use Prim.Native.Nat.{ℕ, ◌-◌, ◌+◌, ◌*◌}
use native.Mathlib.Omega.{arith}
use lib.ListN.{set}
use borrow.Author.Rules.{rules}
use Rattle.read_flow.specs.Table.{store_from}
use Rattle.read_flow.proofs.Tables.{store-next, store-end}
use Rattle.read_flow.proofs.line.with_line.Goals as goal

pub loop-c-preserved : goal.loop-c-preserved
loop-c-preserved c =
    let l = c.loop-c in
    let a = c.args in (
      search rules,
      search rules,
      search rules,
      ap (λ (v : ℕ). store_from a.n a.l.now a.s (l.c + 1) (a.columns - (l.c + 1)) (set l.filled (l.c * 64 + a.s) v)) c.value_at.ensures
          ∙ sym (store-next a.n a.l.now a.s l.c a.columns l.filled (omega arith)) ∙ l.invariant.3,
    )

pub returns : goal.returns
returns c =
    let l = c.loop-c in
    sym (store-end _ _ _ l.c _ l.filled (omega arith)) ∙ l.invariant.3
