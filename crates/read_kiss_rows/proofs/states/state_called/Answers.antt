-- `states::state_called` meets its contract.
use mathlib.Core.Path.{ap₂}
use Rattle.read_names.specs.declared.Names.{Names}
use Rattle.rules.specs.KissLines.{is_star}
use Rattle.rules.specs.Kiss.{number_of}
use Rattle.sets.proofs.Members.{shl_one}
use Rattle.read_kiss_rows.proofs.Called.{calls, called-star, called-by}
use Prim.Native.Nat.{ℕ}
use mathlib.Core.Path.{refl, sym, ap, ◌∙◌}
use borrow.Author.Tests.{lt-ltb, le-ltb, le-leb, lt-leb}
use Rattle.read_kiss_rows.proofs.states.state_called.Goals as goal

pub returns-then-is_star : goal.returns-then-is_star
returns-then-is_star c = sym (called-star _ _ _ _ (ap is_star (sym c.bytes_of-f.ensures) ∙ sym c.is_star.ensures ∙ c.if-is_star.true))

pub returns-then-n-ge-MOST_STATES : goal.returns-then-n-ge-MOST_STATES
returns-then-n-ge-MOST_STATES c =
    let b = c.bytes_of-f.ensures in
    let star = ap is_star (sym b) ∙ sym c.is_star.ensures ∙ c.if-is_star.false in
    sym (called-by _ _ _ _ star (c.number_of-n.ensures ∙ ap (number_of _) b) (le-leb _ _ c.if-n-ge-MOST_STATES.true) refl)

pub returns-then-n-names : goal.returns-then-n-names
returns-then-n-names c =
    let a = c.args in
    let n = c.number_of-n.result in
    let b = c.bytes_of-f.ensures in
    let star = ap is_star (sym b) ∙ sym c.is_star.ensures ∙ c.if-is_star.false in
    ap (λ (m : ℕ). calls a.names m) (shl_one 64 n c.if-n-ge-MOST_STATES.false)
    ∙ sym (called-by _ _ _ _ star (c.number_of-n.ensures ∙ ap (number_of _) b) (lt-leb _ _ c.if-n-ge-MOST_STATES.false) (lt-ltb _ _ c.if-n-names.true))

pub returns : goal.returns
returns c =
    let n = c.number_of-n.result in
    let b = c.bytes_of-f.ensures in
    let star = ap is_star (sym b) ∙ sym c.is_star.ensures ∙ c.if-is_star.false in
    ap₂ (λ (q : Names) (m : ℕ). calls q m) c.with_name.ensures (shl_one 64 n c.if-n-ge-MOST_STATES.false)
    ∙ sym (called-by _ _ _ _ star (c.number_of-n.ensures ∙ ap (number_of _) b) (lt-leb _ _ c.if-n-ge-MOST_STATES.false) (le-ltb _ _ c.if-n-names.false))
