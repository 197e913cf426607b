-- `write_cover::add_cover` meets its contract: beyond the limits nothing is added.
use mathlib.Core.Path.{◌≡◌, sym, ap, ◌∙◌}
use mathlib.Core.List.{List}
use Prim.Native.Nat.{ℕ}
use native.Mathlib.Omega.{arith}
use borrow.Author.Rules.{rules}
use lib.ListN.{length, take, length-take}
use Rattle.sets.proofs.Places.{take-most}
use Rattle.rules.specs.Limits.{most_bits}
use Rattle.rules.specs.Cover.{cover_lines}
use Rattle.write_parts.specs.Parts.{added_all}
use Rattle.write_parts.proofs.Adding.{all_none}
use Rattle.write_cover.specs.Covers.{Bounded}
use Rattle.write_cover.proofs.Whole.{bounded-head, cover-bounded, cover-beyond}
use Rattle.write_cover.proofs.add_cover.Goals.{After-least-w, Start}
use Rattle.write_cover.proofs.add_cover.Goals as goal

bits-length : (c : Start) → length c.args.bits ≡ most_bits
bits-length c = search rules

-- behind the test the head is within the limits
within : (c : After-least-w) → Bounded c.args.t.head
within c = bounded-head c.args.t.head (sym c.is_bounded.ensures ∙ c.if-not-is_bounded.false)

pub returns-then-not-is_bounded : goal.returns-then-not-is_bounded
returns-then-not-is_bounded c =
    sym (ap (λ (ls : List (List ℕ)). added_all ls (c.args.part, c.args.out.now)) (cover-beyond c.args.t (take c.args.width c.args.bits) (sym c.is_bounded.ensures ∙ c.if-not-is_bounded.true))
    ∙ all_none (c.args.part, c.args.out.now))

pub add_lines-requires : goal.add_lines-requires
add_lines-requires c =
    (within (goal.at.add_lines-requires c).After-least-w, omega (arith, length-take c.least-w.result c.args.bits, c.least-w.ensures))

pub returns : goal.returns
returns c =
    let a = c.args in
    let bits : take c.least-w.result a.bits ≡ take a.width a.bits = ap (λ (w : ℕ). take w a.bits) c.least-w.ensures ∙ take-most a.width most_bits a.bits (bits-length (goal.at.returns c).Start) in
    c.add_lines.ensures
    ∙ ap (λ (ls : List (List ℕ)). added_all ls (a.part, a.out.now)) (ap (cover_lines a.t) bits ∙ sym (cover-bounded a.t (take a.width a.bits) (within (goal.at.returns c).After-least-w)))
