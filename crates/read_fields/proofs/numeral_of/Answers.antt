-- `read_fields::numeral_of` meets its contract: the digits from i on, behind those that made v, say what the whole field says.
use mathlib.Core.Path.{sym, ◌∙◌}
use native.Mathlib.Omega.{arith}
use lib.ListN.{get_or}
use borrow.Author.Rules.{rules}
use Rattle.read_fields.proofs.Numbers.{digits_step, digits-end, numeral-shaped, shaped-short, NextDigit, next-digit}
use Rattle.read_fields.proofs.numeral_of.Goals.{Else-not-is_digit}
use Rattle.read_fields.proofs.numeral_of.Goals as goal

-- at a digit
at-digit : (c : Else-not-is_digit)
    → NextDigit (get_or c.args.f.now c.loop-x.x-index 0)
    c.loop-x.v c.loop-x.x-index
at-digit c =
    let l = c.loop-x in
    next-digit _ l.v l.x-index (sym c.is_digit.ensures ∙ c.if-not-is_digit.false) (omega arith) l.invariant.1

pub returns-then-not-number_shaped : goal.returns-then-not-number_shaped
returns-then-not-number_shaped c = sym (numeral-shaped _ (sym c.number_shaped.ensures ∙ c.if-not-number_shaped.true))

pub loop-x-init : goal.loop-x-init
loop-x-init c =
    let s = sym c.number_shaped.ensures ∙ c.if-not-number_shaped.false in
    (shaped-short _ s, search rules, sym (numeral-shaped _ s))

pub returns-then-not-is_digit : goal.returns-then-not-is_digit
returns-then-not-is_digit c =
    let l = c.loop-x in
    sym (digits_step l.v _ l.x-index (omega arith) (sym c.is_digit.ensures ∙ c.if-not-is_digit.true)) ∙ l.invariant.2

pub loop-x-preserved : goal.loop-x-preserved
loop-x-preserved c =
    let l = c.loop-x in
    let d = sym c.is_digit.ensures ∙ c.if-not-is_digit.false in
    (l.invariant.0, (at-digit (goal.at.loop-x-preserved c).Else-not-is_digit).grows, sym (digits_step l.v _ l.x-index (omega arith) d) ∙ l.invariant.2)

pub returns : goal.returns
returns c =
    let l = c.loop-x in
    sym (digits-end l.v _ l.x-index (omega arith)) ∙ l.invariant.2
