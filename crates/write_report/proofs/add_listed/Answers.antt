-- `write_report::add_listed` meets its contract. The loop's invariant: the lines of the requirements still to come, added to what there is, are those of
-- all, added to what there was; and as long as none is missed, those among the unmet are the same with the requirements behind it and without.
use mathlib.Core.Path.{◌≡◌, refl, sym, ap, ap₂, ◌∙◌}
use mathlib.Core.Bool.{Bool, true, false, not}
use mathlib.Core.List.{List, ◌∷◌}
use mathlib.Core.Logic.{inl}
use Prim.Native.Nat.{ℕ, ◌≤◌, ◌+◌}
use native.Mathlib.Omega.{arith}
use lib.ListN.{length}
use Rattle.std.specs.Iterator.Adapters.{enumerate_source, enumerate_count}
use Rattle.rules.specs.Text.{digit}
use Rattle.rules.specs.Requirements.{is_by}
use Rattle.families.specs.Families.{requirements_in}
use Rattle.families.proofs.Family.{families-few}
use Rattle.code_walking.specs.Walking.{left}
use Rattle.write_parts.specs.Parts.{added_all}
use Rattle.write_parts.proofs.Adding.{Lent, all_none, all_more, all-full, added-length}
use Rattle.write_report.specs.Report.{line_for, lines_of}
use Rattle.write_report.specs.declared.Listed.{Listed}
use Rattle.write_report.proofs.Judged.{lines_more, lines_end, none_here}
use Rattle.write_report.proofs.Length.{line-length}
use Rattle.write_report.proofs.add_listed.Goals as goal

-- one more is missed, or none
digit-most : (b : Bool) → digit b ≤ 1
digit-most true = omega arith
digit-most false = omega arith

pub loop-k-init : goal.loop-k-init
loop-k-init c =
    let a = c.args in
    let gives = c.into_iter-k-iterator.ensures.into_iter_gives in
    let all = ap (λ e. left (enumerate_source e)) gives ∙ ap left c.enumerate-k-items.ensures.source ∙ c.new.ensures in
    let none = ap enumerate_count gives ∙ c.enumerate-k-items.ensures.count in (
      (tt, tt, inl (omega (arith, none, ap length all, families-few a.fs.now, c.requires))),
      tt,
      omega (arith, none, ap length all, families-few a.fs.now),
      refl,
      ap₂ (λ k rs. added_all (lines_of a.listed k a.bits.now rs) (a.part, a.out.now)) none all,
      omega arith,
      λ z s. sym (ap₂ (λ k rs. added_all (lines_of Listed.Unmet k a.bits.now rs) s) none all),
    )

pub returns-then-to : goal.returns-then-to
returns-then-to c =
    let a = c.args in
    let l = c.loop-k in
    let s : Lent = (l.to, l.out) in
    let full : (ls : List (List ℕ)) → added_all ls s ≡ s = λ ls. all-full ls l.out l.to c.if-to.true in (
      sym (full (lines_of a.listed (enumerate_count l.k-iterator) a.bits.now (left (enumerate_source l.k-iterator)))) ∙ l.invariant.4,
      λ z. full (lines_of Listed.Unmet 0 a.bits.now (requirements_in a.fs.now)),
    )

pub add_judged-to-requires : goal.add_judged-to-requires
add_judged-to-requires c =
    let a = c.args in
    rw c.judge-judged.ensures (line-length a.listed c.in-Some.k a.bits.now c.in-Some.asked (omega (arith, c.in-Some.ensures.steps.3)) c.well_formed.1.1.0.0)

pub loop-k-preserved : goal.loop-k-preserved
loop-k-preserved c =
    let a = c.args in
    let l = c.loop-k in
    let p = c.add_judged-to in
    let step = c.in-Some.ensures.steps in
    let k = enumerate_count l.k-iterator in
    let rest = left (enumerate_source c.next.new.self) in
    let more = lines_of a.listed (enumerate_count c.next.new.self) a.bits.now rest in
    let one_line = line_for a.listed c.in-Some.k c.judge-judged.result in
    let shorter = ap length step.0 in
    let lines =
    ap₂ (λ n m. line_for a.listed n c.judge-judged.result ∷ lines_of a.listed m a.bits.now rest) step.1 step.2
    ∙ ap (λ j. line_for a.listed k j ∷ lines_of a.listed (k + 1) a.bits.now rest) c.judge-judged.ensures
    ∙ lines_more a.listed k a.bits.now step.0 in (
      (tt, tt, inl (omega (arith, step.2, shorter, l.invariant.2, c.requires))),
      tt,
      omega (arith, step.2, shorter, l.invariant.2),
      ap (λ (s : Lent). length s.1) p.ensures ∙ added-length one_line (l.to, l.out) ∙ l.invariant.3,
      ap (added_all more) p.ensures ∙ sym (all_more one_line more (l.to, l.out)) ∙ ap (λ ls. added_all ls (l.to, l.out)) lines ∙ l.invariant.4,
      omega (arith, c.missed-unmet.ensures, digit-most (not (is_by c.judge-judged.result)), step.2, l.invariant.5),
      λ z s. let m : c.missed-unmet.result ≡ 0 = omega arith in
          l.invariant.6 (omega arith) s
          ∙ none_here k a.bits.now step.0 (ap (λ j. digit (not (is_by j))) (sym c.judge-judged.ensures) ∙ sym c.missed-unmet.ensures ∙ m) s
          ∙ ap (λ m. added_all (lines_of Listed.Unmet m a.bits.now rest) s) (sym step.2),
    )

pub returns : goal.returns
returns c =
    let a = c.args in
    let l = c.loop-k in
    let s : Lent = (l.to, l.out) in
    let none : (which : Listed) → added_all (lines_of which (enumerate_count l.k-iterator) a.bits.now (left (enumerate_source l.k-iterator))) s ≡ s =
    λ which. ap (λ ls. added_all ls s) (lines_end which (enumerate_count l.k-iterator) a.bits.now c.in-None.ensures.steps.0.0) ∙ all_none s in
    (sym (none a.listed) ∙ l.invariant.4, λ z. l.invariant.6 z s ∙ none Listed.Unmet)
