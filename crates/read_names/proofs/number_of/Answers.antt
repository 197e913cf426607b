-- `read_names::number_of` meets its contract: the first place of the name, seen from i, is that seen from the start.
use Rattle.rules.specs.Text.{same}
use Rattle.read_names.specs.Names.{names_in}
use Rattle.read_names.proofs.Found.{names-length, name-at, number-first}
use Rattle.rules.proofs.FirstPlace.{from_start, from-here, from_on, from_end}
use Prim.Native.Nat.{ℕ}
use mathlib.Core.Path.{◌≡◌, sym, ap, ◌∙◌}
use mathlib.Core.List.{List, []}
use native.Mathlib.Omega.{arith}
use borrow.Author.Rules.{rules}
use lib.ListN.{length}
use Rattle.read_names.proofs.number_of.Goals as goal

pub loop-i-init : goal.loop-i-init
loop-i-init c =
    let a = c.args in
    let l : length a.names.places ≡ 64 = (search rules) in (
      names-length a.s.now a.names ∙ omega (arith, c.least-n.ensures),
      omega (arith, c.least-n.ensures),
      omega (arith, c.least-n.ensures),
      from_start (λ n. same n a.f.now) (names_in a.s.now a.names) ∙ number-first (names_in a.s.now a.names) a.f.now,
      l,
    )

pub returns-then-same_bytes : goal.returns-then-same_bytes
returns-then-same_bytes c =
    let l = c.loop-i in
    let a = c.args in
    sym (from-here (λ n. same n a.f.now) (names_in a.s.now a.names) [] l.i (omega arith) (ap (λ (f : List ℕ). same f a.f.now) (name-at a.s.now a.names l.i (omega arith) (omega arith) ∙ sym c.bytes_of.ensures) ∙ sym c.same_bytes.ensures ∙ c.if-same_bytes.true)) ∙ l.invariant.3

pub loop-i-preserved : goal.loop-i-preserved
loop-i-preserved c =
    let l = c.loop-i in
    let a = c.args in
    let n = sym (from_on (λ n. same n a.f.now) (names_in a.s.now a.names) [] l.i (omega arith) (ap (λ (f : List ℕ). same f a.f.now) (name-at a.s.now a.names l.i (omega arith) (omega arith) ∙ sym c.bytes_of.ensures) ∙ sym c.same_bytes.ensures ∙ c.if-same_bytes.false)) in
    (l.invariant.0, l.invariant.1, l.invariant.2, n ∙ l.invariant.3, l.invariant.4)

pub returns : goal.returns
returns c =
    let l = c.loop-i in
    let a = c.args in
    let e : c.least-n.result ≡ l.i = omega arith in
    e ∙ sym (from_end (λ n. same n a.f.now) (names_in a.s.now a.names) l.i (omega arith)) ∙ l.invariant.3
