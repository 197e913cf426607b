-- One entry of a flow table, and a line of them.
use Rattle.std.specs.Prelude.{Option, Ok, Err, Some, None}
use mathlib.Core.Path.{◌≡◌, refl, sym, ap, ◌∙◌}
use mathlib.Core.Bool.{Bool, true, false, cond, and-true, and-false}
use mathlib.Core.List.{List, [], ◌∷◌}
use Prim.Native.Nat.{ℕ, ◌+◌, ◌≤◌, ◌<◌}
use native.Mathlib.Omega.{arith}
use lib.ListN.{length, get_or}
use lib.Dec.{leb, ltb, eqb}
use borrow.Author.Tests.{leb-true, ltb-true}
use Rattle.sets.specs.Sets.{every}
use Rattle.sets.proofs.Every.{every-at, at_every}
use Rattle.rules.specs.Text.{bytes, same, field_at, numeral_of}
use Rattle.rules.specs.FlowLines.{entry_of, is_entry, value_of, entry_at, flow_line}
use Rattle.rules.specs.declared.Refusal.TheVariants.{BadLine}
use Rattle.read_marks.proofs.Mark.{same-unlike}
use Rattle.read_flow.specs.Table.{all_entries}

pub same-one : (xs : List ℕ) (a : ℕ) → length xs ≡ 1 → same xs (a ∷ []) ≡ eqb (get_or xs 0 0) a
unfolding same
same-one [] a h = absurd (omega arith)
same-one (x ∷ []) a h = and-true (eqb x a)
same-one (x ∷ (y ∷ xs)) a h = absurd (omega arith)

module _ (n : ℕ) (f : List ℕ) where
  -- a state's number, or the dash's
  pub entry-below : (v : ℕ) → n ≤ 64 → entry_of n f ≡ Some v → v ≤ 64
  unfolding entry_of
  entry-below v h e = go (same f (bytes "-")) (numeral_of f) e
    where
      is_same : (a b : ℕ) → Some a ≡ Some b → a ≡ b
      is_same a b q = cc

      number : (u : ℕ) (b : Bool) → ltb u n ≡ b → cond b (Some u) None ≡ Some v → v ≤ 64
      number u true l q = omega (arith, is_same u v q, ltb-true u n l)
      number u false l q = absurd (let z : ◌≡◌ {A = ℕ} 0 1 = cc in omega arith)

      go : (b : Bool) (x : Option ℕ) → cond b (Some 64) (elim x as (λ _. Option ℕ) [ Some v ↦ cond (ltb v n) (Some v) None | None ↦ None ]) ≡ Some v → v ≤ 64
      go true x q = omega (arith, is_same 64 v q)
      go false (Some u) q = number u (ltb u n) refl q
      go false None q = absurd (let z : ◌≡◌ {A = ℕ} 0 1 = cc in omega arith)

-- what a line says in column c, by what its field says
pub value-by : (n c : ℕ) (l : List ℕ) {x : Option ℕ} → entry_of n (field_at l (c + 1)) ≡ x → entry_at n c l ≡ value_of x
unfolding entry_at
value-by n c l e = ap value_of e

-- ---- each column has an entry

module _ (n columns : ℕ) (l : List ℕ) where
  pub entries-all : ((c : ℕ) → c < columns → is_entry (entry_of n (field_at l (c + 1))) ≡ true) → all_entries n columns l ≡ true
  unfolding all_entries
  entries-all f = at_every columns (λ c. is_entry (entry_of n (field_at l (c + 1)))) f

  pub entries-not : (c : ℕ) → c < columns → is_entry (entry_of n (field_at l (c + 1))) ≡ false → all_entries n columns l ≡ false
  unfolding all_entries
  entries-not c h e = go (every columns (λ c. is_entry (entry_of n (field_at l (c + 1))))) refl
    where
      go : (b : Bool) → every columns (λ c. is_entry (entry_of n (field_at l (c + 1)))) ≡ b → b ≡ false
      go true g = sym (every-at columns (λ c. is_entry (entry_of n (field_at l (c + 1)))) g c h) ∙ e
      go false g = refl

  -- ---- a line

  line-over : leb columns 16 ≡ false → flow_line n columns l ≡ Err BadLine
  unfolding flow_line
  line-over q = rw (q, and-false (leb 1 columns))

  -- a line that is read has a few columns
  pub line-few : flow_line n columns l ≡ Ok tt → columns ≤ 16
  line-few e = go (leb columns 16) refl
    where
      go : (b : Bool) → leb columns 16 ≡ b → columns ≤ 16
      go true q = leb-true columns 16 q
      go false q = absurd (let m = line-over q in let z : ◌≡◌ {A = ℕ} 0 1 = cc in omega arith)

pub ruleset dashes = (same-one, same-unlike)
