-- Rows that fire at one input vector and one state share both; so of an accepted listing they name no two next states.
use mathlib.Core.Path.{◌≡◌, refl, sym, ap, subst, ◌∙◌}
use mathlib.Core.Bool.{Bool, true, false, ◌||◌, not, cond, or-true}
use mathlib.Core.List.{List, [], ◌∷◌}
use Prim.Native.Nat.{ℕ, zero, suc, ◌≤◌, ◌<◌}
use native.Mathlib.Omega.{arith}
use lib.Bits.{bit_and}
use lib.Dec.{leb, eqb, ltb}
use lib.ListN.{length, get_or}
use borrow.Author.Tests.{eq-eqb, ne_eqb, eqb-true, ltb-true, ltb-false}
use Rattle.sets.specs.Sets.{has, every}
use Rattle.sets.proofs.Members.{has-and, has-none, has-high}
use Rattle.sets.proofs.Every.{and_first, and_second, and_both, every-at, at_every}
use Rattle.rules.specs.Limits.{most_bytes, most_inputs}
use Rattle.rules.specs.Text.{lines_of}
use Rattle.rules.specs.Listing.{no_row, rows_of, read_all, share_input, meets, clash, clash_with, or_else, conflict, judged, checked, reading, Reading}
use Rattle.rules.specs.Cover.{fires}
use Rattle.rules.specs.declared.Head.{Head}
use Rattle.rules.specs.declared.Row.{Row}
use Rattle.rules.specs.declared.Listing.{Listing}
use Rattle.rules.specs.Refusals.{Verdict, refused}
use Rattle.rules.specs.declared.Refusal.TheVariants.{Conflict, Limit}
use Rattle.rules.proofs.Ways.{not-accepted}
use Rattle.rules.proofs.SoundLines.{FitRow}
use Rattle.std.specs.Prelude.{Ok, Err}
use Rattle.std.specs.Result.{IfOk}

module _ (h : Head) (few : h.inputs ≤ most_inputs) (a b : Row) (sa : FitRow h a) (sb : FitRow h b) (x s : ℕ) (fa : fires h a x s ≡ true) (fb : fires h b x s ≡ true) where
  -- a row that fires takes the vector's digit, or has a dash there
  takes-digit : (r : Row) → fires h r x s ≡ true → (j : ℕ) → j < h.inputs → (eqb (has r.input.dashes j) 1 || eqb (has r.input.ones j) (has x j)) ≡ true
  unfolding fires
  takes-digit r f j l = every-at h.inputs _ (and_first _ (eqb (has r.group s) 1) f) j l

  in_group : (r : Row) → fires h r x s ≡ true → has r.group s ≡ 1
  unfolding fires
  in_group r f = eqb-true (has r.group s) 1 (and_second (every h.inputs _) (eqb (has r.group s) 1) f)

  abbrev alike : ℕ → Bool
  alike j = eqb (has a.input.dashes j) 1 || (eqb (has b.input.dashes j) 1 || eqb (has a.input.ones j) (has b.input.ones j))

  -- so the two are not told apart by an input
  input-shared : (j : ℕ) → alike j ≡ true
  input-shared j = within (ltb j h.inputs) refl
    where
      both : (p q : Bool) → (p || eqb (has a.input.ones j) (has x j)) ≡ true → (q || eqb (has b.input.ones j) (has x j)) ≡ true → (p || (q || eqb (has a.input.ones j) (has b.input.ones j))) ≡ true
      both true q e f = refl
      both false true e f = refl
      both false false e f =
          eq-eqb (has a.input.ones j) (has b.input.ones j)
          (eqb-true (has a.input.ones j) (has x j) e ∙ sym (eqb-true (has b.input.ones j) (has x j) f))

      within : (t : Bool) → ltb j h.inputs ≡ t → alike j ≡ true
      within true e =
          both (eqb (has a.input.dashes j) 1) (eqb (has b.input.dashes j) 1) (takes-digit a fa j (ltb-true j h.inputs e)) (takes-digit b fb j (ltb-true j h.inputs e))
      within false e =
          let past = ltb-false j h.inputs e in
          let like = eq-eqb (has a.input.ones j) (has b.input.ones j) (has-high h.inputs a.input.ones j sa.ones past ∙ sym (has-high h.inputs b.input.ones j sb.ones past)) in
          rw like (ap (λ (t : Bool). eqb (has a.input.dashes j) 1 || t) (or-true (eqb (has b.input.dashes j) 1)) ∙ or-true (eqb (has a.input.dashes j) 1))

  state-shared : bit_and a.group b.group ≡ 0 → ⊥
  state-shared e = omega (arith, in_group a fa, in_group b fb, has-and a.group b.group s, ap (λ (m : ℕ). has m s) e, has-none s)

  pub fire-together : meets a b ≡ true
  unfolding meets share_input
  fire-together =
      and_both (every most_inputs alike) (not (eqb (bit_and a.group b.group) 0)) (at_every most_inputs alike (λ j l. input-shared j))
      (ap not (ne_eqb (bit_and a.group b.group) 0 state-shared))

-- ---- of an accepted listing

apart-one : (a : Row) (rs : List Row) → clash_with a rs ≡ Ok tt → (k : ℕ) → k < length rs → clash a (get_or rs k no_row) ≡ false
unfolding clash_with
apart-one a [] e k l = absurd (omega arith)
apart-one a (b ∷ bs) e k l = go (clash a b) refl e k l (apart-one a bs)
  where
    go : (t : Bool) → clash a b ≡ t → elim t as (λ _. Verdict) [ true ↦ refused Conflict b.line | false ↦ clash_with a bs ] ≡ Ok tt → (k : ℕ) → k < length (b ∷ bs)
        → (clash_with a bs ≡ Ok tt → (k : ℕ) → k < length bs → clash a (get_or bs k no_row) ≡ false) → clash a (get_or (b ∷ bs) k no_row) ≡ false
    go true h e k l later = absurd (not-accepted e)
    go false h e zero l later = h
    go false h e (suc k) l later = later e k (omega arith)

-- no row clashes with one behind it
pub rows_apart : (rs : List Row) → conflict rs ≡ Ok tt → (i j : ℕ) → i < j → j < length rs → clash (get_or rs i no_row) (get_or rs j no_row) ≡ false
unfolding conflict
rows_apart [] e i j h l = absurd (omega arith)
rows_apart (a ∷ rs) e i j h l = go (clash_with a rs) refl e i j h l (rows_apart rs)
  where
    go : (v : Verdict) → clash_with a rs ≡ v → or_else v (conflict rs) ≡ Ok tt → (i j : ℕ) → i < j → j < length (a ∷ rs)
        → (conflict rs ≡ Ok tt → (i j : ℕ) → i < j → j < length rs → clash (get_or rs i no_row) (get_or rs j no_row) ≡ false)
        → clash (get_or (a ∷ rs) i no_row) (get_or (a ∷ rs) j no_row) ≡ false
    go (Err why) q e i j h l later = absurd (not-accepted e)
    go (Ok tt) q e i zero h l later = absurd (omega arith)
    go (Ok tt) q e zero (suc j) h l later = apart-one a rs q j (omega arith)
    go (Ok tt) q e (suc i) (suc j) h l later = later e i j (omega arith) (omega arith)

-- two rows that share and do not clash name one next state, or one of them names none
pub one-next : (a b : Row) → meets a b ≡ true → clash a b ≡ false → (a.next ≡ 0 → ⊥) → (b.next ≡ 0 → ⊥) → a.next ≡ b.next
unfolding clash
one-next a b m c na nb =
    let e = rw (m, ne_eqb a.next 0 na, ne_eqb b.next 0 nb) at c in
    eqb-true a.next b.next (twice (eqb a.next b.next) e)
  where
    twice : (t : Bool) → not t ≡ false → t ≡ true
    twice true e = refl
    twice false e = sym e

-- ---- an accepted listing has no conflict

abbrev Apart : Reading → Type 0
Apart r = IfOk r (λ t. conflict (rows_of t) ≡ Ok tt)

judged-apart : (t : Listing) (v : Verdict) → conflict (rows_of t) ≡ v → Apart (judged v t)
judged-apart t (Ok tt) e = e
judged-apart t (Err why) e = tt

checked-apart : (r : Reading) → Apart (checked r)
unfolding conflict
checked-apart (Ok t) = judged-apart t (conflict (rows_of t)) refl
checked-apart (Err why) = tt

-- whatever the bytes
reading-apart : (s : List ℕ) → Apart (reading s)
unfolding reading
reading-apart s = go (leb (length s) most_bytes)
  where
    go : (b : Bool) → Apart (cond b (checked (read_all (lines_of s))) (refused Limit 0))
    go true = checked-apart (read_all (lines_of s))
    go false = tt

pub accepted-apart : (s : List ℕ) {t : Listing} → reading s ≡ Ok t → conflict (rows_of t) ≡ Ok tt
accepted-apart s e = subst Apart e (reading-apart s)
