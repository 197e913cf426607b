-- The rows that have a line in a cover: which they are, where each stands, and that those left out say nothing.
use mathlib.Core.Path.{◌≡◌, refl, sym, ap, ap₂, ◌∙◌}
use mathlib.Core.Bool.{Bool, true, false, ◌&&◌, ◌||◌, not}
use mathlib.Core.List.{List, [], ◌∷◌, ◌++◌, map}
use Prim.Native.Nat.{ℕ, zero, suc, ◌≤◌, ◌<◌}
use native.Mathlib.Omega.{arith}
use lib.Dec.{eqb}
use lib.ListN.{length, take, get_or}
use borrow.Author.Tests.{eqb-true}
use Rattle.sets.proofs.Every.{and_first, and_second}
use Rattle.sets.proofs.Members.{has-none}
use Rattle.rules.specs.Text.{nought}
use Rattle.rules.specs.Listing.{no_row, some}
use Rattle.rules.specs.Cover.{next_code, output_at, zeros, says_nothing, is_left_out, printed_rows}
use Rattle.rules.specs.declared.Head.{Head}
use Rattle.rules.specs.declared.Row.{Row}

-- ---- one row, and the rows behind it

module _ (h : Head) (bits : List ℕ) where
  pub printed-none : printed_rows h bits [] ≡ []
  unfolding printed_rows
  printed-none = refl

  pub printed-out : (r : Row) (rs : List Row) → is_left_out h bits r ≡ true → printed_rows h bits (r ∷ rs) ≡ printed_rows h bits rs
  unfolding printed_rows
  printed-out r rs e = rw (printed_rows, e) refl

  pub printed-in : (r : Row) (rs : List Row) → is_left_out h bits r ≡ false → printed_rows h bits (r ∷ rs) ≡ r ∷ printed_rows h bits rs
  unfolding printed_rows
  printed-in r rs e = rw (printed_rows, e) refl

  -- rows behind rows
  pub printed-append : (qs rs : List Row) → printed_rows h bits (qs ++ rs) ≡ printed_rows h bits qs ++ printed_rows h bits rs
  printed-append [] rs = ap (λ (ps : List Row). ps ++ printed_rows h bits rs) (sym printed-none)
  printed-append (q ∷ qs) rs = go (is_left_out h bits q) refl (printed-append qs rs)
    where
      go : (b : Bool) → is_left_out h bits q ≡ b → printed_rows h bits (qs ++ rs) ≡ printed_rows h bits qs ++ printed_rows h bits rs
          → printed_rows h bits (q ∷ (qs ++ rs)) ≡ printed_rows h bits (q ∷ qs) ++ printed_rows h bits rs
      go true e later = printed-out q (qs ++ rs) e ∙ later ∙ ap (λ (ps : List Row). ps ++ printed_rows h bits rs) (sym (printed-out q qs e))
      go false e later = printed-in q (qs ++ rs) e ∙ ap {B = List Row} (λ ps. q ∷ ps) later ∙ ap (λ (ps : List Row). ps ++ printed_rows h bits rs) (sym (printed-in q qs e))

  -- no more than there are
  pub printed-few : (rs : List Row) → length (printed_rows h bits rs) ≤ length rs
  printed-few [] = rw printed-none (omega arith)
  printed-few (r ∷ rs) = go (is_left_out h bits r) refl (printed-few rs)
    where
      go : (b : Bool) → is_left_out h bits r ≡ b → length (printed_rows h bits rs) ≤ length rs → length (printed_rows h bits (r ∷ rs)) ≤ suc (length rs)
      go true e later = rw (printed-out r rs e) (omega arith)
      go false e later = rw (printed-in r rs e) (omega arith)

  -- ---- where each stands: behind those of the rows before it

  -- i is the place of the row r among the rows printed
  abbrev pub Stands : List Row → ℕ → Row → Type 0
  Stands rs i r = (i < length (printed_rows h bits rs)) × (get_or (printed_rows h bits rs) i no_row ≡ r)

  pub printed-place : (rs : List Row) (k : ℕ) → k < length rs → is_left_out h bits (get_or rs k no_row) ≡ false → Stands rs (length (printed_rows h bits (take k rs))) (get_or rs k no_row)
  printed-place [] k l e = absurd (omega arith)
  printed-place (r ∷ rs) zero l e = rw (printed-none, printed-in r rs e) (omega arith, refl)
  printed-place (r ∷ rs) (suc k) l e = go (is_left_out h bits r) refl (printed-place rs k (omega arith) e)
    where
      go : (b : Bool) → is_left_out h bits r ≡ b → Stands rs (length (printed_rows h bits (take k rs))) (get_or rs k no_row) → Stands (r ∷ rs) (length (printed_rows h bits (r ∷ take k rs))) (get_or rs k no_row)
      go true o later = rw (printed-out r rs o, printed-out r (take k rs) o) later
      go false o later = rw (printed-in r rs o, printed-in r (take k rs) o) (omega (arith, later.0), later.1)

  -- every row, where every row is kept
  pub printed-all : h.keeps ≡ true → (rs : List Row) → printed_rows h bits rs ≡ rs
  unfolding is_left_out
  printed-all k [] = printed-none
  printed-all k (r ∷ rs) = printed-in r rs (ap (λ (b : Bool). not b && says_nothing bits r) k) ∙ ap {B = List Row} (λ ps. r ∷ ps) (printed-all k rs)

  -- ---- what is said of some row printed is said of some row, where nothing is said of those left out

  pub printed-some : {A : Type 0} (f : Row → A) (p : A → Bool) (q : Row → Bool) (rs : List Row) → ((k : ℕ) → k < length rs → p (f (get_or rs k no_row)) ≡ q (get_or rs k no_row))
      → ((r : Row) → is_left_out h bits r ≡ true → q r ≡ false) → some p (map f (printed_rows h bits rs)) ≡ some q rs
  unfolding some
  printed-some f p q [] same quiet = ap (λ (ps : List Row). some p (map f ps)) printed-none
  printed-some f p q (r ∷ rs) same quiet = go (is_left_out h bits r) refl (printed-some f p q rs (λ k l. same (suc k) (omega arith)) quiet)
    where
      go : (b : Bool) → is_left_out h bits r ≡ b → some p (map f (printed_rows h bits rs)) ≡ some q rs → some p (map f (printed_rows h bits (r ∷ rs))) ≡ (q r || some q rs)
      go true e later = rw (printed-out r rs e, quiet r e) later
      go false e later = rw (printed-in r rs e) (ap₂ ◌||◌ (same 0 (omega arith)) later)

-- ---- a row that says nothing

left-out-says : (h : Head) (bits : List ℕ) (r : Row) → is_left_out h bits r ≡ true → says_nothing bits r ≡ true
unfolding is_left_out
left-out-says h bits r e = and_second (not h.keeps) (says_nothing bits r) e

zeros-at : (ds : List ℕ) (k : ℕ) → zeros ds ≡ true → get_or ds k 0 ≡ 0
unfolding zeros
zeros-at [] k e = refl
zeros-at (d ∷ ds) zero e = eqb-true d 0 (and_first (eqb d 0) (zeros ds) e)
zeros-at (d ∷ ds) (suc k) e = zeros-at ds k (and_second (eqb d 0) (zeros ds) e)

module _ (h : Head) (bits : List ℕ) (r : Row) (out : is_left_out h bits r ≡ true) where
  code : Bool
  code = zeros (next_code bits r.next)

  outputs : (code && (eqb r.outputs.ones 0 && eqb r.outputs.dashes 0)) ≡ true
  unfolding says_nothing code
  outputs = left-out-says h bits r out

  -- each digit of its next code is 0
  pub silent-bit : (k : ℕ) → get_or (next_code bits r.next) k 0 ≡ 0
  unfolding code
  silent-bit k = zeros-at (next_code bits r.next) k (and_first code (eqb r.outputs.ones 0 && eqb r.outputs.dashes 0) outputs)

  -- each of its outputs is 0
  pub silent-output : (rs : List Row) (j : ℕ) → output_at rs r j ≡ nought
  unfolding output_at
  silent-output rs j =
      let e = and_second code (eqb r.outputs.ones 0 && eqb r.outputs.dashes 0) outputs in
      let ones : r.outputs.ones ≡ 0 = eqb-true _ 0 (and_first (eqb r.outputs.ones 0) (eqb r.outputs.dashes 0) e) in
      let dashes : r.outputs.dashes ≡ 0 = eqb-true _ 0 (and_second (eqb r.outputs.ones 0) (eqb r.outputs.dashes 0) e) in
      rw (ones, dashes, has-none j) refl
