-- Which codes are all zeros, bit by bit, and how many rows have a line, row by row.
use mathlib.Core.Path.{◌≡◌, refl, ap, ◌∙◌}
use mathlib.Core.Bool.{Bool, true, false, ◌&&◌, not}
use mathlib.Core.List.{List, [], ◌∷◌}
use Prim.Native.Nat.{ℕ, ◌+◌, ◌≤◌, ◌<◌}
use native.Mathlib.Numerals.{add-one}
use lib.ListN.{length, get_or, drop, length-append, drop_of_length-le}
use lib.Seq.{drop-cons}
use lib.Dec.{eqb}
use lib.Bits.{bit_and}
use borrow.Author.Tests.{eq-eqb, ne_eqb}
use Rattle.rules.specs.Text.{digit}
use Rattle.rules.specs.Cover.{next_code, zeros, is_left_out, printed_rows}
use Rattle.rules.specs.declared.Head.{Head}
use Rattle.rules.specs.declared.Row.{Row}
use Rattle.rules.proofs.Printed.{printed-none, printed-out, printed-in, printed-append}

-- ---- a code that is all zeros, bit by bit

module _ (bits : List ℕ) (next k : ℕ) where
  here : k < length bits → zeros (next_code (drop k bits) next) ≡ (eqb (digit (not (eqb (bit_and (get_or bits k 0) next) 0))) 0 && zeros (next_code (drop (k + 1) bits) next))
  unfolding zeros
  here h = rw (add-one, drop-cons bits k 0 h) refl

  pub zero-here : k < length bits → bit_and (get_or bits k 0) next ≡ 0 → zeros (next_code (drop k bits) next) ≡ zeros (next_code (drop (k + 1) bits) next)
  zero-here h e = here h ∙ ap (λ (b : Bool). eqb (digit (not b)) 0 && zeros (next_code (drop (k + 1) bits) next)) (eq-eqb (bit_and (get_or bits k 0) next) 0 e)

  pub one-here : k < length bits → (bit_and (get_or bits k 0) next ≡ 0 → ⊥) → zeros (next_code (drop k bits) next) ≡ false
  one-here h o = here h ∙ ap (λ (b : Bool). eqb (digit (not b)) 0 && zeros (next_code (drop (k + 1) bits) next)) (ne_eqb (bit_and (get_or bits k 0) next) 0 o)

  pub zeros-end : length bits ≤ k → zeros (next_code (drop k bits) next) ≡ true
  unfolding zeros
  zeros-end h = ap (λ (bs : List ℕ). zeros (next_code bs next)) (drop_of_length-le bits {i = k} h)

-- ---- how many have a line, row by row

module _ (h : Head) (bits : List ℕ) where
  abbrev lines : List Row → ℕ
  lines rs = length (printed_rows h bits rs)

  pub count-here : (q : Row) (qs rs : List Row) → qs ≡ q ∷ rs → lines qs ≡ lines (q ∷ []) + lines rs
  count-here q qs rs e =
      ap lines e
      ∙ ap (λ (ps : List Row). length ps) (printed-append h bits (q ∷ []) rs)
      ∙ length-append (printed_rows h bits (q ∷ [])) (printed_rows h bits rs)

  pub count_none : (qs : List Row) → qs ≡ [] → lines qs ≡ 0
  count_none qs e = ap lines e ∙ ap (λ (ps : List Row). length ps) (printed-none h bits)

module _ (h : Head) (bits : List ℕ) (r : Row) where
  pub no_line : is_left_out h bits r ≡ true → length (printed_rows h bits (r ∷ [])) ≡ 0
  no_line e = ap (λ (rs : List Row). length rs) (printed-out h bits r [] e ∙ printed-none h bits)

  pub one_line : is_left_out h bits r ≡ false → length (printed_rows h bits (r ∷ [])) ≡ 1
  one_line e = ap (λ (rs : List Row). length rs) (printed-in h bits r [] e ∙ ap {B = List Row} (λ ps. r ∷ ps) (printed-none h bits))
