-- The dashes that a row keeps are those of 02: its line says of each output what the cover is to say.
use mathlib.Core.Path.{◌≡◌, refl, ap, ◌∙◌}
use mathlib.Core.Bool.{Bool, true, false, ◌&&◌, ◌||◌, not, cond}
use mathlib.Core.List.{List, [], ◌∷◌}
use Prim.Native.Nat.{ℕ, zero, suc, ◌+◌, ◌%◌, ◌<◌, min, max}
use native.Mathlib.Omega.{arith}
use lib.Dec.{eqb}
use lib.Bits.{bit_and, bit_or, bit_xor}
use Rattle.sets.specs.Sets.{has}
use Rattle.sets.proofs.Members.{has-lt, has-and, has-or, has-xor}
use Rattle.rules.specs.Text.{digit, dash, nought, one}
use Rattle.rules.specs.Listing.{some, meets}
use Rattle.rules.specs.Cover.{says_one, shares_one, output_at}
use Rattle.rules.specs.declared.Row.{Row}
use Rattle.write_rows.specs.Rows.{said_one, kept_row}

-- ---- the outputs that are said 1

met_has : (m o : ℕ) (t : Bool) (j : ℕ) → has (cond t (bit_or m o) m) j ≡ max (has m j) (digit (t && eqb (has o j) 1))
met_has m o false j = omega (arith, has-lt m j)
met_has m o true j = has-or m o j ∙ ap (max (has m j)) (said (has o j) (has-lt o j))
  where
    said : (d : ℕ) → d < 2 → d ≡ digit (eqb d 1)
    said zero h = refl
    said (suc zero) h = refl
    said (suc (suc d)) h = absurd (omega arith)

said_has : (r : Row) (m : ℕ) (qs : List Row) (j : ℕ) → has (said_one r m qs) j ≡ max (has m j) (digit (shares_one qs r j))
unfolding said_one shares_one some
said_has r m [] j = omega (arith, has-lt m j)
said_has r m (q ∷ qs) j =
    said_has r (cond (meets r q) (bit_or m q.outputs.ones) m) qs j
    ∙ ap (λ (d : ℕ). max d (digit (shares_one qs r j))) (met_has m q.outputs.ones (meets r q) j)
    ∙ either (has m j) (meets r q && says_one j q) (shares_one qs r j)
  where
    either : (d : ℕ) (t u : Bool) → max (max d (digit t)) (digit u) ≡ max d (digit (t || u))
    either d true u = go u
      where
        go : (u : Bool) → max (max d 1) (digit u) ≡ max d 1
        go true = omega arith
        go false = omega arith
    either d false u = omega arith

-- row by row
pub with-row : (r q : Row) (m : ℕ) {t : Bool} → t ≡ meets r q → cond t (bit_or m q.outputs.ones) m ≡ cond (meets r q) (bit_or m q.outputs.ones) m
with-row r q m e = ap (λ (t : Bool). cond t (bit_or m q.outputs.ones) m) e

pub said_here : (r q : Row) (qs rs : List Row) (m : ℕ) {o : ℕ} → qs ≡ q ∷ rs → o ≡ cond (meets r q) (bit_or m q.outputs.ones) m → said_one r m qs ≡ said_one r o rs
unfolding said_one
said_here r q qs rs m e h = rw (e, h)

pub said-none : (r : Row) (qs : List Row) (m : ℕ) → qs ≡ [] → said_one r m qs ≡ m
unfolding said_one
said-none r qs m e = rw e

-- with them, the row that is made
pub kept-made : (rs : List Row) (r : Row) {m : ℕ} → m ≡ said_one r r.outputs.ones rs
    → ◌≡◌ {A = Row} (record { input = r.input; group = r.group; next = r.next; outputs = record { ones = r.outputs.ones; dashes = bit_xor r.outputs.dashes (bit_and r.outputs.dashes m) }; line = r.line })
    (kept_row rs r)
unfolding kept_row
kept-made rs r e = rw e

-- ---- one output

one_way : (d o : ℕ) (t : Bool) → d < 2 → o < 2
    → cond (eqb ((d + min d (max o (digit t))) % 2) 1) dash (nought + o) ≡ cond (eqb o 1) one (cond (eqb d 1 && not t) dash nought)
one_way zero zero true h k = refl
one_way zero zero false h k = refl
one_way zero (suc zero) true h k = refl
one_way zero (suc zero) false h k = refl
one_way (suc zero) zero true h k = refl
one_way (suc zero) zero false h k = refl
one_way (suc zero) (suc zero) true h k = refl
one_way (suc zero) (suc zero) false h k = refl
one_way zero (suc (suc o)) t h k = absurd (omega arith)
one_way (suc zero) (suc (suc o)) t h k = absurd (omega arith)
one_way (suc (suc d)) o t h k = absurd (omega arith)

pub kept_at : (rs : List Row) (r : Row) (j : ℕ)
    → cond (eqb (has (kept_row rs r).outputs.dashes j) 1) dash (nought + has (kept_row rs r).outputs.ones j) ≡ output_at rs r j
unfolding kept_row output_at
kept_at rs r j =
    rw (
      has-xor r.outputs.dashes (bit_and r.outputs.dashes (said_one r r.outputs.ones rs)) j,
      has-and r.outputs.dashes (said_one r r.outputs.ones rs) j,
      said_has r r.outputs.ones rs j,
    )
    (one_way (has r.outputs.dashes j) (has r.outputs.ones j) (shares_one rs r j) (has-lt r.outputs.dashes j) (has-lt r.outputs.ones j))
