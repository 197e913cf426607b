-- What is said of a listing does not look at its rows' lines: the requirements, the code, the report, the cover and the widths are those of the same rows on
-- other lines, and where no two of them clash there, none do here.
use mathlib.Core.Path.{◌≡◌, refl, sym, ap, ap₂, ◌∙◌}
use mathlib.Core.Bool.{Bool, true, false, ◌&&◌, ◌||◌}
use mathlib.Core.List.{List, [], ◌∷◌, ◌++◌, map}
use Prim.Native.Nat.{ℕ, suc, ◌+◌}
use native.Mathlib.Omega.{arith}
use lib.ListN.{length, length-map}
use Rattle.sets.specs.Sets.{states_from}
use Rattle.rules.specs.Text.{lf}
use Rattle.rules.specs.Listing.{some, share_input, meets, clash, clash_with, or_else, conflict}
use Rattle.rules.specs.Requirements.{groups}
use Rattle.rules.specs.Cover.{says_one, shares_one, output_at, cover_row, says_nothing, is_left_out, printed_rows}
use Rattle.rules.specs.ListingText.{on_line, on_lines, lineless, row_text}
use Rattle.rules.specs.declared.Head.{Head}
use Rattle.rules.specs.declared.Row.{Row}
use Rattle.rules.specs.declared.Refusal.TheVariants.{Conflict}
use Rattle.rules.specs.Refusals.{Verdict, refused}
use Rattle.rules.proofs.Printed.{printed-out, printed-in}
use Rattle.std.specs.Prelude.{Ok, Err}

pub lines-aside : (k : ℕ) (rs : List Row) → map lineless (on_lines k rs) ≡ map lineless rs
unfolding on_lines
lines-aside k [] = refl
lines-aside k (r ∷ rs) = ap {B = List Row} (λ qs. lineless r ∷ qs) (lines-aside (k + 1) rs)

pub lines_long : (k : ℕ) (rs : List Row) → length (on_lines k rs) ≡ length rs
unfolding on_lines
lines_long k [] = refl
lines_long k (r ∷ rs) = ap suc (lines_long (k + 1) rs)

-- ---- the listing's text

text-aside : (h : Head) (rs : List Row) → map (row_text h) (map lineless rs) ≡ map (row_text h) rs
unfolding row_text
text-aside h [] = refl
text-aside h (r ∷ rs) = ap {B = List (List ℕ)} (λ ls. row_text h r ∷ ls) (text-aside h rs)

pub text-lines : (h : Head) (k : ℕ) (rs : List Row) → map (row_text h) (on_lines k rs) ≡ map (row_text h) rs
text-lines h k rs = sym (text-aside h (on_lines k rs)) ∙ ap (map (row_text h)) (lines-aside k rs) ∙ text-aside h rs

-- ---- the groups

groups-aside : (n : ℕ) (earlier : List ℕ) (rs : List Row) → groups n earlier (map lineless rs) ≡ groups n earlier rs
unfolding groups
groups-aside n earlier [] = refl
groups-aside n earlier (r ∷ rs) = rw (groups-aside n (r.group ∷ earlier) rs)

pub groups-lines : (n k : ℕ) (rs : List Row) → groups n [] (on_lines k rs) ≡ groups n [] rs
groups-lines n k rs = sym (groups-aside n [] (on_lines k rs)) ∙ ap (groups n []) (lines-aside k rs) ∙ groups-aside n [] rs

-- ---- the cover's rows

pub map-like : {A B : Type 0} (f g : A → B) (xs : List A) → ((x : A) → f x ≡ g x) → map f xs ≡ map g xs
map-like f g [] h = refl
map-like f g (x ∷ xs) h = ap₂ ◌∷◌ (h x) (map-like f g xs h)

pub map-twice : {A B C : Type 0} (f : B → C) (g : A → B) (xs : List A) → map f (map g xs) ≡ map (λ x. f (g x)) xs
map-twice f g [] = refl
map-twice f g (x ∷ xs) = ap {B = List _} (λ ys. f (g x) ∷ ys) (map-twice f g xs)

shares-aside : (rs : List Row) (r : Row) (j : ℕ) → shares_one (map lineless rs) (lineless r) j ≡ shares_one rs r j
unfolding shares_one some meets share_input
shares-aside [] r j = refl
shares-aside (q ∷ rs) r j = ap (λ (b : Bool). (meets r q && says_one j q) || b) (shares-aside rs r j)

output-aside : (rs : List Row) (r : Row) (j : ℕ) → output_at (map lineless rs) (lineless r) j ≡ output_at rs r j
unfolding output_at
output-aside rs r j = rw (shares-aside rs r j)

row-aside : (h : Head) (bits : List ℕ) (rs : List Row) (r : Row) → cover_row h bits (map lineless rs) (lineless r) ≡ cover_row h bits rs r
unfolding cover_row
row-aside h bits rs r = rw (map-like (output_at (map lineless rs) (lineless r)) (output_at rs r) (states_from 0 h.outputs) (output-aside rs r))

left-aside : (h : Head) (bits : List ℕ) (r : Row) → is_left_out h bits (lineless r) ≡ is_left_out h bits r
unfolding is_left_out says_nothing
left-aside h bits r = refl

printed-aside : (h : Head) (bits : List ℕ) (rs : List Row) → printed_rows h bits (map lineless rs) ≡ map lineless (printed_rows h bits rs)
unfolding printed_rows
printed-aside h bits [] = refl
printed-aside h bits (r ∷ rs) = go (is_left_out h bits r) refl (printed-aside h bits rs)
  where
    go : (b : Bool) → is_left_out h bits r ≡ b → printed_rows h bits (map lineless rs) ≡ map lineless (printed_rows h bits rs)
        → printed_rows h bits (lineless r ∷ map lineless rs) ≡ map lineless (printed_rows h bits (r ∷ rs))
    go true e ih = printed-out h bits (lineless r) (map lineless rs) (left-aside h bits r ∙ e) ∙ ih ∙ ap (map lineless) (sym (printed-out h bits r rs e))
    go false e ih =
        printed-in h bits (lineless r) (map lineless rs) (left-aside h bits r ∙ e)
        ∙ ap {B = List Row} (λ qs. lineless r ∷ qs) ih
        ∙ ap (map lineless) (sym (printed-in h bits r rs e))

-- the lines of the rows that have one
abbrev pub printed_lines : Head → List ℕ → List Row → List (List ℕ)
printed_lines h bits rs = map (λ r. cover_row h bits rs r ++ (lf ∷ [])) (printed_rows h bits rs)

rows_aside : (h : Head) (bits : List ℕ) (rs : List Row) → printed_lines h bits (map lineless rs) ≡ printed_lines h bits rs
rows_aside h bits rs =
    ap (map (λ r. cover_row h bits (map lineless rs) r ++ (lf ∷ []))) (printed-aside h bits rs)
    ∙ map-twice (λ r. cover_row h bits (map lineless rs) r ++ (lf ∷ [])) lineless (printed_rows h bits rs)
    ∙ map-like (λ r. cover_row h bits (map lineless rs) (lineless r) ++ (lf ∷ [])) (λ r. cover_row h bits rs r ++ (lf ∷ [])) (printed_rows h bits rs)
    (λ r. ap (λ (l : List ℕ). l ++ (lf ∷ [])) (row-aside h bits rs r))

pub rows-lines : (h : Head) (bits : List ℕ) (k : ℕ) (rs : List Row) → printed_lines h bits (on_lines k rs) ≡ printed_lines h bits rs
rows-lines h bits k rs = sym (rows_aside h bits (on_lines k rs)) ∙ ap (printed_lines h bits) (lines-aside k rs) ∙ rows_aside h bits rs

-- and how many they are
pub rows-count : (h : Head) (bits : List ℕ) (k : ℕ) (rs : List Row) → length (printed_rows h bits (on_lines k rs)) ≡ length (printed_rows h bits rs)
rows-count h bits k rs =
    sym (length-map (printed_rows h bits (on_lines k rs)) _) ∙ ap length (rows-lines h bits k rs) ∙ length-map (printed_rows h bits rs) _

-- ---- the conflict

with_aside : (a : Row) (i k : ℕ) (rs : List Row) → clash_with a rs ≡ Ok tt → clash_with (on_line i a) (on_lines k rs) ≡ Ok tt
unfolding clash_with clash meets share_input on_lines
with_aside a i k [] e = refl
with_aside a i k (b ∷ bs) e = go (clash a b) e (with_aside a i (k + 1) bs)
  where
    go : (t : Bool) → elim t as (λ _. Verdict) [ true ↦ refused Conflict b.line | false ↦ clash_with a bs ] ≡ Ok tt
        → (clash_with a bs ≡ Ok tt → clash_with (on_line i a) (on_lines (k + 1) bs) ≡ Ok tt)
        → elim t as (λ _. Verdict) [ true ↦ refused Conflict k | false ↦ clash_with (on_line i a) (on_lines (k + 1) bs) ] ≡ Ok tt
    go true e ih = absurd (let z : ◌≡◌ {A = ℕ} 0 1 = cc in omega arith)
    go false e ih = ih e

-- of two verdicts that are one, both accept
both : (v w : Verdict) → or_else v w ≡ Ok tt → (v ≡ Ok tt) × (w ≡ Ok tt)
both (Ok tt) w e = (refl, e)
both (Err why) w e = absurd (let z : ◌≡◌ {A = ℕ} 0 1 = cc in omega arith)

pub conflict-lines : (k : ℕ) (rs : List Row) → conflict rs ≡ Ok tt → conflict (on_lines k rs) ≡ Ok tt
unfolding conflict on_lines
conflict-lines k [] e = refl
conflict-lines k (r ∷ rs) e =
    let b = both (clash_with r rs) (conflict rs) e in
    ap₂ or_else (with_aside r k (k + 1) rs b.0) (conflict-lines (k + 1) rs b.1)
