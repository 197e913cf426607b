-- A code takes off all requirements, mask by mask, exactly where its bits meet them all: so the search finds the least code.
use mathlib.Core.Path.{◌≡◌, refl, sym, ap, ap₂, ◌∙◌}
use mathlib.Core.Logic.{⊎_elim}
use mathlib.Core.Bool.{Bool, true, false, ◌||◌, not}
use mathlib.Core.List.{List, [], ◌∷◌, ◌++◌, Memᴰ}
use Prim.Native.Nat.{ℕ, zero, suc, ◌+◌, ◌-◌, ◌*◌, ◌/◌, ◌%◌, ◌^◌, ◌≤◌, ◌<◌, min}
use native.Mathlib.Omega.{arith}
use lib.Bits.{bit_and, bit_xor, differ, and_step, xor_step}
use lib.Dec.{eqb}
use lib.ListN.{length, take, drop, get_or, length-map, length-append}
use lib.Pow.{pow_pos}
use lib.Seq.{length-take-le, take_at}
use borrow.Author.Tests.{ne_eqb}
use Rattle.sets.specs.Sets.{everyone, states_from}
use Rattle.sets.proofs.Places.{map_at}
use Rattle.rules.specs.Limits.{most_small_bits}
use Rattle.rules.specs.Text.{digit}
use Rattle.rules.specs.Requirements.{met, met_by_code}
use Rattle.rules.specs.Code.{unmet_from}
use Rattle.rules.specs.Least.{column, columns_of, bits_for, codes_up_to, meets_all, First, first_with, least}
use Rattle.rules.specs.declared.Requirement.{Requirement}
use Rattle.rules.proofs.Judged.{met-by-nil, met-by-cons}
use Rattle.rules.proofs.Most.{states-length}
use Rattle.rules.proofs.Good.{AllGood}
use Rattle.rules.proofs.Unmet.{listed-met, listed-unmet}
use Rattle.rules.proofs.Codes.{Columns, listed-code, first-here, first-later}
use Rattle.families.specs.Families.{without}
use Rattle.code_judging.proofs.Wide.{unmet-wide}
use Rattle.code_search.specs.Search.{takes_all, told_width}
use Rattle.code_least.specs.Table.{mask_from, masks}
use Rattle.code_least.proofs.Filling.{column-at}
use mathlib.Core.List.Memᴰ

-- ---- masks, digit by digit

without-step : (a b : ℕ) → without a b ≡ without (a / 2) (b / 2) * 2 + differ (a % 2) (min (a % 2) (b % 2))
without-step a b =
    xor_step a (bit_and a b)
    ∙ ap₂ (λ (x y : ℕ). bit_xor (a / 2) x * 2 + differ (a % 2) y) (omega (arith, and_step a b, low)) (omega (arith, and_step a b, low))
  where
    low : min (a % 2) (b % 2) < 2
    low = omega arith

digit_lt : (d : Bool) → digit d < 2
digit_lt true = omega arith
digit_lt false = omega arith

without-digit : (m x : ℕ) (d e : Bool) → without (m * 2 + digit d) (x * 2 + digit e) ≡ without m x * 2 + differ (digit d) (min (digit d) (digit e))
without-digit m x d e =
    without-step (m * 2 + digit d) (x * 2 + digit e)
    ∙ ap₂ (λ (p q : ℕ). p * 2 + q)
    (ap₂ without (high m (digit d) (digit_lt d)) (high x (digit e) (digit_lt e)))
    (ap₂ (λ (p q : ℕ). differ p (min p q)) (low m (digit d) (digit_lt d)) (low x (digit e) (digit_lt e)))
  where
    high : (m d : ℕ) → d < 2 → (m * 2 + d) / 2 ≡ m
    high m d h = omega arith

    low : (m d : ℕ) → d < 2 → (m * 2 + d) % 2 ≡ d
    low m d h = omega arith

taken-digit : (x y : Bool) → differ (digit (not x)) (min (digit (not x)) (digit y)) ≡ digit (not (x || y))
taken-digit true true = refl
taken-digit true false = refl
taken-digit false true = refl
taken-digit false false = refl

-- ---- what is left where some are met

-- those of the requirements that g does not have, behind the digits of m
left_by : (Requirement → Bool) → ℕ → List Requirement → ℕ
left_by g m [] = m
left_by g m (r ∷ rs) = left_by g (m * 2 + digit (not (g r))) rs

left-same : (g h : Requirement → Bool) → ((r : Requirement) → g r ≡ h r) → (m : ℕ) (rs : List Requirement) → left_by g m rs ≡ left_by h m rs
unfolding left_by
left-same g h e m [] = refl
left-same g h e m (r ∷ rs) = left-same g h e (m * 2 + digit (not (g r))) rs ∙ ap (λ (b : Bool). left_by h (m * 2 + digit (not b)) rs) (e r)

-- a bit takes off those that it meets
left_behind : (g : Requirement → Bool) (b m x : ℕ) (rs : List Requirement) → without (left_by g m rs) (mask_from x b rs) ≡ left_by (λ r. g r || met 64 r b) (without m x) rs
unfolding left_by mask_from
left_behind g b m x [] = refl
left_behind g b m x (r ∷ rs) =
    left_behind g b (m * 2 + digit (not (g r))) (x * 2 + digit (met 64 r b)) rs
    ∙ ap (λ (y : ℕ). left_by (λ r. g r || met 64 r b) y rs) (without-digit m x (not (g r)) (met 64 r b) ∙ ap (λ (d : ℕ). without m x * 2 + d) (taken-digit (g r) (met 64 r b)))

-- with none met all are left
left-all : (j : ℕ) (rs : List Requirement) → left_by (λ r. false) (everyone j) rs ≡ everyone (j + length rs)
unfolding left_by
left-all j [] = let e : j ≡ j + 0 = omega arith in ap (λ (k : ℕ). 2 ^ k - 1) e
left-all j (r ∷ rs) =
    let e : suc j + length rs ≡ j + suc (length rs) = omega arith in
    ap (λ (m : ℕ). left_by (λ r. false) m rs) more ∙ left-all (suc j) rs ∙ ap (λ (k : ℕ). 2 ^ k - 1) e
  where
    more : everyone j * 2 + 1 ≡ everyone (suc j)
    more = omega (arith, pow_pos j)

-- with all met none is left
left-least : (g : Requirement → Bool) (m : ℕ) (rs : List Requirement) → m ≤ left_by g m rs
unfolding left_by
left-least g m [] = omega arith
left-least g m (r ∷ rs) = omega (arith, left-least g (m * 2 + digit (not (g r))) rs)

left-none : (k : ℕ) (bits : List ℕ) (rs : List Requirement) → eqb (left_by (met_by_code 64 bits) 0 rs) 0 ≡ eqb (length (unmet_from k 64 bits rs)) 0
unfolding left_by unmet_from
left-none k bits [] = refl
left-none k bits (r ∷ rs) = go (met_by_code 64 bits r) refl (left-none (suc k) bits rs)
  where
    go : (t : Bool) → met_by_code 64 bits r ≡ t → eqb (left_by (met_by_code 64 bits) 0 rs) 0 ≡ eqb (length (unmet_from (suc k) 64 bits rs)) 0
        → eqb (left_by (met_by_code 64 bits) (0 * 2 + digit (not (met_by_code 64 bits r))) rs) 0 ≡ eqb (length (unmet_from k 64 bits (r ∷ rs))) 0
    go true e h = ap (λ (b : Bool). eqb (left_by (met_by_code 64 bits) (0 * 2 + digit (not b)) rs) 0) e ∙ h ∙ ap (λ (l : List ℕ). eqb (length l) 0) (sym (listed-met k 64 bits r rs e))
    go false e h =
        ap (λ (b : Bool). eqb (left_by (met_by_code 64 bits) (0 * 2 + digit (not b)) rs) 0) e
        ∙ ne_eqb (left_by (met_by_code 64 bits) 1 rs) 0 (λ q. omega (arith, left-least (met_by_code 64 bits) 1 rs))
        ∙ sym (ap (λ (l : List ℕ). eqb (length l) 0) (listed-unmet k 64 bits r rs e) ∙ ne_eqb (suc (length (unmet_from (suc k) 64 bits rs))) 0 (λ q. omega arith))

-- ---- codes

module _ (n c : ℕ) (rs : List Requirement) where
  pub masks-length : length (masks n rs c) ≡ c
  unfolding masks
  masks-length = length-map (states_from 0 c) (λ v. mask_from 0 (column n v) rs) ∙ states-length 0 c

  mask_at : (v : ℕ) → v < c → get_or (masks n rs c) v 0 ≡ mask_from 0 (column n v) rs
  unfolding masks
  mask_at v h =
      map_at (λ u. mask_from 0 (column n u) rs) (states_from 0 c) v 0 0 (omega (arith, states-length 0 c))
      ∙ ap (λ (u : ℕ). mask_from 0 (column n u) rs) (sym (column-at c v h))

  -- what a code takes off, behind those that g has
  takes : (w : ℕ) (code : List ℕ) (g : Requirement → Bool) → Columns c w code
      → takes_all (masks n rs c) (left_by g 0 rs) code ≡ eqb (left_by (λ r. g r || met_by_code 64 (bits_for n code) r) 0 rs) 0
  unfolding takes_all
  takes w [] g h = ap (λ (m : ℕ). eqb m 0) (left-same g (λ r. g r || met_by_code 64 [] r) same 0 rs)
    where
      or-none : (x : Bool) → x ≡ (x || false)
      or-none true = refl
      or-none false = refl

      same : (r : Requirement) → g r ≡ (g r || met_by_code 64 [] r)
      same r = or-none (g r) ∙ ap (λ (b : Bool). g r || b) (sym (met-by-nil 64 r))
  takes zero (v ∷ code) g h = absurd (omega (arith, h.0))
  takes (suc w) (v ∷ code) g h =
      ap (λ (m : ℕ). takes_all (masks n rs c) m code) (ap (without (left_by g 0 rs)) (mask_at v h.1.0) ∙ left_behind g (column n v) 0 0 rs)
      ∙ takes w code (λ r. g r || met 64 r (column n v)) (omega (arith, h.0), h.1.1)
      ∙ ap (λ (m : ℕ). eqb m 0) (left-same (λ r. (g r || met 64 r (column n v)) || met_by_code 64 (bits_for n code) r) (λ r. g r || met_by_code 64 (bits_for n (v ∷ code)) r) same 0 rs)
    where
      or_assoc : (x y z : Bool) → ((x || y) || z) ≡ (x || (y || z))
      or_assoc true y z = refl
      or_assoc false y z = refl

      same : (r : Requirement) → ((g r || met 64 r (column n v)) || met_by_code 64 (bits_for n code) r) ≡ (g r || met_by_code 64 (bits_for n (v ∷ code)) r)
      same r = or_assoc (g r) (met 64 r (column n v)) (met_by_code 64 (bits_for n code) r) ∙ ap (λ (b : Bool). g r || b) (sym (met-by-cons 64 (column n v) (bits_for n code) r))

  module _ (few : n ≤ 64) (good : AllGood n rs) where
    takes-meets : (w : ℕ) (code : List ℕ) → Columns c w code → takes_all (masks n rs c) (everyone (length rs)) code ≡ meets_all n rs code
    unfolding meets_all
    takes-meets w code h =
        let e : 0 + length rs ≡ length rs = omega arith in
        ap (λ (m : ℕ). takes_all (masks n rs c) m code) (sym (left-all 0 rs ∙ ap (λ (k : ℕ). 2 ^ k - 1) e))
        ∙ takes w code (λ r. false) h
        ∙ left-none 0 (bits_for n code) rs
        ∙ ap (λ (l : List ℕ). eqb (length l) 0) (unmet-wide n few 0 (bits_for n code) rs good)

-- ---- the first of them

first-same : (p q : List ℕ → Bool) (codes : List (List ℕ)) → ((code : List ℕ) → Memᴰ code codes → p code ≡ q code) → first_with p codes ≡ first_with q codes
unfolding first_with
first-same p q [] h = refl
first-same p q (x ∷ xs) h = go (q x) refl (first-same p q xs (λ code m. h code (Memᴰ.tail m)))
  where
    go : (b : Bool) → q x ≡ b → first_with p xs ≡ first_with q xs → first_with p (x ∷ xs) ≡ first_with q (x ∷ xs)
    go true e r = first-here p x xs (h x (Memᴰ.head refl) ∙ e) ∙ sym (first-here q x xs e)
    go false e r = first-later p x xs (h x (Memᴰ.head refl) ∙ e) ∙ r ∙ sym (first-later q x xs e)

pub up-to-columns : (c w : ℕ) (code : List ℕ) → Memᴰ code (codes_up_to c w) → (k : ℕ) × (k ≤ w) × Columns c k code
unfolding codes_up_to
up-to-columns c zero code m = (0, omega arith, listed-code c 0 code m)
up-to-columns c (suc w) code m =
    ⊎_elim
    (λ h. let r = up-to-columns c w code h in (r.0, omega (arith, r.1), r.2))
    (λ h. (suc w, omega arith, listed-code c (suc w) code h))
    (Memᴰ.append_cases (codes_up_to c w) m)

-- over the masks of all columns, the search finds the least code
pub least-found : (n : ℕ) (rs : List Requirement) → n ≤ 64 → AllGood n rs
    → first_with (takes_all (masks n rs (columns_of n)) (everyone (length rs))) (codes_up_to (length (masks n rs (columns_of n))) most_small_bits) ≡ least n rs
unfolding least
least-found n rs few good =
    ap (λ (c : ℕ). first_with (takes_all (masks n rs (columns_of n)) (everyone (length rs))) (codes_up_to c most_small_bits)) (masks-length n (columns_of n) rs)
    ∙ first-same (takes_all (masks n rs (columns_of n)) (everyone (length rs))) (meets_all n rs) (codes_up_to (columns_of n) most_small_bits)
    (λ code m. let k = up-to-columns (columns_of n) most_small_bits code m in takes-meets n (columns_of n) rs few good k.0 code k.2)

-- ---- the table in the first places of an array

module _ (n : ℕ) (rs : List Requirement) (k : ℕ) (z ws : List ℕ) (room : k ≤ length z) (is : ws ≡ masks n rs (length (take k z))) where
  table-length : length ws ≡ k
  table-length = ap length is ∙ masks-length n (length (take k z)) rs ∙ length-take-le k z room

  pub table_fits : k ≤ length (ws ++ drop k z)
  table_fits = omega (arith, table-length, length-append ws (drop k z))

  pub table_is : k ≡ columns_of n → take k (ws ++ drop k z) ≡ masks n rs (columns_of n)
  table_is e = take_at ws (drop k z) k table-length ∙ is ∙ ap (masks n rs) (length-take-le k z room ∙ e)

-- what the search over it tells is the least code
pub told-least : (n asked all : ℕ) (rs : List Requirement) (ms code : List ℕ) → n ≤ 64 → AllGood n rs → asked ≡ length rs → asked ≤ 64 → all ≡ everyone (min asked 64)
    → ms ≡ masks n rs (columns_of n) → length code ≡ most_small_bits
    → told_width (first_with (takes_all ms all) (codes_up_to (length ms) (length code))) code ≡ told_width (least n rs) code
told-least n asked all rs ms code few good count fits every is five =
    let e : min asked 64 ≡ length rs = omega arith in
    ap (λ (m : List ℕ). told_width (first_with (takes_all m all) (codes_up_to (length m) (length code))) code) is
    ∙ ap (λ (a : ℕ). told_width (first_with (takes_all (masks n rs (columns_of n)) a) (codes_up_to (length (masks n rs (columns_of n))) (length code))) code) (every ∙ ap everyone e)
    ∙ ap (λ (w : ℕ). told_width (first_with (takes_all (masks n rs (columns_of n)) (everyone (length rs))) (codes_up_to (length (masks n rs (columns_of n))) w)) code) five
    ∙ ap (λ (f : First). told_width f code) (least-found n rs few good)
