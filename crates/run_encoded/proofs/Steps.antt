-- The masks of a row, the rows and the next code, step by step as loops have them.
use mathlib.Core.Path.{◌≡◌, refl, ap, ◌∙◌}
use mathlib.Core.Bool.{Bool, true, false, ◌&&◌, not, cond}
use mathlib.Core.List.{List, [], ◌∷◌}
use Prim.Native.Nat.{ℕ, zero, suc, ◌+◌, ◌*◌, ◌-◌, ◌^◌, ◌≤◌, ◌<◌, min, max}
use native.Mathlib.Nat.{lt_of_lt_of_le, pow-suc}
use native.Mathlib.Numerals.{add-one}
use native.Mathlib.Omega.{arith}
use lib.Dec.{eqb, leb}
use lib.Pow.{pow_mono}
use lib.Bits.{bit_and, bit_or}
use mir.Val.{bool_byte}
use borrow.Author.Tests.{le-leb, lt-leb, lt-ltb}
use lib.ListN.{length, drop, get_or, set, drop_of_length-le}
use lib.Seq.{drop-cons}
use Rattle.sets.specs.Sets.{has, only, everyone}
use Rattle.sets.proofs.Every.{every-same}
use Rattle.sets.proofs.Members.{has-lt, has-and, has-or, has-not, has-high}
use Rattle.rules.specs.Limits.{most_states, most_bits}
use Rattle.rules.specs.Text.{digit}
use Rattle.rules.specs.Listing.{all_rows}
use Rattle.rules.specs.Cover.{is_left_out}
use Rattle.rules.specs.declared.Head.{Head}
use Rattle.rules.specs.declared.Row.{Row}
use Rattle.rules.specs.declared.Listing.{Listing}
use Rattle.sharing.proofs.Inputs.{none-low}
use Rattle.write_faces.proofs.Masks.{below-least}
use Rattle.run_inputs.proofs.Masks.{every-least}
use Rattle.run_encoded.specs.Terms.{some_at, all_at, mask_of, members, term_of, terms_with, terms_by, takes_code, code_with, code_by, no_term, no_terms, terms_for, code_for}
use Rattle.run_encoded.specs.declared.Term.{Term}
use Rattle.run_encoded.specs.declared.Terms.{Terms}

-- ---- a mask, bit by bit from the last

pub digit-le : (b : Bool) → digit b ≤ 1
digit-le true = omega arith
digit-le false = omega arith

pub some-le : (m b : ℕ) → some_at m b ≤ 1
unfolding some_at
some-le m b = digit-le (not (eqb (bit_and b m) 0))

pub all-le : (m b : ℕ) → all_at m b ≤ 1
unfolding all_at
all-le m b = digit-le (eqb (bit_and b m) m)

module _ (f : ℕ → ℕ) (digits : (b : ℕ) → f b ≤ 1) where
  mask_step : (bits : List ℕ) (k : ℕ) → k < length bits → mask_of f (drop k bits) ≡ mask_of f (drop (k + 1) bits) * 2 + f (get_or bits k 0)
  unfolding mask_of
  mask_step bits k h = rw (add-one, drop-cons bits k 0 h) refl

  pub mask-back : (bits : List ℕ) (k : ℕ) → 0 < k → k ≤ length bits → mask_of f (drop (k - 1) bits) ≡ mask_of f (drop k bits) * 2 + f (get_or bits (k - 1) 0)
  mask-back bits k p h =
      let e : k - 1 + 1 ≡ k = omega arith in
      mask_step bits (k - 1) (omega arith) ∙ rw e

  pub mask_end : (bits : List ℕ) → mask_of f (drop (length bits) bits) ≡ 0
  unfolding mask_of
  mask_end bits = rw (drop_of_length-le bits {i = length bits} (omega arith))

-- a mask of the bits from k on has room for one bit more, as code has the digit of what is told
pub mask-room : (n k m : ℕ) → m < 2 ^ (n - k) → 0 < k → n ≤ most_bits → m * 2 + 1 < 2 ^ 64
mask-room n k m s p h =
    let most : n - k ≤ 63 = omega arith in
    let few : m < 2 ^ 63 = lt_of_lt_of_le s (pow_mono most) in
    omega arith

pub mask-more : (n k m d : ℕ) → m < 2 ^ (n - k) → 0 < k → k ≤ n → d ≤ 1 → m * 2 + d < 2 ^ (n - (k - 1))
mask-more n k m d s p h l = let e : n - (k - 1) ≡ suc (n - k) = omega arith in rw e (omega (arith, pow-suc 2 (n - k)))

pub told-digit : (b : Bool) → bool_byte b ≡ digit b
told-digit true = refl
told-digit false = refl

-- ---- a row

pub members-here : (h : Head) (r : Row) {m : ℕ} → r.group < 2 ^ 64 → m ≡ everyone (min h.states 64) → bit_and r.group m ≡ members h r
members-here h r l e = ap (bit_and r.group) e ∙ below-least h.states r.group l

pub term_made : (h : Head) (bits : List ℕ) (r : Row) {g u a n : ℕ} → g ≡ members h r → u ≡ mask_of (some_at g) bits → a ≡ mask_of (all_at g) bits → n ≡ mask_of (some_at r.next) bits
    → ◌≡◌ {A = Term} (record { input = r.input; low = bit_and u a; high = u; next = n }) (term_of h bits r)
unfolding term_of
term_made h bits r e f g k = rw (f, g, k, e)

-- ---- the rows

pub no-count : {ts : Terms} → ts ≡ no_terms → ts.count ≡ 0
unfolding no_terms
no-count e = ap (λ (ts : Terms). ts.count) e

module _ (h : Head) (bits : List ℕ) where
  pub terms-by : (ts : Terms) (r : Row) {b : Bool} → is_left_out h bits r ≡ b → terms_with h bits ts r ≡ cond b ts (record { count = ts.count + 1; table = set ts.table ts.count (term_of h bits r) })
  unfolding terms_with
  terms-by ts r e = rw e

  pub terms-here : (ts : Terms) (r : Row) (qs rs : List Row) {us : Terms} → qs ≡ r ∷ rs → us ≡ terms_with h bits ts r → terms_by h bits ts qs ≡ terms_by h bits us rs
  unfolding terms_by
  terms-here ts r qs rs e q = rw (e, q)

  pub terms-none : (ts : Terms) (qs : List Row) → qs ≡ [] → terms_by h bits ts qs ≡ ts
  unfolding terms_by
  terms-none ts qs e = rw e

  -- no row is counted twice
  pub terms-count : (ts : Terms) (r : Row) → (terms_with h bits ts r).count ≤ ts.count + 1
  unfolding terms_with
  terms-count ts r = go (is_left_out h bits r)
    where
      go : (b : Bool) → (cond b ts (record { count = ts.count + 1; table = set ts.table ts.count (term_of h bits r) })).count ≤ ts.count + 1
      go true = omega arith
      go false = omega arith

-- ---- by no more bits than there can be

pub terms-for : (t : Listing) (bits : List ℕ) → length bits ≤ most_bits → terms_for t bits ≡ terms_by t.head bits no_terms (all_rows t)
unfolding terms_for
terms-for t bits h = rw (le-leb (length bits) most_bits h)

pub terms-beyond : (t : Listing) (bits : List ℕ) → most_bits < length bits → terms_for t bits ≡ no_terms
unfolding terms_for
terms-beyond t bits h = rw (lt-leb (length bits) most_bits h)

pub code-for : (bits : List ℕ) (s : ℕ) → length bits ≤ most_bits → s < most_states → code_for bits s ≡ mask_of (some_at (only s)) bits
unfolding code_for
code-for bits s h l = rw (le-leb (length bits) most_bits h, lt-ltb s most_states l)

-- ---- a face and a code

one_way : (l d u : ℕ) → l < 2 → d < 2 → u < 2 → eqb (max (min l (1 - d)) (min d (1 - u))) 0 ≡ (leb l d && leb d u)
one_way zero zero zero a b c = refl
one_way zero zero (suc zero) a b c = refl
one_way zero (suc zero) zero a b c = refl
one_way zero (suc zero) (suc zero) a b c = refl
one_way (suc zero) zero zero a b c = refl
one_way (suc zero) zero (suc zero) a b c = refl
one_way (suc zero) (suc zero) zero a b c = refl
one_way (suc zero) (suc zero) (suc zero) a b c = refl
one_way (suc (suc l)) d u a b c = absurd (omega arith)
one_way zero (suc (suc d)) u a b c = absurd (omega arith)
one_way (suc zero) (suc (suc d)) u a b c = absurd (omega arith)
one_way zero zero (suc (suc u)) a b c = absurd (omega arith)
one_way zero (suc zero) (suc (suc u)) a b c = absurd (omega arith)
one_way (suc zero) zero (suc (suc u)) a b c = absurd (omega arith)
one_way (suc zero) (suc zero) (suc (suc u)) a b c = absurd (omega arith)

outside : (l d u k : ℕ) → d < 2 ^ 64 → u < 2 ^ 64 → k < 64
    → eqb (has (bit_or (bit_and l ((2 ^ 64 - 1) - d)) (bit_and d ((2 ^ 64 - 1) - u))) k) 0 ≡ (leb (has l k) (has d k) && leb (has d k) (has u k))
outside l d u k hd hu hk =
    rw (has-or (bit_and l ((2 ^ 64 - 1) - d)) (bit_and d ((2 ^ 64 - 1) - u)) k, has-and l ((2 ^ 64 - 1) - d) k, has-and d ((2 ^ 64 - 1) - u) k, has-not 64 d k hd hk, has-not 64 u k hu hk)
    (one_way (has l k) (has d k) (has u k) (has-lt l k) (has-lt d k) (has-lt u k))

pub code-mask : (w : ℕ) (q : Term) (code : ℕ) {m : ℕ} → q.low < 2 ^ 64 → code < 2 ^ 64 → q.high < 2 ^ 64 → m ≡ everyone (min w 64)
    → eqb (bit_and (bit_or (bit_and q.low ((2 ^ 64 - 1) - code)) (bit_and code ((2 ^ 64 - 1) - q.high))) m) 0 ≡ takes_code w q code
unfolding takes_code
code-mask w q code hl hc hu e =
    rw e
    (none-low (min w 64) (bit_or (bit_and q.low ((2 ^ 64 - 1) - code)) (bit_and code ((2 ^ 64 - 1) - q.high)))
    ∙ every-same (min w 64) _ _ (λ k h. outside q.low code q.high k hc hu (omega arith))
    ∙ every-least w 64 _ (λ k h. rw (has-high 64 q.low k hl h, has-high 64 code k hc h, has-high 64 q.high k hu h)))

-- ---- the next code

module _ (i w x code : ℕ) where
  pub code_here : (given : ℕ) (qs : List Term) (k : ℕ) → k < length qs → {g : ℕ} → g ≡ code_with i w x code given (get_or qs k no_term) → code_by i w x code given (drop k qs) ≡ code_by i w x code g (drop (k + 1) qs)
  unfolding code_by
  code_here given qs k h e = rw (add-one, drop-cons qs k no_term h, e) refl

  pub code-none : (given : ℕ) (qs : List Term) (k : ℕ) → length qs ≤ k → code_by i w x code given (drop k qs) ≡ given
  unfolding code_by
  code-none given qs k h = rw (drop_of_length-le qs {i = k} h)
