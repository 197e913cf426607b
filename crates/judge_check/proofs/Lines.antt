-- A line of a cover from elsewhere, in the tables: it fires there where its characters take the inputs and the code of the state, and says what its characters say.
use mathlib.Core.Path.{◌≡◌, sym, ap, ap₂, ◌∙◌}
use mathlib.Core.Bool.{Bool, true, false, ◌&&◌, ◌||◌, or-true}
use mathlib.Core.List.{List, ◌++◌}
use Prim.Native.Nat.{ℕ, ◌+◌, ◌*◌, ◌^◌, ◌≤◌, ◌<◌, min}
use native.Mathlib.Nat.{zero-add}
use native.Mathlib.Omega.{arith}
use lib.Dec.{eqb}
use lib.ListN.{length, get_or, take, drop, length-take, length-drop, length-map, take-append-drop}
use lib.Seq.{get_or-take, get_or-drop}
use borrow.Author.Tests.{eq-eqb}
use Rattle.sets.specs.Sets.{has, every, states_from}
use Rattle.sets.proofs.Every.{every-same}
use Rattle.sets.proofs.Members.{has-lt, has-high}
use Rattle.sets.proofs.Places.{map_at}
use Rattle.rules.specs.Text.{nought, one, dash, field_at, all_of, set_of}
use Rattle.rules.specs.Listing.{no_pattern}
use Rattle.rules.specs.Least.{turned}
use Rattle.rules.specs.Code.{code_of}
use Rattle.rules.specs.Cover.{fires, takes, vector, line_fires}
use Rattle.rules.specs.declared.Head.{Head}
use Rattle.rules.specs.declared.Row.{Row}
use Rattle.rules.proofs.Agreeing.{each-state}
use Rattle.rules.proofs.Fires.{takes-append}
use Rattle.rules.proofs.Most.{states-length}
use Rattle.run_inputs.proofs.Masks.{every-least}
use Rattle.judge_search.specs.Rows.{row_fires}
use Rattle.judge_search.proofs.RowFires.{row-fires}
use Rattle.judge_rows.specs.Rows.{marks_of, takes_digit, saying_list, line_firing, line_saying}
use Rattle.judge_check.proofs.Made.{is_one, set_past, set_says, taking-at, all_take, all_drop, field-takes, marks-fit}

-- ---- where it fires

module _ (h : Head) (w : ℕ) (codes bits : List ℕ) (s : ℕ) (few : h.inputs ≤ 64) (short : w ≤ 64) (within : s < length codes) (fit : get_or codes s 0 < 2 ^ w)
    (wide : length bits ≡ w) (same : (k : ℕ) → k < w → has (get_or bits k 0) s ≡ has (get_or codes s 0) k) (v : ℕ) where
  abbrev i : ℕ
  i = h.inputs

  abbrev x : ℕ
  x = turned i v

  module _ (l : List ℕ) (long : length (field_at l 0) ≡ i + w) (good : all_of nought one dash (field_at l 0) ≡ true) where
    abbrev f : List ℕ
    f = field_at l 0

    front : length (take i f) ≡ i
    front = omega (arith, length-take i f)

    behind : length (drop i f) ≡ w
    behind = omega (arith, length-drop i f)

    vector-long : length (vector i x) ≡ i
    vector-long = length-map (states_from 0 i) (has x) ∙ states-length 0 i

    vector-at : (m : ℕ) → m < i → get_or (vector i x) m 0 ≡ has x m
    vector-at m l = each-state (has x) 0 i m l ∙ ap (has x) (zero-add m)

    code-long : length (code_of bits s) ≡ w
    code-long = length-map bits (λ b. has b s) ∙ wide

    code_at : (k : ℕ) → k < w → get_or (code_of bits s) k 0 ≡ has (get_or codes s 0) k
    code_at k l = map_at (λ b. has b s) bits k 0 0 (omega (arith, wide)) ∙ same k l

    inputs-take : takes (take i f) (vector i x) ≡ every i (λ m. eqb (has (set_of dash (take i f)) m) 1 || eqb (has (set_of one (take i f)) m) (has x m))
    inputs-take =
        field-takes i (take i f) (vector i x) front vector-long (all_take i f good) (λ m l. omega (arith, vector-at m l, has-lt x m))
        ∙ every-same i _ _ (λ m l. ap (λ (d : ℕ). eqb (has (set_of dash (take i f)) m) 1 || eqb (has (set_of one (take i f)) m) d) (vector-at m l))

    code-takes : takes (drop i f) (code_of bits s) ≡ every w (λ k. eqb (has (set_of dash (drop i f)) k) 1 || eqb (has (set_of one (drop i f)) k) (has (get_or codes s 0) k))
    code-takes =
        field-takes w (drop i f) (code_of bits s) behind code-long (all_drop i f good) (λ k l. omega (arith, code_at k l, has-lt (get_or codes s 0) k))
        ∙ every-same w _ _ (λ k l. ap (λ (d : ℕ). eqb (has (set_of dash (drop i f)) k) 1 || eqb (has (set_of one (drop i f)) k) d) (code_at k l))

    -- past the code's bits nothing is asked
    all-bits : every w (λ k. eqb (has (set_of dash (drop i f)) k) 1 || eqb (has (set_of one (drop i f)) k) (has (get_or codes s 0) k))
        ≡ every 64 (λ k. eqb (has (set_of dash (drop i f)) k) 1 || eqb (has (set_of one (drop i f)) k) (has (get_or codes s 0) k))
    all-bits =
        let e : w ≡ min 64 w = omega arith in
        ap (λ (n : ℕ). every n (λ k. eqb (has (set_of dash (drop i f)) k) 1 || eqb (has (set_of one (drop i f)) k) (has (get_or codes s 0) k))) e
        ∙ every-least 64 w _ (λ k l. ap (λ (b : Bool). eqb (has (set_of dash (drop i f)) k) 1 || b) (eq-eqb _ _ (set_past one (drop i f) k (omega (arith, behind)) ∙ sym (has-high w (get_or codes s 0) k fit l)))
        ∙ or-true (eqb (has (set_of dash (drop i f)) k) 1))

    states-take : eqb (has (line_firing i codes l).states s) 1 ≡ takes (drop i f) (code_of bits s)
    unfolding line_firing takes_digit
    states-take =
        ap (λ (d : ℕ). eqb d 1) (taking-at (drop i f) codes s within ∙ ap (λ p. takes_digit p (get_or codes s 0)) (marks-fit (drop i f) (omega (arith, behind)) (all_drop i f good)))
        ∙ is_one (every 64 (λ k. eqb (has (set_of dash (drop i f)) k) 1 || eqb (has (set_of one (drop i f)) k) (has (get_or codes s 0) k)))
        ∙ sym all-bits
        ∙ sym code-takes

    ones-are : (line_firing i codes l).ones ≡ set_of one (take i f)
    unfolding line_firing
    ones-are = ap (λ p. p.ones) (marks-fit (take i f) (omega (arith, front)) (all_take i f good))

    dashes-are : (line_firing i codes l).dashes ≡ set_of dash (take i f)
    unfolding line_firing
    dashes-are = ap (λ p. p.dashes) (marks-fit (take i f) (omega (arith, front)) (all_take i f good))

    abbrev as_row : Row
    as_row = record { input = record { ones = set_of one (take i f); dashes = set_of dash (take i f) }; group = (line_firing i codes l).states; next = 0; outputs = no_pattern; line = 0 }

    pub line-fires : (table : List ℕ) (r : ℕ) → get_or table (r * 3) 0 ≡ (line_firing i codes l).ones → get_or table (r * 3 + 1) 0 ≡ (line_firing i codes l).dashes → get_or table (r * 3 + 2) 0 ≡ (line_firing i codes l).states
        → row_fires table i s v r ≡ line_fires l (vector i x ++ code_of bits s)
    unfolding fires line_fires
    line-fires table r a b c =
        row-fires table r h as_row s v (a ∙ ones-are) (b ∙ dashes-are) c
        ∙ ap₂ ◌&&◌ (sym inputs-take) states-take
        ∙ sym (ap (λ (g : List ℕ). takes g (vector i x ++ code_of bits s)) (sym (take-append-drop i f)) ∙ takes-append (take i f) (vector i x) (drop i f) (code_of bits s) (front ∙ sym vector-long))

-- ---- what it says

module _ (w o : ℕ) (short : w ≤ 64) (small : o ≤ 64) (l : List ℕ) (long : length (field_at l 1) ≡ w + o) (good : all_of nought one dash (field_at l 1) ≡ true) where
  abbrev g : List ℕ
  g = field_at l 1

  first : length (take w g) ≡ w
  first = omega (arith, length-take w g)

  rest : length (drop w g) ≡ o
  rest = omega (arith, length-drop w g)

  next_marks : marks_of (take w g) ≡ record { ones = set_of one (take w g); dashes = set_of dash (take w g) }
  next_marks = marks-fit (take w g) (omega (arith, first)) (all_take w g good)

  output-marks : marks_of (drop w g) ≡ record { ones = set_of one (drop w g); dashes = set_of dash (drop w g) }
  output-marks = marks-fit (drop w g) (omega (arith, rest)) (all_drop w g good)

  next_place : (c k : ℕ) → k < w → eqb (has (set_of c (take w g)) k) 1 ≡ eqb (get_or g k 0) c
  next_place c k l = set_says c (take w g) k (omega (arith, first)) ∙ ap (λ (y : ℕ). eqb y c) (get_or-take w g k 0 l)

  output-place : (c j : ℕ) → j < o → eqb (has (set_of c (drop w g)) j) 1 ≡ eqb (get_or g (w + j) 0) c
  output-place c j l = set_says c (drop w g) j (omega (arith, rest)) ∙ ap (λ (y : ℕ). eqb y c) (get_or-drop w g j 0)

  next-none : (c k : ℕ) → w ≤ k → eqb (has (set_of c (take w g)) k) 1 ≡ false
  next-none c k l = ap (λ (d : ℕ). eqb d 1) (set_past c (take w g) k (omega (arith, first)))

  output-none : (c j : ℕ) → o ≤ j → eqb (has (set_of c (drop w g)) j) 1 ≡ false
  output-none c j l = ap (λ (d : ℕ). eqb d 1) (set_past c (drop w g) j (omega (arith, rest)))

  abbrev said : ℕ → ℕ → Bool
  said n j = eqb (has (get_or (saying_list (line_saying w l)) n 0) j) 1

  -- its four numbers
  said-ones : (j : ℕ) → said 0 j ≡ eqb (has (set_of one (take w g)) j) 1
  unfolding line_saying
  said-ones j = ap (λ p. eqb (has p.ones j) 1) next_marks

  said-dashes : (j : ℕ) → said 1 j ≡ eqb (has (set_of dash (take w g)) j) 1
  unfolding line_saying
  said-dashes j = ap (λ p. eqb (has p.dashes j) 1) next_marks

  said-output : (j : ℕ) → said 2 j ≡ eqb (has (set_of one (drop w g)) j) 1
  unfolding line_saying
  said-output j = ap (λ p. eqb (has p.ones j) 1) output-marks

  said-free : (j : ℕ) → said 3 j ≡ eqb (has (set_of dash (drop w g)) j) 1
  unfolding line_saying
  said-free j = ap (λ p. eqb (has p.dashes j) 1) output-marks

  pub says-bit : (k : ℕ) → k < w → (said 0 k ≡ eqb (get_or g k 0) one) × (said 1 k ≡ eqb (get_or g k 0) dash)
  says-bit k l = (said-ones k ∙ next_place one k l, said-dashes k ∙ next_place dash k l)

  pub says-output : (j : ℕ) → j < o → (said 2 j ≡ eqb (get_or g (w + j) 0) one) × (said 3 j ≡ eqb (get_or g (w + j) 0) dash)
  says-output j l = (said-output j ∙ output-place one j l, said-free j ∙ output-place dash j l)

  pub says-no-bit : (k : ℕ) → w ≤ k → (said 0 k ≡ false) × (said 1 k ≡ false)
  says-no-bit k l = (said-ones k ∙ next-none one k l, said-dashes k ∙ next-none dash k l)

  pub says-no-output : (j : ℕ) → o ≤ j → (said 2 j ≡ false) × (said 3 j ≡ false)
  says-no-output j l = (said-output j ∙ output-none one j l, said-free j ∙ output-none dash j l)
