-- A cover of ours, read as one from elsewhere: each line is taken, there are as many rows as `.p` says, and `.i` and `.o` fit the listing and its code.
use Rattle.rules.specs.declared.Refusal.{Refusal}
use Rattle.std.specs.Prelude.{Result, Option, Ok, Err, Some, None}
use mathlib.Core.Path.{◌≡◌, refl, ap, ap₂, ◌∙◌}
use mathlib.Core.Bool.{Bool, true, false, ◌&&◌, ◌||◌, not, cond}
use mathlib.Core.List.{List, [], ◌∷◌, ◌++◌, map}
use Prim.Native.Nat.{ℕ, ◌+◌, ◌≤◌, ◌<◌}
use native.Mathlib.Omega.{arith}
use lib.Dec.{eqb}
use lib.Bits.{bit_and}
use lib.ListN.{length, get_or, length-append, length-map}
use borrow.Author.Tests.{eq-eqb, le-leb, lt-ltb}
use Rattle.sets.specs.Sets.{states_from}
use Rattle.sets.proofs.Every.{and_first, and_second, and_both}
use Rattle.rules.specs.Limits.{most_bits, most_checked}
use Rattle.rules.specs.Text.{bytes, digit, space, dot, dash, nought, one, same, lines_of, fields_of, mark_of, all_of, numeral_of, decimal}
use Rattle.rules.specs.Requirements.{wholly}
use Rattle.rules.specs.Listing.{all_rows}
use Rattle.rules.specs.Report.{digits}
use Rattle.rules.specs.Replay.{marked}
use Rattle.rules.specs.Cover.{face_at, face, input_at, next_code, says_one, says_dash, shares_one, output_at, cover_row, printed_rows, cover}
use Rattle.rules.specs.CheckTexts.{number_behind, places_fit, row_good, no_heads, in_part, with_inputs, with_outputs, with_products, row_counted, end_counted, cover_line_in, cover_line, fitting, is_over, cover_end, cover_from, cover_reading}
use Rattle.rules.specs.declared.Head.{Head}
use Rattle.rules.specs.declared.Row.{Row}
use Rattle.rules.specs.declared.Listing.{Listing}
use Rattle.rules.specs.Refusals.{refused}
use Rattle.rules.specs.declared.CoverPart.{CoverPart}
use Rattle.rules.specs.declared.CoverPart.TheVariants.{Outputs, Kind, Products, Rows, Over}
use Rattle.rules.specs.declared.CoverHeads.{CoverHeads}
use Rattle.rules.proofs.Fields.{none, more, split-last, split-part}
use Rattle.rules.proofs.Decimal.{decimal-without}
use Rattle.rules.proofs.Most.{states-length}
use Rattle.rules.proofs.Numerals.{numeral-read}
use Rattle.rules.proofs.Known.{same-eq}
use Rattle.rules.proofs.KissNumbers.{same_self}
use Rattle.rules.proofs.WrittenFields.{all-of, mark-allowed}
use Rattle.rules.proofs.Fires.{input_side, output_side, cover-fields}
use Rattle.rules.proofs.Sound.{Sound}
use Rattle.rules.proofs.AllRows.{all-few}
use Rattle.rules.proofs.Printed.{printed-few}
use Rattle.rules.proofs.CoverLines.{cover-lines}

-- ---- a mark and a number

module _ (c v : ℕ) (apart : c ≡ space → ⊥) where
  mark-fields : fields_of (dot ∷ (c ∷ (space ∷ decimal v))) ≡ (dot ∷ (c ∷ [])) ∷ (decimal v ∷ [])
  mark-fields =
      split-part space (dot ∷ (c ∷ [])) (decimal v) (more {x = dot} (λ e. omega arith) (more apart none))
      ∙ ap {B = List (List ℕ)} (λ ls. (dot ∷ (c ∷ [])) ∷ ls) (split-last space (decimal v) (decimal-without space (omega arith) v))

  number_behind_lem : v < 10000 → number_behind (dot ∷ (c ∷ [])) (dot ∷ (c ∷ (space ∷ decimal v))) ≡ Some v
  unfolding number_behind marked mark_of
  number_behind_lem h =
      ap (λ (fs : List (List ℕ)). cond (eqb (length fs) 2 && same (get_or fs 0 []) (dot ∷ (c ∷ []))) (numeral_of (get_or fs 1 [])) None) mark-fields
      ∙ ap (λ (b : Bool). cond b (numeral_of (decimal v)) None) (same_self (dot ∷ (c ∷ [])))
      ∙ numeral-read v h

-- ---- a row

-- a character of a cover
abbrev Allowed : ℕ → Type 0
Allowed x = (eqb x nought || (eqb x one || eqb x dash)) ≡ true

face-allowed : (n g b : ℕ) → Allowed (face_at n g b)
unfolding face_at
face-allowed n g b = go (wholly n b 0 g) (wholly n b 1 g)
  where
    go : (t u : Bool) → Allowed (cond t nought (cond u one dash))
    go true u = refl
    go false true = refl
    go false false = refl

output-allowed : (rs : List Row) (r : Row) (j : ℕ) → Allowed (output_at rs r j)
unfolding output_at
output-allowed rs r j = go (says_one j r) (says_dash j r && not (shares_one rs r j))
  where
    go : (t u : Bool) → Allowed (cond t one (cond u dash nought))
    go true u = refl
    go false true = refl
    go false false = refl

digit-allowed : (b : Bool) → Allowed (nought + digit b)
digit-allowed true = refl
digit-allowed false = refl

next-allowed : (bits : List ℕ) (next : ℕ) → all_of nought one dash (digits (next_code bits next)) ≡ true
unfolding all_of
next-allowed [] next = refl
next-allowed (b ∷ bs) next =
    let d : ℕ = nought + digit (not (eqb (bit_and b next) 0)) in
    and_both (eqb d nought || (eqb d one || eqb d dash)) (all_of nought one dash (digits (next_code bs next))) (digit-allowed (not (eqb (bit_and b next) 0))) (next-allowed bs next)

all_append : (xs ys : List ℕ) → all_of nought one dash xs ≡ true → all_of nought one dash ys ≡ true → all_of nought one dash (xs ++ ys) ≡ true
unfolding all_of
all_append [] ys a b = b
all_append (x ∷ xs) ys a b =
    let here : Bool = eqb x nought || (eqb x one || eqb x dash) in
    and_both here (all_of nought one dash (xs ++ ys)) (and_first here (all_of nought one dash xs) a) (all_append xs ys (and_second here (all_of nought one dash xs) a) b)

places : (k : ℕ) (f : List ℕ) → 1 ≤ k → length f ≡ k → all_of nought one dash f ≡ true → places_fit k f ≡ true
unfolding places_fit
places k f some long each = rw (le-leb 1 k some, eq-eqb (length f) k long) each

module _ (head : Head) (bits : List ℕ) (rs : List Row) (r : Row) where
  inputs-fit : 1 ≤ head.inputs → places_fit (head.inputs + length bits) (input_side head bits r) ≡ true
  inputs-fit some =
      places (head.inputs + length bits) (input_side head bits r) (omega arith) long
      (all_append (map (input_at r) (states_from 0 head.inputs)) (face head.states bits r.group)
      (all-of nought one dash (input_at r) (states_from 0 head.inputs) (mark-allowed r.input))
      (all-of nought one dash (face_at head.states r.group) bits (face-allowed head.states r.group)))
    where
      long : length (input_side head bits r) ≡ head.inputs + length bits
      long =
          length-append (map (input_at r) (states_from 0 head.inputs)) (face head.states bits r.group)
          ∙ ap₂ ◌+◌ (length-map (states_from 0 head.inputs) (input_at r) ∙ states-length 0 head.inputs) (length-map bits (face_at head.states r.group))

  outputs-fit : 1 ≤ head.outputs → places_fit (length bits + head.outputs) (output_side head bits rs r) ≡ true
  outputs-fit some =
      places (length bits + head.outputs) (output_side head bits rs r) (omega arith) long
      (all_append (digits (next_code bits r.next)) (map (output_at rs r) (states_from 0 head.outputs))
      (next-allowed bits r.next)
      (all-of nought one dash (output_at rs r) (states_from 0 head.outputs) (output-allowed rs r)))
    where
      code : List ℕ
      code = next_code bits r.next

      long : length (output_side head bits rs r) ≡ length bits + head.outputs
      long =
          length-append (digits code) (map (output_at rs r) (states_from 0 head.outputs))
          ∙ ap₂ ◌+◌ (length-map code (λ d. nought + d) ∙ length-map bits (λ b. digit (not (eqb (bit_and b r.next) 0))))
          (length-map (states_from 0 head.outputs) (output_at rs r) ∙ states-length 0 head.outputs)

  -- it is not `.e`, which has one field
  not_end : same (cover_row head bits rs r) (bytes ".e") ≡ false
  not_end = go (same (cover_row head bits rs r) (bytes ".e")) refl
    where
      one_field : length (fields_of (bytes ".e")) ≡ 1
      one_field = ap (λ (fs : List (List ℕ)). length fs) (split-last space (bytes ".e") (more {x = dot} (λ e. omega arith) (more {x = 101} (λ e. omega arith) none)))

      go : (b : Bool) → same (cover_row head bits rs r) (bytes ".e") ≡ b → b ≡ false
      go true e =
          absurd (omega (arith, ap (λ (l : List ℕ). length (fields_of l)) (same-eq (cover_row head bits rs r) (bytes ".e") e), ap (λ (fs : List (List ℕ)). length fs) (cover-fields head bits rs r), one_field))
      go false e = refl

  row-good : 1 ≤ head.inputs → 1 ≤ head.outputs → (h : CoverHeads) → h.inputs ≡ head.inputs + length bits → h.outputs ≡ length bits + head.outputs
      → row_good h (cover_row head bits rs r) ≡ true
  unfolding row_good
  row-good some_in Some-out h i o =
      ap (λ (fs : List (List ℕ)). eqb (length fs) 2 && (places_fit h.inputs (get_or fs 0 []) && places_fit h.outputs (get_or fs 1 []))) (cover-fields head bits rs r)
      ∙ and_both (places_fit h.inputs (input_side head bits r)) (places_fit h.outputs (output_side head bits rs r))
      (ap (λ (k : ℕ). places_fit k (input_side head bits r)) i ∙ inputs-fit some_in)
      (ap (λ (k : ℕ). places_fit k (output_side head bits rs r)) o ∙ outputs-fit Some-out)

-- ---- line by line

-- a line that is taken, and that others follow
cover-some : (i o k : ℕ) (h g : CoverHeads) (l : List ℕ) (ls : List (List ℕ)) → 1 ≤ length ls → cover_line h l ≡ Ok g → cover_from i o k h (l ∷ ls) ≡ cover_from i o (k + 1) g ls
unfolding cover_from
cover-some i o k h g l [] some e = absurd (omega arith)
cover-some i o k h g l (m ∷ ms) some e = ap (λ (x : Result CoverHeads Refusal). elim x [ Ok g ↦ cover_from i o (k + 1) g (m ∷ ms) | Err r ↦ refused r k ]) e

module _ (i o p : ℕ) where
  -- behind so many rows
  abbrev behind : ℕ → CoverHeads
  behind m = record { part = Rows; inputs = i; outputs = o; products = p; rows = m }

  row-taken : (m : ℕ) (l : List ℕ) → m < p → m < most_checked → same l (bytes ".e") ≡ false → row_good (behind m) l ≡ true → cover_line (behind m) l ≡ Ok (behind (m + 1))
  unfolding cover_line cover_line_in row_counted
  row-taken m l h q e good = rw (e, good, lt-ltb m p h, lt-ltb m most_checked q) refl

  end-taken : (m : ℕ) → m ≡ p → cover_line (behind m) (bytes ".e") ≡ Ok (in_part Over (behind m))
  unfolding cover_line cover_line_in end_counted same
  end-taken m e = rw (eq-eqb m p e) refl

  -- nothing behind `.e`
  over : (k m : ℕ) → cover_from i o k (in_part Over (behind m)) ([] ∷ []) ≡ Ok tt
  unfolding cover_from cover_end is_over fitting
  over k m = rw (eq-eqb i i refl, eq-eqb o o refl) refl

  rows_back : {A : Type 0} (f : A → List ℕ) → ((a : A) → same (f a) (bytes ".e") ≡ false) → ((a : A) (m : ℕ) → row_good (behind m) (f a) ≡ true) → (xs : List A) (k m : ℕ)
      → m + length xs ≡ p → p ≤ most_checked → cover_from i o k (behind m) (map f xs ++ (bytes ".e" ∷ ([] ∷ []))) ≡ Ok tt
  rows_back f other good [] k m e few = cover-some i o k (behind m) (in_part Over (behind m)) (bytes ".e") ([] ∷ []) (omega arith) (end-taken m (omega arith)) ∙ over (k + 1) m
  rows_back f other good (x ∷ rest) k m e few =
      let ls : List (List ℕ) = map f rest ++ (bytes ".e" ∷ ([] ∷ [])) in
      cover-some i o k (behind m) (behind (m + 1)) (f x) ls (omega (arith, length-append (map f rest) (bytes ".e" ∷ ([] ∷ []))))
      (row-taken m (f x) (omega arith) (omega arith) (other x) (good x m))
      ∙ rows_back f other good rest (k + 1) (m + 1) (omega arith) few

-- ---- the whole

-- behind a line of the head, no row yet
abbrev headed : CoverPart → ℕ → ℕ → ℕ → CoverHeads
headed part i o p = record { part = part; inputs = i; outputs = o; products = p; rows = 0 }

heads-back : (i o p : ℕ) (body : List (List ℕ)) → i < 10000 → o < 10000 → p < 10000 → 1 ≤ length body
    → cover_reading i o ((bytes ".i " ++ decimal i) ∷ ((bytes ".o " ++ decimal o) ∷ (bytes ".type fd" ∷ ((bytes ".p " ++ decimal p) ∷ body)))) ≡ cover_from i o 5 (behind i o p 0) body
unfolding cover_reading cover_line cover_line_in same
heads-back i o p body few-in few-out few some =
    cover-some i o 1 no_heads (headed Outputs i 0 0) (bytes ".i " ++ decimal i) (outs ∷ (bytes ".type fd" ∷ (count ∷ body))) (omega arith)
    (ap (λ (x : Option ℕ). with_inputs x no_heads) (number_behind_lem 105 i (λ e. omega arith) few-in))
    ∙ cover-some i o 2 (headed Outputs i 0 0) (headed Kind i o 0) outs (bytes ".type fd" ∷ (count ∷ body)) (omega arith)
    (ap (λ (x : Option ℕ). with_outputs x (headed Outputs i 0 0)) (number_behind_lem 111 o (λ e. omega arith) few-out))
    ∙ cover-some i o 3 (headed Kind i o 0) (headed Products i o 0) (bytes ".type fd") (count ∷ body) (omega arith) refl
    ∙ cover-some i o 4 (headed Products i o 0) (behind i o p 0) count body some (ap (λ (x : Option ℕ). with_products x (headed Products i o 0)) (number_behind_lem 112 p (λ e. omega arith) few))
  where
    outs : List ℕ
    outs = bytes ".o " ++ decimal o

    count : List ℕ
    count = bytes ".p " ++ decimal p

pub cover-back : (t : Listing) (bits : List ℕ) → Sound t → length bits ≤ most_bits
    → cover_reading (t.head.inputs + length bits) (length bits + t.head.outputs) (lines_of (cover t bits)) ≡ Ok tt
cover-back t bits sound narrow =
    ap (cover_reading i o) (cover-lines t bits)
    ∙ heads-back i o (length rows) (map row rows ++ (bytes ".e" ∷ ([] ∷ []))) (omega arith) (omega arith) (omega (arith, few)) (omega (arith, length-append (map row rows) (bytes ".e" ∷ ([] ∷ []))))
    ∙ rows_back i o (length rows) row (not_end t.head bits (all_rows t))
    (λ r m. row-good t.head bits (all_rows t) r sound.head.some-inputs sound.head.some-outputs (behind i o (length rows) m) refl refl)
    rows 5 0 (omega arith) few
  where
    i : ℕ
    i = t.head.inputs + length bits

    o : ℕ
    o = length bits + t.head.outputs

    rows : List Row
    rows = printed_rows t.head bits (all_rows t)

    row : Row → List ℕ
    row = cover_row t.head bits (all_rows t)

    few : length rows ≤ most_checked
    few = omega (arith, printed-few t.head bits (all_rows t), all-few t sound)
