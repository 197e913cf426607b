-- The `SC` lines of a report, read as codes from elsewhere: they are accepted, and say the bits that they were written from.
use mathlib.Core.Path.{◌≡◌, refl, sym, ap, ap₂, ◌∙◌}
use mathlib.Core.Bool.{Bool, true, false, ◌&&◌, cond}
use mathlib.Core.List.{List, [], ◌∷◌, ◌++◌, map, append_assoc, append-nil}
use Prim.Native.Nat.{ℕ, zero, suc, ◌+◌, ◌*◌, ◌-◌, ◌/◌, ◌^◌, ◌≤◌, ◌<◌}
use native.Mathlib.Omega.{arith}
use lib.ListN.{length, get_or, take, replicate, set, length-append, length-map}
use lib.Seq.{take_at}
use lib.Dec.{eqb}
use borrow.Author.Tests.{eq-eqb, ne_eqb}
use Rattle.sets.specs.Sets.{has, states_from}
use Rattle.sets.proofs.Members.{has-lt, has-zero, has-suc}
use Rattle.sets.proofs.Every.{and_both}
use Rattle.rules.specs.Limits.{most_states, most_bits}
use Rattle.rules.specs.Text.{bytes, digit, lf, space, dash, nought, one, same, split, lines_of, fields_of, mark_of, all_of, set_of, decimal}
use Rattle.rules.specs.Code.{code_of}
use Rattle.rules.specs.Listing.{nothing}
use Rattle.rules.specs.Report.{digits, code_text, state_line, joined_lines}
use Rattle.rules.specs.ListingText.{set_field}
use Rattle.rules.specs.CheckTexts.{code_fits, width_in, is_number, code_good, with_code, codes_from, codes_reading, bit_in, CodesReading}
use Rattle.rules.specs.Check.{bits_of}
use Rattle.rules.specs.declared.CodeTable.{CodeTable}
use Rattle.rules.proofs.Fields.{Without, none, more, without-append, split-last, split-part}
use Rattle.rules.proofs.Decimal.{decimal-without}
use Rattle.rules.proofs.Most.{states-length}
use Rattle.rules.proofs.Numerals.{numeral-read}
use Rattle.rules.proofs.WrittenFields.{all-of, fits, digit-one, is_digit, set-field}
use Rattle.rules.proofs.LinesAside.{map-like, map-twice}
use Rattle.rules.proofs.ReportLines.{code-high, code-without}
use Rattle.rules.proofs.CoverLines.{rows-first}
use Rattle.rules.proofs.ListingBack.{filled_on}
use Rattle.rules.specs.Refusals.{refused}
use Rattle.std.specs.Prelude.{Ok}
use Rattle.rules.specs.declared.Refusal.TheVariants.{BadLine}

-- ---- the lines

-- the lines of n states, one behind the other
abbrev pub codes_text : ℕ → List ℕ → List ℕ
codes_text n bits = joined_lines (map (λ s. state_line bits (record { 0 = s })) (states_from 0 n))

-- the line of the state s, without its LF
abbrev pub code_line : List ℕ → ℕ → List ℕ
code_line bits s = bytes "SC " ++ (decimal s ++ (space ∷ code_text (code_of bits s)))

module _ (bits : List ℕ) where
  pub state-line : (s : ℕ) → state_line bits (record { 0 = s }) ≡ code_line bits s ++ (lf ∷ [])
  unfolding state_line
  state-line s = ap (λ (l : List ℕ). bytes "SC " ++ l) (sym (append_assoc (decimal s) (space ∷ code_text (code_of bits s)) (lf ∷ [])))

  pub line-without : (s : ℕ) → Without lf (code_line bits s)
  line-without s =
      more {x = 83} (λ e. omega arith)
      (more {x = 67} (λ e. omega arith)
      (more {x = space} (λ e. omega arith)
      (without-append (decimal-without lf (omega arith) s) (more {x = space} (λ e. omega arith) (code-without (code_of bits s))))))

  line-fields : (s : ℕ) → fields_of (code_line bits s) ≡ bytes "SC" ∷ (decimal s ∷ (code_text (code_of bits s) ∷ []))
  line-fields s =
      split-part space (bytes "SC") (decimal s ++ (space ∷ code_text (code_of bits s))) (more {x = 83} (λ e. omega arith) (more {x = 67} (λ e. omega arith) none))
      ∙ ap {B = List (List ℕ)} (λ ls. bytes "SC" ∷ ls)
      (split-part space (decimal s) (code_text (code_of bits s)) (decimal-without space (omega arith) s)
      ∙ ap {B = List (List ℕ)} (λ ls. decimal s ∷ ls) (split-last space (code_text (code_of bits s)) (code-high space (omega arith) (code_of bits s))))

  pub line-mark : (s : ℕ) → mark_of (code_line bits s) ≡ bytes "SC"
  unfolding mark_of
  line-mark s = ap (λ (fs : List (List ℕ)). get_or fs 0 []) (line-fields s)

  codes-lines : (n : ℕ) → lines_of (codes_text n bits) ≡ map (code_line bits) (states_from 0 n) ++ ([] ∷ [])
  unfolding joined_lines split
  codes-lines n =
      let ss : List ℕ = states_from 0 n in
      ap (λ (ls : List (List ℕ)). lines_of (joined_lines ls))
      (map-like (λ s. state_line bits (record { 0 = s })) (λ s. code_line bits s ++ (lf ∷ [])) ss state-line ∙ sym (append-nil (map (λ s. code_line bits s ++ (lf ∷ [])) ss)))
      ∙ rows-first (code_line bits) line-without ss []

-- ---- a code

-- the code of the state s as a number, its first bit the lowest digit
abbrev pub code_number : List ℕ → ℕ → ℕ
code_number bits s = set_of one (code_text (code_of bits s))

digits-has : (bits : List ℕ) (s k : ℕ) → k < length bits → has (set_of one (digits (code_of bits s))) k ≡ has (get_or bits k 0) s
unfolding set_of
digits-has [] s k h = absurd (omega arith)
digits-has (b ∷ bs) s zero h =
    let x : ℕ = set_of one (digits (code_of bs s)) in
    let d : ℕ = digit (eqb (nought + has b s) one) in
    has-zero (x * 2 + d) ∙ omega (arith, digit-one (has b s) (has-lt b s), has-lt b s)
digits-has (b ∷ bs) s (suc k) h =
    let x : ℕ = set_of one (digits (code_of bs s)) in
    let d : ℕ = digit (eqb (nought + has b s) one) in
    let half : (x * 2 + d) / 2 ≡ x = omega (arith, digit-one (has b s) (has-lt b s), has-lt b s) in
    has-suc (x * 2 + d) k ∙ ap (λ (m : ℕ). has m k) half ∙ digits-has bs s k (omega arith)

code-has : (bits : List ℕ) (s k : ℕ) → k < length bits → has (code_number bits s) k ≡ has (get_or bits k 0) s
unfolding code_text
code-has [] s k h = absurd (omega arith)
code-has (b ∷ bs) s k h = digits-has (b ∷ bs) s k h

code_fits_lem : (bits : List ℕ) (s : ℕ) → length bits ≤ most_bits → code_fits (length bits) (code_text (code_of bits s)) ≡ true
unfolding code_fits code_text same
code_fits_lem [] s h = refl
code_fits_lem (b ∷ bs) s h =
    let f : List ℕ = digits (code_of (b ∷ bs) s) in
    let flat : f ≡ map (λ c. nought + has c s) (b ∷ bs) = map-twice (λ d. nought + d) (λ c. has c s) (b ∷ bs) in
    fits most_bits (suc (length bs)) nought one one f h
    (length-map (code_of (b ∷ bs) s) (λ d. nought + d) ∙ length-map (b ∷ bs) (λ c. has c s))
    (ap (all_of nought one one) flat ∙ all-of nought one one (λ c. nought + has c s) (b ∷ bs) (λ c. is_digit one (has c s) (has-lt c s)))

is-number : (s : ℕ) → s < 10000 → is_number s (decimal s) ≡ true
unfolding is_number
is-number s h = rw (numeral-read s h, is_number) (eq-eqb s s refl)

module _ (bits : List ℕ) where
  line-good : length bits ≤ most_bits → (s : ℕ) → s < most_states → code_good (length bits) s (code_line bits s) ≡ true
  unfolding code_good mark_of same
  line-good narrow s h =
      ap (λ (fs : List (List ℕ)). eqb (length fs) 3 && (same (get_or fs 0 []) (bytes "SC") && (is_number s (get_or fs 1 []) && code_fits (length bits) (get_or fs 2 [])))) (line-fields bits s)
      ∙ and_both (is_number s (decimal s)) (code_fits (length bits) (code_text (code_of bits s))) (is-number s (omega arith)) (code_fits_lem bits s narrow)

  first_width : (s : ℕ) → width_in (code_line bits s) ≡ length bits
  unfolding width_in code_text same
  first_width s = ap (λ (fs : List (List ℕ)). cond (same (get_or fs 2 []) (dash ∷ [])) 0 (length (get_or fs 2 []))) (line-fields bits s) ∙ shown bits s
    where
      shown : (bits : List ℕ) (s : ℕ) → cond (same (code_text (code_of bits s)) (dash ∷ [])) 0 (length (code_text (code_of bits s))) ≡ length bits
      shown [] s = refl
      shown (b ∷ bs) s = rw (ne_eqb (nought + has b s) dash (λ e. omega arith)) (ap suc (length-map (code_of bs s) (λ d. nought + d) ∙ length-map bs (λ c. has c s)))

-- ---- all of them

-- a line that others follow
codes-some : (s k : ℕ) (c : CodeTable) (l : List ℕ) (ls : List (List ℕ)) → 1 ≤ length ls → code_good c.width s l ≡ true
    → codes_from s (suc k) c (l ∷ ls) ≡ codes_from (s + 1) k (with_code s (set_of one (get_or (fields_of l) 2 [])) c) ls
unfolding codes_from
codes-some s k c l [] h good = absurd (omega arith)
codes-some s k c l (m ∷ ms) h good =
    ap {B = CodesReading} (λ (b : Bool). elim b [ true ↦ codes_from (s + 1) k (with_code s (set_of one (get_or (fields_of l) 2 [])) c) (m ∷ ms) | false ↦ refused BadLine (s + 1) ]) good

-- the table of some codes, of so many bits
abbrev table_of : ℕ → List ℕ → CodeTable
table_of width done = record { width = width; table = done ++ replicate (most_states - length done) 0 }

-- what the lines of n states say
abbrev pub codes_said : ℕ → List ℕ → CodeTable
codes_said n bits = table_of (length bits) (map (code_number bits) (states_from 0 n))

module _ (bits : List ℕ) (narrow : length bits ≤ most_bits) where
  grown : (done : List ℕ) (x s : ℕ) → length done ≡ s → s < most_states → with_code s x (table_of (length bits) done) ≡ table_of (length bits) (done ++ (x ∷ []))
  grown done x s e h =
      ap (λ (l : List ℕ). record { width = length bits; table = l })
      (ap (λ (i : ℕ). set (done ++ replicate (most_states - length done) 0) i x) (sym e) ∙ filled_on most_states 0 done x (omega arith))

  lines_left : (s k : ℕ) → 1 ≤ length (map (code_line bits) (states_from s k) ++ ([] ∷ []))
  lines_left s k = omega (arith, length-append (map (code_line bits) (states_from s k)) ([] ∷ []))

  from_back : (k s : ℕ) (done : List ℕ) → length done ≡ s → s + k ≤ most_states
      → codes_from s k (table_of (length bits) done) (map (code_line bits) (states_from s k) ++ ([] ∷ [])) ≡ Ok (table_of (length bits) (done ++ map (code_number bits) (states_from s k)))
  unfolding codes_from states_from nothing
  from_back zero s done e h = ap (λ (l : List ℕ). Ok (table_of (length bits) l)) (sym (append-nil done))
  from_back (suc k) s done e h =
      let x : ℕ = code_number bits s in
      let rest : List (List ℕ) = map (code_line bits) (states_from (suc s) k) ++ ([] ∷ []) in
      let next : s + 1 ≡ suc s = omega arith in
      let done_next : length (done ++ (x ∷ [])) ≡ suc s = omega (arith, length-append done (x ∷ [])) in
      codes-some s k (table_of (length bits) done) (code_line bits s) rest (lines_left (suc s) k) (line-good bits narrow s (omega arith))
      ∙ ap (λ (fs : List (List ℕ)). codes_from (s + 1) k (with_code s (set_of one (get_or fs 2 [])) (table_of (length bits) done)) rest) (line-fields bits s)
      ∙ ap₂ (λ (i : ℕ) (c : CodeTable). codes_from i k c rest) next (grown done x s e (omega arith))
      ∙ from_back k (suc s) (done ++ (x ∷ [])) done_next (omega arith)
      ∙ ap (λ (l : List ℕ). Ok (table_of (length bits) l)) (append_assoc done (x ∷ []) (map (code_number bits) (states_from (suc s) k)))

pub codes-back : (n : ℕ) (bits : List ℕ) → 1 ≤ n → n ≤ most_states → length bits ≤ most_bits → codes_reading n (lines_of (codes_text n bits)) ≡ Ok (codes_said n bits)
unfolding codes_reading states_from
codes-back zero bits some few narrow = absurd (omega arith)
codes-back (suc n) bits some few narrow =
    ap (codes_reading (suc n)) (codes-lines bits (suc n))
    ∙ ap (λ (w : ℕ). codes_from 0 (suc n) (record { width = w; table = replicate most_states 0 }) (map (code_line bits) (states_from 0 (suc n)) ++ ([] ∷ []))) (first_width bits 0)
    ∙ from_back bits narrow (suc n) 0 [] refl (omega arith)

-- ---- the bits

bit-set : (k : ℕ) (f : ℕ → ℕ) (ss : List ℕ) → bit_in k (map f ss) ≡ set_of one (map (λ s. nought + has (f s) k) ss)
unfolding bit_in set_of
bit-set k f [] = refl
bit-set k f (s ∷ ss) = ap₂ (λ (a b : ℕ). a * 2 + b) (bit-set k f ss) (sym (digit-one (has (f s) k) (has-lt (f s) k)))

-- a list by its places, of which the first is a
by_place : (f : ℕ → ℕ) (a : ℕ) (l : List ℕ) → ((k : ℕ) → k < length l → f (a + k) ≡ get_or l k 0) → map f (states_from a (length l)) ≡ l
unfolding states_from
by_place f a [] h = refl
by_place f a (x ∷ xs) h =
    let here : a + 0 ≡ a = omega arith in
    ap₂ {C = List ℕ} (λ y ys. y ∷ ys) (ap f (sym here) ∙ h 0 (omega arith)) (by_place f (suc a) xs (λ k l. let next : suc a + k ≡ a + suc k = omega arith in ap f next ∙ h (suc k) (omega arith)))

pub bits_back : (n : ℕ) (bits : List ℕ) → ((k : ℕ) → k < length bits → get_or bits k 0 < 2 ^ n) → bits_of n (codes_said n bits) ≡ bits
unfolding bits_of set_field
bits_back n bits below =
    ap (λ (cs : List ℕ). map (λ k. bit_in k cs) (states_from 0 (length bits))) codes
    ∙ by_place (λ k. bit_in k (map (code_number bits) (states_from 0 n))) 0 bits bit
  where
    codes : take n (codes_said n bits).table ≡ map (code_number bits) (states_from 0 n)
    codes = take_at (map (code_number bits) (states_from 0 n)) _ n (length-map (states_from 0 n) (code_number bits) ∙ states-length 0 n)

    bit : (k : ℕ) → k < length bits → bit_in (0 + k) (map (code_number bits) (states_from 0 n)) ≡ get_or bits k 0
    bit k h =
        let here : 0 + k ≡ k = omega arith in
        ap (λ (j : ℕ). bit_in j (map (code_number bits) (states_from 0 n))) here
        ∙ bit-set k (code_number bits) (states_from 0 n)
        ∙ ap (set_of one) (map-like (λ s. nought + has (code_number bits s) k) (λ s. nought + has (get_or bits k 0) s) (states_from 0 n) (λ s. ap (λ (d : ℕ). nought + d) (code-has bits s k h)))
        ∙ set-field n (get_or bits k 0) (below k h)
