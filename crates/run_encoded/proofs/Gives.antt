-- The next code that the rows give as masks is the one that the firing lines of the cover's text give, at any input vector and any code.
use mathlib.Core.Path.{◌≡◌, refl, sym, ap, ap₂, ◌∙◌}
use mathlib.Core.Bool.{Bool, true, false, ◌&&◌, ◌||◌, not, cond, or-false, and-false}
use mathlib.Core.List.{List, [], ◌∷◌, ◌++◌, map, append-nil, append_assoc}
use Prim.Native.Nat.{ℕ, zero, suc, ◌+◌, ◌*◌, ◌/◌, ◌%◌, ◌≤◌, ◌<◌, min, max}
use native.Mathlib.Nat.{zero-add}
use native.Mathlib.Numerals.{add-one}
use native.Mathlib.Omega.{arith}
use lib.Dec.{eqb, leb}
use lib.Bits.{bit_and, bit_or}
use lib.ListN.{length, take, get_or, set, length-map, length-set, length-replicate}
use lib.Seq.{take-suc-set}
use Rattle.sets.specs.Sets.{has, only, every, states_from}
use Rattle.sets.proofs.Members.{has-lt, has-or, has-and, has-none, has-zero, has-suc}
use Rattle.rules.specs.Limits.{most_lines}
use Rattle.rules.specs.Text.{bytes, digit, dash, nought, one, lines_of, field_at, split, decimal}
use Rattle.rules.specs.Listing.{all_rows, some}
use Rattle.rules.specs.Code.{code_of}
use Rattle.rules.specs.Cover.{face_at, face, input_at, cover_row, is_left_out, printed_rows, cover, takes, vector, line_fires}
use Rattle.rules.specs.Meaning.{cover_says}
use Rattle.rules.specs.Replay.{code_after}
use Rattle.rules.specs.declared.Head.{Head}
use Rattle.rules.specs.declared.Row.{Row}
use Rattle.rules.specs.declared.Listing.{Listing}
use Rattle.rules.proofs.Some.{some-append, some-like}
use Rattle.rules.proofs.Most.{states-length}
use Rattle.rules.proofs.Fires.{cover-fields, takes-append, inputs-take, part-has}
use Rattle.rules.proofs.Printed.{printed-none, printed-out, printed-in}
use Rattle.rules.proofs.CoverLines.{cover_bodies, cover-lines}
use Rattle.rules.proofs.Agreeing.{dot-fires, bit-place}
use Rattle.rules.proofs.Replay.{by-places}
use Rattle.write_pen.specs.Pen.{value_at}
use Rattle.write_faces.proofs.Masks.{face-value}
use Rattle.run_inputs.specs.Inputs.{takes_input}
use Rattle.run_encoded.specs.Terms.{some_at, all_at, mask_of, members, term_of, no_term, no_terms, terms_with, terms_by, takes_code, term_fires, code_with, code_by}
use Rattle.run_encoded.specs.declared.Term.{Term}
use Rattle.run_encoded.specs.declared.Terms.{Terms}
use Rattle.run_encoded.proofs.Steps.{some-le, all-le}

-- ---- a mask, digit by digit

low_digit : (m d : ℕ) → d ≤ 1 → (m * 2 + d) % 2 ≡ d
low_digit m d h = omega arith

rest-digits : (m d : ℕ) → d ≤ 1 → (m * 2 + d) / 2 ≡ m
rest-digits m d h = omega arith

mask-has : (f : ℕ → ℕ) → ((b : ℕ) → f b ≤ 1) → (bits : List ℕ) (k : ℕ) → k < length bits → has (mask_of f bits) k ≡ f (get_or bits k 0)
unfolding mask_of
mask-has f le [] k h = absurd (omega arith)
mask-has f le (b ∷ bs) zero h = has-zero (mask_of f bs * 2 + f b) ∙ low_digit (mask_of f bs) (f b) (le b)
mask-has f le (b ∷ bs) (suc k) h =
    has-suc (mask_of f bs * 2 + f b) k ∙ ap (λ (m : ℕ). has m k) (rest-digits (mask_of f bs) (f b) (le b)) ∙ mask-has f le bs k (omega arith)

-- the code of a state
pub state-code : (bits : List ℕ) (s : ℕ) → vector (length bits) (mask_of (some_at (only s)) bits) ≡ code_of bits s
unfolding some_at
state-code bits s =
    by-places (has (mask_of (some_at (only s)) bits)) (λ b. has b s) 0 bits
    (λ k l. ap (has (mask_of (some_at (only s)) bits)) (zero-add k) ∙ mask-has (some_at (only s)) (some-le (only s)) bits k l ∙ part-has (get_or bits k 0) s)

-- ---- a face takes the codes between its lowest and its highest

takes-places : (f g : ℕ → ℕ) (p : ℕ → Bool) (a : ℕ) (bits : List ℕ)
    → ((k : ℕ) → k < length bits → (eqb (f (get_or bits k 0)) dash || eqb (f (get_or bits k 0)) (nought + g (a + k))) ≡ p k)
    → takes (map f bits) (map g (states_from a (length bits))) ≡ every (length bits) p
unfolding takes every states_from
takes-places f g p a [] h = refl
takes-places f g p a (b ∷ bs) h =
    ap₂ ◌&&◌
    (ap (λ (j : ℕ). eqb (f b) dash || eqb (f b) (nought + g j)) (omega arith) ∙ h 0 (omega arith))
    (takes-places f g (λ k. p (suc k)) (suc a) bs (λ k l. ap (λ (j : ℕ). eqb (f (get_or bs k 0)) dash || eqb (f (get_or bs k 0)) (nought + g j)) (omega arith) ∙ h (suc k) (omega arith)))

-- one bit: z where no member has 1, a where all have, d the code's digit
one_way : (z a : Bool) (d : ℕ) → d < 2
    → (eqb (cond z nought (cond a one dash)) dash || eqb (cond z nought (cond a one dash)) (nought + d)) ≡ (leb (min (digit (not z)) (digit a)) d && leb d (digit (not z)))
one_way true true zero h = refl
one_way true true (suc zero) h = refl
one_way true false zero h = refl
one_way true false (suc zero) h = refl
one_way false true zero h = refl
one_way false true (suc zero) h = refl
one_way false false zero h = refl
one_way false false (suc zero) h = refl
one_way z a (suc (suc d)) h = absurd (omega arith)

face-between : (h : Head) (bits : List ℕ) (r : Row) (code : ℕ) → takes (face h.states bits r.group) (vector (length bits) code) ≡ takes_code (length bits) (term_of h bits r) code
unfolding takes_code term_of some_at all_at value_at
face-between h bits r code = takes-places (face_at h.states r.group) (has code) _ 0 bits each
  where
    m : ℕ
    m = members h r

    low : ℕ
    low = bit_and (mask_of (some_at m) bits) (mask_of (all_at m) bits)

    each : (k : ℕ) → k < length bits
        → (eqb (face_at h.states r.group (get_or bits k 0)) dash || eqb (face_at h.states r.group (get_or bits k 0)) (nought + has code (0 + k)))
        ≡ (leb (has low k) (has code k) && leb (has code k) (has (mask_of (some_at m) bits) k))
    each k l =
        rw (
          zero-add k,
          ← face-value h.states r.group (get_or bits k 0),
          has-and (mask_of (some_at m) bits) (mask_of (all_at m) bits) k,
          mask-has (some_at m) (some-le m) bits k l,
          mask-has (all_at m) (all-le m) bits k l,
        )
        (one_way (eqb (bit_and (get_or bits k 0) m) 0) (eqb (bit_and (get_or bits k 0) m) m) (has code k) (has-lt code k))

-- ---- a row's line fires as its masks say, and carries its next code

is_one : (v : Bool) → eqb (nought + digit v) one ≡ v
is_one true = refl
is_one false = refl

digit-one : (v : Bool) → eqb (digit v) 1 ≡ v
digit-one true = refl
digit-one false = refl

line-fires : (h : Head) (bits : List ℕ) (rs : List Row) (r : Row) (x code : ℕ)
    → line_fires (cover_row h bits rs r) (vector h.inputs x ++ vector (length bits) code) ≡ term_fires h.inputs (length bits) x code (term_of h bits r)
unfolding line_fires term_fires term_of takes_input
line-fires h bits rs r x code =
    ap (λ (fs : List (List ℕ)). takes (get_or fs 0 []) (vector h.inputs x ++ vector (length bits) code)) (cover-fields h bits rs r)
    ∙ takes-append (map (input_at r) ss) (vector h.inputs x) (face h.states bits r.group) (vector (length bits) code) (length-map ss (input_at r) ∙ sym (length-map ss (has x)))
    ∙ ap₂ ◌&&◌ (inputs-take r h.inputs x) (face-between h bits r code)
  where
    ss : List ℕ
    ss = states_from 0 h.inputs

line_gives : (h : Head) (bits : List ℕ) (rs : List Row) (r : Row) (k : ℕ) → k < length bits
    → eqb (get_or (field_at (cover_row h bits rs r) 1) k 0) one ≡ eqb (has (term_of h bits r).next k) 1
unfolding term_of some_at
line_gives h bits rs r k l =
    ap (λ (fs : List (List ℕ)). eqb (get_or (get_or fs 1 []) k 0) one) (cover-fields h bits rs r)
    ∙ ap (λ (m : ℕ). eqb m one) (bit-place h bits rs r k l)
    ∙ is_one v
    ∙ sym (ap (λ (m : ℕ). eqb m 1) (mask-has (some_at r.next) (some-le r.next) bits k l) ∙ digit-one v)
  where
    v : Bool
    v = not (eqb (bit_and (get_or bits k 0) r.next) 0)

-- ---- what the lines of the text give, at any digits

some-map : {A B : Type 0} (f : A → B) (p : B → Bool) (xs : List A) → some p (map f xs) ≡ some (λ x. p (f x)) xs
unfolding some
some-map f p [] = refl
some-map f p (x ∷ xs) = ap (λ (b : Bool). p (f x) || b) (some-map f p xs)

lines-give : (t : Listing) (bits ds : List ℕ) (k : ℕ)
    → cover_says (cover_bodies t bits) ds k one
    ≡ some (λ r. line_fires (cover_row t.head bits (all_rows t) r) ds && eqb (get_or (field_at (cover_row t.head bits (all_rows t) r) 1) k 0) one) (printed_rows t.head bits (all_rows t))
unfolding cover_says some split
lines-give t bits ds k =
    rw (
      dot-fires (bytes ".i " ++ decimal (t.head.inputs + length bits)) _ ds refl,
      dot-fires (bytes ".o " ++ decimal (length bits + t.head.outputs)) _ ds refl,
      dot-fires (bytes ".type fd") _ ds refl,
      dot-fires (bytes ".p " ++ decimal (length (printed_rows t.head bits (all_rows t)))) _ ds refl,
    )
    (some-append says (map row printed) (bytes ".e" ∷ ([] ∷ []))
    ∙ ap₂ ◌||◌ (some-map row says printed) ends
    ∙ or-false (some (λ r. says (row r)) printed))
  where
    printed : List Row
    printed = printed_rows t.head bits (all_rows t)

    row : Row → List ℕ
    row = cover_row t.head bits (all_rows t)

    says : List ℕ → Bool
    says l = line_fires l ds && eqb (get_or (field_at l 1) k 0) one

    none : says [] ≡ false
    none = and-false (line_fires [] ds)

    ends : some says (bytes ".e" ∷ ([] ∷ [])) ≡ false
    ends = rw (dot-fires (bytes ".e") _ ds refl, none)

-- ---- what the masks give

module _ (i w x code : ℕ) where
  gives-has : (k a : ℕ) (qs : List Term) → has (code_by i w x code a qs) k ≡ max (has a k) (digit (some (λ q. term_fires i w x code q && eqb (has q.next k) 1) qs))
  unfolding code_by code_with some
  gives-has k a [] = omega (arith, has-lt a k)
  gives-has k a (q ∷ qs) = go (term_fires i w x code q) (λ c. gives-has k c qs)
    where
      rest : Bool
      rest = some (λ q. term_fires i w x code q && eqb (has q.next k) 1) qs

      said : (d : ℕ) → d < 2 → d ≡ digit (eqb d 1)
      said zero l = refl
      said (suc zero) l = refl
      said (suc (suc d)) l = absurd (omega arith)

      either : (d : ℕ) (t u : Bool) → max (max d (digit t)) (digit u) ≡ max d (digit (t || u))
      either d true true = omega arith
      either d true false = omega arith
      either d false u = omega arith

      go : (b : Bool) → ((c : ℕ) → has (code_by i w x code c qs) k ≡ max (has c k) (digit rest))
          → has (code_by i w x code (cond b (bit_or a q.next) a) qs) k ≡ max (has a k) (digit ((b && eqb (has q.next k) 1) || rest))
      go false later = later a
      go true later =
          later (bit_or a q.next)
          ∙ ap (λ (d : ℕ). max d (digit rest)) (has-or a q.next k ∙ ap (max (has a k)) (said (has q.next k) (has-lt q.next k)))
          ∙ either (has a k) (eqb (has q.next k) 1) rest

-- ---- the rows of the table are those that have a line

rows_taken : (h : Head) (bits : List ℕ) (ts : Terms) (rs : List Row) → ts.count + length rs ≤ length ts.table
    → take (terms_by h bits ts rs).count (terms_by h bits ts rs).table ≡ take ts.count ts.table ++ map (term_of h bits) (printed_rows h bits rs)
unfolding terms_by terms_with
rows_taken h bits ts [] room = sym (append-nil (take ts.count ts.table)) ∙ ap (λ (rs : List Row). take ts.count ts.table ++ map (term_of h bits) rs) (sym (printed-none h bits))
rows_taken h bits ts (r ∷ rs) room = go (is_left_out h bits r) refl (λ us e. rows_taken h bits us rs e)
  where
    one_more : Terms
    one_more = record { count = ts.count + 1; table = set ts.table ts.count (term_of h bits r) }

    front : List Term
    front = take ts.count ts.table

    go : (b : Bool) → is_left_out h bits r ≡ b
        → ((us : Terms) → us.count + length rs ≤ length us.table → take (terms_by h bits us rs).count (terms_by h bits us rs).table ≡ take us.count us.table ++ map (term_of h bits) (printed_rows h bits rs))
        → take (terms_by h bits (cond b ts one_more) rs).count (terms_by h bits (cond b ts one_more) rs).table ≡ front ++ map (term_of h bits) (printed_rows h bits (r ∷ rs))
    go true e later = later ts (omega arith) ∙ ap (λ (qs : List Row). front ++ map (term_of h bits) qs) (sym (printed-out h bits r rs e))
    go false e later =
        later one_more (rw (length-set ts.table ts.count (term_of h bits r)) (omega arith))
        ∙ ap (λ (l : List Term). l ++ map (term_of h bits) (printed_rows h bits rs)) (ap (λ (n : ℕ). take n (set ts.table ts.count (term_of h bits r))) (add-one ts.count) ∙ take-suc-set ts.table ts.count (term_of h bits r) (omega arith))
        ∙ append_assoc front (term_of h bits r ∷ []) (map (term_of h bits) (printed_rows h bits rs))
        ∙ ap (λ (qs : List Row). front ++ map (term_of h bits) qs) (sym (printed-in h bits r rs e))

pub rows_all : (t : Listing) (bits : List ℕ) → length (all_rows t) ≤ most_lines
    → take (terms_by t.head bits no_terms (all_rows t)).count (terms_by t.head bits no_terms (all_rows t)).table ≡ map (term_of t.head bits) (printed_rows t.head bits (all_rows t))
unfolding no_terms
rows_all t bits few = rows_taken t.head bits no_terms (all_rows t) (omega (arith, length-replicate most_lines no_term))

-- ---- the two are the same

map-states : (f g : ℕ → ℕ) (a n : ℕ) → ((k : ℕ) → k < n → f (a + k) ≡ g (a + k)) → map f (states_from a n) ≡ map g (states_from a n)
unfolding states_from
map-states f g a zero e = refl
map-states f g a (suc n) e =
    ap₂ (λ (d : ℕ) (ds : List ℕ). d ∷ ds) (ap f (omega arith) ∙ e 0 (omega arith) ∙ ap g (omega arith))
    (map-states f g (suc a) n (λ k l. ap f (omega arith) ∙ e (suc k) (omega arith) ∙ ap g (omega arith)))

pub text-gives : (t : Listing) (bits : List ℕ) (x code : ℕ)
    → vector (length bits) (code_by t.head.inputs (length bits) x code 0 (map (term_of t.head bits) (printed_rows t.head bits (all_rows t))))
    ≡ code_after (lines_of (cover t bits)) t.head x (vector (length bits) code)
unfolding code_after
text-gives t bits x code =
    map-states (has given) told 0 (length bits) each
    ∙ ap (λ (n : ℕ). map told (states_from 0 n)) (sym (length-map (states_from 0 (length bits)) (has code) ∙ states-length 0 (length bits)))
  where
    h : Head
    h = t.head

    ds : List ℕ
    ds = vector h.inputs x ++ vector (length bits) code

    printed : List Row
    printed = printed_rows h bits (all_rows t)

    given : ℕ
    given = code_by h.inputs (length bits) x code 0 (map (term_of h bits) printed)

    told : ℕ → ℕ
    told k = digit (cover_says (lines_of (cover t bits)) ds k one)

    fired : ℕ → Term → Bool
    fired k q = term_fires h.inputs (length bits) x code q && eqb (has q.next k) 1

    place : (k : ℕ) → k < length bits → has given k ≡ told k
    place k l =
        gives-has h.inputs (length bits) x code k 0 (map (term_of h bits) printed)
        ∙ ap (λ (z : ℕ). max z (digit (some (fired k) (map (term_of h bits) printed)))) (has-none k)
        ∙ omega arith
        ∙ ap digit
        (some-map (term_of h bits) (fired k) printed
        ∙ some-like _ _ printed (λ r. ap₂ ◌&&◌ (sym (line-fires h bits (all_rows t) r x code)) (sym (line_gives h bits (all_rows t) r k l)))
        ∙ sym (lines-give t bits ds k)
        ∙ ap (λ (ls : List (List ℕ)). cover_says ls ds k one) (sym (cover-lines t bits)))

    each : (k : ℕ) → k < length bits → has given (0 + k) ≡ told (0 + k)
    each k l = ap (has given) (zero-add k) ∙ place k l ∙ ap told (sym (zero-add k))
