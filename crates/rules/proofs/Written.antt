-- The cover that is written: its lines; that each row's line fires where the row fires and carries the row's next state; that rows left out say nothing; and that the
-- cover agrees with the listing.
use mathlib.Core.Path.{◌≡◌, refl, sym, subst, ap, ◌∙◌}
use mathlib.Core.Logic.{◌⊎◌, inl, inr}
use mathlib.Core.Bool.{Bool, true, false, ◌&&◌, not}
use mathlib.Core.List.{List, [], ◌∷◌, ◌++◌, map}
use Prim.Native.Nat.{ℕ, zero, suc, ◌+◌, ◌<◌}
use native.Mathlib.Omega.{arith}
use lib.Dec.{leb, eqb}
use lib.ListN.{length, take, get_or, replicate}
use lib.Seq.{length-take-le}
use borrow.Author.Tests.{leb-false}
use Rattle.sets.specs.Sets.{has, only, states_from}
use Rattle.rules.specs.Text.{bytes, nought, one, dash, lines_of, field_at}
use Rattle.rules.specs.Listing.{no_pattern, no_row, rows_of, state_row, all_rows, complete, conflict, reading, Reading}
use Rattle.rules.specs.Requirements.{pairs_and_groups}
use Rattle.rules.specs.Code.{Code, Coding, coded, uncoded, coding, code_of, unmet_from}
use Rattle.rules.specs.Report.{digits}
use Rattle.rules.specs.Cover.{output_at, next_code, cover_row, says_nothing, is_left_out, printed_rows, keeping_all, cover, fires, vector, line_fires}
use Rattle.rules.specs.Meaning.{free, said_means, output_means, cover_says, agrees_at}
use Rattle.rules.specs.Answers.{Reply, says, refuses, cover_of, cover_reply, on_reading}
use Rattle.rules.specs.declared.Head.{Head}
use Rattle.rules.specs.declared.Pattern.{Pattern}
use Rattle.rules.specs.declared.Row.{Row}
use Rattle.rules.specs.declared.Listing.{Listing}
use Rattle.rules.specs.declared.Refusal.{Refusal}
use Rattle.rules.specs.declared.Refusal.TheVariants.{Unmet}
use Rattle.rules.proofs.Ways.{chose-second}
use Rattle.sets.proofs.SizeMembers.{some-member, at_most_one}
use Rattle.rules.proofs.Unmet.{mem-at}
use Rattle.rules.proofs.Faces.{Distinct, GroupMet}
use Rattle.rules.proofs.Fires.{output_side, cover-fields, row-fires, next-code, no-next-code}
use Rattle.rules.proofs.Granted.{distinct-codes, met-groups}
use Rattle.rules.proofs.SoundLines.{FitRow}
use Rattle.rules.proofs.Sound.{Sound, accepted-sound, accepted-complete}
use Rattle.rules.proofs.AllRows.{all_fit, all_apart, all-met-groups}
use Rattle.rules.proofs.Printed.{Stands, printed-place, printed-all}
use Rattle.rules.proofs.CoverLines.{cover_bodies, cover-lines}
use Rattle.rules.proofs.Sharing.{accepted-apart}
use Rattle.rules.proofs.Agreeing.{as-whole, agrees, free-quiet}
use Rattle.rules.proofs.Moore.{own-state, moore-means, moore-ones, moore-dashes}
use Rattle.std.specs.Prelude.{Ok, Err}

-- Of output j the firing lines say what the outputs p of an `OU` line do: 1 exactly where they say 1, and dash exactly where they say dash.
abbrev pub SaysAs : List (List ℕ) → List ℕ → ℕ → Pattern → ℕ → Type 0
SaysAs ls ds place p j = (cover_says ls ds place one ≡ eqb (has p.ones j) 1) × (cover_says ls ds place dash ≡ eqb (has p.dashes j) 1)

-- l is the line of the row r in a cover
pub record LineOf (h : Head) (bits : List ℕ) (rs : List Row) (r : Row) (l : List ℕ) : Type 0 where
  -- at any input vector x and the code of any state s it fires exactly when the row fires at x and s
  pub fires-as : (x s : ℕ) → s < h.states → line_fires l (vector h.inputs x ++ code_of bits s) ≡ fires h r x s
  -- the row names no next state, or one
  pub next : (r.next ≡ 0) ⊎ ((u : ℕ) × (u < h.states) × (r.next ≡ only u))
  -- behind the space stand zeros if it names none, the code of the state u if it names u, and then the outputs
  pub silent : r.next ≡ 0 → field_at l 1 ≡ digits (replicate (length bits) 0) ++ map (output_at rs r) (states_from 0 h.outputs)
  pub carries : (u : ℕ) → r.next ≡ only u → field_at l 1 ≡ digits (code_of bits u) ++ map (output_at rs r) (states_from 0 h.outputs)

-- text is a cover of the listing t by the bits of a code
pub record CoverOf (t : Listing) (bits : List ℕ) (text : List ℕ) : Type 0 where
  pub distinct : Distinct t.head.states bits
  pub lines : lines_of text ≡ cover_bodies t bits
  -- row k has its line unless it is left out: from 0, behind the first four and those of the rows before it
  pub rows : (k : ℕ) → k < length (all_rows t) → is_left_out t.head bits (get_or (all_rows t) k no_row) ≡ false
      → LineOf t.head bits (all_rows t) (get_or (all_rows t) k no_row) (get_or (lines_of text) (4 + length (printed_rows t.head bits (take k (all_rows t)))) [])
  -- with the fifth number 1 every row has its line, row k on line 4 + k
  pub kept : t.head.keeps ≡ true → (k : ℕ) → k < length (all_rows t) → LineOf t.head bits (all_rows t) (get_or (all_rows t) k no_row) (get_or (lines_of text) (4 + k) [])
  -- what is left out says nothing: at every input vector and every state, of each bit of the next code and each output, the firing lines say 1, or dash,
  -- exactly where those of the whole cover do
  pub whole : (x s : ℕ) → s < t.head.states → (place : ℕ) → place < length bits + t.head.outputs → (c : ℕ) → (c ≡ one) ⊎ (c ≡ dash)
      → cover_says (lines_of text) (vector t.head.inputs x ++ code_of bits s) place c ≡ cover_says (lines_of (cover (keeping_all t) bits)) (vector t.head.inputs x ++ code_of bits s) place c
  -- at every input vector and every state, each bit of the next code and each output means in the cover what it means in the listing
  pub agrees : (x s : ℕ) → s < t.head.states → agrees_at t bits (lines_of text) x s ≡ true
  -- and of a free output, of which a cover may say anything, it says no 1
  pub quiet : (x s j : ℕ) → s < t.head.states → j < t.head.outputs → output_means t x s j ≡ free
      → cover_says (lines_of text) (vector t.head.inputs x ++ code_of bits s) (length bits + j) one ≡ false
  -- Under `MO` the outputs in each state are those of its `OU` line whatever the input: so the listing means it, and so the firing lines say it. A row that a state
  -- adds fires in that state alone.
  pub outputs-mean : t.head.moore ≡ true → (x s : ℕ) → s < t.head.states → (j : ℕ) → output_means t x s j ≡ said_means (get_or t.said s no_pattern) j
  pub outputs-said : t.head.moore ≡ true → (x s : ℕ) → s < t.head.states → (j : ℕ) → j < t.head.outputs
      → SaysAs (lines_of text) (vector t.head.inputs x ++ code_of bits s) (length bits + j) (get_or t.said s no_pattern) j
  pub own-state : (u x s : ℕ) → fires t.head (state_row u (get_or t.said u no_pattern)) x s ≡ eqb u s

-- the listing is accepted and coded, under `MO` with an `OU` line for each state, and text is its cover
pub record Written (r : Reading) (text : List ℕ) : Type 0 where
  pub listing : Listing
  pub accepted : r ≡ Ok listing
  pub each-state : complete listing.head listing.given ≡ true
  pub code : Code
  pub built : coding listing ≡ coded code
  pub covers : CoverOf listing code.bits text

-- ---- a line

line_of : (h : Head) (bits : List ℕ) (rs : List Row) (r : Row) → FitRow h r → Distinct h.states bits → GroupMet h.states bits r.group
    → LineOf h bits rs r (cover_row h bits rs r)
line_of h bits rs r s distinct met =
    let m = some-member h.states r.group s.group s.some in
    record {
      fires-as = row-fires h bits rs r s.group m.0 m.1 m.2 distinct met;
      next = at_most_one h.states r.next s.next s.one-next;
      silent = λ e. field ∙ ap with-outputs (ap (next_code bits) e ∙ no-next-code bits);
      carries = λ u e. field ∙ ap with-outputs (ap (next_code bits) e ∙ next-code bits u);
    }
  where
    with-outputs : List ℕ → List ℕ
    with-outputs code = digits code ++ map (output_at rs r) (states_from 0 h.outputs)

    field : field_at (cover_row h bits rs r) 1 ≡ output_side h bits rs r
    field = ap (λ (fs : List (List ℕ)). get_or fs 1 []) (cover-fields h bits rs r)

-- ---- the cover

at_map : {A B : Type 0} (f : A → B) (l : List A) (rest : List B) (k : ℕ) (d : A) (e : B) → k < length l → get_or (map f l ++ rest) k e ≡ f (get_or l k d)
at_map f [] rest k d e h = absurd (omega arith)
at_map f (x ∷ xs) rest zero d e h = refl
at_map f (x ∷ xs) rest (suc k) d e h = at_map f xs rest k d e (omega arith)

row_line : (t : Listing) (bits : List ℕ) (k : ℕ) → k < length (all_rows t) → is_left_out t.head bits (get_or (all_rows t) k no_row) ≡ false
    → get_or (cover_bodies t bits) (4 + length (printed_rows t.head bits (take k (all_rows t)))) [] ≡ cover_row t.head bits (all_rows t) (get_or (all_rows t) k no_row)
row_line t bits k h in-it =
    ap (λ (j : ℕ). get_or (cover_bodies t bits) j []) four
    ∙ at_map (cover_row t.head bits (all_rows t)) (printed_rows t.head bits (all_rows t)) (bytes ".e" ∷ ([] ∷ [])) i no_row [] stands.0
    ∙ ap (cover_row t.head bits (all_rows t)) stands.1
  where
    i : ℕ
    i = length (printed_rows t.head bits (take k (all_rows t)))

    stands : Stands t.head bits (all_rows t) i (get_or (all_rows t) k no_row)
    stands = printed-place t.head bits (all_rows t) k h in-it

    four : 4 + i ≡ suc (suc (suc (suc i)))
    four = omega arith

not-out : (h : Head) (bits : List ℕ) (r : Row) → h.keeps ≡ true → is_left_out h bits r ≡ false
unfolding is_left_out
not-out h bits r k = ap (λ (b : Bool). not b && says_nothing bits r) k

cover-of : (t : Listing) (bits text : List ℕ) → Sound t → conflict (rows_of t) ≡ Ok tt → unmet_from 0 t.head.states bits (pairs_and_groups t) ≡ [] → cover t bits ≡ text → CoverOf t bits text
cover-of t bits text sound apart none e = record {
  distinct = distinct;
  lines = lines;
  rows = rows;
  kept = kept;
  whole = whole;
  agrees = agree;
  quiet = quiet;
  outputs-mean = λ m x s l j. moore-means t sound m x s l j;
  outputs-said = said;
  own-state = λ u. own-state t.head sound.head.few-inputs u (get_or t.said u no_pattern);
}
  where
    distinct : Distinct t.head.states bits
    distinct = distinct-codes t bits none

    lines : lines_of text ≡ cover_bodies t bits
    lines = ap lines_of (sym e) ∙ cover-lines t bits

    row : (k : ℕ) → k < length (all_rows t) → LineOf t.head bits (all_rows t) (get_or (all_rows t) k no_row) (cover_row t.head bits (all_rows t) (get_or (all_rows t) k no_row))
    row k l =
        line_of t.head bits (all_rows t) (get_or (all_rows t) k no_row) (all_fit t sound k l) distinct
        (all-met-groups t bits (λ k q. met-groups t bits none (get_or (rows_of t) k no_row) (mem-at (rows_of t) k no_row q)) k l)

    rows : (k : ℕ) → k < length (all_rows t) → is_left_out t.head bits (get_or (all_rows t) k no_row) ≡ false
        → LineOf t.head bits (all_rows t) (get_or (all_rows t) k no_row) (get_or (lines_of text) (4 + length (printed_rows t.head bits (take k (all_rows t)))) [])
    rows k h in-it = rw (lines, row_line t bits k h in-it) (row k h)

    kept : t.head.keeps ≡ true → (k : ℕ) → k < length (all_rows t) → LineOf t.head bits (all_rows t) (get_or (all_rows t) k no_row) (get_or (lines_of text) (4 + k) [])
    kept e k h =
        let before : length (printed_rows t.head bits (take k (all_rows t))) ≡ k = ap (λ (rs : List Row). length rs) (printed-all t.head bits e (take k (all_rows t))) ∙ length-take-le k (all_rows t) (omega arith) in
        subst (λ (i : ℕ). LineOf t.head bits (all_rows t) (get_or (all_rows t) k no_row) (get_or (lines_of text) (4 + i) [])) before
        (rows k h (not-out t.head bits (get_or (all_rows t) k no_row) e))

    whole : (x s : ℕ) → s < t.head.states → (place : ℕ) → place < length bits + t.head.outputs → (c : ℕ) → (c ≡ one) ⊎ (c ≡ dash)
        → cover_says (lines_of text) (vector t.head.inputs x ++ code_of bits s) place c ≡ cover_says (lines_of (cover (keeping_all t) bits)) (vector t.head.inputs x ++ code_of bits s) place c
    whole x s l place within c which = rw (lines, cover-lines (keeping_all t) bits) (as-whole t bits x s sound.head.some-inputs (λ k h. (row k h).fires-as x s l) place c within (other which))
      where
        other : (c ≡ one) ⊎ (c ≡ dash) → eqb nought c ≡ false
        other (inl e) = ap (eqb nought) e
        other (inr e) = ap (eqb nought) e

    agree : (x s : ℕ) → s < t.head.states → agrees_at t bits (lines_of text) x s ≡ true
    agree x s l = rw lines (agrees t bits x s sound (all_apart t apart) (λ k h. (row k h).fires-as x s l))

    quiet : (x s j : ℕ) → s < t.head.states → j < t.head.outputs → output_means t x s j ≡ free
        → cover_says (lines_of text) (vector t.head.inputs x ++ code_of bits s) (length bits + j) one ≡ false
    quiet x s j l h e = rw lines (free-quiet t bits x s sound (all_apart t apart) (λ k h. (row k h).fires-as x s l) j h e)

    said : t.head.moore ≡ true → (x s : ℕ) → s < t.head.states → (j : ℕ) → j < t.head.outputs
        → SaysAs (lines_of text) (vector t.head.inputs x ++ code_of bits s) (length bits + j) (get_or t.said s no_pattern) j
    said m x s l j h =
        rw lines (moore-ones t sound m bits (all_apart t apart) x s l (λ k q. (row k q).fires-as x s l) j h, moore-dashes t sound m bits (all_apart t apart) x s l (λ k q. (row k q).fires-as x s l) j h)

-- ---- the reply

pub says_same : (a b : List ℕ) → says a ≡ says b → a ≡ b
says_same a b e = cc

pub says-not : (f : Refusal) (k : ℕ) (text : List ℕ) → refuses f k ≡ says text → ⊥
says-not f k text e = let z : ◌≡◌ {A = ℕ} 0 1 = cc in omega arith

none-listed : (l : List ℕ) → leb 1 (length l) ≡ false → l ≡ []
none-listed [] e = refl
none-listed (x ∷ xs) e = absurd (omega (arith, leb-false 1 (suc (length xs)) e))

-- a cover is written where no pair or group requirement is unmet
of_code : (t : Listing) (c : Code) (text : List ℕ) → Sound t → conflict (rows_of t) ≡ Ok tt → cover_of t (coded c) ≡ says text → CoverOf t c.bits text
unfolding cover_of
of_code t c text sound apart e =
    let un : List ℕ = unmet_from 0 t.head.states c.bits (pairs_and_groups t) in
    let k = chose-second (leb 1 (length un)) e (says-not Unmet 0 text) in
    cover-of t c.bits text sound apart (none-listed un k.0) (says_same (cover t c.bits) text k.1)

no_code : (t : Listing) (f : Refusal) → cover_of t (uncoded f) ≡ refuses f 0
unfolding cover_of
no_code t f = refl

pub of-coding : (t : Listing) (g : Coding) (text : List ℕ) → Sound t → conflict (rows_of t) ≡ Ok tt → cover_of t g ≡ says text → (c : Code) × (g ≡ coded c) × CoverOf t c.bits text
of-coding t (coded c) text sound apart e = (c, refl, of_code t c text sound apart e)
of-coding t (uncoded f) text sound apart e = absurd (says-not f 0 text (sym (no_code t f) ∙ e))

-- what is said of a listing that is read
abbrev pub replied : Reading → Reply
replied r = on_reading r (λ t. cover_of t (coding t))

pub of-reading : (r : Reading) (text : List ℕ) → ((t : Listing) → r ≡ Ok t → Sound t × (complete t.head t.given ≡ true) × (conflict (rows_of t) ≡ Ok tt))
    → replied r ≡ says text → Written r text
of-reading (Ok t) text good e =
    let g = good t refl in
    let w = of-coding t (coding t) text g.0 g.2 e in
    record { listing = t; accepted = refl; each-state = g.1; code = w.0; built = w.1; covers = w.2 }
of-reading (Err why) text good e = absurd (says-not why.refusal why.line text e)

reply : (s : List ℕ) → cover_reply s ≡ replied (reading s)
unfolding cover_reply
reply s = refl

-- whatever the bytes
pub written : (s text : List ℕ) → cover_reply s ≡ says text → Written (reading s) text
written s text e = of-reading (reading s) text (λ t a. (accepted-sound s a, accepted-complete s a, accepted-apart s a)) (sym (reply s) ∙ e)
