-- The search fails at a state and an input exactly where the cover does not agree with the listing: the tables hold what the listing means and what the cover says.
use mathlib.Core.Path.{◌≡◌, refl, sym, ap, ap₂, subst, ◌∙◌}
use mathlib.Core.Bool.{Bool, true, false, ◌&&◌, ◌||◌, not, cond, and-false}
use mathlib.Core.List.{List, [], ◌++◌, map}
use Prim.Native.Nat.{ℕ, ◌+◌, ◌*◌, ◌≤◌, ◌<◌, min}
use native.Mathlib.Nat.{zero-add}
use native.Mathlib.Decide.{ℕ_discrete}
use native.Mathlib.Omega.{arith}
use lib.Bits.{bit_and}
use lib.Dec.{eqb, leb}
use lib.ListN.{length, get_or, take, replicate, length-take, length-map, length-replicate}
use lib.Seq.{get_or-take}
use borrow.Author.Tests.{eqb-true, eq-eqb, ne_eqb}
use Rattle.sets.specs.Sets.{has, every, states_from}
use Rattle.sets.proofs.Every.{and_first, and_second, at_every, every-same}
use Rattle.sets.proofs.Members.{has-high}
use Rattle.rules.specs.Limits.{most_states}
use Rattle.rules.specs.Text.{nought, one, dash, field_at, split, all_of}
use Rattle.rules.specs.Least.{turned}
use Rattle.rules.specs.Listing.{no_pattern, no_row, all_rows}
use Rattle.rules.specs.Code.{code_of}
use Rattle.rules.specs.Cover.{fires, vector, line_fires}
use Rattle.rules.specs.Meaning.{Meaning, on, free, off, output_means, next_means, bit_means, cover_says, place_agrees, agrees_at}
use Rattle.rules.specs.CheckTexts.{bit_in, no_heads, places_fit, cover_reading}
use Rattle.rules.specs.Check.{bits_of, fails}
use Rattle.rules.specs.declared.Row.{Row}
use Rattle.rules.specs.declared.Listing.{Listing}
use Rattle.rules.specs.declared.CodeTable.{CodeTable}
use Rattle.rules.proofs.Agreeing.{each-state, dot-fires}
use Rattle.rules.proofs.Most.{states-length}
use Rattle.rules.proofs.Some.{none-some}
use Rattle.rules.proofs.SoundLines.{SoundPattern}
use Rattle.rules.proofs.Sound.{Sound, rows-length, row_of}
use Rattle.rules.proofs.AllRows.{each_row, all-few, Apart}
use Rattle.run_inputs.proofs.Masks.{every-least}
use Rattle.judge_search.specs.Rows.{row_fires}
use Rattle.judge_search.specs.Search.{fails_at}
use Rattle.judge_search.proofs.Judged.{agrees_by, place-agrees, meant, listed, covered, fails-is}
use Rattle.judge_rows.specs.Rows.{firing_list, row_firing, saying_list, row_saying, line_firing, line_saying, listing_laid}
use Rattle.judge_rows.proofs.Tables.{laid-length}
use Rattle.judge_rows.proofs.Listed.{Stand, listed-some, output-meant}
use Rattle.judge_rows.proofs.Standing.{stand-listing, behind-listing}
use Rattle.judge_reading.specs.Tables.{tables_from}
use Rattle.judge_reading.specs.declared.Reader.{Reader}
use Rattle.judge_check.specs.Checked.{reader_of, listing_tables}
use Rattle.judge_check.proofs.ReadCodes.{FitCodes}
use Rattle.judge_check.proofs.Made.{bit_at}
use Rattle.judge_check.proofs.Lines.{line-fires, says-bit, says-output, says-no-bit, says-no-output}
use Rattle.judge_check.proofs.Covered.{Tables, Room, GoodRow, covered-lines, stand-cover}
use Rattle.judge_check.proofs.Next.{none_named, listed-code, listed-no-code}
use Rattle.std.specs.Prelude.{Ok}

-- an output of a listing has no digit past its outputs
outputs-fit : (t : Listing) → Sound t → (k : ℕ) → k < length (all_rows t) → SoundPattern t.head.outputs (get_or (all_rows t) k no_row).outputs
outputs-fit t sound =
    each_row t (λ (r : Row). SoundPattern t.head.outputs r.outputs) (λ k l. (row_of t sound k (omega (arith, rows-length t sound))).outputs)
    (λ s l. subst (SoundPattern t.head.outputs) (sym (get_or-take t.head.states t.said s no_pattern (omega (arith, length-take t.head.states t.said)))) (sound.state s))

places_of : (k : ℕ) (f : List ℕ) → places_fit k f ≡ true → (length f ≡ k) × (all_of nought one dash f ≡ true)
unfolding places_fit
places_of k f e =
    let all = all_of nought one dash f in
    let long = eqb (length f) k in
    let both : (long && all) ≡ true = and_second (leb 1 k) (long && all) e in
    (eqb-true (length f) k (and_first long all both), and_second long all both)

module _ (t : Listing) (sound : Sound t) (apart : Apart (all_rows t)) (c : CodeTable) (fit : FitCodes t.head.states c) (ls : List (List ℕ)) where
  abbrev i : ℕ
  i = t.head.inputs

  abbrev o : ℕ
  o = t.head.outputs

  abbrev n : ℕ
  n = t.head.states

  abbrev w : ℕ
  w = c.width

  abbrev reader : Reader
  reader = reader_of t c

  abbrev before : Tables
  before = listing_tables t c

  abbrev both : Tables
  both = tables_from reader no_heads ls before

  abbrev codes : List ℕ
  codes = take (min n most_states) c.table

  codes-are : codes ≡ take n c.table
  codes-are = let e : min n most_states ≡ n = omega (arith, sound.head.few-states) in ap (λ (k : ℕ). take k c.table) e

  abbrev bits : List ℕ
  bits = bits_of n c

  bits-long : length bits ≡ w
  unfolding bits_of
  bits-long = length-map (states_from 0 w) (λ k. bit_in k (take n c.table)) ∙ states-length 0 w

  bit_is : (k : ℕ) → k < w → get_or bits k 0 ≡ bit_in k (take n c.table)
  unfolding bits_of
  bit_is k l = each-state (λ k. bit_in k (take n c.table)) 0 w k l ∙ ap (λ (m : ℕ). bit_in m (take n c.table)) (zero-add k)

  stand : Stand (all_rows t) c.table both.0 both.1
  unfolding listing_tables listing_laid
  stand = stand-cover reader (all_rows t) c.table no_heads ls before (stand-listing (all_rows t) c.table (all-few t sound))

  room : Room no_heads before
  unfolding listing_tables listing_laid
  room = record {
    fires = laid-length 3 0 (map (λ q. firing_list (row_firing q)) (all_rows t)) (replicate 1344 0) ∙ length-replicate {A = ℕ} 1344 0;
    says = laid-length 4 0 (map (λ q. saying_list (row_saying c.table q)) (all_rows t)) (replicate 1792 0) ∙ length-replicate {A = ℕ} 1792 0;
    rest = λ r a b. behind-listing (all_rows t) c.table (all-few t sound) r (omega arith);
  }

  module _ (read : cover_reading (t.head.inputs + c.width) (c.width + t.head.outputs) ls ≡ Ok tt) (s : ℕ) (is_state : s < t.head.states) (v : ℕ) where
    abbrev x : ℕ
    x = turned i v

    abbrev ds : List ℕ
    ds = vector i x ++ code_of bits s

    abbrev firing : ℕ → Bool
    firing = row_fires both.0 i s v

    within : s < length codes
    within = omega (arith, length-take (min n most_states) c.table, fit.long, sound.head.few-states, is_state)

    code_is : get_or codes s 0 ≡ get_or c.table s 0
    code_is = get_or-take (min n most_states) c.table s 0 (omega (arith, sound.head.few-states, is_state))

    bit-same : (k : ℕ) → k < w → has (get_or bits k 0) s ≡ has (get_or codes s 0) k
    bit-same k l =
        ap (λ (b : ℕ). has b s) (bit_is k l ∙ ap (bit_in k) (sym codes-are)) ∙ bit_at k codes s within

    as_line : (l : List ℕ) → GoodRow reader l → (table : List ℕ) (r : ℕ) → get_or table (r * 3) 0 ≡ (line_firing i codes l).ones → get_or table (r * 3 + 1) 0 ≡ (line_firing i codes l).dashes → get_or table (r * 3 + 2) 0 ≡ (line_firing i codes l).states
        → row_fires table i s v r ≡ line_fires l ds
    as_line l good table r p q e =
        let f = places_of (i + w) (field_at l 0) good.0 in
        line-fires t.head w codes bits s (omega (arith, sound.head.few-inputs)) fit.few within (rw code_is (fit.code s is_state)) bits-long bit-same v l f.0 f.1 table r p q e

    covered-says : (f j place d : ℕ) → f < 4 → eqb 0 d ≡ false → ((l : List ℕ) → GoodRow reader l → eqb (has (get_or (saying_list (line_saying w l)) f 0) j) 1 ≡ eqb (get_or (field_at l 1) place 0) d)
        → covered both.1 firing f j ≡ cover_says ls ds place d
    unfolding cover_says split
    covered-says f j place d four other says =
        covered-lines reader s v f j four (λ l. line_fires l ds && eqb (get_or (field_at l 1) place 0) d)
        (λ l good table r p q e. ap₂ ◌&&◌ (as_line l good table r p q e) (says l good))
        (λ l cs e. ap (λ (b : Bool). b && eqb (get_or (field_at l 1) place 0) d) (dot-fires l cs ds e))
        (ap (λ (b : Bool). line_fires [] ds && b) other ∙ and-false (line_fires [] ds))
        ls before room read

    covered_none : (f j : ℕ) → f < 4 → ((l : List ℕ) → GoodRow reader l → eqb (has (get_or (saying_list (line_saying w l)) f 0) j) 1 ≡ false) → covered both.1 firing f j ≡ false
    covered_none f j four says =
        covered-lines reader s v f j four (λ l. false)
        (λ l good table r p q e. ap (λ (b : Bool). row_fires table i s v r && b) (says l good) ∙ and-false (row_fires table i s v r))
        (λ l cs e. refl) refl ls before room read
        ∙ none-some [] (λ l. false) ls (λ k l. refl)

    -- the second field of a good row
    second : (l : List ℕ) → GoodRow reader l → (length (field_at l 1) ≡ w + o) × (all_of nought one dash (field_at l 1) ≡ true)
    second l good = places_of (w + o) (field_at l 1) good.1

    few-outputs : o ≤ 64
    few-outputs = omega (arith, sound.head.few-outputs)

    -- ---- outputs

    output-agrees : (j : ℕ) → j < o → agrees_by (meant (listed both.1 firing 2 j) (listed both.1 firing 3 j)) (covered both.1 firing 2 j) (covered both.1 firing 3 j) ≡ place_agrees (output_means t x s j) ls ds (w + j)
    output-agrees j l =
        ap (λ (m : Meaning). agrees_by m (covered both.1 firing 2 j) (covered both.1 firing 3 j)) (output-meant t c.table both.0 both.1 stand s v j)
        ∙ ap₂ (agrees_by (output_means t x s j))
        (covered-says 2 j (w + j) one (omega arith) refl (λ k good. (says-output w o fit.few few-outputs k (second k good).0 (second k good).1 j l).0))
        (covered-says 3 j (w + j) dash (omega arith) refl (λ k good. (says-output w o fit.few few-outputs k (second k good).0 (second k good).1 j l).1))
        ∙ sym (place-agrees (output_means t x s j) ls ds (w + j))

    -- where nothing is meant and nothing is said
    quiet : {a b d e : Bool} → a ≡ false → b ≡ false → d ≡ false → e ≡ false → agrees_by (meant a b) d e ≡ true
    unfolding agrees_by
    quiet {d = d} {e = e} p q r z = ap₂ (λ (a b : Bool). agrees_by (meant a b) d e) p q ∙ ap₂ (λ (d e : Bool). agrees_by (meant false false) d e) r z

    listed-none : (f j : ℕ) → f < 4 → ((k : ℕ) → k < length (all_rows t) → has (get_or (saying_list (row_saying c.table (get_or (all_rows t) k no_row))) f 0) j ≡ 0) → listed both.1 firing f j ≡ false
    listed-none f j four none =
        listed-some t.head (all_rows t) c.table both.0 both.1 stand s v f j four
        ∙ none-some no_row _ (all_rows t) (λ k l. ap (λ (d : ℕ). fires t.head (get_or (all_rows t) k no_row) x s && eqb d 1) (none k l) ∙ and-false (fires t.head (get_or (all_rows t) k no_row) x s))

    output-past : (j : ℕ) → o ≤ j → agrees_by (meant (listed both.1 firing 2 j) (listed both.1 firing 3 j)) (covered both.1 firing 2 j) (covered both.1 firing 3 j) ≡ true
    unfolding row_saying
    output-past j l =
        quiet
        (listed-none 2 j (omega arith) (λ k h. has-high o _ j (outputs-fit t sound k h).ones l))
        (listed-none 3 j (omega arith) (λ k h. has-high o _ j (outputs-fit t sound k h).dashes l))
        (covered_none 2 j (omega arith) (λ k good. (says-no-output w o fit.few few-outputs k (second k good).0 (second k good).1 j l).0))
        (covered_none 3 j (omega arith) (λ k good. (says-no-output w o fit.few few-outputs k (second k good).0 (second k good).1 j l).1))

    -- of 64 places those that there are
    all-places : (m : ℕ) (p q : ℕ → Bool) → m ≤ 64 → ((j : ℕ) → j < m → p j ≡ q j) → ((j : ℕ) → m ≤ j → p j ≡ true) → every 64 p ≡ every m q
    all-places m p q few same past =
        let e : min 64 m ≡ m = omega arith in
        sym (every-least 64 m p past) ∙ ap (λ (k : ℕ). every k p) e ∙ every-same m p q same

    outputs-agree : every 64 (λ j. agrees_by (meant (listed both.1 firing 2 j) (listed both.1 firing 3 j)) (covered both.1 firing 2 j) (covered both.1 firing 3 j)) ≡ every o (λ j. place_agrees (output_means t x s j) ls ds (length bits + j))
    outputs-agree =
        all-places o _ (λ j. place_agrees (output_means t x s j) ls ds (w + j)) few-outputs output-agrees output-past
        ∙ ap (λ (m : ℕ). every o (λ j. place_agrees (output_means t x s j) ls ds (m + j))) (sym bits-long)

    -- ---- bits of the next code

    abbrev u : ℕ
    u = next_means t x s

    no_code : (k : ℕ) → w ≤ k → (y : ℕ) → y < n → has (get_or c.table y 0) k ≡ 0
    no_code k l y h = has-high w (get_or c.table y 0) k (fit.code y h) l

    bit-agrees : (u ≡ 0 → ⊥) → (k : ℕ) → k < w → agrees_by (meant (listed both.1 firing 1 k) false) (covered both.1 firing 0 k) (covered both.1 firing 1 k) ≡ place_agrees (bit_means t x s (get_or bits k 0)) ls ds k
    unfolding bit_means
    bit-agrees named k l =
        ap (λ (b : Bool). agrees_by (meant b false) (covered both.1 firing 0 k) (covered both.1 firing 1 k)) (listed-code t c.table both.0 both.1 stand sound apart s v fit.long named k)
        ∙ ap (λ (m : Meaning). agrees_by m (covered both.1 firing 0 k) (covered both.1 firing 1 k)) means
        ∙ ap₂ (agrees_by (bit_means t x s (get_or bits k 0)))
        (covered-says 0 k k one (omega arith) refl (λ m good. (says-bit w o fit.few few-outputs m (second m good).0 (second m good).1 k l).0))
        (covered-says 1 k k dash (omega arith) refl (λ m good. (says-bit w o fit.few few-outputs m (second m good).0 (second m good).1 k l).1))
        ∙ sym (place-agrees (bit_means t x s (get_or bits k 0)) ls ds k)
      where
        turned_on : (b : Bool) → meant (not b) false ≡ cond b off on
        turned_on true = refl
        turned_on false = refl

        means : meant (not (eqb (bit_and (bit_in k (take n c.table)) u) 0)) false ≡ bit_means t x s (get_or bits k 0)
        means =
            turned_on (eqb (bit_and (bit_in k (take n c.table)) u) 0)
            ∙ ap₂ (λ (b : Bool) (m : ℕ). cond b free (cond (eqb (bit_and m u) 0) off on)) (sym (ne_eqb u 0 named)) (sym (bit_is k l))

    bit_past : (k : ℕ) → w ≤ k → agrees_by (meant (listed both.1 firing 1 k) false) (covered both.1 firing 0 k) (covered both.1 firing 1 k) ≡ true
    bit_past k l =
        quiet
        (listed-no-code t c.table both.0 both.1 stand sound apart s v k (no_code k l)) refl
        (covered_none 0 k (omega arith) (λ m good. (says-no-bit w o fit.few few-outputs m (second m good).0 (second m good).1 k l).0))
        (covered_none 1 k (omega arith) (λ m good. (says-no-bit w o fit.few few-outputs m (second m good).0 (second m good).1 k l).1))

    -- where none is named every bit is free
    bits-free : u ≡ 0 → every (length bits) (λ k. place_agrees (bit_means t x s (get_or bits k 0)) ls ds k) ≡ true
    unfolding bit_means place_agrees
    bits-free e = at_every (length bits) _ (λ k l. ap (λ (b : Bool). place_agrees (cond b free (cond (eqb (bit_and (get_or bits k 0) u) 0) off on)) ls ds k) (eq-eqb u 0 e))

    bits-agree : (u ≡ 0 → ⊥) → every 64 (λ k. agrees_by (meant (listed both.1 firing 1 k) false) (covered both.1 firing 0 k) (covered both.1 firing 1 k)) ≡ every (length bits) (λ k. place_agrees (bit_means t x s (get_or bits k 0)) ls ds k)
    bits-agree named =
        all-places w _ (λ k. place_agrees (bit_means t x s (get_or bits k 0)) ls ds k) fit.few (bit-agrees named) bit_past
        ∙ ap (λ (m : ℕ). every m (λ k. place_agrees (bit_means t x s (get_or bits k 0)) ls ds k)) (sym bits-long)

    -- ---- both

    pub fails-there : fails_at both.0 both.1 i s v ≡ fails t bits ls s v
    unfolding fails_at fails agrees_at
    fails-there =
        fails-is both.1 firing
        ∙ ap₂ (λ (b d : Bool). not b || (not d && not next)) outputs-agree (none_named t c.table both.0 both.1 stand sound apart s v)
        ∙ go (ℕ_discrete u 0)
      where
        next : Bool
        next = every 64 (λ k. agrees_by (meant (listed both.1 firing 1 k) false) (covered both.1 firing 0 k) (covered both.1 firing 1 k))

        output : Bool
        output = every o (λ j. place_agrees (output_means t x s j) ls ds (length bits + j))

        bit : Bool
        bit = every (length bits) (λ k. place_agrees (bit_means t x s (get_or bits k 0)) ls ds k)

        or-none : (a b : Bool) → (not a || (not true && b)) ≡ not (true && a)
        or-none true b = refl
        or-none false b = refl

        either : (a b : Bool) → (not a || (not false && not b)) ≡ not (b && a)
        either true true = refl
        either true false = refl
        either false true = refl
        either false false = refl

        go : Dec (u ≡ 0) → (not output || (not (eqb u 0) && not next)) ≡ not (bit && output)
        go (yes e) = ap (λ (d : Bool). not output || (not d && not next)) (eq-eqb u 0 e) ∙ or-none output (not next) ∙ ap (λ (b : Bool). not (b && output)) (sym (bits-free e))
        go (no m) = ap (λ (d : Bool). not output || (not d && not next)) (ne_eqb u 0 m) ∙ either output next ∙ ap (λ (b : Bool). not (b && output)) (bits-agree m)
