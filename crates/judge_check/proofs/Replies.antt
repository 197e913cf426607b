-- What checking finds is the reply of 02.
use Rattle.std.specs.Prelude.{Option, Some, None, Ok, Err}
use mathlib.Core.Path.{◌≡◌, refl, ap, ap₂, ◌∙◌}
use mathlib.Core.Bool.{Bool}
use mathlib.Core.List.{List, [], ◌∷◌, map}
use Prim.Native.Nat.{ℕ, zero, suc, ◌+◌, ◌-◌, ◌^◌, ◌<◌, min}
use native.Mathlib.Omega.{arith}
use lib.ListN.{take}
use Rattle.sets.specs.Sets.{states_from}
use Rattle.rules.specs.Limits.{most_states, most_inputs, most_outputs, most_bits}
use Rattle.rules.specs.Text.{lines_of}
use Rattle.rules.specs.Listing.{all_rows, reading, Reading}
use Rattle.rules.specs.Requirements.{pairs_and_groups, requirements}
use Rattle.rules.specs.Code.{unmet_from}
use Rattle.rules.specs.Answers.{Reply, says, refuses, on_reading}
use Rattle.rules.specs.CheckTexts.{CodesReading, bit_in, no_heads, codes_reading, cover_reading}
use Rattle.rules.specs.Check.{fault_at, fault_from, fault_of, bits_of, fails, check_line, check_text, check_cover, check_codes, check_reply}
use Rattle.rules.specs.declared.Requirement.{Requirement}
use Rattle.rules.specs.declared.Listing.{Listing}
use Rattle.rules.specs.declared.CodeTable.{CodeTable}
use Rattle.rules.specs.declared.Fault.{Fault}
use Rattle.rules.specs.Refusals.{Verdict}
use Rattle.rules.proofs.Good.{requirements-good}
use Rattle.rules.proofs.Sound.{Sound, accepted-sound}
use Rattle.rules.proofs.Sharing.{accepted-apart}
use Rattle.rules.proofs.AllRows.{Apart, all_apart}
use Rattle.code_fair.proofs.FairListings.{sound-fair}
use Rattle.families.specs.Families.{requirements_in}
use Rattle.code_drawing.specs.Drawing.{first_families}
use Rattle.code_drawing.proofs.Requirements.{first-are}
use Rattle.code_judging.proofs.Judgement.{good-front}
use Rattle.code_judging.proofs.Wide.{unmet-wide}
use Rattle.judge_search.specs.Search.{fails_at}
use Rattle.judge_search.proofs.Plain.{lowest-same}
use Rattle.judge_codes.specs.Lines.{all_bits}
use Rattle.judge_reading.specs.Tables.{tables_from}
use Rattle.judge_reading.specs.declared.Reader.{Reader}
use Rattle.judge_unmet.specs.First.{first_of}
use Rattle.judge_check.specs.Checked.{Beginning, Finding, reader_of, reader_for, codes_begun, begun_by, begun, listing_tables, settled, finished, cover_checked, found_of, line_of, reply_of}
use Rattle.judge_check.specs.declared.Begun.{Begun}
use Rattle.judge_check.specs.declared.Checked.{Checked}
use Rattle.judge_check.proofs.ReadCodes.{FitCodes, codes-fit}
use Rattle.judge_check.proofs.Failing.{fails-there}

-- ---- faults of tests that say the same

fault-like : (p q : ℕ → ℕ → Bool) (i s k : ℕ) → ((y : ℕ) → y < s + k → (v : ℕ) → p y v ≡ q y v) → fault_from p i s k ≡ fault_from q i s k
unfolding fault_from
fault-like p q i s zero same = refl
fault-like p q i s (suc k) same =
    ap₂ {C = Option Fault} (λ (l : Option ℕ) (f : Option Fault). elim l [ Some v ↦ fault_at s v | None ↦ f ])
    (lowest-same (p s) (q s) 0 (2 ^ i) (λ v l m. same s (omega arith) v)) (fault-like p q i (suc s) k (λ y l. same y (omega arith)))

-- ---- the bits

first-bits : (f : ℕ → ℕ) (a w k : ℕ) → take w (map f (states_from a (w + k))) ≡ map f (states_from a w)
unfolding states_from
first-bits f a zero k = refl
first-bits f a (suc w) k =
    let e : suc w + k ≡ suc (w + k) = omega arith in
    ap (λ (n : ℕ). take (suc w) (map f (states_from a n))) e ∙ ap (λ (l : List ℕ). f a ∷ l) (first-bits f (suc a) w k)

module _ (t : Listing) (sound : Sound t) (apart : Apart (all_rows t)) (c : CodeTable) (fit : FitCodes t.head.states c) where
  abbrev n : ℕ
  n = t.head.states

  bits_are : take c.width (all_bits (take (min n most_states) c.table)) ≡ bits_of n c
  unfolding all_bits bits_of
  bits_are =
      let all : min n most_states ≡ n = omega (arith, sound.head.few-states) in
      let w : 64 ≡ c.width + (64 - c.width) = omega (arith, fit.few) in
      ap₂ (λ (m k : ℕ). take c.width (map (λ b. bit_in b (take m c.table)) (states_from 0 k))) all w ∙ first-bits (λ b. bit_in b (take n c.table)) 0 c.width (64 - c.width)

  unmet-are : unmet_from 0 64 (take c.width (all_bits (take (min n most_states) c.table))) (requirements_in (first_families t)) ≡ unmet_from 0 n (bits_of n c) (pairs_and_groups t)
  unfolding requirements
  unmet-are =
      ap₂ (λ (bs : List ℕ) (rs : List Requirement). unmet_from 0 64 bs rs) bits_are (first-are t (sound-fair t sound))
      ∙ unmet-wide n (omega (arith, sound.head.few-states)) 0 (bits_of n c) (pairs_and_groups t) (good-front n (pairs_and_groups t) _ (requirements-good t sound))

  -- when all is read
  module _ (ls : List (List ℕ)) (read : cover_reading (t.head.inputs + c.width) (c.width + t.head.outputs) ls ≡ Ok tt) where
    abbrev both : List ℕ × List ℕ
    both = tables_from (reader_of t c) no_heads ls (listing_tables t c)

    fault-is : fault_from (fails_at both.0 both.1 (min t.head.inputs most_inputs)) (min t.head.inputs most_inputs) 0 n ≡ fault_of t (bits_of n c) ls
    unfolding fault_of
    fault-is =
        let i : min t.head.inputs most_inputs ≡ t.head.inputs = omega (arith, sound.head.few-inputs) in
        ap (λ (k : ℕ). fault_from (fails_at both.0 both.1 k) k 0 n) i
        ∙ fault-like (fails_at both.0 both.1 t.head.inputs) (fails t (bits_of n c) ls) t.head.inputs 0 n (λ s l v. fails-there t sound apart c fit ls read s (omega arith) v)

    settled_is : line_of (settled t c both) ≡ check_text t (bits_of n c) ls
    unfolding settled check_text first_of line_of check_line
    settled_is =
        ap₂ (λ (us : List ℕ) (f : Option Fault). line_of (elim (first_of us) [ Some r ↦ Checked.Unmet r | None ↦ Checked.Judged f ])) unmet-are fault-is
        ∙ go (unmet_from 0 n (bits_of n c) (pairs_and_groups t)) (fault_of t (bits_of n c) ls)
      where
        go : (us : List ℕ) (f : Option Fault) → line_of (elim (first_of us) [ Some r ↦ Checked.Unmet r | None ↦ Checked.Judged f ]) ≡ check_line us f
        go [] f = refl
        go (u ∷ us) f = refl

  -- what the cover is read for
  reader-fits : reader_for t.head c ≡ reader_of t c
  unfolding reader_for
  reader-fits =
      let w : min c.width most_bits ≡ c.width = omega (arith, fit.few) in
      let i : min t.head.inputs most_inputs ≡ t.head.inputs = omega (arith, sound.head.few-inputs) in
      let o : min t.head.outputs most_outputs ≡ t.head.outputs = omega (arith, sound.head.few-outputs) in
      rw (w, i, o)

  cover-is : (ls : List (List ℕ)) → reply_of (cover_checked t c ls) ≡ check_cover t c ls
  unfolding cover_checked check_cover reply_of finished
  cover-is ls =
      ap (λ (q : Reader). reply_of (finished t c (cover_reading q.taken q.given ls) (tables_from q no_heads ls (listing_tables t c)))) reader-fits
      ∙ go (cover_reading (t.head.inputs + c.width) (c.width + t.head.outputs) ls) refl
    where
      go : (v : Verdict) → cover_reading (t.head.inputs + c.width) (c.width + t.head.outputs) ls ≡ v
          → reply_of (finished t c v (tables_from (reader_of t c) no_heads ls (listing_tables t c)))
          ≡ elim v [ Ok _ ↦ says (check_text t (bits_of t.head.states c) ls) | Err why ↦ refuses why.refusal why.line ]
      go (Ok tt) e = ap says (settled_is ls e)
      go (Err why) e = refl

-- ---- by what was begun

module _ (s codes : List ℕ) (ls : List (List ℕ)) where
  abbrev reply : Beginning → Reply
  reply b = reply_of (found_of b ls)

  codes-is : (t : Listing) → Sound t → Apart (all_rows t) → reply (codes_begun t (lines_of codes)) ≡ check_codes t (lines_of codes) ls
  unfolding codes_begun check_codes found_of reply_of
  codes-is t sound apart =
      let all : min t.head.states most_states ≡ t.head.states = omega (arith, sound.head.few-states) in
      ap (λ (n : ℕ). by (codes_reading n (lines_of codes))) all ∙ go (codes_reading t.head.states (lines_of codes)) refl
    where
      by : CodesReading → Reply
      by r = reply (elim r [ Ok c ↦ Ok (record { listing = t; codes = c }) | Err why ↦ Err why ])

      go : (r : CodesReading) → codes_reading t.head.states (lines_of codes) ≡ r → by r ≡ elim r [ Ok c ↦ check_cover t c ls | Err why ↦ refuses why.refusal why.line ]
      go (Ok c) e = cover-is t sound apart c (codes-fit t.head.states (lines_of codes) sound.head.some-states sound.head.few-states e) ls
      go (Err why) e = refl

  begun-is : reply (begun s codes) ≡ on_reading (reading s) (λ t. check_codes t (lines_of codes) ls)
  unfolding begun begun_by found_of reply_of
  begun-is = go (reading s) refl
    where
      go : (r : Reading) → reading s ≡ r → reply (begun_by r (lines_of codes)) ≡ on_reading r (λ t. check_codes t (lines_of codes) ls)
      go (Ok t) e = codes-is t (accepted-sound s e) (all_apart t (accepted-apart s e))
      go (Err why) e = refl

-- of any bytes
pub found-is : (s codes cover : List ℕ) → reply_of (found_of (begun s codes) (lines_of cover)) ≡ check_reply s codes cover
unfolding check_reply
found-is s codes cover = begun-is s codes (lines_of cover)

-- by the reading, as it is begun and done
pub check-is : (s codes cover : List ℕ) {got : Reading} {x : Finding} → got ≡ reading s → x ≡ found_of (begun_by got (lines_of codes)) (lines_of cover) → reply_of x ≡ check_reply s codes cover
unfolding begun
check-is s codes cover e f = ap reply_of (f ∙ ap (λ (g : Reading). found_of (begun_by g (lines_of codes)) (lines_of cover)) e) ∙ found-is s codes cover

pub reply-read : (s codes cover : List ℕ) {b : Begun} → ◌≡◌ {A = Beginning} (Ok b) (begun s codes) → {x : Finding} → x ≡ cover_checked b.listing b.codes (lines_of cover) → reply_of x ≡ check_reply s codes cover
unfolding found_of
reply-read s codes cover e f = ap reply_of (f ∙ ap (λ (b : Beginning). found_of b (lines_of cover)) e) ∙ found-is s codes cover
