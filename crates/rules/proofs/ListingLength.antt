-- How long the lines of a listing's text, and the text, can be, within 01's limits: what a lent buffer has to hold.
use mathlib.Core.Path.{◌≡◌, ◌∙◌}
use mathlib.Core.Bool.{Bool, true, false}
use mathlib.Core.List.{List, [], ◌∷◌, ◌++◌, map}
use Prim.Native.Nat.{ℕ, ◌+◌, ◌*◌, ◌^◌, ◌≤◌, ◌<◌}
use native.Mathlib.Omega.{arith}
use lib.ListN.{length, length-append, length-map}
use Rattle.sets.specs.Sets.{has, states_from}
use Rattle.rules.specs.Limits.{most_states, most_inputs, most_outputs}
use Rattle.rules.specs.Text.{bytes, lf, nought}
use Rattle.rules.specs.Listing.{rows_of}
use Rattle.rules.specs.Report.{joined_lines}
use Rattle.rules.specs.ListingText.{pattern_mark, pattern_field, set_field, fifth_text, head_text, row_text, listing_lines, listing_text}
use Rattle.rules.specs.declared.Head.{Head}
use Rattle.rules.specs.declared.Pattern.{Pattern}
use Rattle.rules.specs.declared.Row.{Row}
use Rattle.rules.specs.declared.Listing.{Listing}
use Rattle.rules.proofs.Decimal.{decimal-length}
use Rattle.rules.proofs.Most.{states-length}
use Rattle.rules.proofs.Parts.{AllFit, fit_none, fit-more, fit_append, fit-map}
use Rattle.rules.proofs.SoundLines.{SoundHead}
use Rattle.rules.proofs.Sound.{Sound, rows-length}

-- the longest line: `PT `, 16 inputs, 64 states twice, 32 outputs, three spaces and LF
abbrev pub longest-row : ℕ
longest-row = 183

-- ---- fields

pub pattern-long : (k : ℕ) (p : Pattern) → length (pattern_field k p) ≡ k
unfolding pattern_field
pattern-long k p = length-map (states_from 0 k) (pattern_mark p) ∙ states-length 0 k

pub set_long : (n m : ℕ) → length (set_field n m) ≡ n
unfolding set_field
set_long n m = length-map (states_from 0 n) (λ s. nought + has m s) ∙ states-length 0 n

-- ---- lines

-- by how many digits behind the first the head's numbers have
pub head-length : (d : ℕ) (h : Head) → h.states < 10 ^ (d + 1) → h.inputs < 10 ^ (d + 1) → h.outputs < 10 ^ (d + 1) → h.width < 10 ^ (d + 1)
    → length (head_text h ++ (lf ∷ [])) ≤ 4 * d + 13
unfolding head_text fifth_text
head-length d h a b c e =
    simp length-append
    (omega (arith, decimal-length d h.states a, decimal-length d h.inputs b, decimal-length d h.outputs c, decimal-length d h.width e, fifth h.keeps))
  where
    fifth : (k : Bool) → length (fifth_text k) ≤ 2
    fifth true = omega arith
    fifth false = omega arith

pub row-length : (h : Head) (r : Row) → length (row_text h r ++ (lf ∷ [])) ≡ h.inputs + h.states + h.states + h.outputs + 7
unfolding row_text
row-length h r = simp (length-append, pattern-long, set_long) (omega arith)

pub row-few : (h : Head) (r : Row) → h.states ≤ most_states → h.inputs ≤ most_inputs → h.outputs ≤ most_outputs → length (row_text h r ++ (lf ∷ [])) ≤ longest-row
row-few h r a b c = omega (arith, row-length h r)

sound-row : (h : Head) → SoundHead h → (r : Row) → length (row_text h r ++ (lf ∷ [])) ≤ longest-row
sound-row h s r = row-few h r s.few-states s.few-inputs s.few-outputs

-- ---- the whole

rows_few : (h : Head) → SoundHead h → (rs : List Row) → length (joined_lines (map (λ r. row_text h r ++ (lf ∷ [])) rs ++ (bytes "EN\n" ∷ []))) ≤ longest-row * length rs + 3
unfolding joined_lines
rows_few h s [] = omega arith
rows_few h s (r ∷ rs) =
    let ih : length (joined_lines (map (λ r. row_text h r ++ (lf ∷ [])) rs ++ (bytes "EN\n" ∷ []))) ≤ longest-row * length rs + 3 = rows_few h s rs in
    rw length-append (omega (arith, sound-row h s r))

-- two digits at the most
sound-head : (h : Head) → SoundHead h → length (head_text h ++ (lf ∷ [])) ≤ 17
sound-head h s = head-length 1 h (omega (arith, s.few-states)) (omega (arith, s.few-inputs)) (omega (arith, s.few-outputs)) (omega (arith, s.few_bits))

-- no text of a sound listing is longer: a head of 17 bytes, 128 rows of 183, and the end
pub listing-length : (t : Listing) → Sound t → length (listing_text t) ≤ 23444
unfolding listing_text listing_lines joined_lines
listing-length t s =
    let rows = rows_few t.head s.head (rows_of t) in
    rw length-append (omega (arith, rows, sound-head t.head s.head, rows-length t s, s.few-rows))

pub listing-fit : (t : Listing) → Sound t → AllFit longest-row (listing_lines t)
unfolding listing_lines
listing-fit t s =
    fit-more {l = head_text t.head ++ (lf ∷ [])} (omega (arith, sound-head t.head s.head))
    (fit_append (fit-map longest-row (λ r. row_text t.head r ++ (lf ∷ [])) (sound-row t.head s.head) (rows_of t))
    (fit-more {l = bytes "EN\n"} (omega arith) fit_none))
