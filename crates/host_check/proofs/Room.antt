-- No answer of a check is longer than 12 bytes, and no refusal is at a line that a number cannot say.
use Rattle.std.specs.Prelude.{Option, Some, None, Ok, Err, Result}
use mathlib.Core.Path.{◌≡◌, refl, subst}
use mathlib.Core.Bool.{Bool, true, false}
use mathlib.Core.List.{List, [], ◌∷◌}
use Prim.Native.Nat.{ℕ, zero, suc, ◌+◌, ◌^◌, ◌≤◌, ◌<◌}
use native.Mathlib.Nat.{pow-le-pow_right}
use native.Mathlib.Omega.{arith}
use lib.ListN.{length, get_or, replicate, length-append}
use Rattle.rules.specs.Limits.{most_states, most_asked}
use Rattle.rules.specs.Text.{one, lines_of, field_at, set_of}
use Rattle.rules.specs.Listing.{reading, nothing, dichotomies_of, Reading}
use Rattle.rules.specs.Requirements.{pairs_and_groups, requirements, met_by_code}
use Rattle.rules.specs.Code.{unmet_from}
use Rattle.rules.specs.Report.{unmet_line}
use Rattle.rules.specs.Answers.{Reply, says, refuses, on_reading}
use Rattle.rules.specs.CheckTexts.{CodesReading, width_in, code_good, with_code, codes_from, codes_reading, cover_reading}
use Rattle.rules.specs.Check.{fault_at, lowest_from, fault_from, fault_of, bits_of, fails, fault_line, check_line, check_text, check_cover, check_codes, check_reply}
use Rattle.rules.specs.declared.Requirement.{Requirement}
use Rattle.rules.specs.declared.Listing.{Listing}
use Rattle.rules.specs.declared.CodeTable.{CodeTable}
use Rattle.rules.specs.declared.Refusal.TheVariants.{BadLine}
use Rattle.rules.specs.declared.Fault.{Fault}
use Rattle.rules.specs.Refusals.{Verdict, refused}
use Rattle.rules.proofs.Decimal.{decimal-length}
use Rattle.rules.proofs.LineNumbers.{refused-line}
use Rattle.rules.proofs.Most.{most-requirements}
use Rattle.rules.proofs.Sound.{Sound, accepted-sound}
use Rattle.judge_reading.proofs.LineKinds.{cover-line}
use Rattle.rules.specs.declared.Refused.{Refused}

abbrev pub Room : Reply → Type 0
Room (says text) = length text ≤ 12
Room (refuses r line) = line < 100000

-- ---- the numbers of an answer

-- a requirement has one of the numbers that there are
abbrev Below : ℕ → List ℕ → Type 0
Below n [] = Unit {0}
Below n (u ∷ us) = u < n

first_below : (k n : ℕ) (bits : List ℕ) (rs : List Requirement) → Below (k + length rs) (unmet_from k n bits rs)
unfolding unmet_from
first_below k n bits [] = tt
first_below k n bits (r ∷ rs) = go (met_by_code n bits r) (unmet_from (suc k) n bits rs) (first_below (suc k) n bits rs)
  where
    go : (b : Bool) (rest : List ℕ) → Below (suc k + length rs) rest → Below (k + suc (length rs)) (elim b [ true ↦ rest | false ↦ k ∷ rest ])
    go true [] h = tt
    go true (u ∷ us) h = omega arith
    go false rest h = omega arith

-- an input is one of so many, and a state too
abbrev Within : ℕ → Option ℕ → Type 0
Within n (Some v) = v < n
Within n None = Unit {0}

lowest-within : (p : ℕ → Bool) (a k : ℕ) → Within (a + k) (lowest_from p a k)
unfolding lowest_from
lowest-within p a zero = tt
lowest-within p a (suc k) = go (p a) (lowest_from p (suc a) k) (lowest-within p (suc a) k)
  where
    go : (b : Bool) (l : Option ℕ) → Within (suc a + k) l → Within (a + suc k) (elim b [ true ↦ Some a | false ↦ l ])
    go true l h = omega arith
    go false (Some v) h = omega arith
    go false None h = tt

abbrev There : ℕ → ℕ → Option Fault → Type 0
There n m (Some f) = (f.state.0 < n) × (f.input < m)
There n m None = Unit {0}

fault-there : (p : ℕ → ℕ → Bool) (i s k : ℕ) → There (s + k) (2 ^ i) (fault_from p i s k)
unfolding fault_from
fault-there p i s zero = tt
fault-there p i s (suc k) = go (lowest_from (p s) 0 (2 ^ i)) (lowest-within (p s) 0 (2 ^ i)) (fault_from p i (suc s) k) (fault-there p i (suc s) k)
  where
    go : (l : Option ℕ) → Within (0 + 2 ^ i) l → (f : Option Fault) → There (suc s + k) (2 ^ i) f → There (s + suc k) (2 ^ i) (elim l [ Some v ↦ fault_at s v | None ↦ f ])
    go (Some v) w f h = (omega arith, omega arith)
    go None w (Some f) h = (omega (arith, h.0), h.1)
    go None w None h = tt

-- ---- the line

unmet-short : (r : ℕ) → r < most_asked → length (unmet_line (record { 0 = r })) ≤ 12
unfolding unmet_line
unmet-short r h = simp length-append (omega (arith, decimal-length 4 r (omega arith)))

fault-short : (i : ℕ) → i ≤ 16 → (f : Option Fault) → There most_states (2 ^ i) f → length (fault_line f) ≤ 12
unfolding fault_line
fault-short i few None h = omega arith
fault-short i few (Some f) h =
    let all : 2 ^ i ≤ 2 ^ 16 = pow-le-pow_right {n = 2} (omega arith) {i = i} {j = 16} few in
    simp length-append (omega (arith, decimal-length 1 f.state.0 (omega (arith, h.0)), decimal-length 4 f.input (omega (arith, h.1, all))))

module _ (t : Listing) (sound : Sound t) (bits : List ℕ) (ls : List (List ℕ)) where
  few-first : length (pairs_and_groups t) ≤ most_asked
  unfolding requirements
  few-first = omega (arith, length-append (pairs_and_groups t) (dichotomies_of t), most-requirements t sound)

  text-short : length (check_text t bits ls) ≤ 12
  unfolding check_text check_line fault_of
  text-short = go (unmet_from 0 t.head.states bits (pairs_and_groups t)) (first_below 0 t.head.states bits (pairs_and_groups t)) (fault_of t bits ls) (fault-there (fails t bits ls) t.head.inputs 0 t.head.states)
    where
      widen : (f : Option Fault) → There (0 + t.head.states) (2 ^ t.head.inputs) f → There most_states (2 ^ t.head.inputs) f
      widen (Some f) h = (omega (arith, h.0, sound.head.few-states), h.1)
      widen None h = tt

      go : (us : List ℕ) → Below (0 + length (pairs_and_groups t)) us → (f : Option Fault) → There (0 + t.head.states) (2 ^ t.head.inputs) f → length (check_line us f) ≤ 12
      go [] b f h = fault-short t.head.inputs sound.head.few-inputs f (widen f h)
      go (u ∷ us) b f h = unmet-short u (omega (arith, b, few-first))

-- ---- the line of a refusal

abbrev Behind : {A : Type 0} → ℕ → Result A Refused → Type 0
Behind n (Ok a) = Unit {0}
Behind n (Err why) = why.line ≤ n

codes-behind : (s k : ℕ) (c : CodeTable) (ls : List (List ℕ)) → Behind (s + k + 1) (codes_from s k c ls)
unfolding codes_from
codes-behind s zero c ls = go (nothing ls)
  where
    go : (b : Bool) → Behind (s + 0 + 1) (elim b as (λ x. CodesReading) [ true ↦ Ok c | false ↦ refused BadLine (s + 1) ])
    go true = tt
    go false = omega arith
codes-behind s (suc k) c [] = omega arith
codes-behind s (suc k) c (l ∷ []) = omega arith
codes-behind s (suc k) c (l ∷ (m ∷ ms)) =
    let next : CodeTable = with_code s (set_of one (field_at l 2)) c in
    go (code_good c.width s l) (codes_from (s + 1) k next (m ∷ ms)) (codes-behind (s + 1) k next (m ∷ ms))
  where
    later : (r : CodesReading) → Behind (s + 1 + k + 1) r → Behind (s + suc k + 1) r
    later (Ok d) h = tt
    later (Err why) h = omega arith

    go : (b : Bool) (r : CodesReading) → Behind (s + 1 + k + 1) r → Behind (s + suc k + 1) (elim b as (λ x. CodesReading) [ true ↦ r | false ↦ refused BadLine (s + 1) ])
    go true r h = later r h
    go false r h = omega arith

codes-line : (n : ℕ) (ls : List (List ℕ)) → Behind (n + 1) (codes_reading n ls)
unfolding codes_reading
codes-line n ls =
    let c : CodeTable = record { width = width_in (get_or ls 0 []); table = replicate most_states 0 } in
    let z : 0 + n + 1 ≡ n + 1 = omega arith in
    subst (λ (m : ℕ). Behind m (codes_from 0 n c ls)) z (codes-behind 0 n c ls)

module _ (s codes cover : List ℕ) where
  pub check-room : Room (check_reply s codes cover)
  unfolding check_reply check_codes check_cover
  check-room = go (reading s) refl
    where
      by-cover : (t : Listing) → Sound t → (c : CodeTable) (v : Verdict) → cover_reading (t.head.inputs + c.width) (c.width + t.head.outputs) (lines_of cover) ≡ v
          → Room (elim v [ Ok _ ↦ says (check_text t (bits_of t.head.states c) (lines_of cover)) | Err why ↦ refuses why.refusal why.line ])
      by-cover t sound c (Ok _) e = text-short t sound (bits_of t.head.states c) (lines_of cover)
      by-cover t sound c (Err why) e = omega (arith, cover-line (t.head.inputs + c.width) (c.width + t.head.outputs) (lines_of cover) why.refusal why.line e)

      by_codes : (t : Listing) → Sound t → (r : CodesReading) → Behind (t.head.states + 1) r → Room (elim r [ Ok c ↦ check_cover t c (lines_of cover) | Err why ↦ refuses why.refusal why.line ])
      by_codes t sound (Ok c) b = by-cover t sound c (cover_reading (t.head.inputs + c.width) (c.width + t.head.outputs) (lines_of cover)) refl
      by_codes t sound (Err why) b = omega (arith, b, sound.head.few-states)

      go : (r : Reading) → reading s ≡ r → Room (on_reading r (λ t. check_codes t (lines_of codes) (lines_of cover)))
      go (Ok t) e = by_codes t (accepted-sound s e) (codes_reading t.head.states (lines_of codes)) (codes-line t.head.states (lines_of codes))
      go (Err why) e = refused-line s why.refusal why.line e
