-- The report that is written: each requirement has there its `BY` line, with the first bit that meets it, or its `UN` line, and never both.
use Rattle.std.specs.Prelude.{Option, Some, None, Ok, Err}
use mathlib.Core.Path.{◌≡◌, refl, sym, ap, subst, ◌∙◌}
use mathlib.Core.Logic.{◌↔◌, ◌⊎◌, inl, inr, ⊎_elim}
use mathlib.Core.Bool.{true≢false}
use mathlib.Core.List.{List, [], ◌∷◌, ◌++◌, map, Memᴰ}
use Prim.Native.Nat.{ℕ, zero, suc, ◌+◌, ◌<◌}
use native.Mathlib.Nat.{add-zero}
use native.Mathlib.Omega.{arith}
use lib.ListN.{length, get_or}
use Rattle.sets.specs.Sets.{states_from}
use Rattle.rules.specs.Text.{bytes, lf, space, lines_of, fields_of, decimal}
use Rattle.rules.specs.Listing.{no_requirement, reading, Reading}
use Rattle.rules.specs.Requirements.{judgement, requirements}
use Rattle.rules.specs.Code.{Code, Coding, coded, uncoded, coding, unmet}
use Rattle.rules.specs.Report.{count_line, state_line, met_line, unmet_line, met_lines, report_lines, report}
use Rattle.rules.specs.Answers.{Reply, says, report_of, report_reply, on_reading}
use Rattle.rules.specs.declared.Listing.{Listing}
use Rattle.rules.specs.declared.Requirement.{Requirement}
use Rattle.rules.specs.declared.BitNumber.{BitNumber}
use Rattle.rules.proofs.Fields.{none, more, without-append, split-last, split-part}
use Rattle.rules.proofs.Decimal.{decimal-without, decimal-same}
use Rattle.rules.proofs.Judged.{FirstMeets, MetByNone, first_or_none, by-judged, judged-by}
use Rattle.rules.proofs.Asked.{state-listed}
use Rattle.rules.proofs.Unmet.{unmet-listed}
use Rattle.rules.proofs.Written.{says_same, says-not}
use Rattle.rules.proofs.Ended.{HasLine}
use Rattle.rules.proofs.ReportLines.{report-has}
use mathlib.Core.List.Memᴰ
use Rattle.rules.proofs.Ways.{same-accepted}

-- the line of the requirement r by the bit k, and of r unmet
abbrev pub by_text : ℕ → ℕ → List ℕ
by_text r k = met_line (record { 0 = r }) (record { 0 = k })

abbrev pub un_text : ℕ → List ℕ
un_text r = unmet_line (record { 0 = r })

-- text tells of n states their codes, and of the requirements rs by which bit of the code each is met
pub record Tells (n : ℕ) (bits : List ℕ) (rs : List Requirement) (text : List ℕ) : Type 0 where
  -- `SC s code` is printed for each state
  pub states : (s : ℕ) → s < n → HasLine text (state_line bits (record { 0 = s }))
  -- `BY r k` is printed exactly when bit k meets r and no earlier bit does
  pub by : (r k : ℕ) → HasLine text (by_text r k) ↔ ((r < length rs) × FirstMeets n bits (get_or rs r no_requirement) k)
  -- `UN r` is printed exactly when no bit meets r
  pub un : (r : ℕ) → HasLine text (un_text r) ↔ ((r < length rs) × MetByNone n bits (get_or rs r no_requirement))
  -- each has the one line or the other
  pub either : (r : ℕ) → r < length rs → ((k : ℕ) × HasLine text (by_text r k)) ⊎ HasLine text (un_text r)
  -- and none has both
  pub not-both : (r k : ℕ) → HasLine text (by_text r k) → HasLine text (un_text r) → ⊥

-- the listing is accepted and coded, and text is its report
pub record Reported (r : Reading) (text : List ℕ) : Type 0 where
  pub listing : Listing
  pub accepted : r ≡ Ok listing
  pub code : Code
  pub built : coding listing ≡ coded code
  pub is : text ≡ report listing code
  pub tells : Tells listing.head.states code.bits (requirements listing) text

-- ---- a line says which requirement, and which bit

-- two letters, and two numbers
abbrev pub two_numbers : ℕ → ℕ → ℕ → ℕ → List ℕ
two_numbers a b r k = a ∷ (b ∷ (space ∷ (decimal r ++ (space ∷ (decimal k ++ (lf ∷ []))))))

number-fields : (a b r k : ℕ) → space < a → space < b → fields_of (two_numbers a b r k) ≡ (a ∷ (b ∷ [])) ∷ (decimal r ∷ ((decimal k ++ (lf ∷ [])) ∷ []))
number-fields a b r k h q =
    split-part space (a ∷ (b ∷ [])) (decimal r ++ (space ∷ (decimal k ++ (lf ∷ [])))) (more {x = a} (λ e. omega arith) (more {x = b} (λ e. omega arith) none))
    ∙ ap {B = List (List ℕ)} (λ ls. (a ∷ (b ∷ [])) ∷ ls)
    (split-part space (decimal r) (decimal k ++ (lf ∷ [])) (decimal-without space (omega arith) r)
    ∙ ap {B = List (List ℕ)} (λ ls. decimal r ∷ ls)
    (split-last space (decimal k ++ (lf ∷ [])) (without-append (decimal-without space (omega arith) k) (more {x = lf} (λ e. omega arith) none))))

un-fields : (r : ℕ) → fields_of (un_text r) ≡ bytes "UN" ∷ ((decimal r ++ (lf ∷ [])) ∷ [])
unfolding unmet_line
un-fields r =
    split-part space (bytes "UN") (decimal r ++ (lf ∷ [])) (more {x = 85} (λ e. omega arith) (more {x = 78} (λ e. omega arith) none))
    ∙ ap {B = List (List ℕ)} (λ ls. bytes "UN" ∷ ls)
    (split-last space (decimal r ++ (lf ∷ [])) (without-append (decimal-without space (omega arith) r) (more {x = lf} (λ e. omega arith) none)))

-- a number before LF
before-end : (v : ℕ) → get_or (lines_of (decimal v ++ (lf ∷ []))) 0 [] ≡ decimal v
before-end v = ap (λ (ls : List (List ℕ)). get_or ls 0 []) (split-part lf (decimal v) [] (decimal-without lf (omega arith) v))

ended_same : (a b : ℕ) → decimal a ++ (lf ∷ []) ≡ decimal b ++ (lf ∷ []) → a ≡ b
ended_same a b e = decimal-same a b (sym (before-end a) ∙ ap (λ (l : List ℕ). get_or (lines_of l) 0 []) e ∙ before-end b)

pub numbers-same : (a b : ℕ) → space < a → space < b → (r k q j : ℕ) → two_numbers a b r k ≡ two_numbers a b q j → (r ≡ q) × (k ≡ j)
numbers-same a b l m r k q j e =
    let fields = sym (number-fields a b r k l m) ∙ ap (λ (l : List ℕ). fields_of l) e ∙ number-fields a b q j l m in
    (decimal-same r q (ap (λ (fs : List (List ℕ)). get_or fs 1 []) fields), ended_same k j (ap (λ (fs : List (List ℕ)). get_or fs 2 []) fields))

by-same : (r k q j : ℕ) → by_text r k ≡ by_text q j → (r ≡ q) × (k ≡ j)
unfolding met_line
by-same r k q j e = numbers-same 66 89 (omega arith) (omega arith) r k q j e

pub un-same : (r q : ℕ) → un_text r ≡ un_text q → r ≡ q
un-same r q e = ended_same r q (ap (λ (fs : List (List ℕ)). get_or fs 1 []) (sym (un-fields r) ∙ ap (λ (l : List ℕ). fields_of l) e ∙ un-fields q))

-- ---- the first letter tells the kinds of lines apart

letter : List ℕ → ℕ
letter l = get_or l 0 0

other : (a b : List ℕ) → (letter a ≡ letter b → ⊥) → a ≡ b → ⊥
other a b o e = o (ap letter e)

by-letter : (r k : ℕ) → letter (by_text r k) ≡ 66
unfolding letter met_line
by-letter r k = refl

un-letter : (r : ℕ) → letter (un_text r) ≡ 85
unfolding letter unmet_line
un-letter r = refl

count-letter : (bits asked unmet passes looks : ℕ) → letter (count_line bits asked unmet passes looks) ≡ 67
unfolding letter count_line
count-letter bits asked unmet passes looks = refl

state-letter : (bits : List ℕ) (s : ℕ) → letter (state_line bits (record { 0 = s })) ≡ 83
unfolding letter state_line
state-letter bits s = refl

end-letter : letter (bytes "EN\n") ≡ 69
unfolding letter
end-letter = refl

-- ---- the `BY` lines

-- r is the number of a requirement that the bit k is the first to meet
abbrev ByBit : ℕ → ℕ → List ℕ → List Requirement → ℕ → ℕ → Type 0
ByBit m n bits rs r k = (d : ℕ) × (r ≡ m + d) × (d < length rs) × (judgement n bits (get_or rs d no_requirement) ≡ Some (record { 0 = k }))

module _ (m n : ℕ) (bits : List ℕ) (q : Requirement) (rs : List Requirement) where
  pub lines-by : (b : BitNumber) → judgement n bits q ≡ Some b → met_lines m n bits (q ∷ rs) ≡ met_line (record { 0 = m }) b ∷ met_lines (suc m) n bits rs
  unfolding met_lines
  lines-by b e = rw (e, met_lines)

  pub lines_none : judgement n bits q ≡ None → met_lines m n bits (q ∷ rs) ≡ met_lines (suc m) n bits rs
  unfolding met_lines
  lines_none e = rw (e, met_lines)

of-lines : (m n : ℕ) (bits : List ℕ) (rs : List Requirement) (r k : ℕ) → Memᴰ (by_text r k) (met_lines m n bits rs) → ByBit m n bits rs r k
unfolding met_lines
of-lines m n bits [] r k h = absurd (Memᴰ.not-nil h)
of-lines m n bits (q ∷ rs) r k h = go (judgement n bits q) refl (λ x. later (of-lines (suc m) n bits rs r k x))
  where
    later : ByBit (suc m) n bits rs r k → ByBit m n bits (q ∷ rs) r k
    later l = (suc l.0, omega (arith, l.1), omega (arith, l.2), l.3)

    go : (j : Option BitNumber) → judgement n bits q ≡ j → (Memᴰ (by_text r k) (met_lines (suc m) n bits rs) → ByBit m n bits (q ∷ rs) r k) → ByBit m n bits (q ∷ rs) r k
    go (Some b) e f =
        ⊎_elim
        (λ x. let z = by-same r k m b.0 x in (0, omega (arith, z.0), omega arith, e ∙ ap (λ (i : ℕ). Some (record { 0 = i })) (sym z.1)))
        f
        (Memᴰ.cases_cons (rw (lines-by m n bits q rs b e) at h))
    go None e f = f (rw (lines_none m n bits q rs e) at h)

in_lines : (m n : ℕ) (bits : List ℕ) (rs : List Requirement) (d k : ℕ) → d < length rs → judgement n bits (get_or rs d no_requirement) ≡ Some (record { 0 = k })
    → Memᴰ (by_text (m + d) k) (met_lines m n bits rs)
in_lines m n bits [] d k h e = absurd (omega arith)
in_lines m n bits (q ∷ rs) zero k h e = rw (lines-by m n bits q rs (record { 0 = k }) e) (Memᴰ.head (ap (λ (i : ℕ). by_text i k) (add-zero m)))
in_lines m n bits (q ∷ rs) (suc d) k h e = go (judgement n bits q) refl (Memᴰ.cast (ap (λ (i : ℕ). by_text i k) (omega arith)) (in_lines (suc m) n bits rs d k (omega arith) e))
  where
    go : (j : Option BitNumber) → judgement n bits q ≡ j → Memᴰ (by_text (m + suc d) k) (met_lines (suc m) n bits rs) → Memᴰ (by_text (m + suc d) k) (met_lines m n bits (q ∷ rs))
    go (Some b) x f = rw (lines-by m n bits q rs b x) (Memᴰ.tail f)
    go None x f = rw (lines_none m n bits q rs x) f

-- a `BY` line begins otherwise than an `UN` line
met-letter : (m n : ℕ) (bits : List ℕ) (rs : List Requirement) (r : ℕ) → Memᴰ (un_text r) (met_lines m n bits rs) → ⊥
unfolding met_lines
met-letter m n bits [] r h = Memᴰ.not-nil h
met-letter m n bits (q ∷ rs) r h = go (judgement n bits q) refl (met-letter (suc m) n bits rs r)
  where
    go : (j : Option BitNumber) → judgement n bits q ≡ j → (Memᴰ (un_text r) (met_lines (suc m) n bits rs) → ⊥) → ⊥
    go (Some b) e f =
        ⊎_elim
        (λ x. other (un_text r) (by_text m b.0) (λ z. omega (arith, z, un-letter r, by-letter m b.0)) x)
        f
        (Memᴰ.cases_cons (rw (lines-by m n bits q rs b e) at h))
    go None e f = f (rw (lines_none m n bits q rs e) at h)

-- ---- a line of the report

module _ (t : Listing) (c : Code) where
  n : ℕ
  n = t.head.states

  rs : List Requirement
  rs = requirements t

  counts : List ℕ
  counts = count_line (length c.bits) (length (requirements t)) (length (unmet t c.bits)) c.passes c.looks

  states : List (List ℕ)
  states = map (λ s. state_line c.bits (record { 0 = s })) (states_from 0 t.head.states)

  mets : List (List ℕ)
  mets = met_lines 0 t.head.states c.bits (requirements t)

  unmets : List (List ℕ)
  unmets = map (λ r. unmet_line (record { 0 = r })) (unmet t c.bits)

  sections : report_lines t c ≡ counts ∷ (states ++ (mets ++ (unmets ++ (bytes "EN\n" ∷ []))))
  unfolding report_lines counts states mets unmets
  sections = refl

  -- a line that begins otherwise than the counts, the states' lines and the end
  middle : (l : List ℕ) → (letter l ≡ 67 → ⊥) → (letter l ≡ 83 → ⊥) → (letter l ≡ 69 → ⊥) → Memᴰ l (report_lines t c) → Memᴰ l mets ⊎ Memᴰ l unmets
  unfolding counts states
  middle l no-count no-state no_end h =
      ⊎_elim
      (λ e. absurd (no-count (ap letter e ∙ count-letter (length c.bits) (length (requirements t)) (length (unmet t c.bits)) c.passes c.looks)))
      (λ h₁.
      ⊎_elim
      (λ h₂. let s = Memᴰ.of_map (λ s. state_line c.bits (record { 0 = s })) (states_from 0 t.head.states) h₂ in absurd (no-state (ap letter (sym s.2) ∙ state-letter c.bits s.0)))
      (λ h₂. ⊎_elim inl (λ h₃. ⊎_elim inr (λ h₄. absurd (no_end (ap letter (Memᴰ.eq_of_singleton h₄) ∙ end-letter))) (Memᴰ.append_cases unmets h₃)) (Memᴰ.append_cases mets h₂))
      (Memᴰ.append_cases states h₁))
      (Memᴰ.cases_cons (rw sections at h))

  among-mets : (l : List ℕ) → Memᴰ l mets → Memᴰ l (report_lines t c)
  among-mets l h = rw sections (Memᴰ.tail (Memᴰ.append_right states (Memᴰ.append_left _ h)))

  among-unmets : (l : List ℕ) → Memᴰ l unmets → Memᴰ l (report_lines t c)
  among-unmets l h = rw sections (Memᴰ.tail (Memᴰ.append_right states (Memᴰ.append_right mets (Memᴰ.append_left _ h))))

  -- ---- the kinds of lines that tell

  tells-state : (s : ℕ) → s < t.head.states → HasLine (report t c) (state_line c.bits (record { 0 = s }))
  unfolding letter states
  tells-state s h =
      (report-has t c (state_line c.bits (record { 0 = s })) (λ e. omega (arith, ap letter e, state-letter c.bits s))).1
      (rw sections (Memᴰ.tail (Memᴰ.append_left _ (Memᴰ.map (λ s. state_line c.bits (record { 0 = s })) (state-listed 0 t.head.states s (omega arith) (omega arith))))))

  by-long : (r k : ℕ) → by_text r k ≡ lf ∷ [] → ⊥
  unfolding letter
  by-long r k e = omega (arith, ap letter e, by-letter r k)

  un-long : (r : ℕ) → un_text r ≡ lf ∷ [] → ⊥
  unfolding letter
  un-long r e = omega (arith, ap letter e, un-letter r)

  tells-by : (r k : ℕ) → HasLine (report t c) (by_text r k) ↔ ((r < length (requirements t)) × FirstMeets t.head.states c.bits (get_or (requirements t) r no_requirement) k)
  unfolding mets unmets
  tells-by r k = (to, from)
    where
      to : HasLine (report t c) (by_text r k) → (r < length (requirements t)) × FirstMeets t.head.states c.bits (get_or (requirements t) r no_requirement) k
      to h =
          let m = (report-has t c (by_text r k) (by-long r k)).0 h in
          let z = by-letter r k in
          ⊎_elim
          (λ x.
          let l = of-lines 0 t.head.states c.bits (requirements t) r k x in
          let e : l.0 ≡ r = omega (arith, l.1) in
          (omega (arith, l.2), judged-by t.head.states c.bits (get_or (requirements t) r no_requirement) (record { 0 = k }) (rw (← e) l.3)))
          (λ x. let u = Memᴰ.of_map (λ r. unmet_line (record { 0 = r })) (unmet t c.bits) x in absurd (omega (arith, z, ap letter u.2, un-letter u.0)))
          (middle (by_text r k) (λ e. omega (arith, e, z)) (λ e. omega (arith, e, z)) (λ e. omega (arith, e, z)) m)

      from : (r < length (requirements t)) × FirstMeets t.head.states c.bits (get_or (requirements t) r no_requirement) k → HasLine (report t c) (by_text r k)
      from h =
          let from-0 : r ≡ 0 + r = omega arith in
          let judged = by-judged t.head.states c.bits (get_or (requirements t) r no_requirement) k h.1 in
          (report-has t c (by_text r k) (by-long r k)).1
          (among-mets (by_text r k) (Memᴰ.cast (ap (λ (i : ℕ). by_text i k) from-0) (in_lines 0 t.head.states c.bits (requirements t) r k h.0 judged)))

  tells-un : (r : ℕ) → HasLine (report t c) (un_text r) ↔ ((r < length (requirements t)) × MetByNone t.head.states c.bits (get_or (requirements t) r no_requirement))
  unfolding mets unmets unmet
  tells-un r = (to, from)
    where
      to : HasLine (report t c) (un_text r) → (r < length (requirements t)) × MetByNone t.head.states c.bits (get_or (requirements t) r no_requirement)
      to h =
          let z = un-letter r in
          ⊎_elim
          (λ x. absurd (met-letter 0 t.head.states c.bits (requirements t) r x))
          (λ x.
          let u = Memᴰ.of_map (λ r. unmet_line (record { 0 = r })) (unmet t c.bits) x in
          (unmet-listed t.head.states c.bits (requirements t) r).0 (Memᴰ.cast (sym (un-same u.0 r u.2)) u.1))
          (middle (un_text r) (λ e. omega (arith, e, z)) (λ e. omega (arith, e, z)) (λ e. omega (arith, e, z)) ((report-has t c (un_text r) (un-long r)).0 h))

      from : (r < length (requirements t)) × MetByNone t.head.states c.bits (get_or (requirements t) r no_requirement) → HasLine (report t c) (un_text r)
      from h =
          (report-has t c (un_text r) (un-long r)).1
          (among-unmets (un_text r) (Memᴰ.map (λ r. unmet_line (record { 0 = r })) ((unmet-listed t.head.states c.bits (requirements t) r).1 h)))

  pub report-tells : Tells t.head.states c.bits (requirements t) (report t c)
  report-tells = record { states = tells-state; by = tells-by; un = tells-un; either = either; not-both = not-both }
    where
      either : (r : ℕ) → r < length (requirements t) → ((k : ℕ) × HasLine (report t c) (by_text r k)) ⊎ HasLine (report t c) (un_text r)
      either r h =
          ⊎_elim
          (λ f. inl (f.0, (tells-by r f.0).1 (h, f.1)))
          (λ f. inr ((tells-un r).1 (h, f)))
          (first_or_none t.head.states c.bits (get_or (requirements t) r no_requirement))

      not-both : (r k : ℕ) → HasLine (report t c) (by_text r k) → HasLine (report t c) (un_text r) → ⊥
      not-both r k a b =
          let f = ((tells-by r k).0 a).1 in
          true≢false (sym f.meets ∙ ((tells-un r).0 b).1 k f.below)

-- ---- the reply

abbrev pub replied : Reading → Reply
replied r = on_reading r (λ t. report_of t (coding t))

pub of-coding : (t : Listing) (g : Coding) (text : List ℕ) → report_of t g ≡ says text → (c : Code) × (g ≡ coded c) × (text ≡ report t c)
unfolding report
of-coding t (coded c) text e = (c, refl, sym (says_same (report t c) text e))
of-coding t (uncoded f) text e = absurd (says-not f 0 text e)

-- of an accepted reading it is told of its listing
pub tells-of : {r : Reading} {text : List ℕ} {t : Listing} → r ≡ Ok t → (w : Reported r text) → (coding t ≡ coded w.code) × Tells t.head.states w.code.bits (requirements t) text
tells-of {r} {text} {t} a w =
    let here : w.listing ≡ t = same-accepted (sym w.accepted ∙ a) in
    (ap coding (sym here) ∙ w.built, subst (λ (u : Listing). Tells u.head.states w.code.bits (requirements u) text) here w.tells)

pub of-reading : (r : Reading) (text : List ℕ) → replied r ≡ says text → Reported r text
of-reading (Ok t) text e =
    let w = of-coding t (coding t) text e in
    record { listing = t; accepted = refl; code = w.0; built = w.1; is = w.2; tells = told w.0 w.2 }
  where
    told : (c : Code) → text ≡ report t c → Tells t.head.states c.bits (requirements t) text
    told c is = subst (Tells t.head.states c.bits (requirements t)) (sym is) (report-tells t c)
of-reading (Err why) text e = absurd (says-not why.refusal why.line text e)

reply : (s : List ℕ) → report_reply s ≡ replied (reading s)
unfolding report_reply
reply s = refl

-- whatever the bytes
pub reported : (s text : List ℕ) → report_reply s ≡ says text → Reported (reading s) text
reported s text e = of-reading (reading s) text (sym (reply s) ∙ e)
