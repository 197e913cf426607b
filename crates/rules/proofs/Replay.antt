-- 02, request 08: the code that the cover gave is always the code of the state that the symbolic machine is in, and the cover agrees with the outputs shown.
use Rattle.std.specs.Prelude.{Result, Option, Ok, Err, Some, None}
use mathlib.Core.Path.{◌≡◌, refl, sym, ap, ap₂, subst, ◌∙◌}
use mathlib.Core.Logic.{◌⊎◌, inl, inr}
use mathlib.Core.Bool.{Bool, true, false, ◌&&◌, not, cond}
use mathlib.Core.List.{List, [], ◌∷◌, ◌++◌, map}
use Prim.Native.Nat.{ℕ, suc, ◌+◌, ◌<◌}
use native.Mathlib.Nat.{zero-add}
use native.Mathlib.Decide.{ℕ_discrete}
use native.Mathlib.Omega.{arith}
use lib.Bits.{bit_and}
use lib.Dec.{eqb, ltb}
use lib.Pow.{pow-lt, pow_pos}
use lib.ListN.{length, get_or, length-map}
use borrow.Author.Tests.{ltb-true}
use Rattle.sets.specs.Sets.{has, only, states_from}
use Rattle.sets.proofs.Every.{and_first, every-at}
use Rattle.sets.proofs.Members.{has_other}
use Rattle.sets.proofs.LowestMember.{lowest-has}
use Rattle.sets.proofs.SizeMembers.{at_most_one}
use Rattle.rules.specs.Limits.{most_states}
use Rattle.rules.specs.Text.{digit, dash, one, lines_of, field_at, numeral_of, bytes}
use Rattle.rules.specs.Listing.{no_row, all_rows, reading, Reading}
use Rattle.rules.specs.Code.{Code, Coding, coded, uncoded, coding, code_of}
use Rattle.rules.specs.Report.{joined_lines}
use Rattle.rules.specs.Cover.{fires, vector}
use Rattle.rules.specs.Meaning.{Meaning, on, free, off, output_means, named_by, next_means, bit_means, cover_says, place_agrees, agrees_at}
use Rattle.rules.specs.Answers.{Reply, says, refuses, cover_of, cover_reply, on_reading}
use Rattle.rules.specs.Replay.{marked, start_read, start_line, vector_line, state_in, state_after, output_byte, outputs_text, code_after, Shown, Run, steps, over, stopped, shown, run_end, run_from, run_of, run_lines, replay, replay_of, replay_reply}
use Rattle.rules.specs.declared.Head.{Head}
use Rattle.rules.specs.declared.Row.{Row}
use Rattle.rules.specs.declared.Listing.{Listing}
use Rattle.rules.specs.declared.Refusal.{Refusal}
use Rattle.rules.specs.declared.Refusal.TheVariants.{BadLine, NoNext}
use Rattle.rules.specs.declared.StateNumber.{StateNumber}
use Rattle.rules.proofs.Ways.{chose-first, not-ok, same-accepted}
use Rattle.rules.proofs.Fires.{part-has}
use Rattle.rules.proofs.SoundLines.{FitRow}
use Rattle.rules.proofs.Sound.{Sound, accepted-sound}
use Rattle.rules.proofs.AllRows.{all_fit}
use Rattle.rules.proofs.Written.{Written, says_same, says-not, written}

-- ---- what is promised of the steps

-- the step p goes from the state s, by the bits of a code and the lines of a cover
pub record StepFrom (t : Listing) (bits : List ℕ) (ls : List (List ℕ)) (s : ℕ) (p : Shown) : Type 0 where
  -- at some input vector x the firing rows name the state shown
  pub x : ℕ
  pub named : next_means t x s ≡ only p.state
  pub within : p.state < t.head.states
  -- the code that the firing lines of the cover gave is that state's
  pub code : p.code ≡ code_of bits p.state
  -- the outputs shown are what the listing means at x and s, and there the cover agrees
  pub outputs : p.outputs ≡ map (λ j. output_byte (output_means t x s j)) (states_from 0 t.head.outputs)
  pub agrees : agrees_at t bits ls x s ≡ true

-- the steps of a run from the state s, each from the state that the one before it came to
abbrev pub Steps : Listing → List ℕ → List (List ℕ) → ℕ → Run → Type 0
Steps t bits ls s (steps p rest) = StepFrom t bits ls s p × Steps t bits ls p.state rest
Steps t bits ls s over = Unit {0}
Steps t bits ls s (stopped r k) = Unit {0}

-- a whole run: it is refused at its first line, or its steps go from the state that `SS` names
abbrev pub Whole : Listing → List ℕ → List (List ℕ) → Run → Type 0
Whole t bits ls run = ((r : Refusal) × (run ≡ stopped r 1)) ⊎ ((s : ℕ) × (s < t.head.states) × Steps t bits ls s run)

-- The listing is accepted and coded and has a cover, and text is what its replay prints: the lines of the run, stepped by the cover's text.
pub record Replayed (listing run text : List ℕ) : Type 0 where
  pub cover : List ℕ
  pub covered : cover_reply listing ≡ says cover
  pub writes : Written (reading listing) cover
  pub prints : text ≡ joined_lines (run_lines (run_of writes.listing writes.code.bits (lines_of cover) (lines_of run)))
  pub whole : Whole writes.listing writes.code.bits (lines_of cover) (run_of writes.listing writes.code.bits (lines_of cover) (lines_of run))

-- ---- the state that is named

pub only-state : (u : ℕ) → u < most_states → state_in (only u) ≡ u
unfolding state_in
only-state u l = go (ℕ_discrete (state_in (only u)) u)
  where
    go : Dec (state_in (only u) ≡ u) → state_in (only u) ≡ u
    go (yes e) = e
    go (no o) = absurd (omega (arith, (lowest-has most_states (only u) (pow-lt l) (pow_pos u)).1, has_other u (state_in (only u)) o))

named-one : (h : Head) (x s : ℕ) (rs : List Row) → ((k : ℕ) → k < length rs → FitRow h (get_or rs k no_row)) → (named_by h x s rs ≡ 0) ⊎ ((u : ℕ) × (u < h.states) × (named_by h x s rs ≡ only u))
unfolding named_by
named-one h x s [] fit = inl refl
named-one h x s (r ∷ rs) fit = go (fires h r x s && not (eqb r.next 0)) (named-one h x s rs (λ k l. fit (suc k) (omega arith)))
  where
    first : FitRow h r
    first = fit 0 (omega arith)

    go : (b : Bool) → (named_by h x s rs ≡ 0) ⊎ ((u : ℕ) × (u < h.states) × (named_by h x s rs ≡ only u))
        → (cond b r.next (named_by h x s rs) ≡ 0) ⊎ ((u : ℕ) × (u < h.states) × (cond b r.next (named_by h x s rs) ≡ only u))
    go true later = at_most_one h.states r.next first.next first.one-next
    go false later = later

pub next_one : (t : Listing) → Sound t → (x s : ℕ) → eqb (next_means t x s) 0 ≡ false → (state_after t x s < t.head.states) × (next_means t x s ≡ only (state_after t x s))
unfolding next_means state_after
next_one t sound x s e = go (named-one t.head x s (all_rows t) (all_fit t sound))
  where
    go : (next_means t x s ≡ 0) ⊎ ((u : ℕ) × (u < t.head.states) × (next_means t x s ≡ only u)) → (state_after t x s < t.head.states) × (next_means t x s ≡ only (state_after t x s))
    go (inl q) = let z : ◌≡◌ {A = ℕ} 0 1 = ap digit (sym e ∙ ap (λ (m : ℕ). eqb m 0) q) in absurd (omega arith)
    go (inr q) =
        let same : state_after t x s ≡ q.0 = ap state_in q.2 ∙ only-state q.0 (omega (arith, q.1, sound.head.few-states)) in
        (omega (arith, q.1, same), q.2 ∙ ap only (sym same))

-- ---- the code that the cover gives

-- digits told by places are those of the bits
pub by-places : (f g : ℕ → ℕ) (a : ℕ) (bits : List ℕ) → ((k : ℕ) → k < length bits → f (a + k) ≡ g (get_or bits k 0)) → map f (states_from a (length bits)) ≡ map g bits
unfolding states_from
by-places f g a [] same = refl
by-places f g a (b ∷ bs) same =
    ap₂ (λ (d : ℕ) (ds : List ℕ). d ∷ ds) (ap f (omega arith) ∙ same 0 (omega arith))
    (by-places f g (suc a) bs (λ k l. ap f (omega arith) ∙ same (suc k) (omega arith)))

-- a bit of the next code, where a state is named: some firing line says 1 exactly where its code has 1
bit-told : (t : Listing) (bits : List ℕ) (ls : List (List ℕ)) (x s : ℕ) → agrees_at t bits ls x s ≡ true → eqb (next_means t x s) 0 ≡ false
    → (k : ℕ) → k < length bits → cover_says ls (vector t.head.inputs x ++ code_of bits s) k one ≡ not (eqb (bit_and (get_or bits k 0) (next_means t x s)) 0)
unfolding agrees_at bit_means place_agrees
bit-told t bits ls x s agree some k l = go (eqb (bit_and (get_or bits k 0) (next_means t x s)) 0) refl
  where
    ds : List ℕ
    ds = vector t.head.inputs x ++ code_of bits s

    means : ℕ → Meaning
    means j = bit_means t x s (get_or bits j 0)

    place : place_agrees (means k) ls ds k ≡ true
    place = every-at (length bits) (λ j. place_agrees (means j) ls ds j) (and_first _ _ agree) k l

    go : (v : Bool) → eqb (bit_and (get_or bits k 0) (next_means t x s)) 0 ≡ v → cover_says ls ds k one ≡ not v
    go true e = flip-not (and_first (not (cover_says ls ds k one)) (not (cover_says ls ds k dash)) (sym (ap (λ (m : Meaning). place_agrees m ls ds k) (ap₂ (λ (p q : Bool). cond p free (cond q off on)) some e)) ∙ place))
      where
        flip-not : not (cover_says ls ds k one) ≡ true → cover_says ls ds k one ≡ false
        flip-not h = other (cover_says ls ds k one) h
          where
            other : (b : Bool) → not b ≡ true → b ≡ false
            other true q = sym q
            other false q = refl
    go false e = and_first (cover_says ls ds k one) (not (cover_says ls ds k dash)) (sym (ap (λ (m : Meaning). place_agrees m ls ds k) (ap₂ (λ (p q : Bool). cond p free (cond q off on)) some e)) ∙ place)

-- so the code after a step from a state's code is the code of the state named
pub code-after : (t : Listing) (bits : List ℕ) (ls : List (List ℕ)) (x s u : ℕ) → agrees_at t bits ls x s ≡ true → eqb (next_means t x s) 0 ≡ false → next_means t x s ≡ only u
    → code_after ls t.head x (code_of bits s) ≡ code_of bits u
unfolding code_after
code-after t bits ls x s u agree some named =
    ap (λ (n : ℕ). map told (states_from 0 n)) (length-map bits (λ b. has b s))
    ∙ by-places told (λ b. has b u) 0 bits (λ k l. ap told (zero-add k) ∙ ap digit (bit-told t bits ls x s agree some k l ∙ ap (λ (m : ℕ). not (eqb (bit_and (get_or bits k 0) m) 0)) named) ∙ part-has (get_or bits k 0) u)
  where
    told : ℕ → ℕ
    told k = digit (cover_says ls (vector t.head.inputs x ++ code_of bits s) k one)

-- ---- the run

-- the state that `SS` names is below n
pub start-below : (h : Head) (l : List ℕ) {s : StateNumber} → start_line h l ≡ Ok s → s.0 < h.states
unfolding start_line start_read
start-below h l {s} e = number (numeral_of (field_at l 1)) (chose-first (marked (bytes "SS") l) e not-ok).1
  where
    number : (v : Option ℕ) → start_read h v ≡ Ok s → s.0 < h.states
    number (Some n) e =
        let k = chose-first (ltb n h.states) e not-ok in
        let same : n ≡ s.0 = ap (λ (q : Result StateNumber Refusal). elim q [ Ok m ↦ m.0 | Err r ↦ n ]) k.1 in
        omega (arith, ltb-true n h.states k.0, same)
    number None e = absurd (not-ok e)

module _ (t : Listing) (bits : List ℕ) (ls : List (List ℕ)) (sound : Sound t) (agree : (x s : ℕ) → s < t.head.states → agrees_at t bits ls x s ≡ true) where
  one-step : (x s : ℕ) → s < t.head.states → eqb (next_means t x s) 0 ≡ false → StepFrom t bits ls s (shown t ls x s (code_of bits s))
  unfolding shown outputs_text
  one-step x s l some =
      let n = next_one t sound x s some in
      record {
        x = x;
        named = n.1;
        within = n.0;
        code = code-after t bits ls x s (state_after t x s) (agree x s l) some n.1;
        outputs = refl;
        agrees = agree x s l;
      }

  -- from any state and its code, whatever the lines
  pub run-steps : (done s : ℕ) → s < t.head.states → (lines : List (List ℕ)) → Steps t bits ls s (run_from t ls done s (code_of bits s) lines)
  unfolding run_from run_end shown
  run-steps done s l [] = tt
  run-steps done s l ([] ∷ []) = tt
  run-steps done s l ((x ∷ xs) ∷ []) = tt
  run-steps done s l (line ∷ (m ∷ ms)) = go (vector_line t.head done line) (λ u h. run-steps (done + 1) u h (m ∷ ms))
    where
      go : (v : Result ℕ Refusal) → ((u : ℕ) → u < t.head.states → Steps t bits ls u (run_from t ls (done + 1) u (code_of bits u) (m ∷ ms))) → Steps t bits ls s
          (elim v [
            | Err r ↦ stopped r (done + 2)
            | Ok x ↦ elim (eqb (next_means t x s) 0) [
              | true ↦ stopped NoNext (done + 2)
              | false ↦ steps (shown t ls x s (code_of bits s)) (run_from t ls (done + 1) (state_after t x s) (code_after ls t.head x (code_of bits s)) (m ∷ ms))
            ]
          ])
      go (Err r) later = tt
      go (Ok x) later = named (eqb (next_means t x s) 0) refl
        where
          named : (b : Bool) → eqb (next_means t x s) 0 ≡ b → Steps t bits ls s
              (elim b [
                | true ↦ stopped NoNext (done + 2)
                | false ↦ steps (shown t ls x s (code_of bits s)) (run_from t ls (done + 1) (state_after t x s) (code_after ls t.head x (code_of bits s)) (m ∷ ms))
              ])
          named true e = tt
          named false e =
              let p = one-step x s l e in
              (p, subst (λ (c : List ℕ). Steps t bits ls (state_after t x s) (run_from t ls (done + 1) (state_after t x s) c (m ∷ ms))) (sym p.code) (later (state_after t x s) p.within))

  pub run-whole : (lines : List (List ℕ)) → Whole t bits ls (run_of t bits ls lines)
  unfolding run_of
  run-whole [] = inl (BadLine, refl)
  run-whole (l ∷ []) = inl (BadLine, refl)
  run-whole (l ∷ (m ∷ ms)) = go (start_line t.head l) refl
    where
      go : (v : Result StateNumber Refusal) → start_line t.head l ≡ v
          → Whole t bits ls (elim v [ Err r ↦ stopped r 1 | Ok s ↦ run_from t ls 0 s.0 (code_of bits s.0) (m ∷ ms) ])
      go (Err r) e = inl (r, refl)
      go (Ok s) e = inr (s.0, start-below t.head l e, run-steps 0 s.0 (start-below t.head l e) (m ∷ ms))

-- ---- the reply

-- what is said of a listing that is read and coded
abbrev replied : List ℕ → Reading → Reply
replied run r = on_reading r (λ t. replay_of t (coding t) run)

abbrev cover-replied : Reading → Reply
cover-replied r = on_reading r (λ t. cover_of t (coding t))

reply : (s run : List ℕ) → replay_reply s run ≡ replied run (reading s)
unfolding replay_reply
reply s run = refl

cover-reply : (s : List ℕ) → cover_reply s ≡ cover-replied (reading s)
unfolding cover_reply
cover-reply s = refl

-- where a replay says a text, the listing has a cover, and the replay goes by its text
by-cover : (t : Listing) (g : Coding) (run text : List ℕ) → replay_of t g run ≡ says text → (c : Code) × (g ≡ coded c) × ((cover : List ℕ) × (cover_of t g ≡ says cover) × (text ≡ replay t c.bits cover run))
unfolding replay_of
by-cover t (coded c) run text e = go (cover_of t (coded c)) refl e
  where
    go : (q : Reply) → cover_of t (coded c) ≡ q → elim q [ says cover ↦ says (replay t c.bits cover run) | refuses r k ↦ refuses r k ] ≡ says text
        → (d : Code) × (coded c ≡ coded d) × ((cover : List ℕ) × (cover_of t (coded c) ≡ says cover) × (text ≡ replay t d.bits cover run))
    go (says cover) q e = (c, refl, (cover, q, sym (says_same (replay t c.bits cover run) text e)))
    go (refuses r k) q e = absurd (says-not r k text e)
by-cover t (uncoded r) run text e = absurd (says-not r 0 text e)

coded-same : (c d : Code) → coded c ≡ coded d → c ≡ d
coded-same c d e = cc

of-reading : (s run text : List ℕ) (r : Reading) → reading s ≡ r → replied run r ≡ says text → Replayed s run text
unfolding replay
of-reading s run text (Ok t) a e =
    let b = by-cover t (coding t) run text e in
    let covered : cover_reply s ≡ says b.2.0 = cover-reply s ∙ ap cover-replied a ∙ b.2.1 in
    let w = written s b.2.0 covered in
    let here : t ≡ w.listing = same-accepted (sym a ∙ w.accepted) in
    let same : b.0 ≡ w.code = coded-same b.0 w.code (sym b.1 ∙ ap coding here ∙ w.built) in
    record {
      cover = b.2.0;
      covered = covered;
      writes = w;
      prints = b.2.2 ∙ ap₂ (λ (t : Listing) (c : Code). replay t c.bits b.2.0 run) here same;
      whole = run-whole w.listing w.code.bits (lines_of b.2.0) (accepted-sound s w.accepted) w.covers.agrees (lines_of run);
    }
of-reading s run text (Err why) a e = absurd (says-not why.refusal why.line text e)

-- whatever the bytes of the two texts
pub replayed : (s run text : List ℕ) → replay_reply s run ≡ says text → Replayed s run text
replayed s run text e = of-reading s run text (reading s) refl (sym (reply s run) ∙ e)
