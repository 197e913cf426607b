-- What a listing is ready for, with a run, is the reply of 02; the replay is no longer than a bound; and pieces of a run print what the whole run does.
use Rattle.std.specs.Prelude.{Ok, Err, Result}
use mathlib.Core.Path.{◌≡◌, refl, sym, ap, subst, ◌∙◌}
use mathlib.Core.Bool.{Bool, true, false, cond}
use mathlib.Core.List.{List}
use Prim.Native.Nat.{ℕ, ◌≤◌, ◌<◌}
use native.Mathlib.Omega.{arith}
use lib.Dec.{leb}
use lib.ListN.{length, take, length-take}
use Rattle.rules.specs.Text.{lines_of}
use Rattle.rules.specs.Listing.{reading, Reading}
use Rattle.rules.specs.Requirements.{pairs_and_groups}
use Rattle.rules.specs.Code.{Code, Coding, coded, uncoded, coding, unmet_from}
use Rattle.rules.specs.Report.{joined_lines}
use Rattle.rules.specs.Cover.{cover}
use Rattle.rules.specs.Answers.{Reply, says, refuses, on_reading, cover_of}
use Rattle.rules.specs.Replay.{replay, replay_of, replay_reply}
use Rattle.rules.specs.declared.Listing.{Listing}
use Rattle.rules.specs.declared.Encoding.{Encoding}
use Rattle.rules.specs.Refusals.{Verdict, refused}
use Rattle.rules.specs.declared.Refused.{Refused}
use Rattle.rules.specs.declared.Refusal.TheVariants.{Unmet}
use Rattle.rules.proofs.Ways.{chose-second}
use Rattle.rules.proofs.Ended.{Pieces}
use Rattle.rules.proofs.Parts.{part-fits}
use Rattle.rules.proofs.Sound.{Sound, accepted-sound}
use Rattle.rules.proofs.Written.{says_same, says-not}
use Rattle.write_parts.specs.Parts.{begun, added_all}
use Rattle.write_parts.proofs.Adding.{Lent, all-length}
use Rattle.write_parts.proofs.Parted.{Made, made}
use Rattle.code_encoding.specs.Encode.{encoding_of, encoded_as, encoded}
use Rattle.code_drawing.specs.Drawing.{first_families}
use Rattle.code_judging.specs.Judging.{any_unmet}
use Rattle.write_texts.specs.Texts.{cover_verdict, verdict_of, text_lines}
use Rattle.write_texts.specs.declared.Text.{Text}
use Rattle.host_replies.specs.Plans.{plan_of, is_kiss, is_small, reading_as, width_for, encoded_by}
use Rattle.host_replies.specs.Ready.{ready_in, ready_with, ready_of, ready, reply_of}
use Rattle.host_replies.specs.declared.plans.Wanted.{Wanted}
use Rattle.host_replies.specs.declared.Ready.{Ready}
use Rattle.host_replies.proofs.Encodings.{Whole, whole-as, fair-encoded}
use Rattle.host_replies.proofs.Texts.{cover-said}
use Rattle.host_replies.proofs.Replies.{Small, reply-small}
use Rattle.run_replay.specs.Moves.{machines_of}
use Rattle.run_replay.specs.Places.{Course, course_of, ran_on}
use Rattle.run_replay.specs.declared.Machines.{Machines}
use Rattle.run_replay.specs.declared.Place.{Place}
use Rattle.run_replay.specs.declared.Ran.{Ran}
use Rattle.run_replay.proofs.Replies.{longest_run, all_whole, all_short, replay-is}
use Rattle.host_replay.specs.Replaying.{machines_in, replay_in, printing_piece}
use Rattle.host_replay.specs.declared.Printed.{Printed}

-- ---- what a run prints, of any machines

module _ (m : Machines) (p : Place) (run : List ℕ) where
  pub course-pieces : Pieces (course_of m p run).0
  unfolding course_of
  course-pieces = all_whole m.listing m.terms (take m.width m.bits) p (lines_of run)

pub course-few : (m : Machines) (run : List ℕ) → length (joined_lines (course_of m Place.First run).0) ≤ longest_run
unfolding course_of
course-few m run = (all_short m.listing m.terms (take m.width m.bits) Place.First tt (lines_of run)).long

-- what is added, and the place that is come to
module _ (g : Course) (a : Lent) {r : Ran} {out : List ℕ} (e : ◌≡◌ {A = Ran × List ℕ} (r, out) (ran_on g a)) where
  pub ran-part : ◌≡◌ {A = Lent} (r.part, out) (added_all g.0 a)
  unfolding ran_on
  ran-part = ap (λ (s : Ran × List ℕ). (s.0.part, s.1)) e

  pub ran-place : r.place ≡ g.1
  unfolding ran_on
  ran-place = ap (λ (s : Ran × List ℕ). s.0.place) e

-- what a piece prints
module _ (g : Course) (whole : Pieces g.0) (out : List ℕ) {s : Lent} (e : s ≡ added_all g.0 (begun 0, out)) where
  here : Made (joined_lines g.0) 0 out s
  here = rw e (made g.0 whole 0 out)

  pub piece-printed : {p : Place} → p ≡ g.1 → ◌≡◌ {A = Printed × List ℕ} (record { given = s.0.given; place = p }, s.1) (printing_piece g out)
  unfolding printing_piece
  piece-printed q = rw (q, here.given, here.holds)

  pub piece-fits : s.0.given ≤ length s.1
  piece-fits = omega (arith, here.given, part-fits (length out) 0 (joined_lines g.0), ap (λ (t : Lent). length t.1) e, all-length g.0 (begun 0, out))

-- ---- a listing that is ready

-- by its machines, however they were made
pub replay-said : (run : List ℕ) {x : Result Ready Refused} {d : Ready} → x ≡ Ok d → {m : Machines} → m ≡ machines_in d
    → replay_in x run ≡ says (joined_lines (course_of m Place.First run).0)
unfolding replay_in
replay-said run was made =
    ap (λ (x : Result Ready Refused). replay_in x run) was ∙ sym (ap (λ (m : Machines). says (joined_lines (course_of m Place.First run).0)) made)

-- ---- a listing that is accepted

-- where there is a cover its text is the cover
cover-is : (t : Listing) (c : Code) (text : List ℕ) → cover_of t (coded c) ≡ says text → cover t c.bits ≡ text
unfolding cover_of
cover-is t c text e =
    let un : List ℕ = unmet_from 0 t.head.states c.bits (pairs_and_groups t) in
    says_same (cover t c.bits) text (chose-second (leb 1 (length un)) e (says-not Unmet 0 text)).1

-- a cover that is withheld, or not
abbrev withheld-if : Listing → Encoding → Bool → Result Ready Refused
withheld-if t e b = elim (cond {A = Verdict} b (refused Unmet 0) (Ok tt)) [ Ok _ ↦ Ok (record { text = Text.Cover; listing = t; encoding = e }) | Err why ↦ Err why ]

module _ (t : Listing) (sound : Sound t) (run : List ℕ) where
  -- what is told by what an encoder gives
  abbrev told : Result Encoding Refused → Reply
  told a = replay_in (ready_with Text.Cover t a) run

  -- by the cover that there is or is not
  by-cover : (c : Code) (q : Reply) → cover_of t (coded c) ≡ q → replay_of t (coded c) run ≡ elim q [ says text ↦ says (replay t c.bits text run) | refuses r k ↦ refuses r k ]
  unfolding replay_of
  by-cover c q e = ap (λ (q : Reply). elim q as (λ x. Reply) [ says text ↦ says (replay t c.bits text run) | refuses r k ↦ refuses r k ]) e

  run-said : (c : Code) (e : Encoding) → Whole t c e → (text : List ℕ) → cover_of t (coded c) ≡ says text → joined_lines (course_of (machines_of t e.width e.bits) Place.First run).0 ≡ replay t c.bits text run
  unfolding course_of machines_of
  run-said c e w text h =
      let bits : List ℕ = take e.width e.bits in
      replay-is t bits run sound (omega (arith, length-take e.width e.bits, w.narrow))
      ∙ ap (λ (b : List ℕ). replay t b (cover t b) run) w.holds.bits
      ∙ ap (λ (x : List ℕ). replay t c.bits x run) (cover-is t c text h)

  in_code : (a : Coding) → coding t ≡ a → told (encoded_as t a) ≡ replay_of t a run
  unfolding encoded_as verdict_of cover_verdict ready_with ready_in replay_in machines_in replay_of
  in_code (uncoded r) q = refl
  in_code (coded c) q = go (any_unmet (first_families t) e) refl
    where
      e : Encoding
      e = encoding_of t c

      w : Whole t c e
      w = whole-as t sound c q

      go : (b : Bool) → any_unmet (first_families t) e ≡ b → replay_in (withheld-if t e b) run ≡ replay_of t (coded c) run
      go true h = sym (by-cover c (refuses Unmet 0) (sym (cover-said t c e w true h)))
      go false h =
          let text : List ℕ = joined_lines (text_lines Text.Cover t e) in
          let is : cover_of t (coded c) ≡ says text = sym (cover-said t c e w false h) in
          ap says (run-said c e w text is) ∙ sym (by-cover c (says text) is)

  accepted : told (encoded t) ≡ replay_of t (coding t) run
  accepted = ap told (fair-encoded t sound) ∙ in_code (coding t) refl

-- ---- any bytes

module _ (s run : List ℕ) where
  by-reading : (r : Reading) → reading s ≡ r → replay_in (ready_of (plan_of Wanted.Cover) r) run ≡ on_reading r (λ t. replay_of t (coding t) run)
  unfolding replay_in ready_of plan_of width_for encoded_by
  by-reading (Ok t) h = accepted t (accepted-sound s h) run
  by-reading (Err why) h = refl

  pub reply-is : replay_in (ready Wanted.Cover s) run ≡ replay_reply s run
  unfolding ready plan_of reading_as is_kiss is_small replay_reply
  reply-is = by-reading (reading s) refl

-- ---- how long what is said is

-- a replay within the bound, or a refusal at a line that a number can say
abbrev pub SmallRun : Reply → Type 0
SmallRun (says text) = length text ≤ longest_run
SmallRun (refuses r line) = line < 100000

pub replay-small : (s run : List ℕ) → SmallRun (replay_reply s run)
unfolding replay_in reply_of
replay-small s run = subst SmallRun (reply-is s run) (go (ready Wanted.Cover s) refl)
  where
    go : (d : Result Ready Refused) → ready Wanted.Cover s ≡ d → SmallRun (replay_in d run)
    go (Ok d) h = course-few (machines_in d) run
    go (Err why) h = subst Small (ap reply_of h) (reply-small Wanted.Cover s)
