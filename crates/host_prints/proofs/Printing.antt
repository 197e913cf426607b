-- What is printed is the reply, in parts: a refusal's line, or the lines of the text; parts of a buffer that holds the longest line are the whole.
use mathlib.Core.Path.{◌≡◌, refl, sym, ap, ap₂, subst, ◌∙◌}
use mathlib.Core.Bool.{Bool, true, false}
use mathlib.Core.List.{List, [], ◌∷◌, ◌++◌, append-nil}
use Prim.Native.Nat.{ℕ, ◌+◌, ◌^◌, ◌≤◌, ◌<◌}
use native.Mathlib.Omega.{arith}
use lib.ListN.{length, drop, length-append, length-drop}
use Rattle.rules.specs.Report.{joined_lines}
use Rattle.rules.specs.Answers.{Reply, says, refuses, printed}
use Rattle.rules.specs.Parts.{whole_lines, part, gathered}
use Rattle.rules.specs.declared.Refusal.{Refusal}
use Rattle.rules.proofs.Ended.{no-piece, piece}
use Rattle.rules.proofs.Parts.{whole-front, part-fits, AllFit, fit_none, fit-more, gathered-all}
use Rattle.rules.proofs.ReportLines.{refused-ended}
use Rattle.write_parts.specs.Parts.{begun, added, added_all, longest_line}
use Rattle.write_parts.proofs.Adding.{Lent, all_one}
use Rattle.write_parts.proofs.Parted.{Made, made}
use Rattle.write_refusal.proofs.Refused.{refusal-length}
use Rattle.host_replies.specs.Ready.{ready, lines_of, reply_of, longest}
use Rattle.host_replies.specs.Saying.{reply_to}
use Rattle.host_replies.specs.declared.Ready.{Ready}
use Rattle.host_replies.specs.declared.plans.Wanted.{Wanted}
use Rattle.host_replies.proofs.Replies.{Small, reply-is, reply-small, reply-fits}
use Rattle.host_replies.proofs.Sayings.{ready-pieces}
use Rattle.host_prints.specs.Printing.{ready_for, printing}
use Rattle.rules.specs.declared.Refused.{Refused}
use Rattle.std.specs.Prelude.{Ok, Err, Result}

-- ---- what is printed of any value that is ready

-- the part of a text that has room, the rest of the buffer as it came
abbrev placed : List ℕ → ℕ → List ℕ → ℕ × List ℕ
placed text from out = let given : List ℕ = part (length out) from text in (length given, given ++ drop (length given) out)

module _ {ready : Result Ready Refused} where
  pub refused-printed : {why : Refused} → ready ≡ Err why → (from : ℕ) (out : List ℕ) (s : Lent) → s ≡ added (printed (refuses why.refusal why.line)) (begun from, out)
      → (s.0.given, s.1) ≡ printing (reply_of ready) from out
  unfolding printing joined_lines reply_of
  refused-printed {why} h from out s e =
      let l : List ℕ = printed (refuses why.refusal why.line) in
      let m : Made (joined_lines (l ∷ [])) from out s = rw (e, ← all_one l (begun from, out)) (made (l ∷ []) (piece (refused-ended why.refusal why.line) no-piece) from out) in
      rw h (ap₂ (λ (n : ℕ) (o : List ℕ). (n, o)) m.given m.holds ∙ ap (λ (text : List ℕ). placed text from out) (append-nil l))

  pub text-printed : {d : Ready} → ready ≡ Ok d → (from : ℕ) (out : List ℕ) (s : Lent) → s ≡ added_all (lines_of ready) (begun from, out)
      → (s.0.given, s.1) ≡ printing (reply_of ready) from out
  unfolding printing printed reply_of lines_of
  text-printed {d} h from out s e =
      let m : Made (joined_lines (lines_of ready)) from out s = rw e (made (lines_of ready) (ready-pieces ready) from out) in
      let same : printed (reply_of ready) ≡ joined_lines (lines_of ready) = rw h refl in
      ap₂ (λ (n : ℕ) (o : List ℕ). (n, o)) m.given m.holds ∙ ap (λ (text : List ℕ). placed text from out) (sym same)

-- no more than there is room for
pub printed-few : (reply : Reply) (from : ℕ) (out : List ℕ) (r : ℕ) (after : List ℕ) → ◌≡◌ {A = ℕ × List ℕ} (r, after) (printing reply from out) → length after ≡ length out → r ≤ length after
unfolding printing
printed-few reply from out r after e same = omega (arith, ap (λ (p : ℕ × List ℕ). p.0) e, part-fits (length out) from (printed reply))

text-short : (text : List ℕ) → length text ≤ longest → length (printed (says text)) < 2 ^ 64
unfolding printed
text-short text h = omega arith

-- and no more than is left
pub gets-further : (reply : Reply) (from : ℕ) (out : List ℕ) (r : ℕ) (after : List ℕ) → ◌≡◌ {A = ℕ × List ℕ} (r, after) (printing reply from out) → from ≤ length (printed reply)
    → from + r ≤ length (printed reply)
unfolding printing part
gets-further reply from out r after e h =
    let left : List ℕ = drop from (printed reply) in
    let given : List ℕ = whole_lines (length out) left in
    omega (
      arith,
      ap (λ (p : ℕ × List ℕ). p.0) e,
      length-drop from (printed reply),
      ap length (whole-front (length out) left),
      length-append given (drop (length given) left),
    )

-- what is printed of a listing is short
pub printed-short : (w : Wanted) (s : List ℕ) (more : Bool) → length (printed (reply_of (ready_for w s more))) < 2 ^ 64
unfolding ready_for reply_of
printed-short w s true = omega (arith, refusal-length 0 Refusal.Limit 0 (omega arith))
printed-short w s false = go (reply_of (ready w s)) (reply-small w s)
  where
    go : (x : Reply) → Small x → length (printed x) < 2 ^ 64
    go (says text) h = text-short text h
    go (refuses r k) h = omega (arith, refusal-length 4 r k h)

-- ---- parts with room for the longest line are the whole

fit-wider : {room wide : ℕ} {ls : List (List ℕ)} → room ≤ wide → AllFit room ls → AllFit wide ls
fit-wider h fit_none = fit_none
fit-wider h (fit-more {l = l} f fs) = fit-more {l = l} (omega arith) (fit-wider h fs)

module _ (w : Wanted) (s : List ℕ) (room : ℕ) (enough : longest_line ≤ room) where
  by-ready : (d : Result Ready Refused) → Small (reply_of d) → AllFit longest_line (lines_of d) → gathered room (length (printed (reply_of d))) (printed (reply_of d)) ≡ printed (reply_of d)
  unfolding printed joined_lines reply_of lines_of
  by-ready (Ok d) few fits = gathered-all room (lines_of (Ok d)) (ready-pieces (Ok d)) (fit-wider enough fits)
  by-ready (Err why) few fits =
      let l : List ℕ = printed (refuses why.refusal why.line) in
      subst (λ (t : List ℕ). gathered room (length t) t ≡ t) (append-nil l)
      (gathered-all room (l ∷ []) (piece (refused-ended why.refusal why.line) no-piece) (fit-more {l = l} (omega (arith, refusal-length 4 why.refusal why.line few)) fit_none))

  -- a program that prints parts until none is given prints the reply, byte for byte
  pub parts-are-all : gathered room (length (printed (reply_to w s))) (printed (reply_to w s)) ≡ printed (reply_to w s)
  parts-are-all = subst (λ (x : Reply). gathered room (length (printed x)) (printed x) ≡ printed x) (reply-is w s) (by-ready (ready w s) (reply-small w s) (reply-fits w s))
