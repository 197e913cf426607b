-- What is said of a small machine, whatever the bytes: the report of its least code, in which nothing is unmet, and the cover in that code, which is a cover of
-- the listing and is never refused 9.
use mathlib.Core.Path.{◌≡◌, refl, sym, subst, ap, ◌∙◌}
use mathlib.Core.Bool.{Bool, true, false, ◌&&◌, cond}
use mathlib.Core.List.{List}
use Prim.Native.Nat.{ℕ}
use lib.Dec.{leb}
use lib.ListN.{length}
use Rattle.rules.specs.Limits.{most_bytes}
use Rattle.rules.specs.Text.{lines_of}
use Rattle.rules.specs.Listing.{dichotomies_of, complete, reading, Reading}
use Rattle.rules.specs.Requirements.{pairs_and_groups, requirements}
use Rattle.rules.specs.Code.{Code, coded, unmet}
use Rattle.rules.specs.Report.{report}
use Rattle.rules.specs.Cover.{cover}
use Rattle.rules.specs.Answers.{says, refuses, report_of, cover_of, on_reading}
use Rattle.rules.specs.Least.{least_coding, begins_large, small_reading, least_reply, least_cover_reply}
use Rattle.rules.specs.declared.Listing.{Listing}
use Rattle.rules.specs.Refusals.{refused}
use Rattle.rules.specs.declared.Refusal.TheVariants.{Limit, Unmet}
use Rattle.rules.proofs.Unmet.{unmet-listed}
use Rattle.rules.proofs.Granted.{all-met, none-unmet}
use Rattle.rules.proofs.Ended.{HasLine}
use Rattle.rules.proofs.Sound.{accepted-sound, accepted-complete}
use Rattle.rules.proofs.Sharing.{accepted-apart}
use Rattle.rules.proofs.Written.{CoverOf, says-not, of-coding}
use Rattle.rules.proofs.Reported.{Tells, un_text, report-tells, of-coding as of-report}
use Rattle.rules.proofs.Least.{LeastCoded, least-coded}
use Rattle.std.specs.Prelude.{Ok, Err}
use Rattle.rules.proofs.Ways.{not-accepted}
use mathlib.Core.List.Memᴰ

-- ---- the reading

module _ (s : List ℕ) where
  -- a small machine that is accepted is read as any other
  pub small-reading : {t : Listing} → small_reading s ≡ Ok t → reading s ≡ Ok t
  unfolding small_reading
  small-reading {t} a = go (leb (length s) most_bytes && begins_large (lines_of s)) a
    where
      go : (b : Bool) → ◌≡◌ {A = Reading} (cond b (refused Limit 1) (reading s)) (Ok t) → reading s ≡ Ok t
      go true q = absurd (not-accepted q)
      go false q = q

-- ---- the report

-- the listing is accepted and its least code found, and text is the report of that code, in which no requirement is unmet
pub record LeastReported (r : Reading) (text : List ℕ) : Type 0 where
  pub listing : Listing
  pub accepted : r ≡ Ok listing
  pub code : Code
  pub found : least_coding listing ≡ coded code
  pub least : LeastCoded listing code
  pub is : text ≡ report listing code
  pub tells : Tells listing.head.states code.bits (requirements listing) text
  pub none-unmet : (k : ℕ) → HasLine text (un_text k) → ⊥

of-reported : (r : Reading) (text : List ℕ) → on_reading r (λ t. report_of t (least_coding t)) ≡ says text → LeastReported r text
unfolding unmet
of-reported (Ok t) text e =
    let w = of-report t (least_coding t) text e in
    let l = least-coded t w.0 w.1 in
    let tells = subst (Tells t.head.states w.0.bits (requirements t)) (sym w.2) (report-tells t w.0) in
    record {
      listing = t;
      accepted = refl;
      code = w.0;
      found = w.1;
      least = l;
      is = w.2;
      tells = tells;
      none-unmet = λ k h. Memᴰ.not-nil (rw l.all-met at ((unmet-listed t.head.states w.0.bits (requirements t) k).1 ((tells.un k).0 h)));
    }
of-reported (Err why) text e = absurd (says-not why.refusal why.line text e)

pub least-reported : (s text : List ℕ) → least_reply s ≡ says text → LeastReported (small_reading s) text
unfolding least_reply
least-reported s text e = of-reported (small_reading s) text e

-- ---- the cover

-- the same, and text is a cover of the listing by the bits of that code
pub record LeastWritten (r : Reading) (text : List ℕ) : Type 0 where
  pub listing : Listing
  pub accepted : r ≡ Ok listing
  pub each-state : complete listing.head listing.given ≡ true
  pub code : Code
  pub found : least_coding listing ≡ coded code
  pub least : LeastCoded listing code
  pub covers : CoverOf listing code.bits text

of-written : (s text : List ℕ) (r : Reading) → small_reading s ≡ r → on_reading r (λ t. cover_of t (least_coding t)) ≡ says text → LeastWritten r text
of-written s text (Ok t) a e =
    let read = small-reading s a in
    let w = of-coding t (least_coding t) text (accepted-sound s read) (accepted-apart s read) e in
    record { listing = t; accepted = refl; each-state = accepted-complete s read; code = w.0; found = w.1; least = least-coded t w.0 w.1; covers = w.2 }
of-written s text (Err why) a e = absurd (says-not why.refusal why.line text e)

pub least-written : (s text : List ℕ) → least_cover_reply s ≡ says text → LeastWritten (small_reading s) text
unfolding least_cover_reply
least-written s text e = of-written s text (small_reading s) refl e

-- ---- it is never refused 9

pub least-covered : (t : Listing) (c : Code) → least_coding t ≡ coded c → cover_of t (least_coding t) ≡ says (cover t c.bits)
unfolding cover_of unmet requirements
least-covered t c e =
    ap (cover_of t) e
    ∙ ap (λ (l : List ℕ). cond (leb 1 (length l)) (refuses Unmet 0) (says (cover t c.bits)))
    (none-unmet 0 t.head.states c.bits (pairs_and_groups t)
    (λ r m. all-met 0 t.head.states c.bits (requirements t) (least-coded t c e).all-met r (Memᴰ.append_left (dichotomies_of t) m)))
