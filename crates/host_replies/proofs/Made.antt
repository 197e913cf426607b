-- What the steps give one after the other is what the bytes are ready for.
use mathlib.Core.Path.{◌≡◌, refl, ap, ◌∙◌}
use mathlib.Core.List.{List}
use Prim.Native.Nat.{ℕ}
use Rattle.rules.specs.Listing.{Reading}
use Rattle.rules.specs.declared.Listing.{Listing}
use Rattle.rules.specs.declared.Encoding.{Encoding}
use Rattle.write_texts.specs.Texts.{verdict_of}
use Rattle.host_replies.specs.Plans.{plan_of, reading_as, encoded_by}
use Rattle.host_replies.specs.Ready.{widened, ready_in, ready_with, ready_of, ready}
use Rattle.host_replies.specs.declared.Ready.{Ready}
use Rattle.host_replies.specs.declared.plans.Wanted.{Wanted}
use Rattle.host_replies.specs.declared.plans.Plan.{Plan}
use Rattle.rules.specs.Refusals.{Verdict}
use Rattle.rules.specs.declared.Refused.{Refused}
use Rattle.std.specs.Prelude.{Ok, Err, Result}

-- ---- a listing that is read, in the width that its text asks for

module _ (p : Plan) (t : Listing) where
  -- the encoder refuses
  pub not-coded : {why : Refused} → Err why ≡ encoded_by p.way t → Err why ≡ ready_with p.text t (encoded_by p.way t)
  unfolding ready_with
  not-coded e = ap (ready_with p.text t) e

  module _ {e : Encoding} (coded : Ok e ≡ encoded_by p.way t) where
    by-verdict : {v : Verdict} → v ≡ verdict_of p.text t e
        → elim v as (λ _. Result Ready Refused) [ Ok _ ↦ Ok (record { text = p.text; listing = t; encoding = e }) | Err why ↦ Err why ]
        ≡ ready_with p.text t (encoded_by p.way t)
    unfolding ready_with ready_in
    by-verdict g =
        ap (λ (v : Verdict). elim v as (λ _. Result Ready Refused) [ Ok _ ↦ Ok (record { text = p.text; listing = t; encoding = e }) | Err why ↦ Err why ]) g
        ∙ ap (ready_with p.text t) coded

    -- the text is withheld
    pub withheld : {why : Refused} → Err why ≡ verdict_of p.text t e → Err why ≡ ready_with p.text t (encoded_by p.way t)
    withheld g = by-verdict g

    pub made : ◌≡◌ {A = Verdict} (Ok tt) (verdict_of p.text t e) → Ok (record { text = p.text; listing = t; encoding = e }) ≡ ready_with p.text t (encoded_by p.way t)
    made g = by-verdict g

-- ---- any bytes

-- coded, or refused by the reader
abbrev by-reading : Plan → Reading → Result Ready Refused
by-reading p (Ok t) = ready_with p.text t (encoded_by p.way t)
by-reading p (Err why) = Err why

wide-ready : (p : Plan) (r : Reading) → by-reading p (widened p.text r) ≡ ready_of p r
unfolding ready_of widened
wide-ready p (Ok r) = refl
wide-ready p (Err why) = refl

module _ (w : Wanted) (s : List ℕ) {p : Plan} (h : p ≡ plan_of w) where
  pub by-plan : {r : Reading} → r ≡ widened p.text (reading_as p.form s) → by-reading p r ≡ ready w s
  unfolding ready
  by-plan {r} e = ap (by-reading p) e ∙ wide-ready p (reading_as p.form s) ∙ ap (λ (q : Plan). ready_of q (reading_as q.form s)) h

  -- the reader refuses
  pub not-read : {why : Refused} → Err why ≡ widened p.text (reading_as p.form s) → Err why ≡ ready w s
  not-read e = by-plan e

  -- what is read is coded, or refused
  pub steps : {t : Listing} → Ok t ≡ widened p.text (reading_as p.form s) → {d : Result Ready Refused} → d ≡ ready_with p.text t (encoded_by p.way t) → d ≡ ready w s
  steps e {d} c = c ∙ by-plan e
