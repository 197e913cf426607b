-- The reply to the names of a KISS2 text, by what was read of it; and it is small.
use mathlib.Core.Path.{◌≡◌, refl, sym, ap, ap₂, ◌∙◌}
use mathlib.Core.List.{List}
use Prim.Native.Nat.{ℕ, ◌≤◌, ◌<◌}
use native.Mathlib.Omega.{arith}
use borrow.Author.Tests.{le-leb, lt-leb}
use lib.ListN.{length}
use Rattle.rules.specs.Answers.{Reply, says, refuses, on_reading}
use Rattle.rules.specs.NamesText.{names_text}
use Rattle.rules.specs.Kiss.{kiss_reading}
use Rattle.rules.specs.KissAnswers.{kiss_names, kiss_names_reply}
use Rattle.rules.specs.declared.Refusal.TheVariants.{NoRoom}
use Rattle.rules.proofs.KissSound.{kiss-line}
use Rattle.rules.proofs.KissNamed.{kiss-names-few}
use Rattle.read_names.specs.Names.{names_in}
use Rattle.read_names.specs.declared.Names.{Names}
use Rattle.read_kiss.specs.Walks.{verdict_of, NamedBy}
use Rattle.write_pen.specs.Pen.{Wrote}
use Rattle.write_pen.proofs.Laws.{wrote-all, wrote-length}
use Rattle.host_replies.specs.Saying.{saying}
use Rattle.host_replies.proofs.Replies.{Small}
use Rattle.rules.specs.Refusals.{Verdict, refused}
use Rattle.rules.specs.Listing.{Reading}
use Rattle.rules.specs.declared.Refused.{Refused}
use Rattle.std.specs.Prelude.{Ok, Err}

-- ---- by what was read

module _ (s : List ℕ) where
  -- the reply, by what the verdict on the text is
  abbrev by-verdict : Verdict → Reply
  by-verdict v = elim v [ Ok _ ↦ says (names_text (kiss_names s)) | Err why ↦ refuses why.refusal why.line ]

  on-verdict : (r : Reading) → on_reading r (λ t. says (names_text (kiss_names s))) ≡ by-verdict (verdict_of r)
  on-verdict (Ok t) = refl
  on-verdict (Err why) = refl

  pub names-refused : {why : Refused} → NamedBy s (Err why) → kiss_names_reply s ≡ refuses why.refusal why.line
  unfolding kiss_names_reply
  names-refused n = on-verdict (kiss_reading s) ∙ ap by-verdict (sym n.verdict)

  pub names-accepted : {ns : Names} → NamedBy s (Ok ns) → kiss_names_reply s ≡ says (names_text (names_in s ns))
  unfolding kiss_names_reply
  names-accepted n = on-verdict (kiss_reading s) ∙ ap by-verdict (sym n.verdict) ∙ ap (λ (l : List (List ℕ)). says (names_text l)) (sym n.names)

  pub names-few : {ns : Names} → NamedBy s (Ok ns) → length (names_text (names_in s ns)) ≤ 2435
  names-few {ns} n = go (kiss_reading s) refl n.verdict
    where
      go : (r : Reading) → kiss_reading s ≡ r → Ok tt ≡ verdict_of r → length (names_text (names_in s ns)) ≤ 2435
      go (Ok t) e h = rw n.names (kiss-names-few s e)
      go (Err why) e h = absurd cc

  pub names-small : Small (kiss_names_reply s)
  unfolding kiss_names_reply
  names-small = go (kiss_reading s) refl
    where
      go : (r : Reading) → kiss_reading s ≡ r → Small (on_reading r (λ t. says (names_text (kiss_names s))))
      go (Ok t) e = omega (arith, kiss-names-few s e)
      go (Err why) e = kiss-line s why.refusal why.line e

-- ---- the whole text, or 10

module _ (text : List ℕ) (few : length text ≤ 2435) {d e : List ℕ} {n : ℕ} (m : Wrote d 0 text n e) (out : List ℕ) where
  measured : n ≡ length text
  measured = wrote-length m (omega arith)

  pub no-space : length out < n → (refused NoRoom 0, out) ≡ saying (says text) out
  unfolding saying
  no-space h = rw (lt-leb (length text) (length out) (omega (arith, measured)))

  pub whole-said : n ≤ length out → {r : ℕ} {after : List ℕ} → Wrote out 0 text r after → (Ok r, after) ≡ saying (says text) out
  unfolding saying
  whole-said h {r} {after} w =
      let fits : length text ≤ length out = omega (arith, measured) in
      ap₂ (λ (k : ℕ) (o : List ℕ). (Ok k, o)) (wrote-length w (omega arith)) (wrote-all w fits) ∙ sym (rw (le-leb (length text) (length out) fits))
