-- What was read, with its rows looked at: a refused listing is blank, and one that is not refused stands.
use mathlib.Core.Path.{◌≡◌, refl, sym, ap, ◌∙◌}
use mathlib.Core.Bool.{true, false, true≢false, false≢true}
use Rattle.std.specs.Prelude.{Ok, Err}
use Rattle.std.specs.Result.{is_err}
use Rattle.rules.specs.Refusals.{Verdict}
use Rattle.rules.specs.Listing.{blank, rows_of, or_else, conflict, judged, checked, Reading}
use Rattle.rules.specs.declared.Listing.{Listing}
use Rattle.read_answers.specs.Lent.{lent}
use Rattle.rules.specs.declared.Refused.{Refused}

-- the reader's refusal comes before the clash
judged-checked : (said : Verdict) (t : Listing) → judged (or_else said (conflict (rows_of t))) t ≡ checked (judged said t)
judged-checked (Ok tt) t = refl
judged-checked (Err why) t = refl

blank-judged : (v : Verdict) (t : Listing) → is_err v ≡ true → (v, blank) ≡ lent (judged v t)
unfolding lent
blank-judged (Ok tt) t h = absurd (false≢true h)
blank-judged (Err why) t h = refl

kept-judged : (v : Verdict) (t : Listing) → is_err v ≡ false → (v, t) ≡ lent (judged v t)
unfolding lent
kept-judged (Ok tt) t h = refl
kept-judged (Err why) t h = absurd (true≢false h)

module _ (said : Verdict) (t : Listing) {v : Verdict} (e : v ≡ or_else said (conflict (rows_of t))) where
  same : lent (judged v t) ≡ lent (checked (judged said t))
  same = ap (λ (u : Verdict). lent (judged u t)) e ∙ ap lent (judged-checked said t)

  pub settled-blank : {b : Listing} → is_err v ≡ true → b ≡ blank → (v, b) ≡ lent (checked (judged said t))
  settled-blank h n = ap (λ (u : Listing). (v, u)) n ∙ blank-judged v t h ∙ same

  pub settled-kept : is_err v ≡ false → (v, t) ≡ lent (checked (judged said t))
  settled-kept h = kept-judged v t h ∙ same

-- ---- of a reading as one value

module _ {r : Reading} where
  pub refused-checked : {why : Refused} → r ≡ Err why → Err why ≡ checked r
  refused-checked e = sym (ap checked e)

  module _ {t : Listing} (e : r ≡ Ok t) where
    pub clash-checked : {why : Refused} → Err why ≡ conflict (rows_of t) → Err why ≡ checked r
    clash-checked h = sym (ap checked e ∙ ap (λ (v : Verdict). judged v t) (sym h))

    pub clear-checked : ◌≡◌ {A = Verdict} (Ok tt) (conflict (rows_of t)) → Ok t ≡ checked r
    clear-checked h = sym (ap checked e ∙ ap (λ (v : Verdict). judged v t) (sym h))

-- ---- a reading in two parts is the reading

pub lent-judged : {v : Verdict} {t : Listing} {r : Reading} → (v, t) ≡ lent r → judged v t ≡ r
unfolding lent
lent-judged {v} {t} {r} e = ap (λ (p : Verdict × Listing). judged p.0 p.1) e ∙ go r
  where
    go : (r : Reading) → judged (lent r).0 (lent r).1 ≡ r
    go (Ok t) = refl
    go (Err why) = refl
