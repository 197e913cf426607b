-- The report and the cover of a KISS2 text: all that is proved of a listing's holds of them, over the listing so made.
use mathlib.Core.Path.{◌≡◌, refl, sym, ◌∙◌}
use mathlib.Core.List.{List}
use Prim.Native.Nat.{ℕ}
use Rattle.rules.specs.Kiss.{kiss_reading}
use Rattle.rules.specs.Answers.{says}
use Rattle.rules.specs.KissAnswers.{kiss_report_reply, kiss_cover_reply}
use Rattle.rules.proofs.KissSound.{kiss-sound, kiss-complete, kiss-agrees}
use Rattle.rules.proofs.Reported.{Reported, replied as report-replied, of-reading as report-of-reading}
use Rattle.rules.proofs.Written.{Written, replied as cover-replied, of-reading as cover-of-reading}

report-reply : (s : List ℕ) → kiss_report_reply s ≡ report-replied (kiss_reading s)
unfolding kiss_report_reply report-replied
report-reply s = refl

cover-reply : (s : List ℕ) → kiss_cover_reply s ≡ cover-replied (kiss_reading s)
unfolding kiss_cover_reply cover-replied
cover-reply s = refl

pub kiss-reported : (s text : List ℕ) → kiss_report_reply s ≡ says text → Reported (kiss_reading s) text
kiss-reported s text e = report-of-reading (kiss_reading s) text (sym (report-reply s) ∙ e)

pub kiss-written : (s text : List ℕ) → kiss_cover_reply s ≡ says text → Written (kiss_reading s) text
kiss-written s text e = cover-of-reading (kiss_reading s) text (λ t a. (kiss-sound s a, kiss-complete s a, kiss-agrees s a)) (sym (cover-reply s) ∙ e)
