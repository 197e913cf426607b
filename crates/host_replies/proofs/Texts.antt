-- What is written in a code of a sound listing is 01's text, within a bound, as are its lines; and a cover is withheld where 01 withholds it.
use mathlib.Core.Path.{◌≡◌, sym, ap, ◌∙◌}
use mathlib.Core.Bool.{Bool, true, cond}
use mathlib.Core.List.{List}
use Prim.Native.Nat.{ℕ, ◌≤◌}
use native.Mathlib.Omega.{arith}
use lib.Dec.{leb}
use lib.ListN.{length, take, length-take}
use lib.Seq.{take_all}
use Rattle.rules.specs.Limits.{most_asked, most_bits, most_lines}
use Rattle.rules.specs.Listing.{all_rows}
use Rattle.rules.specs.Requirements.{requirements, pairs_and_groups}
use Rattle.rules.specs.Code.{Code, coded, coding, unmet_from, unmet}
use Rattle.rules.specs.Report.{joined_lines}
use Rattle.rules.specs.Cover.{cover}
use Rattle.rules.specs.Answers.{says, refuses, report_of, cover_of, report_reply}
use Rattle.rules.specs.Widths.{widths}
use Rattle.rules.specs.declared.Listing.{Listing}
use Rattle.rules.specs.declared.Encoding.{Encoding}
use Rattle.rules.specs.declared.Refusal.TheVariants.{Unmet}
use Rattle.rules.proofs.AllRows.{all-few}
use Rattle.rules.proofs.Parts.{AllFit}
use Rattle.rules.proofs.Good.{AllGood, requirements-good}
use Rattle.rules.proofs.Most.{most-requirements}
use Rattle.code_fair.specs.Fair.{fair}
use Rattle.code_fair.proofs.FairListings.{sound-fair}
use Rattle.families.specs.Families.{requirements_in}
use Rattle.code_drawing.specs.Drawing.{first_families, all_families}
use Rattle.code_drawing.proofs.Requirements.{all_are}
use Rattle.code_drawing.proofs.Whole.{few-all}
use Rattle.code_judging.specs.Judging.{any_unmet}
use Rattle.code_judging.proofs.Judgement.{same-judged}
use Rattle.write_parts.specs.Parts.{longest_line}
use Rattle.write_report.specs.Report.{most_words, first_of, encoded_report}
use Rattle.write_report.proofs.Same.{same-report}
use Rattle.write_report.proofs.Length.{report-fit, report-length, unmet-few}
use Rattle.write_widths.specs.Widths.{encoded_widths}
use Rattle.write_widths.proofs.Same.{widths-length, widths-fit}
use Rattle.write_cover.specs.Covers.{Bounded}
use Rattle.write_cover.proofs.Whole.{cover-bounded}
use Rattle.write_cover.proofs.Length.{cover-length, cover-fit}
use Rattle.write_texts.specs.Texts.{text_lines}
use Rattle.write_texts.specs.declared.Text.{Text}
use Rattle.host_replies.specs.Ready.{longest}
use Rattle.host_replies.proofs.Encodings.{Whole}
use Rattle.host_replies.proofs.Widths.{text-is}

module _ (t : Listing) (c : Code) (e : Encoding) (w : Whole t c e) where
  is-fair : fair t ≡ true
  is-fair = sound-fair t w.sound

  good : AllGood t.head.states (requirements t)
  good = requirements-good t w.sound

  few-asked : length (requirements t) ≤ most_asked
  few-asked = most-requirements t w.sound

  few-first : length (requirements_in (first_of (all_families t))) ≤ most_asked
  few-first =
      omega (arith, few-asked, ap length (ap requirements_in (take_all most_words (all_families t) (few-all t w.sound.table w.sound.asked)) ∙ all_are t is-fair))

  few-unmet : length (unmet t c.bits) ≤ most_asked
  unfolding unmet
  few-unmet = omega (arith, few-asked, unmet-few 0 t.head.states c.bits (requirements t))

  -- ---- the report

  asked : e.asked ≤ most_asked
  asked = omega (arith, few-asked, w.holds.asked)

  left : e.unmet ≤ most_asked
  left = omega (arith, few-unmet, w.holds.unmet)

  pub report-few : length (joined_lines (text_lines Text.Report t e)) ≤ longest
  unfolding text_lines encoded_report
  report-few = report-length t.head.states (all_families t) e w.sound.head.few-states few-first w.narrow asked left w.few-passes w.few-looks

  pub report-fits : AllFit longest_line (text_lines Text.Report t e)
  unfolding text_lines
  report-fits = report-fit t.head.states (all_families t) e w.sound.head.few-states few-first w.narrow asked left w.few-passes w.few-looks

  pub report-said : says (joined_lines (text_lines Text.Report t e)) ≡ report_of t (coded c)
  unfolding text_lines encoded_report report_reply
  report-said = ap says (same-report t is-fair good w.sound.table w.sound.asked c e w.holds)

  -- ---- the cover

  bounded : Bounded t.head
  bounded = record { inputs = w.sound.head.few-inputs; outputs = w.sound.head.few-outputs }

  cover-text : joined_lines (text_lines Text.Cover t e) ≡ cover t (take e.width e.bits)
  unfolding text_lines cover
  cover-text = ap joined_lines (cover-bounded t (take e.width e.bits) bounded)

  short : length (all_rows t) ≤ most_lines
  short = all-few t w.sound

  thin : length (take e.width e.bits) ≤ most_bits
  thin = omega (arith, length-take e.width e.bits, w.narrow)

  pub cover-few : length (joined_lines (text_lines Text.Cover t e)) ≤ longest
  cover-few = omega (arith, ap length cover-text, cover-length t (take e.width e.bits) bounded short thin)

  pub cover-fits : AllFit longest_line (text_lines Text.Cover t e)
  unfolding text_lines
  cover-fits = rw (cover-bounded t (take e.width e.bits) bounded) (cover-fit t (take e.width e.bits) bounded short thin)

  abbrev unmetFirst : ℕ
  unmetFirst = length (unmet_from 0 t.head.states (take e.width e.bits) (pairs_and_groups t))

  cover-as : (b : Bool) → leb 1 unmetFirst ≡ b → cover_of t (coded c) ≡ cond b (refuses Unmet 0) (says (cover t (take e.width e.bits)))
  unfolding cover_of
  cover-as b q =
      ap (λ (x : List ℕ). cond (leb 1 (length (unmet_from 0 t.head.states x (pairs_and_groups t)))) (refuses Unmet 0) (says (cover t x))) (sym w.holds.bits)
      ∙ ap (λ (x : Bool). cond x (refuses Unmet 0) (says (cover t (take e.width e.bits)))) q

  -- by whether a pair or a group requirement is unmet
  pub cover-said : (b : Bool) → any_unmet (first_families t) e ≡ b → cond b (refuses Unmet 0) (says (joined_lines (text_lines Text.Cover t e))) ≡ cover_of t (coded c)
  cover-said b q = ap (λ (x : List ℕ). cond b (refuses Unmet 0) (says x)) cover-text ∙ sym (cover-as b (sym (same-judged t is-fair good e) ∙ q))

  -- ---- what each width buys

  pub widths-few : length (joined_lines (text_lines Text.Widths t e)) ≤ longest
  unfolding text_lines encoded_widths
  widths-few = omega (arith, widths-length (all_families t) (length (first_families t)) e w.narrow few-first)

  pub widths-fits : AllFit longest_line (text_lines Text.Widths t e)
  unfolding text_lines
  widths-fits = widths-fit (all_families t) (length (first_families t)) e w.narrow few-first

  pub widths-said : coding t ≡ coded c → t.head.width ≡ most_bits → joined_lines (text_lines Text.Widths t e) ≡ widths t
  unfolding text_lines encoded_widths
  widths-said is wide = text-is t c e w is wide
