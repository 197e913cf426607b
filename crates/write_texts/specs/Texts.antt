-- What is written of a listing and of what the encoder answered for it, by which text it is.
use Rattle.std.specs.Prelude.{cond, List, ℕ, length, take, Ok}
use Rattle.rules.specs.declared.Listing.{Listing}
use Rattle.rules.specs.declared.Encoding.{Encoding}
use Rattle.rules.specs.Refusals.{Verdict, refused}
use Rattle.rules.specs.declared.Refusal.TheVariants.{Unmet}
use Rattle.code_drawing.specs.Drawing.{first_families, all_families}
use Rattle.code_judging.specs.Judging.{any_unmet}
use Rattle.write_report.specs.Report.{encoded_lines as report_lines}
use Rattle.write_widths.specs.Widths.{encoded_lines as width_lines}
use Rattle.write_cover.specs.Covers.{lines_within}
use Rattle.write_listing.specs.Listings.{lines_within as listing_lines}
use Rattle.write_texts.specs.declared.Text.{Text}

-- 9: a pair or group requirement is unmet
unfoldable pub cover_verdict : Listing → Encoding → Verdict
unfolding any_unmet first_families
cover_verdict t e = cond (any_unmet (first_families t) e) (refused Unmet 0) (Ok tt)

-- no other text is withheld
unfoldable pub verdict_of : Text → Listing → Encoding → Verdict
unfolding cover_verdict
verdict_of Text.Report t e = Ok tt
verdict_of Text.Cover t e = cover_verdict t e
verdict_of Text.Widths t e = Ok tt
verdict_of Text.Listing t e = Ok tt

unfoldable pub text_lines : Text → Listing → Encoding → List (List ℕ)
unfolding report_lines width_lines lines_within listing_lines first_families all_families
text_lines Text.Report t e = report_lines t.head.states (all_families t) e
text_lines Text.Cover t e = lines_within t (take e.width e.bits)
text_lines Text.Widths t e = width_lines (all_families t) (length (first_families t)) e
text_lines Text.Listing t e = listing_lines t
