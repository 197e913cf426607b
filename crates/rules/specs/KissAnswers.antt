-- 02, request 01: what is answered for a KISS2 text: the report and the cover of the listing so made, that listing, and the names of its states.
use Rattle.std.specs.Prelude.{List, [], ◌∷◌, ℕ, ◌+◌}
use Rattle.rules.specs.Text.{split, lines_of}
use Rattle.rules.specs.Code.{coding}
use Rattle.rules.specs.ListingText.{listing_text}
use Rattle.rules.specs.NamesText.{names_text}
use Rattle.rules.specs.Kiss.{Draft, no_draft, goes, ends, stops, kiss_step, kiss_reading}
use Rattle.rules.specs.Answers.{Reply, says, report_of, cover_of, on_reading}

unfoldable pub kiss_report_reply : List ℕ → Reply
unfolding kiss_reading coding
kiss_report_reply s = on_reading (kiss_reading s) (λ t. report_of t (coding t))

unfoldable pub kiss_cover_reply : List ℕ → Reply
unfolding kiss_reading coding cover_of
kiss_cover_reply s = on_reading (kiss_reading s) (λ t. cover_of t (coding t))

-- the names, in the order of their numbers, when the lines from number k on are read behind those that made d; none where the text does not end
unfoldable pub names_from : ℕ → Draft → List (List ℕ) → List (List ℕ)
unfolding kiss_step
names_from k d [] = []
names_from k d (l ∷ []) = []
names_from k d (l ∷ (m ∷ ms)) = elim (kiss_step k d l) [ goes u ↦ names_from (k + 1) u (m ∷ ms) | ends ↦ d.names | stops r ↦ [] ]

unfoldable pub kiss_names : List ℕ → List (List ℕ)
unfolding split names_from no_draft
kiss_names s = names_from 1 no_draft (lines_of s)

unfoldable pub kiss_names_reply : List ℕ → Reply
unfolding kiss_reading kiss_names names_text
kiss_names_reply s = on_reading (kiss_reading s) (λ t. says (names_text (kiss_names s)))

-- the listing so made, as text: nothing is coded
unfoldable pub kiss_listing_reply : List ℕ → Reply
unfolding kiss_reading listing_text
kiss_listing_reply s = on_reading (kiss_reading s) (λ t. says (listing_text t))
