-- What is said of a listing's text is what is said of the listing: the report, the cover and the widths, byte for byte. So a listing that was made from a text of
-- another form can be kept and read in its place.
use mathlib.Core.Path.{◌≡◌, refl, sym, ap, ap₂, ◌∙◌}
use mathlib.Core.Bool.{Bool, not, cond}
use mathlib.Core.List.{List, [], ◌∷◌, ◌++◌, map, append-nil}
use Prim.Native.Nat.{ℕ, ◌+◌}
use lib.Dec.{leb}
use lib.ListN.{length, take}
use Rattle.sets.specs.Sets.{states_from}
use Rattle.rules.specs.Limits.{most_bits}
use Rattle.rules.specs.Text.{bytes}
use Rattle.rules.specs.Listing.{rows_of, dichotomies_of, state_rows, all_rows, reading, Reading}
use Rattle.rules.specs.Requirements.{groups, pairs, pairs_and_groups, requirements}
use Rattle.rules.specs.Code.{Code, Coding, coded, uncoded, build, unmet_from, unmet, coding}
use Rattle.rules.specs.Report.{report_lines, report, joined_lines}
use Rattle.rules.specs.Cover.{printed_rows, counted_line, cover_lines, cover}
use Rattle.rules.specs.Answers.{Reply, says, refuses, report_of, cover_of, on_reading, report_reply, cover_reply}
use Rattle.rules.specs.Widths.{bits_of, covered, width_line, width_lines, widths, widths_reply}
use Rattle.rules.specs.ListingText.{listing_text, on_lines, rows_alone, renumbered}
use Rattle.rules.specs.declared.Head.{Head}
use Rattle.rules.specs.declared.Requirement.{Requirement}
use Rattle.rules.specs.declared.Row.{Row}
use Rattle.rules.specs.declared.Listing.{Listing}
use Rattle.rules.specs.declared.Refusal.TheVariants.{Unmet}
use Rattle.rules.proofs.LinesAside.{map-like, printed_lines, groups-lines, rows-lines, rows-count}
use Rattle.rules.proofs.ListingBack.{Plain, renumbered-rows, same_head, listing-back}

-- ---- two listings with one head and the same requirements

module _ (t u : Listing) (h : t.head ≡ u.head) (asked : requirements t ≡ requirements u) where
  unmet-alike : (bits : List ℕ) → unmet t bits ≡ unmet u bits
  unfolding unmet
  unmet-alike bits = ap₂ (λ (h : Head) (rs : List Requirement). unmet_from 0 h.states bits rs) h asked

  coding-alike : coding t ≡ coding u
  unfolding coding
  coding-alike = rw (asked, h) refl

  report-alike : (c : Code) → report t c ≡ report u c
  unfolding report report_lines unmet
  report-alike c = rw (asked, h) refl

  reports-alike : report_of t (coding t) ≡ report_of u (coding u)
  unfolding report
  reports-alike = ap (report_of t) coding-alike ∙ go (coding u)
    where
      go : (x : Coding) → report_of t x ≡ report_of u x
      go (coded c) = ap says (report-alike c)
      go (uncoded r) = refl

  -- of the pairs and groups alike, too
  module _ (few : pairs_and_groups t ≡ pairs_and_groups u) where
    covered-alike : (bits : List ℕ) → covered t bits ≡ covered u bits
    unfolding covered
    covered-alike bits = ap₂ (λ (h : Head) (rs : List Requirement). not (leb 1 (length (unmet_from 0 h.states bits rs)))) h few

    bits-alike : (w : ℕ) → bits_of t w ≡ bits_of u w
    unfolding bits_of
    bits-alike w = ap₂ (λ (h : Head) (rs : List Requirement). (build w h.states rs).bits) h asked

    width-alike : (w : ℕ) → width_line w (length (unmet t (bits_of t w))) (covered t (bits_of t w)) ≡ width_line w (length (unmet u (bits_of u w))) (covered u (bits_of u w))
    width-alike w =
        ap (λ (bits : List ℕ). width_line w (length (unmet t bits)) (covered t bits)) (bits-alike w)
        ∙ ap₂ (λ (l : List ℕ) (b : Bool). width_line w (length l) b) (unmet-alike (bits_of u w)) (covered-alike (bits_of u w))

    widths-alike : widths t ≡ widths u
    unfolding widths width_lines
    widths-alike =
        ap₂ (λ (ls : List (List ℕ)) (rest : List (List ℕ)). joined_lines (ls ++ rest))
        (map-like (λ w. width_line w (length (unmet t (bits_of t w))) (covered t (bits_of t w))) (λ w. width_line w (length (unmet u (bits_of u w))) (covered u (bits_of u w))) (states_from 1 (length (bits_of t most_bits))) width-alike
        ∙ ap (λ (bits : List ℕ). map (λ w. width_line w (length (unmet u (bits_of u w))) (covered u (bits_of u w))) (states_from 1 (length bits))) (bits-alike most_bits))
        refl

    covers-alike : ((bits : List ℕ) → cover t bits ≡ cover u bits) → cover_of t (coding t) ≡ cover_of u (coding u)
    unfolding cover_of unmet_from
    covers-alike same = ap (cover_of t) coding-alike ∙ go (coding u)
      where
        go : (x : Coding) → cover_of t x ≡ cover_of u x
        go (coded c) = ap₂ (λ (b : Bool) (l : List ℕ). cond b (refuses Unmet 0) (says l)) (ap₂ (λ (h : Head) (rs : List Requirement). leb 1 (length (unmet_from 0 h.states c.bits rs))) h few) (same c.bits)
        go (uncoded r) = refl

-- ---- a listing and what its text reads back to

module _ (t : Listing) (p : Plain t) where
  same-few : pairs_and_groups (renumbered t) ≡ pairs_and_groups t
  unfolding pairs_and_groups
  same-few =
      ap₂ (λ (h : Head) (rs : List Row). pairs (states_from 0 h.states) ++ groups h.states [] rs) (same_head t) (renumbered-rows t)
      ∙ ap (λ (rs : List Requirement). pairs (states_from 0 t.head.states) ++ rs) (groups-lines t.head.states 2 (rows_of t))

  no-dichotomies : dichotomies_of t ≡ []
  no-dichotomies = ap (λ (k : ℕ). take k t.asked) p.rows-only

  same_asked : requirements (renumbered t) ≡ requirements t
  unfolding requirements renumbered rows_alone
  same_asked = ap₂ ◌++◌ same-few (sym no-dichotomies)

  -- no row is added
  same_rows : all_rows t ≡ rows_of t
  unfolding all_rows
  same_rows = ap (λ (m : Bool). rows_of t ++ cond m (state_rows 0 (take t.head.states t.said)) []) p.mealy ∙ append-nil (rows_of t)

  back-rows : all_rows (renumbered t) ≡ on_lines 2 (rows_of t)
  unfolding all_rows renumbered rows_alone
  back-rows = ap₂ (λ (m : Bool) (rs : List Row). rs ++ cond m (state_rows 0 (take t.head.states (renumbered t).said)) []) p.mealy (renumbered-rows t) ∙ append-nil (on_lines 2 (rows_of t))

  same-cover : (bits : List ℕ) → cover (renumbered t) bits ≡ cover t bits
  unfolding cover cover_lines
  same-cover bits =
      ap₂ (λ (h : Head) (rs : List Row). whole h rs) (same_head t) back-rows
      ∙ ap₂ (λ (n : ℕ) (ls : List (List ℕ)). joined_lines (counts n ls)) (rows-count t.head bits 2 (rows_of t)) (rows-lines t.head bits 2 (rows_of t))
      ∙ ap (whole t.head) (sym same_rows)
    where
      counts : ℕ → List (List ℕ) → List (List ℕ)
      counts n ls =
          counted_line (bytes ".i ") (t.head.inputs + length bits)
          ∷ (counted_line (bytes ".o ") (length bits + t.head.outputs) ∷ (bytes ".type fd\n" ∷ (counted_line (bytes ".p ") n ∷ (ls ++ (bytes ".e\n" ∷ [])))))

      whole : Head → List Row → List ℕ
      whole h rs =
          joined_lines
          (counted_line (bytes ".i ") (h.inputs + length bits)
          ∷ (counted_line (bytes ".o ") (length bits + h.outputs)
          ∷ (bytes ".type fd\n" ∷ (counted_line (bytes ".p ") (length (printed_rows h bits rs)) ∷ (printed_lines h bits rs ++ (bytes ".e\n" ∷ []))))))

  -- ---- the theorem

  -- a reply on the text is that on the listing read back
  reply-back : (f : Listing → Reply) → on_reading (reading (listing_text t)) f ≡ f (renumbered t)
  reply-back f = ap (λ (r : Reading). on_reading r f) (listing-back t p)

  pub report-back : report_reply (listing_text t) ≡ report_of t (coding t)
  unfolding report_reply
  report-back = reply-back (λ u. report_of u (coding u)) ∙ reports-alike (renumbered t) t (same_head t) same_asked

  pub cover-back : cover_reply (listing_text t) ≡ cover_of t (coding t)
  unfolding cover_reply
  cover-back = reply-back (λ u. cover_of u (coding u)) ∙ covers-alike (renumbered t) t (same_head t) same_asked same-few same-cover

  pub widths-back : widths_reply (listing_text t) ≡ says (widths t)
  unfolding widths_reply
  widths-back = reply-back (λ u. says (widths u)) ∙ ap says (widths-alike (renumbered t) t (same_head t) same_asked same-few)
