-- The text of a listing of rows reads back: any listing that is sound, under `MC`, without dichotomies and without conflict, as an Ok KISS2 text gives (02,
-- request 01), is read from its text as the listing of the same rows, each on the line where the text has it.
use Rattle.std.specs.Prelude.{Err, Ok}
use mathlib.Core.Path.{◌≡◌, refl, sym, ap, ap₂, ◌∙◌}
use mathlib.Core.Bool.{Bool, true, false, not, ◌&&◌, ◌||◌, cond}
use mathlib.Core.List.{List, [], ◌∷◌, ◌++◌, map, map-append, append_assoc, append-nil}
use Prim.Native.Nat.{ℕ, suc, ◌+◌, ◌-◌, ◌≤◌, ◌<◌}
use native.Mathlib.Omega.{arith}
use lib.ListN.{length, get_or, drop, set, replicate, length-append, take-append-drop}
use lib.Seq.{set-append_seam, take_at}
use borrow.Author.Tests.{le-leb}
use Rattle.rules.specs.Limits.{most_bytes, most_states, most_rows, most_dichotomies}
use Rattle.rules.specs.Text.{bytes, lf, same, split, lines_of, mark_of}
use Rattle.rules.specs.Report.{joined_lines}
use Rattle.rules.specs.Lines.{head_line}
use Rattle.rules.specs.FlowLines.{flow_head}
use Rattle.rules.specs.Listing.{no_pattern, no_row, no_requirement, blank, with_row, rows_of, goes, nothing, complete, ended, read_lines, read_all, conflict, judged, checked, reading, line_step, Reading}
use Rattle.rules.specs.ListingText.{head_text, row_text, listing_lines, listing_text, on_line, on_lines, lineless, without_lines, rows_alone, renumbered}
use Rattle.rules.specs.declared.Head.{Head}
use Rattle.rules.specs.declared.Row.{Row}
use Rattle.rules.specs.declared.Listing.{Listing}
use Rattle.rules.specs.declared.Refusal.TheVariants.{NoOutputs, Limit, Place}
use Rattle.rules.specs.Refusals.{Verdict, refused}
use Rattle.rules.proofs.SoundLines.{SoundHead, SoundRow}
use Rattle.rules.proofs.Sound.{Sound, accepted-sound, rows-length, row_of, after, reads_on, read_by, all_two}
use Rattle.rules.proofs.Sharing.{accepted-apart}
use Rattle.rules.proofs.ListingLength.{listing-length}
use Rattle.rules.proofs.ListingLines.{bodies, listing-lines, row-fields}
use Rattle.rules.proofs.LinesBack.{head_step, row_step, end_step}
use Rattle.rules.proofs.LinesAside.{lines-aside, lines_long, map-twice, text-lines, conflict-lines}

-- what an Ok KISS2 text gives
pub record Plain (t : Listing) : Type 0 where
  pub sound : Sound t
  pub mealy : t.head.moore ≡ false
  pub rows-only : t.dichotomies ≡ 0
  pub agreeing : conflict (rows_of t) ≡ Ok tt

-- and so does an accepted listing under `MC` without dichotomies
pub accepted-plain : (s : List ℕ) {t : Listing} → reading s ≡ Ok t → t.head.moore ≡ false → t.dichotomies ≡ 0 → Plain t
accepted-plain s e m d = record { sound = accepted-sound s e; mealy = m; rows-only = d; agreeing = accepted-apart s e }

-- ---- the listing of rows alone, as it grows

-- a place more of a table that is filled from its start
pub filled_on : {A : Type 0} (most : ℕ) (blank : A) (done : List A) (r : A) → length done < most
    → set (done ++ replicate (most - length done) blank) (length done) r ≡ (done ++ (r ∷ [])) ++ replicate (most - length (done ++ (r ∷ []))) blank
filled_on most blank done r room =
    ap (λ (n : ℕ). set (done ++ replicate n blank) (length done) r) before
    ∙ set-append_seam done blank (replicate left blank) r
    ∙ sym (append_assoc done (r ∷ []) (replicate left blank))
  where
    left : ℕ
    left = most - length (done ++ (r ∷ []))

    before : most - length done ≡ suc left
    before = omega (arith, length-append done (r ∷ []))

-- a row more
grown : (h : Head) (done : List Row) (r : Row) → length done < most_rows → with_row r (rows_alone h done) ≡ rows_alone h (done ++ (r ∷ []))
unfolding rows_alone
grown h done r room =
    ap₂
    (λ (n : ℕ) (l : List Row). record {
      head = h;
      rows = n;
      table = l;
      dichotomies = 0;
      asked = replicate most_dichotomies no_requirement;
      said = replicate most_states no_pattern;
      given = 0;
    })
    (sym (length-append done (r ∷ []))) (filled_on most_rows no_row done r room)

pub rows-alone : (h : Head) (rs : List Row) → rows_of (rows_alone h rs) ≡ rs
unfolding rows_alone
rows-alone h rs = take_at rs (replicate (most_rows - length rs) no_row) (length rs) refl

-- ---- line by line

-- a line that others follow
reads-some : (k : ℕ) (t : Listing) (l : List ℕ) (ls : List (List ℕ)) → 1 ≤ length ls → read_lines k t (l ∷ ls) ≡ after k t ls (line_step k t l)
reads-some k t l [] h = absurd (omega arith)
reads-some k t l (m ∷ ms) h = reads_on k t l m ms

-- a line that goes on
goes_on : (k : ℕ) (t : Listing) (ls : List (List ℕ)) (u : Listing) → after k t ls (goes u) ≡ read_lines (k + 1) u ls
unfolding after
goes_on k t ls u = refl

-- `EN`, and nothing behind it
end_back : (k : ℕ) (t : Listing) → 2 ≤ k → t.head.moore ≡ false → read_lines k t (bytes "EN" ∷ ([] ∷ [])) ≡ Ok t
unfolding after ended nothing complete
end_back k t h m =
    reads_on k t (bytes "EN") [] []
    ∙ ap (after k t ([] ∷ [])) (end_step k t h)
    ∙ ap (λ (b : Bool). cond b (Ok t) (refused NoOutputs k)) (ap₂ ◌||◌ (ap not m) refl)

-- behind the last row there is a line
some-body : (h : Head) (rs : List Row) → 1 ≤ length (bodies h rs)
some-body h [] = omega arith
some-body h (r ∷ rs) = omega arith

module _ (h : Head) (head : SoundHead h) (m : h.moore ≡ false) where
  rows_back : (done rs : List Row) (k : ℕ) → 2 ≤ k → length done + length rs ≤ most_rows → ((j : ℕ) → j < length rs → SoundRow h (get_or rs j no_row))
      → read_lines k (rows_alone h done) (bodies h rs) ≡ Ok (rows_alone h (done ++ on_lines k rs))
  unfolding rows_alone on_lines
  rows_back done [] k two room sound = end_back k (rows_alone h done) two m ∙ ap (λ (rs : List Row). Ok (rows_alone h rs)) (sym (append-nil done))
  rows_back done (r ∷ rs) k two room sound =
      let x : Row = on_line k r in
      reads-some k (rows_alone h done) (row_text h r) (bodies h rs) (some-body h rs)
      ∙ ap (after k (rows_alone h done) (bodies h rs)) (row_step r k (rows_alone h done) head (sound 0 (omega arith)) m two (omega arith))
      ∙ goes_on k (rows_alone h done) (bodies h rs) (with_row x (rows_alone h done))
      ∙ ap (λ (u : Listing). read_lines (k + 1) u (bodies h rs)) (grown h done x (omega arith))
      ∙ rows_back (done ++ (x ∷ [])) rs (k + 1) (omega arith) (omega (arith, length-append done (x ∷ []))) (λ j l. sound (suc j) (omega arith))
      ∙ ap (λ (rs : List Row). Ok (rows_alone h rs)) (append_assoc done (x ∷ []) (on_lines (k + 1) rs))

  pub lines-back : (rs : List Row) → length rs ≤ most_rows → ((j : ℕ) → j < length rs → SoundRow h (get_or rs j no_row))
      → read_lines 1 blank (head_text h ∷ bodies h rs) ≡ Ok (rows_alone h (on_lines 2 rs))
  unfolding after blank rows_alone
  lines-back rs room sound =
      reads-some 1 blank (head_text h) (bodies h rs) (some-body h rs)
      ∙ ap (after 1 blank (bodies h rs)) (head_step h head m blank)
      ∙ rows_back [] rs 2 (omega arith) (omega arith) sound

-- ---- the whole

-- behind the head stands a row or the end: it is no flow table
no_flow : (l m : List ℕ) (ms : List (List ℕ)) → same (mark_of m) (bytes "FT") ≡ false → read_all (l ∷ (m ∷ ms)) ≡ read_lines 1 blank (l ∷ (m ∷ ms))
unfolding flow_head read_by
no_flow l m ms e = all_two l m ms ∙ ap (λ (b : Bool). by (same (mark_of l) (bytes "MC") && b)) e ∙ go (same (mark_of l) (bytes "MC"))
  where
    by : Bool → Reading
    by b = read_by (cond b (head_line false l) (Err Place)) l (m ∷ ms)

    go : (b : Bool) → by (b && false) ≡ read_lines 1 blank (l ∷ (m ∷ ms))
    go true = refl
    go false = refl

row-leads : (h : Head) (r : Row) → same (mark_of (row_text h r)) (bytes "FT") ≡ false
unfolding mark_of same
row-leads h r = rw (row-fields h r) refl

as_rows : (h : Head) (rs : List Row) → read_all (head_text h ∷ bodies h rs) ≡ read_lines 1 blank (head_text h ∷ bodies h rs)
unfolding mark_of same split
as_rows h [] = no_flow (head_text h) (bytes "EN") ([] ∷ []) refl
as_rows h (r ∷ rs) = no_flow (head_text h) (row_text h r) (bodies h rs) (row-leads h r)

-- a text of such lines: its head, its rows, its end
reading-lines : (s : List ℕ) (h : Head) (rs : List Row) (t : Listing) → length s ≤ most_bytes → lines_of s ≡ head_text h ∷ bodies h rs
    → read_lines 1 blank (head_text h ∷ bodies h rs) ≡ Ok t → conflict (rows_of t) ≡ Ok tt → reading s ≡ Ok t
unfolding reading
reading-lines s h rs t short lines e agree =
    ap (λ (b : Bool). cond b (checked (read_all (lines_of s))) (refused Limit 0)) (le-leb (length s) most_bytes short)
    ∙ ap checked (ap read_all lines ∙ as_rows h rs ∙ e)
    ∙ ap (λ (v : Verdict). judged v t) agree

-- the rows of the listing read back: those of the listing written, on their lines
pub renumbered-rows : (t : Listing) → rows_of (renumbered t) ≡ on_lines 2 (rows_of t)
unfolding renumbered
renumbered-rows t = rows-alone t.head (on_lines 2 (rows_of t))

pub same_head : (t : Listing) → (renumbered t).head ≡ t.head
unfolding renumbered rows_alone
same_head t = refl

pub listing-back : (t : Listing) → Plain t → reading (listing_text t) ≡ Ok (renumbered t)
unfolding renumbered
listing-back t p =
    let few : length (rows_of t) ≤ most_rows = omega (arith, rows-length t p.sound, p.sound.few-rows) in
    reading-lines (listing_text t) t.head (rows_of t) (renumbered t) (omega (arith, listing-length t p.sound)) (listing-lines t)
    (lines-back t.head p.sound.head p.mealy (rows_of t) few (λ j l. row_of t p.sound j (omega (arith, rows-length t p.sound))))
    (ap conflict (renumbered-rows t) ∙ conflict-lines 2 (rows_of t) p.agreeing)

-- ---- it is the same listing but for its lines

-- what a listing has besides its rows is as in a blank one
pub record Fresh (t : Listing) : Type 0 where
  pub behind : drop t.rows t.table ≡ replicate (most_rows - t.rows) no_row
  pub asked : t.asked ≡ replicate most_dichotomies no_requirement
  pub said : t.said ≡ replicate most_states no_pattern
  pub given : t.given ≡ 0

pub same-but-lines : (t : Listing) → Plain t → Fresh t → without_lines (renumbered t) ≡ without_lines t
unfolding without_lines renumbered rows_alone
same-but-lines t p f = cc (count, table, sym p.rows-only, sym f.asked, sym f.said, sym f.given)
  where
    rows : List Row
    rows = on_lines 2 (rows_of t)

    count : length rows ≡ t.rows
    count = lines_long 2 (rows_of t) ∙ rows-length t p.sound

    table : map lineless (rows ++ replicate (most_rows - length rows) no_row) ≡ map lineless t.table
    table =
        map-append lineless rows (replicate (most_rows - length rows) no_row)
        ∙ ap₂ (λ (xs ys : List Row). xs ++ map lineless ys) (lines-aside 2 (rows_of t)) (ap (λ (n : ℕ). replicate (most_rows - n) no_row) count ∙ sym f.behind)
        ∙ sym (map-append lineless (rows_of t) (drop t.rows t.table))
        ∙ ap (map lineless) (take-append-drop t.rows t.table)

-- and it has the same text
pub text-again : (t : Listing) → listing_text (renumbered t) ≡ listing_text t
unfolding listing_text listing_lines
text-again t =
    ap₂ (λ (h : Head) (rs : List Row). whole h (map (λ r. row_text h r ++ (lf ∷ [])) rs)) (same_head t) (renumbered-rows t)
    ∙ ap (whole t.head) (ended (on_lines 2 (rows_of t)) ∙ ap (map (λ l. l ++ (lf ∷ []))) (text-lines t.head 2 (rows_of t)) ∙ sym (ended (rows_of t)))
  where
    whole : Head → List (List ℕ) → List ℕ
    whole h ls = joined_lines ((head_text h ++ (lf ∷ [])) ∷ (ls ++ (bytes "EN\n" ∷ [])))

    ended : (rs : List Row) → map (λ r. row_text t.head r ++ (lf ∷ [])) rs ≡ map (λ l. l ++ (lf ∷ [])) (map (row_text t.head) rs)
    ended rs = sym (map-twice (λ l. l ++ (lf ∷ [])) (row_text t.head) rs)
