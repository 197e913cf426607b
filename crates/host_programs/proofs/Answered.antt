-- Parts, one after the other, are all that is ready; and what is read of any bytes, and whether more follow, is enough to answer to them.
use Rattle.std.proofs.Common.{◌≡◌, ℕ, zero, suc, ◌+◌, ◌-◌, ◌≤◌, ◌<◌, Bool, true, false, cond, ◌&&◌, leb, ltb, List, [], ◌∷◌, ◌++◌, IfSome, OnOk, inl, inr, length, take, drop, refl, sym, ap, ap₂, subst, ◌∙◌, append_assoc, append-nil, arith}
use Rattle.std.proofs.lemmas.Bool.{and_parts, and_cases}
use Rattle.std.proofs.lemmas.List.{length-append, take_at}
use borrow.Author.Tests.{ltb-true, ltb-false, leb-true, leb-false, lt-ltb, le-ltb}
use Rattle.std.specs.Io.KnownBytes.{Appends, Consumes, IsAtEnd}
use Rattle.rules.specs.Report.{joined_lines}
use Rattle.rules.specs.Answers.{Reply, says, refuses, printed, on_reading}
use Rattle.rules.specs.NamesText.{names_text}
use Rattle.rules.specs.Kiss.{kiss_reading}
use Rattle.rules.specs.KissAnswers.{kiss_names, kiss_names_reply}
use Rattle.rules.specs.Parts.{part, gathered}
use Rattle.rules.specs.declared.Refusal.TheVariants.{Limit}
use Rattle.rules.specs.Listing.{Reading}
use Rattle.rules.proofs.KissSound.{kiss-line}
use Rattle.rules.proofs.KissNamed.{kiss-names-few}
use Rattle.rules.proofs.Ended.{no-piece, piece}
use Rattle.rules.proofs.Parts.{fit_none, fit-more, gathered-all}
use Rattle.rules.proofs.ReportLines.{refused-ended}
use Rattle.write_refusal.proofs.Refused.{refusal-length}
use Rattle.write_parts.specs.Parts.{longest_line}
use Rattle.host_replies.specs.Ready.{reply_of}
use Rattle.host_replies.specs.Saying.{reply_to}
use Rattle.host_replies.specs.declared.plans.Wanted.{Wanted}
use Rattle.host_replies.proofs.Replies.{reply-is}
use Rattle.host_prints.specs.Printing.{ready_for, printing}
use Rattle.host_prints.proofs.Printing.{parts-are-all}
use Rattle.host_programs.specs.Printed.{unless_long, parts_of}
use Rattle.std.specs.Prelude.{Ok, Err, Result, Some, None, Option}

-- ---- what is written

pub appended_none : (a : Option (List ℕ)) → Appends a a []
appended_none None = tt
appended_none (Some x) = sym (append-nil x)

pub appended-more : (a b c : Option (List ℕ)) (bs cs : List ℕ) → Appends a b bs → Appends b c cs → Appends a c (bs ++ cs)
appended-more None b c bs cs p q = tt
appended-more (Some x) None c bs cs p q = absurd p
appended-more (Some x) (Some y) None bs cs p q = absurd q
appended-more (Some x) (Some y) (Some z) bs cs p q = q ∙ ap (λ l. l ++ cs) p ∙ append_assoc x bs cs

-- where no part is given, none is given later
module _ (room k : ℕ) (text : List ℕ) (none : part room (length (gathered room k text)) text ≡ []) where
  stays : (j n : ℕ) → n ≡ j + k → gathered room n text ≡ gathered room k text
  unfolding gathered
  stays zero n e = let same : n ≡ k = omega arith in ap (λ (m : ℕ). gathered room m text) same
  stays (suc j) n e =
      let one : n ≡ suc (j + k) = omega arith in
      ap (λ (m : ℕ). gathered room m text) one
      ∙ ap (λ (have : List ℕ). have ++ part room (length have) text) (stays j (j + k) refl)
      ∙ ap (λ (l : List ℕ). gathered room k text ++ l) none
      ∙ append-nil (gathered room k text)

  pub none_later : k ≤ length text → gathered room (length text) text ≡ gathered room k text
  none_later h = stays (length text - k) (length text) (omega arith)

-- ---- all parts

one-line : (l : List ℕ) → joined_lines (l ∷ []) ≡ l
unfolding joined_lines
one-line l = append-nil l

module _ (w : Wanted) (s : List ℕ) (room : ℕ) (enough : longest_line ≤ room) where
  pub parts-whole : (more : Bool) → parts_of room (ready_for w s more) ≡ printed (cond more (refuses Limit 0) (reply_to w s))
  unfolding parts_of ready_for reply_of
  parts-whole false = ap (λ (x : Reply). gathered room (length (printed x)) (printed x)) (reply-is w s) ∙ parts-are-all w s room enough
  parts-whole true =
      let l : List ℕ = printed (refuses Limit 0) in
      let same : joined_lines (l ∷ []) ≡ l = one-line l in
      subst (λ (t : List ℕ). gathered room (length t) t ≡ t) same
      (gathered-all room (l ∷ []) (piece (refused-ended Limit 0) no-piece) (fit-more {l = l} (omega (arith, refusal-length 4 Limit 0 (omega arith))) fit_none))

-- ---- one part more

nothing : (l : List ℕ) → length l ≡ 0 → l ≡ []
nothing [] h = refl
nothing (x ∷ xs) h = absurd (omega arith)

module _ (reply : Reply) (room k from : ℕ) (out after : List ℕ) (r : ℕ) (long : length out ≡ room) (at : from ≡ length (gathered room k (printed reply))) where
  abbrev text : List ℕ
  text = printed reply

  abbrev given : List ℕ
  given = part (length out) from text

  same : given ≡ part room (length (gathered room k text)) text
  same = ap₂ (λ (n f : ℕ). part n f text) long at

  module _ (e : ◌≡◌ {A = ℕ × List ℕ} (r, after) (printing reply from out)) where
    so_many : r ≡ length given
    unfolding printing
    so_many = ap (λ (p : ℕ × List ℕ). p.0) e

    taken : take r after ≡ given
    unfolding printing
    taken = ap₂ take so_many (ap (λ (p : ℕ × List ℕ). p.1) e) ∙ take_at given (drop (length given) out) (length given) refl

    pub next : gathered room (suc k) text ≡ gathered room k text ++ take r after
    unfolding gathered
    next = ap (λ (l : List ℕ). gathered room k text ++ l) (sym (taken ∙ same))

    pub next-length : from + r ≡ length (gathered room (suc k) text)
    next-length = omega (arith, at, so_many, ap length taken, ap length next, length-append (gathered room k text) (take r after))

    pub none-next : r ≡ 0 → part room (length (gathered room k text)) text ≡ []
    none-next h = sym same ∙ nothing given (omega (arith, so_many))

-- ---- what is read

module _ (n : ℕ) (fits : n ≤ 65536) (f : List ℕ → Reply) (given : List ℕ) (long : length given ≡ n) where
  -- more bytes follow where there are more than a listing can have; where none do, all are given
  by-rest : (y x : List ℕ) (more : Bool) → x ≡ given ++ y → (n < 65536 → y ≡ []) → more ≡ (leb 65536 n && ltb 0 (length y))
      → printed (cond more (refuses Limit 0) (f given)) ≡ printed (unless_long x (f x))
  by-rest y x true e end m =
      let both = and_parts (leb 65536 n) (ltb 0 (length y)) (sym m) in
      let many : 65536 ≤ n = leb-true 65536 n both.0 in
      let some : 0 < length y = ltb-true 0 (length y) both.1 in
      let over : 65536 < length x = omega (arith, ap length e, length-append given y) in
      ap (λ (b : Bool). printed (cond b (refuses Limit 0) (f x))) (sym (lt-ltb 65536 (length x) over))
  by-rest y x false e end m =
      let none : y ≡ [] = elim (and_cases (leb 65536 n) (ltb 0 (length y)) (sym m)) [
        | inl h ↦ end (leb-false 65536 n h)
        | inr h ↦ nothing y (omega (arith, ltb-false 0 (length y) h))
      ] in
      let all : x ≡ given = e ∙ ap (λ (l : List ℕ). given ++ l) none ∙ append-nil given in
      let within : length x ≤ 65536 = omega (arith, ap length all) in
      ap (λ (l : List ℕ). printed (f l)) (sym all) ∙ ap (λ (b : Bool). printed (cond b (refuses Limit 0) (f x))) (sym (le-ltb 65536 (length x) within))

  answered : (a b c d : Option (List ℕ)) (more : Bool) → Consumes a b given → (n < 65536 → IsAtEnd b) → IfSome b (λ left. more ≡ (leb 65536 n && ltb 0 (length left)))
      → Appends c d (printed (cond more (refuses Limit 0) (f given))) → IfSome a (λ bytes. Appends c d (printed (unless_long bytes (f bytes))))
  answered None b c d more p end m w = tt
  answered (Some x) None c d more p end m w = absurd p
  answered (Some x) (Some y) c d more p end m w = subst (Appends c d) (by-rest y x more p end m) w

  -- where so much is written, and nothing fails
  pub answered-ok : {T E : Type 0} (r : Result T E) (a b c d : Option (List ℕ)) (more : Bool) (written : List ℕ) → Consumes a b given → (n < 65536 → IsAtEnd b)
      → IfSome b (λ left. more ≡ (leb 65536 n && ltb 0 (length left))) → written ≡ printed (cond more (refuses Limit 0) (f given)) → OnOk r (Appends c d written)
      → OnOk r (IfSome a (λ bytes. Appends c d (printed (unless_long bytes (f bytes)))))
  answered-ok (Ok v) a b c d more written p end m e w = answered a b c d more p end m (subst (Appends c d) e w)
  answered-ok (Err v) a b c d more written p end m e w = tt

-- ---- the names

few : (s : List ℕ) → length (printed (kiss_names_reply s)) ≤ 65536
unfolding kiss_names_reply printed
few s = go (kiss_reading s) refl
  where
    go : (r : Reading) → kiss_reading s ≡ r → length (printed (on_reading r (λ t. says (names_text (kiss_names s))))) ≤ 65536
    go (Ok t) e = omega (arith, kiss-names-few s e)
    go (Err why) e = omega (arith, refusal-length 4 why.refusal why.line (kiss-line s why.refusal why.line e))

pub names-fit : (s : List ℕ) (more : Bool) → length (printed (cond more (refuses Limit 0) (kiss_names_reply s))) ≤ 65536
names-fit s true = omega (arith, refusal-length 4 Limit 0 (omega arith))
names-fit s false = few s
