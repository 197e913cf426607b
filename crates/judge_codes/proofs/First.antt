-- The first 65,536 bytes of codes decide them: no more than 64 lines of 72 bytes are good, and a longer text is refused at a line that they show.
use Rattle.std.specs.Prelude.{Some, None, Ok}
use mathlib.Core.Path.{◌≡◌, refl, sym, ap, ◌∙◌}
use mathlib.Core.Logic.{◌⊎◌, inl, inr}
use mathlib.Core.Bool.{Bool, true, false, ◌&&◌, ◌||◌, not, cond}
use mathlib.Core.List.{List, [], ◌∷◌, ◌++◌, append_assoc, append-nil}
use Prim.Native.Nat.{ℕ, zero, suc, ◌+◌, ◌*◌, ◌≤◌, ◌<◌}
use native.Mathlib.Omega.{arith}
use lib.Dec.{eqb, leb, ltb}
use lib.ListN.{length, get_or, take, drop, replicate, length-append, length-take, take-append-drop}
use lib.Seq.{take_all}
use borrow.Author.Tests.{eqb-true, leb-true, ltb-true, ltb-false}
use Rattle.sets.proofs.Every.{and_first, and_second}
use Rattle.rules.specs.Limits.{most_states, most_bits, most_bytes}
use Rattle.rules.specs.Text.{bytes, lf, space, dash, nought, one, push, same, split, lines_of, fields_of, field_at, mark_of, sized, set_of, digits_of, numeral_of}
use Rattle.rules.specs.CheckTexts.{code_fits, width_in, is_number, code_good, with_code, codes_from, codes_reading, CodesReading}
use Rattle.rules.specs.declared.CodeTable.{CodeTable}
use Rattle.rules.proofs.Fields.{Without, none, more, split-part}
use Rattle.rules.proofs.Known.{same-eq}
use Rattle.read_pieces.proofs.Laws.{split-some}
use Rattle.read_pieces.proofs.Nothing.{some-behind}
use Rattle.run_lines.proofs.Lengths.{first-line}
use Rattle.rules.specs.Refusals.{refused}
use Rattle.rules.specs.declared.Refusal.TheVariants.{BadLine}

-- ---- how long a line is by its fields

abbrev spread : List (List ℕ) → ℕ
spread [] = 0
spread (p ∷ ps) = length p + 1 + spread ps

spread-push : (x : ℕ) (ps : List (List ℕ)) → 1 ≤ length ps → spread (push x ps) ≡ suc (spread ps)
spread-push x [] h = absurd (omega arith)
spread-push x (p ∷ ps) h = omega arith

spread-all : (q : ℕ) (l : List ℕ) → spread (split q l) ≡ suc (length l)
unfolding split
spread-all q [] = refl
spread-all q (x ∷ xs) = go (eqb x q) (spread-all q xs)
  where
    go : (b : Bool) → spread (split q xs) ≡ suc (length xs) → spread (cond b ([] ∷ split q xs) (push x (split q xs))) ≡ suc (suc (length xs))
    go true e = omega arith
    go false e = omega (arith, spread-push x (split q xs) (split-some q xs))

three : (ps : List (List ℕ)) → length ps ≡ 3 → spread ps ≡ length (get_or ps 0 []) + length (get_or ps 1 []) + length (get_or ps 2 []) + 3
three [] h = absurd (omega arith)
three (a ∷ []) h = absurd (omega arith)
three (a ∷ (b ∷ [])) h = absurd (omega arith)
three (a ∷ (b ∷ (c ∷ []))) h = omega arith
three (a ∷ (b ∷ (c ∷ (d ∷ ds)))) h = absurd (omega arith)

-- ---- a good line

number_short : (s : ℕ) (f : List ℕ) → is_number s f ≡ true → length f ≤ 4
unfolding is_number numeral_of
number_short s f e = go (leb 1 (length f)) (leb (length f) 4) refl (eqb (length f) 1 || not (eqb (get_or f 0 0) nought)) e
  where
    go : (a b : Bool) → leb (length f) 4 ≡ b → (c : Bool) → elim (cond (a && b && c) (digits_of 0 f) None) as (λ x. Bool) [ Some v ↦ eqb v s | None ↦ false ] ≡ true → length f ≤ 4
    go a true q c e = leb-true (length f) 4 q
    go true false q c e = absurd (let z : ◌≡◌ {A = ℕ} 0 1 = cc in omega arith)
    go false false q c e = absurd (let z : ◌≡◌ {A = ℕ} 0 1 = cc in omega arith)

code-short : (w : ℕ) (f : List ℕ) → code_fits w f ≡ true → length f ≤ most_bits
unfolding code_fits sized
code-short zero f e = omega (arith, ap length (same-eq f (dash ∷ []) e))
code-short (suc w) f e = leb-true (length f) most_bits (and_first (leb (length f) most_bits) _ e)

good-short : (w s : ℕ) (l : List ℕ) → code_good w s l ≡ true → length l ≤ 72
unfolding code_good mark_of
good-short w s l e =
    let fields = eqb (length (fields_of l)) 3 in
    let mark = same (field_at l 0) (bytes "SC") in
    let number = is_number s (field_at l 1) in
    let code = code_fits w (field_at l 2) in
    let rest : (mark && (number && code)) ≡ true = and_second fields (mark && (number && code)) e in
    let last : (number && code) ≡ true = and_second mark (number && code) rest in
    omega (
      arith,
      spread-all space l,
      three (fields_of l) (eqb-true (length (fields_of l)) 3 (and_first fields (mark && (number && code)) e)),
      ap length (same-eq (field_at l 0) (bytes "SC") (and_first mark (number && code) rest)),
      number_short s (field_at l 1) (and_first number code last),
      code-short w (field_at l 2) (and_second number code last),
    )

bad-long : (w s : ℕ) (l : List ℕ) → 72 < length l → (b : Bool) → code_good w s l ≡ b → b ≡ false
bad-long w s l far true e = absurd (omega (arith, good-short w s l e))
bad-long w s l far false e = refl

-- ---- the first line

abbrev Lined : List ℕ → Type 0
Lined a = (l : List ℕ) × ((rest : List ℕ) × (Without lf l) × (a ≡ l ++ (lf ∷ rest)))

lined : (a : List ℕ) → Without lf a ⊎ Lined a
lined [] = inl none
lined (x ∷ xs) = go (eqb x lf) refl (lined xs)
  where
    unlike : eqb x lf ≡ false → x ≡ lf → ⊥
    unlike e f = let t : eqb x lf ≡ true = rw f in let z : ◌≡◌ {A = ℕ} 0 1 = cc in omega arith

    go : (b : Bool) → eqb x lf ≡ b → Without lf xs ⊎ Lined xs → Without lf (x ∷ xs) ⊎ Lined (x ∷ xs)
    go true e r = inr ([], (xs, none, ap (λ (y : ℕ). y ∷ xs) (eqb-true x lf e)))
    go false e (inl w) = inl (more (unlike e) w)
    go false e (inr d) = inr (x ∷ d.0, (d.1.0, more (unlike e) d.1.1, ap (λ (l : List ℕ). x ∷ l) d.1.2))

-- ---- line by line

module _ (s k : ℕ) (c : CodeTable) (l x : List ℕ) where
  abbrev by-line : Bool → CodesReading
  by-line b = elim b [ true ↦ codes_from (s + 1) k (with_code s (set_of one (field_at l 2)) c) (lines_of x) | false ↦ refused BadLine (s + 1) ]

  line_step : codes_from s (suc k) c (l ∷ lines_of x) ≡ by-line (code_good c.width s l)
  unfolding codes_from
  line_step = go (lines_of x) (split-some lf x)
    where
      go : (ls : List (List ℕ)) → 1 ≤ length ls
          → codes_from s (suc k) c (l ∷ ls) ≡ elim (code_good c.width s l) [ true ↦ codes_from (s + 1) k (with_code s (set_of one (field_at l 2)) c) ls | false ↦ refused BadLine (s + 1) ]
      go [] h = absurd (omega arith)
      go (m ∷ ms) h = refl

-- a text that is not over is refused
more-refused : (s : ℕ) (c : CodeTable) (a : List ℕ) → 0 < length a → codes_from s 0 c (lines_of a) ≡ refused BadLine (s + 1)
unfolding codes_from
more-refused s c a some = ap (λ (b : Bool). elim b as (λ x. CodesReading) [ true ↦ Ok c | false ↦ refused BadLine (s + 1) ]) (some-behind a (λ z. omega arith))

-- and so is a first line that does not end in what is seen
long-refused : (s k : ℕ) (c : CodeTable) (a z : List ℕ) → Without lf a → 72 < length a → codes_from s k c (lines_of (a ++ z)) ≡ refused BadLine (s + 1)
unfolding codes_from
long-refused s zero c a z w far = more-refused s c (a ++ z) (omega (arith, length-append a z))
long-refused s (suc k) c a z w far =
    let r = first-line a z w in
    ap (codes_from s (suc k) c) r.1.1 ∙ go r.0 r.1.0 (omega (arith, r.1.2))
  where
    go : (l : List ℕ) (ls : List (List ℕ)) → 72 < length l → codes_from s (suc k) c (l ∷ ls) ≡ refused BadLine (s + 1)
    go l [] far = refl
    go l (m ∷ ms) far =
        ap (λ (b : Bool). elim b as (λ x. CodesReading) [ true ↦ codes_from (s + 1) k (with_code s (set_of one (field_at l 2)) c) (m ∷ ms) | false ↦ refused BadLine (s + 1) ])
        (bad-long c.width s l far (code_good c.width s l) refl)

alone-refused : (s k : ℕ) (c : CodeTable) (a : List ℕ) → Without lf a → 72 < length a → codes_from s k c (lines_of a) ≡ refused BadLine (s + 1)
alone-refused s k c a w far = ap (λ (x : List ℕ). codes_from s k c (lines_of x)) (sym (append-nil a)) ∙ long-refused s k c a [] w far

-- the lines of both
lines-of : (a l r z : List ℕ) → Without lf l → a ≡ l ++ (lf ∷ r) → lines_of (a ++ z) ≡ l ∷ lines_of (r ++ z)
lines-of a l r z w e = ap (λ (x : List ℕ). lines_of (x ++ z)) e ∙ ap lines_of (append_assoc l (lf ∷ r) z) ∙ split-part lf l (r ++ z) w

codes-first : (s k : ℕ) (c : CodeTable) (a z : List ℕ) → k * 73 + 72 < length a → codes_from s k c (lines_of (a ++ z)) ≡ codes_from s k c (lines_of a)
codes-first s zero c a z far = more-refused s c (a ++ z) (omega (arith, length-append a z)) ∙ sym (more-refused s c a (omega arith))
codes-first s (suc k) c a z far = go (lined a) (λ d r. codes-first (s + 1) k d r z)
  where
    go : Without lf a ⊎ Lined a → ((d : CodeTable) (r : List ℕ) → k * 73 + 72 < length r → codes_from (s + 1) k d (lines_of (r ++ z)) ≡ codes_from (s + 1) k d (lines_of r)) → codes_from s (suc k) c (lines_of (a ++ z)) ≡ codes_from s (suc k) c (lines_of a)
    go (inl w) later = long-refused s (suc k) c a z w (omega arith) ∙ sym (alone-refused s (suc k) c a w (omega arith))
    go (inr d) later =
        let l = d.0 in
        let r = d.1.0 in
        let e = d.1.2 in
        let long : length a ≡ length l + suc (length r) = ap length e ∙ length-append l (lf ∷ r) in
        ap (codes_from s (suc k) c) (lines-of a l r z d.1.1 e)
        ∙ line_step s k c l (r ++ z)
        ∙ same_line l r long (code_good c.width s l) refl
        ∙ sym (ap (λ (x : List ℕ). codes_from s (suc k) c (lines_of x)) e ∙ ap (codes_from s (suc k) c) (split-part lf l r d.1.1) ∙ line_step s k c l r)
      where
        same_line : (l r : List ℕ) → length a ≡ length l + suc (length r) → (b : Bool) → code_good c.width s l ≡ b → by-line s k c l (r ++ z) b ≡ by-line s k c l r b
        same_line l r long true q = later (with_code s (set_of one (field_at l 2)) c) r (omega (arith, good-short c.width s l q))
        same_line l r long false q = refl

-- ---- all of it

reading-first : (n : ℕ) (a z : List ℕ) → n * 73 + 72 < length a → codes_reading n (lines_of (a ++ z)) ≡ codes_reading n (lines_of a)
unfolding codes_reading
reading-first n a z far = go (lined a)
  where
    go : Without lf a ⊎ Lined a → codes_from 0 n (record { width = width_in (get_or (lines_of (a ++ z)) 0 []); table = replicate most_states 0 }) (lines_of (a ++ z)) ≡ codes_from 0 n (record { width = width_in (get_or (lines_of a) 0 []); table = replicate most_states 0 }) (lines_of a)
    go (inl w) = long-refused 0 n _ a z w (omega arith) ∙ sym (alone-refused 0 n _ a w (omega arith))
    go (inr d) =
        let l = d.0 in
        let r = d.1.0 in
        let same_first : get_or (lines_of (a ++ z)) 0 [] ≡ get_or (lines_of a) 0 [] =
        ap (λ (ls : List (List ℕ)). get_or ls 0 []) (lines-of a l r z d.1.1 d.1.2)
        ∙ sym (ap (λ (ls : List (List ℕ)). get_or ls 0 []) (ap lines_of d.1.2 ∙ split-part lf l r d.1.1)) in
        ap (λ (f : List ℕ). codes_from 0 n (record { width = width_in f; table = replicate most_states 0 }) (lines_of (a ++ z))) same_first
        ∙ codes-first 0 n _ a z far

pub codes-decided : (n : ℕ) (text : List ℕ) → n ≤ most_states → codes_reading n (lines_of (take most_bytes text)) ≡ codes_reading n (lines_of text)
codes-decided n text few = go (ltb most_bytes (length text)) refl
  where
    go : (b : Bool) → ltb most_bytes (length text) ≡ b → codes_reading n (lines_of (take most_bytes text)) ≡ codes_reading n (lines_of text)
    go false e = ap (λ (x : List ℕ). codes_reading n (lines_of x)) (take_all most_bytes text (omega (arith, ltb-false most_bytes (length text) e)))
    go true e =
        let long : length (take most_bytes text) ≡ most_bytes = omega (arith, length-take most_bytes text, ltb-true most_bytes (length text) e) in
        sym (reading-first n (take most_bytes text) (drop most_bytes text) (omega (arith, long)))
        ∙ ap (λ (x : List ℕ). codes_reading n (lines_of x)) (take-append-drop most_bytes text)
