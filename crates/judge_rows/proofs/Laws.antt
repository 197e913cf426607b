-- Rows in their tables, and the states that take a line's characters, step by step as loops have them.
use mathlib.Core.Path.{◌≡◌, refl, sym, ap, ap₂, ◌∙◌}
use mathlib.Core.Bool.{Bool, true, false, ◌&&◌, ◌||◌, cond}
use mathlib.Core.List.{List, [], ◌∷◌, map}
use Prim.Native.Nat.{ℕ, zero, suc, ◌+◌, ◌*◌, ◌-◌, ◌%◌, ◌^◌, ◌≤◌, ◌<◌, min}
use native.Mathlib.Nat.{pow-suc}
use native.Mathlib.Numerals.{add-one}
use native.Mathlib.Omega.{arith}
use mir.Val.{bool_byte}
use lib.Bits.{bit_and, bit_xor, and_mask, and_lt, xor_lt}
use lib.Count.{count_trailing_zeros}
use lib.Dec.{eqb, leb, ltb}
use lib.ListN.{length, take, drop, get_or, set, length-take, length-drop, drop_of_length-le}
use lib.Pow.{pow_mono}
use lib.Seq.{drop-cons, get_or-take}
use borrow.Author.Tests.{eq-eqb, ne_eqb, le-ltb, lt-ltb}
use Rattle.sets.specs.Sets.{has, every}
use Rattle.sets.proofs.Every.{every-same}
use Rattle.sets.proofs.Members.{has-lt, has-and, has-xor, has-not, not-lt}
use Rattle.rules.specs.Limits.{most_states}
use Rattle.rules.specs.Text.{digit, nought, one, dash, field_at, all_of, set_of, sized}
use Rattle.rules.specs.declared.Row.{Row}
use Rattle.sharing.proofs.Inputs.{none-low}
use Rattle.judge_search.specs.declared.Said.{Said}
use Rattle.judge_rows.specs.Rows.{laid_at, laid, firing_list, saying_list, code_at, row_firing, row_saying, listing_laid, marks_of, takes_digit, states_taking, line_firing, line_saying, line_laid}
use Rattle.judge_search.specs.declared.Firing.{Firing}
use Rattle.judge_rows.specs.declared.Marks.{Marks}

-- ---- a row in a table

pub three-laid : (r : ℕ) (f : Firing) (l : List ℕ) → set (set (set l (r * 3) f.ones) (r * 3 + 1) f.dashes) (r * 3 + 2) f.states ≡ laid 3 r (firing_list f ∷ []) l
unfolding laid laid_at
three-laid r f l =
    let e : r * 3 + 2 ≡ r * 3 + 1 + 1 = omega arith in
    ap (λ (at : ℕ). set (set (set l (r * 3) f.ones) (r * 3 + 1) f.dashes) at f.states) e

pub four-laid : (r : ℕ) (s : Said) (l : List ℕ) → set (set (set (set l (r * 4) s.a) (r * 4 + 1) s.b) (r * 4 + 2) s.c) (r * 4 + 3) s.d ≡ laid 4 r (saying_list s ∷ []) l
unfolding laid laid_at
four-laid r s l =
    let e : r * 4 + 2 ≡ r * 4 + 1 + 1 = omega arith in
    let f : r * 4 + 3 ≡ r * 4 + 1 + 1 + 1 = omega arith in
    ap₂ (λ (at to : ℕ). set (set (set (set l (r * 4) s.a) (r * 4 + 1) s.b) at s.c) to s.d) e f

-- one row of some, and the others
laid_next : (w r : ℕ) (e : List ℕ) (es : List (List ℕ)) (l : List ℕ) {m : List ℕ} → m ≡ laid w r (e ∷ []) l → laid w (r + 1) es m ≡ laid w r (e ∷ es) l
unfolding laid
laid_next w r e es l q = ap₂ (λ (k : ℕ) (m : List ℕ). laid w k es m) (add-one r) q

pub listing-next : (codes : List ℕ) (k : ℕ) (row : Row) (rest rows : List Row) (fires says : List ℕ) {f : Firing} {s : Said} {fires' says' : List ℕ}
    → rows ≡ row ∷ rest → f ≡ row_firing row → s ≡ row_saying codes row → fires' ≡ laid 3 k (firing_list f ∷ []) fires → says' ≡ laid 4 k (saying_list s ∷ []) says
    → listing_laid codes (k + 1) rest (fires', says') ≡ listing_laid codes k rows (fires, says)
unfolding listing_laid
listing-next codes k row rest rows fires says e p q x y =
    ap₂ (λ (a b : List ℕ). (a, b))
    (laid_next 3 k (firing_list (row_firing row)) (map (λ q. firing_list (row_firing q)) rest) fires (x ∙ ap (λ (g : Firing). laid 3 k (firing_list g ∷ []) fires) p))
    (laid_next 4 k (saying_list (row_saying codes row)) (map (λ q. saying_list (row_saying codes q)) rest) says (y ∙ ap (λ (g : Said). laid 4 k (saying_list g ∷ []) says) q))
    ∙ ap (λ (rs : List Row). listing_laid codes k rs (fires, says)) (sym e)

pub listing-over : (codes : List ℕ) (k : ℕ) (rows : List Row) (t : List ℕ × List ℕ) → rows ≡ [] → t ≡ listing_laid codes k rows t
unfolding listing_laid laid
listing-over codes k rows t e = sym (ap (λ (rs : List Row). listing_laid codes k rs t) e)

-- ---- the code of the state named

pub code-none : (codes : List ℕ) (next : ℕ) → next ≡ 0 → 0 ≡ code_at codes next
unfolding code_at
code-none codes next e = sym (ap (λ (b : Bool). cond b 0 (get_or codes (count_trailing_zeros most_states next) 0)) (eq-eqb next 0 e))

pub code-some : (codes : List ℕ) (next : ℕ) {s : ℕ} → (next ≡ 0 → ⊥) → s ≡ count_trailing_zeros 64 next → get_or codes s 0 ≡ code_at codes next
unfolding code_at
code-some codes next o e = ap (λ (s : ℕ). get_or codes s 0) e ∙ sym (ap (λ (b : Bool). cond b 0 (get_or codes (count_trailing_zeros most_states next) 0)) (ne_eqb next 0 o))

-- ---- some characters

marks-by : (f : List ℕ) {b : Bool} → (leb (length f) 64 && all_of nought one dash f) ≡ b → marks_of f ≡ cond b (record { ones = set_of one f; dashes = set_of dash f }) (record { ones = 0; dashes = 0 })
unfolding marks_of
marks-by f e = rw e

sized-own : (f : List ℕ) → sized 64 (length f) nought one dash f ≡ (leb (length f) 64 && all_of nought one dash f)
unfolding sized
sized-own f = rw (eq-eqb (length f) (length f) refl)

pub marks-bad : (f : List ℕ) → sized 64 (length f) nought one dash f ≡ false → ◌≡◌ {A = Marks} (record { ones = 0; dashes = 0 }) (marks_of f)
marks-bad f e = sym (marks-by f (sym (sized-own f) ∙ e))

pub marks-good : (f : List ℕ) {m n : ℕ} → sized 64 (length f) nought one dash f ≡ true → m ≡ set_of one f → n ≡ set_of dash f → ◌≡◌ {A = Marks} (record { ones = m; dashes = n }) (marks_of f)
marks-good f e p q = ap₂ {C = Marks} (λ (m n : ℕ). record { ones = m; dashes = n }) p q ∙ sym (marks-by f (sym (sized-own f) ∙ e))

-- ---- whether they take a code

one_way : (d o c : ℕ) → d < 2 → o < 2 → c < 2 → eqb (min ((o + c) % 2) (1 - d)) 0 ≡ (eqb d 1 || eqb o c)
one_way zero zero zero a b e = refl
one_way zero zero (suc zero) a b e = refl
one_way zero (suc zero) zero a b e = refl
one_way zero (suc zero) (suc zero) a b e = refl
one_way (suc zero) zero zero a b e = refl
one_way (suc zero) zero (suc zero) a b e = refl
one_way (suc zero) (suc zero) zero a b e = refl
one_way (suc zero) (suc zero) (suc zero) a b e = refl
one_way (suc (suc d)) o c a b e = absurd (omega arith)
one_way zero (suc (suc o)) c a b e = absurd (omega arith)
one_way (suc zero) (suc (suc o)) c a b e = absurd (omega arith)
one_way zero zero (suc (suc c)) a b e = absurd (omega arith)
one_way zero (suc zero) (suc (suc c)) a b e = absurd (omega arith)
one_way (suc zero) zero (suc (suc c)) a b e = absurd (omega arith)
one_way (suc zero) (suc zero) (suc (suc c)) a b e = absurd (omega arith)

module _ (p : Marks) (code : ℕ) (ho : p.ones < 2 ^ 64) (hd : p.dashes < 2 ^ 64) (hc : code < 2 ^ 64) where
  abbrev unlike : ℕ
  unlike = bit_and (bit_xor p.ones code) ((2 ^ 64 - 1) - p.dashes)

  taken-mask : eqb unlike 0 ≡ every 64 (λ k. eqb (has p.dashes k) 1 || eqb (has p.ones k) (has code k))
  taken-mask =
      let small : unlike < 2 ^ 64 = and_lt 64 _ _ (xor_lt 64 p.ones code ho hc) (not-lt 64 p.dashes) in
      let m : bit_and unlike (2 ^ 64 - 1) ≡ unlike = and_mask unlike 64 ∙ omega (arith, small) in
      ap (λ (u : ℕ). eqb u 0) (sym m)
      ∙ none-low 64 unlike
      ∙ every-same 64 _ _ (λ s l. rw (has-and (bit_xor p.ones code) ((2 ^ 64 - 1) - p.dashes) s, has-not 64 p.dashes s hd l, has-xor p.ones code s) (one_way (has p.dashes s) (has p.ones s) (has code s) (has-lt p.dashes s) (has-lt p.ones s) (has-lt code s)))

  pub takes-is : {d : ℕ} → d ≡ bool_byte (eqb unlike 0) → d ≡ takes_digit p code
  unfolding takes_digit
  takes-is e = e ∙ as_digit (eqb unlike 0) ∙ ap digit taken-mask
    where
      as_digit : (b : Bool) → bool_byte b ≡ digit b
      as_digit true = refl
      as_digit false = refl

-- ---- the states, from the last

takes-le : (p : Marks) (code : ℕ) → takes_digit p code ≤ 1
unfolding takes_digit
takes-le p code = go (every 64 (λ k. eqb (has p.dashes k) 1 || eqb (has p.ones k) (has code k)))
  where
    go : (b : Bool) → digit b ≤ 1
    go true = omega arith
    go false = omega arith

taking-lt : (p : Marks) (cs : List ℕ) → states_taking p cs < 2 ^ length cs
unfolding states_taking
taking-lt p [] = omega arith
taking-lt p (c ∷ cs) = omega (arith, taking-lt p cs, takes-le p c, pow-suc 2 (length cs))

module _ (p : Marks) (codes : List ℕ) (n s : ℕ) (long : length codes ≡ 64) (few : n ≤ 64) (some : 0 < s) (within : s ≤ n) where
  pub taking-room : {m : ℕ} → m ≡ states_taking p (drop s (take n codes)) → m * 2 + 1 < 2 ^ 64
  taking-room e =
      let l : length (drop s (take n codes)) ≡ n - s = length-drop s (take n codes) ∙ omega (arith, length-take n codes) in
      let le : suc (n - s) ≤ 64 = omega arith in
      let h : 2 ^ suc (n - s) ≤ 2 ^ 64 = pow_mono le in
      let t : states_taking p (drop s (take n codes)) < 2 ^ (n - s) = rw l at (taking-lt p (drop s (take n codes))) in
      omega (arith, e, t, pow-suc 2 (n - s), h)

  pub taking-back : {m d : ℕ} → m ≡ states_taking p (drop s (take n codes)) → d ≡ takes_digit p (get_or codes (s - 1) 0) → m * 2 + d ≡ states_taking p (drop (s - 1) (take n codes))
  unfolding states_taking
  taking-back e f =
      let q : suc (s - 1) ≡ s = omega arith in
      let in_take : s - 1 < length (take n codes) = omega (arith, length-take n codes) in
      ap₂ (λ (a b : ℕ). a * 2 + b) (e ∙ ap (λ (k : ℕ). states_taking p (drop k (take n codes))) (sym q)) (f ∙ ap (takes_digit p) (sym (get_or-take n codes (s - 1) 0 (omega arith))))
      ∙ sym (ap (states_taking p) (drop-cons (take n codes) (s - 1) 0 in_take))

pub taking-small : (p : Marks) (code : ℕ) {d : ℕ} → d ≡ takes_digit p code → d ≤ 1
taking-small p code e = omega (arith, e, takes-le p code)

pub taking-end : (p : Marks) (codes : List ℕ) (n : ℕ) → length codes ≡ 64 → n ≤ 64 → 0 ≡ states_taking p (drop n (take n codes))
unfolding states_taking
taking-end p codes n long few = sym (ap (states_taking p) (drop_of_length-le (take n codes) {i = n} (omega (arith, length-take n codes))))

-- ---- a line of a cover

pub firing-made : (i : ℕ) (codes l : List ℕ) {f g h : List ℕ} {at code : Marks} {s : ℕ} → f ≡ field_at l 0 → g ≡ take i f → at ≡ marks_of g → h ≡ drop i f → code ≡ marks_of h → s ≡ states_taking code codes
    → ◌≡◌ {A = Firing} (record { ones = at.ones; dashes = at.dashes; states = s }) (line_firing i codes l)
unfolding line_firing
firing-made i codes l {at = at} e p q r t u =
    ap₂ {C = Firing} (λ (m : Marks) (s : ℕ). record { ones = m.ones; dashes = m.dashes; states = s }) (q ∙ ap marks_of (p ∙ ap (take i) e)) (u ∙ ap (λ (m : Marks). states_taking m codes) (t ∙ ap marks_of (r ∙ ap (drop i) e)))

pub saying-made : (w : ℕ) (l : List ℕ) {f g h : List ℕ} {next outputs : Marks} → f ≡ field_at l 1 → g ≡ take w f → next ≡ marks_of g → h ≡ drop w f → outputs ≡ marks_of h
    → ◌≡◌ {A = Said} (record { a = next.ones; b = next.dashes; c = outputs.ones; d = outputs.dashes }) (line_saying w l)
unfolding line_saying
saying-made w l e p q r t =
    ap₂ {C = Said} (λ (m n : Marks). record { a = m.ones; b = m.dashes; c = n.ones; d = n.dashes }) (q ∙ ap marks_of (p ∙ ap (take w) e)) (t ∙ ap marks_of (r ∙ ap (drop w) e))

module _ (i : ℕ) (codes : List ℕ) (w r : ℕ) (l : List ℕ) (fires says : List ℕ) where
  line-by : {b : Bool} → ltb r 448 ≡ b → line_laid i codes w r l (fires, says) ≡ cond b (laid 3 r (firing_list (line_firing i codes l) ∷ []) fires, laid 4 r (saying_list (line_saying w l) ∷ []) says) (fires, says)
  unfolding line_laid
  line-by e = ap (λ (b : Bool). cond b (laid 3 r (firing_list (line_firing i codes l) ∷ []) fires, laid 4 r (saying_list (line_saying w l) ∷ []) says) (fires, says)) e

  pub line-past : 448 ≤ r → (fires, says) ≡ line_laid i codes w r l (fires, says)
  line-past h = sym (line-by (le-ltb _ _ h))

  pub line-put : {f : Firing} {s : Said} {fires' says' : List ℕ} → r < 448 → f ≡ line_firing i codes l → s ≡ line_saying w l → fires' ≡ laid 3 r (firing_list f ∷ []) fires → says' ≡ laid 4 r (saying_list s ∷ []) says
      → (fires', says') ≡ line_laid i codes w r l (fires, says)
  line-put h e g p q =
      ap₂ (λ (a b : List ℕ). (a, b)) (p ∙ ap (λ (x : Firing). laid 3 r (firing_list x ∷ []) fires) e) (q ∙ ap (λ (x : Said). laid 4 r (saying_list x ∷ []) says) g) ∙ sym (line-by (lt-ltb _ _ h))
