-- The lines of a cover in the tables: what those rows say that fire is what the lines say that fire, and the listing's rows stand as they stood.
use Rattle.rules.specs.declared.Refusal.{Refusal}
use Rattle.std.specs.Prelude.{Result, Ok, Err}
use mathlib.Core.Path.{◌≡◌, refl, sym, ap, ap₂, subst, ◌∙◌}
use mathlib.Core.Logic.{◌⊎◌, inl, inr}
use mathlib.Core.Bool.{Bool, true, false, ◌&&◌, ◌||◌, cond, or-false, or_assoc, or_comm}
use mathlib.Core.List.{List, [], ◌∷◌}
use Prim.Native.Nat.{ℕ, zero, suc, ◌+◌, ◌*◌, ◌-◌, ◌≤◌, ◌<◌, min}
use native.Mathlib.Decide.{ℕ_discrete}
use native.Mathlib.Omega.{arith}
use lib.Dec.{eqb, ltb}
use lib.ListN.{length, get_or, take}
use borrow.Author.Tests.{ltb-true, ltb-false}
use Rattle.sets.specs.Sets.{has}
use Rattle.sets.proofs.Every.{and_first, and_second}
use Rattle.rules.specs.Limits.{most_states, most_checked}
use Rattle.rules.specs.Text.{dot, field_at, fields_of}
use Rattle.rules.specs.Listing.{no_pattern, some}
use Rattle.rules.specs.CheckTexts.{no_heads, places_fit, row_good, with_row, cover_line, cover_from, cover_reading}
use Rattle.rules.specs.declared.CoverPart.TheVariants.{Rows}
use Rattle.rules.specs.Refusals.{Verdict, refused}
use Rattle.rules.specs.declared.Head.{Head}
use Rattle.rules.specs.declared.Row.{Row}
use Rattle.rules.specs.declared.CoverHeads.{CoverHeads}
use Rattle.rules.proofs.Ways.{not-accepted}
use Rattle.judge_search.specs.Rows.{any_from, row_fires}
use Rattle.judge_search.proofs.RowFires.{row-fires, row-silent}
use Rattle.judge_search.proofs.Gathered.{any_none}
use Rattle.judge_rows.specs.Rows.{laid, firing_list, saying_list, line_firing, line_saying, line_laid}
use Rattle.judge_rows.proofs.Tables.{Wide, laid-length, laid-before, laid-behind, laid-row}
use Rattle.judge_rows.proofs.Laws.{line-put}
use Rattle.judge_rows.proofs.Listed.{Stand}
use Rattle.judge_rows.proofs.Standing.{stand-line}
use Rattle.judge_reading.specs.Tables.{is_laid, row_laid, tables_from}
use Rattle.judge_reading.specs.declared.Reader.{Reader}
use Rattle.judge_reading.proofs.Laws.{no_row, row_laid_lem}
use Rattle.judge_reading.proofs.LineKinds.{Dotted, Counted, Fits, line_read, end_none, rows_fit}

-- ---- one row more

any_same : (p q : ℕ → Bool) (a k : ℕ) → ((r : ℕ) → a ≤ r → q r ≡ p r) → any_from q a k ≡ any_from p a k
unfolding any_from
any_same p q a zero h = refl
any_same p q a (suc k) h = ap₂ ◌||◌ (h a (omega arith)) (any_same p q (suc a) k (λ r l. h r (omega arith)))

any-put : (p q : ℕ → Bool) (r : ℕ) → p r ≡ false → ((x : ℕ) → (x ≡ r → ⊥) → q x ≡ p x) → (a k : ℕ) → a ≤ r → r < a + k → any_from q a k ≡ (any_from p a k || q r)
unfolding any_from
any-put p q r none other a zero l m = absurd (omega arith)
any-put p q r none other a (suc k) l m = go (ℕ_discrete a r) (any-put p q r none other (suc a) k)
  where
    go : Dec (a ≡ r) → (suc a ≤ r → r < suc a + k → any_from q (suc a) k ≡ (any_from p (suc a) k || q r)) → (q a || any_from q (suc a) k) ≡ ((p a || any_from p (suc a) k) || q r)
    go (yes e) later =
        ap₂ ◌||◌ (ap q e) (any_same p q (suc a) k (λ x h. other x (λ f. omega arith)))
        ∙ or_comm (q r) (any_from p (suc a) k)
        ∙ ap (λ (b : Bool). (b || any_from p (suc a) k) || q r) (sym (ap p e ∙ none))
    go (no o) later =
        ap₂ ◌||◌ (other a o) (later (omega (arith, o)) (omega arith))
        ∙ sym (or_assoc (p a) (any_from p (suc a) k) (q r))

-- ---- the rows of two tables that have the same numbers fire alike

abbrev as_row : List ℕ → ℕ → Row
as_row table r = record { input = record { ones = get_or table (r * 3) 0; dashes = get_or table (r * 3 + 1) 0 }; group = get_or table (r * 3 + 2) 0; next = 0; outputs = no_pattern; line = 0 }

abbrev head_of : ℕ → Head
head_of i = record { states = 0; inputs = i; outputs = 0; width = 0; keeps = false; moore = false }

fires-alike : (a b : List ℕ) (i s v r : ℕ) → get_or b (r * 3) 0 ≡ get_or a (r * 3) 0 → get_or b (r * 3 + 1) 0 ≡ get_or a (r * 3 + 1) 0 → get_or b (r * 3 + 2) 0 ≡ get_or a (r * 3 + 2) 0
    → row_fires b i s v r ≡ row_fires a i s v r
fires-alike a b i s v r x y z = row-fires b r (head_of i) (as_row a r) s v x y z ∙ sym (row-fires a r (head_of i) (as_row a r) s v refl refl refl)

one-wide : (w : ℕ) (e : List ℕ) → length e ≡ w → Wide w (e ∷ [])
one-wide w e long zero l = long
one-wide w e long (suc k) l = absurd (omega arith)

-- one row laid, others stay
rise : (w x k f : ℕ) → f < w → x * w + f < (suc x + k) * w
rise w x k f h = let e : (suc x + k) * w ≡ x * w + w + k * w = omega arith in omega arith

fall : (w r k f : ℕ) → (r + 1) * w ≤ (r + 1 + k) * w + f
fall w r k f = let e : (r + 1 + k) * w ≡ (r + 1) * w + k * w = omega arith in omega arith

module _ (w r : ℕ) (e l : List ℕ) (long : length e ≡ w) (x f : ℕ) (within : f < w) where
  rising : x < r → x * w + f < r * w
  rising h = let a : suc x + (r - suc x) ≡ r = omega arith in subst (λ (n : ℕ). x * w + f < n * w) a (rise w x (r - suc x) f within)

  falling : r < x → (r + 1) * w ≤ x * w + f
  falling h = let a : r + 1 + (x - suc r) ≡ x = omega arith in subst (λ (n : ℕ). (r + 1) * w ≤ n * w + f) a (fall w r (x - suc r) f)

  other_row : (x ≡ r → ⊥) → get_or (laid w r (e ∷ []) l) (x * w + f) 0 ≡ get_or l (x * w + f) 0
  other_row o = go (ltb x r) refl
    where
      go : (b : Bool) → ltb x r ≡ b → get_or (laid w r (e ∷ []) l) (x * w + f) 0 ≡ get_or l (x * w + f) 0
      go true q = laid-before w r (e ∷ []) l (x * w + f) (rising (ltb-true x r q))
      go false q =
          let h : r < x = omega (arith, ltb-false x r q, o) in
          laid-behind w r (e ∷ []) l (x * w + f) (one-wide w e long) (falling h)

-- the row itself
this-row : (w r : ℕ) (e l : List ℕ) (f : ℕ) → length e ≡ w → (r + 1) * w ≤ length l → f < w → get_or (laid w r (e ∷ []) l) (r * w + f) 0 ≡ get_or e f 0
this-row w r e l f long fits h =
    let at : r * w + f ≡ (r + 0) * w + f = ap (λ (n : ℕ). n * w + f) (omega arith) in
    ap (λ (k : ℕ). get_or (laid w r (e ∷ []) l) k 0) at ∙ laid-row w r (e ∷ []) l 0 f (one-wide w e long) fits (omega arith) h

-- ---- what the rows of the cover say that fire

abbrev pub Tables : Type 0
Tables = List ℕ × List ℕ

-- there is room for the rows to come: they fire in no state
pub record Room (h : CoverHeads) (t : Tables) : Type 0 where
  pub fires : length t.0 ≡ 1344
  pub says : length t.1 ≡ 1792
  pub rest : (r : ℕ) → 192 + h.rows ≤ r → r < 448 → get_or t.0 (r * 3 + 2) 0 ≡ 0

-- a row of a cover that fits
abbrev pub GoodRow : Reader → List ℕ → Type 0
GoodRow q l = (places_fit q.taken (field_at l 0) ≡ true) × (places_fit q.given (field_at l 1) ≡ true)

module _ (q : Reader) where
  abbrev i : ℕ
  i = q.inputs

  abbrev codes : List ℕ
  codes = take (min q.states most_states) q.codes.table

  abbrev w : ℕ
  w = q.codes.width

  good-row : (h : CoverHeads) (l : List ℕ) → row_good h l ≡ true → Fits q.taken q.given h → GoodRow q l
  unfolding row_good
  good-row h l e f =
      let a = eqb (length (fields_of l)) 2 in
      let b = places_fit h.inputs (field_at l 0) in
      let c = places_fit h.outputs (field_at l 1) in
      let bc : (b && c) ≡ true = and_second a (b && c) e in
      (ap (λ (n : ℕ). places_fit n (field_at l 0)) (sym f.0) ∙ and_first b c bc, ap (λ (n : ℕ). places_fit n (field_at l 1)) (sym f.1) ∙ and_second b c bc)

  abbrev put : ℕ → List ℕ → Tables → Tables
  put r l t = (laid 3 r (firing_list (line_firing i codes l) ∷ []) t.0, laid 4 r (saying_list (line_saying w l) ∷ []) t.1)

  -- a row is put at its place
  row_put : (h : CoverHeads) (l : List ℕ) (t : Tables) → h.rows < most_checked → Fits q.taken q.given h → row_laid q h (with_row h) l t ≡ put (192 + h.rows) l t
  row_put h l t few f =
      sym (row_laid_lem q h (with_row h) l t (omega arith) few f.0 f.1 (line-put i codes w (192 + h.rows) l t.0 t.1 (omega arith) refl refl refl refl))

  module _ (s v f j : ℕ) (within : f < 4) (line : List ℕ → Bool)
      (as_line : (l : List ℕ) → GoodRow q l → (table : List ℕ) (r : ℕ) → get_or table (r * 3) 0 ≡ (line_firing i codes l).ones → get_or table (r * 3 + 1) 0 ≡ (line_firing i codes l).dashes → get_or table (r * 3 + 2) 0 ≡ (line_firing i codes l).states
      → (row_fires table i s v r && eqb (has (get_or (saying_list (line_saying w l)) f 0) j) 1) ≡ line l)
      (dotted : (l cs : List ℕ) → field_at l 0 ≡ dot ∷ cs → line l ≡ false) (empty : line [] ≡ false) where
    abbrev p : Tables → ℕ → Bool
    p t r = row_fires t.0 i s v r && eqb (has (get_or t.1 (r * 4 + f) 0) j) 1

    abbrev any : Tables → Bool
    any t = any_from (p t) 192 256

    silent : (t : Tables) (r : ℕ) → get_or t.0 (r * 3 + 2) 0 ≡ 0 → p t r ≡ false
    silent t r e = ap (λ (b : Bool). b && eqb (has (get_or t.1 (r * 4 + f) 0) j) 1) (row-silent t.0 r i s v e)

    -- one row more
    module _ (h : CoverHeads) (l : List ℕ) (t : Tables) (room : Room h t) (few : h.rows < most_checked) (good : GoodRow q l) where
      abbrev r : ℕ
      r = 192 + h.rows

      abbrev u : Tables
      u = put (192 + h.rows) l t

      abbrev fl : List ℕ
      fl = firing_list (line_firing i codes l)

      put-at : (m : ℕ) → m < 3 → get_or u.0 (r * 3 + m) 0 ≡ get_or fl m 0
      put-at m k = this-row 3 r fl t.0 m refl (omega (arith, room.fires)) k

      put-this : p u r ≡ line l
      put-this =
          ap (λ (n : ℕ). row_fires u.0 i s v r && eqb (has n j) 1) (this-row 4 r (saying_list (line_saying w l)) t.1 f refl (omega (arith, room.says)) within)
          ∙ as_line l good u.0 r (ap (λ (n : ℕ). get_or u.0 n 0) (omega arith) ∙ put-at 0 (omega arith)) (put-at 1 (omega arith)) (put-at 2 (omega arith))

      put_other : (x : ℕ) → (x ≡ r → ⊥) → p u x ≡ p t x
      put_other x o =
          let first : x * 3 ≡ x * 3 + 0 = omega arith in
          ap₂ (λ (b : Bool) (n : ℕ). b && eqb (has n j) 1)
          (fires-alike t.0 u.0 i s v x
          (ap (λ (n : ℕ). get_or u.0 n 0) first ∙ other_row 3 r fl t.0 refl x 0 (omega arith) o ∙ ap (λ (n : ℕ). get_or t.0 n 0) (sym first))
          (other_row 3 r fl t.0 refl x 1 (omega arith) o) (other_row 3 r fl t.0 refl x 2 (omega arith) o))
          (other_row 4 r (saying_list (line_saying w l)) t.1 refl x f within o)

      put-says : any u ≡ (any t || line l)
      put-says =
          any-put (p t) (p u) r (silent t r (room.rest r (omega arith) (omega arith))) put_other 192 256 (omega arith) (omega arith) ∙ ap (λ (b : Bool). any t || b) put-this

    put-room : (h : CoverHeads) (l : List ℕ) (t : Tables) → Room h t → Room (with_row h) (put (192 + h.rows) l t)
    put-room h l t room = record {
      fires = laid-length 3 (192 + h.rows) (firing_list (line_firing i codes l) ∷ []) t.0 ∙ room.fires;
      says = laid-length 4 (192 + h.rows) (saying_list (line_saying w l) ∷ []) t.1 ∙ room.says;
      rest = λ r a b. other_row 3 (192 + h.rows) (firing_list (line_firing i codes l)) t.0 refl r 2 (omega arith) (λ e. omega arith) ∙ room.rest r (omega arith) b;
    }

    -- what a line does
    step : (h g : CoverHeads) (l : List ℕ) (t : Tables) → cover_line h l ≡ Ok g → (h.part ≡ Rows → Fits q.taken q.given h) → Room h t → Room g (row_laid q h g l t) × (any (row_laid q h g l t) ≡ (any t || line l))
    step h g l t e fits room = go (line_read h g l e)
      where
        go : Dotted h g l ⊎ Counted h g l → Room g (row_laid q h g l t) × (any (row_laid q h g l t) ≡ (any t || line l))
        go (inl d) =
            let stays : t ≡ row_laid q h g l t = no_row q h g l t (omega (arith, d.0)) in (
              subst (Room g) stays (record { fires = room.fires; says = room.says; rest = λ r a b. room.rest r (omega (arith, d.0)) b }),
              ap any (sym stays) ∙ sym (or-false (any t)) ∙ ap (λ (b : Bool). any t || b) (sym (dotted l d.2 d.3)),
            )
        go (inr d) =
            let fit : Fits q.taken q.given h = fits d.0 in
            let laid_so : row_laid q h g l t ≡ put (192 + h.rows) l t = ap (λ (c : CoverHeads). row_laid q h c l t) d.3 ∙ row_put h l t d.2 fit in (
              subst (Room g) (sym laid_so) (subst (λ (c : CoverHeads). Room c (put (192 + h.rows) l t)) (sym d.3) (put-room h l t room)),
              ap any laid_so ∙ put-says h l t room d.2 (good-row h l d.1 fit),
            )

    covered-from : (k : ℕ) (h : CoverHeads) (ls : List (List ℕ)) (t : Tables) → Room h t → cover_from q.taken q.given k h ls ≡ Ok tt → any (tables_from q h ls t) ≡ (any t || some line ls)
    unfolding cover_from tables_from some
    covered-from k h [] t room ok = absurd (not-accepted ok)
    covered-from k h (l ∷ []) t room ok =
        sym (ap (λ (b : Bool). any t || (b || false)) (ap line (end_none q.taken q.given k h l ok).0 ∙ empty) ∙ or-false (any t))
    covered-from k h (l ∷ (m ∷ ms)) t room ok = go (cover_line h l) refl ok (λ g u. covered-from (k + 1) g (m ∷ ms) u)
      where
        go : (c : Result CoverHeads Refusal) → cover_line h l ≡ c → ◌≡◌ {A = Verdict} (elim c [ Ok g ↦ cover_from q.taken q.given (k + 1) g (m ∷ ms) | Err refusal ↦ refused refusal k ]) (Ok tt)
            → ((g : CoverHeads) (u : Tables) → Room g u → cover_from q.taken q.given (k + 1) g (m ∷ ms) ≡ Ok tt → any (tables_from q g (m ∷ ms) u) ≡ (any u || some line (m ∷ ms)))
            → any (elim c [ Ok g ↦ tables_from q g (m ∷ ms) (row_laid q h g l t) | Err r ↦ t ]) ≡ (any t || (line l || some line (m ∷ ms)))
        go (Ok g) e fine later =
            let done = step h g l t e (λ part. rows_fit q.taken q.given k h (l ∷ (m ∷ ms)) part ok) room in
            later g (row_laid q h g l t) done.0 fine ∙ ap (λ (b : Bool). b || some line (m ∷ ms)) done.1 ∙ or_assoc (any t) (line l) (some line (m ∷ ms))
        go (Err r) e fine later = absurd (not-accepted fine)

    -- from tables that hold no row of a cover
    pub covered-lines : (ls : List (List ℕ)) (t : Tables) → Room no_heads t → cover_reading q.taken q.given ls ≡ Ok tt → any (tables_from q no_heads ls t) ≡ some line ls
    unfolding cover_reading
    covered-lines ls t room ok =
        covered-from 1 no_heads ls t room ok
        ∙ ap (λ (b : Bool). b || some line ls) (any_none (p t) 192 256 (λ r a b. silent t r (room.rest r (omega arith) (omega arith))))

-- ---- the listing's rows

module _ (q : Reader) (rows : List Row) (codes : List ℕ) where
  stand-laid : (r : ℕ) (l : List ℕ) (t : Tables) → 192 ≤ r → (i w : ℕ) (cs : List ℕ) → Stand rows codes t.0 t.1 → Stand rows codes (line_laid i cs w r l t).0 (line_laid i cs w r l t).1
  unfolding line_laid
  stand-laid r l t h i w cs stand = go (ltb r 448)
    where
      u : Tables
      u = (laid 3 r (firing_list (line_firing i cs l) ∷ []) t.0, laid 4 r (saying_list (line_saying w l) ∷ []) t.1)

      go : (b : Bool) → Stand rows codes (cond b u t).0 (cond b u t).1
      go true = stand-line rows codes t.0 t.1 r (firing_list (line_firing i cs l) ∷ []) (saying_list (line_saying w l) ∷ []) h stand
      go false = stand

  stand-row : (h g : CoverHeads) (l : List ℕ) (t : Tables) → Stand rows codes t.0 t.1 → Stand rows codes (row_laid q h g l t).0 (row_laid q h g l t).1
  unfolding row_laid
  stand-row h g l t stand = go (is_laid q h g)
    where
      u : Tables
      u = line_laid q.inputs (take (min q.states most_states) q.codes.table) q.codes.width (192 + h.rows) l t

      go : (b : Bool) → Stand rows codes (cond b u t).0 (cond b u t).1
      go true = stand-laid (192 + h.rows) l t (omega arith) q.inputs q.codes.width (take (min q.states most_states) q.codes.table) stand
      go false = stand

  pub stand-cover : (h : CoverHeads) (ls : List (List ℕ)) (t : Tables) → Stand rows codes t.0 t.1 → Stand rows codes (tables_from q h ls t).0 (tables_from q h ls t).1
  unfolding tables_from
  stand-cover h [] t stand = stand
  stand-cover h (l ∷ []) t stand = stand
  stand-cover h (l ∷ (m ∷ ms)) t stand = go (cover_line h l) (λ g u. stand-cover g (m ∷ ms) u)
    where
      behind : Result CoverHeads Refusal → Tables
      behind c = elim c [ Ok g ↦ tables_from q g (m ∷ ms) (row_laid q h g l t) | Err refusal ↦ t ]

      go : (c : Result CoverHeads Refusal) → ((g : CoverHeads) (u : Tables) → Stand rows codes u.0 u.1 → Stand rows codes (tables_from q g (m ∷ ms) u).0 (tables_from q g (m ∷ ms) u).1) → Stand rows codes (behind c).0 (behind c).1
      go (Ok g) later = later g (row_laid q h g l t) (stand-row h g l t stand)
      go (Err r) later = stand
