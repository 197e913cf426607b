-- Bytes parted at each q: the first piece, where it ends, and what is left behind it.
use mathlib.Core.Path.{◌≡◌, refl, ap, ◌∙◌}
use mathlib.Core.Logic.{⊎_elim}
use mathlib.Core.Bool.{Bool, true, false, cond}
use mathlib.Core.List.{List, [], ◌∷◌}
use Prim.Native.Nat.{ℕ, suc, ◌+◌, ◌-◌, ◌≤◌, ◌<◌}
use native.Mathlib.Nat.{eq-or-lt_of_le}
use native.Mathlib.Omega.{arith}
use lib.ListN.{length, get_or, take, drop, length-drop, drop_of_length-le}
use lib.Seq.{drop-drop}
use lib.Dec.{eqb}
use borrow.Author.Tests.{eqb-true, eq-eqb, ne_eqb}
use Rattle.rules.specs.Text.{push, split}
use Rattle.read_fields.proofs.Characters.{drop-one}
use Rattle.read_pieces.specs.Pieces.{end_of}

-- the bytes from a to e
abbrev pub part : List ℕ → ℕ → ℕ → List ℕ
part l a e = take (e - a) (drop a l)

-- ---- where a piece ends

pub end-here : (q : ℕ) (l : List ℕ) (i : ℕ) → i < length l → get_or l i 0 ≡ q → end_of q l i ≡ i
unfolding end_of
end-here q l i h e = rw (drop-one l i h, eq-eqb _ _ e) (omega arith)

push-first : (x : ℕ) (ps : List (List ℕ)) → length (get_or (push x ps) 0 []) ≡ suc (length (get_or ps 0 []))
push-first x [] = refl
push-first x (p ∷ ps) = refl

pub end_on : (q : ℕ) (l : List ℕ) (i : ℕ) → i < length l → (get_or l i 0 ≡ q → ⊥) → end_of q l i ≡ end_of q l (i + 1)
unfolding end_of
end_on q l i h n = rw (drop-one l i h, ne_eqb _ _ n) (omega (arith, push-first (get_or l i 0) (split q (drop (i + 1) l))))

pub end-past : (q : ℕ) (l : List ℕ) (i : ℕ) → length l ≤ i → end_of q l i ≡ i
unfolding end_of
end-past q l i h = rw (drop_of_length-le l {i = i}) (omega arith)

-- ---- the first piece, and the pieces behind it

-- the pieces of l, of which the first has n bytes
pub record First (q : ℕ) (l : List ℕ) (ps : List (List ℕ)) (n : ℕ) : Type 0 where
  pub some : 1 ≤ length ps
  pub to : n ≤ length l
  pub stop : n < length l → get_or l n 0 ≡ q
  pub more : n < length l → ps ≡ take n l ∷ split q (drop (suc n) l)
  pub last : length l ≤ n → ps ≡ take n l ∷ []

first-cut : (q x : ℕ) (l : List ℕ) → x ≡ q → First q (x ∷ l) ([] ∷ split q l) 0
first-cut q x l e = record { some = omega arith; to = omega arith; stop = λ h. e; more = λ h. refl; last = λ h. absurd (omega arith) }

first-push : (q x : ℕ) (l : List ℕ) (ps : List (List ℕ)) → First q l ps (length (get_or ps 0 [])) → First q (x ∷ l) (push x ps) (length (get_or (push x ps) 0 []))
first-push q x l [] f = absurd (omega arith)
first-push q x l (p ∷ ps) f =
    record { some = omega arith; to = omega arith; stop = λ h. f.stop (omega arith); more = λ h. ap (push x) (f.more (omega arith)); last = λ h. ap (push x) (f.last (omega arith)) }

first-cond : (q x : ℕ) (l : List ℕ) (t : Bool) → eqb x q ≡ t → First q l (split q l) (length (get_or (split q l) 0 []))
    → First q (x ∷ l) (cond t ([] ∷ split q l) (push x (split q l))) (length (get_or (cond t ([] ∷ split q l) (push x (split q l))) 0 []))
first-cond q x l true e f = first-cut q x l (eqb-true x q e)
first-cond q x l false e f = first-push q x l (split q l) f

pub first_of : (q : ℕ) (l : List ℕ) → First q l (split q l) (length (get_or (split q l) 0 []))
unfolding split
first_of q [] = record { some = omega arith; to = omega arith; stop = λ h. absurd (omega arith); more = λ h. absurd (omega arith); last = λ h. refl }
first_of q (x ∷ xs) = first-cond q x xs (eqb x q) refl (first_of q xs)

-- there is always a piece
pub split-some : (q : ℕ) (l : List ℕ) → 1 ≤ length (split q l)
split-some q l = (first_of q l).some

-- the piece that starts at `at` ends at r
pub record Cut (q : ℕ) (l : List ℕ) (at r : ℕ) : Type 0 where
  pub from : at ≤ r
  pub to : r ≤ length l
  pub more : r < length l → split q (drop at l) ≡ part l at r ∷ split q (drop (r + 1) l)
  pub last : length l ≤ r → split q (drop at l) ≡ part l at r ∷ []

pub cut_of : (q : ℕ) (l : List ℕ) (at : ℕ) → at ≤ length l → {r : ℕ} → r ≡ end_of q l at → Cut q l at r
unfolding end_of
cut_of q l at h {r} e =
    let n : ℕ = length (get_or (split q (drop at l)) 0 []) in
    let f : First q (drop at l) (split q (drop at l)) n = first_of q (drop at l) in
    let d : length (drop at l) ≡ length l - at = length-drop at l in
    let p : r - at ≡ n = omega arith in
    let k : at + suc n ≡ r + 1 = omega arith in
    let s : drop (suc n) (drop at l) ≡ drop (r + 1) l = drop-drop (suc n) at l ∙ ap (λ (m : ℕ). drop m l) k in
    record {
      from = omega arith;
      to = omega arith;
      more = λ k. rw p (f.more (omega arith) ∙ rw s);
      last = λ k. rw p (f.last (omega arith));
    }

-- ---- how many pieces there are, and which is which

push-length : (x : ℕ) (ps : List (List ℕ)) → 1 ≤ length ps → length (push x ps) ≡ length ps
push-length x [] h = absurd (omega arith)
push-length x (p ∷ ps) h = refl

-- one more behind a q, and as many behind another byte
pub count-here : (q : ℕ) (l : List ℕ) (i : ℕ) → i < length l → get_or l i 0 ≡ q → length (split q (drop i l)) ≡ length (split q (drop (i + 1) l)) + 1
unfolding split
count-here q l i h e = rw (drop-one l i h, eq-eqb _ _ e) (omega arith)

pub count-on : (q : ℕ) (l : List ℕ) (i : ℕ) → i < length l → (get_or l i 0 ≡ q → ⊥) → length (split q (drop i l)) ≡ length (split q (drop (i + 1) l))
unfolding split
count-on q l i h n = rw (drop-one l i h, ne_eqb _ _ n) (push-length (get_or l i 0) (split q (drop (i + 1) l)) (split-some q (drop (i + 1) l)))

pub count_past : (q : ℕ) (l : List ℕ) (i : ℕ) → length l ≤ i → length (split q (drop i l)) ≡ 1
unfolding split
count_past q l i h = rw (drop_of_length-le l {i = i})

-- piece 0, and piece k + 1
pub piece-first : (q : ℕ) (l : List ℕ) (at r : ℕ) → Cut q l at r → get_or (split q (drop at l)) 0 [] ≡ part l at r
piece-first q l at r c =
    ⊎_elim
    (λ e. ap (λ (ps : List (List ℕ)). get_or ps 0 []) (c.last (omega arith)))
    (λ h. ap (λ (ps : List (List ℕ)). get_or ps 0 []) (c.more h))
    (eq-or-lt_of_le c.to)

pub piece-later : (q : ℕ) (l : List ℕ) (at r k : ℕ) → Cut q l at r → r < length l → get_or (split q (drop at l)) (suc k) [] ≡ get_or (split q (drop (r + 1) l)) k []
piece-later q l at r k c h = ap (λ (ps : List (List ℕ)). get_or ps (suc k) []) (c.more h)

pub piece-none : (q : ℕ) (l : List ℕ) (at r k : ℕ) → Cut q l at r → length l ≤ r → get_or (split q (drop at l)) (suc k) [] ≡ []
piece-none q l at r k c h = ap (λ (ps : List (List ℕ)). get_or ps (suc k) []) (c.last h)
