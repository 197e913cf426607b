-- Pieces at known places: bytes that hold no q, and a q behind them, are the first piece; and a first piece of k bytes has a q behind it.
use mathlib.Core.Path.{◌≡◌, refl, sym, ap, ◌∙◌}
use mathlib.Core.Logic.{⊎_elim}
use mathlib.Core.Bool.{Bool, true, false, ◌||◌}
use mathlib.Core.List.{List, [], ◌∷◌}
use Prim.Native.Nat.{ℕ, zero, suc, ◌+◌, ◌-◌, ◌≤◌}
use native.Mathlib.Nat.{eq-or-lt_of_le}
use native.Mathlib.Numerals.{add-one}
use native.Mathlib.Omega.{arith}
use lib.ListN.{length, get_or, take, drop, length-drop}
use lib.Seq.{take_all}
use lib.Dec.{ltb, eqb}
use borrow.Author.Tests.{ltb-true, lt-ltb, eq-eqb, ne_eqb}
use Rattle.sets.proofs.Every.{and_first, and_second, and_both}
use Rattle.rules.specs.Text.{split, all_of}
use Rattle.read_pieces.specs.Pieces.{stands_at}
use Rattle.read_pieces.proofs.Laws.{First, first_of, split-some}

-- ---- bytes of three kinds, of which none is q

abbrev kind : ℕ → ℕ → ℕ → ℕ → Bool
kind a b c x = eqb x a || (eqb x b || eqb x c)

module _ (q a b c : ℕ) (na : a ≡ q → ⊥) (nb : b ≡ q → ⊥) (nc : c ≡ q → ⊥) where
  not-q : (x : ℕ) → kind a b c x ≡ true → eqb x q ≡ false
  not-q x e =
      ne_eqb x q
      (λ h.
      let p : eqb x a ≡ false = ne_eqb x a (λ k. na (sym k ∙ h)) in
      let r : eqb x b ≡ false = ne_eqb x b (λ k. nb (sym k ∙ h)) in
      let s : eqb x c ≡ false = ne_eqb x c (λ k. nc (sym k ∙ h)) in
      let f : kind a b c x ≡ false = rw (p, r, s) in
      let z : ◌≡◌ {A = ℕ} 0 1 = cc in
      omega arith)

  -- all of them are one piece
  pub one_piece : (t : List ℕ) → all_of a b c t ≡ true → split q t ≡ t ∷ []
  unfolding split all_of
  one_piece [] e = refl
  one_piece (x ∷ xs) e =
      let n : eqb x q ≡ false = not-q x (and_first _ _ e) in
      let r : split q xs ≡ xs ∷ [] = one_piece xs (and_second (kind a b c x) _ e) in
      rw (n, r)

  -- k of them, and a q behind them
  piece-next : (k : ℕ) (t : List ℕ) → stands_at q k t ≡ true → all_of a b c (take k t) ≡ true → split q t ≡ take k t ∷ split q (drop (suc k) t)
  unfolding split all_of stands_at
  piece-next k [] s e = absurd (omega (arith, ltb-true k 0 (and_first _ _ s)))
  piece-next zero (x ∷ xs) s e =
      let n : eqb x q ≡ true = and_second (ltb 0 (suc (length xs))) _ s in
      rw n
  piece-next (suc k) (x ∷ xs) s e =
      let t : ltb (suc k) (suc (length xs)) ≡ true = and_first _ _ s in
      let l : ltb k (length xs) ≡ true = lt-ltb k (length xs) (omega (arith, ltb-true (suc k) (suc (length xs)) t)) in
      let r : split q xs ≡ take k xs ∷ split q (drop (suc k) xs) = piece-next k xs (and_both _ _ l (and_second (ltb (suc k) (suc (length xs))) _ s)) (and_second (kind a b c x) _ e) in
      let n : eqb x q ≡ false = not-q x (and_first _ _ e) in
      rw (n, r)

  pub piece-here : (k : ℕ) (t : List ℕ) → stands_at q k t ≡ true → all_of a b c (take k t) ≡ true → split q t ≡ take k t ∷ split q (drop (k + 1) t)
  piece-here k t s e = rw add-one (piece-next k t s e)

-- ---- any bytes

-- a first piece of k bytes that is not the only one has a q behind it
pub piece-stops : (q k : ℕ) (t : List ℕ) → 2 ≤ length (split q t) → length (get_or (split q t) 0 []) ≡ k
    → (stands_at q k t ≡ true) × (split q t ≡ take k t ∷ split q (drop (k + 1) t))
unfolding stands_at
piece-stops q k t two e =
    let f : First q t (split q t) k = rw e at (first_of q t) in
    ⊎_elim
    (λ h. absurd (omega (arith, ap length (f.last (omega arith)))))
    (λ h. (and_both _ _ (lt-ltb k (length t) h) (eq-eqb _ q (f.stop h)), rw add-one (f.more h)))
    (eq-or-lt_of_le f.to)

-- the only piece is all of them
pub only-piece : (q : ℕ) (t : List ℕ) → length (split q t) ≡ 1 → split q t ≡ t ∷ []
only-piece q t one =
    let f : First q t (split q t) (length (get_or (split q t) 0 [])) = first_of q t in
    ⊎_elim
    (λ h. f.last (omega arith) ∙ ap (λ (p : List ℕ). p ∷ []) (take_all (length (get_or (split q t) 0 [])) t (omega arith)))
    (λ h. absurd (omega (arith, ap length (f.more h), split-some q (drop (suc (length (get_or (split q t) 0 []))) t))))
    (eq-or-lt_of_le f.to)

-- the bytes from a to the end
pub rest_all : (t : List ℕ) (a : ℕ) → take (length t - a) (drop a t) ≡ drop a t
rest_all t a = take_all (length t - a) (drop a t) (omega (arith, length-drop a t))
