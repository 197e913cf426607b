-- The families of a record, as a loop stores them one by one, and that they are then all that stands in the first places.
use Rattle.std.proofs.Common.{◌≡◌, ℕ, suc, ◌+◌, ◌*◌, ◌<◌, ◌≤◌, List, [], ◌∷◌, ◌++◌, length, get_or, take, drop, set, replicate, sym, refl, ap, ◌∙◌, ap₂, arith, drop_of_length-le}
use lib.Bits.{bit_or}
use lib.ListN.{length-replicate}
use lib.Seq.{sets, sets-eq, take-append_seam}
use Rattle.families.proofs.Walk.{cons-left}
use Rattle.move_trial.specs.Record.{families_of, words, stored}

-- ---- one by one

module _ (t fs gs : List ℕ) where
  -- those from requirement i on, stored from their place on
  abbrev pub onward : ℕ → List ℕ
  onward i = sets t (3 * i) (families_of (drop i fs) (drop i gs))

  pub onward-end : (i : ℕ) → length fs ≤ i → onward i ≡ t
  unfolding families_of
  onward-end i h = ap (λ (l : List ℕ). sets t (3 * i) (families_of l (drop i gs))) (drop_of_length-le fs {i = i} h)

three-more : (t : List ℕ) (k a b c : ℕ) (l : List ℕ) → sets t k (a ∷ (b ∷ (c ∷ l))) ≡ sets (set (set (set t k a) (k + 1) b) (k + 2) c) (k + 3) l
three-more t k a b c l =
    let p : suc k ≡ k + 1 = omega arith in
    let q : suc (suc k) ≡ k + 2 = omega arith in
    let r : suc (suc (suc k)) ≡ k + 3 = omega arith in
    ap₂ (λ (i j : ℕ). sets (set (set (set t k a) i b) j c) (suc (suc (suc k))) l) p q ∙ ap (λ (i : ℕ). sets (set (set (set t k a) (k + 1) b) (k + 2) c) i l) r

pub onward-more : (t fs gs : List ℕ) (i : ℕ) → i < length fs → i < length gs
    → onward t fs gs i
    ≡ onward (set (set (set t (3 * i) (bit_or (get_or fs i 0) (get_or gs i 0))) (3 * i + 1) (get_or gs i 0)) (3 * i + 2) 0) fs gs (i + 1)
unfolding families_of
onward-more t fs gs i p q =
    let e : 3 * i + 3 ≡ 3 * (i + 1) = omega arith in
    ap₂ (λ (x y : List ℕ). sets t (3 * i) (families_of x y)) (cons-left fs i p) (cons-left gs i q)
    ∙ three-more t (3 * i) (bit_or (get_or fs i 0) (get_or gs i 0)) (get_or gs i 0) 0 (families_of (drop (i + 1) fs) (drop (i + 1) gs))
    ∙ ap (λ (k : ℕ). sets (set (set (set t (3 * i) (bit_or (get_or fs i 0) (get_or gs i 0))) (3 * i + 1) (get_or gs i 0)) (3 * i + 2) 0) k (families_of (drop (i + 1) fs) (drop (i + 1) gs))) e

-- ---- all of them

families-length : (fs gs : List ℕ) → length fs ≡ length gs → length (families_of fs gs) ≡ 3 * length fs
unfolding families_of
families-length [] gs e = refl
families-length (f ∷ fs) [] e = absurd (omega arith)
families-length (f ∷ fs) (g ∷ gs) e = omega (arith, families-length fs gs (omega arith))

pub stored-first : (fs gs : List ℕ) → length fs ≡ length gs → 3 * length fs ≤ words → take (3 * length fs) (stored fs gs) ≡ families_of fs gs
unfolding stored
stored-first fs gs like few =
    let l = families-length fs gs like in
    let r = length-replicate {A = ℕ} words 0 in
    ap (take (3 * length fs)) (sets-eq (families_of fs gs) (replicate words 0) 0 (omega arith))
    ∙ ap (λ (k : ℕ). take k (families_of fs gs ++ drop (0 + length (families_of fs gs)) (replicate words 0))) (sym l)
    ∙ take-append_seam (families_of fs gs) (drop (0 + length (families_of fs gs)) (replicate words 0))
