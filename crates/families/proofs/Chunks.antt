-- A list of families read in chunks of three words: chunk k is the family that stands from word 3 * k on.
use Rattle.std.proofs.Common.{◌≡◌, ℕ, zero, suc, ◌+◌, ◌*◌, ◌/◌, ◌<◌, ◌≤◌, List, [], ◌∷◌, length, get_or, take, drop, sym, refl, ap, ◌∙◌, ap₂, arith, length-drop}
use Rattle.std.proofs.lemmas.List.{drop-drop, get_or-take, get_or-drop}
use Rattle.std.specs.Simd.{first_chunks}
use Rattle.families.proofs.Walk.{family-left, short-left}

chunk-words : (c k : ℕ) (fs : List ℕ) → k < c → 3 * c ≤ length fs → get_or (first_chunks 3 c fs) k [] ≡ take 3 (drop (3 * k) fs)
chunk-words zero k fs h w = absurd (omega arith)
chunk-words (suc c) zero fs h w = refl
chunk-words (suc c) (suc k) fs h w =
    let e : 3 + 3 * k ≡ 3 * suc k = omega arith in
    chunk-words c k (drop 3 fs) (omega arith) (omega (arith, length-drop 3 fs))
    ∙ ap (take 3) (drop-drop (3 * k) 3 fs ∙ ap (λ (j : ℕ). drop j fs) e)

pub chunks-length : (c : ℕ) (fs : List ℕ) → length (first_chunks 3 c fs) ≡ c
chunks-length zero fs = refl
chunks-length (suc c) fs = ap (λ (n : ℕ). suc n) (chunks-length c (drop 3 fs))

module _ (fs : List ℕ) (families : List (List ℕ)) (front : families ≡ first_chunks 3 (length fs / 3) fs) (count : length families ≡ length fs / 3) (k : ℕ) where
  word : (j : ℕ) → j < 3 → k < length families → get_or (get_or families k []) j 0 ≡ get_or fs (3 * k + j) 0
  word j q h =
      ap (λ (ws : List (List ℕ)). get_or (get_or ws k []) j 0) front
      ∙ ap (λ (w : List ℕ). get_or w j 0) (chunk-words (length fs / 3) k fs (omega arith) (omega arith))
      ∙ get_or-take 3 (drop (3 * k) fs) j 0 q
      ∙ get_or-drop (3 * k) fs j 0

  -- the three words of family k
  pub chunk-three : k < length families
      → (get_or (get_or families k []) 0 0 ≡ get_or fs (3 * k) 0) × (get_or (get_or families k []) 1 0 ≡ get_or fs (3 * k + 1) 0) × (get_or (get_or families k []) 2 0 ≡ get_or fs (3 * k + 2) 0)
  chunk-three h =
      let z : 3 * k + 0 ≡ 3 * k = omega arith in
      (word 0 (omega arith) h ∙ ap (λ (j : ℕ). get_or fs j 0) z, word 1 (omega arith) h, word 2 (omega arith) h)

  -- family k and those behind it
  pub chunk-left : k < length families → drop (3 * k) fs ≡ get_or (get_or families k []) 0 0 ∷ (get_or (get_or families k []) 1 0 ∷ (get_or (get_or families k []) 2 0 ∷ drop (3 * (k + 1)) fs))
  chunk-left h =
      let e : 3 * k + 3 ≡ 3 * (k + 1) = omega arith in
      let w = chunk-three h in
      family-left fs (3 * k) (omega arith)
      ∙ ap₂ (λ (a : ℕ) (l : List ℕ). a ∷ l) (sym w.0)
      (ap₂ (λ (f : ℕ) (l : List ℕ). f ∷ l) (sym w.1)
      (ap₂ (λ (o : ℕ) (l : List ℕ). o ∷ l) (sym w.2) (ap (λ (j : ℕ). drop j fs) e)))

  -- no family is left
  pub chunks-end : length families ≤ k → length (drop (3 * k) fs) ≤ 2
  chunks-end h = short-left fs (3 * k) (omega arith)
