-- What stands in a table in which rows were put: at a row's place its numbers, elsewhere what stood there.
use mathlib.Core.Path.{◌≡◌, refl, ap, ◌∙◌}
use mathlib.Core.List.{List, [], ◌∷◌}
use Prim.Native.Nat.{ℕ, zero, suc, ◌+◌, ◌*◌, ◌≤◌, ◌<◌}
use native.Mathlib.Omega.{arith}
use lib.ListN.{length, get_or, set, length-set}
use lib.Seq.{get_or-set_same, get_or-set_other}
use Rattle.judge_rows.specs.Rows.{laid_at, laid}

-- ---- some numbers one behind the other

pub at_length : (at : ℕ) (xs l : List ℕ) → length (laid_at at xs l) ≡ length l
unfolding laid_at
at_length at [] l = refl
at_length at (x ∷ xs) l = at_length (at + 1) xs (set l at x) ∙ length-set l at x

at_before : (at : ℕ) (xs l : List ℕ) (k : ℕ) → k < at → get_or (laid_at at xs l) k 0 ≡ get_or l k 0
unfolding laid_at
at_before at [] l k h = refl
at_before at (x ∷ xs) l k h = at_before (at + 1) xs (set l at x) k (omega arith) ∙ get_or-set_other l at k x 0 (λ e. omega arith)

at-behind : (at : ℕ) (xs l : List ℕ) (k : ℕ) → at + length xs ≤ k → get_or (laid_at at xs l) k 0 ≡ get_or l k 0
unfolding laid_at
at-behind at [] l k h = refl
at-behind at (x ∷ xs) l k h = at-behind (at + 1) xs (set l at x) k (omega arith) ∙ get_or-set_other l at k x 0 (λ e. omega arith)

at-within : (at : ℕ) (xs l : List ℕ) (i : ℕ) → at + length xs ≤ length l → i < length xs → get_or (laid_at at xs l) (at + i) 0 ≡ get_or xs i 0
unfolding laid_at
at-within at [] l i fits h = absurd (omega arith)
at-within at (x ∷ xs) l zero fits h =
    let e : at + 0 ≡ at = omega arith in
    ap (λ (k : ℕ). get_or (laid_at (at + 1) xs (set l at x)) k 0) e ∙ at_before (at + 1) xs (set l at x) at (omega arith) ∙ get_or-set_same l at x 0 (omega arith)
at-within at (x ∷ xs) l (suc i) fits h =
    let e : at + suc i ≡ at + 1 + i = omega arith in
    ap (λ (k : ℕ). get_or (laid_at (at + 1) xs (set l at x)) k 0) e ∙ at-within (at + 1) xs (set l at x) i (omega (arith, length-set l at x)) (omega arith)

-- ---- rows of w numbers each

pub laid-length : (w r : ℕ) (es : List (List ℕ)) (l : List ℕ) → length (laid w r es l) ≡ length l
unfolding laid
laid-length w r [] l = refl
laid-length w r (e ∷ es) l = laid-length w (suc r) es (laid_at (r * w) e l) ∙ at_length (r * w) e l

pub laid-before : (w r : ℕ) (es : List (List ℕ)) (l : List ℕ) (k : ℕ) → k < r * w → get_or (laid w r es l) k 0 ≡ get_or l k 0
unfolding laid
laid-before w r [] l k h = refl
laid-before w r (e ∷ es) l k h =
    let next : suc r * w ≡ r * w + w = omega arith in
    laid-before w (suc r) es (laid_at (r * w) e l) k (omega arith) ∙ at_before (r * w) e l k h

-- all of them have so many
abbrev pub Wide : ℕ → List (List ℕ) → Type 0
Wide w es = (i : ℕ) → i < length es → length (get_or es i []) ≡ w

pub laid-behind : (w r : ℕ) (es : List (List ℕ)) (l : List ℕ) (k : ℕ) → Wide w es → (r + length es) * w ≤ k → get_or (laid w r es l) k 0 ≡ get_or l k 0
unfolding laid
laid-behind w r [] l k wide h = refl
laid-behind w r (e ∷ es) l k wide h =
    let next : (r + suc (length es)) * w ≡ (suc r + length es) * w = ap (λ (n : ℕ). n * w) (omega arith) in
    let more : (suc r + length es) * w ≡ r * w + w + length es * w = omega arith in
    laid-behind w (suc r) es (laid_at (r * w) e l) k (λ i b. wide (suc i) (omega arith)) (omega (arith, next))
    ∙ at-behind (r * w) e l k (omega (arith, wide 0 (omega arith), next, more))

pub laid-row : (w r : ℕ) (es : List (List ℕ)) (l : List ℕ) (i f : ℕ) → Wide w es → (r + length es) * w ≤ length l → i < length es → f < w → get_or (laid w r es l) ((r + i) * w + f) 0 ≡ get_or (get_or es i []) f 0
unfolding laid
laid-row w r [] l i f wide fits h g = absurd (omega arith)
laid-row w r (e ∷ es) l zero f wide fits h g =
    let at : (r + 0) * w + f ≡ r * w + f = ap (λ (n : ℕ). n * w + f) (omega arith) in
    let next : suc r * w ≡ r * w + w = omega arith in
    let all : (r + suc (length es)) * w ≡ r * w + w + length es * w = omega arith in
    ap (λ (k : ℕ). get_or (laid w (suc r) es (laid_at (r * w) e l)) k 0) at
    ∙ laid-before w (suc r) es (laid_at (r * w) e l) (r * w + f) (omega arith)
    ∙ at-within (r * w) e l f (omega (arith, wide 0 (omega arith), all)) (omega (arith, wide 0 (omega arith)))
laid-row w r (e ∷ es) l (suc i) f wide fits h g =
    let at : (r + suc i) * w + f ≡ (suc r + i) * w + f = ap (λ (n : ℕ). n * w + f) (omega arith) in
    let all : (r + suc (length es)) * w ≡ (suc r + length es) * w = ap (λ (n : ℕ). n * w) (omega arith) in
    ap (λ (k : ℕ). get_or (laid w (suc r) es (laid_at (r * w) e l)) k 0) at
    ∙ laid-row w (suc r) es (laid_at (r * w) e l) i f (λ k b. wide (suc k) (omega arith)) (omega (arith, all, at_length (r * w) e l)) (omega arith) g
