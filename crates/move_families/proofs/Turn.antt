-- The loop over runs of families: what is left of the list is still to be moved, and its looks are still to be counted.
use Rattle.std.proofs.Common.{◌≡◌, ℕ, ◌+◌, ◌-◌, ◌%◌, ◌^◌, ◌<◌, ◌≤◌, min, ◌⊎◌, List, [], ◌∷◌, ◌++◌, length, get_or, drop, sym, refl, ap, ◌∙◌, inl, inr, ⊎_elim, arith, length-append}
use native.Mathlib.Decide.{dec_lt}
use Rattle.families.proofs.Walk.{family-left}
use Rattle.move_halves.specs.Halves.{swayed, looks_of}
use Rattle.move_families.specs.Swayed.{swayed_all, looks_all}

pub short : (fs : List ℕ) (b s : ℕ) (t : List ℕ) → length fs ≤ 2 → (looks_all fs b s ≡ 0) × (swayed_all fs b s t ≡ t)
unfolding swayed_all looks_all
short [] b s t h = (refl, refl)
short (all ∷ []) b s t h = (refl, refl)
short (all ∷ (flip ∷ [])) b s t h = (refl, refl)
short (all ∷ (flip ∷ (out ∷ fs))) b s t h = absurd (omega arith)

module _ (fs : List ℕ) (i b s : ℕ) where
  pub swayed-more : (t : List ℕ) → 2 < length fs - i → swayed_all (drop i fs) b s t ≡ swayed_all (drop (i + 3) fs) b s (swayed (get_or fs i 0) (get_or fs (i + 1) 0) (get_or fs (i + 2) 0) b s t)
  unfolding swayed_all
  swayed-more t h = ap (λ (l : List ℕ). swayed_all l b s t) (family-left fs i h)

  pub looks-more : 2 < length fs - i → looks_all (drop i fs) b s ≡ looks_of (get_or fs i 0) (get_or fs (i + 1) 0) (get_or fs (i + 2) 0) b s + looks_all (drop (i + 3) fs) b s
  unfolding looks_all
  looks-more h = ap (λ (l : List ℕ). looks_all l b s) (family-left fs i h)

-- one more family's looks, modulo 2 ^ 64
pub looks-add : (looks one more left all next : ℕ) → (looks + left) % 2 ^ 64 ≡ all % 2 ^ 64 → left ≡ one + more → next ≡ (looks + one) % 2 ^ 64
    → ((next + more) % 2 ^ 64 ≡ all % 2 ^ 64) × (next < 2 ^ 64)
looks-add looks one more left all next e f g =
    let x : looks + left ≡ looks + one + more = omega arith in
    (ap (λ (m : ℕ). (m + more) % 2 ^ 64) g ∙ inner (looks + one) more ∙ sym (ap (λ (m : ℕ). m % 2 ^ 64) x) ∙ e, omega arith)
  where
    inner : (x c : ℕ) → (x % 2 ^ 64 + c) % 2 ^ 64 ≡ (x + c) % 2 ^ 64
    inner x c = omega arith

-- the looks of a run, each modulo 2 ^ 64
looks-run : (looks one run more left all next : ℕ) → (looks + left) % 2 ^ 64 ≡ all % 2 ^ 64 → left ≡ run + more → one ≡ run % 2 ^ 64 → next ≡ (looks + one) % 2 ^ 64
    → ((next + more) % 2 ^ 64 ≡ all % 2 ^ 64) × (next < 2 ^ 64)
looks-run looks one run more left all next e f o g = looks-add looks run more left all next e f (g ∙ ap (λ (m : ℕ). (looks + m) % 2 ^ 64) o ∙ inner looks run)
  where
    inner : (x c : ℕ) → (x + c % 2 ^ 64) % 2 ^ 64 ≡ (x + c) % 2 ^ 64
    inner x c = omega arith

-- one list behind another: the words of the first are a multiple of three, or there is no second
split : (b s : ℕ) (xs ys : List ℕ) (t : List ℕ) → (length xs % 3 ≡ 0) ⊎ (length ys ≡ 0)
    → (looks_all (xs ++ ys) b s ≡ looks_all xs b s + looks_all ys b s) × (swayed_all (xs ++ ys) b s t ≡ swayed_all ys b s (swayed_all xs b s t))
unfolding swayed_all looks_all
split b s [] ys t h = (omega arith, refl)
split b s (all ∷ []) [] t h = (refl, refl)
split b s (all ∷ []) (y ∷ ys) t h = absurd (⊎_elim (λ d. omega arith) (λ z. omega arith) h)
split b s (all ∷ (flip ∷ [])) [] t h = (refl, refl)
split b s (all ∷ (flip ∷ [])) (y ∷ ys) t h = absurd (⊎_elim (λ d. omega arith) (λ z. omega arith) h)
split b s (all ∷ (flip ∷ (out ∷ xs))) ys t h =
    let r = split b s xs ys (swayed all flip out b s t) (⊎_elim (λ d. inl (omega arith)) (λ z. inr z) h) in
    (omega (arith, r.0), r.1)

-- a run's words are a multiple of three, or none are left behind them
whole : (run more : List ℕ) → length run ≡ min 192 (length (run ++ more)) → (length run % 3 ≡ 0) ⊎ (length more ≡ 0)
whole run more e = go (dec_lt (length (run ++ more)) 192)
  where
    go : Dec (length (run ++ more) < 192) → (length run % 3 ≡ 0) ⊎ (length more ≡ 0)
    go (yes l) = inr (omega (arith, length-append run more))
    go (no l) = inl (let f : length run ≡ 192 = omega arith in omega arith)

-- what holds at each turn: the families before the rest are moved, and those of the rest are left
pub record Left (fs : List ℕ) (b s : ℕ) (t₀ t : List ℕ) (looks : ℕ) (rest : List ℕ) : Type 0 where
  pub table : swayed_all rest b s t ≡ swayed_all fs b s t₀
  pub count : (looks + looks_all rest b s) % 2 ^ 64 ≡ looks_all fs b s % 2 ^ 64
  pub fits : looks < 2 ^ 64

module _ (fs : List ℕ) (b s : ℕ) (t₀ : List ℕ) where
  pub left-all : (rest : List ℕ) → rest ≡ fs → Left fs b s t₀ t₀ 0 rest
  left-all rest e =
      record {
        table = ap (λ (l : List ℕ). swayed_all l b s t₀) e;
        count = ap (λ (l : List ℕ). (0 + looks_all l b s) % 2 ^ 64) e ∙ ap (λ (m : ℕ). m % 2 ^ 64) (none (looks_all fs b s));
        fits = omega arith;
      }
    where
      none : (x : ℕ) → 0 + x ≡ x
      none x = omega arith

  -- a turn: a run of families
  pub left-run : (t t' : List ℕ) (looks one next : ℕ) (rest run more : List ℕ) → rest ≡ run ++ more → length run ≡ min 192 (length rest) → Left fs b s t₀ t looks rest
      → (one ≡ looks_all run b s % 2 ^ 64) × (t' ≡ swayed_all run b s t) → next ≡ (looks + one) % 2 ^ 64 → Left fs b s t₀ t' next more
  left-run t t' looks one next rest run more w size left e f =
      let v = split b s run more t (whole run more (size ∙ ap (λ (l : List ℕ). min 192 (length l)) w)) in
      let x : looks_all rest b s ≡ looks_all run b s + looks_all more b s = ap (λ (l : List ℕ). looks_all l b s) w ∙ v.0 in
      let k = looks-run looks one (looks_all run b s) (looks_all more b s) (looks_all rest b s) (looks_all fs b s) next left.count x e.0 f in
      record {
        table = ap (swayed_all more b s) e.1 ∙ sym v.1 ∙ ap (λ (l : List ℕ). swayed_all l b s t) (sym w) ∙ left.table;
        count = k.0;
        fits = k.1;
      }

  -- the end
  pub left-none : (t : List ℕ) (looks : ℕ) (rest : List ℕ) → length rest ≡ 0 → Left fs b s t₀ t looks rest → (looks ≡ looks_all fs b s % 2 ^ 64) × (t ≡ swayed_all fs b s t₀)
  left-none t looks rest h left =
      let e = short rest b s t (omega arith) in
      (last looks _ _ left.fits e.0 left.count, sym e.1 ∙ left.table)
    where
      last : (x y z : ℕ) → x < 2 ^ 64 → y ≡ 0 → (x + y) % 2 ^ 64 ≡ z → x ≡ z
      last x y z h e f = omega arith
