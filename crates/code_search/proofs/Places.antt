-- The places of a search as it calls itself: the columns that one turn tries, and what the places then hold.
use mathlib.Core.Path.{◌≡◌, refl, sym, ap, ◌∙◌}
use mathlib.Core.Bool.{Bool, true, false, cond, true≢false, false≢true}
use mathlib.Core.List.{List, [], ◌∷◌, ◌++◌, append-nil}
use Prim.Native.Nat.{ℕ, suc, ◌+◌, ◌-◌, ◌≤◌, ◌<◌}
use native.Mathlib.Numerals.{add-one}
use native.Mathlib.Omega.{arith}
use lib.Dec.{eqb}
use lib.ListN.{length, take, drop, set}
use lib.Seq.{take_all, drop-length}
use Rattle.rules.specs.Least.{First, first, none}
use Rattle.rules.proofs.Codes.{leading, tried}
use Rattle.code_search.specs.Search.{behind, searched, told}

-- ---- one column tried, and none left

module _ (met : List ℕ) (w v left : ℕ) where
  searched-turn : v < length met → searched met (suc w) v left ≡ leading v (searched met w v (behind met left v)) (searched met (suc w) (v + 1) left)
  unfolding searched tried
  searched-turn l =
      let more : length met - v ≡ suc (length met - (v + 1)) = omega arith in
      ap (tried (λ u. searched met w u (behind met left u)) v) more
      ∙ ap (λ (a : ℕ). leading v (searched met w v (behind met left v)) (tried (λ u. searched met w u (behind met left u)) a (length met - (v + 1)))) (sym (add-one v))

  searched-end : length met ≤ v → searched met (suc w) v left ≡ none
  unfolding searched tried
  searched-end l = let over : length met - v ≡ 0 = omega arith in ap (tried (λ u. searched met w u (behind met left u)) v) over

-- ---- what the places hold

-- the places behind the first, as the search lends them to itself, and the list with ys in their place
abbrev pub rest : List ℕ → List ℕ
rest cs = take (length cs - 1) (drop 1 cs)

abbrev pub with_rest : List ℕ → List ℕ → List ℕ
with_rest cs ys = take 1 cs ++ (ys ++ drop (length cs - 1) (drop 1 cs))

module _ (x : ℕ) (xs : List ℕ) where
  one_less : length (x ∷ xs) - 1 ≡ length xs
  one_less = omega arith

  rest-is : rest (x ∷ xs) ≡ xs
  rest-is = take_all (length (x ∷ xs) - 1) xs (omega arith)

  with-is : (ys : List ℕ) → with_rest (x ∷ xs) ys ≡ x ∷ ys
  with-is ys = ap (λ (k : ℕ). x ∷ (ys ++ drop k xs)) one_less ∙ ap (λ (l : List ℕ). x ∷ (ys ++ l)) (drop-length xs) ∙ ap (λ (l : List ℕ). x ∷ l) (append-nil ys)

-- with no place, whether nothing is left
pub none_left : (met cs : List ℕ) (from left : ℕ) → length cs ≡ 0 → (eqb left 0, cs) ≡ told (searched met (length cs) from left) cs
unfolding searched told
none_left met [] from left e = go (eqb left 0)
  where
    go : (b : Bool) → (b, []) ≡ told (cond b (first []) none) []
    go true = refl
    go false = refl
none_left met (x ∷ xs) from left e = absurd (omega arith)

-- ---- where the rest was searched behind the column v

module _ (met : List ℕ) (v left : ℕ) where
  -- what it came to
  abbrev pub Came : List ℕ → Bool → List ℕ → Type 0
  Came cs r ys = (r, ys) ≡ told (searched met (length (rest cs)) v (behind met left v)) (rest cs)

  came-as : (x : ℕ) (xs : List ℕ) {r b : Bool} {ys : List ℕ} → r ≡ b → Came (x ∷ xs) r ys → (b, ys) ≡ told (searched met (length xs) v (behind met left v)) xs
  came-as x xs {r} {b} {ys} q e = ap (λ (a : Bool). (a, ys)) (sym q) ∙ e ∙ ap (λ (k : List ℕ). told (searched met (length k) v (behind met left v)) k) (rest-is x xs)

  -- a code was found: the column goes in front of it
  in-front : (f : First) (x : ℕ) (xs ys : List ℕ) (g : First) → (true, ys) ≡ told f xs → (true, v ∷ ys) ≡ told (leading v f g) (x ∷ xs)
  unfolding told leading
  in-front (first code) x xs ys g e = ap (λ (p : Bool × List ℕ). (p.0, v ∷ p.1)) e
  in-front none x xs ys g e = absurd (true≢false (ap (λ (p : Bool × List ℕ). p.0) e))

  pub found : v < length met → (cs : List ℕ) → (length cs ≡ 0 → ⊥) → {r : Bool} {ys : List ℕ} → r ≡ true → Came cs r ys
      → (true, set (with_rest cs ys) 0 v) ≡ told (searched met (length cs) v left) cs
  found l [] o q e = absurd (o refl)
  found l (x ∷ xs) o {r} {ys} q e =
      ap (λ (k : List ℕ). (true, set k 0 v)) (with-is x xs ys)
      ∙ in-front (searched met (length xs) v (behind met left v)) x xs ys (searched met (suc (length xs)) (v + 1) left) (came-as x xs q e)
      ∙ ap (λ (f : First). told f (x ∷ xs)) (sym (searched-turn met (length xs) v left l))

  -- none was: the places are as they came, and the next column is tried
  stays : (f : First) (xs ys : List ℕ) → (false, ys) ≡ told f xs → (ys ≡ xs) × (f ≡ none)
  unfolding told
  stays (first code) xs ys e = absurd (false≢true (ap (λ (p : Bool × List ℕ). p.0) e))
  stays none xs ys e = (ap (λ (p : Bool × List ℕ). p.1) e, refl)

  pub not_found : v < length met → (cs : List ℕ) → (length cs ≡ 0 → ⊥) → {r : Bool} {ys : List ℕ} → r ≡ false → Came cs r ys
      → (with_rest cs ys ≡ cs) × (searched met (length cs) (v + 1) left ≡ searched met (length cs) v left)
  unfolding leading
  not_found l [] o q e = absurd (o refl)
  not_found l (x ∷ xs) o {r} {ys} q e =
      let s = stays (searched met (length xs) v (behind met left v)) xs ys (came-as x xs q e) in (
        with-is x xs ys ∙ ap (λ (k : List ℕ). x ∷ k) s.0,
        sym (searched-turn met (length xs) v left l ∙ ap (λ (f : First). leading v f (searched met (suc (length xs)) (v + 1) left)) s.1),
      )

  -- no column is left to try
  pub none_found : length met ≤ v → (cs : List ℕ) → (length cs ≡ 0 → ⊥) → (false, cs) ≡ told (searched met (length cs) v left) cs
  unfolding told
  none_found l [] o = absurd (o refl)
  none_found l (x ∷ xs) o = sym (ap (λ (f : First). told f (x ∷ xs)) (searched-end met (length xs) v left l))

-- the list keeps its length
pub with-length : (cs ys : List ℕ) → (length cs ≡ 0 → ⊥) → length ys ≡ length (rest cs) → length (with_rest cs ys) ≡ length cs
with-length [] ys o e = absurd (o refl)
with-length (x ∷ xs) ys o e = ap length (with-is x xs ys) ∙ ap suc (e ∙ ap length (rest-is x xs))

pub rest-length : (cs : List ℕ) → (length cs ≡ 0 → ⊥) → length (rest cs) < length cs
rest-length [] o = absurd (o refl)
rest-length (x ∷ xs) o = omega (arith, ap length (rest-is x xs))
