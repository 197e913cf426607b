-- Sifting on its way, as its loop meets it: j words of live families stand in front, and what a bit leaves of the families from i on is still to come.
use Rattle.std.proofs.Common.{◌≡◌, ℕ, suc, ◌+◌, ◌-◌, ◌<◌, ◌≤◌, Bool, true, false, cond, List, [], ◌∷◌, ◌++◌, length, get_or, take, drop, set, sym, refl, ap, ◌∙◌, ap₂, append_assoc, append-nil, add-one, arith, length-set, take-append-drop, length-take, get_or-drop, drop-drop, take-suc-set, drop-set-lt}
use Rattle.families.proofs.Walk.{family-left, short-left}
use Rattle.families.specs.Families.{laid}
use Rattle.bit_live.specs.Left.{left_families, sifted_families, left_at, stays_at, words_behind, moved_family}

left-short : (b : ℕ) (fs : List ℕ) → length fs ≤ 2 → left_families b fs ≡ []
unfolding left_families
left-short b [] h = refl
left-short b (all ∷ []) h = refl
left-short b (all ∷ (flip ∷ [])) h = refl
left-short b (all ∷ (flip ∷ (out ∷ fs))) h = absurd (omega arith)

-- what is left of the families from i on: of the first of them, and of those behind it
left-more : (b : ℕ) (fs : List ℕ) (i : ℕ) → 2 < length fs - i
    → left_families b (drop i fs) ≡ cond (stays_at b i fs) (get_or fs i 0 ∷ (get_or fs (i + 1) 0 ∷ (left_at b i fs ∷ left_families b (drop (i + 3) fs)))) (left_families b (drop (i + 3) fs))
unfolding left_families
left-more b fs i h = ap (left_families b) (family-left fs i h)

-- three words laid at place j
module _ (j all flip out : ℕ) (fs : List ℕ) where
  pub laid-length : length (laid j all flip out fs) ≡ length fs
  unfolding laid
  laid-length = length-set (set (set fs j all) (j + 1) flip) (j + 2) out ∙ length-set (set fs j all) (j + 1) flip ∙ length-set fs j all

  laid-take : 2 < length fs - j → take (j + 3) (laid j all flip out fs) ≡ take j fs ++ (all ∷ (flip ∷ (out ∷ [])))
  unfolding laid
  laid-take h =
      let l₁ : List ℕ = set fs j all in
      let l₂ : List ℕ = set l₁ (j + 1) flip in
      let e₁ : j + 1 ≡ suc j = add-one j in
      let e₂ : j + 2 ≡ suc (j + 1) = omega arith in
      let e₃ : j + 3 ≡ suc (j + 2) = omega arith in
      let h₁ : j + 1 < length l₁ = omega (arith, length-set fs j all) in
      let h₂ : j + 2 < length l₂ = omega (arith, length-set l₁ (j + 1) flip, length-set fs j all) in
      ap (λ (k : ℕ). take k (set l₂ (j + 2) out)) e₃
      ∙ take-suc-set l₂ (j + 2) out h₂
      ∙ ap (λ (l : List ℕ). l ++ (out ∷ []))
      (ap (λ (k : ℕ). take k l₂) e₂
      ∙ take-suc-set l₁ (j + 1) flip h₁
      ∙ ap (λ (l : List ℕ). l ++ (flip ∷ [])) (ap (λ (k : ℕ). take k l₁) e₁ ∙ take-suc-set fs j all (omega arith))
      ∙ append_assoc (take j fs) (all ∷ []) (flip ∷ []))
      ∙ append_assoc (take j fs) (all ∷ (flip ∷ [])) (out ∷ [])

  laid-drop : drop (j + 3) (laid j all flip out fs) ≡ drop (j + 3) fs
  unfolding laid
  laid-drop =
      drop-set-lt (j + 3) (set (set fs j all) (j + 1) flip) (j + 2) out (omega arith)
      ∙ drop-set-lt (j + 3) (set fs j all) (j + 1) flip (omega arith)
      ∙ drop-set-lt (j + 3) fs j all (omega arith)

-- ---- the loop, from the families fs₀

module _ (b : ℕ) (fs₀ : List ℕ) where
  pub record Judged (i j : ℕ) (fs : List ℕ) : Type 0 where
    pub front : take j fs ++ left_families b (drop i fs₀) ≡ left_families b fs₀
    pub behind : drop j fs ≡ drop j fs₀
    pub few : j ≤ i
    pub within : i ≤ length fs₀
    pub long : length fs ≡ length fs₀

  pub judged-none : Judged 0 0 fs₀
  judged-none = record { front = refl; behind = refl; few = omega arith; within = omega arith; long = refl }

  module _ (i j : ℕ) (fs : List ℕ) (g : Judged i j fs) where
    -- a word from j on is as it was
    word : (k : ℕ) → j ≤ k → get_or fs k 0 ≡ get_or fs₀ k 0
    word k h =
        let e : j + (k - j) ≡ k = omega arith in
        ap (λ (m : ℕ). get_or fs m 0) (sym e)
        ∙ sym (get_or-drop j fs (k - j) 0)
        ∙ ap (λ (l : List ℕ). get_or l (k - j) 0) g.behind
        ∙ get_or-drop j fs₀ (k - j) 0
        ∙ ap (λ (m : ℕ). get_or fs₀ m 0) e

    rest : (d : ℕ) → drop (j + d) fs ≡ drop (j + d) fs₀
    rest d = sym (drop-drop d j fs) ∙ ap (drop d) g.behind ∙ drop-drop d j fs₀

    -- one family more, as the loop's body judges it
    pub judged-next : (r : ℕ) (fs' : List ℕ) → 2 < length fs₀ - i → r ≡ words_behind b i j fs → fs' ≡ moved_family b i j fs → Judged (i + 3) r fs'
    judged-next r fs' h p q = go (stays_at b i fs) refl p q
      where
        a₀ : get_or fs i 0 ≡ get_or fs₀ i 0
        a₀ = word i g.few

        f₀ : get_or fs (i + 1) 0 ≡ get_or fs₀ (i + 1) 0
        f₀ = word (i + 1) (omega (arith, g.few))

        o₀ : get_or fs (i + 2) 0 ≡ get_or fs₀ (i + 2) 0
        o₀ = word (i + 2) (omega (arith, g.few))

        more : left_families b (drop i fs₀)
            ≡ cond (stays_at b i fs) (get_or fs i 0 ∷ (get_or fs (i + 1) 0 ∷ (left_at b i fs ∷ left_families b (drop (i + 3) fs₀)))) (left_families b (drop (i + 3) fs₀))
        more = rw (a₀, f₀, o₀) (left-more b fs₀ i h)

        go : (t : Bool) → stays_at b i fs ≡ t → r ≡ cond t (j + 3) j
            → fs' ≡ cond t (laid j (get_or fs i 0) (get_or fs (i + 1) 0) (left_at b i fs) fs) fs
            → Judged (i + 3) r fs'
        go true e p q =
            let room : 2 < length fs - j = omega (arith, g.few, g.long) in
            rw (p, q)
            (record {
              front =
                  ap (λ (l : List ℕ). l ++ left_families b (drop (i + 3) fs₀)) (laid-take j (get_or fs i 0) (get_or fs (i + 1) 0) (left_at b i fs) fs room)
                  ∙ append_assoc (take j fs) (get_or fs i 0 ∷ (get_or fs (i + 1) 0 ∷ (left_at b i fs ∷ []))) (left_families b (drop (i + 3) fs₀))
                  ∙ ap (◌++◌ (take j fs)) (sym (rw e at more))
                  ∙ g.front;
              behind = laid-drop j (get_or fs i 0) (get_or fs (i + 1) 0) (left_at b i fs) fs ∙ rest 3;
              few = omega (arith, g.few);
              within = omega arith;
              long = laid-length j (get_or fs i 0) (get_or fs (i + 1) 0) (left_at b i fs) fs ∙ g.long;
            })
        go false e p q =
            rw (p, q)
            (record {
              front = ap (◌++◌ (take j fs)) (sym (rw e at more)) ∙ g.front;
              behind = g.behind;
              few = omega (arith, g.few);
              within = omega arith;
              long = g.long;
            })

    -- none is left to be judged
    module _ (end : length fs₀ - i ≤ 2) where
      all-front : take j fs ≡ left_families b fs₀
      all-front = sym (append-nil (take j fs)) ∙ ap (◌++◌ (take j fs)) (sym (left-short b (drop i fs₀) (short-left fs₀ i end))) ∙ g.front

      pub judged-words : j ≡ length (left_families b fs₀)
      judged-words = let e = ap length all-front in omega (arith, length-take j fs, g.few, g.within, g.long)

      pub judged-families : fs ≡ sifted_families b fs₀
      unfolding sifted_families
      judged-families =
          sym (take-append-drop j fs)
          ∙ ap₂ ◌++◌ all-front (g.behind ∙ ap (λ (k : ℕ). drop k fs₀) judged-words)
