-- Of two bits the one that meets more, the first on a tie: to take it from the left or from the right gives the same, the first with the most.
use Rattle.std.proofs.Common.{◌≡◌, ℕ, ◌<◌, ◌≤◌, Bool, true, false, cond, ltb, List, [], ◌∷◌, sym, refl, ap, ◌∙◌, arith, ltb-false, ltb-true, le-ltb, lt-ltb}
use Rattle.sets.specs.Sets.{flip}
use Rattle.rules.specs.Requirements.{met_count}
use Rattle.rules.specs.OneBit.{kept}
use Rattle.rules.specs.declared.Requirement.{Requirement}

-- by the number f that each has
abbrev pub better : (ℕ → ℕ) → ℕ → ℕ → ℕ
better f b c = cond (ltb (f b) (f c)) c b

module _ (f : ℕ → ℕ) where
  pub better-second : (b c : ℕ) → f b < f c → better f b c ≡ c
  better-second b c h = ap (λ (t : Bool). cond t c b) (lt-ltb (f b) (f c) h)

  pub better-first : (b c : ℕ) → f c ≤ f b → better f b c ≡ b
  better-first b c h = ap (λ (t : Bool). cond t c b) (le-ltb (f b) (f c) h)

  pub better-same : (b : ℕ) → better f b b ≡ b
  better-same b = better-first b b (omega arith)

  pub better-regroup : (a b c : ℕ) → better f (better f a b) c ≡ better f a (better f b c)
  better-regroup a b c = go (ltb (f a) (f b)) (ltb (f b) (f c)) refl refl
    where
      go : (t u : Bool) → ltb (f a) (f b) ≡ t → ltb (f b) (f c) ≡ u → better f (cond t b a) c ≡ better f a (cond u c b)
      go true true p q = better-second b c (ltb-true _ _ q) ∙ sym (better-second a c (omega (arith, ltb-true (f a) (f b) p, ltb-true (f b) (f c) q)))
      go true false p q = better-first b c (ltb-false _ _ q) ∙ sym (better-second a b (ltb-true _ _ p))
      go false true p q = refl
      go false false p q = better-first a c (omega (arith, ltb-false (f a) (f b) p, ltb-false (f b) (f c) q)) ∙ sym (better-first a b (ltb-false _ _ p))

module _ (n : ℕ) (rs : List Requirement) where
  pub kept_more : (b s : ℕ) (ss : List ℕ) → kept n rs b (s ∷ ss) ≡ better (met_count n rs) b (kept n rs (flip b s) ss)
  unfolding kept
  kept_more b s ss = refl

  -- what is kept is no worse than where it began
  pub kept-better : (b : ℕ) (ss : List ℕ) → better (met_count n rs) b (kept n rs b ss) ≡ kept n rs b ss
  unfolding kept
  kept-better b [] = better-same (met_count n rs) b
  kept-better b (s ∷ ss) =
      sym (better-regroup (met_count n rs) b b (kept n rs (flip b s) ss))
      ∙ ap (λ (c : ℕ). better (met_count n rs) c (kept n rs (flip b s) ss)) (better-same (met_count n rs) b)
