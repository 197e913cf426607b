-- The words of pairs and of dichotomies, as the loops that draw them meet them: one family, and those behind it.
use mathlib.Core.Path.{◌≡◌, sym, ap, ap₂, ◌∙◌}
use mathlib.Core.List.{List, ◌∷◌, ◌++◌, append_assoc, append-nil}
use Prim.Native.Nat.{ℕ, suc, ◌+◌, ◌-◌, ◌≤◌, ◌<◌}
use native.Mathlib.Omega.{arith}
use lib.Bits.{bit_or}
use lib.ListN.{length, get_or, drop}
use Rattle.sets.specs.Sets.{only, everyone}
use Rattle.rules.specs.declared.Requirement.{Requirement}
use Rattle.std.proofs.lemmas.List.{drop_more, drop_all}
use Rattle.families.specs.Families.{without}
use Rattle.code_drawing.specs.Drawing.{family, dichotomy_words, pair_words}

module _ (asked : List Requirement) (d : ℕ) (front : List ℕ) where
  pub dichotomy-more : (e : Requirement) → d < length asked → let x = get_or asked d e in
      (front ++ family (bit_or x.first x.second) x.second 0) ++ dichotomy_words (drop (d + 1) asked) ≡ front ++ dichotomy_words (drop d asked)
  unfolding dichotomy_words
  dichotomy-more e q =
      let x = get_or asked d e in
      append_assoc front (family (bit_or x.first x.second) x.second 0) (dichotomy_words (drop (d + 1) asked))
      ∙ ap (λ (ds : List Requirement). front ++ dichotomy_words ds) (sym (drop_more asked d e q))

  pub dichotomy-none : length asked ≤ d → front ≡ front ++ dichotomy_words (drop d asked)
  unfolding dichotomy_words
  dichotomy-none h = sym (ap (λ (ds : List Requirement). front ++ dichotomy_words ds) (drop_all d asked h) ∙ append-nil front)

module _ (n i : ℕ) (front : List ℕ) where
  pub pair-more : i + 1 < n → {a o : ℕ} → a ≡ only i → o ≡ without (everyone n) (everyone (i + 1))
      → (front ++ family a 0 o) ++ pair_words n (i + 1) ((n - 1) - (i + 1)) ≡ front ++ pair_words n i ((n - 1) - i)
  unfolding pair_words
  pair-more h {a} {o} e f =
      let s : i + 1 ≡ suc i = omega arith in
      let k : (n - 1) - i ≡ suc ((n - 1) - (i + 1)) = omega arith in
      append_assoc front (family a 0 o) (pair_words n (i + 1) ((n - 1) - (i + 1)))
      ∙ ap₂ (λ (x y : ℕ). front ++ (x ∷ (0 ∷ (y ∷ pair_words n (i + 1) ((n - 1) - (i + 1)))))) e f
      ∙ ap (λ (j : ℕ). front ++ (only i ∷ (0 ∷ (without (everyone n) (everyone j) ∷ pair_words n j ((n - 1) - (i + 1)))))) s
      ∙ ap (λ (j : ℕ). front ++ pair_words n i j) (sym k)

  pub pair-none : n ≤ i + 1 → front ≡ front ++ pair_words n i ((n - 1) - i)
  unfolding pair_words
  pair-none h =
      let k : (n - 1) - i ≡ 0 = omega arith in
      sym (ap (λ (j : ℕ). front ++ pair_words n i j) k ∙ append-nil front)
