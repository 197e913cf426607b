-- Bytes that are moved to the start of a buffer: what a copy within it leaves.
use Rattle.std.proofs.Common.{◌≡◌, ℕ, zero, suc, ◌-◌, min, List, ◌++◌, length, take, drop, refl, ap, ap₂, ◌∙◌, arith}
use lib.Seq.{paste}
use Rattle.host_programs.specs.Moving.{moved_count, moved_up}

module _ (from end : ℕ) (l : List ℕ) {stop count : ℕ} (e : stop ≡ min end (length l)) (m : count ≡ stop - from) where
  pub all-counted : count ≡ moved_count from end l
  unfolding moved_count
  all-counted = omega arith

  -- where none is moved, none is copied
  copied : (n : ℕ) → count ≡ n → take n (drop (stop - count) l) ≡ take n (drop from l)
  copied zero z = refl
  copied (suc n) z = let same : stop - count ≡ from = omega arith in ap (λ (k : ℕ). take (suc n) (drop k l)) same

  pub all_moved : paste l 0 (drop (stop - count) l) (stop - (stop - count)) ≡ moved_up from end l
  unfolding moved_up
  all_moved =
      let many : stop - (stop - count) ≡ count = omega arith in
      ap (paste l 0 (drop (stop - count) l)) many
      ∙ ap₂ (λ (xs : List ℕ) (k : ℕ). xs ++ drop k l) (copied count refl) (omega arith)
      ∙ ap (λ (n : ℕ). take n (drop from l) ++ drop n l) all-counted
