-- The move for the live pairs and a list of families is the list's move over all live requirements; and so for the table filled.
use Rattle.std.proofs.Common.{◌≡◌, ℕ, ◌+◌, ◌%◌, ◌^◌, ◌<◌, ◌≤◌, List, [], ◌∷◌, ◌++◌, length, get_or, sym, refl, ap, ◌∙◌, ap₂, lt_of_lt_of_le, arith, pow_mono}
use Rattle.sets.specs.Sets.{flip as turn, size}
use Rattle.rules.specs.declared.Requirement.{Requirement}
use Rattle.rules.proofs.Good.{AllGood}
use Rattle.move_table.specs.Table.{shared}
use Rattle.move_table.specs.Moves.{filled, moved, looked}
use Rattle.move_table.proofs.Looks.{looked-looks}
use Rattle.families.specs.Families.{requirements_in}
use Rattle.families.proofs.Walk.{Words}
use Rattle.move_families.specs.Swayed.{swayed_all, looks_all, doubled}
use Rattle.move_families.proofs.Lists.{Fits}
use Rattle.move_families.proofs.Whole.{good-append, looks-append, changed-append, changed-moved, all-good, all-looks, all_changed, length-swayed-all, swayed-all-fits}
use Rattle.move_pairs.specs.Pairs.{partners_of, pairs_swayed}
use Rattle.move_pairs.proofs.Partners.{pairs_of, Partners}
use Rattle.move_pairs.proofs.Flips.{pairs-good}
use Rattle.move_pairs.proofs.Changes.{length-swayed, swayed-fits, pairs-changed, pairs-looks}
use Rattle.move_pairs.proofs.Agreed.{partners_by, partners-at, partners-table, partners-pairs}
use Rattle.bit_live.specs.Live.{live_in}

-- ---- two lists, one after the other

pub filled-append : (rs qs : List Requirement) (b : ℕ) (t : List ℕ) → filled (rs ++ qs) b t ≡ filled qs b (filled rs b t)
unfolding filled
filled-append [] qs b t = refl
filled-append (r ∷ rs) qs b t = filled-append rs qs b (shared r.first r.second b t)

-- ---- the move

module _ (n : ℕ) (bits fs : List ℕ) (hw : Words fs) (b s : ℕ) (hb : b < 2 ^ 64) (t : List ℕ) (fit : Fits t) where
  ps : List ℕ
  ps = partners_by n bits

  table : Partners ps
  unfolding ps
  table = partners-table n bits

  -- as many states as the table and the move may name
  m : ℕ
  m = 64 + (length t + (s + 1))

  wide : 64 ≤ m
  unfolding m
  wide = omega arith

  hs : s < m
  unfolding m
  hs = omega arith

  hb' : b < 2 ^ m
  hb' = lt_of_lt_of_le hb (pow_mono wide)

  live-good : AllGood m (pairs_of ps ++ requirements_in fs)
  unfolding pairs_of m
  live-good = good-append m (pairs_of ps) (requirements_in fs) (pairs-good m ps table 64 0 (omega arith)) (all-good m wide fs hw)

  -- the table, and the looks
  live_moved : doubled s (get_or t s 0) (swayed_all fs b s (pairs_swayed (get_or ps s 0) b s t)) ≡ moved (pairs_of ps ++ requirements_in fs) b (turn b s) s t
  unfolding m
  live_moved =
      let u : List ℕ = pairs_swayed (get_or ps s 0) b s t in
      let lu : length u ≡ length t = length-swayed (get_or ps s 0) b s t in
      let fu : Fits u = swayed-fits (get_or ps s 0) b s t fit in
      changed-moved m (pairs_of ps ++ requirements_in fs) live-good b s hb' hs t (swayed_all fs b s u) (omega arith)
      (length-swayed-all b s fs u ∙ lu) fit (swayed-all-fits b s fs u fu)
      (λ k l. changed-append m (pairs_of ps) (requirements_in fs) b s k t u (swayed_all fs b s u)
      (pairs-changed m wide ps table b s hb' hs t k (omega arith) l)
      (all_changed m b s wide hs k (omega arith) fs hw u (omega arith)))

  live-looked : looked (pairs_of ps ++ requirements_in fs) b (turn b s) s ≡ size (get_or ps s 0) + looks_all fs b s
  live-looked =
      looked-looks m b s hb' hs (pairs_of ps ++ requirements_in fs) live-good
      ∙ looks-append m (pairs_of ps) (requirements_in fs) b s
      ∙ ap₂ (λ (x y : ℕ). x + y) (pairs-looks m wide ps table b s hb' hs) (all-looks m b s wide hs fs hw)

  same : pairs_of ps ++ requirements_in fs ≡ live_in n bits fs
  unfolding ps
  same = ap (λ (l : List Requirement). l ++ requirements_in fs) (partners-pairs n bits)

  -- the same, of what code has on the way
  pub by-live : (one other sum v : ℕ) (u w t' : List ℕ) → v ≡ get_or t s 0 → (one ≡ size (partners_of n bits s)) × (u ≡ pairs_swayed (partners_of n bits s) b s t)
      → (other ≡ looks_all fs b s % 2 ^ 64) × (w ≡ swayed_all fs b s u) → t' ≡ doubled s v w → sum ≡ (one + other) % 2 ^ 64
      → (sum ≡ looked (live_in n bits fs) b (turn b s) s % 2 ^ 64) × (t' ≡ moved (live_in n bits fs) b (turn b s) s t)
  unfolding ps
  by-live one other sum v u w t' ev e f g h =
      let p : partners_of n bits s ≡ get_or (partners_by n bits) s 0 = sym (partners-at n bits s) in (
        h
            ∙ ap₂ (λ (x y : ℕ). (x + y) % 2 ^ 64) (e.0 ∙ ap size p) f.0
            ∙ inner (size (get_or (partners_by n bits) s 0)) (looks_all fs b s)
            ∙ sym (ap (λ (m : ℕ). m % 2 ^ 64) live-looked)
            ∙ ap (λ (rs : List Requirement). looked rs b (turn b s) s % 2 ^ 64) same,
        g
            ∙ ap₂ (doubled s) ev (f.1 ∙ ap (swayed_all fs b s) (e.1 ∙ ap (λ (p : ℕ). pairs_swayed p b s t) p))
            ∙ live_moved
            ∙ ap (λ (rs : List Requirement). moved rs b (turn b s) s t) same,
      )
    where
      inner : (x y : ℕ) → (x + y % 2 ^ 64) % 2 ^ 64 ≡ (x + y) % 2 ^ 64
      inner x y = omega arith
