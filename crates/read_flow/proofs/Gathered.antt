-- Dichotomies gathered one after the other.
use mathlib.Core.Path.{◌≡◌, refl, ap, ◌∙◌}
use mathlib.Core.List.{List, [], ◌∷◌, ◌++◌, map}
use Prim.Native.Nat.{ℕ, ◌+◌, ◌≤◌, ◌<◌}
use lib.ListN.{length, get_or, drop, set, drop_of_length-le}
use borrow.Author.Tests.{le-leb, lt-leb}
use Rattle.rules.specs.FlowTable.{sets_of, set_pairs, flow_asks}
use Rattle.rules.specs.declared.Requirement.{Requirement}
use Rattle.read_fields.proofs.Characters.{drop-one}
use Rattle.read_flow.specs.declared.asks.Gathered.{Gathered}
use Rattle.read_flow.specs.Gathering.{between, with_asked, with_all}

pub asked-more : (d : Requirement) (g : Gathered) → 64 ≤ g.count → with_asked d g ≡ record { count = 65; asked = g.asked }
unfolding with_asked
asked-more d g h = rw (le-leb _ _ h)

pub asked-one : (d : Requirement) (g : Gathered) → g.count < 64 → with_asked d g ≡ record { count = g.count + 1; asked = set g.asked g.count d }
unfolding with_asked
asked-one d g h = rw (lt-leb _ _ h)

pub all_append : (xs ys : List Requirement) (g : Gathered) → with_all (xs ++ ys) g ≡ with_all ys (with_all xs g)
unfolding with_all
all_append [] ys g = refl
all_append (x ∷ xs) ys g = all_append xs ys (with_asked x g)

-- a set with each of some others, from the i-th on
module _ (first : ℕ) (others : List ℕ) (i : ℕ) (g : Gathered) where
  pub others-next : i < length others
      → with_all (map (between first) (drop i others)) g ≡ with_all (map (between first) (drop (i + 1) others)) (with_asked (between first (get_or others i 0)) g)
  unfolding with_all
  others-next h = rw (drop-one others i h)

  pub others-end : length others ≤ i → with_all (map (between first) (drop i others)) g ≡ g
  unfolding with_all
  others-end h = rw (drop_of_length-le others {i = i} h)

-- each two of some sets, from the i-th on
module _ (sets : List ℕ) (i : ℕ) (g : Gathered) where
  pub pairs_next : i < length sets
      → with_all (set_pairs (drop i sets)) g ≡ with_all (set_pairs (drop (i + 1) sets)) (with_all (map (between (get_or sets i 0)) (drop (i + 1) sets)) g)
  unfolding set_pairs
  pairs_next h = ap (λ (l : List ℕ). with_all (set_pairs l) g) (drop-one sets i h) ∙ all_append (map (between (get_or sets i 0)) (drop (i + 1) sets)) (set_pairs (drop (i + 1) sets)) g

  pub pairs_end : length sets ≤ i → with_all (set_pairs (drop i sets)) g ≡ g
  unfolding set_pairs with_all
  pairs_end h = rw (drop_of_length-le sets {i = i} h)

-- column after column
pub columns-one : (column : List ℕ) (columns : List (List ℕ)) (g : Gathered) → with_all (flow_asks (column ∷ columns)) g ≡ with_all (flow_asks columns) (with_all (set_pairs (sets_of column)) g)
unfolding flow_asks
columns-one column columns g = all_append (set_pairs (sets_of column)) (flow_asks columns) g

pub columns-none : (g : Gathered) → with_all (flow_asks []) g ≡ g
unfolding flow_asks with_all
columns-none g = refl
