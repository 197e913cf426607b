-- The sets of a column, gathered state by state.
use mathlib.Core.Path.{◌≡◌, refl, sym, ap, subst, ◌∙◌}
use mathlib.Core.Bool.{Bool, true, false, ◌&&◌}
use mathlib.Core.List.{List, [], ◌∷◌, ◌++◌, map, append_assoc, append-nil}
use Prim.Native.Nat.{ℕ, ◌+◌, ◌*◌, ◌%◌, ◌^◌, ◌≤◌, ◌<◌}
use native.Mathlib.Numerals.{add-one}
use native.Mathlib.Omega.{arith}
use lib.ListN.{length, get_or, take, drop, set, length-set, length-replicate, drop_of_length-le}
use lib.Seq.{take-suc-set}
use lib.Dec.{eqb}
use lib.Bits.{bit_or}
use Rattle.sets.specs.Sets.{has, only}
use borrow.Author.Tests.{ltb-true}
use Rattle.sets.proofs.Every.{and_first}
use Rattle.rules.specs.Text.{set_of}
use Rattle.rules.specs.FlowTable.{is_state, destinations_from, sets_of}
use Rattle.sets.proofs.Members.{shl_one}
use Rattle.read_fields.proofs.Characters.{drop-one}
use Rattle.read_flow.specs.declared.asks.Sets.{Sets}
use Rattle.read_flow.specs.Gathering.{no_sets, with_entry}

pub new-below : (met d : ℕ) → (is_state d && eqb (has met d) 0) ≡ true → d < 64
new-below met d e = ltb-true d 64 (and_first (is_state d) (eqb (has met d) 0) e)

-- the sets that the entries from s on open, behind those met
unfoldable pub sets_from : List ℕ → ℕ → ℕ → List ℕ
sets_from column met s = map (λ d. set_of d column) (destinations_from met (drop s column))

pub sets-all : (column : List ℕ) → sets_from column 0 0 ≡ sets_of column
unfolding sets_from sets_of
sets-all column = refl

module _ (column : List ℕ) (met s : ℕ) where
  pub sets-new : s < length column → (is_state (get_or column s 0) && eqb (has met (get_or column s 0)) 0) ≡ true
      → sets_from column met s ≡ set_of (get_or column s 0) column ∷ sets_from column (bit_or met (only (get_or column s 0))) (s + 1)
  unfolding sets_from destinations_from
  sets-new h e = rw (drop-one column s h, e, destinations_from)

  pub sets-met : s < length column → (is_state (get_or column s 0) && eqb (has met (get_or column s 0)) 0) ≡ false → sets_from column met s ≡ sets_from column met (s + 1)
  unfolding sets_from destinations_from
  sets-met h e = rw (drop-one column s h, e, destinations_from)

  pub sets_end : length column ≤ s → sets_from column met s ≡ []
  unfolding sets_from destinations_from
  sets_end h = rw (drop_of_length-le column {i = s} h)

-- one more set in the first places
sets-laid : (sets : List ℕ) (k x : ℕ) (rest : List ℕ) → k < length sets → take (k + 1) (set sets k x) ++ rest ≡ take k sets ++ (x ∷ rest)
sets-laid sets k x rest h = rw (add-one, take-suc-set sets k x h) (append_assoc (take k sets) (x ∷ []) rest)

-- ---- the sets as they are laid

module _ (column : List ℕ) (d : ℕ) (g : Sets) where
  pub entry-met : (is_state d && eqb (has g.met d) 0) ≡ false → with_entry column d g ≡ g
  unfolding with_entry
  entry-met e = rw e

  pub entry_new : (is_state d && eqb (has g.met d) 0) ≡ true → with_entry column d g ≡ record { count = g.count + 1; sets = set g.sets g.count (set_of d column); met = bit_or g.met (only d) }
  unfolding with_entry
  entry_new e = rw e

-- the sets laid, with those that the entries from s on open, are all sets
pub record Laid (column : List ℕ) (s : ℕ) (g : Sets) : Type 0 where
  pub few : g.count ≤ s
  pub places : length g.sets ≡ 64
  pub all : take g.count g.sets ++ sets_from column g.met s ≡ sets_of column

pub laid_none : (column : List ℕ) (g : Sets) → g ≡ no_sets → Laid column 0 g
laid_none column g e = subst (Laid column 0) (sym e) record { few = omega arith; places = length-replicate {A = ℕ} 64 0; all = sets-all column }

pub laid_next : (column : List ℕ) (s : ℕ) (g r : Sets) → s < length column → s < 64 → r ≡ with_entry column (get_or column s 0) g → Laid column s g → Laid column (s + 1) r
laid_next column s g r h n e l = go (is_state (get_or column s 0) && eqb (has g.met (get_or column s 0)) 0) refl
  where
    go : (b : Bool) → (is_state (get_or column s 0) && eqb (has g.met (get_or column s 0)) 0) ≡ b → Laid column (s + 1) r
    go true q =
        subst (Laid column (s + 1)) (sym (e ∙ entry_new column (get_or column s 0) g q)) record {
          few = omega (arith, l.few);
          places = length-set g.sets g.count (set_of (get_or column s 0) column) ∙ l.places;
          all =
              sets-laid g.sets g.count (set_of (get_or column s 0) column) (sets_from column (bit_or g.met (only (get_or column s 0))) (s + 1)) (omega (arith, l.few, l.places))
              ∙ ap (λ (x : List ℕ). take g.count g.sets ++ x) (sym (sets-new column g.met s h q)) ∙ l.all;
        }
    go false q =
        subst (Laid column (s + 1)) (sym (e ∙ entry-met column (get_or column s 0) g q)) record {
          few = omega (arith, l.few);
          places = l.places;
          all = ap (λ (x : List ℕ). take g.count g.sets ++ x) (sym (sets-met column g.met s h q)) ∙ l.all;
        }

pub laid-all : (column : List ℕ) (s : ℕ) (g : Sets) → length column ≤ s → Laid column s g → take g.count g.sets ≡ sets_of column
laid-all column s g h l = sym (append-nil (take g.count g.sets)) ∙ ap (λ (x : List ℕ). take g.count g.sets ++ x) (sym (sets_end column g.met s h)) ∙ l.all

-- the machine's `1 << d` is the set that has d alone
pub met-done : (g : Sets) (d : ℕ) (column : List ℕ) (x : ℕ) → d < 64 → x ≡ set_of d column
    → ◌≡◌ {A = Sets} (record { count = g.count + 1; sets = set g.sets g.count x; met = bit_or g.met (1 * 2 ^ d % 2 ^ 64) })
    (record { count = g.count + 1; sets = set g.sets g.count (set_of d column); met = bit_or g.met (only d) })
met-done g d column x h e = rw (shl_one 64 d h, e)
