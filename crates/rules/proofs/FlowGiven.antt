-- What an accepted flow table gives: a listing without rows, whose requirements are the pairs of its states and then the dichotomies of its columns, in which each destination is
-- stable.
use Rattle.std.specs.Prelude.{Ok, Err}
use mathlib.Core.Path.{◌≡◌, refl, sym, ap, ◌∙◌, subst}
use mathlib.Core.Bool.{Bool, true, false, cond}
use mathlib.Core.List.{List, [], ◌∷◌, ◌++◌, append_assoc}
use Prim.Native.Nat.{ℕ, zero, suc, ◌+◌, ◌≤◌, ◌<◌}
use native.Mathlib.Numerals.{add-one}
use native.Mathlib.Decide.{ℕ_discrete}
use native.Mathlib.Omega.{arith}
use lib.Dec.{leb}
use lib.ListN.{length, take, set, length-set, length-replicate}
use lib.Seq.{take-suc-set}
use borrow.Author.Tests.{leb-true}
use Rattle.sets.specs.Sets.{states_from}
use Rattle.rules.specs.Limits.{most_bytes, most_dichotomies}
use Rattle.rules.specs.Text.{lines_of, mark_of, mark_is}
use Rattle.rules.specs.FlowTable.{flow_asks, goes_well, stability}
use Rattle.rules.specs.FlowLines.{flow_head, column_count, columns_of, FlowStep, flow_goes, flow_ends, flow_stops, flow_placed}
use Rattle.rules.specs.Listing.{no_requirement, blank, with_head, with_dichotomy, rows_of, dichotomies_of, nothing, conflict, judged, checked, read_all, reading, with_dichotomies, flow_step, flow_gives, flow_read, flow_ended, flow_unended, flow_lines, Reading}
use Rattle.rules.specs.Requirements.{pairs, groups, pairs_and_groups, requirements}
use Rattle.rules.specs.declared.Head.{Head}
use Rattle.rules.specs.declared.Requirement.{Requirement}
use Rattle.rules.specs.declared.Listing.{Listing}
use Rattle.rules.specs.declared.Refusal.TheVariants.{BadLine, Limit, Place, Unstable}
use Rattle.rules.specs.Refusals.{Verdict, refused}
use Rattle.rules.proofs.Sound.{flow_after, flow-on, flow-none, flow-last, read_by, all_two}
use Rattle.std.specs.Result.{IfOk}

-- the bytes s are a flow table, with the head h and these columns
pub record IsFlow (s : List ℕ) (h : Head) (columns : List (List ℕ)) : Type 0 where
  pub first : List ℕ
  pub second : List ℕ
  pub others : List (List ℕ)
  pub lines : lines_of s ≡ first ∷ (second ∷ others)
  pub head : flow_head first second ≡ Ok h
  pub is : columns ≡ columns_of h.states (column_count (second ∷ others)) (take h.states (second ∷ others))

pub record FlowGiven (h : Head) (columns : List (List ℕ)) (t : Listing) : Type 0 where
  pub head : t.head ≡ h
  pub no_rows : t.rows ≡ 0
  pub asked : requirements t ≡ pairs (states_from 0 h.states) ++ flow_asks columns
  pub stable : (s : ℕ) → s < h.states → goes_well columns s ≡ true

-- ---- the dichotomies in place of `DI`

more-asked : (ds : List Requirement) (t : Listing) → length t.asked ≡ most_dichotomies → t.dichotomies + length ds ≤ most_dichotomies
    → dichotomies_of (with_dichotomies ds t) ≡ dichotomies_of t ++ ds
unfolding with_dichotomies
more-asked [] t l h = sym (append-none (dichotomies_of t))
  where
    append-none : (xs : List Requirement) → xs ++ [] ≡ xs
    append-none [] = refl
    append-none (x ∷ xs) = ap (λ (l : List Requirement). x ∷ l) (append-none xs)
more-asked (d ∷ ds) t l h =
    let one : take (t.dichotomies + 1) (set t.asked t.dichotomies d) ≡ dichotomies_of t ++ (d ∷ []) = rw add-one (take-suc-set t.asked t.dichotomies d (omega arith)) in
    more-asked ds (with_dichotomy d t) (length-set t.asked t.dichotomies d ∙ l) (omega arith) ∙ ap (λ (l : List Requirement). l ++ ds) one ∙ append_assoc (dichotomies_of t) (d ∷ []) ds

same_head : (ds : List Requirement) (t : Listing) → (with_dichotomies ds t).head ≡ t.head
unfolding with_dichotomies
same_head [] t = refl
same_head (d ∷ ds) t = same_head ds (with_dichotomy d t)

same_rows : (ds : List Requirement) (t : Listing) → (with_dichotomies ds t).rows ≡ t.rows
unfolding with_dichotomies
same_rows [] t = refl
same_rows (d ∷ ds) t = same_rows ds (with_dichotomy d t)

no-groups : (t : Listing) → t.rows ≡ 0 → (n : ℕ) → groups n [] (rows_of t) ≡ []
unfolding groups
no-groups t e n = rw e

asked-all : (h : Head) (ds : List Requirement) → length ds ≤ most_dichotomies → requirements (with_dichotomies ds (with_head h blank)) ≡ pairs (states_from 0 h.states) ++ ds
unfolding requirements pairs_and_groups blank
asked-all h ds l =
    let t = with_dichotomies ds (with_head h blank) in
    rw (more-asked ds (with_head h blank) (length-replicate most_dichotomies no_requirement) (omega arith), no-groups t (same_rows ds (with_head h blank)), same_head ds (with_head h blank))
    (append_assoc (pairs (states_from 0 h.states)) [] ds)

-- ---- each destination is stable

well : (columns : List (List ℕ)) (a k : ℕ) → stability columns (states_from a k) ≡ Ok tt → (s : ℕ) → a ≤ s → s < a + k → goes_well columns s ≡ true
unfolding stability states_from
well columns a zero e s h l = absurd (omega arith)
well columns a (suc k) e s h l = go (goes_well columns a) refl e (ℕ_discrete s a) (λ q o. well columns (suc a) k q s (omega arith) (omega arith))
  where
    go : (b : Bool) → goes_well columns a ≡ b → elim b as (λ _. Verdict) [ true ↦ stability columns (states_from (suc a) k) | false ↦ refused Unstable (a + 2) ] ≡ Ok tt
        → Dec (s ≡ a) → (stability columns (states_from (suc a) k) ≡ Ok tt → (s ≡ a → ⊥) → goes_well columns s ≡ true) → goes_well columns s ≡ true
    go true q e (yes p) f = ap (goes_well columns) p ∙ q
    go true q e (no o) f = f e o
    go false q e d f = absurd (let z : ◌≡◌ {A = ℕ} 0 1 = cc in omega arith)

-- ---- the lines

abbrev Gives : Head → List (List ℕ) → Reading → Type 0
Gives h columns r = IfOk r (FlowGiven h columns)

read-gives : (h : Head) (columns : List (List ℕ)) → Gives h columns (flow_read h columns)
unfolding flow_read flow_gives blank
read-gives h columns = go (stability columns (states_from 0 h.states)) refl
  where
    gives : (b : Bool) → leb (length (flow_asks columns)) most_dichotomies ≡ b → stability columns (states_from 0 h.states) ≡ Ok tt
        → Gives h columns (cond b (Ok (with_dichotomies (flow_asks columns) (with_head h blank))) (refused Limit 0))
    gives true l q = record {
      head = same_head (flow_asks columns) (with_head h blank);
      no_rows = same_rows (flow_asks columns) (with_head h blank);
      asked = asked-all h (flow_asks columns) (leb-true (length (flow_asks columns)) most_dichotomies l);
      stable = λ s p. well columns 0 h.states q s (omega arith) (omega arith);
    }
    gives false l q = tt

    go : (v : Verdict) → stability columns (states_from 0 h.states) ≡ v
        → Gives h columns (elim v as (λ _. Reading) [ Ok _ ↦ flow_gives h (flow_asks columns) | Err why ↦ Err why ])
    go (Ok tt) q = gives (leb (length (flow_asks columns)) most_dichotomies) refl q
    go (Err why) q = tt

module _ (h : Head) (all : List (List ℕ)) where
  columns-in : List (List ℕ)
  columns-in = columns_of h.states (column_count all) (take h.states all)

  ended-gives : (k : ℕ) (rest : List (List ℕ)) → Gives h columns-in (flow_ended k h all rest)
  unfolding flow_ended columns-in
  ended-gives k rest = go (nothing rest)
    where
      go : (b : Bool) → Gives h (columns_of h.states (column_count all) (take h.states all)) (cond b (flow_read h (columns_of h.states (column_count all) (take h.states all))) (refused Place (k + 1)))
      go true = read-gives h (columns_of h.states (column_count all) (take h.states all))
      go false = tt

  unended-gives : (k : ℕ) (l : List ℕ) → Gives h columns-in (flow_unended k h.states l)
  unfolding flow_unended
  unended-gives k [] = tt
  unended-gives k (x ∷ xs) = go (flow_placed (mark_is (mark_of (x ∷ xs))) k h.states)
    where
      go : (b : Bool) → Gives h columns-in (cond b (refused BadLine k) (refused Place k))
      go true = tt
      go false = tt

  lines-give : (k : ℕ) (ls : List (List ℕ)) → Gives h columns-in (flow_lines k h all ls)
  unfolding flow_after
  lines-give k [] = rw (flow-none k h all) tt
  lines-give k (l ∷ []) = rw (flow-last k h all l) (unended-gives k l)
  lines-give k (l ∷ (m ∷ ms)) = rw (flow-on k h all l m ms) (go (flow_step k h.states (column_count all) l) (lines-give (k + 1) (m ∷ ms)))
    where
      go : (x : FlowStep) → Gives h columns-in (flow_lines (k + 1) h all (m ∷ ms)) → Gives h columns-in (flow_after k h all (m ∷ ms) x)
      go flow_goes g = g
      go flow_ends g = ended-gives k (m ∷ ms)
      go (flow_stops r) g = tt

-- ---- the whole

checked-gives : (h : Head) (columns : List (List ℕ)) (r : Reading) → Gives h columns r → Gives h columns (checked r)
unfolding conflict
checked-gives h columns (Ok t) g = judge (conflict (rows_of t)) g
  where
    judge : (v : Verdict) → FlowGiven h columns t → Gives h columns (judged v t)
    judge (Ok _) f = f
    judge (Err why) f = tt
checked-gives h columns (Err why) g = tt

all_give : (s : List ℕ) (h : Head) (columns : List (List ℕ)) → IsFlow s h columns → Gives h columns (read_all (lines_of s))
unfolding read_by columns-in
all_give s h columns f =
    rw (f.lines, all_two f.first f.second f.others, f.head, f.is) (lines-give h (f.second ∷ f.others) 2 (f.second ∷ f.others))

-- whatever the bytes
reading-gives : (s : List ℕ) (h : Head) (columns : List (List ℕ)) → IsFlow s h columns → Gives h columns (reading s)
unfolding reading
reading-gives s h columns f = go (leb (length s) most_bytes)
  where
    go : (b : Bool) → Gives h columns (cond b (checked (read_all (lines_of s))) (refused Limit 0))
    go true = checked-gives h columns (read_all (lines_of s)) (all_give s h columns f)
    go false = tt

pub flow-given : (s : List ℕ) (h : Head) (columns : List (List ℕ)) → IsFlow s h columns → {t : Listing} → reading s ≡ Ok t → FlowGiven h columns t
flow-given s h columns f e = subst (Gives h columns) e (reading-gives s h columns f)
