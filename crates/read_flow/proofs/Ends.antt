-- The end of a flow table: what was gathered, a line without LF, bytes behind `EN`, and all in one.
use mathlib.Core.Path.{◌≡◌, refl, sym, ap, ◌∙◌}
use mathlib.Core.Bool.{Bool, true, false, cond}
use mathlib.Core.List.{List, [], ◌∷◌}
use Prim.Native.Nat.{ℕ, ◌+◌, ◌≤◌, ◌<◌}
use native.Mathlib.Omega.{arith}
use native.Mathlib.Decide.{dec_lt}
use lib.ListN.{length, set}
use lib.Dec.{leb}
use borrow.Author.Tests.{leb-true, leb-false, le-leb, lt-leb}
use Rattle.sets.specs.Sets.{states_from}
use Rattle.rules.specs.Text.{lines_of, mark_of, mark_is}
use Rattle.rules.specs.FlowTable.{flow_asks, stability}
use Rattle.rules.specs.FlowLines.{flow_placed}
use Rattle.rules.specs.Listing.{blank, with_head, with_dichotomy, with_dichotomies, flow_gives, flow_read, flow_unended, flow_lines}
use Rattle.rules.specs.declared.Head.{Head}
use Rattle.rules.specs.declared.Listing.{Listing}
use Rattle.rules.specs.declared.Requirement.{Requirement}
use Rattle.rules.specs.declared.Refusal.{Refusal}
use Rattle.rules.specs.declared.Refusal.TheVariants.{BadLine, Limit, Place}
use Rattle.read_flow.specs.declared.asks.Gathered.{Gathered}
use Rattle.read_flow.specs.Gathering.{nothing, with_asked, with_all}
use Rattle.read_flow.specs.Flows.{flow_of, flow_given, flow_end, flow_table}
use Rattle.read_pieces.proofs.Nothing.{none-behind, some-behind}
use Rattle.read_flow.proofs.Gathered.{asked-more, asked-one}
use Rattle.rules.specs.Refusals.{refused}
use Rattle.rules.specs.declared.Refused.{Refused}
use Rattle.std.specs.Prelude.{Ok, Err}

-- ---- what was gathered

pub given-many : (g : Gathered) → 64 < g.count → flow_given g ≡ refused Limit 0
unfolding flow_given
given-many g h = rw (lt-leb _ _ h)

pub given-few : (g : Gathered) → g.count ≤ 64 → flow_given g ≡ Ok (record { dichotomies = g.count; asked = g.asked })
unfolding flow_given
given-few g h = rw (le-leb _ _ h)

-- ---- a line without LF

module _ (k n : ℕ) where
  pub unended-none : (l : List ℕ) → length l ≡ 0 → flow_unended k n l ≡ refused Place k
  unfolding flow_unended
  unended-none [] e = refl
  unended-none (x ∷ xs) e = absurd (omega arith)

  pub unended-some : (l : List ℕ) {b : Bool} → (length l ≡ 0 → ⊥) → flow_placed (mark_is (mark_of l)) k n ≡ b → flow_unended k n l ≡ cond b (refused BadLine k) (refused Place k)
  unfolding flow_unended
  unended-some [] o e = absurd (o refl)
  unended-some (x ∷ xs) o e = rw e

-- ---- bytes behind `EN`

module _ (k : ℕ) (h : Head) (columns : List (List ℕ)) (s : List ℕ) where
  pub end_more : (length s ≡ 0 → ⊥) → flow_end k h columns (lines_of s) ≡ refused Place (k + 1)
  unfolding flow_end
  end_more o = rw (some-behind s o)

  pub end-here : length s ≡ 0 → flow_end k h columns (lines_of s) ≡ flow_read h columns
  unfolding flow_end
  end-here e = rw (none-behind s e)

-- ---- the dichotomies gathered are those of the listing

-- what stands in a listing of what is gathered
abbrev gathered_in : Listing → Gathered
gathered_in t = record { count = t.dichotomies; asked = t.asked }

same-gathered : (ds : List Requirement) (t : Listing) → t.dichotomies + length ds ≤ 64 → with_all ds (gathered_in t) ≡ gathered_in (with_dichotomies ds t)
unfolding with_all with_dichotomies
same-gathered [] t h = refl
same-gathered (d ∷ ds) t h = ap (with_all ds) (asked-one d (gathered_in t) (omega arith)) ∙ same-gathered ds (with_dichotomy d t) (omega arith)

all-counted : (ds : List Requirement) (t : Listing) → (with_dichotomies ds t).dichotomies ≡ t.dichotomies + length ds
unfolding with_dichotomies
all-counted [] t = omega arith
all-counted (d ∷ ds) t = all-counted ds (with_dichotomy d t) ∙ omega arith

many-counted : (ds : List Requirement) (g : Gathered) → g.count ≤ 65 → 64 < g.count + length ds → (with_all ds g).count ≡ 65
unfolding with_all
many-counted [] g l h = omega arith
many-counted (d ∷ ds) g l h = go (dec_lt g.count 64) (λ x. many-counted ds x)
  where
    go : Dec (g.count < 64) → ((x : Gathered) → x.count ≤ 65 → 64 < x.count + length ds → (with_all ds x).count ≡ 65) → (with_all ds (with_asked d g)).count ≡ 65
    go (yes p) f = rw (asked-one d g p) (f (record { count = g.count + 1; asked = set g.asked g.count d }) (omega arith) (omega arith))
    go (no o) f = rw (asked-more d g (omega arith)) (f (record { count = 65; asked = g.asked }) (omega arith) (omega arith))

gives-gathered : (h : Head) (ds : List Requirement) → flow_of (flow_gives h ds) ≡ flow_given (with_all ds nothing)
unfolding flow_gives blank
gives-gathered h ds = go (leb (length ds) 64) refl
  where
    u : Listing
    u = with_dichotomies ds (with_head h blank)

    go : (b : Bool) → leb (length ds) 64 ≡ b → flow_of (cond b (Ok (with_dichotomies ds (with_head h blank))) (refused Limit 0)) ≡ flow_given (with_all ds nothing)
    go true e =
        let l = leb-true (length ds) 64 e in
        let g = same-gathered ds (with_head h blank) (omega arith) in
        sym (given-few (gathered_in u) (omega (arith, all-counted ds (with_head h blank)))) ∙ ap flow_given (sym g)
    go false e = sym (given-many (with_all ds nothing) (omega (arith, many-counted ds nothing (omega arith) (omega (arith, leb-false (length ds) 64 e)))))

module _ (h : Head) (columns : List (List ℕ)) where
  pub read-refused : {why : Refused} → stability columns (states_from 0 h.states) ≡ Err why → flow_read h columns ≡ Err why
  unfolding flow_read
  read-refused e = rw (e, flow_read)

  pub read-accepted : stability columns (states_from 0 h.states) ≡ Ok tt → flow_of (flow_read h columns) ≡ flow_given (with_all (flow_asks columns) nothing)
  unfolding flow_read
  read-accepted e = rw (e, flow_read) (gives-gathered h (flow_asks columns))

-- ---- all in one

module _ (h : Head) (s : List ℕ) where
  pub table-read : 1 ≤ h.states → h.states ≤ 64 → flow_table h s ≡ flow_lines 2 h (lines_of s) (lines_of s)
  unfolding flow_table
  table-read p l = rw (le-leb _ _ p, le-leb _ _ l)
