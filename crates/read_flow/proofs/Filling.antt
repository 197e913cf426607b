-- The table while the lines are read: in each column the entries of the lines so far; and what the next line does decides what all of them say.
use Rattle.std.specs.Prelude.{Result, Ok, Err}
use mathlib.Core.Path.{◌≡◌, refl, sym, ap, ap₂, subst, ◌∙◌}
use mathlib.Core.Bool.{true, false≢true}
use mathlib.Core.List.{List, [], ◌∷◌, ◌++◌, map}
use Prim.Native.Nat.{ℕ, zero, suc, ◌+◌, ◌*◌, ◌-◌, ◌≤◌, ◌<◌}
use native.Mathlib.Numerals.{add-one}
use native.Mathlib.Decide.{ℕ_discrete}
use native.Mathlib.Omega.{arith}
use lib.ListN.{length, get_or, take, drop, set, length-take, length-drop, length-set, length-replicate}
use lib.Seq.{take-suc, ext_get_or, get_or-take, get_or-drop, get_or-set_same, get_or-set_other}
use borrow.Author.Tests.{leb-true}
use Rattle.sets.specs.Sets.{states_from}
use Rattle.rules.specs.Text.{lf, lines_of, mark_of, mark_is}
use Rattle.rules.specs.FlowTable.{no_state}
use Rattle.rules.specs.FlowLines.{entry_at, column_count, columns_of, flow_line, FlowStep, flow_goes, flow_ends, flow_stops, on_flow, on_flow_end, flow_placed, flow_does}
use Rattle.rules.specs.Lines.{end_line}
use Rattle.rules.specs.Listing.{flow_step, flow_ended, flow_unended, flow_lines}
use Rattle.rules.specs.declared.Head.{Head}
use Rattle.rules.specs.declared.Mark.{Mark}
use Rattle.rules.specs.declared.Mark.TheVariants.{Mc, Mo, Pt, Di, Ou, Ft, En, Unknown}
use Rattle.rules.specs.declared.Refusal.{Refusal}
use Rattle.rules.specs.declared.Refusal.TheVariants.{BadLine, Place}
use Rattle.rules.proofs.Ways.{chose-first}
use Rattle.rules.proofs.Sound.{flow_after, flow-on, flow-last}
use Rattle.read_pieces.proofs.Laws.{part, Cut, split-some}
use Rattle.read_pieces.proofs.Places.{rest_all}
use Rattle.read_flow.specs.declared.says.Said.{Said}
use Rattle.read_flow.specs.Flows.{said_of, flow_end}
use Rattle.read_flow.specs.Table.{column_in, columns_from, columns_in, store_from, blank_table}
use Rattle.read_flow.proofs.Entries.{line-few}
use Rattle.rules.specs.Refusals.{refused}

-- a list from j on
drop-parts : {A : Type 0} (d : A) (l : List A) (j : ℕ) (x : A) (xs : List A) → drop j l ≡ x ∷ xs → (j < length l) × (xs ≡ drop (j + 1) l) × (get_or l j d ≡ x)
drop-parts d [] zero x xs e = absurd (let z : ◌≡◌ {A = ℕ} 0 1 = cc in omega arith)
drop-parts d [] (suc j) x xs e = absurd (let z : ◌≡◌ {A = ℕ} 0 1 = cc in omega arith)
drop-parts d (y ∷ ys) zero x xs e = (omega arith, cc, cc)
drop-parts d (y ∷ ys) (suc j) x xs e =
    let r = drop-parts d ys j x xs e in
    let up : suc j + 1 ≡ suc (j + 1) = omega arith in
    (omega (arith, r.0), rw up r.1, r.2)

-- ---- a line's entries in the table

store_length : (n : ℕ) (l : List ℕ) (s c k : ℕ) (table : List ℕ) → length (store_from n l s c k table) ≡ length table
unfolding store_from
store_length n l s c zero table = refl
store_length n l s c (suc k) table = store_length n l s (c + 1) k (set table (c * 64 + s) (entry_at n c l)) ∙ length-set table (c * 64 + s) (entry_at n c l)

-- other places stay
store_other : (n : ℕ) (l : List ℕ) (s c k : ℕ) (table : List ℕ) (i : ℕ) → ((e : ℕ) → c ≤ e → e < c + k → i ≡ e * 64 + s → ⊥) → get_or (store_from n l s c k table) i 0 ≡ get_or table i 0
unfolding store_from
store_other n l s c zero table i o = refl
store_other n l s c (suc k) table i o =
    store_other n l s (c + 1) k (set table (c * 64 + s) (entry_at n c l)) i (λ e h q. o e (omega arith) (omega arith))
    ∙ get_or-set_other table (c * 64 + s) i (entry_at n c l) 0 (o c (omega arith) (omega arith))

store_at : (n : ℕ) (l : List ℕ) (s c k : ℕ) (table : List ℕ) (e : ℕ) → c ≤ e → e < c + k → e * 64 + s < length table → get_or (store_from n l s c k table) (e * 64 + s) 0 ≡ entry_at n e l
unfolding store_from
store_at n l s c zero table e h q r = absurd (omega arith)
store_at n l s c (suc k) table e h q r = go (ℕ_discrete e c) (λ o. store_at n l s (c + 1) k (set table (c * 64 + s) (entry_at n c l)) e (omega arith) (omega arith) (rw (length-set table (c * 64 + s) (entry_at n c l)) r))
  where
    go : Dec (e ≡ c) → ((e ≡ c → ⊥) → get_or (store_from n l s (c + 1) k (set table (c * 64 + s) (entry_at n c l))) (e * 64 + s) 0 ≡ entry_at n e l)
        → get_or (store_from n l s (c + 1) k (set table (c * 64 + s) (entry_at n c l))) (e * 64 + s) 0 ≡ entry_at n e l
    go (yes p) f =
        store_other n l s (c + 1) k (set table (c * 64 + s) (entry_at n c l)) (e * 64 + s) (λ i a b z. omega (arith, a, p, z))
        ∙ rw p (get_or-set_same table (c * 64 + s) (entry_at n c l) 0 (omega (arith, r, p)))
    go (no o) f = f o

-- ---- the columns so far

abbrev pub Filled : ℕ → ℕ → List (List ℕ) → List ℕ → ℕ → Type 0
Filled n columns all table s = (c : ℕ) → c < columns → take s (drop (c * 64) table) ≡ map (entry_at n c) (take s all)

map_last : {A B : Type 0} (f : A → B) (xs : List A) (x : A) → map f (xs ++ (x ∷ [])) ≡ map f xs ++ (f x ∷ [])
map_last f [] x = refl
map_last f (y ∷ ys) x = ap (λ (l : List _). f y ∷ l) (map_last f ys x)

module _ (n columns : ℕ) (all : List (List ℕ)) (table : List ℕ) (s : ℕ) (few : columns ≤ 16) (below : s < 64) (places : length table ≡ 1024) where
  -- the first entries of a column stay
  column-stays : (l : List ℕ) (c : ℕ) → c < columns → take s (drop (c * 64) (store_from n l s 0 columns table)) ≡ take s (drop (c * 64) table)
  column-stays l c h = ext_get_or 0 (take s (drop (c * 64) (store_from n l s 0 columns table))) (take s (drop (c * 64) table)) same_length each
    where
      same_length : length (take s (drop (c * 64) (store_from n l s 0 columns table))) ≡ length (take s (drop (c * 64) table))
      same_length = rw (length-take, length-take, length-drop, length-drop, store_length n l s 0 columns table)

      each : (i : ℕ) → i < length (take s (drop (c * 64) (store_from n l s 0 columns table)))
          → get_or (take s (drop (c * 64) (store_from n l s 0 columns table))) i 0 ≡ get_or (take s (drop (c * 64) table)) i 0
      each i q =
          let b : i < s = omega (arith, q, length-take s (drop (c * 64) (store_from n l s 0 columns table))) in
          get_or-take s (drop (c * 64) (store_from n l s 0 columns table)) i 0 b ∙ get_or-drop (c * 64) (store_from n l s 0 columns table) i 0
          ∙ store_other n l s 0 columns table (c * 64 + i) (λ e a z p. omega (arith, p, b, below))
          ∙ sym (get_or-take s (drop (c * 64) table) i 0 b ∙ get_or-drop (c * 64) table i 0)

  -- and the line's entry stands behind them
  pub fill-next : s < length all → Filled n columns all table s → Filled n columns all (store_from n (get_or all s []) s 0 columns table) (s + 1)
  fill-next h f c q =
      let l = get_or all s [] in
      let more = store_from n l s 0 columns table in
      let long : s < length (drop (c * 64) more) = omega (arith, length-drop (c * 64) more, store_length n l s 0 columns table) in
      let entry : get_or (drop (c * 64) more) s 0 ≡ entry_at n c l = get_or-drop (c * 64) more s 0 ∙ store_at n l s 0 columns table c (omega arith) (omega arith) (omega arith) in
      rw (add-one, take-suc (drop (c * 64) more) s 0 long, entry, column-stays l c q, f c q, take-suc all s [] h) (sym (map_last (entry_at n c) (take s all) l))

pub fill_none : (n columns : ℕ) (all : List (List ℕ)) (table : List ℕ) → Filled n columns all table 0
fill_none n columns all table c h = refl

-- all lines are in
columns-same : (n : ℕ) (lines : List (List ℕ)) (table : List ℕ) (a k : ℕ) → ((c : ℕ) → a ≤ c → c < a + k → column_in table n c ≡ map (entry_at n c) lines)
    → map (column_in table n) (states_from a k) ≡ map (λ c. map (entry_at n c) lines) (states_from a k)
unfolding states_from
columns-same n lines table a zero f = refl
columns-same n lines table a (suc k) f =
    ap₂ (λ (x : List ℕ) (xs : List (List ℕ)). x ∷ xs) (f a (omega arith) (omega arith)) (columns-same n lines table (suc a) k (λ c h q. f c (omega arith) (omega arith)))

pub fill_done : (n columns : ℕ) (all : List (List ℕ)) (table : List ℕ) → Filled n columns all table n → columns_in table n columns ≡ columns_of n columns (take n all)
unfolding columns_from columns_of
fill_done n columns all table f = columns-same n (take n all) table 0 columns (λ c h q. f c (omega arith))

-- ---- what a line does, by what it says

pub said-stops : (x : FlowStep) {r : Refusal} → said_of x ≡ Err r → x ≡ flow_stops r
said-stops flow_goes e = absurd (let z : ◌≡◌ {A = ℕ} 0 1 = cc in omega arith)
said-stops flow_ends e = absurd (let z : ◌≡◌ {A = ℕ} 0 1 = cc in omega arith)
said-stops (flow_stops q) e = cc

pub said-ends : (x : FlowStep) → said_of x ≡ Ok Said.End → x ≡ flow_ends
said-ends flow_goes e = absurd (let z : ◌≡◌ {A = ℕ} 0 1 = cc in omega arith)
said-ends flow_ends e = refl
said-ends (flow_stops q) e = absurd (let z : ◌≡◌ {A = ℕ} 0 1 = cc in omega arith)

pub said_goes : (x : FlowStep) → said_of x ≡ Ok Said.Line → x ≡ flow_goes
said_goes flow_goes e = refl
said_goes flow_ends e = absurd (let z : ◌≡◌ {A = ℕ} 0 1 = cc in omega arith)
said_goes (flow_stops q) e = absurd (let z : ◌≡◌ {A = ℕ} 0 1 = cc in omega arith)

stops-not-goes : (r : Refusal) → flow_stops r ≡ flow_goes → ⊥
stops-not-goes r e = let z : ◌≡◌ {A = ℕ} 0 1 = cc in omega arith

stops-not-ends : (r : Refusal) → flow_stops r ≡ flow_ends → ⊥
stops-not-ends r e = let z : ◌≡◌ {A = ℕ} 0 1 = cc in omega arith

-- a line that goes on is one of the states', and is read
record GoesOn (k n columns : ℕ) (l : List ℕ) : Type 0 where
  early : k ≤ n + 1
  is_read : flow_line n columns l ≡ Ok tt

goes_by : (m : Mark) (k n columns : ℕ) (l : List ℕ) → flow_placed m k n ≡ true → flow_does m n columns l ≡ flow_goes → GoesOn k n columns l
unfolding flow_placed flow_does
goes_by Mc k n columns l p e = absurd (false≢true p)
goes_by Mo k n columns l p e = absurd (false≢true p)
goes_by Pt k n columns l p e = absurd (false≢true p)
goes_by Di k n columns l p e = absurd (false≢true p)
goes_by Ou k n columns l p e = absurd (false≢true p)
goes_by Ft k n columns l p e = record { early = leb-true k (n + 1) p; is_read = on (flow_line n columns l) e }
  where
    on : (x : Result Unit Refusal) → on_flow x ≡ flow_goes → x ≡ Ok tt
    on (Ok tt) q = refl
    on (Err r) q = absurd (stops-not-goes r q)
goes_by En k n columns l p e = absurd (on (end_line l) e)
  where
    on : (x : Result Unit Refusal) → on_flow_end x ≡ flow_goes → ⊥
    on (Ok tt) q = let z : ◌≡◌ {A = ℕ} 0 1 = cc in omega arith
    on (Err r) q = stops-not-goes r q
goes_by Unknown k n columns l p e = absurd (stops-not-goes BadLine e)

ends_by : (m : Mark) (k n columns : ℕ) (l : List ℕ) → flow_placed m k n ≡ true → flow_does m n columns l ≡ flow_ends → n + 2 ≤ k
unfolding flow_placed flow_does
ends_by Mc k n columns l p e = absurd (false≢true p)
ends_by Mo k n columns l p e = absurd (false≢true p)
ends_by Pt k n columns l p e = absurd (false≢true p)
ends_by Di k n columns l p e = absurd (false≢true p)
ends_by Ou k n columns l p e = absurd (false≢true p)
ends_by Ft k n columns l p e = absurd (on (flow_line n columns l) e)
  where
    on : (x : Result Unit Refusal) → on_flow x ≡ flow_ends → ⊥
    on (Ok tt) q = let z : ◌≡◌ {A = ℕ} 0 1 = cc in omega arith
    on (Err r) q = stops-not-ends r q
ends_by En k n columns l p e = leb-true (n + 2) k p
ends_by Unknown k n columns l p e = absurd (stops-not-ends BadLine e)

module _ (k n columns : ℕ) (l : List ℕ) where
  goes_on : flow_step k n columns l ≡ flow_goes → GoesOn k n columns l
  unfolding flow_step
  goes_on e = let c = chose-first (flow_placed (mark_is (mark_of l)) k n) e (stops-not-goes Place) in goes_by (mark_is (mark_of l)) k n columns l c.0 c.1

  pub ends-late : flow_step k n columns l ≡ flow_ends → n + 2 ≤ k
  unfolding flow_step
  ends-late e = let c = chose-first (flow_placed (mark_is (mark_of l)) k n) e (stops-not-ends Place) in ends_by (mark_is (mark_of l)) k n columns l c.0 c.1

  pub goes-early : flow_step k n columns l ≡ flow_goes → k ≤ n + 1
  goes-early e = (goes_on e).early

  pub goes-few : flow_step k n columns l ≡ flow_goes → columns ≤ 16
  goes-few e = line-few n columns l (goes_on e).is_read

-- ---- the lines from number k on, of the bytes from `at` on

pub record Filling (h : Head) (s : List ℕ) (columns : ℕ) (table : List ℕ) (k at : ℕ) : Type 0 where
  pub two : 2 ≤ k
  pub near : k ≤ h.states + 2
  pub lines : lines_of (drop at s) ≡ drop (k - 2) (lines_of s)
  pub rest : flow_lines k h (lines_of s) (lines_of (drop at s)) ≡ flow_lines 2 h (lines_of s) (lines_of s)
  pub few : 2 < k → columns ≤ 16
  pub places : length table ≡ 1024
  pub filled : Filled h.states columns (lines_of s) table (k - 2)

pub filling-first : (h : Head) (s : List ℕ) (columns : ℕ) (table : List ℕ) → table ≡ blank_table → Filling h s columns table 2 0
filling-first h s columns table e = record {
  two = omega arith;
  near = omega arith;
  lines = refl;
  rest = refl;
  few = λ p. absurd (omega arith);
  places = ap length e ∙ length-replicate 1024 no_state;
  filled = fill_none h.states columns (lines_of s) table;
}

flow-cons : (k : ℕ) (h : Head) (all : List (List ℕ)) (l : List ℕ) (rest : List (List ℕ)) → 1 ≤ length rest → flow_lines k h all (l ∷ rest) ≡ flow_after k h all rest (flow_step k h.states (column_count all) l)
flow-cons k h all l [] p = absurd (omega arith)
flow-cons k h all l (m ∷ ms) p = flow-on k h all l m ms

module _ (h : Head) (s : List ℕ) (table : List ℕ) (k at r : ℕ) (f : Filling h s (column_count (lines_of s)) table k at) (c : Cut lf s at r) where
  all_after : r < length s → flow_lines 2 h (lines_of s) (lines_of s) ≡ flow_after k h (lines_of s) (lines_of (drop (r + 1) s)) (flow_step k h.states (column_count (lines_of s)) (part s at r))
  all_after l =
      sym f.rest ∙ ap (flow_lines k h (lines_of s)) (c.more l)
      ∙ flow-cons k h (lines_of s) (part s at r) (lines_of (drop (r + 1) s)) (split-some lf (drop (r + 1) s))

  pub all-stopped : {e : Refusal} → r < length s → flow_step k h.states (column_count (lines_of s)) (part s at r) ≡ flow_stops e → flow_lines 2 h (lines_of s) (lines_of s) ≡ refused e k
  unfolding flow_after
  all-stopped l e = all_after l ∙ rw e

  pub all-ended : r < length s → flow_step k h.states (column_count (lines_of s)) (part s at r) ≡ flow_ends
      → flow_lines 2 h (lines_of s) (lines_of s) ≡ flow_end k h (columns_in table h.states (column_count (lines_of s))) (lines_of (part s (r + 1) (length s)))
  unfolding flow_after flow_ended flow_end
  all-ended l e =
      let late = ends-late k h.states (column_count (lines_of s)) (part s at r) e in
      let done : k - 2 ≡ h.states = omega (arith, f.near) in
      let columns = fill_done h.states (column_count (lines_of s)) (lines_of s) table (subst (Filled h.states (column_count (lines_of s)) (lines_of s) table) done f.filled) in
      all_after l ∙ rw (e, columns, rest_all s (r + 1))

  pub all-last : length s ≤ r → flow_lines 2 h (lines_of s) (lines_of s) ≡ flow_unended k h.states (part s at (length s))
  all-last l =
      let z : r ≡ length s = omega (arith, c.to) in
      sym f.rest ∙ ap (flow_lines k h (lines_of s)) (c.last l) ∙ flow-last k h (lines_of s) (part s at r) ∙ rw z

  -- the next line
  pub filling-next : r < length s → h.states ≤ 64 → flow_step k h.states (column_count (lines_of s)) (part s at r) ≡ flow_goes
      → Filling h s (column_count (lines_of s)) (store_from h.states (part s at r) (k - 2) 0 (column_count (lines_of s)) table) (k + 1) (r + 1)
  unfolding flow_after
  filling-next l n e = record {
    two = omega (arith, f.two);
    near = omega (arith, goes-early k h.states (column_count (lines_of s)) (part s at r) e);
    lines = behind.1 ∙ ap (λ (i : ℕ). drop i (lines_of s)) up;
    rest = sym (all_after l ∙ rw e);
    few = λ p. goes-few k h.states (column_count (lines_of s)) (part s at r) e;
    places = store_length h.states (part s at r) (k - 2) 0 (column_count (lines_of s)) table ∙ f.places;
    filled = subst (Filled h.states (column_count (lines_of s)) (lines_of s) (store_from h.states (part s at r) (k - 2) 0 (column_count (lines_of s)) table)) up
        (subst (λ (x : List ℕ). Filled h.states (column_count (lines_of s)) (lines_of s) (store_from h.states x (k - 2) 0 (column_count (lines_of s)) table) (k - 2 + 1)) behind.2
        (fill-next h.states (column_count (lines_of s)) (lines_of s) table (k - 2) (goes-few k h.states (column_count (lines_of s)) (part s at r) e)
        (omega (arith, f.two, goes-early k h.states (column_count (lines_of s)) (part s at r) e)) f.places behind.0 f.filled));
  }
    where
      up : k - 2 + 1 ≡ k + 1 - 2
      up = omega (arith, f.two)

      behind : (k - 2 < length (lines_of s)) × (lines_of (drop (r + 1) s) ≡ drop (k - 2 + 1) (lines_of s)) × (get_or (lines_of s) (k - 2) [] ≡ part s at r)
      behind = drop-parts [] (lines_of s) (k - 2) (part s at r) (lines_of (drop (r + 1) s)) (sym f.lines ∙ c.more l)
