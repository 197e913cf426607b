-- What an accepted listing grants: numbers within 01's limits, every row, dichotomy and state's outputs within the head's numbers, and outputs for each state of a
-- Moore machine.
use Rattle.rules.specs.declared.StateOutputs.{StateOutputs}
use Rattle.std.specs.Prelude.{Result, Ok, Err}
use mathlib.Core.Path.{◌≡◌, refl, ap, subst, ◌∙◌}
use mathlib.Core.Bool.{Bool, true, false, ◌&&◌, cond, false≢true}
use mathlib.Core.List.{List, [], ◌∷◌, map, Memᴰ}
use Prim.Native.Nat.{ℕ, zero, suc, ◌+◌, ◌≤◌, ◌<◌}
use native.Mathlib.Decide.{ℕ_discrete}
use native.Mathlib.Omega.{arith}
use lib.Dec.{leb}
use lib.ListN.{length, take, get_or, set, replicate, length-take, length-map, length-set, length-replicate}
use lib.Seq.{length-take-le, get_or-take, get_or-set_same, get_or-set_other}
use borrow.Author.Tests.{leb-true, eqb-true}
use Rattle.sets.specs.Sets.{states_from}
use Rattle.rules.specs.Limits.{most_bytes, most_states, most_rows, most_dichotomies}
use Rattle.rules.specs.Text.{bytes, same, lines_of, mark_of, mark_is}
use Rattle.rules.specs.Lines.{head_line, row_line, dichotomy_line, outputs_line, end_line}
use Rattle.rules.specs.Listing.{no_pattern, no_row, no_requirement, blank, with_head, with_row, with_dichotomy, with_outputs, rows_of, Step, goes, ends, stops, on_head, on_row, on_dichotomy, on_outputs, on_end, placed, line_does, line_step, nothing, complete, ended, unended, read_lines, read_all, conflict, judged, checked, reading, with_dichotomies, flow_step, flow_gives, flow_read, flow_ended, flow_unended, flow_lines, Reading}
use Rattle.rules.specs.FlowTable.{flow_asks, stability}
use Rattle.rules.specs.FlowLines.{flow_head, entry_at, column_count, columns_of, FlowStep, flow_goes, flow_ends, flow_stops, flow_placed}
use Rattle.rules.specs.declared.Head.{Head}
use Rattle.rules.specs.declared.Pattern.{Pattern}
use Rattle.rules.specs.declared.Row.{Row}
use Rattle.rules.specs.declared.Requirement.{Requirement}
use Rattle.rules.specs.declared.Listing.{Listing}
use Rattle.rules.specs.declared.Mark.{Mark}
use Rattle.rules.specs.declared.Mark.TheVariants.{Mc, Mo, Pt, Di, Ou, Ft, En, Unknown}
use Rattle.rules.specs.declared.Refusal.{Refusal}
use Rattle.rules.specs.declared.Refusal.TheVariants.{BadLine, Limit, Place, NoOutputs}
use Rattle.rules.specs.Refusals.{Verdict, refused}
use Rattle.rules.proofs.SoundLines.{SoundHead, SoundPattern, SoundRow, SoundBlocks, no-pattern, head-sound, head-kind, ReadRow, row_read, dichotomy-sound, outputs-sound}
use Rattle.rules.proofs.FlowSets.{table-sound}
use Rattle.rules.proofs.Ways.{chose-first}
use Rattle.std.specs.Result.{IfOk}
use mathlib.Core.List.Memᴰ

pub record Sound (t : Listing) : Type 0 where
  pub head : SoundHead t.head
  pub few-rows : t.rows ≤ most_rows
  pub table : length t.table ≡ most_rows
  pub row : (k : ℕ) → k < t.rows → SoundRow t.head (get_or t.table k no_row)
  -- the rows of a Moore machine say nothing of the outputs
  pub plain : t.head.moore ≡ true → (k : ℕ) → k < t.rows → (get_or t.table k no_row).outputs ≡ no_pattern
  pub few-dichotomies : t.dichotomies ≤ most_dichotomies
  pub asked : length t.asked ≡ most_dichotomies
  pub dichotomy : (k : ℕ) → k < t.dichotomies → SoundBlocks t.head.states (get_or t.asked k no_requirement)
  pub said : length t.said ≡ most_states
  pub state : (s : ℕ) → SoundPattern t.head.outputs (get_or t.said s no_pattern)

-- the rows of a sound listing
pub rows-length : (t : Listing) → Sound t → length (rows_of t) ≡ t.rows
rows-length t s = length-take-le t.rows t.table (omega (arith, s.few-rows, s.table))

pub row_of : (t : Listing) → Sound t → (k : ℕ) → k < t.rows → SoundRow t.head (get_or (rows_of t) k no_row)
row_of t s k h = rw (get_or-take t.rows t.table k no_row h) (s.row k h)

-- ---- a listing as it grows

pub goes_same : (a b : Listing) → goes a ≡ goes b → a ≡ b
goes_same a b e = cc

pub stops-not : (f : Refusal) (u : Listing) → stops f ≡ goes u → ⊥
stops-not f u e = let z : ◌≡◌ {A = ℕ} 0 1 = cc in omega arith

pub none_said : (n k : ℕ) → get_or (replicate n no_pattern) k no_pattern ≡ no_pattern
none_said zero k = refl
none_said (suc n) zero = refl
none_said (suc n) (suc k) = none_said n k

with-head : (h : Head) → SoundHead h → Sound (with_head h blank)
unfolding blank
with-head h s = record {
  head = s;
  few-rows = omega arith;
  table = length-replicate most_rows no_row;
  row = λ k l. absurd (omega arith);
  plain = λ m k l. absurd (omega arith);
  few-dichotomies = omega arith;
  asked = length-replicate most_dichotomies no_requirement;
  dichotomy = λ k l. absurd (omega arith);
  said = length-replicate most_states no_pattern;
  state = λ k. rw (none_said most_states k) (no-pattern h.outputs);
}

-- one more entry in the first places of a table
grown : {A : Type 0} (P : A → Type 0) (l : List A) (n : ℕ) (a d : A) → n < length l → P a → ((k : ℕ) → k < n → P (get_or l k d))
    → (k : ℕ) → k < n + 1 → P (get_or (set l n a) k d)
grown P l n a d h p f k q = go (ℕ_discrete k n)
  where
    go : Dec (k ≡ n) → P (get_or (set l n a) k d)
    go (yes e) = rw (e, get_or-set_same l n a d h) p
    go (no o) = rw (get_or-set_other l n k a d o) (f k (omega arith))

with-row : (t : Listing) (k : ℕ) (r : Row) → Sound t → ReadRow t.head t.rows k r → Sound (with_row r t)
with-row t k r s q = record {
  head = s.head;
  few-rows = omega (arith, q.room);
  table = length-set t.table t.rows r ∙ s.table;
  row = grown (SoundRow t.head) t.table t.rows r no_row (omega (arith, q.room, s.table)) q.sound s.row;
  plain = λ m. grown (λ (r : Row). r.outputs ≡ no_pattern) t.table t.rows r no_row (omega (arith, q.room, s.table)) (q.plain m) (s.plain m);
  few-dichotomies = s.few-dichotomies;
  asked = s.asked;
  dichotomy = s.dichotomy;
  said = s.said;
  state = s.state;
}

with-dichotomy : (t : Listing) (d : Requirement) → Sound t → (t.dichotomies < most_dichotomies) × SoundBlocks t.head.states d → Sound (with_dichotomy d t)
with-dichotomy t d s q = record {
  head = s.head;
  few-rows = s.few-rows;
  table = s.table;
  row = s.row;
  plain = s.plain;
  few-dichotomies = omega (arith, q.0);
  asked = length-set t.asked t.dichotomies d ∙ s.asked;
  dichotomy = grown (SoundBlocks t.head.states) t.asked t.dichotomies d no_requirement (omega (arith, q.0, s.asked)) q.1 s.dichotomy;
  said = s.said;
  state = s.state;
}

with-outputs : (t : Listing) (n : ℕ) (p : Pattern) → Sound t → (n < t.head.states) × SoundPattern t.head.outputs p → Sound (with_outputs n p t)
with-outputs t n p s q = record {
  head = s.head;
  few-rows = s.few-rows;
  table = s.table;
  row = s.row;
  plain = s.plain;
  few-dichotomies = s.few-dichotomies;
  asked = s.asked;
  dichotomy = s.dichotomy;
  said = length-set t.said n p ∙ s.said;
  state = λ k. one_state k (ℕ_discrete k n);
}
  where
    one_state : (k : ℕ) → Dec (k ≡ n) → SoundPattern t.head.outputs (get_or (set t.said n p) k no_pattern)
    one_state k (yes e) = rw (e, get_or-set_same t.said n p no_pattern (omega (arith, q.0, s.said, s.head.few-states))) q.1
    one_state k (no o) = rw (get_or-set_other t.said n k p no_pattern o) (s.state k)

-- ---- the lines

-- a line that goes on stands in its place
pub step-placed : (k : ℕ) (t u : Listing) (l : List ℕ) → line_step k t l ≡ goes u
    → (placed (mark_is (mark_of l)) k t.head t.given l ≡ true) × (line_does (mark_is (mark_of l)) k t l ≡ goes u)
unfolding line_step
step-placed k t u l e = chose-first (placed (mark_is (mark_of l)) k t.head t.given l) e (stops-not Place u)

step-ends : (k : ℕ) (t : Listing) (l : List ℕ) → line_step k t l ≡ ends
    → (placed (mark_is (mark_of l)) k t.head t.given l ≡ true) × (line_does (mark_is (mark_of l)) k t l ≡ ends)
unfolding line_step
step-ends k t l e = chose-first (placed (mark_is (mark_of l)) k t.head t.given l) e (λ q. let z : ◌≡◌ {A = ℕ} 0 1 = cc in omega arith)

-- of a head that is read
head-on : (m : Bool) (l : List ℕ) (u : Listing) → on_head (head_line m l) blank ≡ goes u → Sound u
head-on m l u e = on (head_line m l) refl e
  where
    on : (x : Result Head Refusal) → head_line m l ≡ x → on_head x blank ≡ goes u → Sound u
    on (Ok h) q e = subst Sound (goes_same _ _ e) (with-head h (head-sound m l h q))
    on (Err f) q e = absurd (stops-not f u e)

first-sound : (m : Mark) (h : Head) (given : ℕ) (l : List ℕ) (u : Listing) → placed m 1 h given l ≡ true → line_does m 1 blank l ≡ goes u → Sound u
unfolding placed line_does
first-sound Mc h given l u p e = head-on false l u e
first-sound Mo h given l u p e = head-on true l u e
first-sound Pt h given l u p e = absurd (false≢true p)
first-sound Di h given l u p e = absurd (false≢true p)
first-sound Ou h given l u p e = absurd (false≢true p)
first-sound Ft h given l u p e = absurd (false≢true p)
first-sound En h given l u p e = absurd (false≢true p)
first-sound Unknown h given l u p e = absurd (false≢true p)

-- line 1 does not end a listing
first-goes-on : (m : Mark) (h : Head) (given : ℕ) (l : List ℕ) → placed m 1 h given l ≡ true → line_does m 1 blank l ≡ ends → ⊥
unfolding placed line_does
first-goes-on Mc h given l p e = on (head_line false l) e
  where
    on : (x : Result Head Refusal) → on_head x blank ≡ ends → ⊥
    on (Ok h) e = let z : ◌≡◌ {A = ℕ} 0 1 = cc in omega arith
    on (Err f) e = let z : ◌≡◌ {A = ℕ} 0 1 = cc in omega arith
first-goes-on Mo h given l p e = on (head_line true l) e
  where
    on : (x : Result Head Refusal) → on_head x blank ≡ ends → ⊥
    on (Ok h) e = let z : ◌≡◌ {A = ℕ} 0 1 = cc in omega arith
    on (Err f) e = let z : ◌≡◌ {A = ℕ} 0 1 = cc in omega arith
first-goes-on Pt h given l p e = absurd (false≢true p)
first-goes-on Di h given l p e = absurd (false≢true p)
first-goes-on Ou h given l p e = absurd (false≢true p)
first-goes-on Ft h given l p e = absurd (false≢true p)
first-goes-on En h given l p e = absurd (false≢true p)
first-goes-on Unknown h given l p e = absurd (false≢true p)

later-sound : (m : Mark) (k : ℕ) (t : Listing) (l : List ℕ) (u : Listing) → 2 ≤ k → Sound t → placed m k t.head t.given l ≡ true → line_does m k t l ≡ goes u → Sound u
unfolding placed line_does
later-sound Mc k t l u h s p e = absurd (omega (arith, eqb-true k 1 p))
later-sound Mo k t l u h s p e = absurd (omega (arith, eqb-true k 1 p))
later-sound Pt k t l u h s p e = on (row_line t.head t.rows k l) refl e
  where
    on : (x : Result Row Refusal) → row_line t.head t.rows k l ≡ x → on_row x t ≡ goes u → Sound u
    on (Ok r) q e = subst Sound (goes_same _ _ e) (with-row t k r s (row_read t.head t.rows k l r q))
    on (Err f) q e = absurd (stops-not f u e)
later-sound Di k t l u h s p e = on (dichotomy_line t.head t.dichotomies l) refl e
  where
    on : (x : Result Requirement Refusal) → dichotomy_line t.head t.dichotomies l ≡ x → on_dichotomy x t ≡ goes u → Sound u
    on (Ok d) q e = subst Sound (goes_same _ _ e) (with-dichotomy t d s (dichotomy-sound t.head t.dichotomies l d q))
    on (Err f) q e = absurd (stops-not f u e)
later-sound Ou k t l u h s p e = on (outputs_line t.head l) refl e
  where
    on : (x : Result StateOutputs Refusal) → outputs_line t.head l ≡ x → on_outputs x t ≡ goes u → Sound u
    on (Ok o) q e = subst Sound (goes_same _ _ e) (with-outputs t o.state.0 o.outputs s (outputs-sound t.head l o q))
    on (Err f) q e = absurd (stops-not f u e)
later-sound Ft k t l u h s p e = absurd (false≢true p)
later-sound En k t l u h s p e = on (end_line l) e
  where
    on : (x : Result Unit Refusal) → on_end x ≡ goes u → Sound u
    on (Ok tt) e = absurd (let z : ◌≡◌ {A = ℕ} 0 1 = cc in omega arith)
    on (Err f) e = absurd (stops-not f u e)
later-sound Unknown k t l u h s p e = absurd (stops-not BadLine u e)

-- ---- the whole

-- a reading that is accepted gives a sound listing, in which under `MO` each state has its outputs
abbrev Good : Reading → Type 0
Good r = IfOk r (λ t. Sound t × (complete t.head t.given ≡ true))

ended-good : (k : ℕ) (t : Listing) (rest : List (List ℕ)) → Sound t → Good (ended k t rest)
unfolding ended
ended-good k t rest s = go (nothing rest) (complete t.head t.given) refl
  where
    go : (b c : Bool) → complete t.head t.given ≡ c → Good (cond b (cond c (Ok t) (refused NoOutputs k)) (refused Place (k + 1)))
    go true true q = (s, q)
    go true false q = tt
    go false c q = tt

unended-good : (k : ℕ) (h : Head) (given : ℕ) (l : List ℕ) → Good (unended k h given l)
unfolding unended
unended-good k h given [] = tt
unended-good k h given (x ∷ xs) = go (placed (mark_is (mark_of (x ∷ xs))) k h given (x ∷ xs))
  where
    go : (b : Bool) → Good (cond b (refused BadLine k) (refused Place k))
    go true = tt
    go false = tt

-- what follows line k
unfoldable pub after : ℕ → Listing → List (List ℕ) → Step → Reading
after k t rest s = elim s [ goes u ↦ read_lines (k + 1) u rest | ends ↦ ended k t rest | stops f ↦ refused f k ]

pub reads_on : (k : ℕ) (t : Listing) (l m : List ℕ) (ms : List (List ℕ)) → read_lines k t (l ∷ (m ∷ ms)) ≡ after k t (m ∷ ms) (line_step k t l)
unfolding read_lines after
reads_on k t l m ms = refl

pub reads_none : (k : ℕ) (t : Listing) → read_lines k t [] ≡ refused Place k
unfolding read_lines
reads_none k t = refl

pub reads-last : (k : ℕ) (t : Listing) (l : List ℕ) → read_lines k t (l ∷ []) ≡ unended k t.head t.given l
unfolding read_lines
reads-last k t l = refl

later-good : (k : ℕ) (t : Listing) (ls : List (List ℕ)) → 2 ≤ k → Sound t → Good (read_lines k t ls)
unfolding after
later-good k t [] h s = rw (reads_none k t) tt
later-good k t (l ∷ []) h s = rw (reads-last k t l) (unended-good k t.head t.given l)
later-good k t (l ∷ (m ∷ ms)) h s = rw (reads_on k t l m ms) (go (line_step k t l) refl (λ u. later-good (k + 1) u (m ∷ ms) (omega arith)))
  where
    go : (x : Step) → line_step k t l ≡ x → ((u : Listing) → Sound u → Good (read_lines (k + 1) u (m ∷ ms))) → Good (after k t (m ∷ ms) x)
    go (goes u) e f = let p = step-placed k t u l e in f u (later-sound (mark_is (mark_of l)) k t l u h s p.0 p.1)
    go ends e f = ended-good k t (m ∷ ms) s
    go (stops r) e f = tt

first_good : (ls : List (List ℕ)) → Good (read_lines 1 blank ls)
unfolding after
first_good [] = rw (reads_none 1 blank) tt
first_good (l ∷ []) = rw (reads-last 1 blank l) (unended-good 1 blank.head blank.given l)
first_good (l ∷ (m ∷ ms)) = rw (reads_on 1 blank l m ms) (go (line_step 1 blank l) refl)
  where
    go : (x : Step) → line_step 1 blank l ≡ x → Good (after 1 blank (m ∷ ms) x)
    go (goes u) e = let p = step-placed 1 blank u l e in later-good 2 u (m ∷ ms) (omega arith) (first-sound (mark_is (mark_of l)) blank.head blank.given l u p.0 p.1)
    go ends e = let p = step-ends 1 blank l e in absurd (first-goes-on (mark_is (mark_of l)) blank.head blank.given l p.0 p.1)
    go (stops r) e = tt

-- ---- a flow table

with-dichotomies : (ds : List Requirement) (t : Listing) → Sound t × (complete t.head t.given ≡ true) → t.dichotomies + length ds ≤ most_dichotomies
    → ((d : Requirement) → Memᴰ d ds → SoundBlocks t.head.states d)
    → Sound (with_dichotomies ds t) × (complete (with_dichotomies ds t).head (with_dichotomies ds t).given ≡ true)
unfolding with_dichotomies
with-dichotomies [] t s h f = s
with-dichotomies (d ∷ ds) t s h f =
    with-dichotomies ds (with_dichotomy d t) (with-dichotomy t d s.0 (omega arith, f d (Memᴰ.head refl)), s.1) (omega arith) (λ e m. f e (Memᴰ.tail m))

mealy-complete : (h : Head) (given : ℕ) → h.moore ≡ false → complete h given ≡ true
unfolding complete
mealy-complete h given e = rw e

-- the head of a flow table
pub flow-head : (l m : List ℕ) (h : Head) → flow_head l m ≡ Ok h → head_line false l ≡ Ok h
unfolding flow_head
flow-head l m h e = (chose-first (same (mark_of l) (bytes "MC") && same (mark_of m) (bytes "FT")) e (λ q. let z : ◌≡◌ {A = ℕ} 0 1 = cc in omega arith)).1

-- of the lines of n states each column has n entries at most
pub column-short : (n k : ℕ) (all : List (List ℕ)) (column : List ℕ) → Memᴰ column (columns_of n k (take n all)) → length column ≤ n
unfolding columns_of
column-short n k all column m =
    let c = Memᴰ.of_map (λ c. map (entry_at n c) (take n all)) (states_from 0 k) m in
    let e : length (map (entry_at n c.0) (take n all)) ≡ length column = ap length c.2 in
    omega (arith, e, length-map (take n all) (entry_at n c.0), length-take n all)

module _ (h : Head) (all : List (List ℕ)) (s : SoundHead h) (mealy : h.moore ≡ false) where
  flow-gives : (ds : List Requirement) → ((d : Requirement) → Memᴰ d ds → SoundBlocks h.states d) → Good (flow_gives h ds)
  unfolding flow_gives blank
  flow-gives ds f = go (leb (length ds) most_dichotomies) refl
    where
      go : (b : Bool) → leb (length ds) most_dichotomies ≡ b → Good (cond b (Ok (with_dichotomies ds (with_head h blank))) (refused Limit 0))
      go true e = with-dichotomies ds (with_head h blank) (with-head h s, mealy-complete h 0 mealy) (omega (arith, leb-true (length ds) most_dichotomies e)) f
      go false e = tt

  flow-read : (columns : List (List ℕ)) → ((column : List ℕ) → Memᴰ column columns → length column ≤ h.states) → Good (flow_read h columns)
  unfolding flow_read
  flow-read columns f = go (stability columns (states_from 0 h.states))
    where
      go : (v : Verdict) → Good (elim v as (λ _. Reading) [ Ok _ ↦ flow_gives h (flow_asks columns) | Err why ↦ Err why ])
      go (Ok tt) = flow-gives (flow_asks columns) (table-sound h.states columns f)
      go (Err why) = tt

  flow-ended : (k : ℕ) (rest : List (List ℕ)) → Good (flow_ended k h all rest)
  unfolding flow_ended
  flow-ended k rest = go (nothing rest)
    where
      go : (b : Bool) → Good (cond b (flow_read h (columns_of h.states (column_count all) (take h.states all))) (refused Place (k + 1)))
      go true = flow-read (columns_of h.states (column_count all) (take h.states all)) (column-short h.states (column_count all) all)
      go false = tt

flow-unended : (k n : ℕ) (l : List ℕ) → Good (flow_unended k n l)
unfolding flow_unended
flow-unended k n [] = tt
flow-unended k n (x ∷ xs) = go (flow_placed (mark_is (mark_of (x ∷ xs))) k n)
  where
    go : (b : Bool) → Good (cond b (refused BadLine k) (refused Place k))
    go true = tt
    go false = tt

-- what follows line k of a flow table
unfoldable pub flow_after : ℕ → Head → List (List ℕ) → List (List ℕ) → FlowStep → Reading
flow_after k h all rest s = elim s [ flow_goes ↦ flow_lines (k + 1) h all rest | flow_ends ↦ flow_ended k h all rest | flow_stops f ↦ refused f k ]

module _ (k : ℕ) (h : Head) (all : List (List ℕ)) where
  pub flow-on : (l m : List ℕ) (ms : List (List ℕ)) → flow_lines k h all (l ∷ (m ∷ ms)) ≡ flow_after k h all (m ∷ ms) (flow_step k h.states (column_count all) l)
  unfolding flow_lines flow_after
  flow-on l m ms = refl

  pub flow-none : flow_lines k h all [] ≡ refused Place k
  unfolding flow_lines
  flow-none = refl

  pub flow-last : (l : List ℕ) → flow_lines k h all (l ∷ []) ≡ flow_unended k h.states l
  unfolding flow_lines
  flow-last l = refl

flow-good : (k : ℕ) (h : Head) (all ls : List (List ℕ)) → SoundHead h → h.moore ≡ false → Good (flow_lines k h all ls)
unfolding flow_after
flow-good k h all [] s e = rw (flow-none k h all) tt
flow-good k h all (l ∷ []) s e = rw (flow-last k h all l) (flow-unended k h.states l)
flow-good k h all (l ∷ (m ∷ ms)) s e = rw (flow-on k h all l m ms) (go (flow_step k h.states (column_count all) l) (flow-good (k + 1) h all (m ∷ ms) s e))
  where
    go : (x : FlowStep) → Good (flow_lines (k + 1) h all (m ∷ ms)) → Good (flow_after k h all (m ∷ ms) x)
    go flow_goes g = g
    go flow_ends g = flow-ended h all s e k (m ∷ ms)
    go (flow_stops r) g = tt

-- all lines, of either kind
unfoldable pub read_by : Result Head Refusal → List ℕ → List (List ℕ) → Reading
read_by x l rest = elim x [ Ok h ↦ flow_lines 2 h rest rest | Err r ↦ read_lines 1 blank (l ∷ rest) ]

pub all_two : (l m : List ℕ) (ms : List (List ℕ)) → read_all (l ∷ (m ∷ ms)) ≡ read_by (flow_head l m) l (m ∷ ms)
unfolding read_all read_by
all_two l m ms = refl

pub all_one : (l : List ℕ) → read_all (l ∷ []) ≡ read_lines 1 blank (l ∷ [])
unfolding read_all
all_one l = refl

pub all_none : read_all [] ≡ read_lines 1 blank []
unfolding read_all
all_none = refl

all-good : (ls : List (List ℕ)) → Good (read_all ls)
unfolding read_by
all-good [] = rw all_none (first_good [])
all-good (l ∷ []) = rw (all_one l) (first_good (l ∷ []))
all-good (l ∷ (m ∷ ms)) = rw (all_two l m ms) (go (flow_head l m) refl)
  where
    go : (x : Result Head Refusal) → flow_head l m ≡ x → Good (read_by x l (m ∷ ms))
    go (Ok h) e = let q = flow-head l m h e in flow-good 2 h (m ∷ ms) (m ∷ ms) (head-sound false l h q) (head-kind false l h q)
    go (Err r) e = first_good (l ∷ (m ∷ ms))

-- ---- judged by its rows

judged-good : (v : Verdict) (t : Listing) → Sound t × (complete t.head t.given ≡ true) → Good (judged v t)
judged-good (Ok _) t s = s
judged-good (Err why) t s = tt

checked-good : (r : Reading) → Good r → Good (checked r)
unfolding conflict
checked-good (Ok t) g = judged-good (conflict (rows_of t)) t g
checked-good (Err why) g = tt

-- whatever the bytes
accepted-good : (s : List ℕ) → Good (reading s)
unfolding reading
accepted-good s = go (leb (length s) most_bytes)
  where
    go : (b : Bool) → Good (cond b (checked (read_all (lines_of s))) (refused Limit 0))
    go true = checked-good (read_all (lines_of s)) (all-good (lines_of s))
    go false = tt

pub accepted-sound : (s : List ℕ) {t : Listing} → reading s ≡ Ok t → Sound t
accepted-sound s e = (subst Good e (accepted-good s)).0

pub accepted-complete : (s : List ℕ) {t : Listing} → reading s ≡ Ok t → complete t.head t.given ≡ true
accepted-complete s e = (subst Good e (accepted-good s)).1
