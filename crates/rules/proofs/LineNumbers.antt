-- The line of a refusal: at most one more than the bytes of the listing, so a refusal's number and line can be told from minus (number × 100,000 + line).
use Rattle.rules.specs.declared.StateOutputs.{StateOutputs}
use Rattle.std.specs.Prelude.{Result, Ok, Err}
use mathlib.Core.Path.{◌≡◌, refl, subst}
use mathlib.Core.Bool.{Bool, true, false, cond}
use mathlib.Core.List.{List, [], ◌∷◌}
use Prim.Native.Nat.{ℕ, zero, suc, ◌+◌, ◌≤◌, ◌<◌}
use native.Mathlib.Decide.{dec_lt, ℕ_discrete}
use native.Mathlib.Omega.{arith}
use lib.Dec.{eqb, leb}
use lib.ListN.{length, take, get_or, set, get_or-eq_default, length-take}
use lib.Seq.{get_or-set_same, get_or-set_other, set_out, get_or-take}
use borrow.Author.Tests.{leb-true}
use Rattle.sets.specs.Sets.{states_from}
use Rattle.rules.specs.Limits.{most_bytes, most_states, most_dichotomies}
use Rattle.rules.specs.Text.{push, split, lines_of, mark_of, mark_is}
use Rattle.rules.specs.Lines.{head_line, row_line, dichotomy_line, outputs_line, end_line}
use Rattle.rules.specs.Listing.{no_row, blank, with_head, with_row, with_dichotomy, rows_of, Step, goes, ends, stops, on_head, on_row, on_dichotomy, on_outputs, on_end, placed, line_does, line_step, nothing, complete, ended, unended, read_lines, read_all, clash, clash_with, or_else, conflict, judged, checked, reading, with_dichotomies, flow_step, flow_gives, flow_read, flow_ended, flow_unended, flow_lines, Reading}
use Rattle.rules.specs.FlowTable.{flow_asks, goes_well, stability}
use Rattle.rules.specs.FlowLines.{flow_head, column_count, columns_of, FlowStep, flow_goes, flow_ends, flow_stops, flow_placed}
use Rattle.rules.specs.declared.Head.{Head}
use Rattle.rules.specs.declared.Row.{Row}
use Rattle.rules.specs.declared.Requirement.{Requirement}
use Rattle.rules.specs.declared.Listing.{Listing}
use Rattle.rules.specs.declared.Mark.{Mark}
use Rattle.rules.specs.declared.Mark.TheVariants.{Mc, Mo, Pt, Di, Ou, Ft, En, Unknown}
use Rattle.rules.specs.declared.Refusal.{Refusal}
use Rattle.rules.specs.declared.Refusal.TheVariants.{BadLine, Limit, Place, Conflict, Unstable, NoOutputs}
use Rattle.rules.specs.Refusals.{Verdict, refused}
use Rattle.rules.proofs.SoundLines.{head-sound, row_read}
use Rattle.rules.proofs.Sound.{goes_same, stops-not, step-placed, after, reads_on, reads_none, reads-last, flow-head, flow_after, flow-on, flow-none, flow-last, read_by, all_two, all_one, all_none}
use Rattle.rules.specs.declared.Refused.{Refused}

-- a refusal is at line m or above, and the rows of an accepted listing stand there
abbrev Numbered : ℕ → Listing → Type 0
Numbered m t = (j : ℕ) → j < t.rows → (get_or t.table j no_row).line ≤ m

abbrev pub AtMost : {A : Type 0} → ℕ → Result A Refused → Type 0
AtMost m (Ok x) = Unit {0}
AtMost m (Err why) = why.line ≤ m

abbrev Within : ℕ → Reading → Type 0
Within m (Ok t) = Numbered m t
Within m (Err why) = why.line ≤ m

blank-numbered : (m : ℕ) → Numbered m blank
unfolding blank
blank-numbered m j h = absurd (omega arith)

-- ---- one line

row-numbered : (m : ℕ) (t : Listing) (r : Row) → r.line ≤ m → Numbered m t → Numbered m (with_row r t)
row-numbered m t r h f j q = go (dec_lt t.rows (length t.table)) (ℕ_discrete j t.rows)
  where
    go : Dec (t.rows < length t.table) → Dec (j ≡ t.rows) → (get_or (set t.table t.rows r) j no_row).line ≤ m
    go (yes l) (yes e) = rw (e, get_or-set_same t.table t.rows r no_row l) h
    go (yes l) (no e) = rw (get_or-set_other t.table t.rows j r no_row e) (f j (omega arith))
    go (no l) (yes e) =
        let o : length t.table ≤ t.rows = omega arith in
        rw (set_out t.table t.rows r o, e, get_or-eq_default t.table no_row {n = t.rows} o) (omega arith)
    go (no l) (no e) = rw (get_or-set_other t.table t.rows j r no_row e) (f j (omega arith))

head-numbered : (m : ℕ) (x : Result Head Refusal) (t u : Listing) → Numbered m t → on_head x t ≡ goes u → Numbered m u
head-numbered m (Ok h) t u f e = subst (Numbered m) (goes_same _ _ e) f
head-numbered m (Err r) t u f e = absurd (stops-not r u e)

does-numbered : (m : ℕ) (x : Mark) (k : ℕ) (t : Listing) (l : List ℕ) (u : Listing) → k ≤ m → Numbered m t → line_does x k t l ≡ goes u → Numbered m u
unfolding line_does
does-numbered m Mc k t l u h f e = head-numbered m (head_line false l) t u f e
does-numbered m Mo k t l u h f e = head-numbered m (head_line true l) t u f e
does-numbered m Pt k t l u h f e = on (row_line t.head t.rows k l) refl e
  where
    on : (x : Result Row Refusal) → row_line t.head t.rows k l ≡ x → on_row x t ≡ goes u → Numbered m u
    on (Ok r) q e = subst (Numbered m) (goes_same _ _ e) (row-numbered m t r (omega (arith, (row_read t.head t.rows k l r q).keeps_line)) f)
    on (Err r) q e = absurd (stops-not r u e)
does-numbered m Di k t l u h f e = on (dichotomy_line t.head t.dichotomies l) e
  where
    on : (x : Result Requirement Refusal) → on_dichotomy x t ≡ goes u → Numbered m u
    on (Ok d) e = subst (Numbered m) (goes_same _ _ e) f
    on (Err r) e = absurd (stops-not r u e)
does-numbered m Ou k t l u h f e = on (outputs_line t.head l) e
  where
    on : (x : Result StateOutputs Refusal) → on_outputs x t ≡ goes u → Numbered m u
    on (Ok o) e = subst (Numbered m) (goes_same _ _ e) f
    on (Err r) e = absurd (stops-not r u e)
does-numbered m Ft k t l u h f e = absurd (stops-not BadLine u e)
does-numbered m En k t l u h f e = on (end_line l) e
  where
    on : (x : Result Unit Refusal) → on_end x ≡ goes u → Numbered m u
    on (Ok tt) e = absurd (let z : ◌≡◌ {A = ℕ} 0 1 = cc in omega arith)
    on (Err r) e = absurd (stops-not r u e)
does-numbered m Unknown k t l u h f e = absurd (stops-not BadLine u e)

-- ---- all lines: those from number k on, of which there are at most so many

ended-within : (m k : ℕ) (t : Listing) (rest : List (List ℕ)) → k < m → Numbered m t → Within m (ended k t rest)
unfolding ended
ended-within m k t rest h f = go (nothing rest) (complete t.head t.given)
  where
    go : (b c : Bool) → Within m (cond b (cond c (Ok t) (refused NoOutputs k)) (refused Place (k + 1)))
    go true true = f
    go true false = omega arith
    go false c = omega arith

unended-within : (m k : ℕ) (g : Head) (given : ℕ) (l : List ℕ) → k ≤ m → Within m (unended k g given l)
unfolding unended
unended-within m k g given [] h = h
unended-within m k g given (x ∷ xs) h = go (placed (mark_is (mark_of (x ∷ xs))) k g given (x ∷ xs))
  where
    go : (b : Bool) → Within m (cond b (refused BadLine k) (refused Place k))
    go true = h
    go false = h

lines-within : (m k : ℕ) (t : Listing) (ls : List (List ℕ)) → 1 ≤ k → k + length ls ≤ m → Numbered m t → Within m (read_lines k t ls)
unfolding after
lines-within m k t [] p h f = rw (reads_none k t) (omega arith)
lines-within m k t (l ∷ []) p h f = rw (reads-last k t l) (unended-within m k t.head t.given l (omega arith))
lines-within m k t (l ∷ (x ∷ xs)) p h f =
    rw (reads_on k t l x xs) (go (line_step k t l) refl (λ u g. lines-within m (k + 1) u (x ∷ xs) (omega arith) (omega arith) g))
  where
    go : (s : Step) → line_step k t l ≡ s → ((u : Listing) → Numbered m u → Within m (read_lines (k + 1) u (x ∷ xs))) → Within m (after k t (x ∷ xs) s)
    go (goes u) e g = g u (does-numbered m (mark_is (mark_of l)) k t l u (omega arith) f (step-placed k t u l e).1)
    go ends e g = ended-within m k t (x ∷ xs) (omega arith) f
    go (stops r) e g = omega arith

-- ---- a flow table: it has no rows

dichotomies-numbered : (m : ℕ) (ds : List Requirement) (t : Listing) → Numbered m t → Numbered m (with_dichotomies ds t)
unfolding with_dichotomies
dichotomies-numbered m [] t f = f
dichotomies-numbered m (d ∷ ds) t f = dichotomies-numbered m ds (with_dichotomy d t) f

gives-within : (m : ℕ) (h : Head) (ds : List Requirement) → Within m (flow_gives h ds)
unfolding flow_gives
gives-within m h ds = go (leb (length ds) most_dichotomies)
  where
    go : (b : Bool) → Within m (cond b (Ok (with_dichotomies ds (with_head h blank))) (refused Limit 0))
    go true = dichotomies-numbered m ds (with_head h blank) (blank-numbered m)
    go false = omega arith

-- 13 stands at a state's line
stable-within : (m : ℕ) (columns : List (List ℕ)) (a k : ℕ) → a + k + 1 ≤ m → AtMost m (stability columns (states_from a k))
unfolding stability states_from
stable-within m columns a zero h = tt
stable-within m columns a (suc k) h = go (goes_well columns a) (stable-within m columns (suc a) k (omega arith))
  where
    go : (b : Bool) → AtMost m (stability columns (states_from (suc a) k))
        → AtMost m (elim b as (λ _. Verdict) [ true ↦ stability columns (states_from (suc a) k) | false ↦ refused Unstable (a + 2) ])
    go true g = g
    go false g = omega arith

read-within : (m : ℕ) (h : Head) (columns : List (List ℕ)) → h.states + 1 ≤ m → Within m (flow_read h columns)
unfolding flow_read
read-within m h columns l = go (stability columns (states_from 0 h.states)) (stable-within m columns 0 h.states (omega arith))
  where
    go : (v : Verdict) → AtMost m v → Within m (elim v as (λ _. Reading) [ Ok _ ↦ flow_gives h (flow_asks columns) | Err why ↦ Err why ])
    go (Ok _) g = gives-within m h (flow_asks columns)
    go (Err why) g = g

flow-ended-within : (m k : ℕ) (h : Head) (all rest : List (List ℕ)) → k < m → h.states + 1 ≤ m → Within m (flow_ended k h all rest)
unfolding flow_ended
flow-ended-within m k h all rest l n = go (nothing rest)
  where
    go : (b : Bool) → Within m (cond b (flow_read h (columns_of h.states (column_count all) (take h.states all))) (refused Place (k + 1)))
    go true = read-within m h (columns_of h.states (column_count all) (take h.states all)) n
    go false = omega arith

flow-unended-within : (m k n : ℕ) (l : List ℕ) → k ≤ m → Within m (flow_unended k n l)
unfolding flow_unended
flow-unended-within m k n [] h = h
flow-unended-within m k n (x ∷ xs) h = go (flow_placed (mark_is (mark_of (x ∷ xs))) k n)
  where
    go : (b : Bool) → Within m (cond b (refused BadLine k) (refused Place k))
    go true = h
    go false = h

flow-within : (m k : ℕ) (h : Head) (all ls : List (List ℕ)) → k + length ls ≤ m → h.states + 1 ≤ m → Within m (flow_lines k h all ls)
unfolding flow_after
flow-within m k h all [] l n = rw (flow-none k h all) (omega arith)
flow-within m k h all (x ∷ []) l n = rw (flow-last k h all x) (flow-unended-within m k h.states x (omega arith))
flow-within m k h all (x ∷ (y ∷ ys)) l n = rw (flow-on k h all x y ys) (go (flow_step k h.states (column_count all) x) (flow-within m (k + 1) h all (y ∷ ys) (omega arith) n))
  where
    go : (s : FlowStep) → Within m (flow_lines (k + 1) h all (y ∷ ys)) → Within m (flow_after k h all (y ∷ ys) s)
    go flow_goes g = g
    go flow_ends g = flow-ended-within m k h all (y ∷ ys) (omega arith) n
    go (flow_stops r) g = omega arith

all-within : (m : ℕ) (ls : List (List ℕ)) → 1 + length ls ≤ m → most_states + 1 ≤ m → Within m (read_all ls)
unfolding read_by
all-within m [] h n = rw all_none (lines-within m 1 blank [] (omega arith) h (blank-numbered m))
all-within m (l ∷ []) h n = rw (all_one l) (lines-within m 1 blank (l ∷ []) (omega arith) h (blank-numbered m))
all-within m (l ∷ (x ∷ xs)) h n = rw (all_two l x xs) (go (flow_head l x) refl)
  where
    go : (y : Result Head Refusal) → flow_head l x ≡ y → Within m (read_by y l (x ∷ xs))
    go (Ok g) e = flow-within m 2 g (x ∷ xs) (x ∷ xs) (omega arith) (omega (arith, (head-sound false l g (flow-head l x g e)).few-states))
    go (Err r) e = lines-within m 1 blank (l ∷ (x ∷ xs)) (omega arith) h (blank-numbered m)

-- ---- the conflict

abbrev pub AllBelow : ℕ → List Row → Type 0
AllBelow m [] = Unit {0}
AllBelow m (r ∷ rs) = (r.line ≤ m) × AllBelow m rs

clash-within : (m : ℕ) (a : Row) (rs : List Row) → AllBelow m rs → AtMost m (clash_with a rs)
unfolding clash_with
clash-within m a [] h = tt
clash-within m a (b ∷ bs) h = go (clash a b) (clash-within m a bs h.1)
  where
    go : (t : Bool) → AtMost m (clash_with a bs) → AtMost m (elim t as (λ _. Verdict) [ true ↦ refused Conflict b.line | false ↦ clash_with a bs ])
    go true g = h.0
    go false g = g

pub or-within : (m : ℕ) (v w : Verdict) → AtMost m v → AtMost m w → AtMost m (or_else v w)
or-within m (Ok tt) w h g = g
or-within m (Err why) w h g = h

pub conflict-within : (m : ℕ) (rs : List Row) → AllBelow m rs → AtMost m (conflict rs)
unfolding conflict
conflict-within m [] h = tt
conflict-within m (a ∷ rs) h = or-within m (clash_with a rs) (conflict rs) (clash-within m a rs h.1) (conflict-within m rs h.1)

pub all-below : (m : ℕ) (l : List Row) → ((j : ℕ) → j < length l → (get_or l j no_row).line ≤ m) → AllBelow m l
all-below m [] f = tt
all-below m (r ∷ rs) f = (f 0 (omega arith), all-below m rs (λ j h. f (suc j) (omega arith)))

rows-below : (m : ℕ) (t : Listing) → Numbered m t → AllBelow m (rows_of t)
rows-below m t f =
    all-below m (rows_of t)
    (λ j h. (let l : j < t.rows = omega (arith, length-take t.rows t.table) in rw (get_or-take t.rows t.table j no_row l) (f j l)))

-- ---- the whole

judged-within : (m : ℕ) (v : Verdict) (t : Listing) → AtMost m v → AtMost m (judged v t)
judged-within m (Ok _) t h = tt
judged-within m (Err why) t h = h

checked-within : (m : ℕ) (r : Reading) → Within m r → AtMost m (checked r)
unfolding conflict
checked-within m (Ok t) w = judged-within m (conflict (rows_of t)) t (conflict-within m (rows_of t) (rows-below m t w))
checked-within m (Err why) w = w

push-length : (x : ℕ) (ps : List (List ℕ)) → length (push x ps) ≤ suc (length ps)
push-length x [] = omega arith
push-length x (p ∷ ps) = omega arith

pub split-length : (q : ℕ) (l : List ℕ) → length (split q l) ≤ suc (length l)
unfolding split
split-length q [] = omega arith
split-length q (x ∷ xs) = go (eqb x q) (split-length q xs)
  where
    go : (t : Bool) → length (split q xs) ≤ suc (length xs) → length (cond t ([] ∷ split q xs) (push x (split q xs))) ≤ suc (suc (length xs))
    go true h = omega arith
    go false h = omega (arith, push-length x (split q xs))

reading-within : (s : List ℕ) → AtMost (most_bytes + 2) (reading s)
unfolding reading
reading-within s = go (leb (length s) most_bytes) refl
  where
    go : (b : Bool) → leb (length s) most_bytes ≡ b → AtMost (most_bytes + 2) (cond b (checked (read_all (lines_of s))) (refused Limit 0))
    go true e =
        checked-within (most_bytes + 2) (read_all (lines_of s))
        (all-within (most_bytes + 2) (lines_of s) (omega (arith, leb-true (length s) most_bytes e, split-length 10 s)) (omega arith))
    go false e = omega arith

-- whatever the bytes
pub refused-line : (s : List ℕ) (r : Refusal) (k : ℕ) → reading s ≡ refused r k → k < 100000
refused-line s r k e = let h : k ≤ most_bytes + 2 = subst (AtMost (most_bytes + 2)) e (reading-within s) in omega arith
