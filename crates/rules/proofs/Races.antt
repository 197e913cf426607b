-- What a flow table is for (001, section VI.A): where the code leaves nothing unmet there is no critical race, and else the report lists exactly the pairs of sets that may race.
use mathlib.Core.Path.{◌≡◌, sym, ap, subst, ◌∙◌}
use mathlib.Core.Logic.{◌↔◌, ◌⊎◌, inl, inr, ⊎_elim}
use mathlib.Core.Bool.{Bool, true, false, true≢false}
use mathlib.Core.List.{List, [], ◌∷◌, ◌++◌, Memᴰ}
use Prim.Native.Nat.{ℕ, zero, suc, ◌+◌, ◌-◌, ◌*◌, ◌/◌, ◌≤◌, ◌<◌}
use native.Mathlib.Decide.{dec_lt}
use native.Mathlib.Omega.{arith}
use lib.Dec.{eqb}
use lib.ListN.{length, get_or, length-append, get_or-eq_default}
use lib.Seq.{get_or-append-add}
use borrow.Author.Tests.{lt-ltb, eqb-true, eq-eqb}
use Rattle.sets.specs.Sets.{has, states_from}
use Rattle.sets.proofs.Members.{has-zero, has-suc, has-none}
use Rattle.sets.proofs.Every.{and_first, and_second}
use Rattle.rules.specs.Text.{digit, set_of}
use Rattle.rules.specs.FlowTable.{no_state, destinations_from, flow_asks, is_stable, goes_well}
use Rattle.rules.specs.FlowLines.{column_count}
use Rattle.rules.specs.Listing.{no_requirement, reading}
use Rattle.rules.specs.Requirements.{met, pairs, requirements}
use Rattle.rules.specs.Code.{unmet}
use Rattle.rules.specs.Answers.{says, report_reply}
use Rattle.rules.specs.declared.Head.{Head}
use Rattle.rules.specs.declared.Requirement.{Requirement}
use Rattle.rules.proofs.Judged.{MetByNone, first_or_none}
use Rattle.rules.proofs.Meeting.{Split, met-means, means-met}
use Rattle.rules.proofs.Unmet.{mem-at, unmet-listed}
use Rattle.rules.proofs.SoundLines.{head-sound}
use Rattle.rules.proofs.Sound.{flow-head, column-short}
use Rattle.rules.proofs.FlowSets.{destination-listed, between, OfColumn, of-table, in_table}
use Rattle.rules.proofs.FlowGiven.{IsFlow, FlowGiven, flow-given}
use Rattle.rules.proofs.Ended.{HasLine}
use Rattle.rules.proofs.Reported.{un_text, reported, tells-of}
use Rattle.std.specs.Prelude.{Ok}
use Rattle.rules.specs.declared.Listing.{Listing}
use mathlib.Core.List.Memᴰ

-- ---- transitions

-- in this column state s goes to the state d
pub record Goes (column : List ℕ) (s d : ℕ) : Type 0 where
  pub from : s < length column
  pub to : get_or column s no_state ≡ d
  pub state : d < no_state

-- some bit of the code has one value on the whole set x and the other on the whole set y
pub record ToldApart (n : ℕ) (bits : List ℕ) (x y : ℕ) : Type 0 where
  pub bit : ℕ
  pub below : bit < length bits
  pub parts : Split n x y (get_or bits bit 0) ⊎ Split n y x (get_or bits bit 0)

-- some bit of the code holds still while s goes to d and while t goes to e, and tells the one from the other
pub record StillApart (bits : List ℕ) (s d t e : ℕ) : Type 0 where
  pub bit : ℕ
  pub below : bit < length bits
  pub one-still : has (get_or bits bit 0) s ≡ has (get_or bits bit 0) d
  pub other-still : has (get_or bits bit 0) t ≡ has (get_or bits bit 0) e
  pub differ : has (get_or bits bit 0) s ≡ has (get_or bits bit 0) t → ⊥

-- the states that go to d are those of its set
pub goes-member : (column : List ℕ) (s d : ℕ) → s < length column → get_or column s no_state ≡ d → has (set_of d column) s ≡ 1
unfolding set_of
goes-member [] s d h e = absurd (omega arith)
goes-member (x ∷ xs) zero d h e =
    let one : digit (eqb x d) ≡ 1 = ap digit (eq-eqb x d e) in
    omega (arith, has-zero (set_of d xs * 2 + digit (eqb x d)))
goes-member (x ∷ xs) (suc s) d h e = has-suc (set_of d xs * 2 + digit (eqb x d)) s ∙ ap (λ (m : ℕ). has m s) (half (eqb x d)) ∙ goes-member xs s d (omega arith) e
  where
    half : (b : Bool) → (set_of d xs * 2 + digit b) / 2 ≡ set_of d xs
    half true = omega arith
    half false = omega arith

-- a stable destination goes to itself
pub stable-goes : (column : List ℕ) (d : ℕ) → length column ≤ no_state → d < no_state → is_stable column d ≡ true → Goes column d d
unfolding is_stable
stable-goes column d short h e = go (dec_lt d (length column))
  where
    itself : get_or column d no_state ≡ d
    itself = eqb-true (get_or column d no_state) d (rw (lt-ltb d no_state h) at e)

    go : Dec (d < length column) → Goes column d d
    go (yes l) = record { from = l; to = itself; state = h }
    go (no o) = absurd (omega (arith, itself, get_or-eq_default column no_state {n = d} (omega arith)))

column-well : (columns : List (List ℕ)) (column : List ℕ) (s : ℕ) → Memᴰ column columns → goes_well columns s ≡ true → is_stable column (get_or column s no_state) ≡ true
unfolding goes_well
column-well [] column s m e = absurd (Memᴰ.not-nil m)
column-well (x ∷ columns) column s m e =
    ⊎_elim
    (λ q. ap (λ (y : List ℕ). is_stable y (get_or y s no_state)) q ∙ and_first (is_stable x (get_or x s no_state)) (goes_well columns s) e)
    (λ q. column-well columns column s q (and_second (is_stable x (get_or x s no_state)) (goes_well columns s) e))
    (Memᴰ.cases_cons m)

-- where the sets are told apart, so are any two transitions to the two
still-apart : (n : ℕ) (bits : List ℕ) (column : List ℕ) (s d t e : ℕ) → length column ≤ n → Goes column s d → Goes column t e → Goes column d d → Goes column e e
    → ToldApart n bits (set_of d column) (set_of e column) → StillApart bits s d t e
still-apart n bits column s d t e short p q dd ee a = ⊎_elim one_way other_way a.parts
  where
    in_one : (i : ℕ) → Goes column i d → (i < n) × (has (set_of d column) i ≡ 1)
    in_one i g = (omega (arith, g.from), goes-member column i d g.from g.to)

    in-other : (i : ℕ) → Goes column i e → (i < n) × (has (set_of e column) i ≡ 1)
    in-other i g = (omega (arith, g.from), goes-member column i e g.from g.to)

    one_way : Split n (set_of d column) (set_of e column) (get_or bits a.bit 0) → StillApart bits s d t e
    one_way c =
        let zs = c.zeros s (in_one s p).0 (in_one s p).1 in
        let zd = c.zeros d (in_one d dd).0 (in_one d dd).1 in
        let ot = c.ones t (in-other t q).0 (in-other t q).1 in
        let oe = c.ones e (in-other e ee).0 (in-other e ee).1 in
        record { bit = a.bit; below = a.below; one-still = zs ∙ sym zd; other-still = ot ∙ sym oe; differ = λ z. omega (arith, z, zs, ot) }

    other_way : Split n (set_of e column) (set_of d column) (get_or bits a.bit 0) → StillApart bits s d t e
    other_way c =
        let os = c.ones s (in_one s p).0 (in_one s p).1 in
        let od = c.ones d (in_one d dd).0 (in_one d dd).1 in
        let zt = c.zeros t (in-other t q).0 (in-other t q).1 in
        let ze = c.zeros e (in-other e ee).0 (in-other e ee).1 in
        record { bit = a.bit; below = a.below; one-still = os ∙ sym od; other-still = zt ∙ sym ze; differ = λ z. omega (arith, z, os, zt) }

-- ---- numbers

mem-place : {A : Type 0} (a d : A) (l : List A) → Memᴰ a l → (k : ℕ) × (k < length l) × (get_or l k d ≡ a)
mem-place a d [] m = absurd (Memᴰ.not-nil m)
mem-place a d (x ∷ l) m = ⊎_elim (λ e. (0, omega arith, sym e)) (λ q. later (mem-place a d l q)) (Memᴰ.cases_cons m)
  where
    later : (k : ℕ) × (k < length l) × (get_or l k d ≡ a) → (k : ℕ) × (k < length (x ∷ l)) × (get_or (x ∷ l) k d ≡ a)
    later r = (suc r.0, omega (arith, r.1), r.2)

-- r has the sets x and y for its blocks
abbrev pub IsPair : Requirement → ℕ → ℕ → Type 0
IsPair r x y = (r ≡ between x y) ⊎ (r ≡ between y x)

told-met : (n : ℕ) (bits : List ℕ) (r : Requirement) (x y j : ℕ) → IsPair r x y → j < length bits → met n r (get_or bits j 0) ≡ true → ToldApart n bits x y
told-met n bits r x y j (inl p) h e = record { bit = j; below = h; parts = met-means n (between x y) (get_or bits j 0) (rw p at e) }
told-met n bits r x y j (inr p) h e = record { bit = j; below = h; parts = ⊎_elim inr inl (met-means n (between y x) (get_or bits j 0) (rw p at e)) }

met-told : (n : ℕ) (bits : List ℕ) (r : Requirement) (x y : ℕ) → IsPair r x y → (a : ToldApart n bits x y) → met n r (get_or bits a.bit 0) ≡ true
met-told n bits r x y (inl p) a = rw p (means-met n (between x y) (get_or bits a.bit 0) a.parts)
met-told n bits r x y (inr p) a = rw p (means-met n (between y x) (get_or bits a.bit 0) (⊎_elim inr inl a.parts))

-- ---- the theorem, of any n states, bits and columns, where Un holds of the numbers of the requirements that no bit meets: those that are listed

pub record Races (n : ℕ) (bits : List ℕ) (columns : List (List ℕ)) (rs : List Requirement) (Un : ℕ → Type 0) : Type 0 where
  -- Each two different destinations of a column have a number among the requirements; either it is listed, and no bit tells their sets apart; or it is not, and some bit does.
  pub each : (column : List ℕ) (s d t e : ℕ) → Memᴰ column columns → Goes column s d → Goes column t e → (d ≡ e → ⊥)
      → (k : ℕ) × (k < length rs) × IsPair (get_or rs k no_requirement) (set_of d column) (set_of e column)
      × ((Un k × (ToldApart n bits (set_of d column) (set_of e column) → ⊥)) ⊎ ((Un k → ⊥) × ToldApart n bits (set_of d column) (set_of e column)))
  -- a number that is listed behind the pairs of states is that of two sets of a column that no bit tells apart
  pub named : (k : ℕ) → length (pairs (states_from 0 n)) ≤ k → Un k
      → (column : List ℕ) × Memᴰ column columns × (b : OfColumn (get_or rs k no_requirement) column) × (ToldApart n bits (set_of b.one column) (set_of b.other column) → ⊥)

module _ (n : ℕ) (bits : List ℕ) (columns : List (List ℕ)) (rs : List Requirement) (Un : ℕ → Type 0)
    (asked : rs ≡ pairs (states_from 0 n) ++ flow_asks columns)
    (un : (k : ℕ) → Un k ↔ ((k < length rs) × MetByNone n bits (get_or rs k no_requirement))) where
  -- two sets that are the blocks of requirement k
  decided : (k x y : ℕ) → k < length rs → IsPair (get_or rs k no_requirement) x y → (Un k × (ToldApart n bits x y → ⊥)) ⊎ ((Un k → ⊥) × ToldApart n bits x y)
  decided k x y h p =
      ⊎_elim
      (λ f. inr ((λ u. true≢false (sym f.1.meets ∙ ((un k).0 u).1 f.0 f.1.below)), told-met n bits (get_or rs k no_requirement) x y f.0 p f.1.below f.1.meets))
      (λ f. inl ((un k).1 (h, f), λ a. true≢false (sym (met-told n bits (get_or rs k no_requirement) x y p a) ∙ f a.bit a.below)))
      (first_or_none n bits (get_or rs k no_requirement))

  destination : (column : List ℕ) (s d : ℕ) → Goes column s d → Memᴰ d (destinations_from 0 column)
  destination column s d g =
      destination-listed 0 column d (record { state = g.state; new = has-none d; among = subst (λ (x : ℕ). Memᴰ x column) g.to (mem-at column s no_state g.from) })

  each : (column : List ℕ) (s d t e : ℕ) → Memᴰ column columns → Goes column s d → Goes column t e → (d ≡ e → ⊥)
      → (k : ℕ) × (k < length rs) × IsPair (get_or rs k no_requirement) (set_of d column) (set_of e column)
      × ((Un k × (ToldApart n bits (set_of d column) (set_of e column) → ⊥)) ⊎ ((Un k → ⊥) × ToldApart n bits (set_of d column) (set_of e column)))
  each column s d t e m p q o = ⊎_elim one_way other_way (in_table columns column d e m (destination column s d p) (destination column t e q) o)
    where
      at : (r : Requirement) → Memᴰ r (flow_asks columns) → (k : ℕ) × (k < length rs) × (get_or rs k no_requirement ≡ r)
      at r i = mem-place r no_requirement rs (subst (λ (l : List Requirement). Memᴰ r l) (sym asked) (Memᴰ.append_right (pairs (states_from 0 n)) i))

      one_way : Memᴰ (between (set_of d column) (set_of e column)) (flow_asks columns)
          → (k : ℕ) × (k < length rs) × IsPair (get_or rs k no_requirement) (set_of d column) (set_of e column)
          × ((Un k × (ToldApart n bits (set_of d column) (set_of e column) → ⊥)) ⊎ ((Un k → ⊥) × ToldApart n bits (set_of d column) (set_of e column)))
      one_way i = let w = at (between (set_of d column) (set_of e column)) i in (w.0, w.1, inl w.2, decided w.0 (set_of d column) (set_of e column) w.1 (inl w.2))

      other_way : Memᴰ (between (set_of e column) (set_of d column)) (flow_asks columns)
          → (k : ℕ) × (k < length rs) × IsPair (get_or rs k no_requirement) (set_of d column) (set_of e column)
          × ((Un k × (ToldApart n bits (set_of d column) (set_of e column) → ⊥)) ⊎ ((Un k → ⊥) × ToldApart n bits (set_of d column) (set_of e column)))
      other_way i = let w = at (between (set_of e column) (set_of d column)) i in (w.0, w.1, inr w.2, decided w.0 (set_of d column) (set_of e column) w.1 (inr w.2))

  named : (k : ℕ) → length (pairs (states_from 0 n)) ≤ k → Un k
      → (column : List ℕ) × Memᴰ column columns × (b : OfColumn (get_or rs k no_requirement) column) × (ToldApart n bits (set_of b.one column) (set_of b.other column) → ⊥)
  named k h u =
      let w = of-table columns (get_or rs k no_requirement) behind in
      let b = w.2 in
      (w.0, w.1, b, λ a. true≢false (sym (met-told n bits (get_or rs k no_requirement) (set_of b.one w.0) (set_of b.other w.0) (inl b.is) a) ∙ ((un k).0 u).1 a.bit a.below))
    where
      behind : Memᴰ (get_or rs k no_requirement) (flow_asks columns)
      behind =
          let ps = pairs (states_from 0 n) in
          let from : length ps + (k - length ps) ≡ k = omega arith in
          let all : length rs ≡ length ps + length (flow_asks columns) = ap length asked ∙ length-append ps (flow_asks columns) in
          let at : get_or rs k no_requirement ≡ get_or (flow_asks columns) (k - length ps) no_requirement =
          ap (λ (l : List Requirement). get_or l k no_requirement) asked ∙ ap (λ (i : ℕ). get_or (ps ++ flow_asks columns) i no_requirement) (sym from) ∙ get_or-append-add ps (flow_asks columns) (k - length ps) no_requirement in
          rw at (mem-at (flow_asks columns) (k - length ps) no_requirement (omega (arith, ((un k).0 u).0)))

  races : Races n bits columns rs Un
  races = record { each = each; named = named }

-- ---- a flow table that is accepted

module _ (s : List ℕ) (h : Head) (columns : List (List ℕ)) (flow : IsFlow s h columns) {t : Listing} (a : reading s ≡ Ok t) where
  asked-given : requirements t ≡ pairs (states_from 0 t.head.states) ++ flow_asks columns
  asked-given = let g = flow-given s h columns flow a in g.asked ∙ ap (λ (h : Head). pairs (states_from 0 h.states) ++ flow_asks columns) (sym g.head)

  -- of any bits: the numbers listed are those of the unmet requirements
  pub code-races : (bits : List ℕ)
      → Races t.head.states bits columns (requirements t) (λ k. Memᴰ k (unmet t bits))
  unfolding unmet
  code-races bits =
      races t.head.states bits columns (requirements t) (λ k. Memᴰ k (unmet t bits)) asked-given
      (unmet-listed t.head.states bits (requirements t))

  -- in the report they are those of its `UN` lines
  pub report-races : (text : List ℕ) (e : report_reply s ≡ says text)
      → Races t.head.states (reported s text e).code.bits columns (requirements t) (λ k. HasLine text (un_text k))
  report-races text e =
      let r = reported s text e in
      races t.head.states r.code.bits columns (requirements t) (λ k. HasLine text (un_text k)) asked-given (tells-of a r).1.un

  -- each column has an entry for a state at most
  column_fits : (column : List ℕ) → Memᴰ column columns → length column ≤ h.states
  column_fits column m = column-short h.states (column_count (flow.second ∷ flow.others)) (flow.second ∷ flow.others) column (subst (Memᴰ column) flow.is m)

  few : h.states ≤ no_state
  few = (head-sound false flow.first h (flow-head flow.first flow.second h flow.head)).few-states

  -- where nothing is unmet, any two transitions of a column to different destinations are told apart by a bit that holds still during each: there is no critical race
  pub race-free : (bits : List ℕ) → unmet t bits ≡ [] → (column : List ℕ) (i d j e : ℕ)
      → Memᴰ column columns → Goes column i d → Goes column j e → (d ≡ e → ⊥) → ToldApart h.states bits (set_of d column) (set_of e column) × StillApart bits i d j e
  race-free bits none column i d j e m p q o =
      let g = flow-given s h columns flow a in
      let w = (code-races bits).each column i d j e m p q o in
      let told : ToldApart h.states bits (set_of d column) (set_of e column) =
      subst (λ (h : Head). ToldApart h.states bits (set_of d column) (set_of e column)) g.head
      (⊎_elim (λ u. absurd (Memᴰ.not-nil (rw none at u.0))) (λ u. u.1) w.3) in
      (told, still-apart h.states bits column i d j e (column_fits column m) p q (itself g i d p) (itself g j e q) told)
    where
      itself : FlowGiven h columns t → (i d : ℕ) → Goes column i d → Goes column d d
      itself g i d p =
          let short = column_fits column m in
          stable-goes column d (omega (arith, few)) p.state
          (subst (λ (x : ℕ). is_stable column x ≡ true) p.to (column-well columns column i m (g.stable i (omega (arith, p.from)))))
