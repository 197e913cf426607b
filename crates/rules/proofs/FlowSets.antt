-- The sets of a flow table's columns: one for each destination, and a dichotomy for any two of them and for nothing else; their blocks are sets of its states and apart.
use mathlib.Core.Path.{◌≡◌, refl, sym, ap, subst, ◌∙◌}
use mathlib.Core.Logic.{◌⊎◌, inl, inr, ⊎_elim}
use mathlib.Core.Bool.{Bool, true, false, ◌&&◌}
use mathlib.Core.List.{List, [], ◌∷◌, map, Memᴰ}
use Prim.Native.Nat.{ℕ, ◌^◌, ◌≤◌, ◌<◌}
use native.Mathlib.Decide.{ℕ_discrete}
use native.Mathlib.Omega.{arith}
use lib.Pow.{pow_mono}
use lib.Dec.{eqb}
use lib.Bits.{bit_or}
use lib.ListN.{length}
use borrow.Author.Tests.{ltb-true, lt-ltb, eqb-true, eq-eqb}
use Rattle.sets.specs.Sets.{has, only}
use Rattle.sets.proofs.Members.{has-or, has-only, has_other}
use Rattle.sets.proofs.Every.{and_first, and_second, and_both}
use Rattle.rules.specs.Text.{set_of}
use Rattle.rules.specs.FlowTable.{no_state, is_state, destinations_from, sets_of, set_pairs, flow_asks}
use Rattle.rules.specs.declared.Requirement.{Requirement}
use Rattle.rules.proofs.Characters.{set-lt, set_apart}
use Rattle.rules.proofs.SoundLines.{SoundBlocks}
use mathlib.Core.List.Memᴰ

-- ---- the destinations

abbrev is_new : ℕ → ℕ → Bool
is_new met d = is_state d && eqb (has met d) 0

module _ (met d : ℕ) (ds : List ℕ) where
  from-new : is_new met d ≡ true → destinations_from met (d ∷ ds) ≡ d ∷ destinations_from (bit_or met (only d)) ds
  unfolding destinations_from
  from-new e = rw (e, destinations_from)

  from-met : is_new met d ≡ false → destinations_from met (d ∷ ds) ≡ destinations_from met ds
  unfolding destinations_from
  from-met e = rw (e, destinations_from)

-- d is none of those met
module _ (met x d : ℕ) where
  not-before : has (bit_or met (only x)) d ≡ 0 → has met d ≡ 0
  not-before e = omega (arith, has-or met (2 ^ x) d)

  not_itself : has (bit_or met (only x)) d ≡ 0 → x ≡ d → ⊥
  not_itself e q = omega (arith, has-or met (2 ^ x) d, ap (λ (i : ℕ). has (2 ^ i) d) q, has-only d)

  still-new : (d ≡ x → ⊥) → has met d ≡ 0 → has (bit_or met (only x)) d ≡ 0
  still-new o e = omega (arith, has-or met (2 ^ x) d, has_other x d o)

-- a destination is a state that an entry names, and that was not met before
pub record NewAmong (met : ℕ) (ds : List ℕ) (d : ℕ) : Type 0 where
  pub state : d < no_state
  pub new : has met d ≡ 0
  pub among : Memᴰ d ds

pub destination-new : (met : ℕ) (ds : List ℕ) (d : ℕ) → Memᴰ d (destinations_from met ds) → NewAmong met ds d
unfolding destinations_from
destination-new met [] d m = absurd (Memᴰ.not-nil m)
destination-new met (x ∷ ds) d m = go (is_new met x) refl (destination-new (bit_or met (only x)) ds d) (destination-new met ds d)
  where
    go : (b : Bool) → is_new met x ≡ b → (Memᴰ d (destinations_from (bit_or met (only x)) ds) → NewAmong (bit_or met (only x)) ds d)
        → (Memᴰ d (destinations_from met ds) → NewAmong met ds d) → NewAmong met (x ∷ ds) d
    go true e f g = ⊎_elim here (λ q. later (f q)) (Memᴰ.cases_cons (rw (from-new met x ds e) at m))
      where
        here : d ≡ x → NewAmong met (x ∷ ds) d
        here q = record {
          state = omega (arith, ltb-true x no_state (and_first (is_state x) (eqb (has met x) 0) e));
          new = ap (has met) q ∙ eqb-true (has met x) 0 (and_second (is_state x) (eqb (has met x) 0) e);
          among = Memᴰ.head q;
        }

        later : NewAmong (bit_or met (only x)) ds d → NewAmong met (x ∷ ds) d
        later r = record { state = r.state; new = not-before met x d r.new; among = Memᴰ.tail r.among }
    go false e f g = let r = g (rw (from-met met x ds e) at m) in record { state = r.state; new = r.new; among = Memᴰ.tail r.among }

-- and each such state is one
pub destination-listed : (met : ℕ) (ds : List ℕ) (d : ℕ) → NewAmong met ds d → Memᴰ d (destinations_from met ds)
destination-listed met [] d r = absurd (Memᴰ.not-nil r.among)
destination-listed met (x ∷ ds) d r = go (is_new met x) refl (ℕ_discrete d x) (destination-listed (bit_or met (only x)) ds d) (destination-listed met ds d)
  where
    behind : (d ≡ x → ⊥) → Memᴰ d ds
    behind o = ⊎_elim (λ q. absurd (o q)) (λ q. q) (Memᴰ.cases_cons r.among)

    new-itself : d ≡ x → is_new met x ≡ true
    new-itself q = and_both _ _ (lt-ltb x no_state (omega (arith, r.state))) (eq-eqb _ 0 (ap (has met) (sym q) ∙ r.new))

    go : (b : Bool) → is_new met x ≡ b → Dec (d ≡ x) → (NewAmong (bit_or met (only x)) ds d → Memᴰ d (destinations_from (bit_or met (only x)) ds))
        → (NewAmong met ds d → Memᴰ d (destinations_from met ds)) → Memᴰ d (destinations_from met (x ∷ ds))
    go true e (yes q) f g = rw (from-new met x ds e) (Memᴰ.head q)
    go true e (no o) f g = rw (from-new met x ds e) (Memᴰ.tail (f (record { state = r.state; new = still-new met x d o r.new; among = behind o })))
    go false e (yes q) f g = absurd (let z : ◌≡◌ {A = ℕ} 0 1 = cc (new-itself q) in omega arith)
    go false e (no o) f g = rw (from-met met x ds e) (g (record { state = r.state; new = r.new; among = behind o }))

-- ---- the pairs of sets

abbrev pub between : ℕ → ℕ → Requirement
between a b = record { first = a; second = b }

-- r is the dichotomy of two different ones of the destinations, each with its set
pub record Between (set : ℕ → ℕ) (ds : List ℕ) (r : Requirement) : Type 0 where
  pub one : ℕ
  pub other : ℕ
  pub one-listed : Memᴰ one ds
  pub other-listed : Memᴰ other ds
  pub differ : one ≡ other → ⊥
  pub is : r ≡ between (set one) (set other)

pub pair-between : (set : ℕ → ℕ) (met : ℕ) (ds : List ℕ) (r : Requirement) → Memᴰ r (set_pairs (map set (destinations_from met ds))) → Between set (destinations_from met ds) r
unfolding set_pairs destinations_from
pair-between set met [] r m = absurd (Memᴰ.not-nil m)
pair-between set met (x ∷ ds) r m = go (is_new met x) refl (pair-between set (bit_or met (only x)) ds r) (pair-between set met ds r)
  where
    go : (b : Bool) → is_new met x ≡ b
        → (Memᴰ r (set_pairs (map set (destinations_from (bit_or met (only x)) ds))) → Between set (destinations_from (bit_or met (only x)) ds) r)
        → (Memᴰ r (set_pairs (map set (destinations_from met ds))) → Between set (destinations_from met ds) r) → Between set (destinations_from met (x ∷ ds)) r
    go true e f g = rw (from-new met x ds e) (⊎_elim here (λ q. later (f q)) (Memᴰ.append_cases (map (between (set x)) (map set rest)) (rw (from-new met x ds e) at m)))
      where
        rest : List ℕ
        rest = destinations_from (bit_or met (only x)) ds

        here : Memᴰ r (map (between (set x)) (map set rest)) → Between set (x ∷ rest) r
        here q =
            let b = Memᴰ.of_map (between (set x)) (map set rest) q in
            let y = Memᴰ.of_map set rest b.1 in
            record {
              one = x;
              other = y.0;
              one-listed = Memᴰ.head refl;
              other-listed = Memᴰ.tail y.1;
              differ = not_itself met x y.0 (destination-new (bit_or met (only x)) ds y.0 y.1).new;
              is = sym b.2 ∙ ap (between (set x)) (sym y.2);
            }

        later : Between set rest r → Between set (x ∷ rest) r
        later b = record { one = b.one; other = b.other; one-listed = Memᴰ.tail b.one-listed; other-listed = Memᴰ.tail b.other-listed; differ = b.differ; is = b.is }
    go false e f g = rw (from-met met x ds e) (g (rw (from-met met x ds e) at m))

-- any two of the destinations have theirs, one way round
pub between-listed : (set : ℕ → ℕ) (ds : List ℕ) (d e : ℕ) → Memᴰ d ds → Memᴰ e ds → (d ≡ e → ⊥)
    → Memᴰ (between (set d) (set e)) (set_pairs (map set ds)) ⊎ Memᴰ (between (set e) (set d)) (set_pairs (map set ds))
unfolding set_pairs
between-listed set [] d e m k o = absurd (Memᴰ.not-nil m)
between-listed set (x ∷ ds) d e m k o = go (Memᴰ.cases_cons m) (Memᴰ.cases_cons k) (λ p q. between-listed set ds d e p q o)
  where
    with_first : {a b : ℕ} → a ≡ x → Memᴰ b ds → Memᴰ (between (set a) (set b)) (set_pairs (map set (x ∷ ds)))
    with_first {a} {b} q p = Memᴰ.append_left _ (Memᴰ.cast (ap (λ (i : ℕ). between (set i) (set b)) q) (Memᴰ.map (between (set x)) (Memᴰ.map set p)))

    go : (d ≡ x) ⊎ Memᴰ d ds → (e ≡ x) ⊎ Memᴰ e ds
        → (Memᴰ d ds → Memᴰ e ds → Memᴰ (between (set d) (set e)) (set_pairs (map set ds)) ⊎ Memᴰ (between (set e) (set d)) (set_pairs (map set ds)))
        → Memᴰ (between (set d) (set e)) (set_pairs (map set (x ∷ ds))) ⊎ Memᴰ (between (set e) (set d)) (set_pairs (map set (x ∷ ds)))
    go (inl p) (inl q) f = absurd (o (p ∙ sym q))
    go (inl p) (inr q) f = inl (with_first p q)
    go (inr p) (inl q) f = inr (with_first q p)
    go (inr p) (inr q) f = ⊎_elim (λ r. inl (Memᴰ.append_right (map (between (set x)) (map set ds)) r)) (λ r. inr (Memᴰ.append_right (map (between (set x)) (map set ds)) r)) (f p q)

-- ---- a whole table

-- r is the dichotomy of two different destinations of a column
abbrev pub OfColumn : Requirement → List ℕ → Type 0
OfColumn r column = Between (λ d. set_of d column) (destinations_from 0 column) r

pub of-table : (columns : List (List ℕ)) (r : Requirement) → Memᴰ r (flow_asks columns) → (column : List ℕ) × Memᴰ column columns × OfColumn r column
unfolding flow_asks sets_of
of-table [] r m = absurd (Memᴰ.not-nil m)
of-table (column ∷ columns) r m =
    ⊎_elim
    (λ q. (column, Memᴰ.head refl, pair-between (λ d. set_of d column) 0 column r q))
    (λ q. let w = of-table columns r q in (w.0, Memᴰ.tail w.1, w.2))
    (Memᴰ.append_cases (set_pairs (sets_of column)) m)

pub in_table : (columns : List (List ℕ)) (column : List ℕ) (d e : ℕ) → Memᴰ column columns → Memᴰ d (destinations_from 0 column) → Memᴰ e (destinations_from 0 column) → (d ≡ e → ⊥)
    → Memᴰ (between (set_of d column) (set_of e column)) (flow_asks columns) ⊎ Memᴰ (between (set_of e column) (set_of d column)) (flow_asks columns)
unfolding flow_asks sets_of
in_table [] column d e m p q o = absurd (Memᴰ.not-nil m)
in_table (x ∷ columns) column d e m p q o = ⊎_elim here (λ h. later (in_table columns column d e h p q o)) (Memᴰ.cases_cons m)
  where
    here : column ≡ x → Memᴰ (between (set_of d column) (set_of e column)) (flow_asks (x ∷ columns)) ⊎ Memᴰ (between (set_of e column) (set_of d column)) (flow_asks (x ∷ columns))
    here h =
        subst (λ (y : List ℕ). Memᴰ (between (set_of d column) (set_of e column)) (flow_asks (y ∷ columns)) ⊎ Memᴰ (between (set_of e column) (set_of d column)) (flow_asks (y ∷ columns))) h
        (⊎_elim (λ r. inl (Memᴰ.append_left _ r)) (λ r. inr (Memᴰ.append_left _ r)) (between-listed (λ d. set_of d column) (destinations_from 0 column) d e p q o))

    later : Memᴰ (between (set_of d column) (set_of e column)) (flow_asks columns) ⊎ Memᴰ (between (set_of e column) (set_of d column)) (flow_asks columns)
        → Memᴰ (between (set_of d column) (set_of e column)) (flow_asks (x ∷ columns)) ⊎ Memᴰ (between (set_of e column) (set_of d column)) (flow_asks (x ∷ columns))
    later h = ⊎_elim (λ r. inl (Memᴰ.append_right (set_pairs (sets_of x)) r)) (λ r. inr (Memᴰ.append_right (set_pairs (sets_of x)) r)) h

-- its blocks are sets of n states, and apart
pub table-sound : (n : ℕ) (columns : List (List ℕ)) → ((column : List ℕ) → Memᴰ column columns → length column ≤ n) → (r : Requirement) → Memᴰ r (flow_asks columns) → SoundBlocks n r
table-sound n columns short r m =
    let w = of-table columns r m in
    let b = w.2 in
    let within : (d : ℕ) → set_of d w.0 < 2 ^ n = λ d. omega (arith, set-lt d w.0, pow_mono (short w.0 w.1)) in
    subst (SoundBlocks n) (sym b.is) record { first = within b.one; second = within b.other; apart = set_apart b.one b.other b.differ w.0 }
