-- Codes are distinct exactly when every pair requirement is met: so no pair or group requirement is unmet exactly when the codes are distinct and every group
-- requirement is met.
use mathlib.Core.Path.{◌≡◌, refl, sym, ap, ap₂, ◌∙◌}
use mathlib.Core.Logic.{◌↔◌, ◌⊎◌, inl, inr, ⊎_elim}
use mathlib.Core.Bool.{Bool, true, false, true≢false}
use mathlib.Core.List.{List, [], ◌∷◌, map, Memᴰ}
use Prim.Native.Nat.{ℕ, zero, suc, ◌+◌, ◌≤◌, ◌<◌}
use native.Mathlib.Decide.{ℕ_discrete}
use native.Mathlib.Omega.{arith}
use lib.ListN.{length, get_or}
use Rattle.sets.specs.Sets.{has, only, states_from}
use Rattle.sets.proofs.Members.{has_other}
use Rattle.sets.proofs.SizeMembers.{outside-or-member}
use Rattle.rules.specs.Listing.{rows_of}
use Rattle.rules.specs.Requirements.{asks, pairs, groups, pairs_and_groups, met, met_by_code}
use Rattle.rules.specs.Code.{code_of, unmet_from}
use Rattle.rules.specs.declared.Listing.{Listing}
use Rattle.rules.proofs.Meeting.{Split, means-met}
use Rattle.rules.proofs.Asked.{state-below}
use Rattle.rules.proofs.Unmet.{met-by-none}
use Rattle.rules.proofs.Faces.{Distinct, AllMet}
use Rattle.rules.proofs.Granted.{all-met, none-unmet, distinct-codes}
use mathlib.Core.List.Memᴰ

-- ---- one pair

member-only : (i s : ℕ) → has (only i) s ≡ 1 → s ≡ i
member-only i s e = go (ℕ_discrete s i)
  where
    go : Dec (s ≡ i) → s ≡ i
    go (yes q) = q
    go (no o) = absurd (omega (arith, has_other i s o))

-- i has value 0 and j value 1
split-only : (n b i j : ℕ) → has b i ≡ 0 → has b j ≡ 1 → Split n (only i) (only j) b
split-only n b i j e f = record { zeros = λ s l m. ap (has b) (member-only i s m) ∙ e; ones = λ s l m. ap (has b) (member-only j s m) ∙ f }

-- a bit that tells two states apart meets their pair
apart-met : (n b i j : ℕ) → (has b i ≡ has b j → ⊥) → met n (asks (only i) (only j)) b ≡ true
apart-met n b i j o =
    means-met n (asks (only i) (only j)) b
    (⊎_elim
    (λ e. inl (split-only n b i j e (one-else (λ z. o (e ∙ sym z)) (outside-or-member b j))))
    (λ e. inr (split-only n b j i (nought-else (λ z. o (e ∙ sym z)) (outside-or-member b j)) e))
    (outside-or-member b i))
  where
    one-else : (has b j ≡ 0 → ⊥) → (has b j ≡ 0) ⊎ (has b j ≡ 1) → has b j ≡ 1
    one-else o (inl z) = absurd (o z)
    one-else o (inr z) = z

    nought-else : (has b j ≡ 1 → ⊥) → (has b j ≡ 0) ⊎ (has b j ≡ 1) → has b j ≡ 0
    nought-else o (inl z) = z
    nought-else o (inr z) = absurd (o z)

same_code : (bits : List ℕ) (i j : ℕ) → ((k : ℕ) → k < length bits → has (get_or bits k 0) i ≡ has (get_or bits k 0) j) → code_of bits i ≡ code_of bits j
same_code [] i j h = refl
same_code (b ∷ bs) i j h = ap₂ {C = List ℕ} (λ d ds. d ∷ ds) (h 0 (omega arith)) (same_code bs i j (λ k l. h (suc k) (omega arith)))

module _ (n : ℕ) (bits : List ℕ) (distinct : Distinct n bits) where
  pair-met : (i j : ℕ) → i < j → j < n → met_by_code n bits (asks (only i) (only j)) ≡ true
  pair-met i j h l = go (met_by_code n bits (asks (only i) (only j))) refl
    where
      go : (t : Bool) → met_by_code n bits (asks (only i) (only j)) ≡ t → t ≡ true
      go true e = refl
      go false e = absurd (distinct i j (omega arith) l (λ q. omega arith) (same_code bits i j (λ k m. at k m (ℕ_discrete (has (get_or bits k 0) i) (has (get_or bits k 0) j)))))
        where
          at : (k : ℕ) → k < length bits → Dec (has (get_or bits k 0) i ≡ has (get_or bits k 0) j) → has (get_or bits k 0) i ≡ has (get_or bits k 0) j
          at k m (yes q) = q
          at k m (no o) = absurd (true≢false (sym (apart-met n (get_or bits k 0) i j o) ∙ met-by-none n bits (asks (only i) (only j)) e k m))

  pairs-met : (a k : ℕ) → a + k ≤ n → AllMet n bits (pairs (states_from a k))
  unfolding pairs states_from
  pairs-met a zero h r m = absurd (Memᴰ.not-nil m)
  pairs-met a (suc k) h r m = ⊎_elim here (pairs-met (suc a) k (omega arith) r) (Memᴰ.append_cases (map (λ j. asks (only a) (only j)) (states_from (suc a) k)) m)
    where
      here : Memᴰ r (map (λ j. asks (only a) (only j)) (states_from (suc a) k)) → met_by_code n bits r ≡ true
      here q =
          let j = Memᴰ.of_map (λ j. asks (only a) (only j)) (states_from (suc a) k) q in
          let b = state-below (suc a) k j.0 j.1 in
          ap (met_by_code n bits) (sym j.2) ∙ pair-met a j.0 (omega (arith, b.0)) (omega (arith, b.1))

-- ---- all that a listing asks by its states and groups

-- every group requirement is met
abbrev pub GroupsMet : Listing → List ℕ → Type 0
GroupsMet t bits = AllMet t.head.states bits (groups t.head.states [] (rows_of t))

pub none-unmet-exactly : (t : Listing) (bits : List ℕ) → (unmet_from 0 t.head.states bits (pairs_and_groups t) ≡ []) ↔ (Distinct t.head.states bits × GroupsMet t bits)
unfolding pairs_and_groups
none-unmet-exactly t bits = (to, from)
  where
    n : ℕ
    n = t.head.states

    to : unmet_from 0 n bits (pairs_and_groups t) ≡ [] → Distinct n bits × GroupsMet t bits
    to e = (distinct-codes t bits e, λ r m. all-met 0 n bits (pairs_and_groups t) e r (Memᴰ.append_right (pairs (states_from 0 n)) m))

    from : Distinct n bits × GroupsMet t bits → unmet_from 0 n bits (pairs_and_groups t) ≡ []
    from h = none-unmet 0 n bits (pairs_and_groups t) (λ r m. ⊎_elim (pairs-met n bits h.0 0 n (omega arith) r) (h.1 r) (Memᴰ.append_cases (pairs (states_from 0 n)) m))
