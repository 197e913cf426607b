-- What a cover's answer asks before it writes, that no pair or group requirement is unmet, grants distinct codes and met groups.
use mathlib.Core.Path.{◌≡◌, refl, sym, ap, ◌∙◌}
use mathlib.Core.Logic.{⊎_elim}
use mathlib.Core.Bool.{Bool, true, false}
use mathlib.Core.List.{List, [], ◌∷◌, head-eq_of_cons-eq, tail-eq_of_cons-eq, cons≢nil, Memᴰ}
use Prim.Native.Nat.{ℕ, zero, suc, ◌<◌}
use native.Mathlib.Decide.{dec_lt}
use native.Mathlib.Omega.{arith}
use lib.ListN.{length, get_or}
use Rattle.sets.specs.Sets.{has, only, states_from}
use Rattle.sets.proofs.Members.{has-only}
use Rattle.rules.specs.Listing.{rows_of}
use Rattle.rules.specs.Requirements.{asks, pairs, groups, pairs_and_groups, met_by_code}
use Rattle.rules.specs.Code.{code_of, unmet_from}
use Rattle.rules.specs.declared.Requirement.{Requirement}
use Rattle.rules.specs.declared.Row.{Row}
use Rattle.rules.specs.declared.Listing.{Listing}
use Rattle.rules.proofs.Blocks.{met_by}
use Rattle.rules.proofs.Asked.{pair-asked, group-asked}
use Rattle.rules.proofs.Unmet.{listed-met, listed-unmet}
use Rattle.rules.proofs.Faces.{Distinct, AllMet, GroupMet}
use mathlib.Core.List.Memᴰ

-- with none listed unmet, all are met
pub all-met : (k n : ℕ) (bits : List ℕ) (rs : List Requirement) → unmet_from k n bits rs ≡ [] → AllMet n bits rs
all-met k n bits [] e r m = absurd (Memᴰ.not-nil m)
all-met k n bits (q ∷ rs) e r m = go (met_by_code n bits q) refl (all-met (suc k) n bits rs)
  where
    go : (t : Bool) → met_by_code n bits q ≡ t → (unmet_from (suc k) n bits rs ≡ [] → AllMet n bits rs) → met_by_code n bits r ≡ true
    go true p f = ⊎_elim (λ h. ap (met_by_code n bits) h ∙ p) (f (sym (listed-met k n bits q rs p) ∙ e) r) (Memᴰ.cases_cons m)
    go false p f = absurd (cons≢nil (sym (listed-unmet k n bits q rs p) ∙ e))

-- and with all met, none is listed
pub none-unmet : (k n : ℕ) (bits : List ℕ) (rs : List Requirement) → AllMet n bits rs → unmet_from k n bits rs ≡ []
unfolding unmet_from
none-unmet k n bits [] h = refl
none-unmet k n bits (r ∷ rs) h = listed-met k n bits r rs (h r (Memᴰ.head refl)) ∙ none-unmet (suc k) n bits rs (λ q m. h q (Memᴰ.tail m))

-- equal codes have equal digits
same-digit : (bits : List ℕ) (i k : ℕ) → code_of bits i ≡ code_of bits k → (j : ℕ) → j < length bits → has (get_or bits j 0) i ≡ has (get_or bits j 0) k
same-digit [] i k e j h = absurd (omega arith)
same-digit (b ∷ bs) i k e zero h = head-eq_of_cons-eq e
same-digit (b ∷ bs) i k e (suc j) h = same-digit bs i k (tail-eq_of_cons-eq e) j (omega arith)

-- a pair that is met parts the two codes
pair_parts : (n : ℕ) (bits : List ℕ) → AllMet n bits (pairs (states_from 0 n)) → (i j : ℕ) → i < j → j < n → code_of bits i ≡ code_of bits j → ⊥
pair_parts n bits met i j h q e =
    let by = met_by n bits (asks (only i) (only j)) (met (asks (only i) (only j)) (pair-asked n i j h q)) in
    let same = same-digit bits i j e by.0 by.1 in
    ⊎_elim
    (λ p. omega (arith, same, p.0 i (omega arith) (has-only i), p.1 j q (has-only j)))
    (λ p. omega (arith, same, p.0 i (omega arith) (has-only i), p.1 j q (has-only j)))
    by.2

module _ (t : Listing) (bits : List ℕ) (none : unmet_from 0 t.head.states bits (pairs_and_groups t) ≡ []) where
  pub distinct-codes : Distinct t.head.states bits
  unfolding pairs_and_groups
  distinct-codes i j h q o e = go (dec_lt i j)
    where
      n : ℕ
      n = t.head.states

      met : AllMet n bits (pairs (states_from 0 n))
      met r m = all-met 0 n bits (pairs_and_groups t) none r (Memᴰ.append_left (groups n [] (rows_of t)) m)

      go : Dec (i < j) → ⊥
      go (yes l) = pair_parts n bits met i j l q e
      go (no l) = pair_parts n bits met j i (omega arith) h (sym e)

  -- of every row
  pub met-groups : (r : Row) → Memᴰ r (rows_of t) → GroupMet t.head.states bits r.group
  unfolding pairs_and_groups
  met-groups r m two some x a =
      all-met 0 t.head.states bits (pairs_and_groups t) none x
      (Memᴰ.append_right (pairs (states_from 0 t.head.states)) (group-asked t.head.states (rows_of t) r m two some x a))
