-- A requirement is listed unmet exactly when no bit of the code meets it; the list ascends; and what is listed is what the bits leave live.
use mathlib.Core.Path.{◌≡◌, refl, sym, ap, ◌∙◌}
use mathlib.Core.Logic.{◌↔◌, ⊎_elim}
use mathlib.Core.Bool.{Bool, true, false, ◌||◌}
use mathlib.Core.List.{List, [], ◌∷◌, Memᴰ}
use Prim.Native.Nat.{ℕ, zero, suc, ◌+◌, ◌<◌}
use native.Mathlib.Nat.{add-zero}
use native.Mathlib.Omega.{arith}
use lib.ListN.{length, get_or}
use Rattle.rules.specs.Listing.{no_requirement}
use Rattle.rules.specs.Requirements.{met, met_by_code}
use Rattle.rules.specs.Code.{unmet_by, unmet_from}
use Rattle.rules.specs.declared.Requirement.{Requirement}
use Rattle.rules.proofs.Or.{neither-first, neither-second, or-first}
use Rattle.rules.proofs.Judged.{MetByNone, none-judged, met-by-nil, met-by-cons, unmet-judged}
use mathlib.Core.List.Memᴰ

pub met-by-none : (n : ℕ) (bits : List ℕ) (r : Requirement) → met_by_code n bits r ≡ false → MetByNone n bits r
met-by-none n [] r e j h = absurd (omega arith)
met-by-none n (b ∷ bs) r e zero h = neither-first (met n r b) (met_by_code n bs r) (sym (met-by-cons n b bs r) ∙ e)
met-by-none n (b ∷ bs) r e (suc j) h = met-by-none n bs r (neither-second (met n r b) (met_by_code n bs r) (sym (met-by-cons n b bs r) ∙ e)) j (omega arith)

pub none-meets : (n : ℕ) (bits : List ℕ) (r : Requirement) → MetByNone n bits r → met_by_code n bits r ≡ false
none-meets n bits r h = unmet-judged n bits r (none-judged n bits r h)

-- ---- the numbers listed

module _ (k n : ℕ) (bits : List ℕ) (r : Requirement) (rs : List Requirement) where
  pub listed-met : met_by_code n bits r ≡ true → unmet_from k n bits (r ∷ rs) ≡ unmet_from (suc k) n bits rs
  unfolding unmet_from
  listed-met e = rw (e, unmet_from)

  pub listed-unmet : met_by_code n bits r ≡ false → unmet_from k n bits (r ∷ rs) ≡ k ∷ unmet_from (suc k) n bits rs
  unfolding unmet_from
  listed-unmet e = rw (e, unmet_from)

-- requirement d of the list has the number k + d
listed : (k n : ℕ) (bits : List ℕ) (rs : List Requirement) (d : ℕ) → d < length rs → met_by_code n bits (get_or rs d no_requirement) ≡ false
    → Memᴰ (k + d) (unmet_from k n bits rs)
listed k n bits [] d h e = absurd (omega arith)
listed k n bits (r ∷ rs) zero h e = rw (listed-unmet k n bits r rs e) (Memᴰ.head (add-zero k))
listed k n bits (r ∷ rs) (suc d) h e = go (met_by_code n bits r) refl (Memᴰ.cast (omega arith) (listed (suc k) n bits rs d (omega arith) e))
  where
    go : (t : Bool) → met_by_code n bits r ≡ t → Memᴰ (k + suc d) (unmet_from (suc k) n bits rs) → Memᴰ (k + suc d) (unmet_from k n bits (r ∷ rs))
    go true q m = rw (listed-met k n bits r rs q) m
    go false q m = rw (listed-unmet k n bits r rs q) (Memᴰ.tail m)

-- m is the number of a requirement that the code leaves unmet
abbrev Listed : ℕ → ℕ → List ℕ → List Requirement → ℕ → Type 0
Listed k n bits rs m = (d : ℕ) × (m ≡ k + d) × (d < length rs) × (met_by_code n bits (get_or rs d no_requirement) ≡ false)

of-listed : (k n : ℕ) (bits : List ℕ) (rs : List Requirement) (m : ℕ) → Memᴰ m (unmet_from k n bits rs) → Listed k n bits rs m
unfolding unmet_from
of-listed k n bits [] m h = absurd (Memᴰ.not-nil h)
of-listed k n bits (r ∷ rs) m h = go (met_by_code n bits r) refl (λ q. later (of-listed (suc k) n bits rs m q))
  where
    later : Listed (suc k) n bits rs m → Listed k n bits (r ∷ rs) m
    later l = (suc l.0, omega (arith, l.1), omega (arith, l.2), l.3)

    go : (t : Bool) → met_by_code n bits r ≡ t → (Memᴰ m (unmet_from (suc k) n bits rs) → Listed k n bits (r ∷ rs) m) → Listed k n bits (r ∷ rs) m
    go true q f = f (rw (listed-met k n bits r rs q) at h)
    go false q f = ⊎_elim (λ e. (0, omega arith, omega arith, q)) f (Memᴰ.cases_cons (rw (listed-unmet k n bits r rs q) at h))

-- a requirement is listed unmet exactly when no bit of the code meets it
pub unmet-listed : (n : ℕ) (bits : List ℕ) (rs : List Requirement) (k : ℕ)
    → Memᴰ k (unmet_from 0 n bits rs) ↔ ((k < length rs) × MetByNone n bits (get_or rs k no_requirement))
unmet-listed n bits rs k = (to, from)
  where
    to : Memᴰ k (unmet_from 0 n bits rs) → (k < length rs) × MetByNone n bits (get_or rs k no_requirement)
    to h =
        let l : Listed 0 n bits rs k = of-listed 0 n bits rs k h in
        let e : l.0 ≡ k = omega (arith, l.1) in
        (omega (arith, l.2), met-by-none n bits (get_or rs k no_requirement) (ap (λ (d : ℕ). met_by_code n bits (get_or rs d no_requirement)) (sym e) ∙ l.3))

    from : (k < length rs) × MetByNone n bits (get_or rs k no_requirement) → Memᴰ k (unmet_from 0 n bits rs)
    from h = Memᴰ.cast (omega arith) (listed 0 n bits rs k h.0 (none-meets n bits (get_or rs k no_requirement) h.1))

-- ---- the numbers ascend

pub mem-at : {A : Type 0} (l : List A) (i : ℕ) (d : A) → i < length l → Memᴰ (get_or l i d) l
mem-at [] i d h = absurd (omega arith)
mem-at (x ∷ xs) zero d h = Memᴰ.head refl
mem-at (x ∷ xs) (suc i) d h = Memᴰ.tail (mem-at xs i d (omega arith))

abbrev pub Ascends : List ℕ → Type 0
Ascends l = (i j : ℕ) → i < j → j < length l → get_or l i 0 < get_or l j 0

ascends-more : (k : ℕ) (l : List ℕ) → ((m : ℕ) → Memᴰ m l → k < m) → Ascends l → Ascends (k ∷ l)
ascends-more k l g a zero zero h q = absurd (omega arith)
ascends-more k l g a zero (suc j) h q = g (get_or l j 0) (mem-at l j 0 (omega arith))
ascends-more k l g a (suc i) zero h q = absurd (omega arith)
ascends-more k l g a (suc i) (suc j) h q = a i j (omega arith) (omega arith)

ascends : (k n : ℕ) (bits : List ℕ) (rs : List Requirement) → Ascends (unmet_from k n bits rs)
unfolding unmet_from
ascends k n bits [] = λ i j h q. absurd (omega arith)
ascends k n bits (r ∷ rs) = go (met_by_code n bits r) refl (ascends (suc k) n bits rs)
  where
    above : (m : ℕ) → Memᴰ m (unmet_from (suc k) n bits rs) → k < m
    above m q = omega (arith, (of-listed (suc k) n bits rs m q).1)

    go : (t : Bool) → met_by_code n bits r ≡ t → Ascends (unmet_from (suc k) n bits rs) → Ascends (unmet_from k n bits (r ∷ rs))
    go true q a = rw (listed-met k n bits r rs q) a
    go false q a = rw (listed-unmet k n bits r rs q) (ascends-more k (unmet_from (suc k) n bits rs) above a)

pub unmet-ascends : (n : ℕ) (bits : List ℕ) (rs : List Requirement) → Ascends (unmet_from 0 n bits rs)
unmet-ascends = ascends 0

-- ---- what stays live

-- what the bits leave live, one bit after the other
unfoldable pub live_after : ℕ → List ℕ → List Requirement → List Requirement
unfolding unmet_by
live_after n [] rs = rs
live_after n (b ∷ bs) rs = live_after n bs (unmet_by n b rs)

-- of the requirements, in their order, those that no bit meets
unfoldable pub unmet_in : ℕ → List ℕ → List Requirement → List Requirement
unfolding met_by_code
unmet_in n bits [] = []
unmet_in n bits (r ∷ rs) = let rest = unmet_in n bits rs in elim (met_by_code n bits r) [ true ↦ rest | false ↦ r ∷ rest ]

module _ (n b : ℕ) (r : Requirement) (rs : List Requirement) where
  pub left-met : met n r b ≡ true → unmet_by n b (r ∷ rs) ≡ unmet_by n b rs
  unfolding unmet_by
  left-met e = rw (e, unmet_by)

  pub left-unmet : met n r b ≡ false → unmet_by n b (r ∷ rs) ≡ r ∷ unmet_by n b rs
  unfolding unmet_by
  left-unmet e = rw (e, unmet_by)

module _ (n : ℕ) (bits : List ℕ) (r : Requirement) (rs : List Requirement) where
  in-met : met_by_code n bits r ≡ true → unmet_in n bits (r ∷ rs) ≡ unmet_in n bits rs
  unfolding unmet_in
  in-met e = rw (e, unmet_in)

  in-unmet : met_by_code n bits r ≡ false → unmet_in n bits (r ∷ rs) ≡ r ∷ unmet_in n bits rs
  unfolding unmet_in
  in-unmet e = rw (e, unmet_in)

-- a code of no bits meets none
pub unmet-all : (n : ℕ) (rs : List Requirement) → unmet_in n [] rs ≡ rs
unfolding unmet_in
unmet-all n [] = refl
unmet-all n (r ∷ rs) = in-unmet n [] r rs (met-by-nil n r) ∙ ap {B = List Requirement} (λ l. r ∷ l) (unmet-all n rs)

module _ (n b : ℕ) (bs : List ℕ) where
  first-meets : (r : Requirement) → met n r b ≡ true → met_by_code n (b ∷ bs) r ≡ true
  first-meets r e = met-by-cons n b bs r ∙ or-first (met n r b) (met_by_code n bs r) e

  first-fails : (r : Requirement) → met n r b ≡ false → met_by_code n (b ∷ bs) r ≡ met_by_code n bs r
  first-fails r e = met-by-cons n b bs r ∙ ap (λ (t : Bool). t || met_by_code n bs r) e

  pub unmet-then : (rs : List Requirement) → unmet_in n bs (unmet_by n b rs) ≡ unmet_in n (b ∷ bs) rs
  unfolding unmet_in unmet_by
  unmet-then [] = refl
  unmet-then (r ∷ rs) = go (met n r b) (met_by_code n bs r) refl refl (unmet-then rs)
    where
      go : (t u : Bool) → met n r b ≡ t → met_by_code n bs r ≡ u → unmet_in n bs (unmet_by n b rs) ≡ unmet_in n (b ∷ bs) rs
          → unmet_in n bs (unmet_by n b (r ∷ rs)) ≡ unmet_in n (b ∷ bs) (r ∷ rs)
      go true u e h q = ap (unmet_in n bs) (left-met n b r rs e) ∙ q ∙ sym (in-met n (b ∷ bs) r rs (first-meets r e))
      go false true e h q = ap (unmet_in n bs) (left-unmet n b r rs e) ∙ in-met n bs r (unmet_by n b rs) h ∙ q ∙ sym (in-met n (b ∷ bs) r rs (first-fails r e ∙ h))
      go false false e h q =
          ap (unmet_in n bs) (left-unmet n b r rs e)
          ∙ in-unmet n bs r (unmet_by n b rs) h
          ∙ ap {B = List Requirement} (λ l. r ∷ l) q
          ∙ sym (in-unmet n (b ∷ bs) r rs (first-fails r e ∙ h))

-- live requirements are those no earlier bit meets
pub live-unmet : (n : ℕ) (bits : List ℕ) (rs : List Requirement) → live_after n bits rs ≡ unmet_in n bits rs
unfolding live_after
live-unmet n [] rs = sym (unmet-all n rs)
live-unmet n (b ∷ bs) rs = live-unmet n bs (unmet_by n b rs) ∙ unmet-then n b bs rs

-- as many are listed unmet as stay live
pub unmet-length : (k n : ℕ) (bits : List ℕ) (rs : List Requirement) → length (unmet_from k n bits rs) ≡ length (unmet_in n bits rs)
unfolding unmet_from unmet_in
unmet-length k n bits [] = refl
unmet-length k n bits (r ∷ rs) = go (met_by_code n bits r) refl (unmet-length (suc k) n bits rs)
  where
    go : (t : Bool) → met_by_code n bits r ≡ t → length (unmet_from (suc k) n bits rs) ≡ length (unmet_in n bits rs)
        → length (unmet_from k n bits (r ∷ rs)) ≡ length (unmet_in n bits (r ∷ rs))
    go true e h = rw (listed-met k n bits r rs e, in-met n bits r rs e) h
    go false e h = rw (listed-unmet k n bits r rs e, in-unmet n bits r rs e) (ap suc h)

pub unmet-live : (k n : ℕ) (bits : List ℕ) (rs : List Requirement) → length (unmet_from k n bits rs) ≡ length (live_after n bits rs)
unmet-live k n bits rs = unmet-length k n bits rs ∙ ap length (sym (live-unmet n bits rs))
