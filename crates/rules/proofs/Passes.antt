-- When a bit is done (01, "One bit"): what a pass keeps, that no single flip raises the number met, and how many passes it took.
use mathlib.Core.Path.{◌≡◌, refl}
use mathlib.Core.Bool.{Bool, true, false, cond}
use mathlib.Core.Logic.{inl}
use mathlib.Core.List.{List, [], ◌∷◌}
use Prim.Native.Nat.{ℕ, zero, suc, ◌+◌, ◌≤◌, ◌<◌, zero-le}
use native.Mathlib.Nat.{le_refl, le_trans}
use native.Mathlib.Omega.{arith}
use lib.Dec.{ltb}
use lib.ListN.{length, take}
use borrow.Author.Tests.{ltb-true, ltb-false}
use Rattle.sets.specs.Sets.{flip, everyone}
use Rattle.sets.proofs.Members.{has_all}
use Rattle.rules.specs.Requirements.{met, met_count}
use Rattle.rules.specs.Looks.{looks}
use Rattle.rules.specs.OneBit.{start, choice, moves_from, pass_moves, kept, passes_from, passes, counted}
use Rattle.rules.specs.declared.Requirement.{Requirement}
use Rattle.rules.proofs.Counts.{Apart}
use Rattle.rules.proofs.Meeting.{means-met}
use Rattle.rules.proofs.Choice.{chosen}

-- the bit after a run of moves
unfoldable pub after : ℕ → List ℕ → ℕ
after b [] = b
after b (s ∷ ss) = after (flip b s) ss

-- ---- what a pass keeps

-- of two bits the one that meets more, the first on a tie
better-first : (f : ℕ → ℕ) (b c : ℕ) → f b ≤ f (cond (ltb (f b) (f c)) c b)
better-first f b c = go (ltb (f b) (f c)) refl
  where
    go : (t : Bool) → ltb (f b) (f c) ≡ t → f b ≤ f (cond t c b)
    go true e = let h = ltb-true (f b) (f c) e in omega arith
    go false e = le_refl (f b)

better-second : (f : ℕ → ℕ) (b c : ℕ) → f c ≤ f (cond (ltb (f b) (f c)) c b)
better-second f b c = go (ltb (f b) (f c)) refl
  where
    go : (t : Bool) → ltb (f b) (f c) ≡ t → f c ≤ f (cond t c b)
    go true e = le_refl (f c)
    go false e = ltb-false (f b) (f c) e

-- no run of the moves meets more than what is kept
pub kept-greatest : (n : ℕ) (rs : List Requirement) (ss : List ℕ) (b i : ℕ) → met_count n rs (after b (take i ss)) ≤ met_count n rs (kept n rs b ss)
unfolding kept after
kept-greatest n rs [] b zero = le_refl (met_count n rs b)
kept-greatest n rs [] b (suc i) = le_refl (met_count n rs b)
kept-greatest n rs (s ∷ ss) b zero = better-first (met_count n rs) b (kept n rs (flip b s) ss)
kept-greatest n rs (s ∷ ss) b (suc i) =
    le_trans (kept-greatest n rs ss (flip b s) i) (better-second (met_count n rs) b (kept n rs (flip b s) ss))

-- what is kept is the bit after some run of the moves, and every shorter run meets less
pub record Shortest (n : ℕ) (rs : List Requirement) (b : ℕ) (ss : List ℕ) (c i : ℕ) : Type 0 where
  pub reached : c ≡ after b (take i ss)
  pub shorter : (j : ℕ) → j < i → met_count n rs (after b (take j ss)) < met_count n rs c

pub kept-shortest : (n : ℕ) (rs : List Requirement) (ss : List ℕ) (b : ℕ) → (i : ℕ) × Shortest n rs b ss (kept n rs b ss) i
unfolding kept after
kept-shortest n rs [] b = (0, record { reached = refl; shorter = λ j h. absurd (omega arith) })
kept-shortest n rs (s ∷ ss) b =
    go (ltb (met_count n rs b) (met_count n rs (kept n rs (flip b s) ss))) refl (kept-shortest n rs ss (flip b s))
  where
    none : (j : ℕ) → j < 0 → met_count n rs (after b (take j (s ∷ ss))) < met_count n rs b
    none j h = absurd (omega arith)

    go : (t : Bool) → ltb (met_count n rs b) (met_count n rs (kept n rs (flip b s) ss)) ≡ t → ((i : ℕ) × Shortest n rs (flip b s) ss (kept n rs (flip b s) ss) i)
        → (i : ℕ) × Shortest n rs b (s ∷ ss) (cond t (kept n rs (flip b s) ss) b) i
    go false e r = (0, record { reached = refl; shorter = none })
    go true e r = (suc r.0, record { reached = r.1.reached; shorter = at })
      where
        at : (j : ℕ) → j < suc r.0 → met_count n rs (after b (take j (s ∷ ss))) < met_count n rs (kept n rs (flip b s) ss)
        at zero h = ltb-true (met_count n rs b) (met_count n rs (kept n rs (flip b s) ss)) e
        at (suc j) h = r.1.shorter j (omega arith)

-- ---- no single flip raises the number met

abbrev pub NoFlipRaises : ℕ → List Requirement → ℕ → Type 0
NoFlipRaises n rs b = (u : ℕ) → u < n → met_count n rs (flip b u) ≤ met_count n rs b

first-move : (n : ℕ) (rs : List Requirement) (b k free : ℕ) → met_count n rs (flip b (choice n rs b free n)) ≤ met_count n rs (kept n rs b (moves_from n rs (suc k) b free))
unfolding moves_from after
first-move n rs b k free = kept-greatest n rs (moves_from n rs (suc k) b free) b 1

-- the first move of a pass flips a state with the greatest gain of all, so a pass that keeps nothing shows that none gains
pass-first : (n : ℕ) (rs : List Requirement) (b u : ℕ) → u < n → met_count n rs (flip b u) ≤ met_count n rs (kept n rs b (pass_moves n rs b))
unfolding pass_moves
pass-first zero rs b u h = absurd (omega arith)
pass-first (suc n) rs b u h =
    let m = chosen (suc n) rs b (everyone (suc n)) (suc n) u h (has_all (suc n) u h) in
    le_trans (m.greatest u h (has_all (suc n) u h)) (first-move (suc n) rs b n (everyone (suc n)))

pub met-most : (n : ℕ) (rs : List Requirement) (b : ℕ) → met_count n rs b ≤ length rs
unfolding met_count
met-most n [] b = zero-le
met-most n (r ∷ rs) b = let h = met-most n rs b in omega (arith, at (met n r b))
  where
    at : (t : Bool) → cond {A = ℕ} t 1 0 ≤ 1
    at true = omega arith
    at false = omega arith

-- with passes to spare the bit is done by the rule: its last pass gained nothing
passes-done : (k n : ℕ) (rs : List Requirement) (b : ℕ) → length rs < k + met_count n rs b → NoFlipRaises n rs (passes_from k n rs b).bit
unfolding passes_from
passes-done zero n rs b h = λ u p. absurd (omega (arith, met-most n rs b))
passes-done (suc k) n rs b h =
    go (ltb (met_count n rs b) (met_count n rs (kept n rs b (pass_moves n rs b)))) refl (λ q. passes-done k n rs (kept n rs b (pass_moves n rs b)) q)
  where
    c : ℕ
    c = kept n rs b (pass_moves n rs b)

    go : (t : Bool) → ltb (met_count n rs b) (met_count n rs c) ≡ t → (length rs < k + met_count n rs c → NoFlipRaises n rs (passes_from k n rs c).bit)
        → NoFlipRaises n rs (cond t (counted (looks n rs b (pass_moves n rs b)) (passes_from k n rs c)) (record { bit = b; passes = 1; looks = looks n rs b (pass_moves n rs b) })).bit
    go true e later = let g = ltb-true (met_count n rs b) (met_count n rs c) e in later (omega arith)
    go false e later = λ u p. le_trans (pass-first n rs b u p) (ltb-false (met_count n rs b) (met_count n rs c) e)

-- each pass that is followed by another raises the number met
passes-few : (k n : ℕ) (rs : List Requirement) (b : ℕ) → (passes_from k n rs b).passes + met_count n rs b ≤ suc (length rs)
unfolding passes_from
passes-few zero n rs b = omega (arith, met-most n rs b)
passes-few (suc k) n rs b =
    go (ltb (met_count n rs b) (met_count n rs (kept n rs b (pass_moves n rs b)))) refl (passes-few k n rs (kept n rs b (pass_moves n rs b)))
  where
    c : ℕ
    c = kept n rs b (pass_moves n rs b)

    go : (t : Bool) → ltb (met_count n rs b) (met_count n rs c) ≡ t → (passes_from k n rs c).passes + met_count n rs c ≤ suc (length rs)
        → (cond t (counted (looks n rs b (pass_moves n rs b)) (passes_from k n rs c)) (record { bit = b; passes = 1; looks = looks n rs b (pass_moves n rs b) })).passes + met_count n rs b ≤ suc (length rs)
    go true e later = let g = ltb-true (met_count n rs b) (met_count n rs c) e in omega arith
    go false e later = omega (arith, met-most n rs b)

-- a bit starts where it meets the lowest live requirement
pub start-meets : (n : ℕ) (r : Requirement) (rs : List Requirement) → Apart r.first r.second → met n r (start (r ∷ rs)) ≡ true
start-meets n r rs apart = means-met n r (start (r ∷ rs)) (inl (record { zeros = λ s p q. omega (arith, apart s); ones = λ s p q. q }))

met-first : (n : ℕ) (r : Requirement) (rs : List Requirement) (b : ℕ) → met n r b ≡ true → 1 ≤ met_count n (r ∷ rs) b
unfolding met_count
met-first n r rs b e = rw e (omega arith)

-- a bit takes at most as many passes as it had live requirements
pub passes-at-most : (n : ℕ) (r : Requirement) (rs : List Requirement) → Apart r.first r.second → (passes n (r ∷ rs)).passes ≤ length (r ∷ rs)
unfolding passes
passes-at-most n r rs apart =
    let h = passes-few (suc (length (r ∷ rs))) n (r ∷ rs) r.second in
    let g : 1 ≤ met_count n (r ∷ rs) r.second = met-first n r rs r.second (start-meets n r rs apart) in
    omega arith

-- no pass that stands meets fewer
passes-keep : (k n : ℕ) (rs : List Requirement) (b : ℕ) → met_count n rs b ≤ met_count n rs (passes_from k n rs b).bit
unfolding passes_from
passes-keep zero n rs b = le_refl (met_count n rs b)
passes-keep (suc k) n rs b =
    go (ltb (met_count n rs b) (met_count n rs (kept n rs b (pass_moves n rs b)))) refl (passes-keep k n rs (kept n rs b (pass_moves n rs b)))
  where
    c : ℕ
    c = kept n rs b (pass_moves n rs b)

    go : (t : Bool) → ltb (met_count n rs b) (met_count n rs c) ≡ t → met_count n rs c ≤ met_count n rs (passes_from k n rs c).bit
        → met_count n rs b ≤ met_count n rs (cond t (counted (looks n rs b (pass_moves n rs b)) (passes_from k n rs c)) (record { bit = b; passes = 1; looks = looks n rs b (pass_moves n rs b) })).bit
    go true e later = let g = ltb-true (met_count n rs b) (met_count n rs c) e in omega arith
    go false e later = le_refl (met_count n rs b)

-- a bit starts where it meets the lowest live requirement, so when it is done it meets one at least
pub passes-meet : (n : ℕ) (r : Requirement) (rs : List Requirement) → Apart r.first r.second → 1 ≤ met_count n (r ∷ rs) (passes n (r ∷ rs)).bit
unfolding passes
passes-meet n r rs apart = le_trans (met-first n r rs r.second (start-meets n r rs apart)) (passes-keep (suc (length (r ∷ rs))) n (r ∷ rs) r.second)

-- when a bit is done no single flip raises the number met
pub passes-best : (n : ℕ) (rs : List Requirement) → NoFlipRaises n rs (passes n rs).bit
unfolding passes
passes-best n rs = passes-done (suc (length rs)) n rs (start rs) (omega arith)
