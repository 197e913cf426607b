-- What a code is: its bits are built one after the other, each for the requirements that no earlier bit meets.
use mathlib.Core.Path.{◌≡◌, refl, sym, ap, ◌∙◌}
use mathlib.Core.Bool.{Bool, true, false, ◌&&◌, not, cond}
use mathlib.Core.List.{List, [], ◌∷◌}
use Prim.Native.Nat.{ℕ, zero, suc, ◌≤◌, ◌<◌}
use native.Mathlib.Omega.{arith}
use lib.Dec.{eqb}
use lib.ListN.{length, get_or, take}
use Rattle.rules.specs.Limits.{most_bits}
use Rattle.rules.specs.Requirements.{requirements}
use Rattle.rules.specs.OneBit.{new_bit}
use Rattle.rules.specs.Code.{Code, coded, uncoded, unmet_by, build, unmet, coding}
use Rattle.rules.specs.declared.Requirement.{Requirement}
use Rattle.rules.specs.declared.Listing.{Listing}
use Rattle.rules.specs.declared.Refusal.TheVariants.{TooWide}
use Rattle.rules.proofs.Unmet.{unmet_in, unmet-all, unmet-then}
use Rattle.rules.proofs.Good.{AllGood, good-unmet}
use Rattle.rules.proofs.Gains.{new-bit-gains}

-- of n states and the requirements rs, at most k bits
pub record Built (k n : ℕ) (rs : List Requirement) (bits : List ℕ) : Type 0 where
  pub few : length bits ≤ k
  -- each bit is the next bit, from the requirements that no earlier bit meets
  pub next : (j : ℕ) → j < length bits → get_or bits j 0 ≡ (new_bit n (unmet_in n (take j bits) rs)).bit
  -- and meets one of them
  pub gains : (j : ℕ) → j < length bits → length (unmet_in n (take (suc j) bits) rs) < length (unmet_in n (take j bits) rs)
  -- building stops short of k bits only where every requirement is met
  pub enough : length bits < k → unmet_in n bits rs ≡ []

built-none : (k n : ℕ) (rs : List Requirement) → (0 < k → unmet_in n [] rs ≡ []) → Built k n rs []
built-none k n rs h = record { few = omega arith; next = λ j q. absurd (omega arith); gains = λ j q. absurd (omega arith); enough = h }

built-more : (k n : ℕ) (rs : List Requirement) (b : ℕ) (ds : List ℕ) → b ≡ (new_bit n rs).bit → length (unmet_by n b rs) < length rs
    → Built k n (unmet_by n b rs) ds → Built (suc k) n rs (b ∷ ds)
built-more k n rs b ds e l d = record {
  few = omega (arith, d.few);
  next = next;
  gains = gains;
  enough = λ h. sym (unmet-then n b ds rs) ∙ d.enough (omega arith);
}
  where
    next : (j : ℕ) → j < length (b ∷ ds) → get_or (b ∷ ds) j 0 ≡ (new_bit n (unmet_in n (take j (b ∷ ds)) rs)).bit
    next zero h = e ∙ ap (λ (l : List Requirement). (new_bit n l).bit) (sym (unmet-all n rs))
    next (suc j) h = d.next j (omega arith) ∙ ap (λ (l : List Requirement). (new_bit n l).bit) (unmet-then n b (take j ds) rs)

    gains : (j : ℕ) → j < length (b ∷ ds) → length (unmet_in n (take (suc j) (b ∷ ds)) rs) < length (unmet_in n (take j (b ∷ ds)) rs)
    gains zero h = omega (arith, ap length (unmet-all n rs), ap length (sym (unmet-then n b [] rs) ∙ unmet-all n (unmet_by n b rs)))
    gains (suc j) h = omega (arith, d.gains j (omega arith), ap length (unmet-then n b (take j ds) rs), ap length (unmet-then n b (take (suc j) ds) rs))

-- the bits of a code for requirements whose blocks are apart
pub built : (k n : ℕ) (rs : List Requirement) → AllGood n rs → Built k n rs (build k n rs).bits
unfolding build
built zero n rs g = built-none 0 n rs (λ h. absurd (omega arith))
built (suc k) n [] g = built-none (suc k) n [] (λ h. unmet-all n [])
built (suc k) n (r ∷ rs) g =
    let b : ℕ = (new_bit n (r ∷ rs)).bit in
    let live : List Requirement = unmet_by n b (r ∷ rs) in
    built-more k n (r ∷ rs) b (build k n live).bits refl (new-bit-gains n r rs g) (built k n live (good-unmet n b (r ∷ rs) g))

-- ---- the code of a listing

-- how many bits it has at most
abbrev pub most_of : Listing → ℕ
most_of t = cond (eqb t.head.width 0) most_bits t.head.width

pub most-few : (t : Listing) → t.head.width ≤ most_bits → most_of t ≤ most_bits
most-few t h = go (eqb t.head.width 0)
  where
    go : (a : Bool) → cond a most_bits t.head.width ≤ most_bits
    go true = omega arith
    go false = h

-- a code that is wide enough was built
pub was-built : (t : Listing) (c : Code) → coding t ≡ coded c → build (most_of t) t.head.states (requirements t) ≡ c
unfolding coding
was-built t c e = go (eqb t.head.width 0 && not (eqb (length (unmet t d.bits)) 0)) e
  where
    d : Code
    d = build (most_of t) t.head.states (requirements t)

    go : (wide : Bool) → cond wide (uncoded TooWide) (coded d) ≡ coded c → d ≡ c
    go true e = absurd (let z : ◌≡◌ {A = ℕ} 0 1 = cc in omega arith)
    go false e = cc
