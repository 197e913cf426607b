-- 02, request 12: what a wider budget buys. The narrower code's bits are the first of the wider one's, nothing that is met becomes unmet, and each bit
-- more meets a requirement more.
use mathlib.Core.Path.{◌≡◌, refl, sym, ap, ◌∙◌}
use mathlib.Core.List.{List, [], ◌∷◌, map, Memᴰ}
use Prim.Native.Nat.{ℕ, zero, suc, ◌≤◌, ◌<◌}
use native.Mathlib.Omega.{arith}
use lib.ListN.{length, get_or, take, length-take}
use Rattle.rules.specs.Limits.{most_bits}
use Rattle.rules.specs.Listing.{no_requirement}
use Rattle.rules.specs.Requirements.{met, requirements}
use Rattle.rules.specs.OneBit.{new_bit}
use Rattle.rules.specs.Code.{unmet_by, build, unmet_from, code_of}
use Rattle.rules.specs.Widths.{bits_of}
use Rattle.rules.specs.declared.Listing.{Listing}
use Rattle.rules.specs.declared.Requirement.{Requirement}
use Rattle.rules.proofs.Judged.{FirstMeets, MetByNone}
use Rattle.rules.proofs.Unmet.{unmet-listed, unmet-length}
use Rattle.rules.proofs.Good.{AllGood}
use Rattle.rules.proofs.Built.{built}

-- ---- the first bits of a code

pub leading-bits : (j k n : ℕ) (rs : List Requirement) → j ≤ k → (build j n rs).bits ≡ take j (build k n rs).bits
unfolding build
leading-bits zero k n rs h = refl
leading-bits (suc j) zero n rs h = absurd (omega arith)
leading-bits (suc j) (suc k) n [] h = refl
leading-bits (suc j) (suc k) n (r ∷ rs) h =
    let b : ℕ = (new_bit n (r ∷ rs)).bit in
    ap {B = List ℕ} (λ l. b ∷ l) (leading-bits j k n (unmet_by n b (r ∷ rs)) (omega arith))

-- the codes of all widths are the first bits of one
pub one_code : (t : Listing) (w : ℕ) → w ≤ most_bits → bits_of t w ≡ take w (bits_of t most_bits)
unfolding bits_of
one_code t w h = leading-bits w most_bits t.head.states (requirements t) h

-- ---- what a code with more bits keeps, and what it gains

-- a wider code of n states for the requirements rs, and its first w bits
pub record Wider (w n : ℕ) (rs : List Requirement) (narrow wide : List ℕ) : Type 0 where
  -- the narrower code's bits are the first bits of the wider one's
  pub leading : narrow ≡ take w wide
  -- what the narrower meets the wider meets, by the same first bit
  pub kept : (r : Requirement) (k : ℕ) → FirstMeets n narrow r k → FirstMeets n wide r k
  -- what the wider leaves unmet is among what the narrower does
  pub among : (k : ℕ) → Memᴰ k (unmet_from 0 n wide rs) → Memᴰ k (unmet_from 0 n narrow rs)
  -- each state's code is the leading part of the wider one
  pub codes : (s : ℕ) → code_of narrow s ≡ take w (code_of wide s)

at_take : (w : ℕ) (l : List ℕ) (j : ℕ) → j < length (take w l) → get_or (take w l) j 0 ≡ get_or l j 0
at_take zero l j h = absurd (omega arith)
at_take (suc w) [] j h = refl
at_take (suc w) (x ∷ l) zero h = refl
at_take (suc w) (x ∷ l) (suc j) h = at_take w l j (omega arith)

map-take : {A B : Type 0} (f : A → B) (w : ℕ) (l : List A) → map f (take w l) ≡ take w (map f l)
map-take f zero l = refl
map-take f (suc w) [] = refl
map-take {B = B} f (suc w) (x ∷ l) = ap {B = List B} (λ k. f x ∷ k) (map-take f w l)

module _ (n w : ℕ) (wide : List ℕ) where
  first-kept : (r : Requirement) (k : ℕ) → FirstMeets n (take w wide) r k → FirstMeets n wide r k
  first-kept r k f = record {
    below = omega (arith, f.below, length-take w wide);
    meets = ap (met n r) (sym (at_take w wide k f.below)) ∙ f.meets;
    earlier = λ i h. ap (met n r) (sym (at_take w wide i (omega (arith, f.below)))) ∙ f.earlier i h;
  }

  none_kept : (r : Requirement) → MetByNone n wide r → MetByNone n (take w wide) r
  none_kept r f j h = ap (met n r) (at_take w wide j h) ∙ f j (omega (arith, length-take w wide))

  pub taken-wider : (rs : List Requirement) → Wider w n rs (take w wide) wide
  taken-wider rs = record { leading = refl; kept = first-kept; among = among; codes = λ s. map-take _ w wide }
    where
      among : (k : ℕ) → Memᴰ k (unmet_from 0 n wide rs) → Memᴰ k (unmet_from 0 n (take w wide) rs)
      among k m =
          let u = (unmet-listed n wide rs k).0 m in
          (unmet-listed n (take w wide) rs k).1 (u.0, none_kept (get_or rs k no_requirement) u.1)

-- ---- each bit that is built meets one more

pub unmet-falls : (k n : ℕ) (rs : List Requirement) → AllGood n rs → (j : ℕ) → j < length (build k n rs).bits
    → length (unmet_from 0 n (take (suc j) (build k n rs).bits) rs) < length (unmet_from 0 n (take j (build k n rs).bits) rs)
unmet-falls k n rs good j h =
    let bits : List ℕ = (build k n rs).bits in
    omega (arith, (built k n rs good).gains j h, unmet-length 0 n (take (suc j) bits) rs, unmet-length 0 n (take j bits) rs)
