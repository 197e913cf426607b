-- The gain table shows each state's gain: filled from the requirements at a bit, and kept by each move.
use mathlib.Core.Path.{◌≡◌, refl, sym, ap, ◌∙◌}
use mathlib.Core.Bool.{Bool, true, false, cond}
use mathlib.Core.List.{List, [], ◌∷◌}
use Prim.Native.Nat.{ℕ, zero, suc, ◌+◌, ◌*◌, ◌%◌, ◌^◌, ◌≤◌, ◌<◌}
use native.Mathlib.Omega.{arith}
use lib.Dec.{eqb}
use lib.ListN.{length, get_or, replicate, length-replicate, get_or-replicate}
use borrow.Author.Tests.{eqb-true, eqb-false}
use Rattle.sets.specs.Sets.{has, flip}
use Rattle.sets.specs.Blocks.{wrong, breaks}
use Rattle.sets.proofs.Members.{has-lt, flip-lt}
use Rattle.rules.specs.Requirements.{met, met_count}
use Rattle.rules.specs.declared.Requirement.{Requirement}
use Rattle.rules.proofs.Passes.{met-most}
use Rattle.rules.proofs.Good.{Good, AllGood}
use Rattle.move_table.specs.Table.{level, less, raised, weighed, shared, unshared, look_mask, stepped}
use Rattle.move_table.specs.Moves.{filled, moved}
use Rattle.move_table.proofs.Raising.{length-raised}
use Rattle.move_table.proofs.Either.{either}
use Rattle.move_table.proofs.Ready.{Ready}
use Rattle.move_table.proofs.Shares.{is_met, makes_of, breaks_of, share-has, quiet-shares}
use Rattle.move_table.proofs.Looks.{look-mask}

-- ---- one level

raised-from : (by m j : ℕ) (t : List ℕ) (k : ℕ) → k < length t
    → get_or (raised by m j t) k 0 ≡ cond (eqb (has m (j + k)) 1) ((get_or t k 0 + by) % 2 ^ 32) (get_or t k 0)
unfolding raised
raised-from by m j [] k h = absurd (omega arith)
raised-from by m j (v ∷ vs) zero h = let e : j ≡ j + 0 = omega arith in ap (λ (i : ℕ). cond (eqb (has m i) 1) ((v + by) % 2 ^ 32) v) e
raised-from by m j (v ∷ vs) (suc k) h =
    let e : suc j + k ≡ j + suc k = omega arith in
    raised-from by m (suc j) vs k (omega arith) ∙ ap (λ (i : ℕ). cond (eqb (has m i) 1) ((get_or vs k 0 + by) % 2 ^ 32) (get_or vs k 0)) e

module _ (m : ℕ) (t : List ℕ) (k : ℕ) (hk : k < length t) where
  pub raised_at : (by : ℕ) → get_or (raised by m 0 t) k 0 ≡ cond (eqb (has m k) 1) ((get_or t k 0 + by) % 2 ^ 32) (get_or t k 0)
  raised_at by =
      let e : 0 + k ≡ k = omega arith in
      raised-from by m 0 t k hk ∙ ap (λ (i : ℕ). cond (eqb (has m i) 1) ((get_or t k 0 + by) % 2 ^ 32) (get_or t k 0)) e

  -- one more at a member, where the level is not the last
  raised-more : get_or t k 0 + 1 < 2 ^ 32 → get_or (raised 1 m 0 t) k 0 ≡ get_or t k 0 + has m k
  raised-more h = raised_at 1 ∙ go (eqb (has m k) 1) refl
    where
      go : (u : Bool) → eqb (has m k) 1 ≡ u → cond u ((get_or t k 0 + 1) % 2 ^ 32) (get_or t k 0) ≡ get_or t k 0 + has m k
      go true e = omega (arith, eqb-true (has m k) 1 e)
      go false e = let o = eqb-false (has m k) 1 e in omega (arith, has-lt m k)

  -- one less at a member, where the level is not 0
  raised-less : 1 ≤ get_or t k 0 → get_or t k 0 < 2 ^ 32 → get_or (raised less m 0 t) k 0 + has m k ≡ get_or t k 0
  raised-less h l = ap (λ (v : ℕ). v + has m k) (raised_at less) ∙ go (eqb (has m k) 1) refl
    where
      go : (u : Bool) → eqb (has m k) 1 ≡ u → cond u ((get_or t k 0 + less) % 2 ^ 32) (get_or t k 0) + has m k ≡ get_or t k 0
      go true e = omega (arith, eqb-true (has m k) 1 e)
      go false e = let o = eqb-false (has m k) 1 e in omega (arith, has-lt m k)

-- a level at least d from both ends of 32 digits
record Room (d v : ℕ) : Type 0 where
  below : d ≤ v
  above : v + d < 2 ^ 32

-- ---- one requirement

met-le : (n : ℕ) (r : Requirement) (b : ℕ) → is_met n r b ≤ 1
met-le n r b = either (λ (d : ℕ). d ≤ 1) (met n r b) 1 0 (λ _. omega arith) (λ _. omega arith)

pub length-weighed : (made broken f g b : ℕ) (t : List ℕ) → length (weighed made broken f g b t) ≡ length t
unfolding weighed
length-weighed made broken f g b t =
    length-raised made _ 0 (raised broken (breaks (wrong f g b) (wrong g f b)) 0 t) ∙ length-raised broken _ 0 t

pub length-stepped : (f g b a s : ℕ) (t : List ℕ) → length (stepped f g b a s t) ≡ length t
unfolding stepped
length-stepped f g b a s t =
    either (λ (u : List ℕ). length u ≡ length t) (look_mask f g b a s) (shared f g a (unshared f g b t)) t
    (λ _. length-weighed 1 less f g a (unshared f g b t) ∙ length-weighed less 1 f g b t) (λ _. refl)

module _ (n : ℕ) (r : Requirement) (good : Good n r) (b k : ℕ) (hb : b < 2 ^ n) (hk : k < n) (t : List ℕ) (l : k < length t) (room : Room 1 (get_or t k 0)) where
  -- what r adds at state k: met after the flip, less met now
  shared_at : get_or (shared r.first r.second b t) k 0 + is_met n r b ≡ get_or t k 0 + is_met n r (flip b k)
  unfolding weighed
  shared_at =
      let u : List ℕ = raised less (breaks_of r b) 0 t in
      let e : get_or u k 0 + has (breaks_of r b) k ≡ get_or t k 0 = raised-less (breaks_of r b) t k l room.below (omega arith) in
      let q : k < length u = omega (arith, length-raised less (breaks_of r b) 0 t) in
      let v = raised-more (makes_of r b) u k q (omega (arith, room.above)) in
      omega (arith, share-has n r good b k hb hk)

  -- and takes off
  unshared-at : get_or (unshared r.first r.second b t) k 0 + is_met n r (flip b k) ≡ get_or t k 0 + is_met n r b
  unfolding weighed
  unshared-at =
      let u : List ℕ = raised 1 (breaks_of r b) 0 t in
      let e : get_or u k 0 ≡ get_or t k 0 + has (breaks_of r b) k = raised-more (breaks_of r b) t k l room.above in
      let q : k < length u = omega (arith, length-raised 1 (breaks_of r b) 0 t) in
      let v = raised-less (makes_of r b) u k q (omega (arith, room.below)) (omega (arith, room.above, has-lt (breaks_of r b) k)) in
      omega (arith, share-has n r good b k hb hk)

-- the move of s takes off what r added before it, and adds what r adds after it; where it does not look, they are the same
stepped-at : (n : ℕ) (r : Requirement) → Good n r → (b s k : ℕ) → b < 2 ^ n → s < n → k < n → (t : List ℕ) → k < length t → Room 2 (get_or t k 0)
    → get_or (stepped r.first r.second b (flip b s) s t) k 0 + is_met n r (flip b s) + is_met n r (flip b k)
    ≡ get_or t k 0 + is_met n r b + is_met n r (flip (flip b s) k)
unfolding stepped
stepped-at n r good b s k hb hs hk t long room = go (look_mask r.first r.second b (flip b s) s) refl
  where
    go : (u : Bool) → look_mask r.first r.second b (flip b s) s ≡ u
        → get_or (cond u (shared r.first r.second (flip b s) (unshared r.first r.second b t)) t) k 0 + is_met n r (flip b s) + is_met n r (flip b k)
        ≡ get_or t k 0 + is_met n r b + is_met n r (flip (flip b s) k)
    go true e =
        let off : List ℕ = unshared r.first r.second b t in
        let p = unshared-at n r good b k hb hk t long record { below = omega arith; above = omega arith } in
        let l : k < length off = omega (arith, length-weighed less 1 r.first r.second b t) in
        let q : Room 1 (get_or off k 0) = record { below = omega (arith, met-le n r (flip b k)); above = omega (arith, met-le n r b) } in
        omega (arith, shared_at n r good (flip b s) k (flip-lt n b s hb hs) hk off l q)
    go false e = omega (arith, quiet-shares n r b s k hk good.apart (sym (look-mask n b s hb hs r good) ∙ e))

-- ---- a list of requirements

pub length-filled : (rs : List Requirement) (b : ℕ) (t : List ℕ) → length (filled rs b t) ≡ length t
unfolding filled
length-filled [] b t = refl
length-filled (r ∷ rs) b t = length-filled rs b (shared r.first r.second b t) ∙ length-weighed 1 less r.first r.second b t

pub length_moved : (rs : List Requirement) (b a s : ℕ) (t : List ℕ) → length (moved rs b a s t) ≡ length t
unfolding moved
length_moved [] b a s t = refl
length_moved (r ∷ rs) b a s t = length_moved rs b a s (stepped r.first r.second b a s t) ∙ length-stepped r.first r.second b a s t

module _ (n b k : ℕ) (hb : b < 2 ^ n) (hk : k < n) where
  filled_at : (rs : List Requirement) → AllGood n rs → (t : List ℕ) → k < length t → Room (length rs) (get_or t k 0)
      → get_or (filled rs b t) k 0 + met_count n rs b ≡ get_or t k 0 + met_count n rs (flip b k)
  unfolding filled met_count
  filled_at [] good t l room = refl
  filled_at (r ∷ rs) good t l room =
      let u : List ℕ = shared r.first r.second b t in
      let p = shared_at n r good.0 b k hb hk t l record { below = omega (arith, room.below); above = omega (arith, room.above) } in
      let q : Room (length rs) (get_or u k 0) = record {
        below = omega (arith, room.below, met-le n r b);
        above = omega (arith, room.above, met-le n r (flip b k));
      } in
      omega (arith, filled_at rs good.1 u (omega (arith, length-weighed 1 less r.first r.second b t)) q)

  moved_at : (s : ℕ) → s < n → (rs : List Requirement) → AllGood n rs → (t : List ℕ) → k < length t → Room (2 * length rs) (get_or t k 0)
      → get_or (moved rs b (flip b s) s t) k 0 + met_count n rs (flip b s) + met_count n rs (flip b k)
      ≡ get_or t k 0 + met_count n rs b + met_count n rs (flip (flip b s) k)
  unfolding moved met_count
  moved_at s hs [] good t l room = refl
  moved_at s hs (r ∷ rs) good t l room =
      let a : ℕ = flip b s in
      let u : List ℕ = stepped r.first r.second b a s t in
      let p = stepped-at n r good.0 b s k hb hs hk t l record { below = omega (arith, room.below); above = omega (arith, room.above) } in
      let q : Room (2 * length rs) (get_or u k 0) = record {
        below = omega (arith, room.below, met-le n r a, met-le n r (flip b k));
        above = omega (arith, room.above, met-le n r b, met-le n r (flip a k));
      } in
      omega (arith, moved_at s hs rs good.1 u (omega (arith, length-stepped r.first r.second b a s t)) q)

-- ---- the whole table

-- each state's level is its gain above `level`: what is met after its flip, less what is met now
pub record Shows (n : ℕ) (rs : List Requirement) (b : ℕ) (t : List ℕ) : Type 0 where
  pub long : length t ≡ 64
  pub each : (k : ℕ) → k < n → get_or t k 0 + met_count n rs b ≡ level + met_count n rs (flip b k)

module _ (n : ℕ) (rs : List Requirement) (ready : Ready n rs) (b : ℕ) (hb : b < 2 ^ n) where
  pub shows-filled : Shows n rs b (filled rs b (replicate 64 level))
  shows-filled = record { long = length-filled rs b (replicate 64 level) ∙ length-replicate 64 level; each = each }
    where
      each : (k : ℕ) → k < n → get_or (filled rs b (replicate 64 level)) k 0 + met_count n rs b ≡ level + met_count n rs (flip b k)
      each k hk =
          let l : k < 64 = omega (arith, ready.fits) in
          let v : get_or (replicate 64 level) k 0 ≡ level = get_or-replicate 64 k level 0 l in
          let room : Room (length rs) (get_or (replicate 64 level) k 0) = record { below = omega (arith, ready.few); above = omega (arith, ready.few) } in
          omega (arith, filled_at n b k hb hk rs ready.good (replicate 64 level) (omega (arith, length-replicate 64 level)) room)

  pub shows-moved : (s : ℕ) → s < n → (t : List ℕ) → Shows n rs b t → Shows n rs (flip b s) (moved rs b (flip b s) s t)
  shows-moved s hs t shows = record { long = length_moved rs b (flip b s) s t ∙ shows.long; each = each }
    where
      each : (k : ℕ) → k < n → get_or (moved rs b (flip b s) s t) k 0 + met_count n rs (flip b s) ≡ level + met_count n rs (flip (flip b s) k)
      each k hk =
          let v : get_or t k 0 + met_count n rs b ≡ level + met_count n rs (flip b k) = shows.each k hk in
          let room : Room (2 * length rs) (get_or t k 0) = record {
            below = omega (arith, ready.few, met-most n rs b);
            above = omega (arith, ready.few, met-most n rs (flip b k));
          } in
          omega (arith, moved_at n b k hb hk s hs rs ready.good t (omega (arith, ready.fits, shows.long)) room)
