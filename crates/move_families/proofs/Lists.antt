-- The list's move of moves/specs, level by level modulo 2 ^ 32, whatever the table has.
use Rattle.std.proofs.Common.{◌≡◌, ℕ, ◌+◌, ◌%◌, ◌^◌, ◌<◌, ◌≤◌, Bool, true, false, cond, eqb, List, [], ◌∷◌, length, get_or, sym, refl, ap, ◌∙◌, arith, eqb-true}
use native.Mathlib.Decide.{dec_lt}
use lib.ListN.{get_or-eq_default}
use borrow.Author.Tests.{eqb-false}
use Rattle.sets.specs.Sets.{has, flip as turn}
use Rattle.sets.proofs.Members.{has-lt, flip-lt}
use Rattle.rules.specs.Requirements.{met_count}
use Rattle.rules.specs.declared.Requirement.{Requirement}
use Rattle.rules.proofs.Good.{Good, AllGood}
use Rattle.move_table.specs.Table.{less, raised, weighed, shared, unshared, look_mask, stepped}
use Rattle.move_table.proofs.Raising.{length-raised}
use Rattle.move_table.proofs.Shares.{is_met, makes_of, breaks_of, share-has, quiet-shares}
use Rattle.move_table.specs.Moves.{moved}
use Rattle.move_table.proofs.Looks.{look-mask}
use Rattle.move_table.proofs.Shows.{raised_at, length-weighed, length-stepped}
use Rattle.move_halves.proofs.Modulo.{plus, cancel, sums, both}
use Rattle.move_halves.proofs.Levels.{raised-level}

-- ---- one requirement

module _ (m : ℕ) (t : List ℕ) (k : ℕ) (l : k < length t) where
  more-level : (get_or (raised 1 m 0 t) k 0 + 0) % 2 ^ 32 ≡ (get_or t k 0 + has m k) % 2 ^ 32
  more-level = raise (eqb (has m k) 1) refl
    where
      raise : (u : Bool) → eqb (has m k) 1 ≡ u → (get_or (raised 1 m 0 t) k 0 + 0) % 2 ^ 32 ≡ (get_or t k 0 + has m k) % 2 ^ 32
      raise true e = omega (arith, rw e at (raised-level 1 m t k l), eqb-true (has m k) 1 e)
      raise false e = let o = eqb-false (has m k) 1 e in omega (arith, rw e at (raised-level 1 m t k l), has-lt m k)

  less-level : (get_or (raised less m 0 t) k 0 + has m k) % 2 ^ 32 ≡ (get_or t k 0 + 0) % 2 ^ 32
  less-level = raise (eqb (has m k) 1) refl
    where
      raise : (u : Bool) → eqb (has m k) 1 ≡ u → (get_or (raised less m 0 t) k 0 + has m k) % 2 ^ 32 ≡ (get_or t k 0 + 0) % 2 ^ 32
      raise true e = omega (arith, rw e at (raised-level less m t k l), eqb-true (has m k) 1 e)
      raise false e = let o = eqb-false (has m k) 1 e in omega (arith, rw e at (raised-level less m t k l), has-lt m k)

module _ (n : ℕ) (r : Requirement) (good : Good n r) (b k : ℕ) (hb : b < 2 ^ n) (hk : k < n) (t : List ℕ) (l : k < length t) where
  -- what r adds at state k: met after the flip, less met now
  pub shared-level : (get_or (shared r.first r.second b t) k 0 + is_met n r b) % 2 ^ 32 ≡ (get_or t k 0 + is_met n r (turn b k)) % 2 ^ 32
  unfolding weighed
  shared-level =
      let u : List ℕ = raised less (breaks_of r b) 0 t in
      let q : k < length u = omega (arith, length-raised less (breaks_of r b) 0 t) in
      close (get_or t k 0) (get_or (raised 1 (makes_of r b) 0 u) k 0) (has (breaks_of r b) k) (has (makes_of r b) k) (is_met n r b) (is_met n r (turn b k))
      (both (get_or t k 0) (get_or u k 0) (get_or (raised 1 (makes_of r b) 0 u) k 0) (has (breaks_of r b) k) 0 0 (has (makes_of r b) k) (less-level (breaks_of r b) t k l) (more-level (makes_of r b) u k q))
      (share-has n r good b k hb hk)
    where
      close : (v w p m x y : ℕ) → (w + p + 0) % 2 ^ 32 ≡ (v + 0 + m) % 2 ^ 32 → y + p ≡ x + m → (w + x) % 2 ^ 32 ≡ (v + y) % 2 ^ 32
      close v w p m x y e f =
          let i : w + x + p ≡ w + p + 0 + x = omega arith in
          let j : v + y + p ≡ v + 0 + m + x = omega arith in
          cancel (w + x) (v + y) p (sums i j (plus (w + p + 0) (v + 0 + m) x e))

  -- and takes off
  unshared-level : (get_or (unshared r.first r.second b t) k 0 + is_met n r (turn b k)) % 2 ^ 32 ≡ (get_or t k 0 + is_met n r b) % 2 ^ 32
  unfolding weighed
  unshared-level =
      let u : List ℕ = raised 1 (breaks_of r b) 0 t in
      let q : k < length u = omega (arith, length-raised 1 (breaks_of r b) 0 t) in
      close (get_or t k 0) (get_or (raised less (makes_of r b) 0 u) k 0) (has (breaks_of r b) k) (has (makes_of r b) k) (is_met n r b) (is_met n r (turn b k))
      (both (get_or t k 0) (get_or u k 0) (get_or (raised less (makes_of r b) 0 u) k 0) 0 (has (breaks_of r b) k) (has (makes_of r b) k) 0 (more-level (breaks_of r b) t k l) (less-level (makes_of r b) u k q))
      (share-has n r good b k hb hk)
    where
      close : (v w p m x y : ℕ) → (w + 0 + m) % 2 ^ 32 ≡ (v + p + 0) % 2 ^ 32 → y + p ≡ x + m → (w + y) % 2 ^ 32 ≡ (v + x) % 2 ^ 32
      close v w p m x y e f =
          let i : w + y + m ≡ w + 0 + m + y = omega arith in
          let j : v + x + m ≡ v + p + 0 + y = omega arith in
          cancel (w + y) (v + x) m (sums i j (plus (w + 0 + m) (v + p + 0) y e))

-- the move of s for one requirement: where it does not look, the shares are the same
stepped-level : (n : ℕ) (r : Requirement) → Good n r → (b s k : ℕ) → b < 2 ^ n → s < n → k < n → (t : List ℕ) → k < length t
    → (get_or (stepped r.first r.second b (turn b s) s t) k 0 + is_met n r (turn b s) + is_met n r (turn b k)) % 2 ^ 32
    ≡ (get_or t k 0 + is_met n r b + is_met n r (turn (turn b s) k)) % 2 ^ 32
unfolding stepped
stepped-level n r good b s k hb hs hk t l = go (look_mask r.first r.second b (turn b s) s) refl
  where
    go : (u : Bool) → look_mask r.first r.second b (turn b s) s ≡ u
        → (get_or (cond u (shared r.first r.second (turn b s) (unshared r.first r.second b t)) t) k 0 + is_met n r (turn b s) + is_met n r (turn b k)) % 2 ^ 32
        ≡ (get_or t k 0 + is_met n r b + is_met n r (turn (turn b s) k)) % 2 ^ 32
    go true e =
        let off : List ℕ = unshared r.first r.second b t in
        let q : k < length off = omega (arith, length-weighed less 1 r.first r.second b t) in
        swap (get_or t k 0) (get_or (shared r.first r.second (turn b s) off) k 0) (is_met n r (turn b k)) (is_met n r b) (is_met n r (turn b s)) (is_met n r (turn (turn b s) k))
        (both (get_or t k 0) (get_or off k 0) (get_or (shared r.first r.second (turn b s) off) k 0) (is_met n r (turn b k)) (is_met n r b) (is_met n r (turn b s)) (is_met n r (turn (turn b s) k))
        (unshared-level n r good b k hb hk t l) (shared-level n r good (turn b s) k (flip-lt n b s hb hs) hk off q))
      where
        swap : (v w p x y z : ℕ) → (w + p + y) % 2 ^ 32 ≡ (v + x + z) % 2 ^ 32 → (w + y + p) % 2 ^ 32 ≡ (v + x + z) % 2 ^ 32
        swap v w p x y z e = let i : w + y + p ≡ w + p + y = omega arith in ap (λ (m : ℕ). m % 2 ^ 32) i ∙ e
    go false e =
        let q = quiet-shares n r b s k hk good.apart (sym (look-mask n b s hb hs r good) ∙ e) in
        let i : get_or t k 0 + is_met n r (turn b s) + is_met n r (turn b k) ≡ get_or t k 0 + is_met n r b + is_met n r (turn (turn b s) k) = omega (arith, q) in
        ap (λ (m : ℕ). m % 2 ^ 32) i

-- one change of four sums after another
pub join : (t v w a b c d a' b' c' d' : ℕ) → (v + a + b) % 2 ^ 32 ≡ (t + c + d) % 2 ^ 32 → (w + a' + b') % 2 ^ 32 ≡ (v + c' + d') % 2 ^ 32
    → (w + (a + a') + (b + b')) % 2 ^ 32 ≡ (t + (c + c') + (d + d')) % 2 ^ 32
join t v w a b c d a' b' c' d' e f =
    let p : v + a + b ≡ v + (a + b) = omega arith in
    let p' : t + c + d ≡ t + (c + d) = omega arith in
    let q : w + a' + b' ≡ w + (a' + b') = omega arith in
    let q' : v + c' + d' ≡ v + (c' + d') = omega arith in
    let x : w + (a + a') + (b + b') ≡ w + (a + b) + (a' + b') = omega arith in
    let y : t + (c + c') + (d + d') ≡ t + (c + d) + (c' + d') = omega arith in
    sums x y (both t v w (a + b) (c + d) (a' + b') (c' + d') (sums (sym p) (sym p') e) (sums (sym q) (sym q') f))

-- ---- a list of requirements

module _ (n b s k : ℕ) (hb : b < 2 ^ n) (hs : s < n) (hk : k < n) where
  pub moved-level : (rs : List Requirement) → AllGood n rs → (t : List ℕ) → k < length t
      → (get_or (moved rs b (turn b s) s t) k 0 + met_count n rs (turn b s) + met_count n rs (turn b k)) % 2 ^ 32
      ≡ (get_or t k 0 + met_count n rs b + met_count n rs (turn (turn b s) k)) % 2 ^ 32
  unfolding moved met_count
  moved-level [] good t l = refl
  moved-level (r ∷ rs) good t l =
      let a : ℕ = turn b s in
      let u : List ℕ = stepped r.first r.second b a s t in
      let q : k < length u = omega (arith, length-stepped r.first r.second b a s t) in
      join (get_or t k 0) (get_or u k 0) (get_or (moved rs b a s u) k 0) (is_met n r a) (is_met n r (turn b k)) (is_met n r b) (is_met n r (turn a k))
      (met_count n rs a) (met_count n rs (turn b k)) (met_count n rs b) (met_count n rs (turn a k))
      (stepped-level n r good.0 b s k hb hs hk t l) (moved-level rs good.1 u q)

-- ---- levels are numbers of 32 digits

abbrev pub Fits : List ℕ → Type 0
Fits t = (k : ℕ) → get_or t k 0 < 2 ^ 32

module _ (t : List ℕ) (h : Fits t) where
  pub raised-fits : (by m : ℕ) → Fits (raised by m 0 t)
  raised-fits by m k = go (dec_lt k (length t))
    where
      at : (u : Bool) → cond u ((get_or t k 0 + by) % 2 ^ 32) (get_or t k 0) < 2 ^ 32
      at true = omega arith
      at false = h k

      go : Dec (k < length t) → get_or (raised by m 0 t) k 0 < 2 ^ 32
      go (yes l) = rw (raised_at m t k l by) (at (eqb (has m k) 1))
      go (no l) =
          let o : length (raised by m 0 t) ≤ k = omega (arith, length-raised by m 0 t) in
          rw (get_or-eq_default (raised by m 0 t) 0 o) (omega arith)

pub moved-fits : (rs : List Requirement) (b a s : ℕ) (t : List ℕ) → Fits t → Fits (moved rs b a s t)
unfolding moved stepped weighed
moved-fits [] b a s t h = h
moved-fits (r ∷ rs) b a s t h = moved-fits rs b a s (stepped r.first r.second b a s t) (at (look_mask r.first r.second b a s))
  where
    at : (u : Bool) → Fits (cond u (shared r.first r.second a (unshared r.first r.second b t)) t)
    at true =
        raised-fits (raised less (breaks_of r a) 0 (unshared r.first r.second b t))
        (raised-fits (unshared r.first r.second b t) (raised-fits (raised 1 (breaks_of r b) 0 t) (raised-fits t h 1 (breaks_of r b)) less (makes_of r b)) less (breaks_of r a))
        1 (makes_of r a)
    at false = h
