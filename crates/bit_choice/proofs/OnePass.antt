-- A pass by the gain table is 01's pass: it makes the same moves, keeps the same bit, and counts the same looks.
use Rattle.std.proofs.Common.{◌≡◌, ℕ, zero, suc, ◌+◌, ◌*◌, ◌%◌, ◌^◌, ◌<◌, ◌≤◌, ltb, List, [], ◌∷◌, length, get_or, sym, refl, ap, ◌∙◌, ap₂, arith, ltb-false, ltb-true}
use Rattle.sets.specs.Sets.{flip}
use Rattle.sets.proofs.Members.{flip-lt}
use Rattle.rules.specs.Requirements.{met_count}
use Rattle.rules.specs.Looks.{move_looks, looks}
use Rattle.rules.specs.OneBit.{choice, moves_from, pass_moves, kept}
use Rattle.rules.specs.declared.Requirement.{Requirement}
use Rattle.rules.proofs.Passes.{met-most}
use Rattle.rules.proofs.FourLooks.{four-of-a-pass, looks_each, looks-each}
use Rattle.rules.proofs.Good.{AllGood}
use Rattle.move_table.specs.Table.{level}
use Rattle.move_table.specs.Moves.{filled, looked}
use Rattle.bit_choice.specs.Pass.{highest, Going, reached, best_of, go_on, go_moves, set_out, passed}
use Rattle.bit_choice.specs.declared.Passed.{Passed}
use Rattle.move_table.proofs.Ready.{Ready}
use Rattle.move_table.proofs.Either.{either}
use Rattle.move_table.proofs.Looks.{looked-looks}
use Rattle.move_table.proofs.Shows.{Shows, shows-filled, shows-moved}
use Rattle.bit_choice.proofs.Highest.{highest-lt, highest-choice}
use Rattle.bit_choice.proofs.Better.{better, better-first, better-second, better-same, better-regroup, kept_more, kept-better}

-- ---- the best so far

-- levels that stand above `level` as the numbers met stand above `base`
module _ (f : ℕ → ℕ) (base : ℕ) (p : Passed) (a now l : ℕ) (was : p.level + base ≡ level + f p.bit) (is : now + base ≡ level + f a) where
  best-bit : (best_of p a now l).bit ≡ better f p.bit a
  best-bit =
      either (λ (q : Passed). q.bit ≡ better f p.bit a) (ltb p.level now) _ _
      (λ e. sym (better-second f p.bit a (omega (arith, ltb-true p.level now e))))
      (λ e. sym (better-first f p.bit a (omega (arith, ltb-false p.level now e))))

  best-level : (best_of p a now l).level + base ≡ level + f (best_of p a now l).bit
  best-level = either (λ (q : Passed). q.level + base ≡ level + f q.bit) (ltb p.level now) _ _ (λ e. is) (λ e. was)

  best-looks : (best_of p a now l).looks ≡ (p.looks + l) % 2 ^ 64
  best-looks = either (λ (q : Passed). q.looks ≡ (p.looks + l) % 2 ^ 64) (ltb p.level now) _ _ (λ e. refl) (λ e. refl)

-- ---- one move

-- a pass from the bit b, on its way
pub record Underway (n : ℕ) (rs : List Requirement) (b : ℕ) (g : Going) : Type 0 where
  pub fits : g.bit < 2 ^ n
  pub shows : Shows n rs g.bit g.table
  -- levels: what is met, less what was met at b
  pub now-level : g.now + met_count n rs b ≡ level + met_count n rs g.bit
  pub best-level : g.best.level + met_count n rs b ≡ level + met_count n rs g.best.bit
  -- the best so far, which the bit does not exceed
  pub best-fits : g.best.bit < 2 ^ n
  pub best-bit : better (met_count n rs) g.best.bit g.bit ≡ g.best.bit

-- the state that moves next
abbrev mover : ℕ → Going → ℕ
mover n g = highest g.free g.table n

module _ (n : ℕ) (rs : List Requirement) (ready : Ready n rs) (b : ℕ) (g : Going) (going : Underway n rs b g) where
  mover-lt : mover n g < n
  mover-lt = highest-lt n g.free g.table n ready.some (omega arith)

  mover-choice : mover n g ≡ choice n rs g.bit g.free n
  mover-choice = highest-choice n rs g.bit g.free g.table going.shows n (omega arith)

  now-is : reached g.now (get_or g.table (mover n g) 0) + met_count n rs b ≡ level + met_count n rs (flip g.bit (mover n g))
  now-is =
      omega (
        arith,
        going.now-level,
        going.shows.each (mover n g) mover-lt,
        ready.few,
        met-most n rs b,
        met-most n rs (flip g.bit (mover n g)),
      )

  next_bit : (go_on n rs g).bit ≡ flip g.bit (mover n g)
  unfolding go_on
  next_bit = refl

  next-free : (go_on n rs g).free ≡ flip g.free (mover n g)
  unfolding go_on
  next-free = refl

  next-best : (go_on n rs g).best.bit ≡ better (met_count n rs) g.best.bit (flip g.bit (mover n g))
  unfolding go_on
  next-best =
      let s : ℕ = mover n g in
      let a : ℕ = flip g.bit s in
      let now : ℕ = reached g.now (get_or g.table s 0) in
      best-bit (met_count n rs) (met_count n rs b) g.best a now (looked rs g.bit a s) going.best-level now-is

  moved_on : Underway n rs b (go_on n rs g)
  unfolding go_on
  moved_on =
      let m = met_count n rs in
      let s : ℕ = mover n g in
      let a : ℕ = flip g.bit s in
      let now : ℕ = reached g.now (get_or g.table s 0) in
      let l : ℕ = looked rs g.bit a s in
      let fits : a < 2 ^ n = flip-lt n g.bit s going.fits mover-lt in
      record {
        fits = fits;
        shows = shows-moved n rs ready g.bit going.fits s mover-lt g.table going.shows;
        now-level = now-is;
        best-level = best-level m (m b) g.best a now l going.best-level now-is;
        best-fits = rw next-best (either (λ (c : ℕ). c < 2 ^ n) (ltb (m g.best.bit) (m a)) a g.best.bit (λ _. fits) (λ _. going.best-fits));
        best-bit =
            ap (λ (c : ℕ). better m c a) next-best
            ∙ better-regroup m g.best.bit a a
            ∙ ap (better m g.best.bit) (better-same m a)
            ∙ sym next-best;
      }

  -- the looks of the move are counted
  move-looks : g.best.looks + move_looks n rs g.bit (mover n g) < 2 ^ 64
      → (go_on n rs g).best.looks ≡ g.best.looks + move_looks n rs g.bit (mover n g)
  unfolding go_on
  move-looks h =
      let s : ℕ = mover n g in
      let a : ℕ = flip g.bit s in
      let now : ℕ = reached g.now (get_or g.table s 0) in
      let l : ℕ = looked rs g.bit a s in
      let e : l ≡ move_looks n rs g.bit s = looked-looks n g.bit s going.fits mover-lt rs ready.good in
      omega (arith, best-looks (met_count n rs) (met_count n rs b) g.best a now l going.best-level now-is)

-- ---- all moves

-- what a pass on its way ends with, after the moves ss
record Ends (n : ℕ) (rs : List Requirement) (b : ℕ) (g : Going) (ss : List ℕ) (p : Passed) : Type 0 where
  bit : p.bit ≡ better (met_count n rs) g.best.bit (kept n rs g.bit ss)
  level-met : p.level + met_count n rs b ≡ level + met_count n rs p.bit
  fits : p.bit < 2 ^ n
  looked-at : p.looks ≡ g.best.looks + looks n rs g.bit ss

moves_more : (n : ℕ) (rs : List Requirement) (k b free s : ℕ) → s ≡ choice n rs b free n
    → moves_from n rs (suc k) b free ≡ s ∷ moves_from n rs k (flip b s) (flip free s)
unfolding moves_from
moves_more n rs k b free s e = ap (λ (t : ℕ). t ∷ moves_from n rs k (flip b t) (flip free t)) (sym e)

looks-more : (n : ℕ) (rs : List Requirement) (b s : ℕ) (ss : List ℕ) → looks n rs b (s ∷ ss) ≡ move_looks n rs b s + looks n rs (flip b s) ss
unfolding looks
looks-more n rs b s ss = refl

module _ (n : ℕ) (rs : List Requirement) (ready : Ready n rs) (b : ℕ) where
  moves-none : (g : Going) → Underway n rs b g → Ends n rs b g (moves_from n rs 0 g.bit g.free) (go_moves 0 n rs g).best
  unfolding go_moves moves_from kept looks
  moves-none g u = record { bit = sym u.best-bit; level-met = u.best-level; fits = u.best-fits; looked-at = omega arith }

  -- what the moves behind one end with is what it and they end with
  ends_more : (g : Going) (u : Underway n rs b g) (ss : List ℕ) (p : Passed) → g.best.looks + looks n rs g.bit (mover n g ∷ ss) < 2 ^ 64
      → Ends n rs b (go_on n rs g) ss p → Ends n rs b g (mover n g ∷ ss) p
  ends_more g u ss p h ends =
      let m = met_count n rs in
      let s : ℕ = mover n g in
      let a : ℕ = flip g.bit s in
      let rest : ℕ = kept n rs a ss in
      let e : (go_on n rs g).bit ≡ a = next_bit n rs ready b g u in
      let all : looks n rs g.bit (s ∷ ss) ≡ move_looks n rs g.bit s + looks n rs a ss = looks-more n rs g.bit s ss in
      let these = move-looks n rs ready b g u (omega arith) in
      record {
        bit =
            ends.bit
            ∙ ap₂ (λ (c d : ℕ). better m c (kept n rs d ss)) (next-best n rs ready b g u) e
            ∙ better-regroup m g.best.bit a rest
            ∙ ap (better m g.best.bit) (kept-better n rs a ss)
            ∙ ap (λ (c : ℕ). better m c rest) (sym u.best-bit)
            ∙ better-regroup m g.best.bit g.bit rest
            ∙ ap (better m g.best.bit) (sym (kept_more n rs g.bit s ss));
        level-met = ends.level-met;
        fits = ends.fits;
        looked-at = omega (arith, ends.looked-at, ap (λ (d : ℕ). looks n rs d ss) e);
      }

  all-moves : (k : ℕ) (g : Going) → Underway n rs b g → g.best.looks + looks n rs g.bit (moves_from n rs k g.bit g.free) < 2 ^ 64
      → Ends n rs b g (moves_from n rs k g.bit g.free) (go_moves k n rs g).best
  unfolding go_moves
  all-moves zero g u h = moves-none g u
  all-moves (suc k) g u h =
      let s : ℕ = mover n g in
      let next : Going = go_on n rs g in
      let rest : List ℕ = moves_from n rs k next.bit next.free in
      let e : next.bit ≡ flip g.bit s = next_bit n rs ready b g u in
      let f : next.free ≡ flip g.free s = next-free n rs ready b g u in
      let all : moves_from n rs (suc k) g.bit g.free ≡ s ∷ rest =
      moves_more n rs k g.bit g.free s (mover-choice n rs ready b g u) ∙ ap₂ (λ (c d : ℕ). s ∷ moves_from n rs k c d) (sym e) (sym f) in
      let q : g.best.looks + looks n rs g.bit (s ∷ rest) < 2 ^ 64 = rw all at h in
      let parts = looks-more n rs g.bit s rest in
      let here = move-looks n rs ready b g u (omega arith) in
      let later : next.best.looks + looks n rs next.bit rest < 2 ^ 64 = omega (arith, ap (λ (d : ℕ). looks n rs d rest) e) in
      rw all (ends_more g u rest (go_moves k n rs next).best q (all-moves k next (moved_on n rs ready b g u) later))

-- ---- the pass

looks-each-few : (n : ℕ) (rs qs : List Requirement) (b : ℕ) → AllGood n qs → looks_each n qs b (pass_moves n rs b) ≤ 4 * length qs
unfolding looks_each
looks-each-few n rs [] b good = omega arith
looks-each-few n rs (q ∷ qs) b good = omega (arith, four-of-a-pass n rs b q good.0.apart, looks-each-few n rs qs b good.1)

-- a pass looks at each requirement at most four times
pub pass-looks : (n : ℕ) (rs : List Requirement) (b : ℕ) → AllGood n rs → looks n rs b (pass_moves n rs b) ≤ 4 * length rs
pass-looks n rs b good = omega (arith, looks-each n rs b (pass_moves n rs b), looks-each-few n rs rs b good)

-- p is what 01's pass from the bit b gives
pub record OnePass (n : ℕ) (rs : List Requirement) (b : ℕ) (p : Passed) : Type 0 where
  pub bit : p.bit ≡ kept n rs b (pass_moves n rs b)
  pub fits : p.bit < 2 ^ n
  pub looks : p.looks ≡ looks n rs b (pass_moves n rs b)
  -- its level is what is met at the end, less what is met at the start
  pub level : p.level + met_count n rs b ≡ level + met_count n rs (kept n rs b (pass_moves n rs b))

module _ (n : ℕ) (rs : List Requirement) (ready : Ready n rs) (b : ℕ) (hb : b < 2 ^ n) where
  sets-out : Underway n rs b (set_out n rs b)
  unfolding filled
  sets-out = record {
    fits = hb;
    shows = shows-filled n rs ready b hb;
    now-level = refl;
    best-level = refl;
    best-fits = hb;
    best-bit = better-same (met_count n rs) b;
  }

  pub pass-is : OnePass n rs b (passed n rs b)
  unfolding passed pass_moves
  pass-is =
      let few : looks n rs b (pass_moves n rs b) ≤ 4 * length rs = pass-looks n rs b ready.good in
      let ends = all-moves n rs ready b n (set_out n rs b) sets-out (omega (arith, ready.few)) in
      let e = ends.bit ∙ kept-better n rs b (pass_moves n rs b) in
      record {
        bit = e;
        fits = ends.fits;
        looks = ends.looked-at ∙ omega arith;
        level = ends.level-met ∙ ap (λ (c : ℕ). level + met_count n rs c) e;
      }
