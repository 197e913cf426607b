-- A run of bits on its way: what is live, and that the rest of the rule from here gives the whole code.
use mathlib.Core.Path.{◌≡◌, refl, sym, ap, ap₂, ◌∙◌, subst}
use mathlib.Core.List.{List, [], ◌∷◌, ◌++◌}
use Prim.Native.Nat.{ℕ, suc, ◌+◌, ◌-◌, ◌*◌, ◌%◌, ◌^◌, ◌≤◌, ◌<◌}
use native.Mathlib.Nat.{mul-le-mul, mod-eq_of_lt}
use native.Mathlib.Numerals.{add-one}
use native.Mathlib.Omega.{arith}
use lib.ListN.{length, take, drop, set, length-set, length-append, take-append-drop}
use lib.Seq.{drop-drop, take-append-le, take-suc-set, drop-set-lt, take-length, length-take-le}
use Rattle.rules.specs.Limits.{most_bits, most_asked}
use Rattle.rules.specs.OneBit.{Bit, new_bit}
use Rattle.rules.specs.Code.{Code, build, unmet_by}
use Rattle.rules.specs.declared.Requirement.{Requirement}
use Rattle.rules.proofs.Unmet.{unmet_in, unmet-all, unmet-length}
use Rattle.rules.proofs.Good.{good_left}
use Rattle.rules.proofs.Gains.{left-count}
use Rattle.move_table.proofs.Ready.{Ready}
use Rattle.bit_live.specs.Live.{live_in}
use Rattle.bit_live.specs.Left.{left_families, sifted_families}
use Rattle.bit_live.proofs.Next.{Within, unmet-next, within-sifted}
use Rattle.bit_next.specs.NextBit.{AddedBit, next_by}
use Rattle.bit_next.proofs.NextBit.{next_bit, new-bit-few, added-live}
use Rattle.code_building.specs.Build.{Begun, DoneAs, Done}
use Rattle.code_building.proofs.Building.{code_as, joined_to, joined-nothing, build-last, build-done, build-more}

empty : {A : Type 0} (l : List A) → length l ≡ 0 → l ≡ []
empty [] e = refl
empty (x ∷ xs) e = absurd (omega arith)

sub-zero : (n : ℕ) → n - 0 ≡ n
sub-zero n = omega arith

-- as many as are counted modulo 2 ^ 64
pub few-counted : (k m : ℕ) → k ≤ most_asked → m ≡ k % 2 ^ 64 → m ≡ k
few-counted k m h e = e ∙ mod-eq_of_lt (omega arith)

-- a front part made anew, of the length that it had
pub same-words : (k : ℕ) (l front : List ℕ) → length front ≡ length (take k l) → length (front ++ drop k l) ≡ length l
same-words k l front e = omega (arith, e, length-append front (drop k l), length-append (take k l) (drop k l), ap length (take-append-drop k l))

-- the bits so far, and what they leave live of the requirements rs
pub record Running (n most : ℕ) (rs : List Requirement) (bits₀ fs bits : List ℕ) (width left live passes looks : ℕ) : Type 0 where
  pub inside : width ≤ most
  pub long : length bits ≡ most_bits
  pub behind : drop width bits ≡ drop width bits₀
  pub words : left ≤ length fs
  pub within : Within n (take left fs)
  pub lives : live_in n (take width bits) (take left fs) ≡ unmet_in n (take width bits) rs
  pub few : length (live_in n (take width bits) (take left fs)) ≤ most_asked
  pub count : live ≡ length (live_in n (take width bits) (take left fs))
  pub few-passes : passes ≤ width * 2 ^ 21
  pub few-looks : looks ≤ width * 2 ^ 44
  -- the rest of the rule from here gives the whole code
  pub rest : joined_to (take width bits) passes looks (build (most - width) n (live_in n (take width bits) (take left fs))) ≡ build most n rs

module _ (n most : ℕ) (fs₀ bits₀ : List ℕ) (begun : Begun n most fs₀ bits₀) where
  abbrev asked : List Requirement
  asked = live_in n [] fs₀

  pub running-start : (live : ℕ) → live ≡ length (live_in n [] (take (length fs₀) fs₀)) % 2 ^ 64 → Running n most asked bits₀ fs₀ bits₀ 0 (length fs₀) live 0 0
  running-start live e =
      let all : take (length fs₀) fs₀ ≡ fs₀ = take-length fs₀ in
      let few : length (live_in n [] (take (length fs₀) fs₀)) ≤ most_asked = subst (λ (l : List ℕ). length (live_in n [] l) ≤ most_asked) (sym all) begun.drawn.few in
      record {
        inside = omega arith;
        long = begun.room;
        behind = refl;
        words = omega arith;
        within = subst (Within n) (sym all) begun.drawn.within;
        lives = ap (live_in n []) all ∙ sym (unmet-all n asked);
        few = few;
        count = few-counted _ live few e;
        few-passes = omega arith;
        few-looks = omega arith;
        rest = ap₂ (λ (k : ℕ) (l : List ℕ). joined_to [] 0 0 (build k n (live_in n [] l))) (sub-zero most) all ∙ joined-nothing (build most n asked);
      }

  module _ (fs bits : List ℕ) (width left live passes looks : ℕ) (run : Running n most asked bits₀ fs bits width left live passes looks) where
    -- the requirements that are live
    rl : List Requirement
    rl = live_in n (take width bits) (take left fs)

    live-ready : Ready n rl
    unfolding rl
    live-ready =
        let r = begun.drawn.ready in
        record { some = r.some; fits = r.fits; few = omega (arith, run.few); good = rw run.lives (good_left n (take width bits) asked r.good) }

    module _ (b left' p l : ℕ) (fs' : List ℕ) (added : AddedBit n (take width bits) (take left fs) b left' p l fs') where
      new : next_by n rl ≡ new_bit n rl
      new = next_bit n rl live-ready

      is : b ≡ (new_bit n rl).bit
      unfolding rl
      is = added.is ∙ ap (λ (x : Bit). x.bit) new

      took : p ≡ (new_bit n rl).passes
      unfolding rl
      took = added.took ∙ ap (λ (x : Bit). x.passes) new

      looked : l ≡ (new_bit n rl).looks
      unfolding rl
      looked = added.looked ∙ ap (λ (x : Bit). x.looks) new

      few-more : (p ≤ 2 ^ 21) × (l ≤ 2 ^ 44)
      few-more = let f = new-bit-few n rl live-ready in (omega (arith, took, f.0), omega (arith, looked, f.1))

      pub sum_fits : (passes + p < 2 ^ 64) × (looks + l < 2 ^ 64)
      sum_fits =
          let w : width ≤ most_bits = omega (arith, run.inside, begun.width) in
          let x : width * 2 ^ 21 ≤ most_bits * 2 ^ 21 = mul-le-mul {n₂ = most_bits} {m₂ = 2 ^ 21} w (omega arith) in
          let y : width * 2 ^ 44 ≤ most_bits * 2 ^ 44 = mul-le-mul {n₂ = most_bits} {m₂ = 2 ^ 44} w (omega arith) in
          (omega (arith, run.few-passes, few-more.0), omega (arith, run.few-looks, few-more.1))

      -- the bits, one bit on
      longer : width < most → take (width + 1) (set bits width b) ≡ take width bits ++ (b ∷ [])
      longer h = ap (λ (k : ℕ). take k (set bits width b)) (add-one width) ∙ take-suc-set bits width b (omega (arith, run.long, begun.width))

      -- the live families stand in front, with the others behind them
      words_left : left' ≤ length fs'
      unfolding sifted_families
      words_left =
          let a : List ℕ = left_families b (take left fs) in
          omega (arith, added.leaves, ap length added.sifts, length-append a (drop (length a) (take left fs)))

      pub words-behind : left' ≤ length (fs' ++ drop left fs)
      words-behind = omega (arith, words_left, length-append fs' (drop left fs))

      front : take left' (fs' ++ drop left fs) ≡ take left' fs'
      front = take-append-le left' fs' (drop left fs) words_left

      within_on : Within n (take left' (fs' ++ drop left fs))
      within_on =
          subst (Within n) (ap₂ (λ (k : ℕ) (x : List ℕ). take k x) (sym added.leaves) (sym added.sifts) ∙ sym front)
          (within-sifted n b (take left fs) run.within)

      lives-on : live_in n (take width bits ++ (b ∷ [])) (take left' (fs' ++ drop left fs)) ≡ unmet_by n b rl
      unfolding rl
      lives-on =
          ap (live_in n (take width bits ++ (b ∷ []))) front
          ∙ added-live n (take width bits) (take left fs) b left' p l fs' begun.drawn.ready.fits run.within added

      rest-on : width < most → (live ≡ 0 → ⊥)
          → joined_to (take width bits ++ (b ∷ [])) (passes + p) (looks + l) (build (most - (width + 1)) n (unmet_by n b rl)) ≡ build most n asked
      unfolding rl
      rest-on h some =
          let k : ℕ = most - (width + 1) in
          let more = build-more (take width bits) passes looks k n rl (omega (arith, run.count)) in
          let here : joined_to (take width bits) passes looks (build (suc k) n rl) ≡ build most n asked =
          (let e : suc k ≡ most - width = omega arith in ap (λ (j : ℕ). joined_to (take width bits) passes looks (build j n rl)) e ∙ run.rest) in
          ap (λ (x : ℕ). joined_to (take width bits ++ (x ∷ [])) (passes + p) (looks + l) (build k n (unmet_by n x rl))) is
          ∙ ap₂ (λ (x y : ℕ). joined_to (take width bits ++ ((new_bit n rl).bit ∷ [])) (passes + x) (looks + y) (build k n (unmet_by n (new_bit n rl).bit rl))) took looked
          ∙ sym more
          ∙ here

      -- one bit on
      pub running_more : (live' : ℕ) → length fs' ≡ length (take left fs) → width < most → (live ≡ 0 → ⊥)
          → live' ≡ length (live_in n (take (width + 1) (set bits width b)) (take left' (fs' ++ drop left fs))) % 2 ^ 64
          → Running n most asked bits₀ (fs' ++ drop left fs) (set bits width b) (width + 1) left' live' (passes + p) (looks + l)
      unfolding rl
      running_more live' same h some e =
          let alive : live_in n (take (width + 1) (set bits width b)) (take left' (fs' ++ drop left fs)) ≡ unmet_by n b rl =
          ap (λ (x : List ℕ). live_in n x (take left' (fs' ++ drop left fs))) (longer h) ∙ lives-on in
          let few : length (live_in n (take (width + 1) (set bits width b)) (take left' (fs' ++ drop left fs))) ≤ most_asked =
          omega (arith, ap length alive, left-count n b rl, run.few) in
          record {
            inside = omega arith;
            long = length-set bits width b ∙ run.long;
            behind =
                drop-set-lt (width + 1) bits width b (omega arith)
                ∙ sym (drop-drop 1 width bits)
                ∙ ap (drop 1) run.behind
                ∙ drop-drop 1 width bits₀;
            words = words-behind;
            within = within_on;
            lives = alive ∙ ap (unmet_by n b) run.lives ∙ sym (unmet-next n b (take width bits) asked) ∙ ap (λ (x : List ℕ). unmet_in n x asked) (sym (longer h));
            few = few;
            count = few-counted _ live' few e;
            few-passes = omega (arith, run.few-passes, few-more.0);
            few-looks = omega (arith, run.few-looks, few-more.1);
            rest =
                ap₂ (λ (x : List ℕ) (rs : List Requirement). joined_to x (passes + p) (looks + l) (build (most - (width + 1)) n rs)) (longer h) alive
                ∙ rest-on h some;
          }

    -- the run ends: no bit is left, or nothing is live
    running-done : joined_to (take width bits) passes looks (build (most - width) n rl) ≡ code_as (take width bits) passes looks → Done n most asked bits₀ width live passes looks bits
    unfolding rl
    running-done d =
        let w : length (take width bits) ≡ width = length-take-le width bits (omega (arith, run.long, run.inside, begun.width)) in
        subst (λ (c : Code). DoneAs n c asked bits₀ width live passes looks bits) (sym d ∙ run.rest) (record {
          wide = sym w;
          left = run.count ∙ ap length run.lives ∙ sym (unmet-length 0 n (take width bits) asked);
          took = refl;
          looked = refl;
          shown = sym (take-append-drop width bits) ∙ ap (λ (x : List ℕ). take width bits ++ x) (run.behind ∙ ap (λ (k : ℕ). drop k bits₀) (sym w));
        })

    pub running-end : most ≤ width → Done n most asked bits₀ width live passes looks bits
    running-end h =
        let e : most - width ≡ 0 = omega arith in
        running-done (ap (λ (k : ℕ). joined_to (take width bits) passes looks (build k n rl)) e ∙ build-last (take width bits) passes looks n rl)

    pub running_none : live ≡ 0 → Done n most asked bits₀ width live passes looks bits
    unfolding rl
    running_none h =
        let e : rl ≡ [] = empty rl (sym run.count ∙ h) in
        running-done (ap (λ (x : List Requirement). joined_to (take width bits) passes looks (build (most - width) n x)) e ∙ build-done (take width bits) passes looks (most - width) n)
