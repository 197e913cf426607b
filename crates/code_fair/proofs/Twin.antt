-- A fair listing has a sound twin: one with as many states, the same width and the same requirements.
-- So what holds of the requirements of every sound listing holds of those of every fair one.
use mathlib.Core.Path.{◌≡◌, refl, sym, ap, ap₂, ◌∙◌}
use mathlib.Core.Bool.{Bool, true, false, ◌&&◌, ◌||◌, not, cond, false≢true}
use mathlib.Core.List.{List, [], ◌∷◌, ◌++◌, map}
use Prim.Native.Nat.{ℕ, zero, suc, ◌^◌, ◌≤◌, ◌<◌}
use native.Mathlib.Omega.{arith}
use lib.Dec.{leb, ltb, eqb}
use lib.ListN.{length, get_or, replicate, length-map, length-take, length-replicate}
use lib.Pow.{pow_pos, pow-lt}
use lib.Seq.{take_at}
use borrow.Author.Tests.{leb-true, ne_eqb}
use Rattle.sets.specs.Places.{padded}
use Rattle.sets.proofs.Places.{map_at, padded-length, padded-inside}
use Rattle.sets.specs.Sets.{size, states_from}
use Rattle.rules.specs.Limits.{most_states, most_rows, most_dichotomies}
use Rattle.rules.specs.Listing.{no_pattern, no_row, no_requirement, rows_of, dichotomies_of}
use Rattle.rules.specs.Requirements.{pairs, stood, group_asks, groups, pairs_and_groups, requirements}
use Rattle.rules.specs.declared.Row.{Row}
use Rattle.rules.specs.declared.Requirement.{Requirement}
use Rattle.rules.specs.declared.Listing.{Listing}
use Rattle.rules.proofs.Asked.{new_group, groups-step}
use Rattle.rules.proofs.SoundLines.{SoundPattern, SoundRow}
use Rattle.rules.proofs.Sound.{Sound, none_said}
use Rattle.code_fair.proofs.Limits.{Fair}

-- ---- the twin

-- a group that asks as much: that of one state where there is none
unfoldable twin_group : ℕ → ℕ
twin_group zero = 1
twin_group (suc g) = suc g

unfoldable twin_row : Row → Row
unfolding twin_group
twin_row r = record { input = record { ones = 0; dashes = 0 }; group = twin_group r.group; next = 0; outputs = record { ones = 0; dashes = 0 }; line = 0 }

unfoldable pub twin : Listing → Listing
unfolding twin_row
twin t = record {
  head = record { states = t.head.states; inputs = 1; outputs = 1; width = t.head.width; keeps = false; moore = false };
  rows = length (rows_of t);
  table = padded most_rows no_row (map twin_row (rows_of t));
  dichotomies = length (dichotomies_of t);
  asked = padded most_dichotomies no_requirement (dichotomies_of t);
  said = replicate most_states no_pattern;
  given = 0;
}

-- ---- its requirements are the same

stood-same : (g : ℕ) (hs : List ℕ) → 2 ≤ g → stood g (map twin_group hs) ≡ stood g hs
unfolding stood twin_group
stood-same g [] h = refl
stood-same g (zero ∷ hs) h = ap₂ ◌||◌ (ne_eqb g 1 (λ e. omega arith) ∙ sym (ne_eqb g 0 (λ e. omega arith))) (stood-same g hs h)
stood-same g (suc k ∷ hs) h = ap (λ (b : Bool). eqb g (suc k) || b) (stood-same g hs h)

-- a group of two states is neither 0 nor 1
two-states : (g : ℕ) → 2 ≤ size g → 2 ≤ g
unfolding size
two-states zero h = absurd (omega arith)
two-states (suc zero) h = absurd (omega arith)
two-states (suc (suc g)) h = omega arith

new-same : (n g : ℕ) (hs : List ℕ) → new_group n (map twin_group hs) g ≡ new_group n hs g
new-same n g hs = go (leb 2 (size g)) refl
  where
    go : (b : Bool) → leb 2 (size g) ≡ b → (b && ltb (size g) n && not (stood g (map twin_group hs))) ≡ (b && ltb (size g) n && not (stood g hs))
    go true e = ap (λ (s : Bool). true && ltb (size g) n && not s) (stood-same g hs (two-states g (leb-true 2 (size g) e)))
    go false e = refl

row_same : (n g : ℕ) (hs : List ℕ)
    → cond (new_group n (map twin_group hs) (twin_group g)) (group_asks n (twin_group g)) [] ≡ cond (new_group n hs g) (group_asks n g) []
unfolding twin_group size
row_same n zero hs = refl
row_same n (suc g) hs = ap (λ (b : Bool). cond b (group_asks n (suc g)) []) (new-same n (suc g) hs)

groups-same : (n : ℕ) (hs : List ℕ) (rows : List Row) → groups n (map twin_group hs) (map twin_row rows) ≡ groups n hs rows
unfolding groups twin_row
groups-same n hs [] = refl
groups-same n hs (r ∷ rows) =
    groups-step n (map twin_group hs) (twin_row r) (map twin_row rows)
    ∙ ap₂ (λ (xs ys : List Requirement). xs ++ ys) (row_same n r.group hs) (groups-same n (r.group ∷ hs) rows)
    ∙ sym (groups-step n hs r rows)

rows_same : (t : Listing) → rows_of (twin t) ≡ map twin_row (rows_of t)
unfolding twin
rows_same t = take_at (map twin_row (rows_of t)) _ (length (rows_of t)) (length-map (rows_of t) twin_row)

dichotomies-same : (t : Listing) → dichotomies_of (twin t) ≡ dichotomies_of t
unfolding twin
dichotomies-same t = take_at (dichotomies_of t) _ (length (dichotomies_of t)) refl

pub same-requirements : (t : Listing) → requirements (twin t) ≡ requirements t
unfolding requirements pairs_and_groups twin
same-requirements t =
    let n : ℕ = t.head.states in
    ap₂ (λ (xs ys : List Requirement). pairs (states_from 0 n) ++ xs ++ ys)
    (ap (groups n []) (rows_same t) ∙ groups-same n [] (rows_of t))
    (dichotomies-same t)

-- ---- it is sound

twin-group-lt : (n g : ℕ) → 1 ≤ n → g < 2 ^ n → twin_group g < 2 ^ n
unfolding twin_group
twin-group-lt n zero h p = pow-lt h
twin-group-lt n (suc g) h p = p

twin-some : (g : ℕ) → twin_group g ≡ 0 → ⊥
unfolding twin_group
twin-some zero e = omega arith
twin-some (suc g) e = omega arith

blank-pattern : SoundPattern 1 (record { ones = 0; dashes = 0 })
blank-pattern = record { ones = omega arith; dashes = omega arith; apart = refl }

module _ (t : Listing) (f : Fair t) where
  twin-row : (r : Row) → r.group < 2 ^ t.head.states → SoundRow (twin t).head (twin_row r)
  unfolding twin twin_row size
  twin-row r p = record {
    input = blank-pattern;
    group = twin-group-lt t.head.states r.group f.limits.some-states p;
    some = twin-some r.group;
    next = pow_pos t.head.states;
    one-next = omega arith;
    outputs = blank-pattern;
  }

  pub twin-sound : Sound (twin t)
  unfolding twin
  twin-sound =
      let w = f.limits in
      let rows = rows_of t in
      let ds = dichotomies_of t in
      let few-rows : length rows ≤ most_rows = omega (arith, w.few-rows, length-take t.rows t.table) in
      let few-ds : length ds ≤ most_dichotomies = omega (arith, w.few-dichotomies, length-take t.dichotomies t.asked) in
      let long : length (map twin_row rows) ≡ length rows = length-map rows twin_row in
      record {
        head = record {
          some-states = w.some-states;
          few-states = w.few-states;
          some-inputs = omega arith;
          few-inputs = omega arith;
          some-outputs = omega arith;
          few-outputs = omega arith;
          few_bits = w.few_bits;
        };
        few-rows = few-rows;
        table = padded-length most_rows no_row (map twin_row rows) (omega arith);
        row = λ k h. rw (padded-inside most_rows no_row (map twin_row rows) no_row k (omega arith), map_at twin_row rows k no_row no_row h)
            (twin-row (get_or rows k no_row) (f.group k h));
        plain = λ m. absurd (false≢true m);
        few-dichotomies = few-ds;
        asked = padded-length most_dichotomies no_requirement ds few-ds;
        dichotomy = λ k h. rw (padded-inside most_dichotomies no_requirement ds no_requirement k h) (f.dichotomy k h);
        said = length-replicate most_states no_pattern;
        state = λ s. rw (none_said most_states s) blank-pattern;
      }
