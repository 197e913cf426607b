-- The families of groups, as the loop over the rows meets them: a group that asks nothing or has stood, a new one, and the rows behind it.
use mathlib.Core.Path.{◌≡◌, refl, sym, ap}
use mathlib.Core.Bool.{Bool, true, false, ◌&&◌, not, cond}
use mathlib.Core.List.{List, [], ◌∷◌, ◌++◌}
use Prim.Native.Nat.{ℕ, ◌+◌, ◌*◌, ◌≤◌, ◌<◌, min}
use native.Mathlib.Omega.{arith}
use lib.Dec.{leb, ltb}
use lib.ListN.{length, get_or, drop, length-append}
use Rattle.sets.specs.Sets.{size, everyone}
use Rattle.rules.specs.declared.Row.{Row}
use Rattle.std.proofs.lemmas.List.{drop_more, drop_all}
use Rattle.families.specs.Families.{without}
use Rattle.code_drawing.specs.Drawing.{family, stands_in, with_group, with_groups}

-- it has 2 to n - 1 states
abbrev pub asking : ℕ → ℕ → Bool
asking n g = leb 2 (size g) && ltb (size g) n

module _ (n : ℕ) (fs : List ℕ) (g : ℕ) where
  pub with-as : (x y : Bool) → asking n g ≡ x → stands_in g fs ≡ y → with_group n fs g ≡ cond (x && not y) (fs ++ family g 0 (without (everyone (min n 64)) g)) fs
  unfolding with_group
  with-as x y e f = rw (e, f)

  pub with_none : asking n g ≡ false → with_group n fs g ≡ fs
  with_none e = with-as false (stands_in g fs) e refl

  pub with-stood : asking n g ≡ true → stands_in g fs ≡ true → with_group n fs g ≡ fs
  with-stood e f = with-as true true e f

  pub with-new : asking n g ≡ true → stands_in g fs ≡ false → with_group n fs g ≡ fs ++ family g 0 (without (everyone (min n 64)) g)
  with-new e f = with-as true false e f

  -- it takes three words, or none
  pub with-length : (length fs ≤ length (with_group n fs g)) × (length (with_group n fs g) ≤ length fs + 3)
  with-length = rw (with-as (asking n g) (stands_in g fs) refl refl) (go (asking n g && not (stands_in g fs)))
    where
      go : (b : Bool) → let l = cond b (fs ++ family g 0 (without (everyone (min n 64)) g)) fs in (length fs ≤ length l) × (length l ≤ length fs + 3)
      go true = let e = length-append fs (family g 0 (without (everyone (min n 64)) g)) in (omega arith, omega arith)
      go false = (omega arith, omega arith)

module _ (rows : List Row) (n r : ℕ) (fs : List ℕ) where
  pub rows_more : (d : Row) → r < length rows → with_groups n (with_group n fs (get_or rows r d).group) (drop (r + 1) rows) ≡ with_groups n fs (drop r rows)
  unfolding with_groups
  rows_more d h = ap (with_groups n fs) (sym (drop_more rows r d h))

  pub rows_none : length rows ≤ r → fs ≡ with_groups n fs (drop r rows)
  unfolding with_groups
  rows_none h = ap (with_groups n fs) (sym (drop_all r rows h))

pub rows-length : (n : ℕ) (rs : List Row) (fs : List ℕ) → (length fs ≤ length (with_groups n fs rs)) × (length (with_groups n fs rs) ≤ length fs + 3 * length rs)
unfolding with_groups
rows-length n [] fs = (omega arith, omega arith)
rows-length n (r ∷ rs) fs =
    let l = rows-length n rs (with_group n fs r.group) in
    let w = with-length n fs r.group in
    (omega (arith, l.0, w.0), omega (arith, l.1, w.1))
