-- Meeting, tried one way round and then the other; and the bits of a code tried one after the other.
use Rattle.std.specs.Prelude.{Some, None}
use mathlib.Core.Path.{◌≡◌, refl, sym, ap, ◌∙◌}
use mathlib.Core.Bool.{Bool, true, false, ◌&&◌, ◌||◌}
use mathlib.Core.List.{List}
use Prim.Native.Nat.{ℕ, suc, ◌+◌, ◌≤◌, ◌<◌}
use native.Mathlib.Numerals.{add-one}
use lib.ListN.{length, get_or, drop, drop_of_length-le}
use lib.Seq.{drop-cons}
use Rattle.rules.specs.Requirements.{asks, wholly, met, judged_from}
use Rattle.rules.specs.declared.Requirement.{Requirement}
use Rattle.rules.proofs.Judged.{judged-here, judged-later}

and-turned : (x y : Bool) → (x && y) ≡ (y && x)
and-turned true true = refl
and-turned true false = refl
and-turned false true = refl
and-turned false false = refl

module _ (n b first second : ℕ) where
  -- value 0 on the whole block z and 1 on the whole block o
  abbrev pub way : ℕ → ℕ → Bool
  way z o = wholly n b 0 z && wholly n b 1 o

  met-ways : met n (asks first second) b ≡ (way first second || way second first)
  unfolding met
  met-ways = ap (λ (x : Bool). way first second || x) (and-turned (wholly n b 1 first) (wholly n b 0 second))

  pub met-one-way : way first second ≡ true → met n (asks first second) b ≡ true
  met-one-way e = met-ways ∙ ap (λ (x : Bool). x || way second first) e

  pub met-other-way : way first second ≡ false → met n (asks first second) b ≡ way second first
  met-other-way e = met-ways ∙ ap (λ (x : Bool). x || way second first) e

module _ (n : ℕ) (bits : List ℕ) (r : Requirement) (k : ℕ) where
  pub bit-meets : k < length bits → met n r (get_or bits k 0) ≡ true → judged_from k n (drop k bits) r ≡ Some (record { 0 = k })
  bit-meets h e = ap (λ (bs : List ℕ). judged_from k n bs r) (drop-cons bits k 0 h) ∙ judged-here k n (get_or bits k 0) (drop (suc k) bits) r e

  pub bit-fails : k < length bits → met n r (get_or bits k 0) ≡ false → judged_from k n (drop k bits) r ≡ judged_from (k + 1) n (drop (k + 1) bits) r
  bit-fails h e =
      ap (λ (bs : List ℕ). judged_from k n bs r) (drop-cons bits k 0 h)
      ∙ judged-later k n (get_or bits k 0) (drop (suc k) bits) r e
      ∙ ap (λ (j : ℕ). judged_from j n (drop j bits) r) (sym (add-one k))

  pub no-bit : length bits ≤ k → judged_from k n (drop k bits) r ≡ None
  unfolding judged_from
  no-bit h = ap (λ (bs : List ℕ). judged_from k n bs r) (drop_of_length-le bits {i = k} h)
