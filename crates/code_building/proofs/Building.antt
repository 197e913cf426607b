-- The code, as a loop builds it: the bits, passes and looks so far stand in front of what is still to be built.
use mathlib.Core.Path.{◌≡◌, refl, ap, ◌∙◌}
use mathlib.Core.List.{List, [], ◌∷◌, ◌++◌, append-nil, append_assoc}
use Prim.Native.Nat.{ℕ, zero, suc, ◌+◌, ◌<◌}
use native.Mathlib.Nat.{add-zero, add_assoc, zero-add}
use native.Mathlib.Omega.{arith}
use lib.ListN.{length}
use Rattle.rules.specs.OneBit.{Bit, new_bit}
use Rattle.rules.specs.Code.{Code, no_code, joined, unmet_by, build}
use Rattle.rules.specs.declared.Requirement.{Requirement}

abbrev pub code_as : List ℕ → ℕ → ℕ → Code
code_as bits passes looks = record { bits = bits; passes = passes; looks = looks }

-- a code with these bits in front, and with these passes and looks added
abbrev pub joined_to : List ℕ → ℕ → ℕ → Code → Code
joined_to bits passes looks c = code_as (bits ++ c.bits) (passes + c.passes) (looks + c.looks)

pub joined-nothing : (c : Code) → joined_to [] 0 0 c ≡ c
joined-nothing c = simp zero-add

build-next : (k n : ℕ) (rs : List Requirement) → 0 < length rs → build (suc k) n rs ≡ joined (new_bit n rs) (build k n (unmet_by n (new_bit n rs).bit rs))
unfolding build
build-next k n [] h = absurd (omega arith)
build-next k n (r ∷ rs) h = refl

module _ (bits : List ℕ) (passes looks : ℕ) where
  -- nothing is added
  joined-none : joined_to bits passes looks no_code ≡ code_as bits passes looks
  joined-none = simp (append-nil, add-zero)

  -- with no bit left, or none live, what is built so far is all
  pub build-last : (n : ℕ) (rs : List Requirement) → joined_to bits passes looks (build zero n rs) ≡ code_as bits passes looks
  unfolding build
  build-last n rs = joined-none

  pub build-done : (k n : ℕ) → joined_to bits passes looks (build k n []) ≡ code_as bits passes looks
  unfolding build
  build-done zero n = joined-none
  build-done (suc k) n = joined-none

  joined-more : (b : Bit) (c : Code) → joined_to bits passes looks (joined b c) ≡ joined_to (bits ++ (b.bit ∷ [])) (passes + b.passes) (looks + b.looks) c
  joined-more b c = simp (append_assoc, add_assoc)

  -- a bit is added, and the rest is built from what it leaves
  pub build-more : (k n : ℕ) (rs : List Requirement) → 0 < length rs
      → joined_to bits passes looks (build (suc k) n rs)
      ≡ joined_to (bits ++ ((new_bit n rs).bit ∷ [])) (passes + (new_bit n rs).passes) (looks + (new_bit n rs).looks) (build k n (unmet_by n (new_bit n rs).bit rs))
  build-more k n rs some = ap (joined_to bits passes looks) (build-next k n rs some) ∙ joined-more (new_bit n rs) (build k n (unmet_by n (new_bit n rs).bit rs))
