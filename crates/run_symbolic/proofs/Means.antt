-- What is told is what the listing means: the next state, and each output.
use mathlib.Core.Path.{◌≡◌, refl, ap, ◌∙◌}
use mathlib.Core.Bool.{Bool, true, false, ◌&&◌, ◌||◌, not, cond}
use mathlib.Core.List.{List, [], ◌∷◌}
use Prim.Native.Nat.{ℕ, zero, suc, ◌+◌, ◌%◌, ◌<◌, min, max}
use native.Mathlib.Omega.{arith}
use lib.Dec.{eqb}
use lib.Bits.{bit_and, bit_or}
use borrow.Author.Tests.{eqb-true}
use Rattle.sets.specs.Sets.{has, states_from}
use Rattle.sets.proofs.Members.{has-lt, has-and, has-or, has-xor, has-none}
use Rattle.rules.specs.Text.{digit, dash, nought}
use Rattle.rules.specs.Listing.{all_rows, some}
use Rattle.rules.specs.Cover.{says_one, says_dash, fires}
use Rattle.rules.specs.Meaning.{on, free, off, output_means, named_by, next_means}
use Rattle.rules.specs.Replay.{output_byte, outputs_text}
use Rattle.rules.proofs.LinesAside.{map-like}
use Rattle.rules.specs.declared.Head.{Head}
use Rattle.rules.specs.declared.Row.{Row}
use Rattle.rules.specs.declared.Listing.{Listing}
use Rattle.write_faces.specs.Faces.{pattern_at, pattern_text}
use Rattle.run_symbolic.specs.Told.{untold, told_of, told_with, told_by, outputs_told}
use Rattle.run_symbolic.specs.declared.Told.{Told}

module _ (h : Head) (x s : ℕ) where
  -- ---- the next state

  named : (a : Told) (rs : List Row) → (told_by h x s a rs).next ≡ cond (eqb a.next 0) (named_by h x s rs) a.next
  unfolding told_by told_with named_by
  named a [] = none (eqb a.next 0) refl
    where
      none : (b : Bool) → eqb a.next 0 ≡ b → a.next ≡ cond b 0 a.next
      none true e = eqb-true a.next 0 e
      none false e = refl
  named a (r ∷ rs) = go (fires h r x s) (λ c. named c rs)
    where
      go : (b : Bool) → ((c : Told) → (told_by h x s c rs).next ≡ cond (eqb c.next 0) (named_by h x s rs) c.next) → (told_by h x s (cond b (told_of a r) a) rs).next ≡ cond (eqb a.next 0) (cond (b && not (eqb r.next 0)) r.next (named_by h x s rs)) a.next
      go false later = later a
      go true later = later (told_of a r) ∙ first (eqb a.next 0) refl
        where
          first : (c : Bool) → eqb a.next 0 ≡ c
              → cond (eqb (cond c r.next a.next) 0) (named_by h x s rs) (cond c r.next a.next) ≡ cond c (cond (not (eqb r.next 0)) r.next (named_by h x s rs)) a.next
          first true q = turn (eqb r.next 0)
            where
              turn : (d : Bool) → cond d (named_by h x s rs) r.next ≡ cond (not d) r.next (named_by h x s rs)
              turn true = refl
              turn false = refl
          first false q = ap (λ (b : Bool). cond b (named_by h x s rs) a.next) q

  -- ---- an output, by a mask of what is told and of what each row says

  module _ (get : Told → ℕ) (of : Row → ℕ) (step : (a : Told) (r : Row) → get (told_of a r) ≡ bit_or (get a) (of r)) (j : ℕ) where
    abbrev says : Row → Bool
    says r = eqb (has (of r) j) 1

    pub told-has : (a : Told) (rs : List Row) → has (get (told_by h x s a rs)) j ≡ max (has (get a) j) (digit (some (λ r. fires h r x s && says r) rs))
    unfolding told_by told_with some
    told-has a [] = omega (arith, has-lt (get a) j)
    told-has a (r ∷ rs) = go (fires h r x s) (λ c. told-has c rs)
      where
        rest : Bool
        rest = some (λ r. fires h r x s && says r) rs

        said : (d : ℕ) → d < 2 → d ≡ digit (eqb d 1)
        said zero l = refl
        said (suc zero) l = refl
        said (suc (suc d)) l = absurd (omega arith)

        either : (d : ℕ) (t u : Bool) → max (max d (digit t)) (digit u) ≡ max d (digit (t || u))
        either d true true = omega arith
        either d true false = omega arith
        either d false u = omega arith

        go : (b : Bool) → ((c : Told) → has (get (told_by h x s c rs)) j ≡ max (has (get c) j) (digit rest)) → has (get (told_by h x s (cond b (told_of a r) a) rs)) j ≡ max (has (get a) j) (digit ((b && says r) || rest))
        go false later = later a
        go true later =
            later (told_of a r)
            ∙ ap (λ (m : ℕ). max (has m j) (digit rest)) (step a r)
            ∙ ap (λ (d : ℕ). max d (digit rest)) (has-or (get a) (of r) j ∙ ap (max (has (get a) j)) (said (has (of r) j) (has-lt (of r) j)))
            ∙ either (has (get a) j) (says r) rest

-- ---- the listing

pub told-next : (t : Listing) (x s : ℕ) → (told_by t.head x s untold (all_rows t)).next ≡ next_means t x s
unfolding next_means
told-next t x s = named t.head x s untold (all_rows t)

one_way : (o d : Bool) → cond (eqb ((digit d + min (digit d) (digit o)) % 2) 1) dash (nought + digit o) ≡ output_byte (cond o on (cond d free off))
unfolding output_byte
one_way true true = refl
one_way true false = refl
one_way false true = refl
one_way false false = refl

pub told-output : (t : Listing) (x s j : ℕ) → pattern_at (outputs_told (told_by t.head x s untold (all_rows t))) j ≡ output_byte (output_means t x s j)
unfolding pattern_at outputs_told output_means
told-output t x s j =
    rw (has-xor a.dashes (bit_and a.dashes a.ones) j, has-and a.dashes a.ones j, ones, dashes) (one_way o d)
  where
    a : Told
    a = told_by t.head x s untold (all_rows t)

    o : Bool
    o = some (λ r. fires t.head r x s && says_one j r) (all_rows t)

    d : Bool
    d = some (λ r. fires t.head r x s && says_dash j r) (all_rows t)

    ones : has a.ones j ≡ digit o
    ones = told-has t.head x s (λ a. a.ones) (λ r. r.outputs.ones) (λ a r. refl) j untold (all_rows t) ∙ ap (λ (z : ℕ). max z (digit o)) (has-none j) ∙ omega arith

    dashes : has a.dashes j ≡ digit d
    dashes = told-has t.head x s (λ a. a.dashes) (λ r. r.outputs.dashes) (λ a r. refl) j untold (all_rows t) ∙ ap (λ (z : ℕ). max z (digit d)) (has-none j) ∙ omega arith

-- all outputs
pub told-outputs : (t : Listing) (x s : ℕ) → pattern_text (outputs_told (told_by t.head x s untold (all_rows t))) t.head.outputs ≡ outputs_text t x s
unfolding pattern_text outputs_text
told-outputs t x s = map-like _ _ (states_from 0 t.head.outputs) (told-output t x s)
