-- An input vector is taken exactly when one mask is empty.
use mathlib.Core.Path.{◌≡◌, refl, sym, ◌∙◌}
use mathlib.Core.Bool.{Bool, true, false, or-true}
use Prim.Native.Nat.{ℕ, ◌-◌, ◌^◌, ◌≤◌, ◌<◌, min}
use native.Mathlib.Omega.{arith}
use lib.Dec.{eqb, ltb}
use lib.Bits.{bit_and, bit_xor}
use borrow.Author.Tests.{ltb-true, ltb-false}
use Rattle.sets.specs.Sets.{has, every, everyone}
use Rattle.sets.proofs.Every.{every-at, at_every, every-same}
use Rattle.sets.proofs.Members.{has-high}
use Rattle.rules.specs.declared.Pattern.{Pattern}
use Rattle.sharing.proofs.Inputs.{none-low, unlike-vector}
use Rattle.run_inputs.specs.Inputs.{takes_input}

-- past the masks' width nothing is asked
pub every-least : (n w : ℕ) (p : ℕ → Bool) → ((j : ℕ) → w ≤ j → p j ≡ true) → every (min n w) p ≡ every n p
every-least n w p high = go (every (min n w) p) (every n p) refl refl
  where
    up : every (min n w) p ≡ true → every n p ≡ true
    up e = at_every n p (λ j h. each j h (ltb j w) refl)
      where
        each : (j : ℕ) → j < n → (b : Bool) → ltb j w ≡ b → p j ≡ true
        each j h true q = every-at (min n w) p e j (omega (arith, ltb-true j w q))
        each j h false q = high j (ltb-false j w q)

    down : every n p ≡ true → every (min n w) p ≡ true
    down e = at_every (min n w) p (λ j h. every-at n p e j (omega arith))

    go : (a b : Bool) → every (min n w) p ≡ a → every n p ≡ b → every (min n w) p ≡ every n p
    go true b e f = e ∙ sym (up e)
    go false true e f = down f ∙ sym f
    go false false e f = e ∙ sym f

pub taken-mask : (n : ℕ) (p : Pattern) (x : ℕ) {m : ℕ} → p.ones < 2 ^ 64 → p.dashes < 2 ^ 64 → x < 2 ^ 64 → m ≡ everyone (min n 64)
    → eqb (bit_and (bit_and (bit_xor p.ones x) ((2 ^ 64 - 1) - p.dashes)) m) 0 ≡ takes_input n p x
unfolding takes_input
taken-mask n p x ho hd hx e =
    rw e
    (none-low (min n 64) (bit_and (bit_xor p.ones x) ((2 ^ 64 - 1) - p.dashes))
    ∙ every-same (min n 64) _ _ (λ s h. unlike-vector 64 p.dashes p.ones x s hd (omega arith))
    ∙ every-least n 64 _ (λ j h. rw (has-high 64 p.ones j ho h, has-high 64 x j hx h) (or-true (eqb (has p.dashes j) 1))))
