-- Which way a choice went, told by what it gave; that a refusal is no acceptance; and what a line says, told by its reader's answer.
use Rattle.std.specs.Prelude.{Result, Ok, Err}
use mathlib.Core.Path.{◌≡◌, refl}
use mathlib.Core.Bool.{Bool, true, false, cond}
use Prim.Native.Nat.{ℕ}
use native.Mathlib.Omega.{arith}
use Rattle.rules.specs.declared.Refusal.{Refusal}
use Rattle.rules.specs.declared.Refused.{Refused}

module _ {A : Type 0} {a b c : A} where
  pub chose-first : (t : Bool) → cond t a b ≡ c → (b ≡ c → ⊥) → (t ≡ true) × (a ≡ c)
  chose-first true e o = (refl, e)
  chose-first false e o = absurd (o e)

  pub chose-second : (t : Bool) → cond t a b ≡ c → (a ≡ c → ⊥) → (t ≡ false) × (b ≡ c)
  chose-second true e o = absurd (o e)
  chose-second false e o = (refl, e)

pub not-accepted : {A : Type 0} {a : A} {r : Refused} → ◌≡◌ {A = Result A Refused} (Err r) (Ok a) → ⊥
not-accepted e = let z : ◌≡◌ {A = ℕ} 0 1 = cc in omega arith

module _ {A : Type 0} where
  -- two answers that accept are of one thing
  pub same-accepted : {a b : A} → ◌≡◌ {A = Result A Refused} (Ok a) (Ok b) → a ≡ b
  same-accepted e = cc

  -- two answers that are one say one thing
  pub same-ok : {a b : A} → ◌≡◌ {A = Result A Refusal} (Ok a) (Ok b) → a ≡ b
  same-ok e = cc

  pub not-ok : {r : Refusal} {a : A} → ◌≡◌ {A = Result A Refusal} (Err r) (Ok a) → ⊥
  not-ok e = let z : ◌≡◌ {A = ℕ} 0 1 = cc in omega arith
