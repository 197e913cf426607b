-- A level read as a gain: a signed number.
use Rattle.std.proofs.Common.{◌≡◌, ℕ, suc, ◌+◌, ◌-◌, ◌^◌, ◌<◌, ◌≤◌, Bool, true, false, cond, ltb, ℤ, pos, negsuc, ◌-ℤ◌, sym, refl, ap, ◌∙◌, subst, arith, to_z-of_z, w64, SFits, to_z, of_z, ltb-false, ltb-true, le-ltb, lt-ltb}
use lib.IntN.{sub_ℕ}
use mir.Facts.{to_z_pos}
use Rattle.move_table.specs.Table.{level}

-- ---- as the machine subtracts

level-less : (v : ℕ) → v < 2 ^ 32 → to_z w64 v -ℤ pos level ≡ sub_ℕ v level
level-less v h = ap (λ (z : ℤ). z -ℤ pos level) (to_z_pos w64 {n = v} (omega arith))

fits-64 : (v : ℕ) → v < 2 ^ 32 → SFits w64 (sub_ℕ v level)
fits-64 v h = go (ltb v level)
  where
    go : (t : Bool) → SFits w64 (cond t (negsuc (level - suc v)) (pos (v - level)))
    go true = record { sfits = omega arith }
    go false = record { sfits = omega arith }

pub gain-fits : (v : ℕ) → v < 2 ^ 32 → SFits w64 (to_z w64 v -ℤ pos level)
gain-fits v h = subst (SFits w64) (sym (level-less v h)) (fits-64 v h)

pub gain-is : (v : ℕ) → v < 2 ^ 32 → to_z w64 (of_z w64 (to_z w64 v -ℤ pos level)) ≡ sub_ℕ v level
gain-is v h = to_z-of_z (gain-fits v h) ∙ level-less v h

-- ---- as 01 subtracts

-- two differences of the same size are equal
pub same-less : (a b c d : ℕ) → a + d ≡ c + b → sub_ℕ a b ≡ sub_ℕ c d
same-less a b c d e = go (ltb a b) refl
  where
    go : (t : Bool) → ltb a b ≡ t → cond t (negsuc (b - suc a)) (pos (a - b)) ≡ sub_ℕ c d
    go true h =
        let l : a < b = ltb-true a b h in
        let p : b - suc a ≡ d - suc c = omega arith in
        ap negsuc p ∙ sym (ap (λ (t : Bool). cond t (negsuc (d - suc c)) (pos (c - d))) (lt-ltb c d (omega arith)))
    go false h =
        let l : b ≤ a = ltb-false a b h in
        let p : a - b ≡ c - d = omega arith in
        ap pos p ∙ sym (ap (λ (t : Bool). cond t (negsuc (d - suc c)) (pos (c - d))) (le-ltb c d (omega arith)))
