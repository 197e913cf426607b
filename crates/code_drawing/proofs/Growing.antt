-- Words drawn into an array, one family behind the other.
use mathlib.Core.Path.{◌≡◌, sym, ap, ◌∙◌, subst}
use mathlib.Core.List.{List, ◌++◌}
use Prim.Native.Nat.{ℕ, suc, ◌+◌, ◌-◌, ◌≤◌}
use native.Mathlib.Omega.{arith}
use lib.ListN.{length, take, drop, set, length-append, length-drop, take-append-drop}
use lib.Seq.{sets-eq, length-take-le, take_at, drop-append-add, drop-drop}
use Rattle.code_drawing.specs.Drawing.{family, Drew}

-- the words are read back
pub drew-words : {came ws is : List ℕ} {k : ℕ} → Drew came ws k is → take k is ≡ ws
drew-words {came} {ws} {is} {k} d = rw d.holds (take_at ws (drop k came) k (sym d.count))

pub drew-length : {came ws is : List ℕ} {k : ℕ} → k ≤ length came → Drew came ws k is → length is ≡ length came
drew-length {came} {ws} {is} {k} h d = ap length d.holds ∙ omega (arith, length-append ws (drop k came), length-drop k came, d.count)

-- the words fit
pub drew-fits : {came ws is : List ℕ} {k : ℕ} → Drew came ws k is → k ≤ length is
drew-fits {came} {ws} {is} {k} d = omega (arith, ap length d.holds, length-append ws (drop k came), d.count)

-- none, and the words that stand there
pub drew-none : (came : List ℕ) (k : ℕ) → k ≤ length came → Drew came (take k came) k came
drew-none came k h = record { count = sym (length-take-le k came h); holds = sym (take-append-drop k came) }

-- as many or more, over those that stand there
pub drew-then : {came ws is vs after : List ℕ} {k q : ℕ} → Drew came ws k is → Drew is vs q after → k ≤ q → Drew came vs q after
drew-then {came} {ws} {is} {vs} {after} {k} {q} d u h = record {
  count = u.count;
  holds = u.holds ∙ ap (λ (l : List ℕ). vs ++ l) behind;
}
  where
    behind : drop q is ≡ drop q came
    behind =
        let e : q ≡ length ws + (q - k) = omega (arith, d.count) in
        let f : k + (q - k) ≡ q = omega arith in
        ap (drop q) d.holds
        ∙ ap (λ (j : ℕ). drop j (ws ++ drop k came)) e
        ∙ drop-append-add ws (drop k came) (q - k)
        ∙ drop-drop (q - k) k came
        ∙ ap (λ (j : ℕ). drop j came) f

-- one family
pub drew-family : (came : List ℕ) (at all flip out : ℕ) → at + 3 ≤ length came
    → Drew came (take at came ++ family all flip out) (at + 3) (set (set (set came at all) (at + 1) flip) (at + 2) out)
drew-family came at all flip out h =
    let e₁ : at + 1 ≡ suc at = omega arith in
    let e₂ : at + 2 ≡ suc (suc at) = omega arith in
    record {
      count = omega (arith, length-append (take at came) (family all flip out), length-take-le at came (omega arith));
      holds = rw (e₁, e₂) (sets-eq (family all flip out) came at h);
    }

pub drew-as : {came ws vs is : List ℕ} {k : ℕ} → Drew came ws k is → ws ≡ vs → Drew came vs k is
drew-as {came} {ws} {vs} {is} {k} d e = subst (λ (l : List ℕ). Drew came l k is) e d

-- a turn of a loop that draws: what stands in front is read back
pub drew-more : {came is vs after : List ℕ} {k q : ℕ} → Drew came (take k is) k is → Drew is vs q after → k ≤ q → Drew came (take q after) q after
drew-more d u h = drew-as (drew-then d u h) (sym (drew-words u))
