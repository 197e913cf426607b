-- What is promised of a drawing leaves one answer and one content of the array.
use mathlib.Core.Path.{◌≡◌, sym, ap, ◌∙◌}
use mathlib.Core.List.{List, ◌++◌}
use Prim.Native.Nat.{ℕ}
use lib.ListN.{drop}
use Rattle.code_drawing.specs.Drawing.{Drew}

pub drew-only : {came ws is it : List ℕ} {k q : ℕ} → Drew came ws k is → Drew came ws q it → (k ≡ q) × (is ≡ it)
drew-only {came} {ws} d u =
    let e = d.count ∙ sym u.count in
    (e, d.holds ∙ ap (λ (j : ℕ). ws ++ drop j came) e ∙ sym u.holds)
