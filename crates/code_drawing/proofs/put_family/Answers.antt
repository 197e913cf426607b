-- `code_drawing::put_family` meets its contract.
use Rattle.std.proofs.Common.{List, ℕ, ◌+◌, ◌++◌, refl, sym, subst, take}
use Rattle.families.specs.Families.{laid}
use Rattle.code_drawing.specs.Drawing.{family, Drew}
use Rattle.code_drawing.proofs.Growing.{drew-family}
use Rattle.code_drawing.proofs.put_family.Goals as goal

pub returns : goal.returns
unfolding laid
returns c =
    let a = c.args in
    let came : List ℕ = a.fs.now in
    (refl, subst (λ (l : List ℕ). Drew came (take a.at came ++ family a.all a.flip a.out) (a.at + 3) l) (sym c.put.ensures) (drew-family came a.at a.all a.flip a.out c.requires))
