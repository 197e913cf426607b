-- What is judged of a requirement of a fair listing is by which bit the code meets it, and a cover asks the same of the pairs and the groups.
use Rattle.std.specs.Prelude.{None}
use mathlib.Core.Path.{◌≡◌, refl, ap, ap₂, ◌∙◌}
use mathlib.Core.Bool.{true}
use mathlib.Core.List.{List, [], ◌∷◌, ◌++◌}
use Prim.Native.Nat.{ℕ, zero, suc, ◌-◌, ◌≤◌, ◌<◌}
use native.Mathlib.Omega.{arith}
use lib.Dec.{leb}
use lib.ListN.{length, get_or, take, replicate}
use lib.Seq.{take-append_seam}
use borrow.Author.Tests.{lt-ltb, le-ltb}
use Rattle.rules.specs.Limits.{most_bits}
use Rattle.rules.specs.Listing.{no_requirement}
use Rattle.rules.specs.Requirements.{judgement, pairs_and_groups, requirements}
use Rattle.rules.specs.Code.{Code, coded, unmet_from}
use Rattle.rules.specs.declared.Requirement.{Requirement}
use Rattle.rules.specs.declared.RequirementNumber.{RequirementNumber}
use Rattle.rules.specs.declared.Listing.{Listing}
use Rattle.rules.specs.declared.Encoding.{Encoding}
use Rattle.rules.proofs.Good.{AllGood}
use Rattle.code_fair.specs.Fair.{fair}
use Rattle.code_fair.proofs.Limits.{fair-grants}
use Rattle.families.specs.Families.{requirements_in}
use Rattle.code_encoding.specs.Encode.{encoding_of}
use Rattle.code_drawing.specs.Drawing.{first_families, all_families}
use Rattle.code_drawing.proofs.Requirements.{first-are, all_are}
use Rattle.code_judging.specs.Judging.{judgement_at, judged, some_unmet, any_unmet}
use Rattle.code_judging.proofs.Wide.{at_wide, unmet-wide}

at-number : (n : ℕ) (bits : List ℕ) (rs : List Requirement) (k : ℕ) → k < length rs → judgement_at n bits rs k ≡ judgement n bits (get_or rs k no_requirement)
unfolding judgement_at
at-number n bits [] k h = absurd (omega arith)
at-number n bits (r ∷ rs) zero h = refl
at-number n bits (r ∷ rs) (suc k) h = at-number n bits rs k (omega arith)

module _ (t : Listing) (f : fair t ≡ true) (good : AllGood t.head.states (requirements t)) (c : Code) (r : RequirementNumber) where
  judged-at : judgement_at 64 (take (length c.bits) (encoding_of t c).bits) (requirements_in (all_families t)) r.0 ≡ judgement_at t.head.states c.bits (requirements t) r.0
  unfolding encoding_of
  judged-at =
      ap₂ (λ (bs : List ℕ) (rs : List Requirement). judgement_at 64 bs rs r.0) (take-append_seam c.bits (replicate (most_bits - length c.bits) 0)) (all_are t f)
      ∙ at_wide t.head.states (omega (arith, (fair-grants t f).limits.few-states)) c.bits (requirements t) r.0 good

  -- a requirement of the listing
  pub judged-is : r.0 < length (requirements t) → judged t (encoding_of t c) r ≡ judgement t.head.states c.bits (get_or (requirements t) r.0 no_requirement)
  unfolding judged encoding_of
  judged-is h = rw (lt-ltb r.0 (length (requirements t)) h) (judged-at ∙ at-number t.head.states c.bits (requirements t) r.0 h)

  -- beyond them there is none to meet
  pub judged-beyond : length (requirements t) ≤ r.0 → judged t (encoding_of t c) r ≡ None
  unfolding judged encoding_of
  judged-beyond h = rw (le-ltb r.0 (length (requirements t)) h)

-- ---- the pairs and the groups, as a cover asks of them

-- the first of a list's good requirements are good
pub good-front : (n : ℕ) (xs ys : List Requirement) → AllGood n (xs ++ ys) → AllGood n xs
good-front n [] ys g = tt
good-front n (x ∷ xs) ys g = (g.0, good-front n xs ys g.1)

pub same-judged : (t : Listing) → fair t ≡ true → AllGood t.head.states (requirements t) → (e : Encoding)
    → any_unmet (first_families t) e ≡ leb 1 (length (unmet_from 0 t.head.states (take e.width e.bits) (pairs_and_groups t)))
unfolding any_unmet some_unmet requirements
same-judged t f good e =
    let bits : List ℕ = take e.width e.bits in
    ap (λ (rs : List Requirement). leb 1 (length (unmet_from 0 64 bits rs))) (first-are t f)
    ∙ ap (λ (l : List ℕ). leb 1 (length l))
    (unmet-wide t.head.states (omega (arith, (fair-grants t f).limits.few-states)) 0 bits (pairs_and_groups t) (good-front t.head.states (pairs_and_groups t) _ good))
