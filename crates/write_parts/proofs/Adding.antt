-- Lines added to a part: what one does by how the part stands, and lines behind lines.
use mathlib.Core.Path.{◌≡◌, refl, sym, ap, ap₂, ◌∙◌}
use mathlib.Core.Bool.{Bool, true, false, cond}
use mathlib.Core.List.{List, [], ◌∷◌, ◌++◌}
use Prim.Native.Nat.{ℕ, ◌+◌, ◌-◌, ◌≤◌, ◌<◌}
use native.Mathlib.Omega.{arith}
use lib.Dec.{leb}
use lib.ListN.{length, drop}
use borrow.Author.Tests.{le-leb, lt-leb}
use Rattle.write_pen.specs.Pen.{put}
use Rattle.write_pen.proofs.Laws.{put-length}
use Rattle.write_parts.specs.Parts.{standing, fits, added, added_all}
use Rattle.write_parts.specs.declared.Part.{Part}

-- a part with the buffer that holds it
abbrev pub Lent : Type 0
Lent = Part × List ℕ

-- ---- one line

module _ (l out : List ℕ) (p : Part) where
  pub added_full : p.full ≡ true → added l (p, out) ≡ (p, out)
  unfolding added
  added_full f = rw f

  pub added-passed : p.full ≡ false → length l ≤ p.skip → added l (p, out) ≡ (standing (p.skip - length l) p.given false, out)
  unfolding added
  added-passed f h = rw (f, le-leb (length l) p.skip h)

  pub added-kept : p.full ≡ false → p.skip < length l → fits (length out) p.given (length l - p.skip) ≡ false → added l (p, out) ≡ (standing p.skip p.given true, out)
  unfolding added
  added-kept f h k = rw (f, lt-leb (length l) p.skip h, k)

  pub added-put : p.full ≡ false → p.skip < length l → fits (length out) p.given (length l - p.skip) ≡ true
      → added l (p, out) ≡ (standing 0 (p.given + (length l - p.skip)) false, put out p.given (drop p.skip l))
  unfolding added
  added-put f h k = rw (f, lt-leb (length l) p.skip h, k)

-- no line at all adds nothing
pub added_none : (s : Lent) → added [] s ≡ s
unfolding added
added_none (p, out) = go p.full refl
  where
    go : (b : Bool) → p.full ≡ b → added [] (p, out) ≡ (p, out)
    go true f = added_full [] out p f
    go false f = added-passed [] out p f (omega arith) ∙ ap₂ (λ (k : ℕ) (b : Bool). (standing k p.given b, out)) (omega arith) (sym f)

-- the buffer keeps its length
either-length : (b : Bool) (s t : Lent) {n : ℕ} → length s.1 ≡ n → length t.1 ≡ n → length (cond {A = Lent} b s t).1 ≡ n
either-length true s t p q = p
either-length false s t p q = q

pub added-length : (l : List ℕ) (s : Lent) → length (added l s).1 ≡ length s.1
unfolding added
added-length l (p, out) =
    either-length p.full (p, out) _ refl
    (either-length (leb (length l) p.skip) (standing (p.skip - length l) p.given false, out) _ refl
    (either-length (fits (length out) p.given (length l - p.skip)) (standing 0 (p.given + (length l - p.skip)) false, put out p.given (drop p.skip l)) (standing p.skip p.given true, out)
    (put-length out p.given (drop p.skip l)) refl))

-- ---- lines

pub all_none : (s : Lent) → added_all [] s ≡ s
unfolding added_all
all_none s = refl

pub all_more : (l : List ℕ) (ls : List (List ℕ)) (s : Lent) → added_all (l ∷ ls) s ≡ added_all ls (added l s)
unfolding added_all
all_more l ls s = refl

pub all_one : (l : List ℕ) (s : Lent) → added_all (l ∷ []) s ≡ added l s
unfolding added_all
all_one l s = refl

pub all_append : (ks ls : List (List ℕ)) (s : Lent) → added_all (ks ++ ls) s ≡ added_all ls (added_all ks s)
unfolding added_all
all_append [] ls s = refl
all_append (k ∷ ks) ls s = all_append ks ls (added k s)

-- to a full part none is added
pub all-full : (ls : List (List ℕ)) (out : List ℕ) (p : Part) → p.full ≡ true → added_all ls (p, out) ≡ (p, out)
unfolding added_all
all-full [] out p f = refl
all-full (l ∷ ls) out p f = ap (added_all ls) (added_full l out p f) ∙ all-full ls out p f

pub all-length : (ls : List (List ℕ)) (s : Lent) → length (added_all ls s).1 ≡ length s.1
unfolding added_all
all-length [] s = refl
all-length (l ∷ ls) s = all-length ls (added l s) ∙ added-length l s

-- one more at the end
pub all_then : (ls : List (List ℕ)) (l : List ℕ) (s t u : Lent) → t ≡ added_all ls s → u ≡ added l t → u ≡ added_all (ls ++ (l ∷ [])) s
all_then ls l s t u e f = f ∙ ap (added l) e ∙ sym (all_append ls (l ∷ []) s ∙ all_one l (added_all ls s))

-- lines, and lines behind them
pub all-behind : (ks ls : List (List ℕ)) (s t u : Lent) → t ≡ added_all ks s → u ≡ added_all ls t → u ≡ added_all (ks ++ ls) s
all-behind ks ls s t u e f = f ∙ ap (added_all ls) e ∙ sym (all_append ks ls s)

-- a line, and lines behind it
pub all_first : (l : List ℕ) (ls : List (List ℕ)) (s t u : Lent) → t ≡ added l s → u ≡ added_all ls t → u ≡ added_all (l ∷ ls) s
all_first l ls s t u e f = f ∙ ap (added_all ls) e ∙ sym (all_more l ls s)
