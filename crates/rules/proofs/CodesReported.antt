-- The `SC` lines that stand in a report's text are the lines of its states, in order, and no others.
use Rattle.rules.specs.declared.BitNumber.{BitNumber}
use Rattle.std.specs.Prelude.{Option, Some, None}
use mathlib.Core.Path.{◌≡◌, refl, sym, ap, subst, ◌∙◌}
use mathlib.Core.Bool.{Bool, true, false, ◌&&◌, cond}
use mathlib.Core.List.{List, [], ◌∷◌, ◌++◌, map, append-nil, append_assoc}
use Prim.Native.Nat.{ℕ, suc}
use native.Mathlib.Omega.{arith}
use lib.Dec.{eqb}
use lib.ListN.{length, get_or}
use borrow.Author.Tests.{ne_eqb}
use Rattle.sets.specs.Sets.{states_from}
use Rattle.rules.specs.Text.{bytes, lf, space, same, push, split, lines_of, mark_of}
use Rattle.rules.specs.Requirements.{requirements, judgement}
use Rattle.rules.specs.Code.{Code, unmet}
use Rattle.rules.specs.Report.{count_line, state_line, met_line, unmet_line, met_lines, joined_lines, report_lines, report}
use Rattle.rules.specs.declared.Listing.{Listing}
use Rattle.rules.specs.declared.Requirement.{Requirement}
use Rattle.rules.proofs.Ended.{Ended, ended-body, lines-first}
use Rattle.rules.proofs.ReportLines.{count-ended, met-ended, unmet-ended, end-ended}
use Rattle.rules.proofs.CodesBack.{codes_text, code_line, state-line, line-without, line-mark}

-- of some lines those with the mark `SC`, each with its LF
unfoldable pub codes_among : List (List ℕ) → List ℕ
unfolding same
codes_among [] = []
codes_among (l ∷ ls) = cond (same (mark_of l) (bytes "SC")) (l ++ (lf ∷ [])) [] ++ codes_among ls

-- the `SC` lines of a text
abbrev pub codes_in : List ℕ → List ℕ
codes_in text = codes_among (lines_of text)

-- a line in front
first-line : (l m rest : List ℕ) → l ≡ m ++ (lf ∷ []) → codes_among (m ∷ lines_of rest) ≡ cond (same (mark_of m) (bytes "SC")) l [] ++ codes_in rest
unfolding codes_among
first-line l m rest e = ap (λ (k : List ℕ). cond (same (mark_of m) (bytes "SC")) k [] ++ codes_in rest) (sym e)

-- ---- a line that begins with another letter (`S` is 83)

abbrev Other : List ℕ → Type 0
Other l = get_or l 0 0 ≡ 83 → ⊥

mark-other : (m : List ℕ) → Other (m ++ (lf ∷ [])) → same (mark_of m) (bytes "SC") ≡ false
unfolding mark_of split same
mark-other [] o = refl
mark-other (x ∷ xs) o = go (eqb x space) (split space xs)
  where
    go : (b : Bool) (ps : List (List ℕ)) → same (get_or (cond b ([] ∷ ps) (push x ps)) 0 []) (bytes "SC") ≡ false
    go true ps = refl
    go false [] = ap (λ (t : Bool). t && false) (ne_eqb x 83 o)
    go false (p ∷ ps) = ap (λ (t : Bool). t && same p (bytes "C")) (ne_eqb x 83 o)

-- lines that are ended, and none of them begins so
data Aside : List (List ℕ) → Type 0 where
  no_line : Aside []
  line : {l : List ℕ} {ls : List (List ℕ)} → Ended l → Other l → Aside ls → Aside (l ∷ ls)

aside-append : {ks ls : List (List ℕ)} → Aside ks → Aside ls → Aside (ks ++ ls)
aside-append no_line b = b
aside-append (line e o a) b = line e o (aside-append a b)

aside-map : {A : Type 0} (f : A → List ℕ) → ((a : A) → Ended (f a)) → ((a : A) → Other (f a)) → (xs : List A) → Aside (map f xs)
aside-map f h o [] = no_line
aside-map f h o (x ∷ xs) = line (h x) (o x) (aside-map f h o xs)

aside-first : (l rest : List ℕ) → Ended l → Other l → codes_in (l ++ rest) ≡ codes_in rest
aside-first l rest e o =
    let b = ended-body e in
    ap codes_among (lines-first l rest b.0 b.1 b.2)
    ∙ first-line l b.0 rest b.1
    ∙ ap (λ (t : Bool). cond t l [] ++ codes_in rest) (mark-other b.0 (subst Other b.1 o))

none-aside : {ls : List (List ℕ)} → Aside ls → codes_in (joined_lines ls) ≡ []
unfolding joined_lines codes_among split mark_of same
none-aside no_line = refl
none-aside (line {l} {ls} e o a) = aside-first l (joined_lines ls) e o ∙ none-aside a

-- ---- the lines of the states

module _ (bits : List ℕ) where
  state-first : (s : ℕ) (rest : List ℕ) → codes_in (state_line bits (record { 0 = s }) ++ rest) ≡ state_line bits (record { 0 = s }) ++ codes_in rest
  unfolding same
  state-first s rest =
      let l : List ℕ = state_line bits (record { 0 = s }) in
      ap codes_among (lines-first l rest (code_line bits s) (state-line bits s) (line-without bits s))
      ∙ first-line l (code_line bits s) rest (state-line bits s)
      ∙ ap (λ (m : List ℕ). cond (same m (bytes "SC")) l [] ++ codes_in rest) (line-mark bits s)

  states-first : (ss : List ℕ) (ls : List (List ℕ)) → codes_in (joined_lines (map (λ s. state_line bits (record { 0 = s })) ss ++ ls)) ≡ joined_lines (map (λ s. state_line bits (record { 0 = s })) ss) ++ codes_in (joined_lines ls)
  unfolding joined_lines
  states-first [] ls = refl
  states-first (s ∷ ss) ls =
      let l : List ℕ = state_line bits (record { 0 = s }) in
      state-first s (joined_lines (map (λ s. state_line bits (record { 0 = s })) ss ++ ls))
      ∙ ap (λ (k : List ℕ). l ++ k) (states-first ss ls)
      ∙ sym (append_assoc l (joined_lines (map (λ s. state_line bits (record { 0 = s })) ss)) (codes_in (joined_lines ls)))

-- ---- the report

mets-aside : (k n : ℕ) (bits : List ℕ) (rs : List Requirement) → Aside (met_lines k n bits rs)
unfolding met_lines met_line
mets-aside k n bits [] = no_line
mets-aside k n bits (r ∷ rs) = go (judgement n bits r) (mets-aside (suc k) n bits rs)
  where
    go : (j : Option BitNumber) → Aside (met_lines (suc k) n bits rs) → Aside (elim j [ Some b ↦ met_line (record { 0 = k }) b ∷ met_lines (suc k) n bits rs | None ↦ met_lines (suc k) n bits rs ])
    go (Some b) a = line (met-ended (record { 0 = k }) b) (λ (e : ◌≡◌ {A = ℕ} 66 83). omega arith) a
    go None a = a

pub codes-reported : (t : Listing) (c : Code) → codes_in (report t c) ≡ codes_text t.head.states c.bits
unfolding report report_lines joined_lines count_line unmet_line
codes-reported t c =
    aside-first count (joined_lines (map state ss ++ rest)) (count-ended (length c.bits) (length (requirements t)) (length un) c.passes c.looks) (λ (e : ◌≡◌ {A = ℕ} 67 83). omega arith)
    ∙ states-first c.bits ss rest
    ∙ ap (λ (l : List ℕ). codes_text t.head.states c.bits ++ l) (none-aside others)
    ∙ append-nil (codes_text t.head.states c.bits)
  where
    ss : List ℕ
    ss = states_from 0 t.head.states

    un : List ℕ
    un = unmet t c.bits

    count : List ℕ
    count = count_line (length c.bits) (length (requirements t)) (length un) c.passes c.looks

    state : ℕ → List ℕ
    state s = state_line c.bits (record { 0 = s })

    rest : List (List ℕ)
    rest = met_lines 0 t.head.states c.bits (requirements t) ++ (map (λ r. unmet_line (record { 0 = r })) un ++ (bytes "EN\n" ∷ []))

    others : Aside rest
    others =
        aside-append (mets-aside 0 t.head.states c.bits (requirements t))
        (aside-append (aside-map (λ r. unmet_line (record { 0 = r })) (λ r. unmet-ended (record { 0 = r })) (λ r (e : ◌≡◌ {A = ℕ} 85 83). omega arith) un)
        (line end-ended (λ (e : ◌≡◌ {A = ℕ} 69 83). omega arith) no_line))
