-- A line of the cover: its two fields, when it fires, and what it carries.
use mathlib.Core.Path.{◌≡◌, refl, sym, ap, ap₂, ◌∙◌}
use mathlib.Core.Logic.{⊎_elim}
use mathlib.Core.Bool.{Bool, true, false, ◌&&◌, ◌||◌, not, cond}
use mathlib.Core.List.{List, [], ◌∷◌, ◌++◌, map, append_assoc}
use Prim.Native.Nat.{ℕ, zero, suc, ◌+◌, ◌^◌, ◌≤◌, ◌<◌}
use native.Mathlib.Decide.{ℕ_discrete}
use native.Mathlib.Omega.{arith}
use lib.Dec.{eqb}
use lib.Pow.{pow-lt, pow_pos}
use lib.Bits.{bit_and, and_le_r, and_zero_r}
use lib.ListN.{length, get_or, replicate, length-map}
use borrow.Author.Tests.{eq-eqb, ne_eqb}
use Rattle.sets.specs.Sets.{has, only, every, states_from}
use Rattle.sets.proofs.Members.{has-lt, has-and, has-only, has_other, has-none, same-mask}
use Rattle.rules.specs.Text.{digit, lf, space, dash, nought, one, fields_of}
use Rattle.rules.specs.Requirements.{wholly}
use Rattle.rules.specs.Code.{code_of}
use Rattle.rules.specs.Report.{digits}
use Rattle.rules.specs.Cover.{face_at, face, input_at, next_code, says_one, says_dash, shares_one, output_at, cover_row, fires, takes, vector, line_fires}
use Rattle.rules.specs.declared.Row.{Row}
use Rattle.rules.specs.declared.Head.{Head}
use Rattle.sets.proofs.SizeMembers.{outside-or-member}
use Rattle.rules.proofs.Fields.{Without, more, without-append, without-map, split-last, split-part}
use Rattle.rules.proofs.Faces.{Distinct, GroupMet, face-takes}

-- ---- two fields

-- the input and the face
abbrev pub input_side : Head → List ℕ → Row → List ℕ
input_side h bits r = map (input_at r) (states_from 0 h.inputs) ++ face h.states bits r.group

-- the code of the next state and the outputs
abbrev pub output_side : Head → List ℕ → List Row → Row → List ℕ
output_side h bits rs r = digits (next_code bits r.next) ++ map (output_at rs r) (states_from 0 h.outputs)

row-sides : (h : Head) (bits : List ℕ) (rs : List Row) (r : Row) → cover_row h bits rs r ≡ input_side h bits r ++ (space ∷ output_side h bits rs r)
unfolding cover_row
row-sides h bits rs r = sym (append_assoc (map (input_at r) (states_from 0 h.inputs)) (face h.states bits r.group) (space ∷ output_side h bits rs r))

-- characters are dashes and digits, which come behind the space and LF
input-high : (r : Row) (j : ℕ) → dash ≤ input_at r j
input-high r j = go (eqb (has r.input.dashes j) 1)
  where
    go : (t : Bool) → dash ≤ cond t dash (nought + has r.input.ones j)
    go true = omega arith
    go false = omega arith

face-high : (n g b : ℕ) → dash ≤ face_at n g b
unfolding face_at
face-high n g b = go (wholly n b 0 g) (wholly n b 1 g)
  where
    go : (t u : Bool) → dash ≤ cond t nought (cond u one dash)
    go true u = omega arith
    go false true = omega arith
    go false false = omega arith

output-high : (rs : List Row) (r : Row) (j : ℕ) → dash ≤ output_at rs r j
unfolding output_at
output-high rs r j = go (says_one j r) (says_dash j r && not (shares_one rs r j))
  where
    go : (t u : Bool) → dash ≤ cond t one (cond u dash nought)
    go true u = omega arith
    go false true = omega arith
    go false false = omega arith

module _ (q : ℕ) (low : q < dash) (h : Head) (bits : List ℕ) (rs : List Row) (r : Row) where
  input-side-without : Without q (input_side h bits r)
  input-side-without =
      without-append
      (without-map q (input_at r) (states_from 0 h.inputs) (λ j e. omega (arith, input-high r j)))
      (without-map q (face_at h.states r.group) bits (λ b e. omega (arith, face-high h.states r.group b)))

  output-side-without : Without q (output_side h bits rs r)
  output-side-without =
      without-append
      (without-map q (λ d. nought + d) (next_code bits r.next) (λ d e. omega arith))
      (without-map q (output_at rs r) (states_from 0 h.outputs) (λ j e. omega (arith, output-high rs r j)))

pub cover-fields : (h : Head) (bits : List ℕ) (rs : List Row) (r : Row) → fields_of (cover_row h bits rs r) ≡ input_side h bits r ∷ (output_side h bits rs r ∷ [])
cover-fields h bits rs r =
    ap fields_of (row-sides h bits rs r)
    ∙ split-part space (input_side h bits r) (output_side h bits rs r) (input-side-without space (omega arith) h bits rs r)
    ∙ ap {B = List (List ℕ)} (λ l. input_side h bits r ∷ l) (split-last space (output_side h bits rs r) (output-side-without space (omega arith) h bits rs r))

-- no LF in a row
pub row-without : (h : Head) (bits : List ℕ) (rs : List Row) (r : Row) → Without lf (cover_row h bits rs r)
row-without h bits rs r =
    rw (row-sides h bits rs r)
    (without-append (input-side-without lf (omega arith) h bits rs r) (more (λ e. omega arith) (output-side-without lf (omega arith) h bits rs r)))

-- ---- when it fires

and_assoc : (a b c : Bool) → (a && b && c) ≡ (a && (b && c))
and_assoc true b c = refl
and_assoc false b c = refl

pub takes-append : (cs ds es fs : List ℕ) → length cs ≡ length ds → takes (cs ++ es) (ds ++ fs) ≡ (takes cs ds && takes es fs)
unfolding takes
takes-append [] [] es fs e = refl
takes-append [] (d ∷ ds) es fs e = absurd (omega arith)
takes-append (c ∷ cs) [] es fs e = absurd (omega arith)
takes-append (c ∷ cs) (d ∷ ds) es fs e =
    let c? : Bool = eqb c dash || eqb c (nought + d) in
    ap (λ (t : Bool). c? && t) (takes-append cs ds es fs (omega arith)) ∙ sym (and_assoc c? (takes cs ds) (takes es fs))

eqb-shift : (k a b : ℕ) → eqb (k + a) (k + b) ≡ eqb a b
eqb-shift k a b = go (ℕ_discrete a b)
  where
    go : Dec (a ≡ b) → eqb (k + a) (k + b) ≡ eqb a b
    go (yes e) = eq-eqb (k + a) (k + b) (omega arith) ∙ sym (eq-eqb a b e)
    go (no o) = ne_eqb (k + a) (k + b) (λ q. o (omega arith)) ∙ sym (ne_eqb a b o)

-- one input
input-takes : (r : Row) (j d : ℕ)
    → (eqb (input_at r j) dash || eqb (input_at r j) (nought + d)) ≡ (eqb (has r.input.dashes j) 1 || eqb (has r.input.ones j) d)
input-takes r j d = go (eqb (has r.input.dashes j) 1)
  where
    o : ℕ
    o = has r.input.ones j

    go : (t : Bool) → (eqb (cond t dash (nought + o)) dash || eqb (cond t dash (nought + o)) (nought + d)) ≡ (t || eqb o d)
    go true = refl
    go false = ap₂ ◌||◌ (ne_eqb (nought + o) dash (λ e. omega arith)) (eqb-shift nought o d)

takes-states : (f g : ℕ → ℕ) (p : ℕ → Bool) (a n : ℕ) → ((j k : ℕ) → a + j ≡ k → (eqb (f k) dash || eqb (f k) (nought + g k)) ≡ p j)
    → takes (map f (states_from a n)) (map g (states_from a n)) ≡ every n p
unfolding takes every states_from
takes-states f g p a zero h = refl
takes-states f g p a (suc n) h = ap₂ ◌&&◌ (h 0 a (omega arith)) (takes-states f g (λ s. p (suc s)) (suc a) n (λ j k e. h (suc j) k (omega arith)))

pub inputs-take : (r : Row) (i x : ℕ)
    → takes (map (input_at r) (states_from 0 i)) (vector i x) ≡ every i (λ j. eqb (has r.input.dashes j) 1 || eqb (has r.input.ones j) (has x j))
inputs-take r i x = takes-states (input_at r) (has x) asked 0 i (λ j k e. input-takes r k (has x k) ∙ ap asked (sym e ∙ omega arith))
  where
    asked : ℕ → Bool
    asked j = eqb (has r.input.dashes j) 1 || eqb (has r.input.ones j) (has x j)

-- at an input vector x and a state's code, exactly when the row fires at x and the state; the group has a member m
pub row-fires : (h : Head) (bits : List ℕ) (rs : List Row) (r : Row) → r.group < 2 ^ h.states → (m : ℕ) → m < h.states → has r.group m ≡ 1
    → Distinct h.states bits → GroupMet h.states bits r.group
    → (x s : ℕ) → s < h.states → line_fires (cover_row h bits rs r) (vector h.inputs x ++ code_of bits s) ≡ fires h r x s
unfolding line_fires fires
row-fires h bits rs r fits m k e distinct met x s l =
    ap (λ (fs : List (List ℕ)). takes (get_or fs 0 []) (vector h.inputs x ++ code_of bits s)) (cover-fields h bits rs r)
    ∙ takes-append (map (input_at r) ss) (vector h.inputs x) (face h.states bits r.group) (code_of bits s) as_long
    ∙ ap₂ ◌&&◌ (inputs-take r h.inputs x) (face-takes h.states bits r.group fits m k e distinct met s l)
  where
    ss : List ℕ
    ss = states_from 0 h.inputs

    as_long : length (map (input_at r) ss) ≡ length (vector h.inputs x)
    as_long = length-map ss (input_at r) ∙ sym (length-map ss (has x))

-- ---- what it carries

-- a set holds one state exactly when its part in that state is not empty
pub part-has : (b u : ℕ) → digit (not (eqb (bit_and b (only u)) 0)) ≡ has b u
part-has b u =
    ⊎_elim
    (λ e. ap (λ (t : Bool). digit (not t)) (eq-eqb part 0 (empty e)) ∙ sym e)
    (λ e. ap (λ (t : Bool). digit (not t)) (ne_eqb part 0 (λ q. omega (arith, at-u, ap (λ (k : ℕ). has k u) q, has-none u))) ∙ sym e)
    (outside-or-member b u)
  where
    part : ℕ
    part = bit_and b (only u)

    at-u : has part u ≡ has b u
    at-u = omega (arith, has-and b (only u) u, has-only u, has-lt b u)

    empty : has b u ≡ 0 → part ≡ 0
    empty e = same-mask (suc u) part 0 fits (pow_pos (suc u)) (λ t h. each t (ℕ_discrete t u) ∙ sym (has-none t))
      where
        fits : part < 2 ^ suc u
        fits = omega (arith, and_le_r b (only u), pow-lt {i = u} {j = suc u} (omega arith))

        each : (t : ℕ) → Dec (t ≡ u) → has part t ≡ 0
        each t (yes q) = ap (has part) q ∙ at-u ∙ e
        each t (no o) = omega (arith, has-and b (only u) t, has_other u t o)

-- the code of the next state
pub next-code : (bits : List ℕ) (u : ℕ) → next_code bits (only u) ≡ code_of bits u
next-code [] u = refl
next-code (b ∷ bs) u = ap₂ (λ (d : ℕ) (ds : List ℕ). d ∷ ds) (part-has b u) (next-code bs u)

-- zeros if the row names none
pub no-next-code : (bits : List ℕ) → next_code bits 0 ≡ replicate (length bits) 0
no-next-code [] = refl
no-next-code (b ∷ bs) = ap₂ (λ (d : ℕ) (ds : List ℕ). d ∷ ds) (ap (λ (k : ℕ). digit (not (eqb k 0))) (and_zero_r b)) (no-next-code bs)
