-- The face (002): given distinct codes and met groups, a state's code lies in the face exactly when the state is in the group.
use mathlib.Core.Path.{◌≡◌, refl, sym, ap, ap₂, ◌∙◌}
use mathlib.Core.Logic.{⊎_elim}
use mathlib.Core.Bool.{Bool, true, false, ◌||◌, false≢true}
use mathlib.Core.List.{List, [], ◌∷◌, Memᴰ}
use Prim.Native.Nat.{ℕ, zero, suc, ◌+◌, ◌^◌, ◌≤◌, ◌<◌}
use native.Mathlib.Decide.{dec_le, ℕ_discrete}
use native.Mathlib.Omega.{arith}
use lib.Dec.{eqb}
use lib.ListN.{length, get_or}
use borrow.Author.Tests.{eqb-true, eq-eqb, ne_eqb}
use Rattle.sets.specs.Sets.{has, only, size}
use Rattle.sets.proofs.Members.{has-lt, has-only}
use Rattle.sets.proofs.Every.{and_first, and_second, and_both}
use Rattle.rules.specs.Text.{nought, dash}
use Rattle.rules.specs.Requirements.{asks, group_asks, wholly, met_by_code}
use Rattle.rules.specs.Code.{code_of}
use Rattle.rules.specs.Cover.{face_at, face, takes}
use Rattle.rules.specs.declared.Requirement.{Requirement}
use Rattle.rules.proofs.Or.{or-first, or-second, or_cases}
use Rattle.sets.proofs.SizeMembers.{outside-or-member, two-members, outside-size}
use Rattle.rules.proofs.Blocks.{On, wholly-on, on-wholly, met_by}
use Rattle.rules.proofs.Asked.{group-asks}

-- no two of n states have the same code
abbrev pub Distinct : ℕ → List ℕ → Type 0
Distinct n bits = (i j : ℕ) → i < n → j < n → (i ≡ j → ⊥) → code_of bits i ≡ code_of bits j → ⊥

-- the code meets every requirement of a list
abbrev pub AllMet : ℕ → List ℕ → List Requirement → Type 0
AllMet n bits rs = (r : Requirement) → Memᴰ r rs → met_by_code n bits r ≡ true

-- all that a group asks is met
abbrev pub GroupMet : ℕ → List ℕ → ℕ → Type 0
GroupMet n bits g = 2 ≤ size g → size g < n → AllMet n bits (group_asks n g)

-- ---- one bit

-- 0 or 1 where all the group's codes agree, a dash elsewhere
data Character (n g b : ℕ) : Type 0 where
  agree : (v : ℕ) → v < 2 → On n b v g → face_at n g b ≡ nought + v → Character n g b
  differ : ((v : ℕ) → v < 2 → On n b v g → ⊥) → face_at n g b ≡ dash → Character n g b

character : (n g b : ℕ) → Character n g b
unfolding face_at
character n g b = go (wholly n b 0 g) (wholly n b 1 g) refl refl
  where
    go : (t u : Bool) → wholly n b 0 g ≡ t → wholly n b 1 g ≡ u → Character n g b
    go true u e f = agree 0 (omega arith) (wholly-on n b 0 g e) (rw e)
    go false true e f = agree 1 (omega arith) (wholly-on n b 1 g f) (rw (e, f))
    go false false e f = differ split (rw (e, f))
      where
        split : (v : ℕ) → v < 2 → On n b v g → ⊥
        split zero l o = false≢true (sym e ∙ on-wholly n b 0 g o)
        split (suc zero) l o = false≢true (sym f ∙ on-wholly n b 1 g o)
        split (suc (suc v)) l o = omega arith

-- the character takes the digit of a state
abbrev takes_at : ℕ → ℕ → ℕ → ℕ → Bool
takes_at n g b s = eqb (face_at n g b) dash || eqb (face_at n g b) (nought + has b s)

-- that of a member
member-taken : (n g b s : ℕ) → s < n → has g s ≡ 1 → takes_at n g b s ≡ true
member-taken n g b s l e = go (character n g b)
  where
    go : Character n g b → takes_at n g b s ≡ true
    go (agree v h o c) =
        let same : face_at n g b ≡ nought + has b s = omega (arith, o s l e) in
        or-second (eqb (face_at n g b) dash) (eqb (face_at n g b) (nought + has b s)) (eq-eqb _ _ same)
    go (differ f c) = or-first (eqb (face_at n g b) dash) (eqb (face_at n g b) (nought + has b s)) (eq-eqb _ _ c)

-- where the whole group has the value v, of no other digit
taken-agrees : (n g b v : ℕ) → v < 2 → On n b v g → (m : ℕ) → m < n → has g m ≡ 1 → (s : ℕ) → takes_at n g b s ≡ true → has b s ≡ v
taken-agrees n g b v h o m l e s t = go (character n g b)
  where
    go : Character n g b → has b s ≡ v
    go (agree w k p c) =
        let same : w ≡ v = sym (p m l e) ∙ o m l e in
        ⊎_elim
        (λ d. absurd (omega (arith, eqb-true (face_at n g b) dash d)))
        (λ d. omega (arith, eqb-true (face_at n g b) (nought + has b s) d))
        (or_cases (eqb (face_at n g b) dash) (eqb (face_at n g b) (nought + has b s)) t)
    go (differ f c) = absurd (f v h o)

-- ---- all bits

each-takes : (n g : ℕ) (bits : List ℕ) (s : ℕ) → ((j : ℕ) → j < length bits → takes_at n g (get_or bits j 0) s ≡ true)
    → takes (face n bits g) (code_of bits s) ≡ true
unfolding takes
each-takes n g [] s h = refl
each-takes n g (b ∷ bs) s h =
    and_both (takes_at n g b s) (takes (face n bs g) (code_of bs s)) (h 0 (omega arith)) (each-takes n g bs s (λ j q. h (suc j) (omega arith)))

takes-each : (n g : ℕ) (bits : List ℕ) (s : ℕ) → takes (face n bits g) (code_of bits s) ≡ true
    → (j : ℕ) → j < length bits → takes_at n g (get_or bits j 0) s ≡ true
unfolding takes
takes-each n g [] s e j q = absurd (omega arith)
takes-each n g (b ∷ bs) s e zero q = and_first (takes_at n g b s) (takes (face n bs g) (code_of bs s)) e
takes-each n g (b ∷ bs) s e (suc j) q = takes-each n g bs s (and_second (takes_at n g b s) (takes (face n bs g) (code_of bs s)) e) j (omega arith)

same_code : (bits : List ℕ) (i k : ℕ) → ((j : ℕ) → j < length bits → has (get_or bits j 0) i ≡ has (get_or bits j 0) k) → code_of bits i ≡ code_of bits k
same_code [] i k h = refl
same_code (b ∷ bs) i k h = ap₂ (λ (d : ℕ) (ds : List ℕ). d ∷ ds) (h 0 (omega arith)) (same_code bs i k (λ j q. h (suc j) (omega arith)))

-- ---- the face

module _ (n : ℕ) (bits : List ℕ) (g : ℕ) (fits : g < 2 ^ n) (m : ℕ) (m-below : m < n) (m-member : has g m ≡ 1) where
  -- a group of one state: the face is that state's code
  alone : (size g < 2) → (s : ℕ) → takes (face n bits g) (code_of bits s) ≡ true → code_of bits m ≡ code_of bits s
  alone few s t = same_code bits m s (λ j q. sym (agrees (get_or bits j 0) (takes-each n g bits s t j q)))
    where
      only-m : (b : ℕ) → On n b (has b m) g
      only-m b u l e = go (ℕ_discrete u m)
        where
          go : Dec (u ≡ m) → has b u ≡ has b m
          go (yes p) = ap (has b) p
          go (no o) = absurd (omega (arith, two-members n g fits u m l m-below o e m-member))

      agrees : (b : ℕ) → takes_at n g b s ≡ true → has b s ≡ has b m
      agrees b q = taken-agrees n g b (has b m) (has-lt b m) (only-m b) m m-below m-member s q

  -- a group of more: some bit has one value on the group and the other on a state outside
  parted : GroupMet n bits g → 2 ≤ size g → (s : ℕ) → s < n → has g s ≡ 0 → takes (face n bits g) (code_of bits s) ≡ true → ⊥
  parted met two s l e t =
      let by = met_by n bits (asks g (only s)) (met two (outside-size n g fits s l e) (asks g (only s)) (group-asks n g s l e)) in
      let b : ℕ = get_or bits by.0 0 in
      let taken : takes_at n g b s ≡ true = takes-each n g bits s t by.0 by.1 in
      ⊎_elim
      (λ p. omega (arith, p.1 s l (has-only s), taken-agrees n g b 0 (omega arith) p.0 m m-below m-member s taken))
      (λ p. omega (arith, p.1 s l (has-only s), taken-agrees n g b 1 (omega arith) p.0 m m-below m-member s taken))
      by.2

  outside-left : Distinct n bits → GroupMet n bits g → (s : ℕ) → s < n → has g s ≡ 0 → takes (face n bits g) (code_of bits s) ≡ true → ⊥
  outside-left distinct met s l e t = go (dec_le 2 (size g))
    where
      go : Dec (2 ≤ size g) → ⊥
      go (yes two) = parted met two s l e t
      go (no few) = distinct m s m-below l (λ p. omega (arith, ap (has g) p)) (alone (omega arith) s t)

untaken : (t : Bool) → (t ≡ true → ⊥) → t ≡ false
untaken true f = absurd (f refl)
untaken false f = refl

-- of a group that has a member m
pub face-takes : (n : ℕ) (bits : List ℕ) (g : ℕ) → g < 2 ^ n → (m : ℕ) → m < n → has g m ≡ 1 → Distinct n bits → GroupMet n bits g
    → (s : ℕ) → s < n → takes (face n bits g) (code_of bits s) ≡ eqb (has g s) 1
face-takes n bits g fits m k e distinct met s l =
    ⊎_elim
    (λ p. untaken (takes (face n bits g) (code_of bits s)) (outside-left n bits g fits m k e distinct met s l p) ∙ sym (ne_eqb (has g s) 1 (λ q. omega arith)))
    (λ p. each-takes n g bits s (λ j q. member-taken n g (get_or bits j 0) s l p) ∙ sym (eq-eqb (has g s) 1 p))
    (outside-or-member g s)
