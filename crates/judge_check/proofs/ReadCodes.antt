-- Codes that were read: there are at most 64 bits, and none has a digit past the last of them.
use mathlib.Core.Path.{◌≡◌, refl, sym, ap, subst, ◌∙◌}
use mathlib.Core.Bool.{Bool, true, false, ◌&&◌}
use mathlib.Core.List.{List, [], ◌∷◌}
use Prim.Native.Nat.{ℕ, zero, suc, ◌+◌, ◌^◌, ◌≤◌, ◌<◌}
use native.Mathlib.Decide.{ℕ_discrete}
use native.Mathlib.Omega.{arith}
use lib.Dec.{leb, eqb}
use lib.ListN.{length, get_or, set, replicate, length-set, length-replicate}
use lib.Seq.{get_or-set_same, get_or-set_other}
use borrow.Author.Tests.{leb-true}
use Rattle.sets.proofs.Every.{and_first, and_second}
use Rattle.rules.specs.Limits.{most_states, most_bits}
use Rattle.rules.specs.Text.{bytes, dash, nought, one, same, mark_of, fields_of, field_at, all_of, sized, set_of}
use Rattle.rules.specs.Listing.{nothing}
use Rattle.rules.specs.CheckTexts.{code_fits, width_in, is_number, code_good, with_code, codes_from, codes_reading, CodesReading}
use Rattle.rules.specs.declared.Refusal.TheVariants.{BadLine}
use Rattle.rules.specs.declared.CodeTable.{CodeTable}
use Rattle.rules.specs.Refusals.{refused}
use Rattle.rules.proofs.Characters.{sized-length, sized_set}
use Rattle.rules.proofs.Known.{same-eq}
use Rattle.rules.proofs.Ways.{not-accepted, same-accepted}
use Rattle.std.specs.Prelude.{Ok}

pub record FitCodes (n : ℕ) (c : CodeTable) : Type 0 where
  pub few : c.width ≤ most_bits
  pub long : length c.table ≡ most_states
  pub code : (s : ℕ) → s < n → get_or c.table s 0 < 2 ^ c.width

-- ---- one code

dash-none : set_of one (dash ∷ []) ≡ 0
unfolding set_of
dash-none = refl

fits-code : (w : ℕ) (f : List ℕ) → code_fits w f ≡ true → (set_of one f < 2 ^ w) × (w ≤ most_bits)
unfolding code_fits sized
fits-code zero f e = (omega (arith, ap (set_of one) (same-eq f (dash ∷ []) e) ∙ dash-none), omega arith)
fits-code (suc w) f e =
    let few : length f ≤ most_bits = leb-true _ _ (and_first (leb (length f) most_bits) (eqb (length f) (suc w) && all_of nought one one f) e) in
    (sized_set most_bits (suc w) nought one one f e one, omega (arith, few, sized-length most_bits (suc w) nought one one f e))

good-code : (w s : ℕ) (l : List ℕ) → code_good w s l ≡ true → (set_of one (field_at l 2) < 2 ^ w) × (w ≤ most_bits)
unfolding code_good
good-code w s l e =
    let a = eqb (length (fields_of l)) 3 in
    let b = same (mark_of l) (bytes "SC") in
    let n = is_number s (field_at l 1) in
    let d = code_fits w (field_at l 2) in
    fits-code w (field_at l 2) (and_second n d (and_second b (n && d) (and_second a (b && (n && d)) e)))

-- ---- line by line

-- codes of the states below s
abbrev Front : ℕ → CodeTable → Type 0
Front s c = (length c.table ≡ most_states) × ((y : ℕ) → y < s → get_or c.table y 0 < 2 ^ c.width)

one_more : (s m : ℕ) (c : CodeTable) → s < most_states → m < 2 ^ c.width → Front s c → Front (s + 1) (with_code s m c)
one_more s m c h fits front = (length-set c.table s m ∙ front.0, λ y l. go y l (ℕ_discrete y s))
  where
    go : (y : ℕ) → y < s + 1 → Dec (y ≡ s) → get_or (set c.table s m) y 0 < 2 ^ c.width
    go y l (yes e) = subst (λ (x : ℕ). x < 2 ^ c.width) (sym (ap (λ (k : ℕ). get_or (set c.table s m) k 0) e ∙ get_or-set_same c.table s m 0 (omega (arith, front.0)))) fits
    go y l (no o) = subst (λ (x : ℕ). x < 2 ^ c.width) (sym (get_or-set_other c.table s y m 0 o)) (front.1 y (omega (arith, o)))

abbrev Whole : ℕ → CodeTable → CodeTable → Type 0
Whole n c d = (d.width ≡ c.width) × Front n d

-- what is read if a test holds, else a refusal at line k
abbrev tested : Bool → CodesReading → ℕ → CodesReading
tested b r k = elim b [ true ↦ r | false ↦ refused BadLine k ]

read-end : (s : ℕ) (c d : CodeTable) (b : Bool) → Front s c → tested b (Ok c) (s + 1) ≡ Ok d → Whole (s + 0) c d
read-end s c d true front e =
    let none : s ≡ s + 0 = omega arith in
    subst (Whole (s + 0) c) (same-accepted e) (refl, subst (λ (n : ℕ). Front n c) none front)
read-end s c d false front e = absurd (not-accepted e)

read-from : (s k : ℕ) (c d : CodeTable) (ls : List (List ℕ)) → s + k ≤ most_states → Front s c → codes_from s k c ls ≡ Ok d → Whole (s + k) c d
unfolding codes_from
read-from s zero c d ls few front e = read-end s c d (nothing ls) front e
read-from s (suc k) c d [] few front e = absurd (not-accepted e)
read-from s (suc k) c d (l ∷ []) few front e = absurd (not-accepted e)
read-from s (suc k) c d (l ∷ (m ∷ ms)) few front e = go (code_good c.width s l) refl e (read-from (s + 1) k (with_code s code c) d (m ∷ ms) (omega arith))
  where
    code : ℕ
    code = set_of one (field_at l 2)

    more : CodesReading
    more = codes_from (s + 1) k (with_code s code c) (m ∷ ms)

    next : s + 1 + k ≡ s + suc k
    next = omega arith

    go : (b : Bool) → code_good c.width s l ≡ b → tested b more (s + 1) ≡ Ok d → (Front (s + 1) (with_code s code c) → more ≡ Ok d → Whole (s + 1 + k) (with_code s code c) d) → Whole (s + suc k) c d
    go true q e later = subst (λ (n : ℕ). Whole n c d) next (later (one_more s code c (omega arith) (good-code c.width s l q).0 front) e)
    go false q e later = absurd (not-accepted e)

-- the width is that of the first line, which there is
first-few : (k : ℕ) (c d : CodeTable) (ls : List (List ℕ)) → codes_from 0 (suc k) c ls ≡ Ok d → c.width ≤ most_bits
unfolding codes_from
first-few k c d [] e = absurd (not-accepted e)
first-few k c d (l ∷ []) e = absurd (not-accepted e)
first-few k c d (l ∷ (m ∷ ms)) e = go (code_good c.width 0 l) refl e
  where
    more : CodesReading
    more = codes_from (0 + 1) k (with_code 0 (set_of one (field_at l 2)) c) (m ∷ ms)

    go : (b : Bool) → code_good c.width 0 l ≡ b → tested b more (0 + 1) ≡ Ok d → c.width ≤ most_bits
    go true q e = (good-code c.width 0 l q).1
    go false q e = absurd (not-accepted e)

pub codes-fit : (n : ℕ) (ls : List (List ℕ)) {d : CodeTable} → 1 ≤ n → n ≤ most_states → codes_reading n ls ≡ Ok d → FitCodes n d
unfolding codes_reading
codes-fit n ls {d} some few e =
    let c : CodeTable = record { width = width_in (get_or ls 0 []); table = replicate most_states 0 } in
    let r = read-from 0 n c d ls (omega arith) (length-replicate {A = ℕ} most_states 0, λ y l. absurd (omega arith)) e in
    let z : 0 + n ≡ n = omega arith in
    record {
      few = subst (λ (w : ℕ). w ≤ most_bits) (sym r.0) (width n some e);
      long = r.1.0;
      code = λ s l. r.1.1 s (omega (arith, z));
    }
  where
    width : (n : ℕ) → 1 ≤ n → codes_from 0 n (record { width = width_in (get_or ls 0 []); table = replicate most_states 0 }) ls ≡ Ok d → width_in (get_or ls 0 []) ≤ most_bits
    width zero h e = absurd (omega arith)
    width (suc k) h e = first-few k (record { width = width_in (get_or ls 0 []); table = replicate most_states 0 }) d ls e
