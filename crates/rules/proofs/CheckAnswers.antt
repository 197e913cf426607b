-- 02, request 10, by the answer's bytes: `OK` exactly when the codes are distinct, every group requirement is met and the cover agrees at each state and input; `AT`
-- exactly when those are met and the cover fails there and nowhere before; and `UN` exactly when that requirement is unmet and all before it are met.
use Rattle.std.specs.Prelude.{Option, Some, None}
use mathlib.Core.Path.{◌≡◌, refl, sym, ap, ap₂, subst, ◌∙◌}
use mathlib.Core.Logic.{◌↔◌}
use mathlib.Core.Bool.{Bool, true, false}
use mathlib.Core.List.{List, [], ◌∷◌}
use Prim.Native.Nat.{ℕ, zero, suc, ◌+◌, ◌^◌, ◌<◌}
use native.Mathlib.Omega.{arith}
use lib.ListN.{length, get_or}
use Rattle.rules.specs.Text.{bytes}
use Rattle.rules.specs.Listing.{no_requirement}
use Rattle.rules.specs.Requirements.{pairs_and_groups, met_by_code}
use Rattle.rules.specs.Code.{unmet_from}
use Rattle.rules.specs.Report.{unmet_line}
use Rattle.rules.specs.Meaning.{agrees_at}
use Rattle.rules.specs.Least.{turned}
use Rattle.rules.specs.Check.{fault_at, fault_of, fault_line, check_line, check_text}
use Rattle.rules.specs.declared.Listing.{Listing}
use Rattle.rules.specs.declared.Requirement.{Requirement}
use Rattle.rules.specs.declared.Fault.{Fault}
use Rattle.rules.proofs.Unmet.{listed-met, listed-unmet}
use Rattle.rules.proofs.Faces.{Distinct}
use Rattle.rules.proofs.Reported.{un_text, two_numbers, numbers-same, un-same}
use Rattle.rules.proofs.Columns.{turned_lt, turned-twice}
use Rattle.rules.proofs.DistinctCodes.{GroupsMet, none-unmet-exactly}
use Rattle.rules.proofs.Checking.{FirstFault, unmet-ones, says-ok, ok-said, at-said, fault-first, un-said}

-- `AT state input` (the letters are 65 and 84)
abbrev pub at_text : ℕ → ℕ → List ℕ
at_text s v = two_numbers 65 84 s v

-- ---- the first byte tells an answer, and the rest its numbers

unlike : (a b : List ℕ) → (get_or a 0 0 ≡ get_or b 0 0 → ⊥) → a ≡ b → ⊥
unlike a b o e = o (ap (λ (l : List ℕ). get_or l 0 0) e)

at-line : (us : List ℕ) (f : Option Fault) (s v : ℕ) → check_line us f ≡ at_text s v → (us ≡ []) × (f ≡ fault_at s v)
unfolding check_line fault_line unmet_line
at-line [] (Some q) s v e =
    let same = numbers-same 65 84 (omega arith) (omega arith) q.state.0 q.input s v e in
    (refl, ap₂ (λ (a b : ℕ). fault_at a b) same.0 same.1)
at-line [] None s v e = absurd (unlike (fault_line None) (at_text s v) (λ (z : ◌≡◌ {A = ℕ} 79 65). omega arith) e)
at-line (u ∷ us) f s v e = absurd (unlike (un_text u) (at_text s v) (λ (z : ◌≡◌ {A = ℕ} 85 65). omega arith) e)

un-line : (us : List ℕ) (f : Option Fault) (r : ℕ) → check_line us f ≡ un_text r → (rs : List ℕ) × (us ≡ r ∷ rs)
unfolding check_line fault_line unmet_line
un-line [] (Some q) r e = absurd (unlike (at_text q.state.0 q.input) (un_text r) (λ (z : ◌≡◌ {A = ℕ} 65 85). omega arith) e)
un-line [] None r e = absurd (unlike (fault_line None) (un_text r) (λ (z : ◌≡◌ {A = ℕ} 79 85). omega arith) e)
un-line (u ∷ us) f r e = (us, ap (λ (x : ℕ). x ∷ us) (un-same u r e))

-- ---- the lowest that is unmet

-- requirement d of some is unmet, and each before it is met
abbrev pub FirstUnmet : ℕ → List ℕ → List Requirement → ℕ → Type 0
FirstUnmet n bits rs d = (d < length rs) × (met_by_code n bits (get_or rs d no_requirement) ≡ false) × ((q : ℕ) → q < d → met_by_code n bits (get_or rs q no_requirement) ≡ true)

module _ (n : ℕ) (bits : List ℕ) where
  -- the first that is listed; the first of these has the number k
  listed-first : (k : ℕ) (rs : List Requirement) (r : ℕ) (us : List ℕ) → unmet_from k n bits rs ≡ r ∷ us → (d : ℕ) × (r ≡ k + d) × FirstUnmet n bits rs d
  unfolding unmet_from
  listed-first k [] r us e = absurd (let z : ◌≡◌ {A = ℕ} 0 (suc (length us)) = ap (λ (l : List ℕ). length l) e in omega arith)
  listed-first k (x ∷ rs) r us e = go (met_by_code n bits x) refl (listed-first (suc k) rs r us)
    where
      go : (t : Bool) → met_by_code n bits x ≡ t → (unmet_from (suc k) n bits rs ≡ r ∷ us → (d : ℕ) × (r ≡ suc k + d) × FirstUnmet n bits rs d) → (d : ℕ) × (r ≡ k + d) × FirstUnmet n bits (x ∷ rs) d
      go true q later =
          let f = later (sym (listed-met k n bits x rs q) ∙ e) in
          (suc f.0, omega (arith, f.1), (omega (arith, f.2.0), f.2.1, before f.0 f.2.2))
        where
          before : (d : ℕ) → ((q : ℕ) → q < d → met_by_code n bits (get_or rs q no_requirement) ≡ true) → (j : ℕ) → j < suc d → met_by_code n bits (get_or (x ∷ rs) j no_requirement) ≡ true
          before d h zero l = q
          before d h (suc j) l = h j (omega arith)
      go false q later =
          let z : k ≡ r = ap (λ (l : List ℕ). get_or l 0 0) (sym (listed-unmet k n bits x rs q) ∙ e) in
          (0, omega arith, (omega arith, q, λ j l. absurd (omega arith)))

  first-listed : (k : ℕ) (rs : List Requirement) (d : ℕ) → FirstUnmet n bits rs d → (us : List ℕ) × (unmet_from k n bits rs ≡ (k + d) ∷ us)
  first-listed k [] d f = absurd (omega (arith, f.0))
  first-listed k (x ∷ rs) zero f = (unmet_from (suc k) n bits rs, listed-unmet k n bits x rs f.1 ∙ ap (λ (v : ℕ). v ∷ unmet_from (suc k) n bits rs) (omega arith))
  first-listed k (x ∷ rs) (suc d) f =
      let l = first-listed (suc k) rs d (omega (arith, f.0), f.1, λ q h. f.2 (suc q) (omega arith)) in
      (l.0, listed-met k n bits x rs (f.2 0 (omega arith)) ∙ l.1 ∙ ap (λ (v : ℕ). v ∷ l.0) (omega arith))

-- ---- each answer, exactly

module _ (t : Listing) (bits : List ℕ) (ls : List (List ℕ)) where
  pub ok-exactly : (check_text t bits ls ≡ bytes "OK\n")
      ↔ (Distinct t.head.states bits × GroupsMet t bits × ((s : ℕ) → s < t.head.states → (x : ℕ) → x < 2 ^ t.head.inputs → agrees_at t bits ls x s ≡ true))
  ok-exactly = (to, from)
    where
      i : ℕ
      i = t.head.inputs

      Everywhere : Type 0
      Everywhere = (s : ℕ) → s < t.head.states → (x : ℕ) → x < 2 ^ i → agrees_at t bits ls x s ≡ true

      to : check_text t bits ls ≡ bytes "OK\n" → Distinct t.head.states bits × GroupsMet t bits × Everywhere
      to e =
          let o = says-ok t bits ls e in
          let m = (none-unmet-exactly t bits).0 o.0 in
          (m.0, m.1, λ s l x b. subst (λ (y : ℕ). agrees_at t bits ls y s ≡ true) (turned-twice i x b) (o.1 s l (turned i x) (turned_lt i x)))

      from : Distinct t.head.states bits × GroupsMet t bits × Everywhere → check_text t bits ls ≡ bytes "OK\n"
      from h = ok-said t bits ls ((none-unmet-exactly t bits).1 (h.0, h.1)) (λ s l v b. h.2 s l (turned i v) (turned_lt i v))

  pub at-exactly : (s v : ℕ) → (check_text t bits ls ≡ at_text s v) ↔ (Distinct t.head.states bits × GroupsMet t bits × FirstFault t bits ls s v)
  unfolding check_text
  at-exactly s v =
      let met = none-unmet-exactly t bits in (
        λ e. let o = at-line (unmet-ones t bits ls) (fault_of t bits ls) s v e in let m = met.0 o.0 in (m.0, m.1, fault-first t bits ls s v o.1),
        λ h. at-said t bits ls (met.1 (h.0, h.1)) s v h.2,
      )

  pub un-exactly : (r : ℕ) → (check_text t bits ls ≡ un_text r) ↔ FirstUnmet t.head.states bits (pairs_and_groups t) r
  unfolding check_text
  un-exactly r = (to, from)
    where
      to : check_text t bits ls ≡ un_text r → FirstUnmet t.head.states bits (pairs_and_groups t) r
      to e =
          let o = un-line (unmet-ones t bits ls) (fault_of t bits ls) r e in
          let f = listed-first t.head.states bits 0 (pairs_and_groups t) r o.0 o.1 in
          subst (FirstUnmet t.head.states bits (pairs_and_groups t)) (omega (arith, f.1)) f.2

      from : FirstUnmet t.head.states bits (pairs_and_groups t) r → check_text t bits ls ≡ un_text r
      from f =
          let l = first-listed t.head.states bits 0 (pairs_and_groups t) r f in
          un-said t bits ls r l.0 (l.1 ∙ ap (λ (v : ℕ). v ∷ l.0) (omega arith))
