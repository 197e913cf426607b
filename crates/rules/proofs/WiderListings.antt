-- What a wider budget buys, of any two listings that differ in the width alone: their codes are as Wider says, and their reports' texts as WiderReports
-- says. Width 0 stands at the top of the row.
use mathlib.Core.Path.{◌≡◌, refl, sym, ap, ap₂, subst, ◌∙◌}
use mathlib.Core.Bool.{Bool, true, false, ◌&&◌, not, cond, true≢false}
use mathlib.Core.List.{List, [], ◌∷◌}
use Prim.Native.Nat.{ℕ, zero, suc, ◌≤◌}
use native.Mathlib.Omega.{arith}
use lib.Dec.{eqb}
use lib.ListN.{length, take}
use lib.Seq.{take_all}
use borrow.Author.Tests.{eqb-false, ne_eqb, eq-eqb}
use Rattle.rules.specs.Limits.{most_bits}
use Rattle.rules.specs.Listing.{reading}
use Rattle.rules.specs.Requirements.{requirements}
use Rattle.rules.specs.Code.{Code, coded, uncoded, build, unmet, coding}
use Rattle.rules.specs.Widths.{with_width}
use Rattle.rules.specs.Answers.{says, report_reply}
use Rattle.rules.specs.declared.Listing.{Listing}
use Rattle.rules.specs.declared.Requirement.{Requirement}
use Rattle.rules.specs.declared.Refusal.TheVariants.{TooWide}
use Rattle.rules.proofs.Built.{most_of, was-built}
use Rattle.rules.proofs.Reported.{Tells, reported, tells-of}
use Rattle.rules.proofs.Wider.{leading-bits, Wider, taken-wider}
use Rattle.rules.proofs.WiderReports.{WiderText, told}
use Rattle.std.specs.Prelude.{Ok}

-- ---- their codes

-- u is the listing t with another width
abbrev pub Alike : Listing → Listing → Type 0
Alike t u = u ≡ with_width u.head.width t

-- a width of 1 or more is that many bits
most-is : (t : Listing) → 1 ≤ t.head.width → most_of t ≡ t.head.width
most-is t h = ap (λ (b : Bool). cond b most_bits t.head.width) (ne_eqb t.head.width 0 (λ e. omega arith))

code-bits : (t : Listing) (c : Code) → coding t ≡ coded c → c.bits ≡ (build (most_of t) t.head.states (requirements t)).bits
code-bits t c e = ap (λ (d : Code). d.bits) (sym (was-built t c e))

pub same-states : (t u : Listing) → Alike t u → u.head.states ≡ t.head.states
same-states t u e = ap (λ (x : Listing). x.head.states) e

pub same_asked : (t u : Listing) → Alike t u → requirements u ≡ requirements t
unfolding requirements
same_asked t u e = ap requirements e

wide-bits : (t u : Listing) → Alike t u → 1 ≤ u.head.width → (d : Code) → coding u ≡ coded d → d.bits ≡ (build u.head.width t.head.states (requirements t)).bits
wide-bits t u a h d e =
    code-bits u d e
    ∙ ap (λ (k : ℕ). (build k u.head.states (requirements u)).bits) (most-is u h)
    ∙ ap₂ (λ (n : ℕ) (rs : List Requirement). (build u.head.width n rs).bits) (same-states t u a) (same_asked t u a)

-- both widths 1 or more, the narrower not above the wider
pub wider : (t u : Listing) → Alike t u → 1 ≤ t.head.width → t.head.width ≤ u.head.width
    → (c d : Code) → coding t ≡ coded c → coding u ≡ coded d → Wider t.head.width t.head.states (requirements t) c.bits d.bits
wider t u a h q c d e f =
    let narrow : c.bits ≡ take t.head.width d.bits =
    wide-bits t t refl h c e ∙ leading-bits t.head.width u.head.width t.head.states (requirements t) q ∙ ap (take t.head.width) (sym (wide-bits t u a (omega arith) d f)) in
    subst (λ (bits : List ℕ). Wider t.head.width t.head.states (requirements t) bits d.bits) (sym narrow) (taken-wider t.head.states t.head.width d.bits (requirements t))

-- ---- width 0 stands at the top of the row

coded-not : {c : Code} → uncoded TooWide ≡ coded c → ⊥
coded-not e = let z : ◌≡◌ {A = ℕ} 0 1 = cc in omega arith

-- answered, it meets everything
wide_enough : (t : Listing) (c : Code) → t.head.width ≡ 0 → coding t ≡ coded c → unmet t c.bits ≡ []
unfolding coding
wide_enough t c none e = go (length un) refl (eqb t.head.width 0) (eq-eqb t.head.width 0 none) e
  where
    d : Code
    d = build (most_of t) t.head.states (requirements t)

    un : List ℕ
    un = unmet t d.bits

    nothing : (l : List ℕ) → length l ≡ 0 → l ≡ []
    nothing [] q = refl
    nothing (x ∷ l) q = absurd (omega arith)

    go : (k : ℕ) → length un ≡ k → (z : Bool) → z ≡ true → cond (z && not (eqb (length un) 0)) (uncoded TooWide) (coded d) ≡ coded c → unmet t c.bits ≡ []
    go zero q z h f = ap (λ (x : Code). unmet t x.bits) (sym (was-built t c e)) ∙ nothing un q
    go (suc k) q true h f = absurd (coded-not (sym (ap (λ (b : Bool). cond (not b) (uncoded TooWide) (coded d)) (ne_eqb (length un) 0 (λ x. omega arith))) ∙ f))
    go (suc k) q false h f = absurd (true≢false (sym h))

-- refused 7, something is left unmet
left-unmet : (t : Listing) → coding t ≡ uncoded TooWide → 1 ≤ length (unmet t (build (most_of t) t.head.states (requirements t)).bits)
unfolding coding
left-unmet t e = go (eqb t.head.width 0) (eqb (length un) 0) refl e
  where
    d : Code
    d = build (most_of t) t.head.states (requirements t)

    un : List ℕ
    un = unmet t d.bits

    go : (z b : Bool) → eqb (length un) 0 ≡ b → cond (z && not b) (uncoded TooWide) (coded d) ≡ uncoded TooWide → 1 ≤ length un
    go z false q f = let o = eqb-false (length un) 0 q in omega arith
    go true true q f = absurd (coded-not (sym f))
    go false true q f = absurd (coded-not (sym f))

module _ (t u : Listing) (alike : Alike t u) (none : t.head.width ≡ 0) where
  abbrev top : List ℕ
  top = (build most_bits t.head.states (requirements t)).bits

  -- it may have as many bits as there can be
  top-bits : (build (most_of t) t.head.states (requirements t)).bits ≡ top
  top-bits = ap (λ (k : ℕ). (build k t.head.states (requirements t)).bits) (ap (λ (b : Bool). cond b most_bits t.head.width) (eq-eqb t.head.width 0 none))

  -- where it is answered, every width gives its first bits, and from its own length on nothing is unmet
  pub widest : 1 ≤ u.head.width → u.head.width ≤ most_bits → (c d : Code) → coding t ≡ coded c → coding u ≡ coded d
      → Wider u.head.width t.head.states (requirements t) d.bits c.bits × (unmet t c.bits ≡ []) × (length c.bits ≤ u.head.width → unmet t d.bits ≡ [])
  widest h q c d e f = (subst (λ (bits : List ℕ). Wider w n rs bits c.bits) (sym first) (taken-wider n w c.bits rs), all, λ l. ap (unmet t) (first ∙ take_all w c.bits l) ∙ all)
    where
      w : ℕ
      w = u.head.width

      n : ℕ
      n = t.head.states

      rs : List Requirement
      rs = requirements t

      first : d.bits ≡ take w c.bits
      first = wide-bits t u alike h d f ∙ leading-bits w most_bits n rs q ∙ ap (take w) (sym (code-bits t c e ∙ top-bits))

      all : unmet t c.bits ≡ []
      all = wide_enough t c none e

  -- where it is refused 7, the widest code leaves something unmet
  pub too_wide : u.head.width ≡ most_bits → (d : Code) → coding u ≡ coded d → coding t ≡ uncoded TooWide → 1 ≤ length (unmet t d.bits)
  too_wide h d f e =
      let wide = wide-bits t u alike (omega arith) d f ∙ ap (λ (k : ℕ). (build k t.head.states (requirements t)).bits) h in
      rw (wide ∙ sym top-bits) (left-unmet t e)

-- ---- their reports

-- the reports of any two listings that differ in the width alone, both widths 1 or more, the narrower not above the wider
pub wider-reports : (s z narrow wide : List ℕ) {t u : Listing} → reading s ≡ Ok t → reading z ≡ Ok u → report_reply s ≡ says narrow → report_reply z ≡ says wide
    → Alike t u → 1 ≤ t.head.width → t.head.width ≤ u.head.width
    → (bits : List ℕ) × (wideBits : List ℕ) × WiderText t.head.width t.head.states bits wideBits narrow wide
wider-reports s z narrow wide {t} {u} read again e f a h q =
    let p = reported s narrow e in
    let r = reported z wide f in
    let told-narrow = tells-of read p in
    let told-wide = tells-of again r in
    let d : List ℕ = r.code.bits in
    let same : Tells t.head.states d (requirements t) wide =
    subst (λ (n : ℕ). Tells n d (requirements t) wide) (same-states t u a) (subst (λ (rs : List Requirement). Tells u.head.states d rs wide) (same_asked t u a) told-wide.1) in (
      p.code.bits,
      d,
      told t.head.width t.head.states (requirements t) p.code.bits d narrow wide (wider t u a h q p.code r.code told-narrow.0 told-wide.0) told-narrow.1 same,
    )
