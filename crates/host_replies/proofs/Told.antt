-- What is said of a refusal, and of a text whose lines are added to a part: the text, the part of it that fits, or 10.
use mathlib.Core.Path.{◌≡◌, refl, sym, ap, ap₂, ◌∙◌}
use mathlib.Core.Bool.{Bool, true, false, cond, ◌||◌}
use mathlib.Core.List.{List, [], ◌∷◌, ◌++◌}
use Prim.Native.Nat.{ℕ, ◌≤◌, ◌<◌}
use native.Mathlib.Omega.{arith}
use borrow.Author.Tests.{le-leb, lt-leb, ltb-true, ltb-false, leb-false}
use lib.Dec.{leb, ltb}
use lib.ListN.{length, drop, length-drop}
use Rattle.rules.specs.Report.{joined_lines}
use Rattle.rules.specs.Answers.{Reply, says, refuses}
use Rattle.rules.specs.Parts.{part, gets_on}
use Rattle.rules.specs.declared.Refusal.{Refusal}
use Rattle.rules.specs.declared.Refusal.TheVariants.{NoRoom}
use Rattle.write_parts.specs.Parts.{begun, added_all}
use Rattle.write_parts.proofs.Adding.{Lent}
use Rattle.rules.proofs.Ended.{Pieces}
use Rattle.write_parts.proofs.Parted.{Made, made, whole_part}
use Rattle.host_replies.specs.Saying.{saying, saying_part}
use Rattle.rules.specs.Refusals.{refused}
use Rattle.rules.specs.declared.Refused.{Refused}
use Rattle.std.specs.Prelude.{Ok, Result}

empty : (l : List ℕ) → length l ≡ 0 → l ≡ []
empty [] e = refl
empty (x ∷ l) e = absurd (omega arith)

-- ---- a refusal

module _ {reply : Reply} (r : Refusal) (k : ℕ) (h : reply ≡ refuses r k) (out : List ℕ) where
  pub refused-said : (refused r k, out) ≡ saying reply out
  unfolding saying
  refused-said = sym (ap (λ (x : Reply). saying x out) h)

  pub refused-part : (from : ℕ) → (refused r k, out) ≡ saying_part reply from out
  unfolding saying_part
  refused-part from = sym (ap (λ (x : Reply). saying_part x from out) h)

-- ---- the whole text

module _ {reply : Reply} (ls : List (List ℕ)) (lines : Pieces ls) (h : reply ≡ says (joined_lines ls)) (out : List ℕ) where
  abbrev text : List ℕ
  text = joined_lines ls

  pub no-space : ltb (length out) (length text) ≡ true → (refused NoRoom 0, out) ≡ saying reply out
  unfolding saying
  no-space f =
      let longer : length out < length text = ltb-true (length out) (length text) f in
      sym (ap (λ (x : Reply). saying x out) h ∙ rw (lt-leb (length text) (length out) longer))

  pub whole-said : ltb (length out) (length text) ≡ false → (s : Lent) → s ≡ added_all ls (begun 0, out) → (Ok s.0.given, s.1) ≡ saying reply out
  unfolding saying
  whole-said f s e =
      let fits : length text ≤ length out = ltb-false (length out) (length text) f in
      let m : Made text 0 out s = rw e (made ls lines 0 out) in
      let p : part (length out) 0 text ≡ text = whole_part (length out) ls lines fits in
      ap₂ (λ (n : ℕ) (o : List ℕ). (Ok n, o)) (m.given ∙ ap length p) (m.holds ∙ ap (λ (l : List ℕ). l ++ drop (length l) out) p)
      ∙ sym (ap (λ (x : Reply). saying x out) h ∙ rw (le-leb (length text) (length out) fits))

  -- ---- a part

  module _ (from : ℕ) (s : Lent) (e : s ≡ added_all ls (begun from, out)) where
    here : Made text from out s
    here = rw e (made ls lines from out)

    abbrev given : List ℕ
    given = part (length out) from text

    abbrev gives : Bool → Result ℕ Refused × List ℕ
    gives b = cond b (Ok (length given), given ++ drop (length given) out) (refused NoRoom 0, out)

    by-room : (b : Bool) → gets_on (length out) from text ≡ b → gives b ≡ saying_part reply from out
    unfolding saying_part
    by-room b q = sym (ap (λ (x : Reply). saying_part x from out) h ∙ ap gives q)

    -- nothing was given, and something is left
    pub part-waits : s.0.given ≡ 0 → s.0.full ≡ true → (refused NoRoom 0, s.1) ≡ saying_part reply from out
    unfolding gets_on
    part-waits z f =
        let none : length given ≡ 0 = sym here.given ∙ z in
        let left : length given < length (drop from text) = ltb-true (length given) (length (drop from text)) (sym here.full ∙ f) in
        let stuck : gets_on (length out) from text ≡ false =
        rw (lt-leb 1 (length given) (omega arith), lt-leb (length text) from (omega (arith, length-drop from text))) in
        ap (λ (o : List ℕ). (refused NoRoom 0, o)) (here.holds ∙ ap (λ (l : List ℕ). l ++ drop (length l) out) (empty given none)) ∙ by-room false stuck

    pub part-said : (s.0.given ≡ 0 → s.0.full ≡ false) → (Ok s.0.given, s.1) ≡ saying_part reply from out
    unfolding gets_on
    part-said g = ap₂ (λ (n : ℕ) (o : List ℕ). (Ok n, o)) here.given here.holds ∙ by-room true (go (leb 1 (length given)) refl)
      where
        go : (b : Bool) → leb 1 (length given) ≡ b → (b || leb (length text) from) ≡ true
        go true q = refl
        go false q =
            let none : length given < 1 = leb-false 1 (length given) q in
            let over : length (drop from text) ≤ length given = ltb-false (length given) (length (drop from text)) (sym here.full ∙ g (here.given ∙ omega arith)) in
            le-leb (length text) from (omega (arith, length-drop from text))
