-- The number given is 01's, and what was said is small enough for it.
use mathlib.Core.Path.{◌≡◌, refl, sym, ap, ◌∙◌, subst}
use mathlib.Core.Bool.{Bool, true, false, cond}
use mathlib.Core.List.{List, ◌++◌}
use Prim.Native.Nat.{ℕ, ◌≤◌, ◌<◌}
use native.Mathlib.Omega.{arith}
use lib.IntN.{ℤ, pos}
use lib.Signed.{mag}
use mir.Syntax.{w64}
use mir.Val.{to_z, of_z}
use mir.Facts.{to_z-of_z}
use lib.Dec.{leb}
use lib.ListN.{length, drop, length-drop, length-append}
use Rattle.std.specs.Prelude.{Result, Ok}
use Rattle.rules.specs.Refusals.{minus, refused}
use Rattle.rules.specs.Answers.{Reply, says, refuses, answered}
use Rattle.rules.specs.Parts.{whole_lines, part, gets_on, answered_part}
use Rattle.rules.specs.declared.Refusal.TheVariants.{NoRoom}
use Rattle.rules.specs.declared.Refused.{Refused}
use Rattle.rules.proofs.Parts.{whole-front}
use Rattle.host_replies.specs.Saying.{saying, saying_part}
use Rattle.host_replies.proofs.Replies.{Small}
use Rattle.host_replay.proofs.Replies.{SmallRun}
use Rattle.host_check.proofs.Room.{Room}
use Rattle.tsurmokan.specs.Signed.{signed, Within}

-- a number of 64 bits, read back as it was
back : {z : ℤ} → mag z < 9223372036854775808 → to_z w64 (of_z w64 z) ≡ z
back h = to_z-of_z {w = w64} (record { sfits = h })

-- a part is no longer than the text
part-short : (room from : ℕ) (text : List ℕ) → length (part room from text) ≤ length text
unfolding part
part-short room from text =
    let left : List ℕ = drop from text in
    omega (
      arith,
      length-drop from text,
      ap length (whole-front room left),
      length-append (whole_lines room left) (drop (length (whole_lines room left)) left),
    )

-- a text that was given, or none for want of room, as a number
abbrev given : Bool → ℕ → List ℕ → List ℕ → Result ℕ Refused × List ℕ
given b n text out = cond b (Ok n, text) (refused NoRoom 0, out)

as_number : (b : Bool) (n : ℕ) (text out : List ℕ) → ◌≡◌ {A = ℤ × List ℕ} (signed (given b n text out).0, (given b n text out).1) (cond b (pos n, text) (minus NoRoom 0, out))
unfolding signed
as_number true n text out = refl
as_number false n text out = refl

within-given : (b : Bool) (n : ℕ) (text out : List ℕ) → n < 9223372036854775808 → Within (given b n text out).0
within-given true n text out h = h
within-given false n text out h = omega arith

-- ---- a reply that a number can tell

abbrev pub Short : Reply → Type 0
Short (says text) = length text < 9223372036854775808
Short (refuses r line) = line < 100000

-- every reply to a listing alone, every replay, and every check
pub small-short : (x : Reply) → Small x → Short x
small-short (says text) h = omega arith
small-short (refuses r line) h = h

pub run_short : (x : Reply) → SmallRun x → Short x
run_short (says text) h = omega arith
run_short (refuses r line) h = h

pub check-short : (x : Reply) → Room x → Short x
check-short (says text) h = omega arith
check-short (refuses r line) h = h

-- ---- what was said is the answer, and small enough for its number

-- of a reply: what is said, and what a C host gets
pub record Told (said : Result ℕ Refused × List ℕ) (answer : ℤ × List ℕ) : Type 0 where
  pub same : ◌≡◌ {A = ℤ × List ℕ} (signed said.0, said.1) answer
  pub within : Within said.0

-- the whole
pub told : (reply : Reply) → Short reply → (out : List ℕ) → Told (saying reply out) (answered reply out)
unfolding saying answered signed
told (says text) h out =
    let room : Bool = leb (length text) (length out) in
    record { same = as_number room (length text) (text ++ drop (length text) out) out; within = within-given room (length text) (text ++ drop (length text) out) out h }
told (refuses r line) h out = record { same = refl; within = h }

-- a part
pub told_part : (reply : Reply) → Short reply → (from : ℕ) (out : List ℕ) → Told (saying_part reply from out) (answered_part reply from out)
unfolding saying_part answered_part signed
told_part (says text) h from out =
    let l : List ℕ = part (length out) from text in
    let room : Bool = gets_on (length out) from text in
    record {
      same = as_number room (length l) (l ++ drop (length l) out) out;
      within = within-given room (length l) (l ++ drop (length l) out) out (omega (arith, part-short (length out) from text));
    }
told_part (refuses r line) h from out = record { same = refl; within = h }

module _ {said : Result ℕ Refused} {after : List ℕ} {reply : Result ℕ Refused × List ℕ} {answer : ℤ × List ℕ} (t : Told reply answer)
    (e : ◌≡◌ {A = Result ℕ Refused × List ℕ} (said, after) reply) where
  pub said-within : Within said
  said-within = subst Within (sym (ap (λ (p : Result ℕ Refused × List ℕ). p.0) e)) t.within

  pub number-given : {r : ℤ} → mag r < 9223372036854775808 → r ≡ signed said → ◌≡◌ {A = ℤ × List ℕ} (to_z w64 (of_z w64 r), after) answer
  number-given fits h = ap (λ (x : ℤ). (x, after)) (back fits ∙ h) ∙ ap (λ (p : Result ℕ Refused × List ℕ). (signed p.0, p.1)) e ∙ t.same
