-- What was written leaves one place and one buffer: the writers' promise, `Wrote`, allows no two results.
use mathlib.Core.Path.{◌≡◌}
use mathlib.Core.List.{List}
use Prim.Native.Nat.{ℕ}
use Rattle.sets.proofs.OneAnswer.{one_answer}
use Rattle.write_pen.specs.Pen.{Wrote}

pub one-writing : {d bs e f : List ℕ} {at r s : ℕ} → Wrote d at bs r e → Wrote d at bs s f → (r ≡ s) × (e ≡ f)
one-writing w v = (one_answer w.ends v.ends, one_answer w.holds v.holds)
