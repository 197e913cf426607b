-- 02, request 12, of the reports' texts: each code of the narrower report leads the wider one's, its `BY` lines stand there too, and the wider one's `UN`
-- lines stand in it.
use mathlib.Core.Path.{◌≡◌}
use mathlib.Core.List.{List}
use Prim.Native.Nat.{ℕ, ◌<◌}
use lib.ListN.{take, get_or}
use Rattle.rules.specs.Listing.{no_requirement}
use Rattle.rules.specs.Code.{code_of}
use Rattle.rules.specs.Report.{state_line}
use Rattle.rules.specs.declared.Requirement.{Requirement}
use Rattle.rules.proofs.Ended.{HasLine}
use Rattle.rules.proofs.Reported.{by_text, un_text, Tells}
use Rattle.rules.proofs.Unmet.{unmet-listed}
use Rattle.rules.proofs.Wider.{Wider}

-- of n states and codes whose bits are these, the first of width w
pub record WiderText (w n : ℕ) (bits wideBits narrow wide : List ℕ) : Type 0 where
  pub narrow-state : (s : ℕ) → s < n → HasLine narrow (state_line bits (record { 0 = s }))
  pub wide-state : (s : ℕ) → s < n → HasLine wide (state_line wideBits (record { 0 = s }))
  pub leads : (s : ℕ) → code_of bits s ≡ take w (code_of wideBits s)
  pub by-stays : (r k : ℕ) → HasLine narrow (by_text r k) → HasLine wide (by_text r k)
  pub un-among : (r : ℕ) → HasLine wide (un_text r) → HasLine narrow (un_text r)

pub told : (w n : ℕ) (rs : List Requirement) (bits wideBits narrow wide : List ℕ) → Wider w n rs bits wideBits → Tells n bits rs narrow → Tells n wideBits rs wide → WiderText w n bits wideBits narrow wide
told w n rs bits wideBits narrow wide k a b = record {
  narrow-state = a.states;
  wide-state = b.states;
  leads = k.codes;
  by-stays = λ r j h. let f = (a.by r j).0 h in (b.by r j).1 (f.0, k.kept (get_or rs r no_requirement) j f.1);
  un-among = λ r h. (a.un r).1 ((unmet-listed n bits rs r).0 (k.among r ((unmet-listed n wideBits rs r).1 ((b.un r).0 h))));
}
