-- 01, "Refusal numbers", with 12 to 17 of 02, requests 01, 05, 08, 10, 11 and 13: the number of each refusal, and what a C host gets for one. 8 is unused: no bit can meet nothing that was unmet
-- (02, request 06).
use Rattle.std.specs.Prelude.{ℕ, ◌+◌, ◌*◌, ℤ, pos, neg_ℤ, Result, Err}
use Rattle.rules.specs.declared.Refusal.{Refusal}
use Rattle.rules.specs.declared.Refused.{Refused}
use Rattle.rules.specs.declared.Refusal.TheVariants.{BadLine, Limit, Place, EmptyGroup, NextState, Conflict, TooWide, Unmet, NoRoom, BadCall, Names, Unstable, NoNext, Misfit, NoShortCode, NoOutputs}

abbrev pub number : Refusal → ℕ
number BadLine = 1
number Limit = 2
number Place = 3
number EmptyGroup = 4
number NextState = 5
number Conflict = 6
number TooWide = 7
number Unmet = 9
number NoRoom = 10
number BadCall = 11
number Names = 12
number Unstable = 13
number NoNext = 14
number Misfit = 15
number NoShortCode = 16
number NoOutputs = 17

-- a refusal at a line, in place of what was asked for
abbrev pub refused : {A : Type 0} → Refusal → ℕ → Result A Refused
refused r k = Err (record { refusal = r; line = k })

-- what a call comes to that gives nothing but leave to go on
abbrev pub Verdict : Type 0
Verdict = Result (Unit {0}) Refused

-- minus (number × 100,000 + line)
unfoldable pub minus : Refusal → ℕ → ℤ
minus r line = neg_ℤ (pos (number r * 100000 + line))
