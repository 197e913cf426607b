-- What a line says, done to a listing, is what the rules do.
use Rattle.rules.specs.declared.StateOutputs.{StateOutputs}
use Rattle.rules.specs.declared.Requirement.{Requirement}
use Rattle.rules.specs.declared.Row.{Row}
use Rattle.rules.specs.declared.Refusal.{Refusal}
use Rattle.std.specs.Prelude.{Result, Ok, Err}
use mathlib.Core.Path.{◌≡◌, refl}
use mathlib.Core.Bool.{Bool, true, false, cond}
use mathlib.Core.List.{List}
use Prim.Native.Nat.{ℕ}
use Rattle.rules.specs.Text.{mark_of, mark_is}
use Rattle.rules.specs.Lines.{head_line, row_line, dichotomy_line, outputs_line, end_line}
use Rattle.rules.specs.Listing.{on_head, on_row, on_dichotomy, on_outputs, on_end, placed, line_does, line_step, Step}
use Rattle.rules.specs.declared.Head.{Head}
use Rattle.rules.specs.declared.Listing.{Listing}
use Rattle.rules.specs.declared.Mark.{Mark}
use Rattle.rules.specs.declared.Mark.TheVariants.{Mc, Mo, Pt, Di, Ou, Ft, En, Unknown}
use Rattle.read_listing.specs.declared.says.Said.{Said}
use Rattle.read_listing.specs.Says.{step_of, head_says, row_says, dichotomy_says, outputs_says, end_says, placed_says, line_says}

head_step : (x : Result Head Refusal) (t : Listing) → step_of (head_says x) t ≡ on_head x t
head_step (Ok h) t = refl
head_step (Err r) t = refl

row_step : (x : Result Row Refusal) (t : Listing) → step_of (row_says x) t ≡ on_row x t
row_step (Ok r) t = refl
row_step (Err r) t = refl

dichotomy-step : (x : Result Requirement Refusal) (t : Listing) → step_of (dichotomy_says x) t ≡ on_dichotomy x t
dichotomy-step (Ok d) t = refl
dichotomy-step (Err r) t = refl

outputs-step : (x : Result StateOutputs Refusal) (t : Listing) → step_of (outputs_says x) t ≡ on_outputs x t
outputs-step (Ok o) t = refl
outputs-step (Err r) t = refl

end_step : (x : Result Unit Refusal) (t : Listing) → step_of (end_says x) t ≡ on_end x
end_step (Ok tt) t = refl
end_step (Err r) t = refl

placed-step : (m : Mark) (k : ℕ) (t : Listing) (l : List ℕ) → step_of (placed_says m k t.head t.rows t.dichotomies l) t ≡ line_does m k t l
unfolding placed_says line_does
placed-step Mc k t l = head_step (head_line false l) t
placed-step Mo k t l = head_step (head_line true l) t
placed-step Pt k t l = row_step (row_line t.head t.rows k l) t
placed-step Di k t l = dichotomy-step (dichotomy_line t.head t.dichotomies l) t
placed-step Ou k t l = outputs-step (outputs_line t.head l) t
placed-step Ft k t l = refl
placed-step En k t l = end_step (end_line l) t
placed-step Unknown k t l = refl

cond_step : (b : Bool) (x y : Result Said Refusal) (t : Listing) {p q : Step} → step_of x t ≡ p → step_of y t ≡ q → step_of (cond b x y) t ≡ cond b p q
cond_step true x y t e f = e
cond_step false x y t e f = f

pub says-step : (k : ℕ) (t : Listing) (l : List ℕ) → step_of (line_says k t.head t.rows t.dichotomies t.given l) t ≡ line_step k t l
unfolding line_says line_step
says-step k t l = cond_step (placed (mark_is (mark_of l)) k t.head t.given l) _ _ t (placed-step (mark_is (mark_of l)) k t l) refl
