-- What a line says has room in the listing: a row that is read is one of the first 128, a dichotomy one of the first 64, and a state one of the head's, which are at most 64.
use Rattle.rules.specs.declared.StateOutputs.{StateOutputs}
use Rattle.rules.specs.declared.Requirement.{Requirement}
use Rattle.rules.specs.declared.Row.{Row}
use Rattle.rules.specs.declared.Refusal.{Refusal}
use Rattle.rules.specs.declared.Head.{Head}
use Rattle.std.specs.Prelude.{Result, Ok, Err}
use mathlib.Core.Path.{◌≡◌, refl, sym, subst}
use mathlib.Core.Bool.{Bool, true, false, cond}
use mathlib.Core.List.{List}
use Prim.Native.Nat.{ℕ, ◌*◌, ◌%◌, ◌^◌, ◌≤◌, ◌<◌}
use native.Mathlib.Omega.{arith}
use lib.ListN.{set}
use lib.Bits.{bit_or}
use Rattle.sets.proofs.Members.{shl_one}
use Rattle.rules.specs.Limits.{most_states, most_rows, most_dichotomies}
use Rattle.rules.specs.Text.{mark_of, mark_is}
use Rattle.rules.specs.Lines.{head_line, row_line, dichotomy_line, outputs_line, end_line}
use Rattle.rules.specs.Listing.{blank, with_outputs, placed}
use Rattle.rules.specs.declared.Pattern.{Pattern}
use Rattle.rules.specs.declared.Listing.{Listing}
use Rattle.rules.specs.declared.Mark.{Mark}
use Rattle.rules.specs.declared.Mark.TheVariants.{Mc, Mo, Pt, Di, Ou, Ft, En, Unknown}
use Rattle.rules.proofs.SoundLines.{head-sound, row_read, dichotomy-sound, outputs-sound}
use Rattle.read_listing.specs.declared.says.Said.{Said}
use Rattle.read_listing.specs.Says.{head_says, row_says, dichotomy_says, outputs_says, end_says, placed_says, line_says}

-- what a line says may be done
abbrev pub Room : Result Said Refusal → Listing → Type 0
Room (Ok (Said.Head h)) t = h.states ≤ most_states
Room (Ok (Said.Row r)) t = t.rows < most_rows
Room (Ok (Said.Dichotomy d)) t = t.dichotomies < most_dichotomies
Room (Ok (Said.Outputs o)) t = o.state.0 < t.head.states
Room (Ok Said.End) t = Unit {0}
Room (Err r) t = Unit {0}

head-has-room : (x : Result Head Refusal) (t : Listing) (m : Bool) (l : List ℕ) → head_line m l ≡ x → Room (head_says x) t
head-has-room (Ok h) t m l e = (head-sound m l h e).few-states
head-has-room (Err r) t m l e = tt

row-has-room : (x : Result Row Refusal) (t : Listing) (k : ℕ) (l : List ℕ) → row_line t.head t.rows k l ≡ x → Room (row_says x) t
row-has-room (Ok r) t k l e = (row_read t.head t.rows k l r e).room
row-has-room (Err r) t k l e = tt

dichotomy-has-room : (x : Result Requirement Refusal) (t : Listing) (l : List ℕ) → dichotomy_line t.head t.dichotomies l ≡ x → Room (dichotomy_says x) t
dichotomy-has-room (Ok d) t l e = (dichotomy-sound t.head t.dichotomies l d e).0
dichotomy-has-room (Err r) t l e = tt

outputs-has-room : (x : Result StateOutputs Refusal) (t : Listing) (l : List ℕ) → outputs_line t.head l ≡ x → Room (outputs_says x) t
outputs-has-room (Ok o) t l e = (outputs-sound t.head l o e).0
outputs-has-room (Err r) t l e = tt

end-has-room : (x : Result Unit Refusal) (t : Listing) → Room (end_says x) t
end-has-room (Ok tt) t = tt
end-has-room (Err r) t = tt

placed-has-room : (m : Mark) (k : ℕ) (t : Listing) (l : List ℕ) → Room (placed_says m k t.head t.rows t.dichotomies l) t
unfolding placed_says
placed-has-room Mc k t l = head-has-room (head_line false l) t false l refl
placed-has-room Mo k t l = head-has-room (head_line true l) t true l refl
placed-has-room Pt k t l = row-has-room (row_line t.head t.rows k l) t k l refl
placed-has-room Di k t l = dichotomy-has-room (dichotomy_line t.head t.dichotomies l) t l refl
placed-has-room Ou k t l = outputs-has-room (outputs_line t.head l) t l refl
placed-has-room Ft k t l = tt
placed-has-room En k t l = end-has-room (end_line l) t
placed-has-room Unknown k t l = tt

cond-has-room : (b : Bool) (x y : Result Said Refusal) (t : Listing) → Room x t → Room y t → Room (cond b x y) t
cond-has-room true x y t p q = p
cond-has-room false x y t p q = q

line-has-room : (k : ℕ) (t : Listing) (l : List ℕ) → Room (line_says k t.head t.rows t.dichotomies t.given l) t
unfolding line_says
line-has-room k t l = cond-has-room (placed (mark_is (mark_of l)) k t.head t.given l) _ _ t (placed-has-room (mark_is (mark_of l)) k t l) tt

pub said-room : (k : ℕ) (t : Listing) (l : List ℕ) {x : Result Said Refusal} → line_says k t.head t.rows t.dichotomies t.given l ≡ x → Room x t
said-room k t l {x} e = rw e at (line-has-room k t l)

-- ---- what the reader does with a state's outputs

-- it has as many states as the head says, and at first none
abbrev pub Few : Listing → Type 0
Few t = t.head.states ≤ most_states

pub blank-few : {t : Listing} → t ≡ blank → Few t
unfolding blank
blank-few e = subst Few (sym e) (omega arith)

-- the machine's `1 << n` is the set that has state n alone
pub outputs-done : (t : Listing) (n : ℕ) (p : Pattern) → n < most_states
    → record { head = t.head; rows = t.rows; table = t.table; dichotomies = t.dichotomies; asked = t.asked; said = set t.said n p; given = bit_or t.given (1 * 2 ^ n % 2 ^ 64) }
    ≡ with_outputs n p t
outputs-done t n p h = rw (shl_one 64 n h)
