-- P1 to P10 of 01, "Known examples", a sequencer, Table III of 001, and some recorded runs, and some codes and covers that are checked: one table, one test that is computed over all of it, and the law that makes it each case's statement.
use Rattle.rules.specs.declared.Refusal.{Refusal}
use Rattle.std.specs.Prelude.{Result, Ok, Err}
use mathlib.Core.Path.{◌≡◌, refl, ap₂}
use mathlib.Core.Bool.{Bool, true, false, ◌&&◌}
use mathlib.Core.List.{List, [], ◌∷◌, map}
use Prim.Native.Nat.{ℕ, zero, suc}
use Prim.Native.String.{String}
use native.Mathlib.Omega.{arith}
use lib.Dec.{eqb}
use lib.ListN.{length, get_or}
use borrow.Author.Tests.{eqb-true}
use Rattle.sets.specs.Sets.{flip}
use Rattle.sets.proofs.Every.{and_first, and_second}
use Rattle.rules.specs.Text.{bytes, same, digit, one, plus, dash, set_of}
use Rattle.rules.specs.Lines.{head_line}
use Rattle.rules.specs.Listing.{dichotomies_of, reading, Reading}
use Rattle.rules.specs.Requirements.{group_asks, met_by_code}
use Rattle.rules.specs.Looks.{looks_at}
use Rattle.rules.specs.Cover.{face, face_at}
use Rattle.rules.specs.Answers.{report_reply, cover_reply, printed}
use Rattle.rules.specs.Widths.{widths_reply}
use Rattle.rules.specs.Least.{least_reply, least_cover_reply}
use Rattle.rules.specs.Replay.{replay_reply}
use Rattle.rules.specs.Check.{check_reply}
use Rattle.rules.specs.declared.Head.{Head}
use Rattle.rules.specs.declared.Requirement.{Requirement}

-- ---- codes and requirements as 01 writes them

-- the bits of some states' codes, first bit leftmost
unfoldable pub bits_in : ℕ → ℕ → List (List ℕ) → List ℕ
unfolding set_of
bits_in k zero codes = []
bits_in k (suc w) codes = set_of one (map (λ c. get_or c k 0) codes) ∷ bits_in (suc k) w codes

abbrev pub bits_of : List String → List ℕ
unfolding bits_in
bits_of codes = let cs = map bytes codes in bits_in 0 (length (get_or cs 0 [])) cs

-- `+` for the first block and `-` for the second
abbrev pub asked : String → Requirement
unfolding set_of
asked s = record { first = set_of plus (bytes s); second = set_of dash (bytes s) }

unfoldable pub all_met : ℕ → List ℕ → List Requirement → Bool
unfolding met_by_code
all_met n bits [] = true
all_met n bits (r ∷ rs) = met_by_code n bits r && all_met n bits rs

-- which of a run's moves look at r
unfoldable pub looks_of : ℕ → Requirement → ℕ → List ℕ → List ℕ
unfolding looks_at
looks_of n r b [] = []
looks_of n r b (s ∷ ss) = digit (looks_at n r b s) ∷ looks_of n r (flip b s) ss

-- ---- the table

pub data Case : Type 0 where
  -- the report, and the cover, that are printed for a listing
  reports : String → String → Case
  covers : String → String → Case
  -- what each width buys it
  buys : String → String → Case
  -- the dichotomies of a listing, each as in `DI`
  gives : String → List String → Case
  -- the report of a small machine's least code, and the cover in it
  leasts : String → String → Case
  least-covers : String → String → Case
  -- the replay of a recorded run
  replays : String → String → String → Case
  -- what checking says of a listing, codes and a cover
  checks : String → String → String → String → Case
  -- a first line, and the numbers read
  reads : String → Head → Case
  -- some states' codes, a group as in `PT`, and its face; all that the group asks is met
  faces : List String → String → String → Case
  -- some states' codes, and a requirement as in `DI` that they meet
  meets : List String → String → Case
  -- a bit that is all 0, a requirement as in `DI`, the states moved, and which moves look at it
  looked : String → List ℕ → List ℕ → Case

p1 : String
p1 = "MC 3 1 1 0\nPT 0 110 001 1\nPT 1 101 100 0\nEN\n"

-- P1 with every row kept
p1-kept : String
p1-kept = "MC 3 1 1 0 1\nPT 0 110 001 1\nPT 1 101 100 0\nEN\n"

p2 : String
p2 = "MC 3 1 1 1\nPT 0 110 001 1\nPT 1 101 100 0\nEN\n"

p3 : String
p3 = "MC 1 1 1 0\nPT 0 1 1 1\nEN\n"

p4 : String
p4 = "MC 2 1 1 0\nEN\n"

p5 : List String
p5 = "001" ∷ "111" ∷ "101" ∷ "100" ∷ []

p6 : List String
p6 = "010" ∷ "110" ∷ "101" ∷ "000" ∷ "001" ∷ "011" ∷ "100" ∷ []

p7 : List String
p7 = "100" ∷ "101" ∷ "010" ∷ "111" ∷ []

p9 : String
p9 = "MC 3 1 1 0\nPT 0 110 100 1\nPT - 010 001 1\nEN\n"

-- a sequencer, as 02, request 13, has it
sequencer : String
sequencer = "MO 4 2 3 0\nPT 1- 1000 0100\nPT 0- 1000 1000\nOU 3 0-1\nPT -1 0100 0010\nPT -0 0100 0100\nPT -1 0010 0001\nPT -0 0010 0010\nPT -- 0001 1000\nOU 0 000\nOU 1 100\nOU 2 010\nEN\n"

-- 001, Table III: s1 to s4 are the states 0 to 3, the columns 00, 01, 11, 10
table-iii : String
table-iii = "MC 4 2 1 0\nFT 0 1 0 0\nFT 2 1 1 3\nFT 2 1 0 2\nFT 2 3 1 3\nEN\n"

-- the codes of P1's report
c1 : String
c1 = "SC 0 00\nSC 1 10\nSC 2 01\n"

-- one row, at the inputs 10, with a free output
u1 : String
u1 = "MC 2 2 2 0\nPT 10 11 10 1-\nEN\n"

pub cases : List Case
unfolding c1 u1 p1 p1-kept p2 p3 p4 p5 p6 p7 p9 sequencer table-iii
cases =
    reports p1 "CT 2 5 0 2 17\nSC 0 00\nSC 1 10\nSC 2 01\nBY 0 0\nBY 1 1\nBY 2 0\nBY 3 1\nBY 4 0\nEN\n"
    ∷ covers p1 ".i 3\n.o 3\n.type fd\n.p 1\n0-0 011\n.e\n"
    ∷ covers p1-kept ".i 3\n.o 3\n.type fd\n.p 2\n0-0 011\n10- 000\n.e\n"
    ∷ reports p2 "CT 1 5 2 1 12\nSC 0 0\nSC 1 1\nSC 2 0\nBY 0 0\nBY 2 0\nBY 4 0\nUN 1\nUN 3\nEN\n"
    ∷ covers p2 "NO 9 0\n"
    ∷ buys p2 "WD 1 2 0\nWD 2 0 1\nEN\n"
    ∷ reports p3 "CT 0 0 0 0 0\nSC 0 -\nEN\n"
    ∷ buys p3 "EN\n"
    ∷ covers p3 ".i 1\n.o 1\n.type fd\n.p 1\n0 1\n.e\n"
    ∷ reports p4 "CT 1 1 0 1 2\nSC 0 0\nSC 1 1\nBY 0 0\nEN\n"
    ∷ covers p4 ".i 2\n.o 2\n.type fd\n.p 0\n.e\n"
    ∷ faces p5 "1011" "-0-"
    ∷ faces p5 "1010" "-01"
    ∷ faces p5 "0111" "1--"
    ∷ faces p6 "0110001" "1--"
    ∷ faces p6 "1001000" "0-0"
    ∷ faces p6 "0001001" "-00"
    ∷ meets p7 "++.+"
    ∷ meets p7 "+-+."
    ∷ meets p7 "+.+-"
    ∷ meets p7 "-.++"
    ∷ meets p7 ".-++"
    ∷ looked "+++++" (0 ∷ 1 ∷ 2 ∷ 3 ∷ 4 ∷ []) (1 ∷ 1 ∷ 0 ∷ 1 ∷ 1 ∷ [])
    ∷ reports p9 "NO 6 3\n"
    ∷ covers p9 "NO 6 3\n"
    ∷ reads "MC 64 1 1 64" (record { states = 64; inputs = 1; outputs = 1; width = 64; keeps = false; moore = false })
    ∷ reads "MC 64 1 1 64 1" (record { states = 64; inputs = 1; outputs = 1; width = 64; keeps = true; moore = false })
    ∷ reads "MO 64 1 1 64" (record { states = 64; inputs = 1; outputs = 1; width = 64; keeps = false; moore = true })
    ∷ reports "MC 65 1 1 0\n" "NO 2 1\n"
    ∷ covers sequencer ".i 4\n.o 5\n.type fd\n.p 8\n1-00 01000\n-101 11000\n-001 01000\n-111 10000\n-011 11000\n--01 00100\n--11 00010\n--10 000-1\n.e\n"
    ∷ reports "MO 2 1 1 0\nOU 1 1\nEN\n" "NO 17 3\n"
    ∷ gives table-iii ("+---" ∷ "+++-" ∷ "+-+-" ∷ "+-.-" ∷ "+.-." ∷ ".+-+" ∷ [])
    ∷ reports table-iii "CT 4 12 0 6 104\nSC 0 0000\nSC 1 1110\nSC 2 0110\nSC 3 1011\nBY 0 0\nBY 1 1\nBY 2 0\nBY 3 0\nBY 4 1\nBY 5 0\nBY 6 2\nBY 7 3\nBY 8 0\nBY 9 0\nBY 10 1\nBY 11 0\nEN\n"
    ∷ covers table-iii ".i 6\n.o 5\n.type fd\n.p 0\n.e\n"
    ∷ gives "MC 3 1 1 0\nFT 0 -\nFT - 1\nFT 2 1\nEN\n" ("+.-" ∷ [])
    ∷ reports "MC 3 1 1 0\nFT 0 -\nFT - 2\nFT 1 -\nEN\n" "NO 13 3\n"
    ∷ leasts p1 "CT 2 5 0 0 0\nSC 0 00\nSC 1 01\nSC 2 10\nBY 0 1\nBY 1 0\nBY 2 0\nBY 3 0\nBY 4 1\nEN\n"
    ∷ least-covers p1 ".i 3\n.o 3\n.type fd\n.p 1\n00- 101\n.e\n"
    ∷ leasts p3 "CT 0 0 0 0 0\nSC 0 -\nEN\n"
    ∷ leasts "MC 7 1 1 0\nXX\n" "NO 2 1\n"
    ∷ replays p1 "SS 0\nIN 0\nIN 1\nIN 0\nIN 0\nIN x\n" "ST 2 01 1\nST 0 00 0\nST 2 01 1\nNO 14 5\n"
    ∷ replays p1 "SS 1\nIN 0\nIN 1" "ST 2 01 1\nNO 1 3\n"
    ∷ replays p1 "SS 3\nIN 0\n" "NO 1 1\n"
    ∷ replays "MC 1 1 2 0\nPT 0 1 1 1-\nEN\n" "SS 0\nIN 0\n" "ST 0 - 1-\n"
    ∷ replays p2 "SS 0\nIN 0\n" "NO 9 0\n"
    ∷ checks p1 c1 ".i 3\n.o 3\n.type fd\n.p 1\n0-0 011\n.e\n" "OK\n"
    ∷ checks p1 c1 ".i 3\n.o 3\n.p 2\n000 011\n010 011\n.e\n" "OK\n"
    ∷ checks p1 c1 ".i 3\n.o 3\n.p 2\n0-0 011\n0-1 1-0\n.e\n" "OK\n"
    ∷ checks p1 c1 ".i 3\n.o 3\n.p 2\n0-0 011\n0-1 111\n.e\n" "AT 2 0\n"
    ∷ checks p1 c1 ".i 3\n.o 3\n.p 2\n0-0 011\n000 00-\n.e\n" "AT 0 0\n"
    ∷ checks p1 c1 ".i 3\n.o 3\n.p 1\n--0 011\n.e\n" "AT 0 1\n"
    ∷ checks p1 "SC 0 00\nSC 1 10\nSC 2 10\n" ".i 3\n.o 3\n.p 0\n.e\n" "UN 2\n"
    ∷ checks u1 "SC 0 0\nSC 1 1\n" ".i 3\n.o 3\n.p 1\n10- 01-\n.e\n" "OK\n"
    ∷ checks u1 "SC 0 0\nSC 1 1\n" ".i 3\n.o 3\n.p 0\n.e\n" "AT 0 2\n"
    ∷ checks u1 "SC 0 0\nSC 1 1\n" ".i 3\n.o 3\n.p 1\n--- 010\n.e\n" "AT 0 0\n"
    ∷ checks u1 "SC 0 0\nSC 1 1\n" ".i 3\n.o 3\n.p 2\n10- 010\n111 010\n.e\n" "AT 1 3\n"
    ∷ checks p3 "SC 0 -\n" ".i 1\n.o 1\n.p 1\n0 1\n.e\n" "OK\n"
    ∷ checks p1 c1 ".i 4\n.o 3\n.p 1\n0-0- 011\n.e\n" "NO 15 1\n"
    ∷ checks p1 c1 ".i 3\n.o 4\n.p 0\n.e\n" "NO 15 2\n"
    ∷ checks p1 c1 ".i 4\n.o 3\n.p 1\n0-0 011\n.e\n" "NO 1 4\n"
    ∷ checks p1 c1 ".i 3\n.o 3\n.p 2\n0-0 011\n.e\n" "NO 1 5\n"
    ∷ checks p1 c1 ".i 3\n.o 3\n.p 0\n0-0 011\n.e\n" "NO 1 4\n"
    ∷ checks p1 c1 ".i 3\n.o 3\n.p 0\n.e\n\n" "NO 1 5\n"
    ∷ checks p1 "SC 0 00\nSC 1 10\n" "" "NO 1 3\n"
    ∷ checks p1 "SC 0 00\nSC 1 1\nSC 2 01\n" "" "NO 1 2\n"
    ∷ checks p1 "SC 0 00\nSC 1 10\nSC 2 01\nEN\n" "" "NO 1 4\n"
    ∷ checks p1 c1 ".i 4\n.o 3\n.p 0\n.e" "NO 1 4\n"
    ∷ checks p1 c1 "" "NO 1 1\n"
    ∷ []

-- ---- what a case states

-- the dichotomies of a listing that is read; none where it is refused
abbrev pub dichotomies_in : Reading → List Requirement
dichotomies_in (Ok t) = dichotomies_of t
dichotomies_in (Err why) = []

abbrev pub Holds : Case → Type 0
Holds (reports listing text) = printed (report_reply (bytes listing)) ≡ bytes text
Holds (covers listing text) = printed (cover_reply (bytes listing)) ≡ bytes text
Holds (buys listing text) = printed (widths_reply (bytes listing)) ≡ bytes text
Holds (gives listing rs) = dichotomies_in (reading (bytes listing)) ≡ map asked rs
Holds (leasts listing text) = printed (least_reply (bytes listing)) ≡ bytes text
Holds (least-covers listing text) = printed (least_cover_reply (bytes listing)) ≡ bytes text
Holds (replays listing run text) = printed (replay_reply (bytes listing) (bytes run)) ≡ bytes text
Holds (checks listing codes cover text) = printed (check_reply (bytes listing) (bytes codes) (bytes cover)) ≡ bytes text
Holds (reads line head) = head_line head.moore (bytes line) ≡ Ok head
Holds (faces codes group text) =
    (face (length codes) (bits_of codes) (set_of one (bytes group)) ≡ bytes text)
    × (all_met (length codes) (bits_of codes) (group_asks (length codes) (set_of one (bytes group))) ≡ true)
Holds (meets codes r) = met_by_code (length codes) (bits_of codes) (asked r) ≡ true
Holds (looked r moves digits) = looks_of (length (bytes r)) (asked r) 0 moves ≡ digits

abbrev pub AllHold : List Case → Type 0
AllHold [] = Unit {0}
AllHold (c ∷ cs) = Holds c × AllHold cs

-- ---- the test

same_head : Result Head Refusal → Head → Bool
same_head (Ok a) b = eqb a.states b.states && eqb a.inputs b.inputs && eqb a.outputs b.outputs && eqb a.width b.width && eqb (digit a.keeps) (digit b.keeps) && eqb (digit a.moore) (digit b.moore)
same_head (Err r) b = false

same_asked : List Requirement → List Requirement → Bool
same_asked [] [] = true
same_asked [] (y ∷ ys) = false
same_asked (x ∷ xs) [] = false
same_asked (x ∷ xs) (y ∷ ys) = eqb x.first y.first && eqb x.second y.second && same_asked xs ys

right : Case → Bool
unfolding same reading same_asked report_reply cover_reply widths_reply least_reply least_cover_reply replay_reply check_reply printed head_line same_head face_at all_met group_asks looks_of met_by_code bits_in set_of
right (reports listing text) = same (printed (report_reply (bytes listing))) (bytes text)
right (covers listing text) = same (printed (cover_reply (bytes listing))) (bytes text)
right (buys listing text) = same (printed (widths_reply (bytes listing))) (bytes text)
right (gives listing rs) = same_asked (dichotomies_in (reading (bytes listing))) (map asked rs)
right (leasts listing text) = same (printed (least_reply (bytes listing))) (bytes text)
right (least-covers listing text) = same (printed (least_cover_reply (bytes listing))) (bytes text)
right (replays listing run text) = same (printed (replay_reply (bytes listing) (bytes run))) (bytes text)
right (checks listing codes cover text) = same (printed (check_reply (bytes listing) (bytes codes) (bytes cover))) (bytes text)
right (reads line head) = same_head (head_line head.moore (bytes line)) head
right (faces codes group text) =
    same (face (length codes) (bits_of codes) (set_of one (bytes group))) (bytes text)
    && all_met (length codes) (bits_of codes) (group_asks (length codes) (set_of one (bytes group)))
right (meets codes r) = met_by_code (length codes) (bits_of codes) (asked r)
right (looked r moves digits) = same (looks_of (length (bytes r)) (asked r) 0 moves) digits

all_right : List Case → Bool
unfolding right
all_right [] = true
all_right (c ∷ cs) = right c && all_right cs

computed : all_right cases ≡ true
unfolding all_right cases
computed = refl

-- ---- the law

pub same-eq : (xs ys : List ℕ) → same xs ys ≡ true → xs ≡ ys
unfolding same
same-eq [] [] e = refl
same-eq [] (y ∷ ys) e = absurd (let z : ◌≡◌ {A = ℕ} 0 1 = cc in omega arith)
same-eq (x ∷ xs) [] e = absurd (let z : ◌≡◌ {A = ℕ} 0 1 = cc in omega arith)
same-eq (x ∷ xs) (y ∷ ys) e = ap₂ (λ (a : ℕ) (l : List ℕ). a ∷ l) (eqb-true x y (and_first (eqb x y) (same xs ys) e)) (same-eq xs ys (and_second (eqb x y) (same xs ys) e))

asked-eq : (xs ys : List Requirement) → same_asked xs ys ≡ true → xs ≡ ys
unfolding same_asked
asked-eq [] [] e = refl
asked-eq [] (y ∷ ys) e = absurd (let z : ◌≡◌ {A = ℕ} 0 1 = cc in omega arith)
asked-eq (x ∷ xs) [] e = absurd (let z : ◌≡◌ {A = ℕ} 0 1 = cc in omega arith)
asked-eq (x ∷ xs) (y ∷ ys) e =
    let both = eqb x.first y.first && eqb x.second y.second in
    let f : x.first ≡ y.first = eqb-true _ _ (and_first (eqb x.first y.first) _ (and_first both (same_asked xs ys) e)) in
    let s : x.second ≡ y.second = eqb-true _ _ (and_second (eqb x.first y.first) _ (and_first both (same_asked xs ys) e)) in
    ap₂ (λ (r : Requirement) (l : List Requirement). r ∷ l) (λ i. record { first = f i; second = s i }) (asked-eq xs ys (and_second both (same_asked xs ys) e))

digit-same : (a b : Bool) → digit a ≡ digit b → a ≡ b
digit-same true true e = refl
digit-same true false e = absurd (omega arith)
digit-same false true e = absurd (omega arith)
digit-same false false e = refl

head-eq : (a : Result Head Refusal) (b : Head) → same_head a b ≡ true → a ≡ Ok b
unfolding same_head
head-eq (Ok a) b e =
    let to-states = eqb a.states b.states in
    let to-inputs = to-states && eqb a.inputs b.inputs in
    let to-outputs = to-inputs && eqb a.outputs b.outputs in
    let to-width = to-outputs && eqb a.width b.width in
    let to-keeps = to-width && eqb (digit a.keeps) (digit b.keeps) in
    let e₅ = and_first to-keeps (eqb (digit a.moore) (digit b.moore)) e in
    let e₄ = and_first to-width (eqb (digit a.keeps) (digit b.keeps)) e₅ in
    let e₃ = and_first to-outputs (eqb a.width b.width) e₄ in
    let e₂ = and_first to-inputs (eqb a.outputs b.outputs) e₃ in
    let p : a.states ≡ b.states = eqb-true _ _ (and_first to-states (eqb a.inputs b.inputs) e₂) in
    let q : a.inputs ≡ b.inputs = eqb-true _ _ (and_second to-states (eqb a.inputs b.inputs) e₂) in
    let r : a.outputs ≡ b.outputs = eqb-true _ _ (and_second to-inputs (eqb a.outputs b.outputs) e₃) in
    let w : a.width ≡ b.width = eqb-true _ _ (and_second to-outputs (eqb a.width b.width) e₄) in
    let k : a.keeps ≡ b.keeps = digit-same a.keeps b.keeps (eqb-true _ _ (and_second to-width (eqb (digit a.keeps) (digit b.keeps)) e₅)) in
    let m : a.moore ≡ b.moore = digit-same a.moore b.moore (eqb-true _ _ (and_second to-keeps (eqb (digit a.moore) (digit b.moore)) e)) in
    λ i. Ok (record { states = p i; inputs = q i; outputs = r i; width = w i; keeps = k i; moore = m i })
head-eq (Err r) b e = absurd (let z : ◌≡◌ {A = ℕ} 0 1 = cc in omega arith)

right-holds : (c : Case) → right c ≡ true → Holds c
unfolding right
right-holds (reports listing text) e = same-eq _ _ e
right-holds (covers listing text) e = same-eq _ _ e
right-holds (buys listing text) e = same-eq _ _ e
right-holds (gives listing rs) e = asked-eq _ _ e
right-holds (leasts listing text) e = same-eq _ _ e
right-holds (least-covers listing text) e = same-eq _ _ e
right-holds (replays listing run text) e = same-eq _ _ e
right-holds (checks listing codes cover text) e = same-eq _ _ e
right-holds (reads line head) e = head-eq _ _ e
right-holds (faces codes group text) e =
    let a : Bool = same (face (length codes) (bits_of codes) (set_of one (bytes group))) (bytes text) in
    let b : Bool = all_met (length codes) (bits_of codes) (group_asks (length codes) (set_of one (bytes group))) in
    (same-eq _ _ (and_first a b e), and_second a b e)
right-holds (meets codes r) e = e
right-holds (looked r moves digits) e = same-eq _ _ e

all_hold : (cs : List Case) → all_right cs ≡ true → AllHold cs
unfolding all_right
all_hold [] e = tt
all_hold (c ∷ cs) e = (right-holds c (and_first (right c) (all_right cs) e), all_hold cs (and_second (right c) (all_right cs) e))

-- P1 to P10 hold
pub known : AllHold cases
known = all_hold cases computed
