-- `families::put` meets its contract: a place that the largest number stops at is behind the list, and so is the one that it stands for.
use Rattle.std.proofs.Common.{rules, ◌≡◌, ℕ, ◌+◌, ◌-◌, ◌^◌, ◌<◌, inl, inr, List, length, slice_set, min, sym, ap, ◌∙◌, arith, length-set}
use Rattle.std.proofs.lemmas.Bool.{cases_lt}
use lib.Seq.{set_out}
use Rattle.families.specs.Families.{laid}
use Rattle.families.proofs.put.Goals as goal

stopped : (l : List ℕ) (word : ℕ) (k : ℕ) {i : ℕ} → length l < 2 ^ 64 - 1 → i ≡ min k 18446744073709551615 → slice_set l i word ≡ slice_set l k word
stopped l word k {i} few e = elim (cases_lt k 18446744073709551615) [
  | inl h ↦ let same : i ≡ k = omega arith in ap (λ (n : ℕ). slice_set l n word) same
  | inr h ↦ set_out l i word (omega arith) ∙ sym (set_out l k word (omega arith))
]

pub returns : goal.returns
unfolding laid
returns c =
    let fs = c.args.fs.now in
    let all = c.args.all in
    let flip = c.args.flip in
    let few : length fs < 2 ^ 64 - 1 = search rules in
    let one = c.put_word.ensures in
    let two = c.put_word-2.ensures ∙ stopped c.put_word.new.fs flip _ (omega (arith, few, ap length one, length-set fs c.args.at all)) c.saturating_add.ensures ∙ ap (λ (l : List ℕ). slice_set l (c.args.at + 1) flip) one in
    c.put_word-3.ensures
    ∙ stopped c.put_word-2.new.fs c.args.out _ (omega (arith, few, ap length two, length-set fs c.args.at all, length-set (slice_set fs c.args.at all) (c.args.at + 1) flip)) c.saturating_add-2.ensures
    ∙ ap (λ (l : List ℕ). slice_set l (c.args.at + 2) c.args.out) two
