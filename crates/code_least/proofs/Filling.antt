-- An array whose first places a loop fills, place k with f of the element k of a list.
use mathlib.Core.Path.{◌≡◌, sym, ap, ◌∙◌}
use mathlib.Core.List.{List, [], ◌∷◌, ◌++◌, map, map-append, append_assoc, append-nil}
use Prim.Native.Nat.{ℕ, zero, suc, ◌+◌, ◌≤◌, ◌<◌}
use native.Mathlib.Numerals.{add-one}
use native.Mathlib.Omega.{arith}
use lib.ListN.{length, take, drop, get_or, set, length-map}
use lib.Seq.{take-suc, take_all, drop-cons, drop-length, length-take-le, set_at}
use Rattle.sets.specs.Sets.{states_from}
use Rattle.rules.proofs.Most.{states-length}
use Rattle.rules.specs.Least.{column}
use Rattle.rules.specs.declared.Requirement.{Requirement}
use Rattle.code_least.specs.Table.{mask_from, masks}

-- k places of the array that came are filled
abbrev pub filled : (ℕ → ℕ) → List ℕ → List ℕ → ℕ → List ℕ
filled f l came k = map f (take k l) ++ drop k came

module _ (f : ℕ → ℕ) (l came : List ℕ) (room : length l ≤ length came) (k : ℕ) where
  front_length : k ≤ length l → length (map f (take k l)) ≡ k
  front_length h = length-map (take k l) f ∙ length-take-le k l h

  pub filled_more : {b : ℕ} → k < length l → b ≡ f (get_or l k 0) → set (filled f l came k) k b ≡ filled f l came (k + 1)
  filled_more {b} h e =
      ap (λ (d : List ℕ). set (map f (take k l) ++ d) k b) (drop-cons came k 0 (omega arith))
      ∙ set_at (map f (take k l)) (get_or came k 0) (drop (suc k) came) b k (front_length (omega arith))
      ∙ ap (λ (x : ℕ). map f (take k l) ++ x ∷ drop (suc k) came) e
      ∙ sym (append_assoc (map f (take k l)) (f (get_or l k 0) ∷ []) (drop (suc k) came))
      ∙ ap (λ (p : List ℕ). p ++ drop (suc k) came) (sym (ap (map f) (take-suc l k 0 h) ∙ map-append f (take k l) (get_or l k 0 ∷ [])))
      ∙ ap (λ (j : ℕ). filled f l came j) (sym (add-one k))

  pub filled-all : k ≤ length l → length l ≤ k → filled f l came k ≡ map f l ++ drop (length l) came
  filled-all h q =
      let s : k ≡ length l = omega arith in
      ap (λ (p : List ℕ). map f p ++ drop k came) (take_all k l q) ∙ ap (λ (j : ℕ). map f l ++ drop j came) s

-- ---- the columns in their order

state-at : (a n v : ℕ) → v < n → get_or (states_from a n) v 0 ≡ a + v
unfolding states_from
state-at a zero v h = absurd (omega arith)
state-at a (suc n) zero h = omega arith
state-at a (suc n) (suc v) h = let e : suc a + v ≡ a + suc v = omega arith in state-at (suc a) n v (omega arith) ∙ e

pub column-at : (n v : ℕ) → v < n → v ≡ get_or (states_from 0 n) v 0
column-at n v h = let e : v ≡ 0 + v = omega arith in e ∙ sym (state-at 0 n v h)

pub masks-all : (n : ℕ) (rs : List Requirement) (came : List ℕ)
    → map (λ v. mask_from 0 (column n v) rs) (states_from 0 (length came)) ++ drop (length (states_from 0 (length came))) came ≡ masks n rs (length came)
unfolding masks
masks-all n rs came =
    ap (λ (k : ℕ). map (λ v. mask_from 0 (column n v) rs) (states_from 0 (length came)) ++ drop k came) (states-length 0 (length came))
    ∙ ap (λ (d : List ℕ). map (λ v. mask_from 0 (column n v) rs) (states_from 0 (length came)) ++ d) (drop-length came)
    ∙ append-nil (map (λ v. mask_from 0 (column n v) rs) (states_from 0 (length came)))
