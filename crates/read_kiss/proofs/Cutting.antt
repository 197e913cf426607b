-- The groups of a table, cut row by row.
use mathlib.Core.Path.{◌≡◌, sym, ◌∙◌}
use mathlib.Core.List.{List, map}
use Prim.Native.Nat.{ℕ, ◌+◌, ◌<◌}
use native.Mathlib.Decide.{ℕ_discrete}
use native.Mathlib.Omega.{arith}
use lib.Bits.{bit_and}
use lib.ListN.{length, get_or, set, length-map}
use lib.Seq.{get_or-set_same, get_or-set_other, ext_get_or}
use Rattle.sets.proofs.Places.{map_at}
use Rattle.rules.specs.Listing.{no_row}
use Rattle.rules.specs.Kiss.{cut_to}
use Rattle.rules.specs.declared.Row.{Row}

-- a row with its group cut to a set
abbrev pub cut_by : ℕ → Row → Row
cut_by m r = record { input = r.input; group = bit_and r.group m; next = r.next; outputs = r.outputs; line = r.line }

module _ (n : ℕ) (t next : List Row) where
  pub cut-more : (i : ℕ) (v : Row) → i < length next → ((j : ℕ) → j < i → get_or next j no_row ≡ cut_to n (get_or t j no_row)) → v ≡ cut_to n (get_or t i no_row)
      → (j : ℕ) → j < i + 1 → get_or (set next i v) j no_row ≡ cut_to n (get_or t j no_row)
  cut-more i v h f e j g = go (ℕ_discrete j i)
    where
      go : Dec (j ≡ i) → get_or (set next i v) j no_row ≡ cut_to n (get_or t j no_row)
      go (yes p) = rw (p, get_or-set_same next i v no_row h) e
      go (no o) = rw (get_or-set_other next i j v no_row o) (f j (omega arith))

  pub cut-whole : length next ≡ length t → ((j : ℕ) → j < length t → get_or next j no_row ≡ cut_to n (get_or t j no_row)) → next ≡ map (cut_to n) t
  cut-whole h f =
      let l : length (map (cut_to n) t) ≡ length t = length-map t (cut_to n) in
      ext_get_or no_row next (map (cut_to n) t) (h ∙ sym l) (λ j g. f j (omega arith) ∙ sym (map_at (cut_to n) t j no_row no_row (omega arith)))
