-- Bytes that are read behind those that a buffer holds.
use Rattle.std.proofs.Common.{◌≡◌, ℕ, ◌+◌, ◌≤◌, List, ◌++◌, length, take, drop, sym, ap, ap₂, subst, ◌∙◌, append_assoc, arith, drop_at, length-take-le}
use Rattle.std.proofs.Math.Seq.{take-add}
use Rattle.std.proofs.lemmas.List.{take-append-le, drop-append-le, take_at, length-take}
use Rattle.std.specs.Io.KnownBytes.{Consumes}
use Rattle.std.specs.Prelude.{Some, None, Option}

consumed-more : (a b c : Option (List ℕ)) (bs cs : List ℕ) → Consumes a b bs → Consumes b c cs → Consumes a c (bs ++ cs)
consumed-more None b c bs cs p q = tt
consumed-more (Some x) None c bs cs p q = absurd p
consumed-more (Some x) (Some y) None bs cs p q = absurd q
consumed-more (Some x) (Some y) (Some z) bs cs p q = p ∙ ap (λ l. bs ++ l) q ∙ sym (append_assoc bs cs z)

-- so many bytes of a buffer are filled, and the next read puts its own behind them
module _ (xs part rest : List ℕ) (f n : ℕ) (within : f ≤ length xs) (fits : n ≤ length part) where
  abbrev pub after : List ℕ
  after = take f xs ++ (part ++ rest)

  long : length (take f xs) ≡ f
  long = length-take-le f xs within

  filled : take (f + n) after ≡ take f xs ++ take n part
  filled =
      take-add f n after
      ∙ ap₂ (λ (l m : List ℕ). l ++ take n m) (take_at (take f xs) (part ++ rest) f long) (drop_at (take f xs) (part ++ rest) f long)
      ∙ ap (λ (l : List ℕ). take f xs ++ l) (take-append-le n part rest fits)

  module _ (old : List ℕ) (starts : take (length old) (take f xs) ≡ old) where
    short : length old ≤ length (take f xs)
    short = omega (arith, sym (ap length starts), length-take (length old) (take f xs))

    -- what was held stands in front still
    pub still-starts : take (length old) (take (f + n) after) ≡ old
    still-starts = ap (take (length old)) filled ∙ take-append-le (length old) (take f xs) (take n part) short ∙ starts

    -- and all that is read stands behind it
    pub read-behind : (a b c : Option (List ℕ)) → Consumes a b (drop (length old) (take f xs)) → Consumes b c (take n part) → Consumes a c (drop (length old) (take (f + n) after))
    read-behind a b c p q =
        let split = ap (drop (length old)) filled ∙ drop-append-le (length old) (take f xs) (take n part) short in
        subst (Consumes a c) (sym split) (consumed-more a b c _ _ p q)
