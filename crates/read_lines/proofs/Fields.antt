-- A line's fields at known places, whatever is made of them: a field of known length is judged by the space behind it, and the last one is all that is left.
use mathlib.Core.Path.{◌≡◌, refl, sym, ap, ◌∙◌}
use mathlib.Core.Bool.{Bool, true, false, cond}
use mathlib.Core.List.{List, [], ◌∷◌}
use Prim.Native.Nat.{ℕ, ◌+◌, ◌≤◌}
use native.Mathlib.Omega.{arith}
use lib.ListN.{length, get_or, take, drop}
use Rattle.rules.specs.Text.{space, split, sized}
use Rattle.read_fields.proofs.Characters.{sized-length, sized-all}
use Rattle.read_pieces.specs.Pieces.{stands_at}
use Rattle.read_pieces.proofs.Places.{one_piece, piece-here, piece-stops, only-piece}

pub unlike : {b : Bool} → b ≡ true → b ≡ false → ⊥
unlike p q = let z : ◌≡◌ {A = ℕ} 0 1 = cc in omega arith

-- pieces that fit give a value, and others give `bad`
module _ {A : Type 0} (fits : List (List ℕ) → Bool) (value : List (List ℕ) → A) (bad : A) where
  abbrev pub judged : List (List ℕ) → A
  judged ps = cond (fits ps) (value ps) bad

  judged-not : (ps : List (List ℕ)) → (fits ps ≡ true → ⊥) → judged ps ≡ bad
  judged-not ps n = go (fits ps) refl
    where
      go : (b : Bool) → fits ps ≡ b → cond b (value ps) bad ≡ bad
      go true e = absurd (n e)
      go false e = refl

  -- the first piece of those that fit has k characters, each of them a, b or c, which are no space
  module _ (most k a b c : ℕ) (na : a ≡ space → ⊥) (nb : b ≡ space → ⊥) (nc : c ≡ space → ⊥)
      (first : (ps : List (List ℕ)) → fits ps ≡ true → sized most k a b c (get_or ps 0 []) ≡ true) where
    -- and it is not the last
    pub field-here : ((ps : List (List ℕ)) → fits ps ≡ true → 2 ≤ length ps) → (t : List ℕ)
        → judged (split space t) ≡ cond (stands_at space k t) (judged (take k t ∷ split space (drop (k + 1) t))) bad
    field-here two t = go (stands_at space k t) refl
      where
        parted : List (List ℕ)
        parted = take k t ∷ split space (drop (k + 1) t)

        stops : fits (split space t) ≡ true → (stands_at space k t ≡ true) × (split space t ≡ parted)
        stops f = piece-stops space k t (two _ f) (sized-length _ _ _ _ _ _ (first _ f))

        same : stands_at space k t ≡ true → (b : Bool) → fits parted ≡ b → judged (split space t) ≡ judged parted
        same s true f = ap judged (piece-here space a b c na nb nc k t s (sized-all _ _ _ _ _ _ (first parted f)))
        same s false f = judged-not (split space t) (λ g. unlike (ap fits (sym (stops g).1) ∙ g) f) ∙ sym (judged-not parted (λ g. unlike g f))

        go : (s : Bool) → stands_at space k t ≡ s → judged (split space t) ≡ cond s (judged parted) bad
        go true s = same s (fits parted) refl
        go false s = judged-not (split space t) (λ g. unlike (stops g).0 s)

    -- and it is the last
    pub field-last : ((ps : List (List ℕ)) → fits ps ≡ true → length ps ≡ 1) → (t : List ℕ) → judged (split space t) ≡ judged (t ∷ [])
    field-last one t = go (fits (t ∷ [])) refl
      where
        go : (b : Bool) → fits (t ∷ []) ≡ b → judged (split space t) ≡ judged (t ∷ [])
        go true f = ap judged (one_piece space a b c na nb nc t (sized-all _ _ _ _ _ _ (first (t ∷ []) f)))
        go false f =
            judged-not (split space t) (λ g. unlike (ap fits (sym (only-piece space t (one _ g))) ∙ g) f)
            ∙ sym (judged-not (t ∷ []) (λ g. unlike g f))
