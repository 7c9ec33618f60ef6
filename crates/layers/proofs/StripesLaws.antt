-- The stripes of a beat, written one behind the other.
use Prim.Native.Nat.{ℕ, zero, suc, ◌+◌, ◌*◌, ◌-◌, ◌≤◌, ◌<◌}
use native.Mathlib.Omega.{arith}
use mathlib.Core.List.{List, [], ◌∷◌}
use mathlib.Core.Logic.{◌⊎◌, inl, inr, ⊎_elim}
use mathlib.Core.Path.{◌≡◌, refl, ap, ◌∙◌}
use lib.ListN.{length, get_or}
use Rattle.laws.proofs.Tests.{lt_or_le}
use Rattle.bitrows.specs.Rows.{written}
use Rattle.bitrows.proofs.FillLaws.{length_written, written_in, written_out}
use Rattle.layers.specs.Table.{Rewritten}
use Rattle.layers.specs.Stripes.{four, stripes_of, lane_of, lanes_of, over_slot, under_slot, word_at, step_word}

-- One step of eight stripes.
module _ (xs masks : List (List ℕ)) (none : ℕ) where
  abbrev stripe : ℕ → List ℕ
  stripe i = get_or xs i []

  abbrev mask : ℕ → List ℕ
  mask i = get_or masks i []

  pub advanced : {xs₀ xs₁ xs₂ xs₃ xs₄ xs₅ xs₆ xs₇ : List ℕ} → none ≡ 0 →
      xs₀ ≡ lanes_of (none ∷ get_or (stripe 7) 0 0 ∷ get_or (stripe 7) 1 0 ∷ get_or (stripe 7) 2 0 ∷ []) (stripe 0) (stripe 1) (mask 0) →
      xs₁ ≡ lanes_of (stripe 0) (stripe 1) (stripe 2) (mask 1) → xs₂ ≡ lanes_of (stripe 1) (stripe 2) (stripe 3) (mask 2) →
      xs₃ ≡ lanes_of (stripe 2) (stripe 3) (stripe 4) (mask 3) → xs₄ ≡ lanes_of (stripe 3) (stripe 4) (stripe 5) (mask 4) →
      xs₅ ≡ lanes_of (stripe 4) (stripe 5) (stripe 6) (mask 5) → xs₆ ≡ lanes_of (stripe 5) (stripe 6) (stripe 7) (mask 6) →
      xs₇ ≡ lanes_of (stripe 6) (stripe 7) (get_or (stripe 0) 1 0 ∷ get_or (stripe 0) 2 0 ∷ get_or (stripe 0) 3 0 ∷ none ∷ []) (mask 7) →
      (value free : ℕ → ℕ) → xs ≡ stripes_of value → masks ≡ stripes_of free →
      (xs₀ ∷ xs₁ ∷ xs₂ ∷ xs₃ ∷ xs₄ ∷ xs₅ ∷ xs₆ ∷ xs₇ ∷ []) ≡ stripes_of (step_word value free)
  unfolding four stripes_of lane_of lanes_of over_slot under_slot word_at step_word
  advanced z e₀ e₁ e₂ e₃ e₄ e₅ e₆ e₇ value free p q = rw (e₀, e₁, e₂, e₃, e₄, e₅, e₆, e₇, z, p, q) refl

four_at : (value : ℕ → ℕ) (n i : ℕ) → i < 4 → get_or (four value n) i 0 ≡ value (n + i)
unfolding four
four_at value n zero l = ap value (omega arith)
four_at value n (suc zero) l = ap value (omega arith)
four_at value n (suc (suc zero)) l = ap value (omega arith)
four_at value n (suc (suc (suc zero))) l = ap value (omega arith)
four_at value n (suc (suc (suc (suc i)))) l = absurd (omega arith)

-- The stripes one by one.
stripe_at : (value : ℕ → ℕ) (i : ℕ) → i < 8 → get_or (stripes_of value) i [] ≡ four value (4 * i)
unfolding stripes_of
stripe_at value zero l = refl
stripe_at value (suc zero) l = refl
stripe_at value (suc (suc zero)) l = refl
stripe_at value (suc (suc (suc zero))) l = refl
stripe_at value (suc (suc (suc (suc zero)))) l = refl
stripe_at value (suc (suc (suc (suc (suc zero))))) l = refl
stripe_at value (suc (suc (suc (suc (suc (suc zero)))))) l = refl
stripe_at value (suc (suc (suc (suc (suc (suc (suc zero))))))) l = refl
stripe_at value (suc (suc (suc (suc (suc (suc (suc (suc i)))))))) l = absurd (omega arith)

-- One stripe more.
pub rewritten_stripe : (words then after : List ℕ) (xs : List (List ℕ)) (value : ℕ → ℕ) (at i : ℕ) → i < 8 → at + 32 ≤ length words →
    xs ≡ stripes_of value → Rewritten words value at (4 * i) then → after ≡ written then (at + 4 * i) (get_or xs i []) 4 →
    Rewritten words value at (4 * (i + 1)) after
rewritten_stripe words then after xs value at i few fits e old h =
    rw h (record { long = length_written then (at + 4 * i) ys 4 ∙ old.long; inside = inside; outside = outside })
  where
    ys : List ℕ
    ys = get_or xs i []

    new : (j : ℕ) → j < 4 → get_or (written then (at + 4 * i) ys 4) (at + 4 * i + j) 0 ≡ value (4 * i + j)
    new j l = written_in then (at + 4 * i) ys 4 j (omega (arith, old.long)) l ∙ rw (e, stripe_at value i few) (four_at value (4 * i) j l)

    inside : (j : ℕ) → j < 4 * (i + 1) → get_or (written then (at + 4 * i) ys 4) (at + j) 0 ≡ value j
    inside j l = ⊎_elim early late (lt_or_le j (4 * i))
      where
        early : j < 4 * i → get_or (written then (at + 4 * i) ys 4) (at + j) 0 ≡ value j
        early u = written_out then (at + 4 * i) ys 4 (at + j) (inl (omega arith)) ∙ old.inside j u

        late : 4 * i ≤ j → get_or (written then (at + 4 * i) ys 4) (at + j) 0 ≡ value j
        late u =
            let p : at + j ≡ at + 4 * i + (j - 4 * i) = omega arith in
            let v : 4 * i + (j - 4 * i) ≡ j = omega arith in
            rw p (new (j - 4 * i) (omega arith)) ∙ ap value v

    outside : (j : ℕ) → (j < at) ⊎ (at + 4 * (i + 1) ≤ j) → get_or (written then (at + 4 * i) ys 4) j 0 ≡ get_or words j 0
    outside j (inl l) = written_out then (at + 4 * i) ys 4 j (inl (omega arith)) ∙ old.outside j (inl l)
    outside j (inr l) = written_out then (at + 4 * i) ys 4 j (inr (omega arith)) ∙ old.outside j (inr (omega arith))
