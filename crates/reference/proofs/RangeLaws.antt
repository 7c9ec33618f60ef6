-- Laws of lists over the first carriers, and of pointwise updates.
use Prim.Native.Nat.{ℕ, zero, suc, ◌<◌}
use native.Mathlib.Omega.{arith}
use mathlib.Core.List.{map, map-append}
use mathlib.Core.Path.{◌≡◌, refl}
use borrow.Author.Tests.{eq-eqb, ne_eqb}
use Rattle.reference.specs.Ranges.{below, update, update_pair}

module _ {A : Type 0} where
  pub below_same : (k : ℕ) (φ ψ : ℕ → A) → ((i : ℕ) → i < k → φ i ≡ ψ i) → below k φ ≡ below k ψ
  unfolding below
  below_same zero φ ψ h = refl
  below_same (suc k) φ ψ h = rw (below_same k φ ψ (λ i l. h i (omega arith)), h k (omega arith))

  pub update_same : (φ : ℕ → A) (i : ℕ) (x : A) → update φ i x i ≡ x
  unfolding update
  update_same φ i x = rw (eq-eqb i i refl, update)

  pub update_other : (φ : ℕ → A) (i : ℕ) (x : A) (k : ℕ) → (k ≡ i → ⊥) → update φ i x k ≡ φ k
  unfolding update
  update_other φ i x k h = rw (ne_eqb k i h, update)

  pub pair_other_row : (φ : ℕ → ℕ → A) (i j : ℕ) (x : A) (k : ℕ) → (k ≡ i → ⊥) → update_pair φ i j x k ≡ φ k
  unfolding update_pair update
  pair_other_row φ i j x k h = rw (ne_eqb k i h, update)

  pub pair_row : (φ : ℕ → ℕ → A) (i j : ℕ) (x : A) → update_pair φ i j x i ≡ update (φ i) j x
  unfolding update_pair update
  pair_row φ i j x = rw (eq-eqb i i refl, update)

  pub pair_same : (φ : ℕ → ℕ → A) (i j : ℕ) (x : A) → update_pair φ i j x i j ≡ x
  pair_same φ i j x = rw (pair_row φ i j x) (update_same (φ i) j x)

  pub pair_other : (φ : ℕ → ℕ → A) (i j : ℕ) (x : A) (k : ℕ) → (k ≡ j → ⊥) → update_pair φ i j x i k ≡ φ i k
  pair_other φ i j x k h = rw (pair_row φ i j x) (update_other (φ i) j x k h)

-- ψ is φ but for x at place i; and but for x at place j of row i.
pub record UpdatedAt {A : Type 0} (φ : ℕ → A) (i : ℕ) (x : A) (ψ : ℕ → A) : Type 0 where
  pub there : ψ i ≡ x
  pub elsewhere : (k : ℕ) → (k ≡ i → ⊥) → ψ k ≡ φ k

pub update_at : {A : Type 0} (φ : ℕ → A) (i : ℕ) (x : A) → UpdatedAt φ i x (update φ i x)
update_at φ i x = record { there = update_same φ i x; elsewhere = update_other φ i x }

pub record PairAt {A : Type 0} (φ : ℕ → ℕ → A) (i j : ℕ) (x : A) (ψ : ℕ → ℕ → A) : Type 0 where
  pub there : ψ i j ≡ x
  pub beside : (k : ℕ) → (k ≡ j → ⊥) → ψ i k ≡ φ i k
  pub elsewhere : (k : ℕ) → (k ≡ i → ⊥) → ψ k ≡ φ k

pub pair_at : {A : Type 0} (φ : ℕ → ℕ → A) (i j : ℕ) (x : A) → PairAt φ i j x (update_pair φ i j x)
pair_at φ i j x = record { there = pair_same φ i j x; beside = pair_other φ i j x; elsewhere = pair_other_row φ i j x }

pub below_map : {A B : Type 0} (φ : A → B) (k : ℕ) (ψ : ℕ → A) → below k (λ i. φ (ψ i)) ≡ map φ (below k ψ)
unfolding below
below_map φ zero ψ = refl
below_map φ (suc k) ψ = rw (below_map φ k ψ, map-append)
