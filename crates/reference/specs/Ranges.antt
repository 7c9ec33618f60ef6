-- Functions of the carriers, counted from 0: lists over the first k of them, and pointwise updates.
use Rattle.std.specs.Prelude.{ℕ, zero, suc, true, false, List, [], ◌∷◌, ◌++◌, eqb}

-- The values of φ at 0 to k − 1, in order.
unfoldable pub below : {A : Type 0} → ℕ → (ℕ → A) → List A
below zero φ = []
below (suc k) φ = below k φ ++ (φ k ∷ [])

-- The lists φ 0 to φ (k − 1), one behind the other.
unfoldable pub joined : {A : Type 0} → ℕ → (ℕ → List A) → List A
joined zero φ = []
joined (suc k) φ = joined k φ ++ φ k

-- φ with the value x at i.
unfoldable pub update : {A : Type 0} → (ℕ → A) → ℕ → A → ℕ → A
update φ i x k = elim (eqb k i) [ true ↦ x | false ↦ φ k ]

-- φ with the value x at receiver i and sender j.
unfoldable pub update_pair : {A : Type 0} → (ℕ → ℕ → A) → ℕ → ℕ → A → ℕ → ℕ → A
update_pair φ i j x = update φ i (update (φ i) j x)
