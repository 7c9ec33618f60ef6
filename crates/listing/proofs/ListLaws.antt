-- Lists with a property of every item, items by their places, and lists whose items are ordered.
use Prim.Native.Nat.{ℕ, zero, suc, ◌+◌, ◌<◌}
use native.Mathlib.Omega.{arith}
use mathlib.Core.List.{List, [], ◌∷◌, ◌++◌, map}
use mathlib.Core.Path.{◌≡◌, ◌∙◌, ap}
use lib.ListN.{length, get_or, length-append, get_or-append}
use lib.Seq.{get_or-append-add}

module _ {A : Type 0} where
  -- P holds of every item.
  unfoldable pub AllItems : (A → Type 0) → List A → Type 0
  AllItems P [] = Unit {0}
  AllItems P (x ∷ xs) = P x × AllItems P xs

  pub all_append : (P : A → Type 0) (xs ys : List A) → AllItems P xs → AllItems P ys → AllItems P (xs ++ ys)
  unfolding AllItems
  all_append P [] ys h g = g
  all_append P (x ∷ xs) ys h g = (h.0, all_append P xs ys h.1 g)

  pub all_more : (P Q : A → Type 0) → ((x : A) → P x → Q x) → (xs : List A) → AllItems P xs → AllItems Q xs
  unfolding AllItems
  all_more P Q f [] h = tt
  all_more P Q f (x ∷ xs) h = (f x h.0, all_more P Q f xs h.1)

  pub all_every : (P : A → Type 0) → ((x : A) → P x) → (xs : List A) → AllItems P xs
  unfolding AllItems
  all_every P f [] = tt
  all_every P f (x ∷ xs) = (f x, all_every P f xs)

  pub all_at : (P : A → Type 0) (x : A) (xs : List A) → AllItems P xs → (i : ℕ) → i < length xs → P (get_or xs i x)
  unfolding AllItems
  all_at P x [] h i b = absurd (omega arith)
  all_at P x (y ∷ xs) h zero b = h.0
  all_at P x (y ∷ xs) h (suc i) b = all_at P x xs h.1 i (omega arith)

module _ {A B : Type 0} where
  pub all_map : (φ : B → A) (P : A → Type 0) (xs : List B) → AllItems (λ x. P (φ x)) xs → AllItems P (map φ xs)
  unfolding AllItems
  all_map φ P [] h = tt
  all_map φ P (x ∷ xs) h = (h.0, all_map φ P xs h.1)

module _ {A : Type 0} where
  -- Item a has a place in a list.
  unfoldable pub HasPlace : A → A → List A → Type 0
  HasPlace x y xs = (i : ℕ) × (i < length xs) × (get_or xs i x ≡ y)

  pub placed_left : (x y : A) (xs ys : List A) → HasPlace x y xs → HasPlace x y (xs ++ ys)
  unfolding HasPlace
  placed_left x y xs ys h =
      (h.0, omega (arith, length-append xs ys, h.1), get_or-append xs ys x h.0 h.1 ∙ h.2)

  pub placed_right : (x y : A) (xs ys : List A) → HasPlace x y ys → HasPlace x y (xs ++ ys)
  unfolding HasPlace
  placed_right x y xs ys h =
      (length xs + h.0, omega (arith, length-append xs ys, h.1), get_or-append-add xs ys h.0 x ∙ h.2)

  -- Every item stands in the relation to each item behind it.
  unfoldable pub Sorted : (A → A → Type 0) → List A → Type 0
  Sorted R [] = Unit {0}
  Sorted R (x ∷ xs) = AllItems (R x) xs × Sorted R xs

  pub sorted_append : (R : A → A → Type 0) (xs ys : List A) → Sorted R xs → Sorted R ys → AllItems (λ x. AllItems (R x) ys) xs →
      Sorted R (xs ++ ys)
  unfolding Sorted AllItems
  sorted_append R [] ys h g c = g
  sorted_append R (x ∷ xs) ys h g c = (all_append (R x) xs ys h.0 c.0, sorted_append R xs ys h.1 g c.1)

  pub sorted_map : (R : A → A → Type 0) (φ : A → A) → ((x y : A) → R x y → R (φ x) (φ y)) → (xs : List A) → Sorted R xs →
      Sorted R (map φ xs)
  unfolding Sorted
  sorted_map R φ keeps [] h = tt
  sorted_map R φ keeps (x ∷ xs) h =
      (all_map φ (R (φ x)) xs (all_more (R x) (λ y. R (φ x) (φ y)) (keeps x) xs h.0), sorted_map R φ keeps xs h.1)

  pub sorted_at : (R : A → A → Type 0) (x : A) (xs : List A) → Sorted R xs → (i j : ℕ) → i < j → j < length xs →
      R (get_or xs i x) (get_or xs j x)
  unfolding Sorted
  sorted_at R x [] h i j b c = absurd (omega arith)
  sorted_at R x (y ∷ xs) h zero zero b c = absurd (omega arith)
  sorted_at R x (y ∷ xs) h zero (suc j) b c = all_at (R y) x xs h.0 j (omega arith)
  sorted_at R x (y ∷ xs) h (suc i) zero b c = absurd (omega arith)
  sorted_at R x (y ∷ xs) h (suc i) (suc j) b c = sorted_at R x xs h.1 i j (omega arith) (omega arith)

module _ {A B : Type 0} where
  pub placed_map : (φ : A → B) (x y : A) (z : B) (xs : List A) → HasPlace x y xs → HasPlace z (φ y) (map φ xs)
  unfolding HasPlace
  placed_map φ x y z [] h = absurd (omega (arith, h.1))
  placed_map φ x y z (x' ∷ xs) (zero, lt, is) = (0, omega arith, ap φ is)
  placed_map φ x y z (x' ∷ xs) (suc i, lt, is) =
      let r = placed_map φ x y z xs (i, omega arith, is) in (suc r.0, omega (arith, r.1), r.2)
