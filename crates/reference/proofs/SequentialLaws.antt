-- The sequential planner's answers by prefix.
use Prim.Native.Nat.{ℕ, zero, suc, ◌≤◌, ◌<◌}
use native.Mathlib.Omega.{arith}
use native.Mathlib.Nat.{eq-or-lt_of_le}
use mathlib.Core.List.{List, [], ◌∷◌, map}
use mathlib.Core.Logic.{⊎_elim}
use mathlib.Core.Path.{◌≡◌, refl, ◌∙◌}
use lib.ListN.{length, take, length-append}
use lib.Seq.{take_all, take-append-le}
use Rattle.route.specs.Route.{Answer, View, heard}
use Rattle.route.specs.Sequential.{sequential}

module _ (respond : ℕ → List View → Answer) where
  sequential_length : (k : ℕ) → length (sequential respond k) ≡ k
  unfolding sequential
  sequential_length zero = refl
  sequential_length (suc k) = rw (length-append, sequential_length k) (omega arith)

  -- The first k answers for n carriers are the answers for k carriers.
  pub sequential_prefix : (k n : ℕ) → k ≤ n → take k (sequential respond n) ≡ sequential respond k
  unfolding sequential
  sequential_prefix zero zero l = refl
  sequential_prefix (suc k) zero l = absurd (omega arith)
  sequential_prefix zero (suc n) l = refl
  sequential_prefix (suc k) (suc n) l =
      ⊎_elim (λ (e : suc k ≡ suc n). whole (omega arith))
      (λ (h : suc k < suc n).
      take-append-le (suc k) (sequential respond n) (respond n (map heard (sequential respond n)) ∷ [])
      (omega (arith, sequential_length n)) ∙ sequential_prefix (suc k) n (omega arith))
      (eq-or-lt_of_le l)
    where
      whole : k ≡ n → take (suc k) (sequential respond (suc n)) ≡ sequential respond (suc k)
      whole e = rw e (take_all (suc n) (sequential respond (suc n)) (omega (arith, sequential_length (suc n))))
