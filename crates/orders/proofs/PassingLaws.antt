-- The places below k that pass a test: the list for more places goes on from the list for fewer, and item i of it is the place that
-- passes and has i such places before it.
use Prim.Native.Nat.{ℕ, zero, suc, ◌≤◌, ◌<◌}
use native.Mathlib.Omega.{arith}
use native.Mathlib.Nat.{eq-or-lt_of_le}
use mathlib.Core.Bool.{Bool, true, false}
use mathlib.Core.List.{[], ◌∷◌, ◌++◌, append-nil}
use mathlib.Core.Logic.{⊎_elim}
use mathlib.Core.Path.{◌≡◌, refl, ◌∙◌, ap}
use lib.ListN.{length, get_or, length-append, get_or-append}
use lib.Seq.{get_or_at}
use Rattle.laws.proofs.Tests.{lt_or_le, true_or_false, not_true_is_false}
use Rattle.orders.specs.Orders.{passing}

module _ (test : ℕ → Bool) where
  -- How many places below k pass.
  abbrev pub count : ℕ → ℕ
  count k = length (passing test k)

  pub passing_yes : (k : ℕ) → test k ≡ true → passing test (suc k) ≡ passing test k ++ (k ∷ [])
  unfolding passing
  passing_yes k e = rw e

  pub passing_no : (k : ℕ) → test k ≡ false → passing test (suc k) ≡ passing test k
  unfolding passing
  passing_no k e = rw (e, append-nil)

  pub count_none : count 0 ≡ 0
  unfolding passing
  count_none = refl

  pub count_yes : (k : ℕ) → test k ≡ true → count (suc k) ≡ suc (count k)
  count_yes k e = ap length (passing_yes k e) ∙ rw length-append (omega arith)

  pub count_no : (k : ℕ) → test k ≡ false → count (suc k) ≡ count k
  count_no k e = ap length (passing_no k e)

  count_grows : (k : ℕ) → count k ≤ count (suc k)
  count_grows k =
      ⊎_elim (λ (e : test k ≡ true). omega (arith, count_yes k e)) (λ (e : test k ≡ false). omega (arith, count_no k e))
      (true_or_false (test k))

  pub count_mono : (k n : ℕ) → k ≤ n → count k ≤ count n
  count_mono k zero l = let e : k ≡ 0 = omega arith in rw e (omega arith)
  count_mono k (suc n) l =
      ⊎_elim (λ (e : k ≡ suc n). rw e (omega arith)) (λ (h : k < suc n). omega (arith, count_mono k n (omega arith), count_grows n))
      (eq-or-lt_of_le l)

  -- An item of the list for k places is the same item of the list for more.
  item_kept : (k i : ℕ) → i < count k → get_or (passing test (suc k)) i 0 ≡ get_or (passing test k) i 0
  item_kept k i l =
      ⊎_elim (λ (e : test k ≡ true). rw (passing_yes k e) (get_or-append (passing test k) (k ∷ []) 0 i l))
      (λ (e : test k ≡ false). rw (passing_no k e)) (true_or_false (test k))

  pub passing_at : (n k : ℕ) → k < n → test k ≡ true → (count k < count n) × (get_or (passing test n) (count k) 0 ≡ k)
  passing_at zero k l e = absurd (omega arith)
  passing_at (suc n) k l e =
      ⊎_elim
      (λ (h : k ≡ n).
      rw h (omega (arith, count_yes n (rw h at e)), rw (passing_yes n (rw h at e)) (get_or_at (passing test n) n [] 0 (count n) refl)))
      (λ (h : k < n).
      let r = passing_at n k h e in (omega (arith, r.0, count_grows n), item_kept n (count k) r.0 ∙ r.1))
      (eq-or-lt_of_le (omega arith))

  -- Place p is below n, passes, and has i passing places before it.
  pub record ItemAt (n i p : ℕ) : Type 0 where
    pub listed : p < n
    pub passes : test p ≡ true
    pub before : count p ≡ i

  pub passing_item : (n i : ℕ) → i < count n → ItemAt n i (get_or (passing test n) i 0)
  unfolding passing
  passing_item zero i l = absurd (omega arith)
  passing_item (suc n) i l = ⊎_elim (λ (h : i < count n). old h (passing_item n i h)) new (lt_or_le i (count n))
    where
      old : i < count n → ItemAt n i (get_or (passing test n) i 0) → ItemAt (suc n) i (get_or (passing test (suc n)) i 0)
      old h r = rw (item_kept n i h) (record { listed = omega (arith, r.listed); passes = r.passes; before = r.before })

      last : (e : test n ≡ true) → count n ≤ i → ItemAt (suc n) i (get_or (passing test (suc n)) i 0)
      last e h =
          let same : count n ≡ i = omega (arith, count_yes n e) in
          rw (passing_yes n e, get_or_at (passing test n) n [] 0 i same) (record { listed = omega arith; passes = e; before = same })

      new : count n ≤ i → ItemAt (suc n) i (get_or (passing test (suc n)) i 0)
      new h =
          ⊎_elim (λ (e : test n ≡ true). last e h) (λ (e : test n ≡ false). absurd (omega (arith, count_no n e))) (true_or_false (test n))

  -- Where the count stays the same from a to b, no place there passes.
  pub none_between : (a b : ℕ) → count b ≤ count a → (p : ℕ) → a ≤ p → p < b → test p ≡ false
  none_between a b e p l h =
      not_true_is_false (test p) (λ t. omega (arith, (passing_at b p h t).0, count_mono a p l))
