-- Silence: no ranked step is open exactly if no step is, since the ranking lists every step that is there.
use Prim.Native.Nat.{ℕ, zero, suc, ◌+◌, ◌-◌, ◌<◌}
use native.Mathlib.Omega.{arith}
use mathlib.Core.Bool.{Bool, true, false, ◌&&◌, not, and_assoc, and-true}
use mathlib.Core.List.{List, [], ◌∷◌, ◌++◌}
use mathlib.Core.Logic.{⊎_elim}
use mathlib.Core.Path.{◌≡◌, refl, sym, ◌∙◌, ap, ap₂}
use borrow.Author.Tests.{not-true, not-false}
use Rattle.laws.proofs.Tests.{and_fst, and_snd, and_fails, not_true_is_false, true_false_absurd}
use Rattle.laws.specs.Verdict.{each}
use Rattle.reference.specs.Ranges.{below, joined}
use Rattle.reference.specs.State.{Machine, State}
use Rattle.reference.specs.Step.{Step, plan, deliver, is_open}
use Rattle.reference.specs.Ranking.{deliveries_from, ranking, none_open, is_silent}
use Rattle.laws.proofs.HoldLaws.{each_holds, each_same}
use Rattle.reference.proofs.OpenLaws.{plan_within, deliver_above, deliver_within}

module _ (M : Machine) (s : State) where
  -- A step that is not open.
  unfoldable pub is_shut : Step → Bool
  is_shut x = not (is_open M s x)

  none_append : (xs ys : List Step) → none_open M s (xs ++ ys) ≡ (none_open M s xs && none_open M s ys)
  unfolding none_open
  none_append [] ys = refl
  none_append (x ∷ xs) ys =
      ap (λ (y : Bool). not (is_open M s x) && y) (none_append xs ys)
      ∙ sym (and_assoc (not (is_open M s x)) (none_open M s xs) (none_open M s ys))

  none_below : (k : ℕ) (φ : ℕ → Step) → none_open M s (below k φ) ≡ each k (λ i. is_shut (φ i))
  unfolding below each is_shut none_open
  none_below zero φ = refl
  none_below (suc k) φ =
      none_append (below k φ) (φ k ∷ []) ∙ ap₂ ◌&&◌ (none_below k φ) (and-true (not (is_open M s (φ k))))

  none_joined : (k : ℕ) (φ : ℕ → List Step) → none_open M s (joined k φ) ≡ each k (λ i. none_open M s (φ i))
  unfolding joined each none_open
  none_joined zero φ = refl
  none_joined (suc k) φ = none_append (joined k φ) (φ k) ∙ rw (none_joined k φ)

  -- Silence as the tests of a machine: the plans, then the deliveries of each sender.
  pub silent_tests : is_silent M s ≡ (each M.carriers (λ i. is_shut (plan i)) &&
      each M.carriers (λ j. each (M.carriers - suc j) (λ d. is_shut (deliver j (suc j + d)))))
  unfolding is_silent ranking deliveries_from
  silent_tests =
      none_append (below M.carriers plan) (joined M.carriers (deliveries_from M.carriers))
      ∙ rw (none_below M.carriers plan, none_joined M.carriers (deliveries_from M.carriers))
      (ap (λ (x : Bool). each M.carriers (λ i. is_shut (plan i)) && x)
      (each_same M.carriers (λ j. none_open M s (deliveries_from M.carriers j))
      (λ j. each (M.carriers - suc j) (λ d. is_shut (deliver j (suc j + d))))
      (λ j l. none_below (M.carriers - suc j) (λ d. deliver j (suc j + d)))))

  none_all : (xs : List Step) → ((x : Step) → is_open M s x ≡ false) → none_open M s xs ≡ true
  unfolding none_open
  none_all [] h = refl
  none_all (x ∷ xs) h = rw (h x) (none_all xs h)

  pub shut_silent : ((x : Step) → is_open M s x ≡ false) → is_silent M s ≡ true
  unfolding is_silent
  shut_silent h = none_all (ranking M.carriers) h

  plans : Bool
  plans = each M.carriers (λ i. is_shut (plan i))

  deliveries : ℕ → Bool
  deliveries j = each (M.carriers - suc j) (λ d. is_shut (deliver j (suc j + d)))

  both : is_silent M s ≡ true → (plans && each M.carriers deliveries) ≡ true
  unfolding plans deliveries
  both e = sym silent_tests ∙ e

  silent_plan : is_silent M s ≡ true → (i : ℕ) → i < M.carriers → is_open M s (plan i) ≡ false
  unfolding plans is_shut
  silent_plan e i l =
      not-true (is_open M s (plan i))
      (each_holds M.carriers (λ i. is_shut (plan i)) (and_fst plans (each M.carriers deliveries) (both e)) i l)

  silent_deliver : is_silent M s ≡ true → (j i : ℕ) → j < i → i < M.carriers → is_open M s (deliver j i) ≡ false
  unfolding deliveries is_shut
  silent_deliver e j i a l =
      let here : suc j + (i - suc j) ≡ i = omega arith in
      let from = each_holds M.carriers deliveries (and_snd plans (each M.carriers deliveries) (both e)) j (omega arith) in
      rw here at
      (not-true (is_open M s (deliver j (suc j + (i - suc j))))
      (each_holds (M.carriers - suc j) (λ d. is_shut (deliver j (suc j + d))) from (i - suc j) (omega arith)))

  pub silent_shut : is_silent M s ≡ true → (x : Step) → is_open M s x ≡ false
  silent_shut e (plan i) =
      not_true_is_false (is_open M s (plan i)) (λ h. true_false_absurd h (silent_plan e i (plan_within M s i h)))
  silent_shut e (deliver j i) =
      not_true_is_false (is_open M s (deliver j i))
      (λ h. true_false_absurd h (silent_deliver e j i (deliver_above M s j i h) (deliver_within M s j i h)))

  -- Where a list is not silent, some step of it is open.
  some_of : (xs : List Step) → none_open M s xs ≡ false → (x : Step) × (is_open M s x ≡ true)
  unfolding none_open
  some_of [] e = true_false_absurd refl e
  some_of (x ∷ xs) e =
      ⊎_elim (λ (h : not (is_open M s x) ≡ false). (x, not-false (is_open M s x) h)) (λ (h : none_open M s xs ≡ false). some_of xs h)
      (and_fails (not (is_open M s x)) (none_open M s xs) e)

  pub some_open : is_silent M s ≡ false → (x : Step) × (is_open M s x ≡ true)
  unfolding is_silent
  some_open e = some_of (ranking M.carriers) e
