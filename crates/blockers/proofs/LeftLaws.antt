-- What the procedure leaves, as a part of the carriers: there is no route against it, it only falls, and a carrier that is kept was needed.
use Prim.Native.Nat.{ℕ, zero, suc, ◌+◌, ◌-◌, ◌≤◌, ◌<◌}
use native.Mathlib.Omega.{arith}
use native.Mathlib.Nat.{add-zero, add-suc}
use mathlib.Core.Bool.{true, false}
use mathlib.Core.List.{List, map}
use mathlib.Core.Logic.{◌⊎◌, inl, inr}
use mathlib.Core.Path.{◌≡◌, refl, sym, ◌∙◌, ap}
use Rattle.laws.proofs.Tests.{true_false_absurd, not_true_is_false, eq_or_ne}
use Rattle.route.specs.Route.{Answer, none, route, View, heard}
use Rattle.blockers.specs.Blockers.{if_none, tried, left_after}
use Rattle.blockers.specs.Claims.{views_of_part}
use Rattle.blockers.proofs.PartLaws.{Part, all_heard, minus, minus_same, minus_less, views_minus}

-- What is left where the answer without carrier k is known.
kept_shut : (x : Answer) (part : Part) (k j : ℕ) → if_none x (minus part k) part j ≡ true → part j ≡ true
unfolding if_none
kept_shut none part k j e = minus_less part k j e
kept_shut (route r) part k j e = e

kept_route : (x : Answer) (part : Part) (k : ℕ) → if_none x (minus part k) part k ≡ true → (r : List ℕ) × (x ≡ route r)
unfolding if_none
kept_route none part k e = true_false_absurd e (minus_same part k)
kept_route (route r) part k e = (r, refl)

module _ (respond : List View → Answer) (xs : List Answer) where
  -- The part that is left when the carriers below k were tried.
  unfoldable pub left_part : ℕ → Part
  left_part zero = λ j. true
  left_part (suc k) = if_none (respond (views_of_part (minus (left_part k) k) xs)) (minus (left_part k) k) (left_part k)

  by_answer : (x : Answer) (part part' : Part) →
      if_none x (views_of_part part xs) (views_of_part part' xs) ≡ views_of_part (if_none x part part') xs
  unfolding if_none
  by_answer none part part' = refl
  by_answer (route r) part part' = refl

  -- The views that are left are those of that part.
  pub left_views : (k : ℕ) → left_after respond k (map heard xs) ≡ views_of_part (left_part k) xs
  unfolding left_after left_part tried
  left_views zero = all_heard xs
  left_views (suc k) =
      ap (tried respond k) (left_views k)
      ∙ ap (λ (vs : List View). if_none (respond vs) vs (views_of_part (left_part k) xs)) (views_minus (left_part k) xs k)
      ∙ by_answer (respond (views_of_part (minus (left_part k) k) xs)) (minus (left_part k) k) (left_part k)

  still_none : (x : Answer) (part part' : Part) → respond (views_of_part part xs) ≡ x → respond (views_of_part part' xs) ≡ none →
      respond (views_of_part (if_none x part part') xs) ≡ none
  unfolding if_none
  still_none none part part' e h = e
  still_none (route r) part part' e h = h

  -- Against what is left there is no route.
  pub left_shut : respond (map heard xs) ≡ none → (k : ℕ) → respond (views_of_part (left_part k) xs) ≡ none
  unfolding left_part
  left_shut h zero = ap respond (sym (all_heard xs)) ∙ h
  left_shut h (suc k) =
      still_none (respond (views_of_part (minus (left_part k) k) xs)) (minus (left_part k) k) (left_part k) refl (left_shut h k)

  -- What has gone stays out.
  left_falls : (k d j : ℕ) → left_part (k + d) j ≡ true → left_part k j ≡ true
  unfolding left_part
  left_falls k zero j e = rw (add-zero k) at e
  left_falls k (suc d) j e =
      let n = k + d in
      left_falls k d j (kept_shut (respond (views_of_part (minus (left_part n) n) xs)) (left_part n) n j (rw (add-suc k d) at e))

  pub left_before : (k n j : ℕ) → k ≤ n → left_part n j ≡ true → left_part k j ≡ true
  left_before k n j l e =
      let sum : n ≡ k + (n - k) = omega arith in
      left_falls k (n - k) j (rw sum at e)

  -- A carrier that is kept was needed: without it there was a route.
  pub left_needed : (k : ℕ) → left_part (suc k) k ≡ true → (r : List ℕ) × (respond (views_of_part (minus (left_part k) k) xs) ≡ route r)
  unfolding left_part
  left_needed k e = kept_route (respond (views_of_part (minus (left_part k) k) xs)) (left_part k) k e

  -- Where there is never a route, nobody is left.
  pub left_nobody : ((vs : List View) → respond vs ≡ none) → (k j : ℕ) → j < k → left_part k j ≡ false
  unfolding left_part if_none
  left_nobody h zero j l = absurd (omega arith)
  left_nobody h (suc k) j l =
      rw (h (views_of_part (minus (left_part k) k) xs))
      (not_true_is_false (minus (left_part k) k j) (gone (left_nobody h k) (eq_or_ne j k)))
    where
      gone : ((i : ℕ) → i < k → left_part k i ≡ false) → (j ≡ k) ⊎ (j ≡ k → ⊥) → minus (left_part k) k j ≡ true → ⊥
      gone before (inl e) t = true_false_absurd (rw e at t) (minus_same (left_part k) k)
      gone before (inr ne) t = true_false_absurd (minus_less (left_part k) k j t) (before j (omega arith))
