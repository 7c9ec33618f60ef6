-- Responses that agree on the views of the carriers above leave the same.
use Prim.Native.Nat.{ℕ, zero, suc}
use mathlib.Core.List.{List}
use mathlib.Core.Path.{◌≡◌, refl, ◌∙◌, ap}
use lib.ListN.{length, length-set}
use Rattle.route.specs.Route.{Answer, none, route, View, unheard}
use Rattle.blockers.specs.Blockers.{views_without, if_none, tried, left_after}

-- Nothing changes how many views there are.
by_answer : (x : Answer) (vs vs' : List View) (n : ℕ) → length vs ≡ n → length vs' ≡ n → length (if_none x vs vs') ≡ n
unfolding if_none
by_answer none vs vs' n e h = e
by_answer (route r) vs vs' n e h = h

module _ (φ ψ : List View → Answer) (n : ℕ) (same : (vs : List View) → length vs ≡ n → φ vs ≡ ψ vs) where
  without_long : (j : ℕ) (vs : List View) → length vs ≡ n → length (views_without j vs) ≡ n
  unfolding views_without
  without_long j vs e = length-set vs j unheard ∙ e

  tried_long : (j : ℕ) (vs : List View) → length vs ≡ n → length (tried φ j vs) ≡ n
  unfolding tried
  tried_long j vs e = by_answer (φ (views_without j vs)) (views_without j vs) vs n (without_long j vs e) e

  left_long : (k : ℕ) (vs : List View) → length vs ≡ n → length (left_after φ k vs) ≡ n
  unfolding left_after
  left_long zero vs e = e
  left_long (suc k) vs e = tried_long k (left_after φ k vs) (left_long k vs e)

  pub left_same : (k : ℕ) (vs : List View) → length vs ≡ n → left_after φ k vs ≡ left_after ψ k vs
  unfolding left_after tried
  left_same zero vs e = refl
  left_same (suc k) vs e =
      let us = left_after φ k vs in
      ap (λ (x : Answer). if_none x (views_without k us) us) (same (views_without k us) (without_long k us (left_long k vs e)))
      ∙ ap (tried ψ k) (left_same k vs e)
