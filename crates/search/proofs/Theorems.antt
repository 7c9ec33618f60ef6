-- The claims about the search.
use Prim.Native.Nat.{ℕ, ◌+◌, ◌-◌, ◌≤◌, ◌<◌}
use native.Mathlib.Omega.{arith}
use mathlib.Core.List.{List}
use mathlib.Core.Logic.{◌↔◌}
use mathlib.Core.Path.{◌≡◌, refl, ap, ◌∙◌}
use Rattle.floor.specs.declared.Floor.{Floor}
use Rattle.floor.specs.Checks.{start_of}
use Rattle.laws.specs.Verdict.{Verdict, passed, refused, ◌gives◌}
use Rattle.laws.proofs.VerdictLaws.{gives_passed}
use Rattle.floor.proofs.LimitsLaws.{limited_bounds}
use Rattle.route.specs.Route.{cell_at, Answer, none, route, heard}
use Rattle.route.specs.Conflict.{ClearOf}
use Rattle.route.specs.Best.{IsRoute, Arrives, Admissible, Best}
use Rattle.route.specs.Arrival.{arrival_of}
use Rattle.route.specs.Search.{best}
use Rattle.route.proofs.Theorems.{theorems as route-theorems}
use Rattle.records.specs.Records.{views_of, view_at}
use Rattle.records.specs.Seen.{seen}
use Rattle.records.proofs.SeenLaws.{records_view}
use Rattle.search.specs.Task.{task_of}
use Rattle.search.specs.Answers.{answered}
use Rattle.search.specs.Search.{request_of, search_of}
use Rattle.search.specs.Refused.{Granted}
use Rattle.search.specs.Claims.{Claims}
use Rattle.search.proofs.RequestLaws.{request_granted, granted_request}
use Rattle.search.proofs.SeenLaws.{kept_off, unheard_out}

-- An answer shows that the checks found nothing, and what was answered.
answered_says : (z : Verdict) (x y : Answer) → (z gives x) ≡ answered y → (z ≡ passed) × (x ≡ y)
unfolding ◌gives◌
answered_says passed x y e = (refl, cc)
answered_says (refused k p) x y e = let z : ◌≡◌ {A = ℕ} 0 1 = cc in absurd (omega arith)

module _ (f : Floor) (ws : List ℕ) (i : ℕ) (m : List ℕ) where
  granted_of : (x : Answer) → search_of f ws i m ≡ answered x → Granted f ws i m
  unfolding search_of
  granted_of x e = request_granted f ws i m (answered_says (request_of f ws i m) (best (task_of f ws i) (seen f (views_of m i))) x e).0

  best_of : (x : Answer) → search_of f ws i m ≡ answered x → best (task_of f ws i) (seen f (views_of m i)) ≡ x
  unfolding search_of
  best_of x e = (answered_says (request_of f ws i m) (best (task_of f ws i) (seen f (views_of m i))) x e).1

  answers : Granted f ws i m → search_of f ws i m ≡ answered (best (task_of f ws i) (seen f (views_of m i)))
  unfolding search_of
  answers g = gives_passed (granted_request f ws i m g)

  short : Granted f ws i m → (task_of f ws i).horizon ≤ 63
  unfolding task_of
  short g = (limited_bounds f g.accepted.limited).horizon.1

  best_answer : (x : Answer) → search_of f ws i m ≡ answered x → Best (task_of f ws i) (seen f (views_of m i)) x
  best_answer x e = rw (best_of x e) at (route-theorems.best_meets (task_of f ws i) (seen f (views_of m i)) (short (granted_of x e)))

  route_answer : (r : List ℕ) → search_of f ws i m ≡ answered (route r) →
      IsRoute (task_of f ws i) r × Arrives f.horizon r (arrival_of r f.horizon)
      × ClearOf f.horizon r (seen f (views_of m i))
  unfolding task_of Best
  route_answer r e = (x.0, x.1, (best_answer (route r) e).admissible.clear)
    where
      x : IsRoute (task_of f ws i) r × Arrives f.horizon r (arrival_of r f.horizon)
      x = route-theorems.best_is_route (task_of f ws i) (seen f (views_of m i)) r (short (granted_of (route r) e)) (best_of (route r) e)

  none_answer : Granted f ws i m →
      (search_of f ws i m ≡ answered none) ↔ ((q : List ℕ) → Admissible (task_of f ws i) (seen f (views_of m i)) q → ⊥)
  none_answer g = (λ e. both.0 (best_of none e), λ h. answers g ∙ ap answered (both.1 h))
    where
      both : (best (task_of f ws i) (seen f (views_of m i)) ≡ none) ↔ ((q : List ℕ) → Admissible (task_of f ws i) (seen f (views_of m i)) q → ⊥)
      both = route-theorems.none_exactly (task_of f ws i) (seen f (views_of m i)) (short g)

  none_occupies : (r : List ℕ) (j t : ℕ) → search_of f ws i m ≡ answered (route r) → j + 1 < i → view_at m j ≡ heard none → t ≤ f.horizon →
      cell_at r t ≡ start_of f j → ⊥
  unfolding views_of task_of
  none_occupies r j t e l h =
      kept_off f (task_of f ws i) (views_of m i) j t r refl (short (granted_of (route r) e)) (records_view m (i - 1) j (omega arith) ∙ h)
      (best_of (route r) e)

pub theorems : Claims
unfolding task_of
theorems =
    record {
      answers_best = best_answer;
      answers_exactly = λ f ws i m. (
        λ x. granted_of f ws i m x.0 x.1,
        λ g. (best (task_of f ws i) (seen f (views_of m i)), answers f ws i m g),
      );
      answers_route = route_answer;
      none_exactly = none_answer;
      none_occupies = none_occupies;
      unheard_left_out = λ f ws i vs us short. unheard_out f (task_of f ws i) vs us short;
    }
