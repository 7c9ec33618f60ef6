-- The claims, proved.
use Prim.Native.Nat.{ℕ, suc, ◌+◌, ◌≤◌, ◌<◌}
use native.Mathlib.Omega.{arith}
use mathlib.Core.Bool.{true, false}
use mathlib.Core.List.Memᴰ
use mathlib.Core.List.{List, [], map, Memᴰ}
use mathlib.Core.Logic.{◌⊎◌, inl, inr, ⊎_elim}
use mathlib.Core.Path.{◌≡◌, sym, ◌∙◌, ap}
use lib.ListN.{length}
use lib.Seq.{length-take-le}
use Rattle.laws.proofs.Tests.{true_false_absurd, lt_or_le}
use Rattle.floor.specs.declared.Floor.{Floor}
use Rattle.floor.proofs.LimitsLaws.{check_tells}
use Rattle.route.specs.Route.{Answer, none, route, View, heard, Task}
use Rattle.route.specs.Conflict.{ClearOf, ClearOfView, ShowsNoRoute}
use Rattle.route.specs.Best.{Admissible, Best}
use Rattle.route.specs.Search.{best}
use Rattle.route.proofs.Theorems.{theorems as route-theorems}
use Rattle.records.specs.Seen.{seen}
use Rattle.bitrows.specs.Words.{digit}
use Rattle.bitrows.proofs.DigitLaws.{digit_zero}
use Rattle.search.specs.Task.{task_of}
use Rattle.planner.specs.Plan.{respond_of, plan_of}
use Rattle.planner.proofs.SequentialLaws.{plan_prefix, plan_answer}
use Rattle.planner.proofs.Theorems.{theorems as planner-theorems}
use Rattle.blockers.specs.Blockers.{set_of, answers_above, blockers_of}
use Rattle.blockers.specs.Claims.{Claims, views_of_part, RouteAgainst, shuts_in, Stranded}
use Rattle.blockers.proofs.PartLaws.{Part, views_same, minus, part_minus, seen_part, seen_nobody}
use Rattle.blockers.proofs.SetLaws.{set_digit, set_beyond, set_nobody}
use Rattle.blockers.proofs.LeftLaws.{left_part, left_views, left_shut, left_before, left_needed, left_nobody}

silent_clear : (H : ℕ) (v : View) → ShowsNoRoute v → (q : List ℕ) → ClearOfView H q v
unfolding ShowsNoRoute ClearOfView
silent_clear H v (inl e) q = rw e tt
silent_clear H v (inr e) q = rw e tt

fewer_views : (task : Task) (vs vs' : List View) (q : List ℕ) → ((v : View) → Memᴰ v vs' → ShowsNoRoute v ⊎ Memᴰ v vs) →
    Admissible task vs q → Admissible task vs' q
unfolding ClearOf
fewer_views task vs vs' q h a =
    record {
      is_route = a.is_route;
      clear = λ v m.
          ⊎_elim (λ (s : ShowsNoRoute v). silent_clear task.horizon v s q) (λ (k : Memᴰ v vs). a.clear v k) (h v m);
    }

-- A best route is admissible.
best_admissible : (task : Task) (vs : List View) (r : List ℕ) → task.horizon ≤ 63 → best task vs ≡ route r → Admissible task vs r
unfolding Best
best_admissible task vs r short e =
    let b : Best task vs (route r) = rw e at (route-theorems.best_meets task vs short) in b.admissible

module _ (f : Floor) (ws : List ℕ) (i : ℕ) (s : Stranded f ws i) where
  abbrev task : Task
  task = task_of f ws (i + 1)

  abbrev respond : List View → Answer
  respond vs = respond_of f ws i vs

  abbrev xs : List Answer
  xs = answers_above f ws i

  -- The part that is left.
  abbrev left_over : Part
  left_over = left_part respond xs i

  short : task.horizon ≤ 63
  unfolding task_of
  short = (check_tells f ws s.accepted).bounds.horizon.1

  count : length xs ≡ i
  unfolding answers_above
  count = length-take-le i (plan_of f ws) (omega (arith, s.listed, planner-theorems.answers_all f ws))

  set_is : blockers_of f ws i ≡ set_of (views_of_part left_over xs)
  unfolding blockers_of
  set_is = ap set_of (left_views respond xs i)

  shuts_part : (j : ℕ) → j < i → shuts_in f ws i j ≡ left_over j
  unfolding shuts_in
  shuts_part j l = ap (λ (n : ℕ). digit n j) set_is ∙ set_digit left_over xs j (omega (arith, count))

  only_above : (j : ℕ) → shuts_in f ws i j ≡ true → j < i
  unfolding shuts_in
  only_above j e =
      ⊎_elim (λ (l : j < i). l)
      (λ (l : i ≤ j). true_false_absurd e (ap (λ (n : ℕ). digit n j) set_is ∙ set_beyond left_over xs j (omega (arith, count))))
      (lt_or_le j i)

  -- With all answers above there is no route.
  all_shut : respond (map heard xs) ≡ none
  unfolding answers_above plan_of
  all_shut =
      ap (λ (ys : List Answer). respond (map heard ys)) (plan_prefix (respond_of f ws) f.carriers i (omega (arith, s.listed)))
      ∙ sym (plan_answer (respond_of f ws) f.carriers i s.listed)
      ∙ s.has_none

  suffices : (q : List ℕ) → RouteAgainst f ws i (shuts_in f ws i) q → ⊥
  unfolding RouteAgainst respond_of
  suffices =
      let same : views_of_part (shuts_in f ws i) xs ≡ views_of_part left_over xs =
      views_same (shuts_in f ws i) left_over xs (λ j l. shuts_part j (omega (arith, count))) in
      let shut : best task (seen f (views_of_part (shuts_in f ws i) xs)) ≡ none = ap respond same ∙ left_shut respond xs all_shut i in
      (route-theorems.none_exactly task (seen f (views_of_part (shuts_in f ws i) xs)) short).0 shut

  smallest : (part : Part) → ((j : ℕ) → part j ≡ true → shuts_in f ws i j ≡ true) → (k : ℕ) → shuts_in f ws i k ≡ true → part k ≡ false →
      (q : List ℕ) × RouteAgainst f ws i part q
  unfolding RouteAgainst respond_of
  smallest part sub k e lacks =
      let low : k < i = only_above k e in
      let there : left_part respond xs (suc k) k ≡ true = left_before respond xs (suc k) i k low (sym (shuts_part k low) ∙ e) in
      let needed = left_needed respond xs k there in
      let left = minus (left_part respond xs k) k in (
        needed.0,
        fewer_views task (seen f (views_of_part left xs)) (seen f (views_of_part part xs)) needed.0
            (seen_part f part left xs (part_minus part (left_part respond xs k) k
            (λ j t. before j (only_above j (sub j t)) (sub j t) low) lacks))
            (best_admissible task (seen f (views_of_part left xs)) needed.0 short needed.1),
      )
    where
      before : (j : ℕ) → j < i → shuts_in f ws i j ≡ true → k < i → left_part respond xs k j ≡ true
      before j l t low = left_before respond xs k i j (omega arith) (sym (shuts_part j l) ∙ t)

  empty_shuts : blockers_of f ws i ≡ 0 → best task [] ≡ none
  unfolding RouteAgainst shuts_in
  empty_shuts e =
      (route-theorems.none_exactly task [] short).1
      (λ q a.
      suffices q
      (fewer_views task [] (seen f (views_of_part (shuts_in f ws i) xs)) q
      (λ v m. inl (seen_nobody f (shuts_in f ws i) xs (λ j. ap (λ (n : ℕ). digit n j) e ∙ digit_zero j) v m)) a))

  shut_empty : best task [] ≡ none → blockers_of f ws i ≡ 0
  unfolding respond_of
  shut_empty e =
      set_is ∙ set_nobody left_over xs (λ j l. left_nobody respond xs never i j (omega (arith, count)))
    where
      never : (vs : List View) → respond vs ≡ none
      never vs =
          (route-theorems.none_exactly task (seen f vs) short).1
          (λ q a.
          (route-theorems.none_exactly task [] short).0 e q (fewer_views task (seen f vs) [] q (λ v m. absurd (Memᴰ.not-nil m)) a))

pub theorems : Claims
theorems =
    record {
      fewer_views = fewer_views;
      only_above = λ f ws i j s. only_above f ws i s j;
      suffices = suffices;
      smallest = smallest;
      empty_exactly =
          λ f ws i s.
          let exactly = route-theorems.none_exactly (task_of f ws (i + 1)) [] (short f ws i s) in
          (λ e. exactly.0 (empty_shuts f ws i s e), λ h. shut_empty f ws i s (exactly.1 h));
    }
