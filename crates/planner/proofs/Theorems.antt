-- The claims of the planner, proved.
use Prim.Native.Nat.{ℕ, zero, suc, ◌+◌, ◌*◌, ◌≤◌, ◌<◌}
use native.Mathlib.Omega.{arith}
use native.Mathlib.Nat.{zero-add}
use mathlib.Core.Logic.{◌⊎◌, inl, inr}
use mathlib.Core.Path.{◌≡◌, refl, sym, ◌∙◌, ap}
use mathlib.Core.List.{List, [], ◌∷◌, map}
use lib.ListN.{length, get_or, take, drop, replicate}
use Rattle.floor.specs.declared.Floor.{Floor}
use Rattle.laws.specs.Verdict.{passed}
use Rattle.floor.specs.Checks.{check_of, start_of}
use Rattle.floor.proofs.LimitsLaws.{check_tells}
use Rattle.route.specs.Route.{cell_at, Answer, none, route, View, unheard, heard, Task}
use Rattle.route.specs.Conflict.{ConflictFree, ClearOf, ClearOfView}
use Rattle.route.specs.Best.{IsRoute, Best}
use Rattle.route.specs.Search.{best}
use Rattle.route.proofs.Theorems.{theorems as route-theorems}
use Rattle.search.specs.Task.{task_of}
use Rattle.search.proofs.SeenLaws.{route_among, kept_off}
use Rattle.planner.specs.Plan.{plan_of, respond_of, failing_of, failing_from}
use Rattle.records.specs.Records.{record_of, stored}
use Rattle.records.specs.Seen.{seen}
use Rattle.planner.specs.Claims.{Claims, answer_at, plan_unseen}
use Rattle.planner.proofs.FailingLaws.{plan_count}
use Rattle.planner.proofs.ResultLaws.{plan_all_whole}
use Rattle.planner.proofs.SequentialLaws.{plan_prefix, plan_answer}
use Rattle.planner.proofs.DependsLaws.{plan_depends}
use Rattle.planner.proofs.StrandedLaws.{told_answer, routes_seen, rules_agree}
use Rattle.planner.proofs.StoredLaws.{record_stored}

answers_all : (f : Floor) (ws : List ℕ) → length (plan_of f ws) ≡ f.carriers
unfolding plan_of
answers_all f ws = plan_count (respond_of f ws) f.carriers

module _ (f : Floor) (ws : List ℕ) (k : ℕ) (ok : check_of f ws ≡ passed) (l : k < f.carriers) where
  -- The answers above, as they are told.
  abbrev above : List View
  above = map heard (take k (plan_of f ws))

  -- View j is answer j.
  told : (j : ℕ) → j < k → get_or above j unheard ≡ heard (answer_at (plan_of f ws) j)
  told j h = told_answer (plan_of f ws) j k h (omega (arith, answers_all f ws))

  response : answer_at (plan_of f ws) k ≡ best (task_of f ws (k + 1)) (seen f above)
  unfolding plan_of respond_of
  response =
      plan_answer (respond_of f ws) f.carriers k l
      ∙ ap (λ (xs : List Answer). respond_of f ws k (map heard xs)) (sym (plan_prefix (respond_of f ws) f.carriers k (omega arith)))

  short : (task_of f ws (k + 1)).horizon ≤ 63
  unfolding task_of
  short = (check_tells f ws ok).bounds.horizon.1

  each_best : Best (task_of f ws (k + 1)) (seen f above) (answer_at (plan_of f ws) k)
  each_best = rw response (route-theorems.best_meets (task_of f ws (k + 1)) (seen f above) short)

  clear_of_above : (r q : List ℕ) (j : ℕ) → j < k → answer_at (plan_of f ws) j ≡ route q → answer_at (plan_of f ws) k ≡ route r
      → ConflictFree f.horizon r q
  unfolding task_of Best ClearOf ClearOfView
  clear_of_above r q j h e g =
      let b : Best (task_of f ws (k + 1)) (seen f above) (route r) = rw g at each_best in
      b.admissible.clear (heard (route q)) (route_among f above j q (told j h ∙ ap heard e))

  stranded_avoided : (j t : ℕ) (r : List ℕ) → j < k → answer_at (plan_of f ws) j ≡ none → answer_at (plan_of f ws) k ≡ route r →
      t ≤ f.horizon → cell_at r t ≡ start_of f j → ⊥
  unfolding task_of
  stranded_avoided j t r h e g =
      kept_off f (task_of f ws (k + 1)) above j t r refl (check_tells f ws ok).bounds.horizon.1 (told j h ∙ ap heard e) (sym response ∙ g)

  unstranded_best : ((j : ℕ) → j < k → answer_at (plan_of f ws) j ≡ none → ⊥) → Best (task_of f ws (k + 1)) above (answer_at (plan_of f ws) k)
  unstranded_best h =
      let same : seen f above ≡ above = routes_seen f (plan_of f ws) k h (omega (arith, answers_all f ws)) in
      rw same at each_best

-- A failing carrier is not below the first that is looked at.
failing_low : (xs : List Answer) (k x : ℕ) → failing_from (suc k) xs ≡ suc x → k ≤ x
unfolding failing_from
failing_low [] k x e = absurd (omega arith)
failing_low (none ∷ xs) k x e = omega arith
failing_low (route r ∷ xs) k x e = omega (arith, failing_low xs (suc k) x e)

-- The first answer that is none.
failing_tells : (xs : List Answer) (i k : ℕ) → failing_from (suc i) xs ≡ suc (i + k)
    → (k < length xs) × (answer_at xs k ≡ none) × ((j : ℕ) → j < k → answer_at xs j ≡ none → ⊥)
unfolding failing_from answer_at
failing_tells [] i k e = absurd (omega arith)
failing_tells (none ∷ xs) i zero e = (omega arith, refl, λ j h n. absurd (omega arith))
failing_tells (none ∷ xs) i (suc k) e = absurd (omega arith)
failing_tells (route r ∷ xs) i zero e = absurd (omega (arith, failing_low xs (suc i) (i + 0) e))
failing_tells (route r ∷ xs) i (suc k) e =
    let s : suc (i + suc k) ≡ suc (suc i + k) = omega arith in
    let t = failing_tells xs (suc i) k (e ∙ s) in
    (omega (arith, t.0), t.1, earlier t.2)
  where
    earlier : ((j : ℕ) → j < k → answer_at xs j ≡ none → ⊥) → (j : ℕ) → j < suc k → answer_at (route r ∷ xs) j ≡ none → ⊥
    earlier h zero l n = let z : ◌≡◌ {A = ℕ} 0 1 = cc in omega arith
    earlier h (suc j) l n = h j (omega arith) n

-- No failing carrier: no answer is none, and back.
failing_zero : (xs : List Answer) (i : ℕ) → failing_from (suc i) xs ≡ 0 → (j : ℕ) → j < length xs → answer_at xs j ≡ none → ⊥
unfolding failing_from answer_at
failing_zero [] i e j l n = omega arith
failing_zero (none ∷ xs) i e j l n = omega arith
failing_zero (route r ∷ xs) i e zero l n = let z : ◌≡◌ {A = ℕ} 0 1 = cc in omega arith
failing_zero (route r ∷ xs) i e (suc j) l n = failing_zero xs (suc i) e j (omega arith) n

zero_failing : (xs : List Answer) (i : ℕ) → ((j : ℕ) → j < length xs → answer_at xs j ≡ none → ⊥) → failing_from (suc i) xs ≡ 0
unfolding failing_from answer_at
zero_failing [] i h = refl
zero_failing (none ∷ xs) i h = absurd (h 0 (omega arith) refl)
zero_failing (route r ∷ xs) i h = zero_failing xs (suc i) (λ j l n. h (suc j) (omega arith) n)

-- The best answer is a route of the task where it is a route.
best_admissible : (task : Task) (vs : List View) (r : List ℕ) → Best task vs (route r) → IsRoute task r
unfolding Best
best_admissible task vs r b = b.admissible.is_route

-- Where carrier k has no route of its own, its answer is none.
none_answered : (f : Floor) (ws : List ℕ) (k : ℕ) → check_of f ws ≡ passed → k < f.carriers
    → ((r : List ℕ) → IsRoute (task_of f ws (k + 1)) r → ⊥) → answer_at (plan_of f ws) k ≡ none
none_answered f ws k ok l lacks = go (answer_at (plan_of f ws) k) (each_best f ws k ok l)
  where
    go : (x : Answer) → Best (task_of f ws (k + 1)) (seen f (map heard (take k (plan_of f ws)))) x → x ≡ none
    go none b = refl
    go (route r) b = absurd (lacks r (best_admissible (task_of f ws (k + 1)) _ r b))

-- A plan whose first answer is none fails at carrier 1.
first_none : (xs : List Answer) → 0 < length xs → answer_at xs 0 ≡ none → failing_of xs ≡ 1
unfolding failing_of failing_from answer_at
first_none [] l e = absurd (omega arith)
first_none (x ∷ xs) l e = rw e

all_none : (f : Floor) (ws : List ℕ) → check_of f ws ≡ passed
    → ((k : ℕ) (r : List ℕ) → k < f.carriers → IsRoute (task_of f ws (k + 1)) r → ⊥)
    → ((k : ℕ) → k < f.carriers → answer_at (plan_of f ws) k ≡ none) × (failing_of (plan_of f ws) ≡ 1)
all_none f ws ok lacks =
    let some = (check_tells f ws ok).bounds.carriers.0 in (
      λ k l. none_answered f ws k ok l (λ r h. lacks k r l h),
      first_none (plan_of f ws) (omega (arith, answers_all f ws)) (none_answered f ws 0 ok (omega arith) (λ r h. lacks 0 r (omega arith) h)),
    )

-- A plan without a failing carrier has no none, so that both rules give it.
unstranded_plan : (f : Floor) (ws : List ℕ) → (failing_of (plan_of f ws) ≡ 0) ⊎ (failing_of (plan_unseen f ws) ≡ 0) →
    plan_of f ws ≡ plan_unseen f ws
unfolding plan_of plan_unseen respond_of failing_of
unstranded_plan f ws (inl e) =
    rules_agree f (λ i vs. best (task_of f ws (i + 1)) (seen f vs)) (λ i vs. best (task_of f ws (i + 1)) vs) f.carriers
    (λ i vs same. ap (best (task_of f ws (i + 1))) same)
    (λ j l. failing_zero _ 0 e j (omega (arith, plan_count (λ i vs. best (task_of f ws (i + 1)) (seen f vs)) f.carriers)))
unstranded_plan f ws (inr e) =
    sym
    (rules_agree f (λ i vs. best (task_of f ws (i + 1)) vs) (λ i vs. best (task_of f ws (i + 1)) (seen f vs)) f.carriers
    (λ i vs same. ap (best (task_of f ws (i + 1))) (sym same))
    (λ j l. failing_zero _ 0 e j (omega (arith, plan_count (λ i vs. best (task_of f ws (i + 1)) vs) f.carriers))))

none_stored : (f : Floor) (ws : List ℕ) (k : ℕ) (old : List ℕ) → check_of f ws ≡ passed → k < f.carriers
    → answer_at (plan_of f ws) k ≡ none → take 65 (drop (65 * k) (stored (plan_of f ws) old)) ≡ 1 ∷ replicate 64 0
unfolding record_of
none_stored f ws k old ok l e =
    record_stored (plan_of f ws) old k (plan_all_whole f ws (check_tells f ws ok).bounds.horizon.1) (omega (arith, answers_all f ws))
    ∙ ap record_of e

pub theorems : Claims
unfolding failing_of
theorems =
    record {
      answers_all = answers_all;
      each_best = each_best;
      conflict_free = λ f ws j k r q ok h l e g. clear_of_above f ws k ok l r q j h e g;
      stranded_avoided = λ f ws j k t r ok h l. stranded_avoided f ws k ok l j t r h;
      unstranded_best = λ f ws k ok l. unstranded_best f ws k ok l;
      unstranded_plan = unstranded_plan;
      failing_first = λ f ws k e.
          let t = failing_tells (plan_of f ws) 0 k (e ∙ ap suc (sym (zero-add k))) in
          (omega (arith, t.0, answers_all f ws), t.1, t.2);
      failing_none = λ f ws. (
        λ e j l n. failing_zero (plan_of f ws) 0 e j (omega (arith, answers_all f ws)) n,
        λ h. zero_failing (plan_of f ws) 0 (λ j l n. h j (omega (arith, answers_all f ws)) n),
      );
      depends_on_above = λ k f ws f' ws' a b agree. plan_depends k f ws f' ws' agree a b;
      all_none = all_none;
      none_stored = none_stored;
    }
