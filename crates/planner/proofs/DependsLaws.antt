-- The answers of the first k carriers depend on those carriers alone.
use Prim.Native.Nat.{ℕ, zero, suc, ◌+◌, ◌*◌, ◌-◌, ◌≤◌, ◌<◌}
use native.Mathlib.Omega.{arith}
use mathlib.Core.Path.{◌≡◌, refl, sym, ◌∙◌, ap, ap₂, fun_ext}
use mathlib.Core.Bool.{Bool, not}
use mathlib.Core.List.{List, map}
use lib.ListN.{length, take, get_or, length-map}
use Rattle.floor.specs.declared.Floor.{Floor}
use Rattle.laws.specs.Verdict.{passed, All}
use Rattle.laws.proofs.VerdictLaws.{gives_same}
use Rattle.floor.specs.Checks.{check_of, start_of, is_dock, among}
use Rattle.floor.specs.Accepted.{SameFloor, SameDocks}
use Rattle.floor.proofs.SameLaws.{among_same, same_docks}
use Rattle.route.specs.Route.{Answer, View, heard, Task}
use Rattle.route.specs.Search.{best}
use Rattle.route.specs.Sequential.{sequential}
use Rattle.search.specs.Task.{task_of}
use Rattle.search.specs.Search.{request_of, search_of}
use Rattle.search.proofs.RequestLaws.{request_granted}
use Rattle.search.proofs.SeenLaws.{seen_same}
use Rattle.records.specs.Records.{records, views_of}
use Rattle.records.specs.Seen.{seen}
use Rattle.records.proofs.SeenLaws.{records_length}
use Rattle.planner.specs.Plan.{respond_of, plan_of}
use Rattle.planner.specs.Claims.{AgreeUpTo}
use Rattle.planner.proofs.FailingLaws.{plan_count}
use Rattle.planner.proofs.SequentialLaws.{plan_prefix}

-- As many views as answers above.
views_count : (φ : ℕ → List View → Answer) (k : ℕ) → length (map heard (sequential φ k)) ≡ k
views_count φ k = length-map (sequential φ k) heard ∙ plan_count φ k

-- Responses that agree below k, to as many views as there are carriers above, make the same first k answers.
pub sequential_below : (φ ψ : ℕ → List View → Answer) (k : ℕ) → ((i : ℕ) (vs : List View) → i < k → length vs ≡ i → φ i vs ≡ ψ i vs)
    → sequential φ k ≡ sequential ψ k
unfolding sequential
sequential_below φ ψ zero h = refl
sequential_below φ ψ (suc k) h =
    rw (
      sequential_below φ ψ k (λ i vs l e. h i vs (omega arith) e),
      h k (map heard (sequential ψ k)) (omega arith) (views_count ψ k),
    )

-- Tasks with the same parts are the same.
parts_same : {w w' c c' h h' start start' : ℕ} {dock dock' free free' : ℕ → Bool} → w ≡ w' → c ≡ c' → h ≡ h' → start ≡ start' →
    dock ≡ dock' → free ≡ free'
    → ◌≡◌ {A = Task} (record { width = w; cells = c; horizon = h; start = start; dock = dock; free = free })
    (record { width = w'; cells = c'; horizon = h'; start = start'; dock = dock'; free = free' })
parts_same a b c d e f = rw (a, b, c, d, e, f)

-- Floors that differ at most in the order of docks, with walls that agree up to their count, agree up to their last carrier; so do records
-- that are the same floor.
pub docks_agree : (f : Floor) (ws : List ℕ) (f' : Floor) (ws' : List ℕ) → SameDocks f f' →
    All (λ (j : ℕ). get_or ws j 0 ≡ get_or ws' j 0) f.walls → AgreeUpTo f.carriers f ws f' ws'
docks_agree f ws f' ws' same cells =
    record {
      width = same.outline.width;
      height = same.outline.height;
      horizon = same.outline.horizon;
      walls = same.outline.walls;
      cells = cells;
      starts = same.outline.starts;
      docks = same.docks;
    }

pub same_agrees : (f : Floor) (ws : List ℕ) (f' : Floor) (ws' : List ℕ) → SameFloor f ws f' ws' → AgreeUpTo f.carriers f ws f' ws'
same_agrees f ws f' ws' same = docks_agree f ws f' ws' (same_docks f ws f' ws' same) same.cells

module _ (k : ℕ) (f : Floor) (ws : List ℕ) (f' : Floor) (ws' : List ℕ) (agree : AgreeUpTo k f ws f' ws') where
  -- The cells that are no wall are the same.
  free_same : ◌≡◌ {A = ℕ → Bool} (λ c. not (among ws f.walls c)) (λ c. not (among ws' f'.walls c))
  free_same = fun_ext (λ c. rw (among_same ws ws' f.walls c agree.cells, agree.walls))

  pub task_same : (i : ℕ) → i < k → task_of f ws (i + 1) ≡ task_of f' ws' (i + 1)
  unfolding task_of
  task_same i l =
      let one : i + 1 - 1 ≡ i = omega arith in
      parts_same agree.width (ap₂ (λ (w h : ℕ). w * h) agree.width agree.height) agree.horizon
      (ap (start_of f) one ∙ agree.starts i l ∙ ap (start_of f') (sym one))
      (ap (is_dock f) one ∙ fun_ext (agree.docks i l) ∙ ap (is_dock f') (sym one)) free_same

  -- A carrier responds alike to as many views as there are carriers above it.
  pub respond_same : (i : ℕ) (views : List View) → i < k → length views ≤ k → respond_of f ws i views ≡ respond_of f' ws' i views
  unfolding respond_of
  respond_same i views l h = ap₂ best (task_same i l) (seen_same f f' k views agree.horizon agree.starts h)

  pub plan_depends : k ≤ f.carriers → k ≤ f'.carriers → take k (plan_of f ws) ≡ take k (plan_of f' ws')
  unfolding plan_of
  plan_depends a b =
      plan_prefix (respond_of f ws) f.carriers k a
      ∙ sequential_below (respond_of f ws) (respond_of f' ws') k
      (λ i views l e. respond_same i views l (omega arith))
      ∙ sym (plan_prefix (respond_of f' ws') f'.carriers k b)

-- Floors with the same verdict that agree in all their carriers, and in how many they are.
module _ (f : Floor) (ws : List ℕ) (f' : Floor) (ws' : List ℕ) (agree : AgreeUpTo f.carriers f ws f' ws')
    (carriers : f.carriers ≡ f'.carriers) where
  pub plans_agree : plan_of f ws ≡ plan_of f' ws'
  unfolding plan_of
  plans_agree =
      sequential_below (respond_of f ws) (respond_of f' ws') f.carriers
      (λ i views l e. respond_same f.carriers f ws f' ws' agree i views l (omega arith))
      ∙ ap (λ (n : ℕ). sequential (respond_of f' ws') n) carriers

  module _ (checks : check_of f ws ≡ check_of f' ws') (i : ℕ) (m : List ℕ) where
    -- A search that is granted is for a carrier that is there.
    granted_task : request_of f ws i m ≡ passed → task_of f ws i ≡ task_of f' ws' i
    granted_task e =
        let listed = (request_granted f ws i m e).listed in
        let one : i - 1 + 1 ≡ i = omega (arith, listed.0) in
        rw one at (task_same f.carriers f ws f' ws' agree (i - 1) (omega (arith, listed.0, listed.1)))

    granted_views : request_of f ws i m ≡ passed → seen f (views_of m i) ≡ seen f' (views_of m i)
    unfolding views_of
    granted_views e =
        seen_same f f' f.carriers (records m (i - 1)) agree.horizon agree.starts
        (omega (arith, records_length m (i - 1), (request_granted f ws i m e).listed))

    pub searches_agree : search_of f ws i m ≡ search_of f' ws' i m
    unfolding search_of request_of
    searches_agree =
        gives_same (request_of f ws i m) _ _ (λ e. ap₂ best (granted_task e) (granted_views e))
        ∙ rw (checks, carriers) refl
