-- The walk as a route of 64 cells: the walk's cells through the horizon, then 0.
use Prim.Native.Nat.{ℕ, zero, suc, ◌+◌, ◌-◌, ◌≤◌, ◌<◌}
use native.Mathlib.Omega.{arith}
use mathlib.Core.Bool.{Bool}
use mathlib.Core.List.{List, ◌++◌}
use native.Mathlib.Nat.{add-sub_of_le}
use mathlib.Core.Path.{◌≡◌, refl, ap, subst, ◌∙◌}
use lib.ListN.{length, get_or, replicate, length-append, length-replicate, get_or-append}
use lib.Seq.{get_or-append-add}
use Rattle.laws.proofs.Lists.{zeros_at}
use Rattle.route.specs.Route.{cell_at, Task}
use Rattle.route.specs.Search.{Rule, later, walk, walk_from}
use Rattle.route.proofs.WalkLaws.{trail}

walk_length : (cells : ℕ) (dock : ℕ → Bool) (k : ℕ) (ok : Rule) (c : ℕ) → length (walk cells dock k ok c) ≡ suc k
unfolding walk
walk_length cells dock zero ok c = refl
walk_length cells dock (suc k) ok c = ap suc (walk_length cells dock k (later ok) _)

-- A list of n cells and then zeros.
module _ (xs : List ℕ) (k : ℕ) where
  padded_at : (t : ℕ) → t < length xs → get_or (xs ++ replicate k 0) t 0 ≡ get_or xs t 0
  padded_at t h = get_or-append xs (replicate k 0) 0 t h

  padded_blank : (t : ℕ) → length xs ≤ t → get_or (xs ++ replicate k 0) t 0 ≡ 0
  padded_blank t h =
      subst (λ (n : ℕ). get_or (xs ++ replicate k 0) n 0 ≡ 0) (add-sub_of_le h)
      (get_or-append-add xs (replicate k 0) (t - length xs) 0 ∙ zeros_at k (t - length xs))

  padded_length : length (xs ++ replicate k 0) ≡ length xs + k
  padded_length = length-append xs (replicate k 0) ∙ ap (λ (n : ℕ). length xs + n) (length-replicate k 0)

module _ (task : Task) (ok : Rule) where
  cells_length : length (walk task.cells task.dock task.horizon ok task.start) ≡ suc task.horizon
  cells_length = walk_length task.cells task.dock task.horizon ok task.start

  pub route_length : task.horizon ≤ 63 → length (walk_from task ok) ≡ 64
  unfolding walk_from
  route_length h =
      padded_length (walk task.cells task.dock task.horizon ok task.start) (63 - task.horizon) ∙ omega (arith, cells_length)

  pub route_at : (t : ℕ) → t ≤ task.horizon →
      cell_at (walk_from task ok) t ≡ trail task.cells task.dock task.horizon ok task.start t
  unfolding walk_from cell_at
  route_at t h =
      padded_at (walk task.cells task.dock task.horizon ok task.start) (63 - task.horizon) t (omega (arith, cells_length))

  pub route_blank : (t : ℕ) → task.horizon < t → cell_at (walk_from task ok) t ≡ 0
  unfolding walk_from cell_at
  route_blank t h =
      padded_blank (walk task.cells task.dock task.horizon ok task.start) (63 - task.horizon) t (omega (arith, cells_length))
