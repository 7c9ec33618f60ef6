-- The views of a carrier, one part of the state, are what the search looks at.
use Prim.Native.Nat.{ℕ, zero, suc, ◌+◌, ◌*◌, ◌-◌, ◌≤◌, ◌<◌}
use native.Mathlib.Omega.{arith}
use mathlib.Core.List.{List}
use mathlib.Core.Path.{◌≡◌, refl, ◌∙◌, ap}
use lib.ListN.{length, take, drop}
use Rattle.laws.specs.Memory.{part}
use Rattle.laws.proofs.PartLaws.{part_length}
use Rattle.floor.specs.declared.Floor.{Floor}
use Rattle.route.specs.Route.{View}
use Rattle.route.specs.Search.{best}
use Rattle.search.specs.Rows.{FreeRows}
use Rattle.search.specs.Task.{task_of, task_of_rows}
use Rattle.records.specs.Records.{view_at, records, views_of, record_at}
use Rattle.records.specs.Seen.{seen}
use Rattle.planner.specs.Plan.{respond_of}
use Rattle.records.proofs.RecordLaws.{views_above}
use Rattle.records.proofs.PartLaws.{view_part}
use Rattle.reference.specs.Ranges.{below}
use Rattle.encoding.specs.Places.{view_place}
use Rattle.encoding.specs.InnerSteps.{views_in, best_in}
use Rattle.encoding.specs.Calls.{machine_of}

-- The views of the first k records, one by one.
shown_below : (xs : List ℕ) (φ : ℕ → View) (k : ℕ) → ((j : ℕ) → j < k → view_at xs j ≡ φ j) → records xs k ≡ below k φ
unfolding records below
shown_below xs φ zero h = refl
shown_below xs φ (suc k) h = rw (shown_below xs φ k (λ j l. h j (omega arith)), h k (omega arith)) refl

next_view : (n i j a : ℕ) → a ≡ view_place n i 0 → a + 65 * j ≡ view_place n i j
unfolding view_place
next_view n i j a e = omega (arith, e)

-- The best answer to the part that has the views of carrier i, with the free cells as rows.
part_best : (f : Floor) (ws rows m : List ℕ) (i a : ℕ) → FreeRows f ws rows → a ≡ view_place f.carriers i 0 →
    a + 65 * i ≤ length m → best (task_of_rows f rows (i + 1)) (seen f (views_of (part m a (65 * i)) (i + 1))) ≡ best_in (machine_of f ws) m i
unfolding best_in machine_of respond_of views_in
part_best f ws rows m i a free e l =
    let xs = part m a (65 * i) in
    free.same (i + 1) (seen f (views_of xs (i + 1)))
    ∙ ap (λ (vs : List View). best (task_of f ws (i + 1)) (seen f vs)) (views_above xs i ∙ shown_below xs view i same)
  where
    view : ℕ → View
    view j = record_at m (view_place f.carriers i j)

    same : (j : ℕ) → j < i → view_at (part m a (65 * i)) j ≡ view j
    same j k = view_part m a i j k l ∙ ap (record_at m) (next_view f.carriers i j a e)

-- The part as the code takes it, from the first view to the place behind the last.
slice_part : (m : List ℕ) (a p i : ℕ) → p ≡ a + 65 * i → take (p - a) (drop a m) ≡ part m a (65 * i)
unfolding part
slice_part m a p i h = let size : p - a ≡ 65 * i = omega arith in rw size refl

pub slice_long : (m : List ℕ) (a p i : ℕ) → p ≡ a + 65 * i → p ≤ length m → 65 * i ≤ length (take (p - a) (drop a m))
slice_long m a p i h l = omega (arith, ap length (slice_part m a p i h), part_length m a (65 * i) (omega arith))

pub slice_best : (f : Floor) (ws rows m : List ℕ) (i a p : ℕ) → FreeRows f ws rows → a ≡ view_place f.carriers i 0 →
    p ≡ a + 65 * i → p ≤ length m →
    best (task_of_rows f rows (i + 1)) (seen f (views_of (take (p - a) (drop a m)) (i + 1))) ≡ best_in (machine_of f ws) m i
slice_best f ws rows m i a p free at h l =
    ap (λ (xs : List ℕ). best (task_of_rows f rows (i + 1)) (seen f (views_of xs (i + 1)))) (slice_part m a p i h)
    ∙ part_best f ws rows m i a free at (omega arith)
