-- The planner's loop: one more answer stored behind those of the carriers above.
use Prim.Native.Nat.{ℕ, ◌+◌, ◌*◌, ◌≤◌}
use native.Mathlib.Omega.{arith}
use native.Mathlib.Nat.{zero-add}
use native.Mathlib.Numerals.{add-one}
use mathlib.Core.Path.{◌≡◌, refl, sym, ◌∙◌, ap}
use mathlib.Core.List.{List, map}
use lib.ListN.{length}
use Rattle.floor.specs.declared.Floor.{Floor}
use Rattle.route.specs.Route.{Answer, none, route, View, heard, Task}
use Rattle.route.specs.Search.{best}
use Rattle.route.specs.Sequential.{sequential}
use Rattle.route.proofs.Theorems.{theorems}
use Rattle.records.specs.Records.{records, views_of, record_of, records_of, stored}
use Rattle.records.specs.Seen.{seen}
use Rattle.search.specs.Task.{task_of, task_of_rows}
use Rattle.laws.specs.Memory.{put}
use Rattle.laws.proofs.PutLaws.{put_none, put_length, put_next}
use Rattle.planner.specs.Plan.{respond_of, respond_with}
use Rattle.planner.specs.Records.{with_answer}
use Rattle.records.proofs.RecordLaws.{Whole, none_whole, route_whole, records_snoc, views_above, plan_length, views_are}
use Rattle.records.proofs.SeenLaws.{put_records}

-- A best answer has a whole record.
pub best_whole : (task : Task) (vs : List View) → task.horizon ≤ 63 → Whole (best task vs)
best_whole task vs h = go (best task vs) refl
  where
    go : (x : Answer) → best task vs ≡ x → Whole x
    go none e = none_whole
    go (route r) e = route_whole r (theorems.best_is_route task vs r h e).0.long

-- Every best response has one.
pub respond_whole : (f : Floor) (ws : List ℕ) → f.horizon ≤ 63 → (k : ℕ) (vs : List View) → Whole (respond_of f ws k vs)
unfolding respond_of task_of
respond_whole f ws h k vs = best_whole (task_of f ws (k + 1)) (seen f vs) h

module _ (f : Floor) (rows : List ℕ) (horizon : f.horizon ≤ 63) where
  whole : (k : ℕ) (vs : List View) → Whole (respond_with f rows k vs)
  unfolding respond_with task_of_rows
  whole k vs = best_whole (task_of_rows f rows (k + 1)) (seen f vs) horizon

  -- The answers of the first k carriers.
  abbrev pub answers : ℕ → List Answer
  answers k = sequential (respond_with f rows) k

  pub answers_length : (k : ℕ) → length (records_of (answers k)) ≡ 65 * k
  answers_length k = plan_length (respond_with f rows) whole k

  -- Before the first carrier.
  pub plan_start : (old : List ℕ) → old ≡ stored (answers 0) old
  unfolding stored sequential records_of
  plan_start old = put_none old 0

  -- One more carrier.
  pub plan_more : (k : ℕ) (old m m' : List ℕ) → 65 * k + 65 ≤ length old → m ≡ stored (answers k) old
      → m' ≡ put m (65 * k) (record_of (respond_with f rows k (records m k))) → m' ≡ stored (answers (k + 1)) old
  unfolding stored put sequential
  plan_more k old m m' l e g =
      let x = respond_with f rows k (map heard (answers k)) in
      let same : respond_with f rows k (records m k) ≡ x = ap (respond_with f rows k) (views_are (respond_with f rows) whole k m _ e) in
      rw (add-one, records_snoc (answers k) x)
      (put_next old m m' (records_of (answers k)) (record_of x) 0 (65 * k) e (g ∙ ap (λ (y : Answer). put m (65 * k) (record_of y)) same)
      (zero-add (length (records_of (answers k))) ∙ answers_length k)
      (rw (whole k (map heard (answers k))) l))

  -- The memory keeps its length.
  pub plan_keeps : (k : ℕ) (old m : List ℕ) → 65 * k ≤ length old → m ≡ stored (answers k) old → length m ≡ length old
  unfolding stored
  plan_keeps k old m l e = ap length e ∙ put_length old (records_of (answers k)) 0 (omega (arith, answers_length k))

  -- After the last carrier.
  pub plan_end : (i n : ℕ) (old m : List ℕ) → i ≤ n → n ≤ i → m ≡ stored (answers i) old → m ≡ stored (answers n) old
  plan_end i n old m a b h =
      let e : i ≡ n = omega arith in
      rw e at h

-- One more carrier: the record that is stored is that of its response to the answers above it, and these stay as they are.
module _ (f : Floor) (rows : List ℕ) (i : ℕ) (m q m' : List ℕ) (short : f.horizon ≤ 63) (l : 65 * i + 65 ≤ length m)
    (shows : records q i ≡ seen f (records m i)) where
  -- The answer to what is shown is the response to the answers.
  shown_response : best (task_of_rows f rows (i + 1)) (views_of q (i + 1)) ≡ respond_with f rows i (records m i)
  unfolding respond_with
  shown_response = ap (best (task_of_rows f rows (i + 1))) (views_above q i ∙ shows)

  pub shown_stored : (r : List ℕ) → r ≡ record_of (best (task_of_rows f rows (i + 1)) (views_of q (i + 1))) → m' ≡ put m (65 * i) r →
      m' ≡ with_answer f rows i m
  unfolding with_answer
  shown_stored r e g = g ∙ ap (put m (65 * i)) (e ∙ ap record_of shown_response)

  module _ (e : m' ≡ with_answer f rows i m) where
    pub still_long : length m' ≡ length m
    unfolding with_answer
    still_long = ap length e ∙ put_length m _ (65 * i) (omega (arith, whole f rows short i (records m i)))

    pub still_shows : records q i ≡ seen f (records m' i)
    unfolding with_answer
    still_shows =
        shows
        ∙ ap (seen f) (sym (ap (λ (xs : List ℕ). records xs i) e ∙ put_records m _ i (omega (arith, whole f rows short i (records m i)))))
