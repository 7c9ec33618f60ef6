-- The answers in a memory with a plan are the plan's, for every number.
use Prim.Native.Nat.{ℕ, zero, suc, ◌+◌, ◌*◌, ◌-◌, ◌≤◌, ◌<◌}
use native.Mathlib.Omega.{arith}
use mathlib.Core.Logic.{⊎_elim}
use mathlib.Core.Path.{◌≡◌, refl, sym, ◌∙◌, ap, fun_ext}
use mathlib.Core.List.{List, [], ◌∷◌, ◌++◌}
use Rattle.laws.proofs.Tests.{lt_or_le}
use lib.ListN.{length, get_or, take, drop, replicate, take-append-drop}
use lib.Seq.{length-take-le, get_or-append-add, get_or-drop}
use Rattle.laws.specs.Memory.{put}
use Rattle.laws.specs.Verdict.{passed}
use Rattle.floor.specs.declared.Floor.{Floor}
use Rattle.floor.specs.Checks.{check_of}
use Rattle.floor.proofs.LimitsLaws.{Bounds, check_tells}
use Rattle.route.specs.Route.{Answer, none}
use Rattle.records.specs.Records.{view_at, shown, answer_in, record_of, records_of, stored}
use Rattle.records.proofs.RecordLaws.{Whole, record_view}
use Rattle.planner.specs.Plan.{plan_of}
use Rattle.planner.specs.Claims.{answer_at}
use Rattle.planner.proofs.FailingLaws.{AllWhole}
use Rattle.planner.proofs.ResultLaws.{plan_all_whole, plan_size}
use Rattle.planner.proofs.StoredLaws.{record_stored}
use Rattle.planner.proofs.Theorems.{theorems as planner-theorems}
use Rattle.blockers.specs.Inner.{PlanIn}
use Rattle.frames.specs.Text.{planned}
use Rattle.frames.proofs.CellLaws.{answer_none}

-- Record j of a memory with answers in front shows answer j.
whole_at : (xs : List Answer) (j : ℕ) → AllWhole xs → j < length xs → Whole (answer_at xs j)
unfolding answer_at
whole_at [] j a l = absurd (omega arith)
whole_at (x ∷ xs) zero a l = a.0
whole_at (x ∷ xs) (suc j) a l = whole_at xs j a.1 (omega arith)

answer_there : (xs : List Answer) (m old : List ℕ) (j : ℕ) → AllWhole xs → j < length xs → 65 * j ≤ length m → m ≡ stored xs old →
    answer_in m j ≡ answer_at xs j
unfolding answer_in shown
answer_there xs m old j a l h e =
    let at = 65 * j in
    let block : take 65 (drop at m) ≡ record_of (answer_at xs j) =
    ap (λ (xs : List ℕ). take 65 (drop at xs)) e ∙ record_stored xs old j a l in
    let apart : m ≡ take at m ++ (record_of (answer_at xs j) ++ drop 65 (drop at m)) =
    sym (take-append-drop at m)
    ∙ ap (λ (xs : List ℕ). take at m ++ xs) (sym (take-append-drop 65 (drop at m)))
    ∙ ap (λ (xs : List ℕ). take at m ++ (xs ++ drop 65 (drop at m))) block
    in
    ap (λ (xs : List ℕ). shown (view_at xs j)) apart
    ∙ ap shown (record_view (take at m) (drop 65 (drop at m)) (answer_at xs j) j (length-take-le at m h) (whole_at xs j a l))

-- Past the answers there is none, in the memory and in the plan.
zero_at_lem : (n i : ℕ) → ◌≡◌ {A = ℕ} (get_or (replicate n 0) i 0) 0
zero_at_lem zero i = refl
zero_at_lem (suc n) zero = refl
zero_at_lem (suc n) (suc i) = zero_at_lem n i

tag_past : (xs : List Answer) (m : List ℕ) (n k : ℕ) → m ≡ stored xs (replicate n 0) → length (records_of xs) ≤ k → get_or m k 0 ≡ 0
unfolding stored put
tag_past xs m n k e l =
    let ys = records_of xs in
    let d = k - length ys in
    let place : k ≡ length ys + d = omega arith in
    ap (λ (xs : List ℕ). get_or xs k 0) e
    ∙ ap (λ (j : ℕ). get_or (ys ++ drop (0 + length ys) (replicate n 0)) j 0) place
    ∙ get_or-append-add ys (drop (0 + length ys) (replicate n 0)) d 0
    ∙ get_or-drop (0 + length ys) (replicate n 0) d 0
    ∙ zero_at_lem n (0 + length ys + d)

answer_past : (xs : List Answer) (j : ℕ) → length xs ≤ j → answer_at xs j ≡ none
unfolding answer_at
answer_past [] j l = refl
answer_past (x ∷ xs) zero l = absurd (omega arith)
answer_past (x ∷ xs) (suc j) l = answer_past xs j (omega arith)

module _ (f : Floor) (ws m : List ℕ) (ok : check_of f ws ≡ passed) (own : PlanIn f ws m) where
  answer_same : (i : ℕ) → answer_in m i ≡ answer_at (plan_of f ws) i
  answer_same i = ⊎_elim (λ (l : i < f.carriers). here l) (λ (l : f.carriers ≤ i). past l) (lt_or_le i f.carriers)
    where
      b : Bounds f
      b = (check_tells f ws ok).bounds

      size : length (records_of (plan_of f ws)) ≡ 65 * f.carriers
      size = plan_size f ws b.horizon.1

      many : length (plan_of f ws) ≡ f.carriers
      many = planner-theorems.answers_all f ws

      here : i < f.carriers → answer_in m i ≡ answer_at (plan_of f ws) i
      here l =
          answer_there (plan_of f ws) m (replicate 520 0) i (plan_all_whole f ws b.horizon.1) (omega (arith, many))
          (omega (arith, b.carriers.1, own.long)) own.stores

      past : f.carriers ≤ i → answer_in m i ≡ answer_at (plan_of f ws) i
      past l =
          let zero-tag : get_or m (65 * i) 0 ≡ 0 = tag_past (plan_of f ws) m 520 (65 * i) own.stores (omega (arith, size)) in
          answer_none m i (λ e. absurd (omega arith)) ∙ sym (answer_past (plan_of f ws) i (omega (arith, many)))

  pub answers_same : answer_in m ≡ planned f ws
  unfolding planned
  answers_same = fun_ext answer_same
