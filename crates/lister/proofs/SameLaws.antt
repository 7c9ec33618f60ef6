-- The runs that the memory of a state shows are those of the state, with the same reports; so the lines are those of the reference machine.
use Prim.Native.Nat.{ℕ, zero, suc, ◌+◌, ◌*◌, ◌^◌, ◌≤◌, ◌<◌}
use native.Mathlib.Omega.{arith}
use native.Mathlib.Nat.{zero-add, pow-le-pow_left, pow-le-pow_right}
use mathlib.Core.Bool.{Bool, true, false}
use mathlib.Core.List.{List, [], ◌∷◌, ◌++◌}
use mathlib.Core.Path.{◌≡◌, refl, sym, ◌∙◌, ap}
use lib.ListN.{length, take, drop}
use Rattle.laws.specs.Verdict.{passed}
use Rattle.floor.specs.declared.Floor.{Floor}
use Rattle.floor.specs.Checks.{check_of}
use Rattle.reference.specs.State.{Machine, State, fresh}
use Rattle.reference.specs.Step.{Step, is_open}
use Rattle.reference.specs.Take.{after_step, StepAnswer}
use Rattle.reference.specs.Ranking.{ranking, is_silent}
use Rattle.reference.specs.Quiescent.{ceiling}
use Rattle.reference.proofs.Theorems.{theorems as reference-theorems}
use Rattle.encoding.specs.Places.{state_size}
use Rattle.encoding.specs.Encode.{encode}
use Rattle.encoding.specs.Ranges.{WithinRanges}
use Rattle.encoding.specs.Calls.{machine_of}
use Rattle.encoding.specs.InnerSteps.{open_in, silent_in, after_in}
use Rattle.encoding.proofs.OpenLaws.{open_same, silent_same}
use Rattle.encoding.proofs.ExactLaws.{fresh_fits}
use Rattle.encoding.proofs.FloorLaws.{depth_some}
use Rattle.steps.specs.Inner.{bare}
use Rattle.steps.proofs.OpenLaws.{silent_of}
use Rattle.orders.specs.Orders.{places}
use Rattle.orders.proofs.PlaceLaws.{places_split}
use Rattle.orders.specs.Trial.{entry_of}
use Rattle.trial.specs.Report.{number_of, answer_number, report_numbers}
use Rattle.trial.proofs.EntryLaws.{checked_carriers}
use Rattle.trial.proofs.PlayLaws.{step_fits, step_stores, step_says}
use Rattle.listing.specs.Runs.{Run, beginning, runs_from, runs_of, total, report_from}
use Rattle.listing.specs.Order.{Complete}
use Rattle.listing.proofs.ListLaws.{AllItems}
use Rattle.listing.proofs.RunLaws.{begin_same, runs_silent, runs_spent, runs_more, runs_complete, runs_few}
use Rattle.lister.specs.declared.node.Node.{Node}
use Rattle.lister.specs.Lines.{line_written, listed_from}
use Rattle.lister.specs.Entry.{total_of}
use Rattle.lister.specs.Inner.{trail_of, Rooted, runs_in, beside_in, numbers_in, listed_in, BranchListed}
use Rattle.lister.proofs.WalkLaws.{runs_end, runs_onward, places_six}

module _ (f : Floor) (ws : List ℕ) (ok : check_of f ws ≡ passed) (rest : List ℕ) where
  abbrev M : Machine
  M = machine_of f ws

  abbrev encoded_with : State → List ℕ
  encoded_with s = encode f.carriers s ++ rest

  -- The memory of a state is silent where the state is.
  silent_shown : (s : State) → silent_in (bare f) (encoded_with s) ≡ is_silent M s
  unfolding machine_of
  silent_shown s = silent_of f ws (encoded_with s) ∙ silent_same M s rest

  open_shown : (s : State) (x : Step) → open_in M (encoded_with s) x ≡ is_open M s x
  unfolding machine_of
  open_shown s x = open_same M s rest x

  more_of : (left : ℕ) (s : State) → is_silent M s ≡ false →
      runs_from M (suc left) s ≡ beginning (is_open M s) (λ x. runs_from M left (after_step M s x)) (ranking f.carriers)
  unfolding machine_of
  more_of left s e = runs_more M left s e

  pub runs_same : (left : ℕ) (s : State) → WithinRanges f s → runs_in M left (encoded_with s) ≡ runs_from M left s
  unfolding beside_in
  runs_same zero s fits = go (is_silent M s) refl
    where
      go : (x : Bool) → is_silent M s ≡ x → runs_in M 0 (encoded_with s) ≡ runs_from M 0 s
      go true e = runs_end f ws (encoded_with s) 0 (silent_shown s ∙ e) ∙ sym (runs_silent M 0 s e)
      go false e = runs_onward f ws (encoded_with s) 0 (silent_shown s ∙ e) ∙ sym (runs_spent M s e)
  runs_same (suc left) s fits = go (is_silent M s) refl (λ z h. runs_same left z h)
    where
      below : ((z : State) → WithinRanges f z → runs_in M left (encoded_with z) ≡ runs_from M left z) →
          beginning (open_in M (encoded_with s)) (λ x. runs_in M left (after_in M (encoded_with s) x)) (ranking f.carriers) ≡
          beginning (is_open M s) (λ x. runs_from M left (after_step M s x)) (ranking f.carriers)
      below h =
          begin_same (open_in M (encoded_with s)) (is_open M s) (λ x. runs_in M left (after_in M (encoded_with s) x))
          (λ x. runs_from M left (after_step M s x)) (open_shown s)
          (λ x e. ap (runs_in M left) (step_stores f ws ok s fits rest x e) ∙ h (after_step M s x) (step_fits f ws ok s fits x e))
          (ranking f.carriers)

      go : (x : Bool) → is_silent M s ≡ x → ((z : State) → WithinRanges f z → runs_in M left (encoded_with z) ≡ runs_from M left z) →
          runs_in M (suc left) (encoded_with s) ≡ runs_from M (suc left) s
      go true e h = runs_end f ws (encoded_with s) (suc left) (silent_shown s ∙ e) ∙ sym (runs_silent M (suc left) s e)
      go false e h = runs_onward f ws (encoded_with s) (suc left) (silent_shown s ∙ e) ∙ below h ∙ sym (more_of left s e)

  -- The numbers of a complete run are those of its report.
  numbers_same : (s : State) → WithinRanges f s → (xs : Run) → Complete M s xs
      → numbers_in M (encoded_with s) xs ≡ report_numbers (report_from M s xs)
  unfolding numbers_in report_numbers report_from entry_of Complete
  numbers_same s fits [] c = refl
  numbers_same s fits (x ∷ xs) c =
      ap (λ (y : StepAnswer). number_of x ∷ (answer_number y ∷ numbers_in M (after_in M (encoded_with s) x) xs))
      (step_says f ws ok s fits rest x c.0)
      ∙ ap (λ (xs : List ℕ). number_of x ∷ (answer_number (entry_of M s x).answer ∷ xs))
      (ap (λ (m : List ℕ). numbers_in M m xs) (step_stores f ws ok s fits rest x c.0)
      ∙ numbers_same (after_step M s x) (step_fits f ws ok s fits x c.0) xs c.1)

  -- The lines of complete runs from fresh.
  lines_same : (first rank : ℕ) (ys : List Run) (lines : List ℕ) → AllItems (Complete M fresh) ys →
      listed_in M (encoded_with fresh) 0 [] first rank ys lines ≡ listed_from M first rank ys lines
  unfolding listed_in listed_from AllItems
  lines_same first rank [] lines h = refl
  lines_same first rank (xs ∷ ys) lines h =
      ap (λ (k : ℕ).
      listed_in M (encoded_with fresh) 0 [] first (suc rank) ys (line_written first rank k (numbers_in M (encoded_with fresh) xs) lines))
      (zero-add (length xs))
      ∙ ap (λ (zs : List ℕ). listed_in M (encoded_with fresh) 0 [] first (suc rank) ys (line_written first rank (length xs) zs lines))
      (numbers_same fresh (fresh_fits f) xs h.0)
      ∙ lines_same first (suc rank) ys (line_written first rank (length xs) (report_numbers (report_from M fresh xs)) lines) h.1

-- At most 6^11 runs: 362,797,056.
pub ceiling_few : (n : ℕ) → n ≤ 3 → ceiling n ≤ 11
unfolding ceiling
ceiling_few zero l = omega arith
ceiling_few (suc zero) l = omega arith
ceiling_few (suc (suc zero)) l = omega arith
ceiling_few (suc (suc (suc zero))) l = omega arith
ceiling_few (suc (suc (suc (suc n)))) l = absurd (omega arith)

some_place : (M : Machine) → 1 ≤ M.carriers → 1 ≤ places M.carriers
some_place M l = omega (arith, places_split M.carriers)

pub total_fits : (M : Machine) → 1 ≤ M.carriers → M.carriers ≤ 3 → total M < 4294967296
unfolding total runs_of
total_fits M l h =
    let six = places_six M.carriers h in
    let most : 6 ^ 11 ≡ 362797056 = refl in
    omega (
      arith,
      runs_few M (some_place M l) (ceiling M.carriers) fresh,
      pow-le-pow_left six (ceiling M.carriers),
      pow-le-pow_right {n = 6} (omega arith) (ceiling_few M.carriers h),
      most,
    )

-- The walk from the root, with as many steps left as the ceiling has, lists all runs.
module _ (f : Floor) (ws : List ℕ) (ok : check_of f ws ≡ passed) (node : Node) (rooted : Rooted f.carriers node) where
  abbrev N : Machine
  N = machine_of f ws

  abbrev behind_state : List ℕ
  behind_state = drop (state_size f.carriers) node.memory

  not_silent : silent_in (bare f) node.memory ≡ false
  unfolding machine_of
  not_silent =
      ap (silent_in (bare f)) rooted.shows ∙ silent_shown f ws ok behind_state fresh
      ∙ reference-theorems.steps.fresh_not_silent N (checked_carriers f ws ok).0 (depth_some f ws ok)

  pub root_runs : (left : ℕ) → left ≡ ceiling f.carriers → beside_in f ws left node.memory 0 ≡ runs_of N
  unfolding runs_of machine_of
  root_runs left e =
      sym (runs_onward f ws node.memory left not_silent)
      ∙ ap (runs_in N left) rooted.shows
      ∙ runs_same f ws ok behind_state left fresh (fresh_fits f)
      ∙ ap (λ (k : ℕ). runs_from N k fresh) e

  no_trail : trail_of node ≡ []
  unfolding trail_of
  no_trail = ap (λ (k : ℕ). take (2 * k) node.trail) rooted.none

  root_lines : (first : ℕ) (lines : List ℕ) →
      listed_in N node.memory node.steps (trail_of node) first 0 (runs_of N) lines ≡ listed_from N first 0 (runs_of N) lines
  unfolding runs_of
  root_lines first lines =
      ap (λ (m : List ℕ). listed_in N m node.steps (trail_of node) first 0 (runs_of N) lines) rooted.shows
      ∙ ap (λ (k : ℕ). listed_in N (encoded_with f ws ok behind_state fresh) k (trail_of node) first 0 (runs_of N) lines) rooted.none
      ∙ ap (λ (xs : List ℕ). listed_in N (encoded_with f ws ok behind_state fresh) 0 xs first 0 (runs_of N) lines) no_trail
      ∙ lines_same f ws ok behind_state first 0 (runs_of N) lines (runs_complete N (ceiling N.carriers) fresh)

  pub root_tallied : {first left : ℕ} {lines : List ℕ} {next : ℕ} {lines' : List ℕ} → left ≡ ceiling f.carriers →
      BranchListed f ws node first (beside_in f ws left node.memory 0) 0 lines next lines' →
      (next ≡ total_of f ws) × (lines' ≡ listed_from N first 0 (runs_of N) lines)
  unfolding total_of total
  root_tallied {first} {left} {lines} e t = (
    t.counts ∙ zero-add (length (beside_in f ws left node.memory 0)) ∙ ap length (root_runs left e),
    t.lists
        ∙ ap (λ (xs : List Run). listed_in N node.memory node.steps (trail_of node) first 0 xs lines) (root_runs left e)
        ∙ root_lines first lines,
  )

  pub root_fits : (left : ℕ) → left ≡ ceiling f.carriers → f.carriers ≤ 3 →
      0 + length (beside_in f ws left node.memory 0) < 18446744073709551616
  unfolding machine_of total
  root_fits left e few =
      omega (arith, ap length (root_runs left e), total_fits N (checked_carriers f ws ok).0 few)
