-- The walk over the tree of runs: what following a step and trying the next one come to, and that ranks stay within 64 bits.
use Prim.Native.Nat.{ℕ, zero, suc, ◌+◌, ◌*◌, ◌-◌, ◌≤◌, ◌<◌}
use native.Mathlib.Omega.{arith}
use native.Mathlib.Nat.{mul-le-mul, div-le_of_le-mul}
use native.Mathlib.Numerals.{add-one}
use mathlib.Core.Bool.{true, false}
use mathlib.Core.List.{List, [], ◌∷◌, ◌++◌, append_assoc, append-nil}
use mathlib.Core.Path.{◌≡◌, refl, sym, ◌∙◌, ap}
use lib.ListN.{length, drop, length-append, length-map, drop_of_length-le}
use lib.Seq.{drop-cons}
use Rattle.floor.specs.declared.Floor.{Floor}
use Rattle.reference.specs.State.{Machine}
use Rattle.reference.specs.Step.{Step, plan}
use Rattle.reference.specs.Ranking.{ranking}
use Rattle.encoding.specs.Calls.{machine_of}
use Rattle.encoding.specs.InnerSteps.{open_in, silent_in, after_in, step_answer_in}
use Rattle.steps.specs.Inner.{bare}
use Rattle.steps.proofs.OpenLaws.{open_of, silent_of}
use Rattle.steps.proofs.PlacedLaws.{workable_same}
use Rattle.orders.specs.Orders.{places, step_at}
use Rattle.orders.proofs.PlaceLaws.{places_half}
use Rattle.trial.specs.Report.{number_of, answer_number}
use Rattle.listing.specs.Runs.{Run, each_behind, beginning}
use Rattle.listing.proofs.RunLaws.{begin_open, begin_shut}
use Rattle.lister.specs.declared.node.Node.{Node}
use Rattle.lister.specs.Lines.{line_written}
use Rattle.lister.specs.Inner.{trail_of, NodeAfter, runs_in, followed_in, beside_in, numbers_in, listed_in, Branch, BranchListed}

-- The lines of runs one behind the other, and of runs with a step in front.
module _ (M : Machine) (m : List ℕ) (first : ℕ) where
  listed_append : (k : ℕ) (before : List ℕ) (rank : ℕ) (ys zs : List Run) (lines : List ℕ) →
      listed_in M m k before first rank (ys ++ zs) lines ≡
      listed_in M m k before first (rank + length ys) zs (listed_in M m k before first rank ys lines)
  unfolding listed_in
  listed_append k before rank [] zs lines =
      let same : rank + 0 ≡ rank = omega arith in rw same refl
  listed_append k before rank (xs ∷ ys) zs lines =
      let same : rank + suc (length ys) ≡ suc rank + length ys = omega arith in
      rw same (listed_append k before (suc rank) ys zs (line_written first rank (k + length xs) (before ++ numbers_in M m xs) lines))

  listed_behind : (x : Step) (k : ℕ) (before : List ℕ) (rank : ℕ) (ys : List Run) (lines : List ℕ) →
      listed_in M m k before first rank (each_behind x ys) lines ≡
      listed_in M (after_in M m x) (k + 1) (before ++ (number_of x ∷ (answer_number (step_answer_in M m x) ∷ []))) first rank ys lines
  unfolding listed_in each_behind numbers_in
  listed_behind x k before rank [] lines = refl
  listed_behind x k before rank (xs ∷ ys) lines =
      let longer : k + suc (length xs) ≡ k + 1 + length xs = omega arith in
      let here = number_of x ∷ (answer_number (step_answer_in M m x) ∷ numbers_in M (after_in M m x) xs) in
      ap (λ (j : ℕ). listed_in M m k before first (suc rank) (each_behind x ys) (line_written first rank j (before ++ here) lines)) longer
      ∙ listed_behind x k before (suc rank) ys (line_written first rank (k + 1 + length xs) (before ++ here) lines)
      ∙ ap (λ (zs : List ℕ).
      listed_in M (after_in M m x) (k + 1) (before ++ (number_of x ∷ (answer_number (step_answer_in M m x) ∷ []))) first (suc rank) ys
      (line_written first rank (k + 1 + length xs) zs lines))
      (sym (append_assoc before (number_of x ∷ (answer_number (step_answer_in M m x) ∷ [])) (numbers_in M (after_in M m x) xs)))

-- Every run of a list gets one step in front.
pub front_length : (x : Step) (ys : List Run) → length (each_behind x ys) ≡ length ys
unfolding each_behind
front_length x ys = length-map ys (λ (xs : Run). x ∷ xs)

-- The runs from a node, one step at a time.
module _ (f : Floor) (ws m : List ℕ) where
  abbrev M : Machine
  M = machine_of f ws

  abbrev n : ℕ
  n = f.carriers

  pub beside_spent : (left p : ℕ) → left ≡ 0 → beside_in f ws left m p ≡ []
  unfolding beside_in
  beside_spent left p e = rw e refl

  pub beside_end : (left p : ℕ) → places n ≤ p → beside_in f ws left m p ≡ []
  unfolding beside_in places beginning
  beside_end zero p l = refl
  beside_end (suc left) p l = rw (drop_of_length-le (ranking n) {i = p} l) refl

  pub beside_shut : (left p : ℕ) → p < places n → open_in (bare f) m (step_at n p) ≡ false →
      beside_in f ws left m p ≡ beside_in f ws left m (p + 1)
  unfolding beside_in places step_at
  beside_shut zero p l e = refl
  beside_shut (suc left) p l e =
      rw (drop-cons (ranking n) p (plan 0) l, add-one)
      (begin_shut (open_in M m) (λ y. runs_in M left (after_in M m y)) (step_at n p) (drop (suc p) (ranking n))
      (sym (open_of f ws m (step_at n p)) ∙ e))

  pub beside_open : (left p : ℕ) → 1 ≤ left → p < places n → open_in (bare f) m (step_at n p) ≡ true →
      beside_in f ws left m p ≡ followed_in f ws left m p ++ beside_in f ws left m (p + 1)
  unfolding beside_in followed_in places step_at
  beside_open zero p k l e = absurd (omega arith)
  beside_open (suc left) p k l e =
      let less : suc left - 1 ≡ left = omega arith in
      rw (drop-cons (ranking n) p (plan 0) l, add-one, less)
      (begin_open (open_in M m) (λ y. runs_in M left (after_in M m y)) (step_at n p) (drop (suc p) (ranking n))
      (sym (open_of f ws m (step_at n p)) ∙ e))

  pub runs_end : (left : ℕ) → silent_in (bare f) m ≡ true → runs_in M left m ≡ [] ∷ []
  unfolding runs_in
  runs_end zero e = rw (sym (silent_of f ws m) ∙ e, runs_in)
  runs_end (suc left) e = rw (sym (silent_of f ws m) ∙ e, runs_in)

  pub runs_onward : (left : ℕ) → silent_in (bare f) m ≡ false → runs_in M left m ≡ beside_in f ws left m 0
  unfolding runs_in beside_in machine_of
  runs_onward zero e = rw (sym (silent_of f ws m) ∙ e, runs_in)
  runs_onward (suc left) e = rw (sym (silent_of f ws m) ∙ e, runs_in)

-- What a branch comes to, from what its parts come to.
module _ (f : Floor) (ws : List ℕ) (node : Node) (first : ℕ) where
  pub tallied_none : {xs : List Run} {rank : ℕ} {lines : List ℕ} → xs ≡ [] → BranchListed f ws node first xs rank lines rank lines
  unfolding listed_in
  tallied_none e = rw e (record { counts = omega arith; lists = refl })

  pub tallied_same : {xs ys : List Run} {rank : ℕ} {lines : List ℕ} {next : ℕ} {lines' : List ℕ} → xs ≡ ys →
      BranchListed f ws node first ys rank lines next lines' → BranchListed f ws node first xs rank lines next lines'
  tallied_same e t = rw e t

  pub tallied_join : {xs front back : List Run} {rank : ℕ} {lines : List ℕ} {mid : ℕ} {lines₁ : List ℕ} {next : ℕ} {lines₂ : List ℕ} →
      xs ≡ front ++ back → BranchListed f ws node first front rank lines mid lines₁ →
      BranchListed f ws node first back mid lines₁ next lines₂ →
      BranchListed f ws node first xs rank lines next lines₂
  tallied_join {xs} {front} {back} {rank} {lines} {mid} {lines₁} {next} {lines₂} e a b =
      rw e
      (record {
        counts = omega (arith, a.counts, b.counts, length-append front back);
        lists = b.lists
            ∙ ap (λ (k : ℕ). listed_in (machine_of f ws) node.memory node.steps (trail_of node) first k back lines₁) a.counts
            ∙ ap (listed_in (machine_of f ws) node.memory node.steps (trail_of node) first (rank + length front) back) a.lists
            ∙ sym (listed_append (machine_of f ws) node.memory first node.steps (trail_of node) rank front back lines);
      })

  module _ (p : ℕ) (below : Node) (moved : NodeAfter f ws node p below) where
    abbrev N : Machine
    N = machine_of f ws

    abbrev x : Step
    x = step_at f.carriers p

    -- The runs below a node, as lines: those of the node above with the step in front.
    lines_below : (rank : ℕ) (xs : List Run) (lines : List ℕ) →
        listed_in N below.memory below.steps (trail_of below) first rank xs lines ≡
        listed_in N node.memory node.steps (trail_of node) first rank (each_behind x xs) lines
    lines_below rank xs lines =
        ap (λ (m : List ℕ). listed_in N m below.steps (trail_of below) first rank xs lines) moved.stores
        ∙ ap (λ (k : ℕ). listed_in N (after_in N node.memory x) k (trail_of below) first rank xs lines) moved.counts
        ∙ ap (λ (ys : List ℕ). listed_in N (after_in N node.memory x) (node.steps + 1) ys first rank xs lines) moved.trails
        ∙ sym (listed_behind N node.memory first x node.steps (trail_of node) rank xs lines)

    pub tallied_below : (xs ys : List Run) {rank : ℕ} {lines : List ℕ} {next : ℕ} {lines' : List ℕ} → ys ≡ each_behind x xs →
        BranchListed f ws below first xs rank lines next lines' → BranchListed f ws node first ys rank lines next lines'
    tallied_below xs ys {rank} {lines} e t =
        rw e (record { counts = omega (arith, t.counts, front_length x xs); lists = t.lists ∙ lines_below rank xs lines })

    -- The node below is silent: one run ends there.
    pub tallied_end : {rank : ℕ} {lines lines' : List ℕ} → lines' ≡ line_written first rank below.steps (trail_of below) lines →
        BranchListed f ws below first ([] ∷ []) rank lines (rank + 1) lines'
    unfolding listed_in numbers_in
    tallied_end {rank} {lines} e =
        let all : below.steps + 0 ≡ below.steps = omega arith in
        record { counts = refl; lists = e ∙ rw (all, append-nil) refl }

    followed_is : (left : ℕ) → followed_in f ws left node.memory p ≡ each_behind x (runs_in N (left - 1) below.memory)
    unfolding followed_in
    followed_is left = ap (λ (m : List ℕ). each_behind x (runs_in N (left - 1) m)) (sym moved.stores)

    pub followed_end : (left : ℕ) → silent_in (bare f) below.memory ≡ true
        → followed_in f ws left node.memory p ≡ each_behind x ([] ∷ [])
    followed_end left e = followed_is left ∙ ap (each_behind x) (runs_end f ws below.memory (left - 1) e)

    pub followed_onward : (left : ℕ) → silent_in (bare f) below.memory ≡ false →
        followed_in f ws left node.memory p ≡ each_behind x (beside_in f ws (left - 1) below.memory 0)
    followed_onward left e = followed_is left ∙ ap (each_behind x) (runs_onward f ws below.memory (left - 1) e)

    pub branch_below : (rows : List ℕ) (left : ℕ) → Branch f ws rows node left → 1 ≤ left → Branch f ws rows below (left - 1)
    branch_below rows left b l =
        record {
          works = workable_same moved.long b.works;
          few = b.few;
          short = omega (arith, b.short, moved.counts);
        }

-- The ranks of a branch's runs are within 64 bits where those of the whole are.
module _ (f : Floor) (ws m : List ℕ) (left p rank bound : ℕ) (some : 1 ≤ left) (listed : p < places f.carriers)
    (opened : open_in (bare f) m (step_at f.carriers p) ≡ true) (whole : rank + length (beside_in f ws left m p) < bound) where
  split : length (beside_in f ws left m p) ≡ length (followed_in f ws left m p) + length (beside_in f ws left m (p + 1))
  split = ap length (beside_open f ws m left p some listed opened) ∙ length-append (followed_in f ws left m p) (beside_in f ws left m (p + 1))

  pub fits_part : rank + length (followed_in f ws left m p) < bound
  fits_part = omega (arith, split)

  pub fits_rest : (mid : ℕ) → mid ≡ rank + length (followed_in f ws left m p) → mid + length (beside_in f ws left m (p + 1)) < bound
  fits_rest mid c = omega (arith, split)

pub fits_same : (xs ys : List Run) (rank bound : ℕ) → xs ≡ ys → rank + length xs < bound → rank + length ys < bound
fits_same xs ys rank bound e l = omega (arith, ap length e)

pub fits_one : (x : Step) (xs : List Run) (rank bound : ℕ) → xs ≡ each_behind x ([] ∷ []) → rank + length xs < bound → rank + 1 < bound
fits_one x xs rank bound e l = omega (arith, ap length e, front_length x ([] ∷ []))

pub fits_below : (x : Step) (xs ys : List Run) (rank bound : ℕ) → ys ≡ each_behind x xs → rank + length ys < bound → rank + length xs < bound
fits_below x xs ys rank bound e l = omega (arith, ap length e, front_length x xs)

-- Three carriers have six steps at most.
pub places_six : (n : ℕ) → n ≤ 3 → places n ≤ 6
places_six n l =
    let product = mul-le-mul {n₁ = n} {m₁ = n + 1} {n₂ = 3} {m₂ = 4} l (omega arith) in
    omega (arith, places_half n, div-le_of_le-mul 2 {m = n * (n + 1)} {n = 6} (omega (arith, product)))

-- The measure of the walk falls: along the places, from a place to the step there, and from a step to the places below it.
module _ (left p places t : ℕ) where
  pub falls_along : 8 * left + (6 - p) ≡ t → p < places → places ≤ 6 → 8 * left + (6 - (p + 1)) < t
  falls_along e l h = omega arith

  pub falls_to : 8 * left + (6 - p) ≡ t → p < places → places ≤ 6 → 8 * left < t
  falls_to e l h = omega arith

pub falls_below : (left siblings t : ℕ) → siblings ≤ 6 → 8 * left ≡ t → 1 ≤ left → 8 * (left - 1) + siblings < t
falls_below left siblings t few e l = omega arith

-- A place that is not behind the last one is one of the ranking.
pub place_listed : (p places end : ℕ) → p ≤ places → end ≡ places → (p ≡ end → ⊥) → p < places
place_listed p places end l e h = omega arith
