-- Inner matter: nothing claimed rests on this. What the inner functions are proved against: the runs as the memory of a state shows them.
use Rattle.std.specs.Prelude.{ℕ, zero, suc, ◌+◌, ◌*◌, ◌-◌, ◌≤◌, true, false, List, [], ◌∷◌, ◌++◌, ◌≡◌, length, take, drop}
use Rattle.floor.specs.declared.Floor.{Floor}
use Rattle.reference.specs.State.{Machine, fresh}
use Rattle.reference.specs.Ranking.{ranking}
use Rattle.encoding.specs.Encode.{encode}
use Rattle.encoding.specs.Places.{state_size}
use Rattle.encoding.specs.Calls.{machine_of}
use Rattle.encoding.specs.InnerSteps.{open_in, silent_in, after_in, step_answer_in}
use Rattle.steps.specs.Inner.{Workable}
use Rattle.orders.specs.Orders.{step_at}
use Rattle.trial.specs.Report.{number_of, answer_number}
use Rattle.listing.specs.Runs.{Run, each_behind, beginning}
use Rattle.lister.specs.declared.node.Node.{Node}
use Rattle.lister.specs.Lines.{line_written}

-- The numbers of the steps taken to a node.
unfoldable pub trail_of : Node → List ℕ
trail_of node = take (2 * node.steps) node.trail

-- A node with the fresh state, no step being taken.
pub record Rooted (n : ℕ) (node : Node) : Type 0 where
  pub shows : node.memory ≡ encode n fresh ++ drop (state_size n) node.memory
  pub long : length node.memory ≡ 1181
  pub none : node.steps ≡ 0

-- A node after the step at a place of another one.
pub record NodeAfter (f : Floor) (ws : List ℕ) (node : Node) (p : ℕ) (next : Node) : Type 0 where
  pub stores : next.memory ≡ after_in (machine_of f ws) node.memory (step_at f.carriers p)
  pub long : length next.memory ≡ length node.memory
  pub counts : next.steps ≡ node.steps + 1
  pub trails : trail_of next ≡ trail_of node ++
      (number_of (step_at f.carriers p) ∷ (answer_number (step_answer_in (machine_of f ws) node.memory (step_at f.carriers p)) ∷ []))

-- The complete runs from the state that a memory shows.
unfoldable pub runs_in : Machine → ℕ → List ℕ → List Run
runs_in M zero m = elim (silent_in M m) [ true ↦ [] ∷ [] | false ↦ [] ]
runs_in M (suc left) m =
    elim
    (silent_in M m) [
      | true ↦ [] ∷ []
      | false ↦ beginning (open_in M m) (λ x. runs_in M left (after_in M m x)) (ranking M.carriers)
    ]

-- The runs that begin with the step at place p, and those that begin with a step from place p on, `left` steps being left.
unfoldable pub followed_in : Floor → List ℕ → ℕ → List ℕ → ℕ → List Run
followed_in f ws left m p =
    each_behind (step_at f.carriers p) (runs_in (machine_of f ws) (left - 1) (after_in (machine_of f ws) m (step_at f.carriers p)))

unfoldable pub beside_in : Floor → List ℕ → ℕ → List ℕ → ℕ → List Run
beside_in f ws zero m p = []
beside_in f ws (suc left) m p =
    beginning (open_in (machine_of f ws) m) (λ x. runs_in (machine_of f ws) left (after_in (machine_of f ws) m x))
    (drop p (ranking f.carriers))

-- The numbers of the report of a run.
unfoldable pub numbers_in : Machine → List ℕ → Run → List ℕ
numbers_in M m [] = []
numbers_in M m (x ∷ xs) = number_of x ∷ answer_number (step_answer_in M m x) ∷ numbers_in M (after_in M m x) xs

-- The lines with these runs written, their ranks counted from one on: each has k steps before it, with these numbers.
unfoldable pub listed_in : Machine → List ℕ → (k : ℕ) → List ℕ → (first rank : ℕ) → List Run → List ℕ → List ℕ
listed_in M m k before first rank [] lines = lines
listed_in M m k before first rank (xs ∷ ys) lines =
    listed_in M m k before first (suc rank) ys (line_written first rank (k + length xs) (before ++ numbers_in M m xs) lines)

-- What a branch of the walk has: a checked floor of three carriers at most, and a node that is not too deep.
pub record Branch (f : Floor) (ws rows : List ℕ) (node : Node) (left : ℕ) : Type 0 where
  pub works : Workable f ws rows node.memory
  pub few : f.carriers ≤ 3
  pub short : node.steps + left ≤ 11

-- What a branch comes to: the rank behind its runs, and the lines with these.
pub record BranchListed (f : Floor) (ws : List ℕ) (node : Node) (first : ℕ) (xs : List Run) (rank : ℕ) (lines : List ℕ) (next : ℕ)
    (lines' : List ℕ) : Type 0 where
  pub counts : next ≡ rank + length xs
  pub lists : lines' ≡ listed_in (machine_of f ws) node.memory node.steps (trail_of node) first rank xs lines
