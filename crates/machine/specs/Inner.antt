-- Inner matter: nothing claimed rests on this. What the inner functions are proved against.
use Rattle.std.specs.Prelude.{ℕ, ◌+◌, ◌-◌, ◌≤◌, Bool, true, false, ◌&&◌, List, map, ◌≡◌, eqb, ltb, length, get_or, drop}
use Rattle.floor.specs.declared.Floor.{Floor}
use Rattle.reference.specs.State.{Machine}
use Rattle.reference.specs.Ending.{RunEnding, ends_as}
use Rattle.reference.specs.Table.{Asked, is_named}
use Rattle.encoding.specs.Numbers.{asked_by}
use Rattle.encoding.specs.InnerSteps.{asked_open_in}
use Rattle.steps.specs.Inner.{bare}
use Rattle.encoding.specs.InnerRuns.{RanIn, asked_after_in, run_in}

-- The number at a position of a list names a step that is there.
unfoldable pub named_at : Floor → List ℕ → ℕ → Bool
named_at f xs p = is_named (bare f) (asked_by (get_or xs p 0))

-- What is asked for, tried: taken if it is open, passed over otherwise; m' is the memory after it.
pub data Attempted (M : Machine) (m : List ℕ) (x : Asked) (taken : Bool) (m' : List ℕ) : Type 0 where
  took : asked_open_in M m x ≡ true → taken ≡ true → m' ≡ asked_after_in M m x → Attempted M m x taken m'
  skipped : asked_open_in M m x ≡ false → taken ≡ false → m' ≡ m → Attempted M m x taken m'

-- A run of the steps that xs names from memory m₀ with budget b, seen after p of them were read and t taken, with memory m: what is
-- left leads to the same memory, number taken and steps left.
pub record Running (M : Machine) (m₀ xs : List ℕ) (b : ℕ) (m : List ℕ) (p t : ℕ) : Type 0 where
  pub kept : length m ≡ length m₀
  pub memory : (run_in M m₀ (map asked_by xs) b).memory ≡ (run_in M m (map asked_by (drop p xs)) (b - t)).memory
  pub taken : (run_in M m₀ (map asked_by xs) b).taken ≡ t + (run_in M m (map asked_by (drop p xs)) (b - t)).taken
  pub left : (run_in M m₀ (map asked_by xs) b).left ≡ (run_in M m (map asked_by (drop p xs)) (b - t)).left

-- What a run has come to: its number taken, never above the budget, how many steps of the list it read, and the memory.
pub record Tallied (x : RanIn) (b listed taken read : ℕ) (m : List ℕ) : Type 0 where
  pub number : taken ≡ x.taken
  pub within : taken ≤ b
  pub left : ltb read listed ≡ x.left
  pub memory : m ≡ x.memory

-- The end of a run: whether it is silent, the number taken, the budget, the steps read and listed.
unfoldable pub ends_with : Bool → ℕ → ℕ → ℕ → ℕ → RunEnding
ends_with silent taken b read listed = ends_as silent (eqb taken b && ltb read listed)
