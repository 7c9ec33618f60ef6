-- Nodes of the tree of runs: the node after an open step.
use Prim.Native.Nat.{ℕ, ◌+◌, ◌*◌}
use mathlib.Core.List.{List, [], ◌∷◌, ◌++◌}
use mathlib.Core.Path.{◌≡◌, refl, ◌∙◌, ap}
use lib.ListN.{length, take}
use Rattle.floor.specs.declared.Floor.{Floor}
use Rattle.reference.specs.State.{Machine}
use Rattle.reference.specs.Step.{Step}
use Rattle.encoding.specs.Calls.{machine_of}
use Rattle.encoding.specs.InnerSteps.{after_in, step_answer_in}
use Rattle.orders.specs.Orders.{step_at}
use Rattle.trial.specs.Report.{number_of, answer_number}
use Rattle.lister.specs.declared.node.Node.{Node}
use Rattle.lister.specs.Inner.{trail_of, NodeAfter}

module _ (f : Floor) (ws : List ℕ) (node : Node) (p : ℕ) where
  abbrev M : Machine
  M = machine_of f ws

  abbrev x : Step
  x = step_at f.carriers p

  pub moved : (memory longer : List ℕ) (y : Step) (number answer : ℕ) → y ≡ x → memory ≡ after_in M node.memory y →
      length memory ≡ length node.memory → number ≡ number_of y → answer ≡ answer_number (step_answer_in M node.memory y) →
      take (2 * (node.steps + 1)) longer ≡ take (2 * node.steps) node.trail ++ (number ∷ (answer ∷ [])) →
      NodeAfter f ws node p (record { memory = memory; trail = longer; steps = node.steps + 1 })
  unfolding trail_of
  moved memory longer y number answer is stored long num ans trail =
      record {
        stores = stored ∙ ap (after_in M node.memory) is;
        long = long;
        counts = refl;
        trails = trail
            ∙ ap (λ (k : ℕ). take (2 * node.steps) node.trail ++ (k ∷ (answer ∷ []))) (num ∙ ap number_of is)
            ∙ ap (λ (k : ℕ). take (2 * node.steps) node.trail ++ (number_of x ∷ (k ∷ [])))
            (ans ∙ ap (λ (z : Step). answer_number (step_answer_in M node.memory z)) is);
      }
