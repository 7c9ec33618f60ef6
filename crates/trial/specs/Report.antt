-- The report of a trial as numbers: two for each step taken, the step's number and its answer.
use Rattle.std.specs.Prelude.{ℕ, ◌+◌, ◌*◌, List, [], ◌∷◌}
use Rattle.reference.specs.Step.{Step, plan, deliver}
use Rattle.reference.specs.Take.{StepAnswer, kept, sent, delivered}
use Rattle.reference.specs.Quiescent.{ceiling}
use Rattle.orders.specs.Trial.{Entry}

-- The number of a step, carriers counted from 1: plan i is 100 + i, deliver j to i is 200 + 10 j + i.
unfoldable pub number_of : Step → ℕ
number_of (plan i) = 101 + i
number_of (deliver j i) = 200 + 10 * (j + 1) + (i + 1)

-- The number of an answer: 0 kept, 1 sent, 2 delivered.
unfoldable pub answer_number : StepAnswer → ℕ
answer_number kept = 0
answer_number sent = 1
answer_number delivered = 2

-- The numbers of a report.
unfoldable pub report_numbers : List Entry → List ℕ
report_numbers [] = []
report_numbers (x ∷ xs) = number_of x.taken ∷ answer_number x.answer ∷ report_numbers xs

-- The needed length of a report: two numbers for each step of the ceiling.
unfoldable pub report_size : ℕ → ℕ
report_size n = 2 * ceiling n
