-- A step as a number: its decimal digits are kind, sender, receiver, with carriers counted from 1. Plan i is 100 + i, deliver j to i is
-- 200 + 10 j + i; every other number names no kind of step.
use Rattle.std.specs.Prelude.{ℕ, ◌-◌, ◌/◌, ◌%◌, cond, leb}
use Rattle.floor.specs.Checks.{within}
use Rattle.reference.specs.Step.{plan, deliver}
use Rattle.reference.specs.Table.{Asked, step, no_step}

-- A delivery from carrier j to carrier i, counted from 1; there is no carrier 0.
unfoldable pub delivery_of : ℕ → ℕ → Asked
delivery_of j i = cond (leb 1 i) (step (deliver (j - 1) (i - 1))) no_step

-- The step that a number names, or that it names none.
unfoldable pub asked_by : ℕ → Asked
asked_by x =
    cond (within 101 109 x) (step (plan (x - 101))) (cond (within 210 299 x) (delivery_of ((x - 200) / 10) (x % 10)) no_step)
