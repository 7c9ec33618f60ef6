-- The step ceiling as an entry: the most steps for n carriers, or refusal 2, field 5.
use Rattle.std.specs.Prelude.{ℕ, Result}
use Rattle.laws.specs.Verdict.{Outcome, demand, ◌gives◌}
use Rattle.floor.specs.declared.Refusal.{Refusal}
use Rattle.floor.specs.Answers.{outcome_by}
use Rattle.floor.specs.Checks.{within}
use Rattle.reference.specs.Quiescent.{ceiling}

-- What each case of the code's answer says.
abbrev pub figure_of : Result ℕ Refusal → Outcome ℕ
figure_of x = outcome_by (λ t. t) x

-- The most steps for n carriers; n outside 1 to 8 gets refusal 2, field 5.
unfoldable pub most_steps : ℕ → Outcome ℕ
most_steps n = demand (within 1 8 n) 2 5 gives ceiling n
