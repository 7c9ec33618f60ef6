-- `desk::arguments::read_decimal` meets its contract: a law a case.
use Rattle.std.proofs.Common.{rules}
use Rattle.desk.proofs.ArgumentLaws.{none_read, other_read, number_read}
use Rattle.desk.proofs.arguments.read_decimal.Goals as goal
use Rattle.desk.proofs.arguments.read_decimal.Goals.{then-is_empty-via-then-is_empty, then-is_empty-via-else-is_empty+then-not-all_digits}

pub returns-then-is_empty : goal.returns-then-is_empty
returns-then-is_empty c =
    elim c.then-is_empty.branch [
      | then-is_empty-via-then-is_empty w ↦ none_read _ (search rules)
      | then-is_empty-via-else-is_empty+then-not-all_digits w ↦ other_read _ (search rules)
    ]

pub returns : goal.returns
returns c = number_read _ _ (search rules) (search rules) c.value.ensures
