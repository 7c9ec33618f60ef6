-- `fields::field::is_written` meets its contract: nothing, one byte, a space before others, or the first digit.
use Rattle.fields.proofs.WrittenLaws.{written}
use Rattle.fields.proofs.field.+is_written.Goals as goal

pub returns-in-empty : goal.returns-in-empty
returns-in-empty t c = search written

pub returns-in-len1 : goal.returns-in-len1
returns-in-len1 t c = search written

pub returns-in-32 : goal.returns-in-32
returns-in-32 t c = search written

pub returns-then-is_first : goal.returns-then-is_first
returns-then-is_first t c = search written

pub returns-else-is_first : goal.returns-else-is_first
returns-else-is_first t c = search written
