use lib.ListN.{length}
use Rattle.fields.proofs.field.+is_written.Given as goal

abbrev pub decreases-is_written : goal.decreases-is_written
decreases-is_written l = length l.bytes.now
