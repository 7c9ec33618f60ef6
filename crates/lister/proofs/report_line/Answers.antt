-- `lister::report_line` meets its contract: the numbers behind the first are copied.
use mathlib.Core.Path.{refl}
use lib.ListN.{get_or}
use Rattle.lister.proofs.EntryLaws.{part_is}
use Rattle.lister.proofs.report_line.Goals as goal

pub returns : goal.returns
returns c =
    let line = c.args.line.now in record {
      answers = refl;
      reports = part_is _ _ line (get_or line 0 0) c.write_front.ensures;
    }
