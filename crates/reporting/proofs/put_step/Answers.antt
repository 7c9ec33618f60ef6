-- `reporting::put_step` meets its contract: two fields, a space, the word and a newline, one behind the other.
use lib.ListN.{length-set}
use Rattle.reporting.proofs.ReportLaws.{step_put}
use native.Mathlib.Omega.{arith}
use Rattle.reporting.proofs.put_step.Goals as goal

pub put_word-end-requires : goal.put_word-end-requires
put_word-end-requires c = simp length-set (omega arith)

pub returns : goal.returns
returns c =
    let w = c.put_word-end.ensures in record {
      puts = step_put _ _ _ _ _ _ _ _ _ c.put_field.ensures c.put_field-2.ensures w.puts
          (omega (arith, w.short)) c.requires;
      short = omega (arith, w.short);
    }
