-- `printing::lines::put_answers` meets its contract: invariant: the lines passed stand behind line 1, and the column is behind them.
use Rattle.printing.proofs.PutLaws.{lines, lines_more}
use native.Mathlib.Omega.{arith}
use Rattle.printing.proofs.lines.put_answers.Goals as goal

pub loop-i-init : goal.loop-i-init
loop-i-init c = search lines

pub loop-i-preserved : goal.loop-i-preserved
loop-i-preserved c =
    lines_more _ _ _ c.loop-i.i _ _ _ _ c.loop-i.invariant c.put_answer-at.ensures (omega (arith, c.requires.enough))
