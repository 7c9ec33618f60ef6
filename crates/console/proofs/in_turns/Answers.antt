-- The calls so far and the last one are calls in a row.
use Rattle.std.proofs.Common.{rules, of_calls}
use Rattle.console.specs.Turned.Turned.{none, more}
use Rattle.console.proofs.TurnLaws.{turned_more}
use Rattle.console.proofs.in_turns.Goals as goal
use Rattle.console.proofs.in_turns.Goals.{in-Err-NotYet, in_default, in_default-2}

pub loop-init : goal.loop-init
loop-init g c = (c.requires, none)

pub returns-then-not-matches : goal.returns-then-not-matches
returns-then-not-matches g c = more c.loop.invariant.1 c.call-part.ensures

pub loop-preserved : goal.loop-preserved
loop-preserved g c = (
  search of_calls,
  elim c.match-matches.branch [
    | in-Err-NotYet w ↦ turned_more c.loop.invariant.1 c.call-part.ensures w.in-Err-NotYet.is (rw w.in-Err-NotYet.is at w.in-Err-NotYet.field-0-is)
    | in_default w ↦ search rules
    | in_default-2 w ↦ search rules
  ],
)
