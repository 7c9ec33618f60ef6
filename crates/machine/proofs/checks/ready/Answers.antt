-- `machine::checks::ready` meets its contract: 7 first, then what the step waits for.
use Rattle.machine.proofs.VerdictLaws.{then_yes, then_no}
use Rattle.encoding.specs.InnerCalls.{single_verdict_in}
use Rattle.floor.specs.Answers.{verdict_of}
use mathlib.Core.Path.{sym, ◌∙◌}
use Rattle.machine.proofs.checks.ready.Goals as goal

pub returns-then-not-is_there : goal.returns-then-not-is_there
unfolding single_verdict_in verdict_of
returns-then-not-is_there c = then_no _ _ _ c.is_there.ensures c.if-not-is_there.true

pub waits-requires-clause-x_value : goal.waits-requires-clause-x_value
waits-requires-clause-x_value c = sym c.is_there.ensures ∙ c.if-not-is_there.false

pub returns : goal.returns
unfolding single_verdict_in
returns c = then_yes _ _ c.is_there.ensures c.if-not-is_there.false c.waits.ensures
