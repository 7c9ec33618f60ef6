-- An order meets what is asked of its number, a law a case.
use Rattle.std.proofs.Common.{rules}
use Rattle.trial.proofs.OrderLaws.{asked_first, asked_round, asked_drawn, asked_none}
use Rattle.trial.proofs.choice.OrderTryFromU16.try_from.Goals as goal

pub returns-in-1 : goal.returns-in-1
returns-in-1 c = asked_first _ c.in-1.is

pub returns-in-2 : goal.returns-in-2
returns-in-2 c = asked_round _ c.in-2.is

pub returns-in-3 : goal.returns-in-3
returns-in-3 c = asked_drawn _ c.in-3.is

pub returns-in_default : goal.returns-in_default
returns-in_default c = search (rules, asked_none)
