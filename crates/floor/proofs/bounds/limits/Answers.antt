-- `floor::bounds::limits` meets its contract: a chain of six checks, each handing on or ending it.
use Rattle.floor.proofs.AnswersLaws.{chain}
use Rattle.floor.specs.Checks.{limits_of}
use Rattle.floor.proofs.bounds.limits.Goals as goal

pub returns-in_err-limit : goal.returns-in_err-limit
unfolding limits_of
returns-in_err-limit c = search (chain, c.in_err-limit.ensures) depth 7

pub returns-in_err-limit-2 : goal.returns-in_err-limit-2
unfolding limits_of
returns-in_err-limit-2 c = search (chain, c.in_ok-limit.ensures, c.in_err-limit-2.ensures) depth 7

pub returns-in_err-limit-3 : goal.returns-in_err-limit-3
unfolding limits_of
returns-in_err-limit-3 c = search (chain, c.in_ok-limit.ensures, c.in_ok-limit-2.ensures, c.in_err-limit-3.ensures) depth 7

pub returns-in_err-limit-4 : goal.returns-in_err-limit-4
unfolding limits_of
returns-in_err-limit-4 c = search (chain, c.in_ok-limit.ensures, c.in_ok-limit-2.ensures, c.in_ok-limit-3.ensures, c.in_err-limit-4.ensures) depth 7

pub returns-in_err-limit-5 : goal.returns-in_err-limit-5
unfolding limits_of
returns-in_err-limit-5 c = search (chain, c.in_ok-limit.ensures, c.in_ok-limit-2.ensures, c.in_ok-limit-3.ensures, c.in_ok-limit-4.ensures, c.in_err-limit-5.ensures) depth 7

pub returns : goal.returns
unfolding limits_of
returns c = search (chain, c.in_ok-limit.ensures, c.in_ok-limit-2.ensures, c.in_ok-limit-3.ensures, c.in_ok-limit-4.ensures, c.in_ok-limit-5.ensures) depth 7
