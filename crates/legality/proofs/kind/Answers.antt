-- `legality::kind` meets its contract: a return a tag.
use native.Mathlib.Omega.{arith}
use Rattle.legality.specs.Answers.{record_meant}
use Rattle.legality.proofs.EntryLaws.{kind_arrived, kind_none, kind_unheard}
use Rattle.legality.proofs.kind.Goals as goal

pub returns-in-2 : goal.returns-in-2
unfolding record_meant
returns-in-2 c = kind_arrived _ _ _ _ c.in-2.is c.arrival.ensures c.requires

pub returns-in-1 : goal.returns-in-1
unfolding record_meant
returns-in-1 c = kind_none _ _ c.in-1.is

pub returns-in_default : goal.returns-in_default
unfolding record_meant
returns-in_default c = kind_unheard _ _ (λ e. omega arith) (λ e. omega arith)
