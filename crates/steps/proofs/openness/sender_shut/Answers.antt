-- `steps::openness::sender_shut` meets its contract: it tests delivery after delivery.
use Rattle.state.proofs.EachLaws.{all_each}
use borrow.Author.Rules.{rules}
use mathlib.Core.Path.{refl}
use Rattle.encoding.specs.InnerSteps.{shut_in}
use Rattle.steps.specs.Answers.{step_meant}
use Rattle.steps.specs.Inner.{delivery_shut, sender_shut}
use Rattle.steps.proofs.openness.sender_shut.Goals as goal

pub returns : goal.returns
unfolding sender_shut delivery_shut shut_in step_meant
returns c = all_each _ (delivery_shut c.args.s.now.floor c.args.s.now.memory.now c.args.j) refl c.all.ensures.ran (λ x b q k. search rules)
