-- `steps::openness::plans_shut` meets its contract: it tests plan after plan.
use Rattle.state.proofs.EachLaws.{all_each}
use borrow.Author.Rules.{rules}
use mathlib.Core.Path.{refl}
use Rattle.encoding.specs.InnerSteps.{shut_in}
use Rattle.steps.specs.Answers.{step_meant}
use Rattle.steps.specs.Inner.{plan_shut}
use Rattle.steps.proofs.openness.plans_shut.Goals as goal

pub returns : goal.returns
unfolding plan_shut shut_in step_meant
returns c = all_each _ (plan_shut c.args.s.now.floor c.args.s.now.memory.now) refl c.all.ensures.ran (λ x b q k. search rules)
