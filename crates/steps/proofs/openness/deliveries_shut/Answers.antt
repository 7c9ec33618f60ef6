-- `steps::openness::deliveries_shut` meets its contract: it tests sender after sender.
use Rattle.state.proofs.EachLaws.{all_each}
use borrow.Author.Rules.{rules}
use mathlib.Core.Path.{refl}
use Rattle.steps.specs.Inner.{sender_shut}
use Rattle.steps.proofs.openness.deliveries_shut.Goals as goal

pub returns : goal.returns
returns c = all_each _ (sender_shut c.args.s.now.floor c.args.s.now.memory.now) refl c.all.ensures.ran (λ x b q k. search rules)
