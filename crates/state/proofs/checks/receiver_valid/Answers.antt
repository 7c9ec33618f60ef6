-- `state::checks::receiver_valid` meets its contract: it tests sender after sender.
use Rattle.state.proofs.EachLaws.{all_each}
use borrow.Author.Rules.{rules}
use mathlib.Core.Path.{refl}
use Rattle.encoding.specs.Valid.{pair_valid}
use Rattle.state.proofs.checks.receiver_valid.Goals as goal

pub returns : goal.returns
returns c = all_each _ (pair_valid c.args.s.now.floor c.args.s.now.memory.now c.args.i) refl c.all.ensures.ran (λ x b q k. search rules)
