-- `state::checks::carriers_valid` meets its contract: it tests carrier after carrier.
use Rattle.state.proofs.EachLaws.{all_each}
use borrow.Author.Rules.{rules}
use mathlib.Core.Path.{refl}
use Rattle.encoding.specs.Valid.{carrier_valid}
use Rattle.state.proofs.checks.carriers_valid.Goals as goal

pub returns : goal.returns
returns c = all_each _ (carrier_valid c.args.s.now.floor c.args.s.now.memory.now) refl c.all.ensures.ran (λ x b q k. search rules)
