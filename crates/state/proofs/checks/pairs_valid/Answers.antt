-- `state::checks::pairs_valid` meets its contract: it tests receiver after receiver.
use Rattle.state.proofs.EachLaws.{all_each}
use Rattle.laws.specs.Verdict.{each}
use Prim.Native.Nat.{ℕ}
use borrow.Author.Rules.{rules}
use mathlib.Core.Path.{refl}
use Rattle.encoding.specs.Valid.{pair_valid}
use Rattle.state.proofs.checks.pairs_valid.Goals as goal

pub returns : goal.returns
returns c = all_each _ (λ (i : ℕ). each i (pair_valid c.args.s.now.floor c.args.s.now.memory.now i)) refl c.all.ensures.ran (λ x b q k. search rules)
