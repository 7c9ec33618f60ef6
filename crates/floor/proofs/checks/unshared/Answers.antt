-- `floor::checks::unshared` meets its contract: the start decides; an array of a record has eight places.
use Rattle.floor.specs.Checks.{unshared, start_of}
use lib.ListN.{length}
use mathlib.Core.Path.{◌≡◌}
use native.Mathlib.Omega.{arith}
use Rattle.laws.proofs.CodeTests.{decides}
use borrow.Author.Rules.{rules}
use Rattle.floor.proofs.checks.unshared.Goals as goal

pub among-requires : goal.among-requires
among-requires c = let e : length c.args.f.now.starts ≡ 8 = search rules in omega arith

pub returns : goal.returns
unfolding unshared start_of
returns c = search decides
