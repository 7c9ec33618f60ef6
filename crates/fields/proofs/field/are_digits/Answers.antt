-- `fields::field::are_digits` meets its contract: `all` over the bytes tests each.
use Rattle.std.proofs.Common.{rules, tests}
use Rattle.std.proofs.lemmas.Iterator.{YieldsList-from_slice}
use Rattle.std.proofs.lemmas.Iterator.Search.{all_from_yields_List}
use Rattle.floor.specs.Checks.{within}
use Rattle.fields.proofs.WrittenLaws.{all_digits}
use mathlib.Core.Path.{◌∙◌}
use Rattle.fields.proofs.field.are_digits.Goals as goal

pub returns : goal.returns
unfolding within
returns c =
    all_from_yields_List (within 48 57) _ _ c.all.result c.all.ensures.ran (YieldsList-from_slice c.args.bytes.now cc) (λ x b q k. search (rules, tests))
    ∙ all_digits c.args.bytes.now
