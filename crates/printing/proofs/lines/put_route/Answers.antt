-- `printing::lines::put_route` meets its contract: two fields, the cells and a newline, one behind the other.
use mathlib.Core.Path.{◌≡◌}
use lib.ListN.{length, take}
use lib.Seq.{length-take-le}
use Rattle.printing.proofs.FieldsLaws.{route_line}
use native.Mathlib.Omega.{arith}
use borrow.Author.Rules.{rules}
use Rattle.printing.proofs.lines.put_route.Goals as goal

pub returns : goal.returns
returns c =
    let n = c.args.n in
    let cells = c.args.cells in
    let long : length cells ≡ 64 = search rules in
    route_line _ _ _ _ (take n cells) _ _ _ n c.put_field.ensures c.put_field-2.ensures
    c.put_cells.ensures
    (length-take-le n cells (omega (arith, c.requires))) (omega (arith, c.requires))
