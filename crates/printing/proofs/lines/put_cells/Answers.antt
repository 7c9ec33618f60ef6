-- `printing::lines::put_cells` meets its contract: the fields passed stand one behind the other.
use Rattle.printing.proofs.FieldsLaws.{fields_start, fields_more}
use lib.ListN.{take}
use borrow.Author.Rules.{rules}
use native.Mathlib.Omega.{arith}
use Rattle.printing.proofs.lines.put_cells.Goals as goal

pub loop-t-init : goal.loop-t-init
loop-t-init c = (search rules, fields_start _ (take c.args.n c.args.cells) _)

pub loop-t-preserved : goal.loop-t-preserved
loop-t-preserved c =
    let l = c.loop-t in
    let enough = c.requires in
    let field = c.put_field.ensures in
    let more = fields_more _ c.args.cells _ _ c.args.n l.t l.invariant.1
    (omega (arith, l.invariant)) (omega arith) _ (omega arith) field in
    (l.invariant.0, more)
