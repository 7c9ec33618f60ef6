-- `stranded::lines::put_name` meets its contract: by the digit of the carrier.
use mathlib.Core.Path.{sym, ◌∙◌}
use Rattle.bitrows.specs.Rows.{has}
use Rattle.stranded.proofs.LineLaws.{name_there, name_away}
use Rattle.stranded.proofs.lines.put_name.Goals as goal

pub returns-then-has : goal.returns-then-has
unfolding has
returns-then-has c =
    name_there _ _ _ _ _ _ (sym c.has.ensures ∙ c.if-has.true) c.put_bytes.ensures

pub returns : goal.returns
unfolding has
returns c =
    name_away _ _ _ _ (sym c.has.ensures ∙ c.if-has.false)
