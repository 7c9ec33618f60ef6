-- `positions::position::put_position` meets its contract.
use Rattle.positions.specs.Position.{line_word, column_word, colon}
use Rattle.positions.proofs.PositionLaws.{position_put}
use Rattle.wording.proofs.DecimalLaws.{decimal_low}
use native.Mathlib.Omega.{arith}
use Rattle.positions.proofs.position.put_position.Goals as goal

pub put_bytes-n3-requires : goal.put_bytes-n3-requires
put_bytes-n3-requires c = omega (arith, decimal_low _ _ _ _ _ c.put_decimal-n2.ensures)

pub put_decimal-n4-requires : goal.put_decimal-n4-requires
put_decimal-n4-requires c = omega (arith, decimal_low _ _ _ _ _ c.put_decimal-n2.ensures)

pub put_bytes-requires : goal.put_bytes-requires
put_bytes-requires c =
    omega (arith, decimal_low _ _ _ _ _ c.put_decimal-n2.ensures, decimal_low _ _ _ _ _ c.put_decimal-n4.ensures)

pub returns : goal.returns
unfolding line_word column_word colon
returns c =
    position_put _ _ _ _ _ _ _ _ _ _ _ _ _ c.put_bytes-n1.ensures c.put_decimal-n2.ensures c.put_bytes-n3.ensures c.put_decimal-n4.ensures
    c.put_bytes.ensures c.requires.2
