-- `desk::arguments::value` meets its contract: the loop holds the number of the digits passed.
use Rattle.desk.proofs.ArgumentLaws.{digit_at, value_start, value_more}
use native.Mathlib.Omega.{arith}
use Rattle.desk.proofs.arguments.value.Goals as goal

pub loop-byte-init : goal.loop-byte-init
loop-byte-init c = value_start _

pub with_digit-x-requires : goal.with_digit-x-requires
with_digit-x-requires c =
    (omega (arith, c.loop-byte.invariant), digit_at _ _ c.requires (omega arith))

pub loop-byte-preserved : goal.loop-byte-preserved
loop-byte-preserved c = value_more _ _ _ _ c.loop-byte.invariant c.with_digit-x.ensures
