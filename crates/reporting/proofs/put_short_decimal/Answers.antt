-- `reporting::put_short_decimal` meets its contract: one digit or two.
use Rattle.reporting.proofs.WordsLaws.{short_one, short_two}
use Rattle.reporting.proofs.put_short_decimal.Goals as goal

pub returns-then-n-lt10 : goal.returns-then-n-lt10
returns-then-n-lt10 c =
    rw (short_one _ c.if-n-lt10.true) c.put_bytes.ensures

pub returns : goal.returns
returns c =
    rw (short_two _ c.if-n-lt10.false) c.put_bytes-2.ensures
