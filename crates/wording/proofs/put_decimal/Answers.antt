-- `wording::put_decimal` meets its contract.
use Rattle.wording.proofs.DecimalLaws.{decimal_put}
use Rattle.wording.proofs.put_decimal.Goals as goal

pub returns : goal.returns
returns c =
    decimal_put _ _ _ _ _ _ _ c.five_digits-digits.ensures.0 c.first_digit-k.ensures.0
    c.put_bytes.ensures
