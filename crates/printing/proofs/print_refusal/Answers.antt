-- `printing::print_refusal` meets its contract: memory too short is as it was; otherwise the line is put.
use Rattle.printing.specs.Put.{RefusalPut}
use Rattle.printing.proofs.PrintLaws.{text_short, text_fits}
use Rattle.printing.proofs.print_refusal.Goals as goal

pub returns-then-out-lt16 : goal.returns-then-out-lt16
unfolding RefusalPut
returns-then-out-lt16 c = text_short _ _ _ _ _ c.if-out-lt16.true

pub returns : goal.returns
unfolding RefusalPut
returns c =
    let same = c.min.ensures in
    text_fits _ _ _ _ _ _ _ c.if-out-lt16.false (rw same at c.put_refusal.ensures)
