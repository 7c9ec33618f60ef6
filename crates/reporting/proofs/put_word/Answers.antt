-- `reporting::put_word` meets its contract: the answer's number decides between the three words.
use Rattle.reporting.specs.Text.{answer_word, kept_word, sent_word, delivered_word}
use Rattle.reporting.proofs.ReportLaws.{word_delivered}
use native.Mathlib.Omega.{arith}
use Rattle.reporting.proofs.put_word.Goals as goal

pub returns-in-0-clause-puts : goal.returns-in-0-clause-puts
unfolding answer_word kept_word
returns-in-0-clause-puts c = rw c.in-0.is c.put_bytes.ensures

pub returns-in-1-clause-puts : goal.returns-in-1-clause-puts
unfolding answer_word sent_word
returns-in-1-clause-puts c = rw c.in-1.is c.put_bytes-in-1.ensures

pub returns-in_default-clause-puts : goal.returns-in_default-clause-puts
unfolding delivered_word
returns-in_default-clause-puts c =
    rw (word_delivered c.args.answer (omega arith)) c.put_bytes-in_default.ensures
