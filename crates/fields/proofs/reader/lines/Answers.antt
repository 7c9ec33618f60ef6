-- `fields::reader::lines` meets its contract: invariant: the column is past the lines that were read.
use native.Mathlib.Omega.{arith}
use Rattle.fields.proofs.ReaderLaws.{along_start, along_more, along_stop, along_end, low_next, low_yet}
use Rattle.fields.proofs.reader.lines.Goals as goal

pub loop-i-init : goal.loop-i-init
loop-i-init g c = record { low = λ w h. omega arith; along = λ form past r. along_start form past _ _ }

pub line-requires : goal.line-requires
line-requires g c = let h = c.requires in let low = low_yet _ _ _ _ _ c.loop-i-test.true (c.loop-i.invariant.low h.longest h.near) in h.free _ low

pub returns-in_err-column : goal.returns-in_err-column
returns-in_err-column g c = λ form past r.
    along_stop form past _ _ _ _ (c.loop-i.invariant.along form past r) _ _ c.loop-i-test.true (r _ _ c.in_err-column.ensures) c.from_residual.ensures.1

pub loop-i-preserved : goal.loop-i-preserved
loop-i-preserved g c = record {
  low = λ w h. low_next _ _ _ _ _ (c.loop-i.invariant.low w h) (h _ _ c.in_ok-column.ensures);
  along = λ form past r. along_more form past _ _ _ _ (c.loop-i.invariant.along form past r) _ c.loop-i-test.true (r _ _ c.in_ok-column.ensures);
}

pub returns : goal.returns
returns g c = λ form past r. along_end form past _ _ _ _ (c.loop-i.invariant.along form past r) c.loop-i-test.false
