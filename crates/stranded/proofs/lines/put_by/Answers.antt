-- `stranded::lines::put_by` meets its contract: the cause, or the carriers and a newline.
use native.Mathlib.Omega.{arith}
use Rattle.stranded.specs.Text.{cause_words}
use Rattle.stranded.proofs.LineLaws.{by_cause, by_carriers, names_short}
use Rattle.stranded.proofs.lines.put_by.Goals as goal

pub returns-then-set-eq0 : goal.returns-then-set-eq0
unfolding cause_words
returns-then-set-eq0 c = by_cause _ _ _ _ _ c.if-set-eq0.true c.put_bytes.ensures

pub put_bytes-requires-2 : goal.put_bytes-requires-2
put_bytes-requires-2 c =
    omega (arith, c.requires, c.put_names-end.ensures.behind, c.put_names-end.auto, names_short c.args.set)

pub returns : goal.returns
returns c =
    by_carriers _ _ _ _ _ _ _ c.if-set-eq0.false c.put_names-end.ensures c.put_bytes-2.ensures (omega (arith, c.requires))
