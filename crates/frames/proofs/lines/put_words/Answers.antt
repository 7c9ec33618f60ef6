-- `frames::lines::put_words` meets its contract: by the tag of its answer.
use Rattle.frames.specs.Text.{arrives_words, stays_words}
use Rattle.reporting.proofs.WordsLaws.{short_within}
use Rattle.frames.proofs.FrameLaws.{stays_put, arrives_put, arrival_low}
use native.Mathlib.Omega.{arith}
use Rattle.frames.proofs.lines.put_words.Goals as goal

pub returns-then-own-tag-ne2 : goal.returns-then-own-tag-ne2
unfolding stays_words
returns-then-own-tag-ne2 c = stays_put _ _ _ _ _ _ _ c.if-own-tag-ne2.true c.put_bytes.ensures

pub put_short_decimal-n2-requires : goal.put_short_decimal-n2-requires
put_short_decimal-n2-requires c =
    let p = c.put_bytes-n1 in
    (arrival_low _ _ _ c.arrival.ensures, omega (arith, c.requires.3, p.ensures.behind, p.auto))

pub put_bytes-requires-2 : goal.put_bytes-requires-2
put_bytes-requires-2 c =
    let d = short_within c.arrival.result in
    let p = c.put_bytes-n1 in
    let q = c.put_short_decimal-n2 in
    omega (arith, d, c.requires.3, p.ensures.behind, p.auto, q.ensures.behind, q.auto)

pub returns : goal.returns
unfolding arrives_words
returns c =
    arrives_put _ _ _ _ _ _ _ _ _ _ _ _ _ c.if-own-tag-ne2.false c.requires.2 c.load-cells.ensures c.arrival.ensures
    c.put_bytes-n1.ensures c.put_short_decimal-n2.ensures c.put_bytes-2.ensures (omega (arith, c.requires.3))
