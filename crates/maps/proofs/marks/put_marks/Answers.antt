-- `maps::marks::put_marks` meets its contract: the starts, and behind them the docks.
use Rattle.reporting.proofs.ReportLaws.{put_behind}
use Rattle.maps.specs.Map.{marks_of}
use Rattle.maps.proofs.MarkLaws.{starts_short, docks_short}
use native.Mathlib.Omega.{arith}
use Rattle.maps.proofs.marks.put_marks.Goals as goal

pub put_starts-end-requires : goal.put_starts-end-requires
put_starts-end-requires c =
    (c.requires.0.few, omega (arith, c.requires.1))

pub put_docks-requires : goal.put_docks-requires
put_docks-requires c =
    let s = starts_short c.args.f c.args.c c.requires.0.few in
    (c.requires.0, omega (arith, s, c.requires.1, c.put_starts-end.ensures.behind, c.put_starts-end.auto))

pub returns : goal.returns
unfolding marks_of
returns c =
    let s = starts_short c.args.f c.args.c c.requires.0.few in
    let d = docks_short c.args.f c.args.c c.requires.0.few in
    let p = c.put_starts-end.ensures in
    let q = c.put_docks.ensures in
    put_behind p q (omega (arith, s, d, c.requires.1, p.behind, q.behind))
