-- `reporting::put_entries` meets its contract: the lines passed stand behind line 1, and the column is behind them.
use Rattle.reporting.specs.Text.{entry_count, report_length}
use Rattle.reporting.proofs.ReportLaws.{entries_start, entries_short, entries_more, entries_keep, entries_end}
use native.Mathlib.Omega.{arith}
use borrow.Author.Rules.{rules}
use Rattle.reporting.proofs.put_entries.Goals as goal

pub loop-k-init : goal.loop-k-init
unfolding entry_count
loop-k-init c = (search rules, entries_start _ _ _)

pub put_step-at-requires : goal.put_step-at-requires
unfolding report_length
put_step-at-requires c =
    let l = c.loop-k.invariant in
    let p = c.requires.1 in
    let k = c.loop-k.k in
    omega (arith, entries_short _ _ _ k _ _ l.1, entries_keep _ _ _ k _ _ l.1 (omega arith))

pub loop-k-preserved : goal.loop-k-preserved
unfolding report_length
loop-k-preserved c =
    let l = c.loop-k.invariant in
    let p = c.requires.1 in
    let e = c.put_step-at.ensures in
    (l.0, entries_more _ _ _ c.loop-k.k _ _ _ _ l.1 e.puts e.short (omega arith))

pub shape_of-out : goal.shape_of-out
unfolding report_length
shape_of-out c =
    let l = c.loop-k.invariant in
    let p = c.requires.1 in
    entries_keep _ _ _ c.loop-k.k _ _ l.1 (omega arith)

pub returns : goal.returns
returns c =
    let l = c.loop-k.invariant in
    entries_end _ _ _ c.loop-k.k _ _ _ l.1 (omega arith) (omega arith)
