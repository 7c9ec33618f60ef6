-- `lister::lines::write_run` meets its contract: a run without a line is left out; otherwise its line is within the lines.
use native.Mathlib.Omega.{arith}
use mathlib.Core.Path.{◌∙◌}
use lib.ListN.{length-set}
use Rattle.lister.specs.Inner.{trail_of}
use Rattle.lister.proofs.LineLaws.{line_fits, written_before, written_behind, written_line}
use borrow.Author.Rules.{rules}
use Rattle.lister.proofs.lines.write_run.Goals as goal

pub returns-then-rank-first : goal.returns-then-rank-first
returns-then-rank-first c =
    written_before _ _ _ _ _ c.if-rank-first.true

pub returns-then-line-all : goal.returns-then-line-all
returns-then-line-all c =
    written_behind _ _ _ _ _ c.if-rank-first.false c.if-line-all.true

pub overflow_mul-at : goal.overflow_mul-at
overflow_mul-at c =
    search (rules, line_fits _ _ c.if-line-all.false)

pub bounds-lines-at : goal.bounds-lines-at
bounds-lines-at c =
    omega (arith, line_fits _ _ c.if-line-all.false)

pub overflow_add-at : goal.overflow_add-at
overflow_add-at c =
    search (rules, line_fits _ _ c.if-line-all.false)

pub write_trail-requires : goal.write_trail-requires
write_trail-requires c =
    (omega (arith, c.requires), simp length-set (omega (arith, c.requires, line_fits _ _ c.if-line-all.false)))

pub shape_of-lines : goal.shape_of-lines
shape_of-lines c =
    c.write_trail.auto.lines ∙ simp length-set

pub returns : goal.returns
unfolding trail_of
returns c =
    written_line _ _ _ _ _ _ c.if-rank-first.false c.if-line-all.false c.requires c.write_trail.ensures
