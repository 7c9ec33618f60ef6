-- `frames::print` meets its contract: the reader's answer decides between the floor's text and the refusal's line.
use mathlib.Core.Path.{sym}
use lib.Seq.{length-take-le}
use Rattle.printing.proofs.PrintLaws.{WasRead, was_read, was_refused, place_small}
use Rattle.reporting.proofs.PrintedLaws.{read_printed, refused_printed}
use Rattle.frames.specs.Text.{draw_text}
use Rattle.frames.proofs.FrameLaws.{whole_within}
use native.Mathlib.Omega.{arith}
use Rattle.frames.proofs.print.Goals as goal
use Rattle.frames.proofs.print.Goals.{In-Ok}

read : (c : In-Ok) → WasRead c.args.text.now c.in-Ok.f c.read.new.walls
read c = was_read _ _ _ _ c.no_walls-walls.ensures (c.read.ensures.answers, (c.read.ensures.returns, c.read.ensures.stores)) c.in-Ok.is

pub slice_bounds-walls-end : goal.slice_bounds-walls-end
slice_bounds-walls-end c = (read (goal.at.slice_bounds-walls-end c).In-Ok).lent

pub slice_bounds-put_whole-end : goal.slice_bounds-put_whole-end
slice_bounds-put_whole-end c = sym (length-take-le _ _ (read (goal.at.slice_bounds-put_whole-end c).In-Ok).lent)

pub put_whole-requires : goal.put_whole-requires
put_whole-requires c =
    let w = read (goal.at.put_whole-requires c).In-Ok in
    (w.checked, omega arith)

pub returns-in-Ok : goal.returns-in-Ok
unfolding draw_text
returns-in-Ok c =
    let both = read_printed _ _ _ _ whole_within c.put_whole.ensures (read (goal.at.returns-in-Ok c).In-Ok) (omega arith) in
    record { counts = both.0; prints = both.1 }

pub put_refusal-requires : goal.put_refusal-requires
put_refusal-requires c = (place_small _ _ c.no_walls-walls.ensures c.read.ensures.answers c.in-Err.is, omega arith)

pub returns-in-Err : goal.returns-in-Err
unfolding draw_text
returns-in-Err c =
    let both = refused_printed _ _ (rw c.number.ensures at c.put_refusal.ensures) (was_refused _ _ c.no_walls-walls.ensures c.read.ensures.answers c.in-Err.is) (omega arith) in
    record { counts = both.0; prints = both.1 }
