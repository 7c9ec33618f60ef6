-- `meeting::print` meets its contract: the reader's answer decides between the meeting and the refusal's line.
use Rattle.printing.proofs.PrintLaws.{WasRead, was_read, was_refused, place_small}
use Rattle.reporting.proofs.PrintedLaws.{read_printed, refused_printed}
use Rattle.meeting.specs.Text.{meeting_text}
use Rattle.meeting.proofs.MeetingLaws.{pair_within}
use native.Mathlib.Omega.{arith}
use Rattle.meeting.proofs.print.Goals as goal
use Rattle.meeting.proofs.print.Goals.{In-Ok}

read : (c : In-Ok) → WasRead c.args.text.now c.in-Ok.f c.read.new.walls
read c = was_read _ _ _ _ c.no_walls-walls.ensures (c.read.ensures.answers, (c.read.ensures.returns, c.read.ensures.stores)) c.in-Ok.is

pub put_pair-requires : goal.put_pair-requires
put_pair-requires c =
    let w = read (goal.at.put_pair-requires c).In-Ok in
    record { walls_value = w.checked; walls_in_bounds = (w.lent, omega arith) }

pub returns-in-Ok : goal.returns-in-Ok
unfolding meeting_text
returns-in-Ok c =
    let both = read_printed _ _ _ _ (pair_within _ _) c.put_pair.ensures (read (goal.at.returns-in-Ok c).In-Ok) (omega arith) in
    record { counts = both.0; prints = both.1 }

pub put_refusal-requires : goal.put_refusal-requires
put_refusal-requires c = (place_small _ _ c.no_walls-walls.ensures c.read.ensures.answers c.in-Err.is, omega arith)

pub returns-in-Err : goal.returns-in-Err
unfolding meeting_text
returns-in-Err c =
    let both = refused_printed _ _ (rw c.number.ensures at c.put_refusal.ensures) (was_refused _ _ c.no_walls-walls.ensures c.read.ensures.answers c.in-Err.is) (omega arith) in
    record { counts = both.0; prints = both.1 }
