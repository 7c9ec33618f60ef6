-- What is left of the text falls, and its front was written.
use Rattle.std.proofs.Common.{◌-◌, ◌≤◌, length, take}
use Rattle.std.specs.Io.KnownBytes.{Appends}
use Rattle.console.proofs.write_all.Given as goal

abbrev pub invariant-loop-n : goal.invariant-loop-n
invariant-loop-n g l =
    record {
      fits : l.n ≤ length l.text;
      put : Appends (g.W.Write.contents l.initial.writer) (g.W.Write.contents l.writer) (take l.n l.text);
    }

abbrev pub decreases-loop-n : goal.decreases-loop-n
decreases-loop-n g l = length l.text - l.n
