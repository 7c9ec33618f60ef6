-- What stands in front after one more part is what was read.
use Rattle.std.proofs.Common.{rules, length, ◌-◌, subst}
use Rattle.std.specs.Io.KnownBytes.{Consumes}
use Rattle.std.proofs.KnownBytes.{Consumes-trans}
use Rattle.console.proofs.PartsLaws.{front_filled}
use Rattle.console.proofs.read_all.Goals as goal

pub loop-n-preserved : goal.loop-n-preserved
loop-n-preserved g c =
    let n = c.loop-n.n in
    let buf = c.loop-n.buf in
    let part = c.read_some.new.buf in
    record {
      long = search rules;
      fits = search rules;
      taken =
          subst (Consumes _ _) (front_filled n (length buf - n) c.in_ok-more.more buf part c.loop-n.invariant.fits c.in_ok-more.ensures.within.1)
          (Consumes-trans _ _ _ _ _ c.loop-n.invariant.taken c.in_ok-more.ensures.bytes.0);
    }
