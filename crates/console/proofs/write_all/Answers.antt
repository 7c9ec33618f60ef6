-- After one more part a longer front is written.
use Rattle.std.proofs.Common.{rules, length, ◌-◌, ◌≤◌, subst}
use Rattle.std.specs.Io.KnownBytes.{Appends}
use Rattle.std.proofs.KnownBytes.{Appends-trans}
use Rattle.console.proofs.PartsLaws.{front_longer}
use Rattle.console.proofs.write_all.Goals as goal

pub loop-n-preserved : goal.loop-n-preserved
loop-n-preserved g c =
    let n = c.loop-n.n in
    let text = c.args.text.now in
    let more = c.in_ok-more.more in
    let fits : more ≤ length text - n = search rules in
    record {
      fits = search rules;
      put = subst (Appends _ _) (front_longer n more text fits) (Appends-trans _ _ _ _ _ c.loop-n.invariant.put c.in_ok-more.ensures.bytes);
    }
