-- `console::through` meets its contract: what was told of what was read is what was written.
use Rattle.std.proofs.Common.{rules, refl}
use Rattle.std.proofs.KnownBytes.{Keeps-refl}
use Rattle.console.proofs.RunLaws.{read_tells, on_written}
use Rattle.console.proofs.through.Goals as goal

pub returns-in-Ok : goal.returns-in-Ok
returns-in-Ok g c =
    on_written _ _ _ _ _ c.write.ensures.bytes (λ p.
    read_tells _ _ _ 65536 _ _ _ c.read.new.buf _ _ (search rules) c.in_ok-n.ensures.within c.in_ok-n.ensures.bytes
    refl c.tell.ensures (rw c.in-Ok.is p))

pub returns-in-Err : goal.returns-in-Err
returns-in-Err g c =
    read_tells _ _ _ 65536 _ _ _ c.read.new.buf _ _ (search rules) c.in_ok-n.ensures.within c.in_ok-n.ensures.bytes
    refl c.tell.ensures (rw c.in-Err.is (Keeps-refl _))
