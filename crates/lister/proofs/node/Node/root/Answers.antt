-- `lister::node::Node::root` meets its contract: the fresh state is written in front of the room for it.
use native.Mathlib.Omega.{arith}
use mathlib.Core.Path.{refl, sym, ◌∙◌}
use Rattle.trial.proofs.EntryLaws.{front_fresh}
use Rattle.lister.proofs.node.Node.root.Goals as goal

pub write_fresh-requires : goal.write_fresh-requires
write_fresh-requires c =
    (c.requires.0, omega (arith, c.requires.1, c.no_memory-memory.ensures))

pub returns : goal.returns
returns c =
    record {
      shows = front_fresh _ _ _ c.write_fresh.ensures;
      long = c.write_fresh.auto.m ∙ sym c.no_memory-memory.ensures;
      none = refl;
    }
