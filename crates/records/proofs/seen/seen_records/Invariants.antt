use Rattle.records.specs.Records.{records}
use Rattle.records.specs.Seen.{seen}
use lib.ListN.{length}
use mathlib.Core.Path.{◌≡◌}
use Rattle.records.proofs.seen.seen_records.Given as goal

abbrev pub invariant-loop-j : goal.invariant-loop-j
invariant-loop-j l = (length l.shown ≡ 520) × (records l.shown l.j ≡ seen l.f (records l.m l.j))
