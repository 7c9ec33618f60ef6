-- What one write does, writes in a row do.
use Rattle.std.proofs.Common.{rules, of_calls, length, ◌≡◌}
use Rattle.console.specs.Within.{PartWithin}
use Rattle.console.specs.Moved.{PartWritten}
use Rattle.console.proofs.TurnLaws.{turned_does}
use Rattle.console.proofs.write_some.Goals as goal

pub returns : goal.returns
returns g c =
    let all = turned_does
    (λ f r h. (f.0.ghost_name ≡ h.0.ghost_name) × (f.1.now ≡ h.1.now) × PartWithin 1 (length h.1.now) r
    × PartWritten (g.W.Write.contents f.0.now) (g.W.Write.contents h.0.now) r h.1.now)
    c.in_turns.ensures (λ f. search rules) (λ f k h r p s. (search of_calls, search of_calls, search (rules, of_calls), search (rules, of_calls))) in
    search (rules, all)
