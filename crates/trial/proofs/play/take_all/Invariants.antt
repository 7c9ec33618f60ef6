use Rattle.std.proofs.Common.{◌≡◌}
use Rattle.reference.specs.Quiescent.{ceiling}
use Rattle.orders.specs.Orders.{places}
use Rattle.trial.specs.Entry.{order_meant}
use Rattle.trial.proofs.PlayLaws.{Playing}
use Rattle.trial.proofs.play.take_all.Given as goal

abbrev pub invariant-loop-t : goal.invariant-loop-t
invariant-loop-t l =
    (l.all ≡ places l.f.carriers) × (l.most ≡ ceiling l.f.carriers)
    × Playing l.f l.walls (order_meant l.order) l.seed l.initial.m l.initial.report l.m l.report l.c l.t
