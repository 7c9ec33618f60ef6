-- Several docks, proved.
use Rattle.floor.proofs.Theorems.{theorems as floor-theorems}
use Rattle.planner.proofs.DocksTheorems.{theorems as docks-theorems}
use Rattle.demands.specs.Docks.{SeveralDocks}
use Rattle.demands.proofs.EarlierLaws.{earlier_answers}
use Rattle.demands.proofs.SameSheetLaws.{order_outcomes}

pub theorem : SeveralDocks
theorem =
    record {
      earlier_accepted = floor-theorems.earlier_accepted;
      earlier_refused = floor-theorems.earlier_refused;
      earlier_start = floor-theorems.earlier_start;
      earlier_answers = earlier_answers;
      order_answers = order_outcomes;
      plans = docks-theorems;
    }
