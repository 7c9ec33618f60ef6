-- `printing::routes` meets its contract: the reader's answer decides between the routes and the refusal's line.
use Rattle.printing.proofs.PrintLaws.{WasRead, was_read, was_refused, refusal_handed, routes_accepted, routes_refused}
use Rattle.printing.proofs.routes.Goals as goal
use Rattle.printing.proofs.routes.Goals.{In-Ok}

read : (c : In-Ok) → WasRead c.args.text.now c.in-Ok.f c.read.new.walls
read c = was_read _ _ _ _ c.no_walls-walls.ensures (c.read.ensures.answers, (c.read.ensures.returns, c.read.ensures.stores)) c.in-Ok.is

pub print_read-requires : goal.print_read-requires
print_read-requires c =
    let w = read (goal.at.print_read-requires c).In-Ok in record {
      walls_value = w.checked;
      walls_in_bounds = w.lent;
    }

pub returns-in-Ok : goal.returns-in-Ok
returns-in-Ok c =
    let both = routes_accepted _ _ _ _ _ _ (read (goal.at.returns-in-Ok c).In-Ok) c.print_read.ensures in
    record { says = both.0; stores = both.1 }

pub returns-in-Err : goal.returns-in-Err
returns-in-Err c =
    let put = refusal_handed _ _ _ _ _ _ c.number.ensures c.ok_or.ensures.value c.print_refusal.ensures in
    let both = routes_refused _ _ _ _ _ _ (was_refused _ _ c.no_walls-walls.ensures c.read.ensures.answers c.in-Err.is) put in
    record { says = both.0; stores = both.1 }
