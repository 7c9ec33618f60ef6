-- Steps at different boards, proved (document 02, slip 5).
use Rattle.demands.specs.Boards.{Boards}
use Rattle.demands.proofs.BoardLaws.{either_order, run_neighbours, exchanged}
use Rattle.demands.proofs.ShorterText.{shortened, shortened_sheet}

pub theorem : Boards
theorem =
    record {
      either_order = either_order;
      run_neighbours = run_neighbours;
      exchanged = exchanged;
      drop_last_lem = shortened;
      drop_last_line = shortened_sheet;
    }
