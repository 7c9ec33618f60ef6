-- `search::route_in` meets its contract: the search from the carrier's start to its docks in the free table of its floor. Assumes nothing.
use Rattle.floor.specs.Checks.{start_of, count_of}
use Rattle.search.proofs.SearchLaws.{scene_fits, scene_start, scene_docks, tidy_scene, best_views}
use Rattle.search.proofs.route_in.Goals as goal

pub seek-requires : goal.seek-requires
unfolding start_of count_of
seek-requires c =
    let p = c.requires in
    let able = p.searchable.0 in
    let q = c.search_grid_of.ensures in
    let x = scene_fits able q in record {
      grid = (x.grid, x.short, scene_start able q, scene_docks able q c.docks_of.ensures);
      tidy_2 = (rw q p.searchable.1, rw q p.free_table.tidy);
    }

pub returns : goal.returns
unfolding start_of count_of
returns c =
    let q = c.search_grid_of.ensures in
    let found = c.seek.ensures in record {
      tidy = tidy_scene _ q found.tidy;
      best = best_views _ _ _ _ _ _ _ _ q c.docks_of.ensures c.requires.free_table found.best;
    }
