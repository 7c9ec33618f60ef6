-- `search::best_against` meets its contract: the free table of the floor is made, and the search is in it. Assumes nothing.
use Rattle.layers.proofs.SetLaws.{empty_tidy}
use Rattle.search.proofs.SearchLaws.{scene_fits, scene_clean, table_scene}
use Rattle.search.proofs.best_against.Goals as goal

pub make-requires : goal.make-requires
make-requires c =
    let p = c.requires in
    let q = c.search_grid_of.ensures in record {
      fits = (scene_fits p q, scene_clean p q, p.long);
      table_value = c.empty-table.ensures;
    }

pub route_in-requires : goal.route_in-requires
route_in-requires c = record {
  searchable = (c.requires, empty_tidy _ _ c.empty-sets.ensures);
  free_table = table_scene _ c.search_grid_of.ensures c.make.ensures;
}

pub returns : goal.returns
returns c =
    c.route_in.ensures.best
