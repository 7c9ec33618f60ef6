-- `map_reader::write_map` meets its contract: the walls are the first of the memory, and the floor is that of the cells.
use Rattle.map_reader.proofs.ToldLaws.{map_told}
use native.Mathlib.Omega.{arith}
use Rattle.map_reader.proofs.write_map.Goals as goal

pub returns : goal.returns
returns c =
    let w = c.put_walls-k in
    let f = c.floor_of-f.ensures in
    map_told _ _ _ _ _ _ _ _ _ _ c.requires f.sizes f.carriers w.ensures.0
    (omega (arith, c.requires.few, w.ensures.1, c.no_walls-walls.ensures)) c.write_sheet.ensures
