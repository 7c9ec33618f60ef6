-- The fresh floor.
use Rattle.std.specs.Prelude.{replicate}
use Rattle.floor.specs.declared.Floor.{Floor}

-- One cell, one beat, one message, one carrier that is at its one dock, no wall.
unfoldable pub fresh_floor : Floor
fresh_floor =
    record {
      width = 1;
      height = 1;
      horizon = 1;
      depth = 1;
      carriers = 1;
      walls = 0;
      starts = replicate 8 0;
      counts = replicate 8 1;
      docks = replicate 32 0;
    }
