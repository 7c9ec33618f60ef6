-- A floor record as 54 numbers: width, height, horizon, depth, carriers, walls, eight starts, eight dock counts, thirty-two docks.
use Rattle.std.specs.Prelude.{ℕ, zero, suc, List, [], ◌∷◌, ◌++◌, length, get_or}
use Rattle.laws.specs.Memory.{part}
use Rattle.floor.specs.declared.Floor.{Floor}
use Rattle.laws.specs.Verdict.{Verdict}
use Rattle.floor.specs.Checks.{long_enough}

-- The floor that 54 numbers say.
unfoldable pub floor_of : List ℕ → Floor
floor_of xs =
    record {
      width = get_or xs 0 0;
      height = get_or xs 1 0;
      horizon = get_or xs 2 0;
      depth = get_or xs 3 0;
      carriers = get_or xs 4 0;
      walls = get_or xs 5 0;
      starts = part xs 6 8;
      counts = part xs 14 8;
      docks = part xs 22 32;
    }

-- The numbers of a floor.
unfoldable pub numbers_of : Floor → List ℕ
numbers_of f =
    (f.width ∷ f.height ∷ f.horizon ∷ f.depth ∷ f.carriers ∷ f.walls ∷ []) ++ (f.starts ++ (f.counts ++ f.docks))

-- 9, before anything else: as many numbers are lent as a record has.
unfoldable pub record_lent : List ℕ → Verdict
record_lent xs = long_enough 54 (length xs)

-- The n numbers that count up from k.
unfoldable pub count_up : ℕ → ℕ → List ℕ
count_up k zero = []
count_up k (suc n) = k ∷ count_up (suc k) n

-- A floor whose numbers all differ: 1 to 54 in the order of its fields.
abbrev pub numbered : Floor
numbered =
    record {
      width = 1;
      height = 2;
      horizon = 3;
      depth = 4;
      carriers = 5;
      walls = 6;
      starts = count_up 7 8;
      counts = count_up 15 8;
      docks = count_up 23 32;
    }
