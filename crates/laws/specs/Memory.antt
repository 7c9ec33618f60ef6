-- A block in a memory, and a part of one.
use Rattle.std.specs.Prelude.{ℕ, ◌+◌, List, ◌++◌, length, take, drop}

-- The memory m with the block xs at a place.
unfoldable pub put : List ℕ → ℕ → List ℕ → List ℕ
put m at xs = take at m ++ (xs ++ drop (at + length xs) m)

-- The n numbers of the memory m from a place on.
unfoldable pub part : List ℕ → ℕ → ℕ → List ℕ
part m at n = take n (drop at m)
