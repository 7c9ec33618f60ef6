-- The sequential planner (document 01, 'Routes'; Algorithm 1 of document 000), for any best response: `respond i vs` is the answer
-- of carrier i, counted from 0, against the views vs of the carriers above it in their order.
use Rattle.std.specs.Prelude.{ℕ, zero, suc, List, [], ◌∷◌, ◌++◌, map}
use Rattle.route.specs.Route.{Answer, View, heard}

-- The answers of the first k carriers: each is best against the answers above it, none included.
unfoldable pub sequential : (ℕ → List View → Answer) → ℕ → List Answer
sequential respond zero = []
sequential respond (suc k) = sequential respond k ++ (respond k (map heard (sequential respond k)) ∷ [])
