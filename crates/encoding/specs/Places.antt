-- Where each part of a state of n carriers lies (carriers count from 0): the taken count in two numbers, thousands and rest; 67 numbers
-- a carrier, planned, due and the record of its answer; a record of 65 numbers for each view, and 261 numbers for each channel, its
-- length and four records. Views and channels go by pairs of a receiver i and a sender j above it, in the order (1, 0), (2, 0), (2, 1) ...
use Rattle.std.specs.Prelude.{ℕ, zero, suc, ◌+◌, ◌*◌}

-- The pairs with a receiver below i; pair (i, j) has the number pairs_before i + j.
unfoldable pub pairs_before : ℕ → ℕ
pairs_before zero = 0
pairs_before (suc i) = pairs_before i + i

-- The flag planned of carrier i.
unfoldable pub planned_place : ℕ → ℕ
planned_place i = 2 + 67 * i

-- The flag due of carrier i.
unfoldable pub due_place : ℕ → ℕ
due_place i = 3 + 67 * i

-- The record of the answer of carrier i.
unfoldable pub answer_place : ℕ → ℕ
answer_place i = 4 + 67 * i

-- The record of the view that carrier i has of carrier j.
unfoldable pub view_place : ℕ → ℕ → ℕ → ℕ
view_place n i j = 2 + 67 * n + 65 * (pairs_before i + j)

-- The channel from carrier j to carrier i: its length, then its records.
unfoldable pub channel_place : ℕ → ℕ → ℕ → ℕ
channel_place n i j = 2 + 67 * n + 65 * pairs_before n + 261 * (pairs_before i + j)

-- The needed length of a state: all that n carriers and their pairs need.
unfoldable pub state_size : ℕ → ℕ
state_size n = 2 + 67 * n + 326 * pairs_before n
