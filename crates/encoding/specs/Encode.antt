-- A state of the reference machine as numbers in memory.
use Rattle.std.specs.Prelude.{ℕ, zero, suc, ◌/◌, ◌%◌, Bool, true, false, List, [], ◌∷◌, ◌++◌, length}
use Rattle.route.specs.Route.{Answer, unheard, heard}
use Rattle.records.specs.Records.{slot}
use Rattle.reference.specs.State.{State}

-- A flag: 0 or 1.
unfoldable pub flag : Bool → ℕ
flag false = 0
flag true = 1

-- The first k places of a channel: its messages, oldest first, then zeros.
unfoldable pub slots : ℕ → List Answer → List ℕ
slots zero xs = []
slots (suc k) [] = slot unheard ++ slots k []
slots (suc k) (x ∷ xs) = slot (heard x) ++ slots k xs

-- A channel: how many messages it has, and its four places.
unfoldable pub channel_block : List Answer → List ℕ
channel_block xs = length xs ∷ slots 4 xs

-- A carrier: planned, due, its answer.
unfoldable pub carrier_block : State → ℕ → List ℕ
carrier_block s i = flag (s.planned i) ∷ (flag (s.due i) ∷ slot (heard (s.answer i)))

-- The taken count: thousands and rest.
unfoldable pub count_block : ℕ → List ℕ
count_block t = t / 1000 ∷ (t % 1000 ∷ [])

-- The blocks 0 to k − 1, one behind the other.
unfoldable pub blocks : ℕ → (ℕ → List ℕ) → List ℕ
blocks zero φ = []
blocks (suc k) φ = blocks k φ ++ φ k

-- The blocks of all pairs of a receiver i below n and a sender j above it.
unfoldable pub pairs : ℕ → (ℕ → ℕ → List ℕ) → List ℕ
pairs n φ = blocks n (λ i. blocks i (φ i))

-- The state of n carriers.
unfoldable pub encode : ℕ → State → List ℕ
encode n s =
    count_block s.taken
    ++ (blocks n (carrier_block s) ++ (pairs n (λ i j. slot (s.view i j)) ++ pairs n (λ i j. channel_block (s.chan i j))))
