-- The state that a memory shows; it is one where the memory is valid.
use Rattle.std.specs.Prelude.{ℕ, zero, suc, ◌+◌, ◌*◌, List, [], ◌∷◌, eqb, get_or}
use Rattle.route.specs.Route.{Answer}
use Rattle.records.specs.Records.{record_at, shown}
use Rattle.reference.specs.State.{State}
use Rattle.encoding.specs.Places.{planned_place, due_place, answer_place, view_place, channel_place}

-- The messages in k records from a place on.
unfoldable pub messages : List ℕ → ℕ → ℕ → List Answer
messages m at zero = []
messages m at (suc k) = shown (record_at m at) ∷ messages m (at + 65) k

-- The state of n carriers in memory m.
unfoldable pub decode : ℕ → List ℕ → State
decode n m =
    record {
      planned = λ i. eqb (get_or m (planned_place i) 0) 1;
      due = λ i. eqb (get_or m (due_place i) 0) 1;
      answer = λ i. shown (record_at m (answer_place i));
      view = λ i j. record_at m (view_place n i j);
      chan = λ i j. messages m (channel_place n i j + 1) (get_or m (channel_place n i j) 0);
      taken = 1000 * get_or m 0 0 + get_or m 1 0;
    }
