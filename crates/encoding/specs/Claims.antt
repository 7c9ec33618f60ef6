-- What is claimed of the layout; `proofs/Theorems.antt` inhabits the record. Carriers count from 0. An accepted floor has a depth of at
-- most 4, a horizon of at most 63 and at most 8 carriers.
use Rattle.std.specs.Prelude.{ℕ, ◌+◌, ◌*◌, ◌≤◌, ◌<◌, true, false, List, ◌++◌, ◌↔◌, ◌≡◌, length, take, replicate}
use Rattle.floor.specs.declared.Floor.{Floor}
use Rattle.reference.specs.State.{State, fresh}
use Rattle.reference.specs.Step.{plan, deliver}
use Rattle.reference.specs.Table.{step}
use Rattle.encoding.specs.Places.{state_size}
use Rattle.encoding.specs.Encode.{encode}
use Rattle.encoding.specs.Decode.{decode}
use Rattle.encoding.specs.Valid.{valid}
use Rattle.encoding.specs.Ranges.{WithinRanges}
use Rattle.encoding.specs.Alike.{Alike}
use Rattle.encoding.specs.Numbers.{asked_by}

pub record Claims : Type 0 where
  -- Refusal 10: a memory is valid exactly if its front is the encoding of a state within the ranges.
  pub valid_exactly : (f : Floor) (m : List ℕ) → f.depth ≤ 4 → f.horizon ≤ 63 → state_size f.carriers ≤ length m →
      (valid f m ≡ true) ↔ ((s : State) × (WithinRanges f s) × (take (state_size f.carriers) m ≡ encode f.carriers s))
  -- A valid memory is the encoding of the state that it shows, and that state is within the ranges.
  pub decode_valid : (f : Floor) (m : List ℕ) → f.depth ≤ 4 → f.horizon ≤ 63 → state_size f.carriers ≤ length m → valid f m ≡ true →
      WithinRanges f (decode f.carriers m) × (encode f.carriers (decode f.carriers m) ≡ take (state_size f.carriers) m)
  -- The memory of a state within the ranges shows that state in every part.
  pub encode_shows : (f : Floor) (s : State) (rest : List ℕ) → f.depth ≤ 4 → WithinRanges f s →
      Alike f.carriers (decode f.carriers (encode f.carriers s ++ rest)) s
  -- Two such states have one memory exactly if they are the same in every part.
  pub encode_exactly : (f : Floor) (s z : State) → f.depth ≤ 4 → WithinRanges f s → WithinRanges f z →
      (encode f.carriers s ≡ encode f.carriers z) ↔ Alike f.carriers s z
  -- A fresh state is valid; a memory of zeros is no state, since no answer has tag 0.
  pub fresh_valid : (f : Floor) (rest : List ℕ) → f.depth ≤ 4 → f.horizon ≤ 63 → valid f (encode f.carriers fresh ++ rest) ≡ true
  pub zeros_refused : (f : Floor) (k : ℕ) → 1 ≤ f.carriers → valid f (replicate k 0) ≡ false
  -- The encoding of a state has the needed length.
  pub encode_length : (n : ℕ) (s : State) → length (encode n s) ≡ state_size n
  -- The needed length, two bytes a number, is at most 65,536 bytes; for eight carriers it is 9,666 numbers.
  pub size_small : (f : Floor) → f.carriers ≤ 8 → 2 * state_size f.carriers ≤ 65536
  pub size_most : state_size 8 ≡ 9666
  -- The numbers of the plans are 101 to 109, and no others.
  pub plan_number : (x i : ℕ) → (asked_by x ≡ step (plan i)) ↔ ((i < 9) × (x ≡ 101 + i))
  -- The numbers of the deliveries are those with digits 2, sender, receiver, both counted from 1, and no others.
  pub deliver_number : (x j i : ℕ) → (asked_by x ≡ step (deliver j i)) ↔ ((j < 9) × (i < 9) × (x ≡ 200 + 10 * (j + 1) + (i + 1)))
