-- Which bytes calls moved, where those that a reader has left or a writer holds are known: before the calls, and after them.
use Rattle.std.specs.Prelude.{◌≡◌, ℕ, ◌<◌, List, length, take, Option, Result, Ok, Err, ⊤}
use Rattle.std.specs.Io.KnownBytes.{Keeps, Appends, Consumes, IsAtEnd}
use Rattle.console.specs.declared.Failed.{Failed}
use Rattle.console.specs.declared.Stop.{Stop}

-- One part was read into a memory: its bytes were the input's next ones, and none only at the input's end. Otherwise none is gone.
abbrev pub PartRead : Option (List ℕ) → Option (List ℕ) → Result ℕ Stop → List ℕ → Type 0
PartRead old new (Ok n) xs = Consumes old new (take n xs) × (n ≡ 0 → 0 < length xs → IsAtEnd new)
PartRead old new (Err e) xs = Keeps old new

-- Parts were read one behind the other: their bytes were the input's next ones, and fewer than there is room for only at the input's end.
-- Otherwise no more bytes are gone than stand in front.
abbrev pub PartsRead : Option (List ℕ) → Option (List ℕ) → Result ℕ Stop → List ℕ → Type 0
PartsRead old new (Ok n) xs = Consumes old new (take n xs) × (n < length xs → IsAtEnd new)
PartsRead old new (Err e) xs = (n : ℕ) × Consumes old new (take n xs)

-- One part of a text was written: its bytes in front came behind what the output holds. Otherwise nothing came.
abbrev pub PartWritten : Option (List ℕ) → Option (List ℕ) → Result ℕ Stop → List ℕ → Type 0
PartWritten old new (Ok n) xs = Appends old new (take n xs)
PartWritten old new (Err e) xs = Keeps old new

-- Parts of a text were written one behind the other: all of it came behind what the output holds. Otherwise some bytes of its front came.
abbrev pub PartsWritten : Option (List ℕ) → Option (List ℕ) → Result ℕ Stop → List ℕ → Type 0
PartsWritten old new (Ok n) xs = Appends old new xs
PartsWritten old new (Err e) xs = (n : ℕ) × Appends old new (take n xs)

-- What was read of the input: as parts that were read.
unfoldable pub InputTaken : Option (List ℕ) → Option (List ℕ) → Result ℕ Failed → List ℕ → Type 0
InputTaken old new (Ok n) xs = Consumes old new (take n xs) × (n < length xs → IsAtEnd new)
InputTaken old new (Err e) xs = (n : ℕ) × Consumes old new (take n xs)

-- Nothing is said of an input that was read.
unfoldable pub InputSaid : Option (List ℕ) → Option (List ℕ) → Result ℕ Failed → Type 0
InputSaid old new (Ok n) = Keeps old new
InputSaid old new (Err e) = Unit {0}

-- What came behind what the output holds: all of a text, or some bytes of its front.
unfoldable pub OutputPut : Option (List ℕ) → Option (List ℕ) → Result ⊤ Failed → List ℕ → Type 0
OutputPut old new (Ok u) xs = Appends old new xs
OutputPut old new (Err e) xs = (n : ℕ) × Appends old new (take n xs)

-- Nothing is said of a text that was written.
unfoldable pub OutputSaid : Option (List ℕ) → Option (List ℕ) → Result ⊤ Failed → Type 0
OutputSaid old new (Ok u) = Keeps old new
OutputSaid old new (Err e) = Unit {0}

-- What is said of a text that was written.
abbrev pub OnWritten : Result ⊤ Failed → Type 0 → Type 0
OnWritten (Ok u) P = P
OnWritten (Err e) P = Unit {0}

-- What came behind what the output holds is the front of a memory, as long as a number says; of both something holds.
abbrev pub PutSome : Option (List ℕ) → Option (List ℕ) → (List ℕ → ℕ → Type 0) → Type 0
PutSome old new P = (xs : List ℕ) × (n : ℕ) × P xs n × Appends old new (take n xs)
