-- The bounds of the number of bytes that calls moved.
use Rattle.std.specs.Prelude.{ℕ, ◌≤◌, List, Result, Ok, Err}
use Rattle.io.specs.Counts.{IsPrefixLen}
use Rattle.console.specs.declared.Failed.{Failed}
use Rattle.console.specs.declared.Stop.{Stop}

-- The bytes that were read stand in front of a memory.
abbrev pub InputWithin : Result ℕ Failed → List ℕ → Type 0
InputWithin (Ok n) xs = IsPrefixLen n xs
InputWithin (Err e) xs = Unit {0}

-- The bytes that were moved are no fewer than the least number and no more than the most.
abbrev pub PartWithin : ℕ → ℕ → Result ℕ Stop → Type 0
PartWithin least most (Ok n) = (least ≤ n) × (n ≤ most)
PartWithin least most (Err e) = Unit {0}
