-- Laws of the number of bytes that were moved.
use Rattle.std.proofs.Common.{◌≡◌, ℕ, ◌≤◌, List, Result, Ok, rules, length, take, sym, length-take-le}
use Rattle.io.specs.Counts.{IsPrefixLen}
use Rattle.console.specs.declared.Failed.{Failed}
use Rattle.console.specs.Within.{InputWithin}

-- A number that is within a memory's length counts bytes in front of it.
pub counts_within : (n : ℕ) (xs : List ℕ) → n ≤ length xs → IsPrefixLen n xs
counts_within n xs l = (l, sym (length-take-le n xs l))

-- The bytes that were read stand in front of the memory.
pub read_within : {n : ℕ} {x : Result ℕ Failed} (xs : List ℕ) → x ≡ Ok n → InputWithin x xs → n ≤ length xs
read_within xs e w = (rw e at w).0

pub read_counted : {n : ℕ} {x : Result ℕ Failed} (xs : List ℕ) → x ≡ Ok n → InputWithin x xs → n ≡ length (take n xs)
read_counted xs e w = (rw e at w).1

-- What a program that reads its input takes.
pub ruleset reading = (rules, read_within, read_counted)
