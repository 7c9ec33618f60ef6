-- The claims of the boundary, proved.
use native.Mathlib.Omega.{arith}
use mathlib.Core.Path.{refl}
use Rattle.laws.specs.Memory.{part}
use Rattle.abi.specs.Word.{word_of}
use Rattle.abi.specs.Record.{floor_of, numbers_of, count_up}
use Rattle.abi.specs.Claims.{Claims}
use Rattle.abi.proofs.WordLaws.{packed_read, packed_most, packed_low}
use Rattle.abi.proofs.RecordLaws.{record_same}

pub theorems : Claims
unfolding word_of part floor_of numbers_of count_up
theorems =
    record {
      done_read = λ c n. packed_read 0 c n (omega arith);
      refusal_read = λ k p. packed_read 1 k p (omega arith);
      largest_read = λ k p. packed_most 1 k p (omega arith);
      done_low = λ c n. packed_low 0 c n (omega arith);
      refusal_low = λ k p. packed_low 1 k p (omega arith);
      record_returns = record_same;
      numbers_placed = refl;
      floor_placed = refl;
    }
