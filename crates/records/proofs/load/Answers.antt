-- `records::load` meets its contract: what is copied is the part.
use Rattle.laws.specs.Memory.{part}
use native.Mathlib.Omega.{arith}
use Prim.Native.Nat.{◌+◌, ◌-◌}
use mathlib.Core.Path.{◌≡◌}
use Rattle.records.proofs.load.Goals as goal

pub returns : goal.returns
unfolding part
returns c =
    let n : c.args.at + 64 - c.args.at ≡ 64 = omega arith in
    rw n at c.copy_from_slice.ensures.after
