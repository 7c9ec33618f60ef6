use Rattle.sheet.specs.Form.{carrier_column}
use Rattle.sheet.specs.Values.{up_to, listed, count_in, start_in}
use Rattle.sheet.proofs.ValueLaws.{place_with}
use mathlib.Core.Path.{◌≡◌}
use Prim.Native.Nat.{◌*◌}
use Rattle.sheet.proofs.values.floor.Given as goal

abbrev pub invariant-loop-i : goal.invariant-loop-i
invariant-loop-i l = record {
  here : l.column ≡ carrier_column l.text l.i;
  starts : l.starts ≡ listed (up_to l.i (start_in l.text l.f)) 8;
  counts : l.counts ≡ listed (up_to l.i (count_in l.text)) 8;
  docks : l.places ≡ listed (up_to (4 * l.i) (place_with l.text l.n l.f.width l.f.height)) 32;
}
