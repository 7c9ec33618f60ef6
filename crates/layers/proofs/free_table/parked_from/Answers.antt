-- `layers::free_table::parked_from` meets its contract: the view keeps its last cell at the beats passed. Assumes nothing.
use Prim.Native.Nat.{◌<◌}
use mathlib.Core.Logic.{⊎_elim}
use mathlib.Core.Path.{◌≡◌, refl}
use native.Mathlib.Nat.{eq-or-lt_of_le}
use borrow.Author.Rules.{rules}
use Rattle.layers.proofs.free_table.parked_from.Goals as goal

pub returns : goal.returns
returns c = record {
  upto = c.held_from.ensures.upto;
  keeps = λ t l h.
      ⊎_elim (λ (s : t ≡ c.args.horizon). rw s refl)
      (λ (s : t < c.args.horizon). let e = c.held_from.ensures.held t l s in search rules) (eq-or-lt_of_le h);
}
