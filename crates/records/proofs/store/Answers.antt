-- `records::store` meets its contract: a tag and 64 cells, one behind the other.
use Rattle.laws.proofs.PutLaws.{put_one, put_next}
use lib.ListN.{length-set}
use mathlib.Core.List.{◌∷◌, []}
use mathlib.Core.Path.{refl, ◌∙◌}
use native.Mathlib.Omega.{arith}
use Rattle.records.proofs.store.Goals as goal

pub store_cells-requires : goal.store_cells-requires
store_cells-requires c = simp length-set (omega arith)

pub shape_of-m : goal.shape_of-m
shape_of-m c = c.store_cells.auto.m ∙ simp length-set

pub returns : goal.returns
returns c =
    let e = c.store_cells.ensures in
    put_next _ _ _ (_ ∷ []) _ _ _ (put_one _ _ _ (omega (arith, c.requires))) e.0 refl
    (rw e.1 (omega (arith, c.requires)))
