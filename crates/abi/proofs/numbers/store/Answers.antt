-- `abi::numbers::store` meets its contract: four blocks, one behind the other.
use Rattle.abi.proofs.RecordLaws.{four_blocks}
use Rattle.abi.specs.Record.{numbers_of}
use Rattle.laws.specs.Memory.{put}
use borrow.Author.Rules.{rules}
use mathlib.Core.List.{[], ◌∷◌}
use lib.ListN.{length}
use mathlib.Core.Path.{◌≡◌, refl}
use Rattle.abi.proofs.numbers.store.Goals as goal

pub returns : goal.returns
unfolding numbers_of put
returns c =
    let starts : length c.args.f.starts ≡ 8 = search rules in
    let counts : length c.args.f.counts ≡ 8 = search rules in
    let docks : length c.args.f.docks ≡ 32 = search rules in
    let f = c.args.f in
    four_blocks _ _ _ _ _ (f.width ∷ f.height ∷ f.horizon ∷ f.depth ∷ f.carriers ∷ f.walls ∷ []) f.starts f.counts f.docks
    c.copy.ensures c.copy-2.ensures c.copy-3.ensures c.copy-4.ensures refl starts counts docks c.requires
