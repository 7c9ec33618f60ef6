-- A field that counts 1 to 4: what its tests answer.
use Prim.Native.Nat.{ℕ, ◌+◌, ◌≤◌}
use mathlib.Core.Path.{◌≡◌}
use mathlib.Core.Bool.{and-eq-true_iff}
use mathlib.Core.List.{List}
use borrow.Author.Tests.{leb-true}
use lib.ListN.{length}
use Rattle.floor.specs.Checks.{within}
use Rattle.laws.specs.Verdict.{passed}
use Rattle.laws.proofs.VerdictLaws.{then_both, demand_holds}
use Rattle.fields.specs.Field.{number_at}
use Rattle.fields.specs.Form.{field_form, count_form}

-- A field in good form lies within the text.
pub field_there : (text : List ℕ) (at : ℕ) → field_form text at ≡ passed → at + 5 ≤ length text
unfolding field_form
field_there text at h = leb-true _ _ (demand_holds _ 1 _ (then_both _ _ h).0)

-- A count in good form lies within the text, and is 1 to 4.
pub count_there : (text : List ℕ) (at : ℕ) → count_form text at ≡ passed → at + 5 ≤ length text
unfolding count_form
count_there text at h = field_there text at (then_both _ _ h).0

pub count_tells : (text : List ℕ) (at : ℕ) → count_form text at ≡ passed → (1 ≤ number_at text at) × (number_at text at ≤ 4)
unfolding count_form within
count_tells text at h =
    let a = then_both _ _ h in
    let b = (and-eq-true_iff _ _).0 (demand_holds _ 1 at a.1) in
    (leb-true _ _ b.0, leb-true _ _ b.1)
