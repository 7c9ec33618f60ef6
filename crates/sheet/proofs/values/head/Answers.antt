-- `sheet::values::head` meets its contract: the six values.
use Prim.Native.Nat.{ℕ}
use mathlib.Core.Path.{◌≡◌}
use mathlib.Core.List.{List}
use lib.ListN.{replicate}
use Rattle.floor.specs.declared.Floor.{Floor}
use Rattle.sheet.specs.Values.{head_at, value_at}
use Rattle.sheet.proofs.values.head.Goals as goal

-- Six values in their order are line 1.
six-values : (text : List ℕ) (w h t d n k : ℕ) → w ≡ value_at text 0 → h ≡ value_at text 5 → t ≡ value_at text 10 → d ≡ value_at text 15
    → n ≡ value_at text 20 → k ≡ value_at text 25
    → ◌≡◌ {A = Floor}
    (record {
      width = w;
      height = h;
      horizon = t;
      depth = d;
      carriers = n;
      walls = k;
      starts = replicate 8 0;
      counts = replicate 8 0;
      docks = replicate 32 0;
    }) (head_at text)
unfolding head_at
six-values text w h t d n k e₁ e₂ e₃ e₄ e₅ e₆ = rw (e₁, e₂, e₃, e₄, e₅, e₆)

pub returns : goal.returns
returns c =
    six-values _ _ _ _ _ _ _ c.value.ensures c.value-2.ensures c.value-3.ensures c.value-4.ensures c.value-5.ensures
    c.value-6.ensures
