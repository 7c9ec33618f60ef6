-- Tests over the views in the first records.
use Prim.Native.Nat.{ℕ, suc}
use mathlib.Core.Bool.{Bool, ◌&&◌, and_comm, and_assoc}
use mathlib.Core.List.{List, [], ◌∷◌, ◌++◌}
use mathlib.Core.Path.{◌≡◌, refl, sym, ◌∙◌, ap}
use Rattle.route.specs.Route.{View}
use Rattle.route.specs.Moves.{every}
use Rattle.records.specs.Records.{view_at, records}

every_last : (φ : View → Bool) (vs : List View) (v : View) → every φ (vs ++ (v ∷ [])) ≡ (φ v && every φ vs)
unfolding every
every_last φ [] v = refl
every_last φ (v' ∷ vs) v =
    ap (λ (x : Bool). φ v' && x) (every_last φ vs v)
    ∙ sym (and_assoc (φ v') (φ v) (every φ vs))
    ∙ rw (and_comm (φ v') (φ v)) (and_assoc (φ v) (φ v') (every φ vs))

-- One more record.
pub every_more : (φ : View → Bool) (m : List ℕ) (k : ℕ) → every φ (records m (suc k)) ≡ (φ (view_at m k) && every φ (records m k))
unfolding records
every_more φ m k = every_last φ (records m k) (view_at m k)
