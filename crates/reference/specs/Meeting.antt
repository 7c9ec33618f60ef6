-- Steps at different boards (document 02, slip 5): which two steps meet, which stand apart, and what two histories have in common that
-- differ only in the order of neighbours that stand apart.
use Rattle.std.specs.Prelude.{ℕ, Bool, true, false, List, ◌∷◌, ◌≡◌, eqb}
use Rattle.reference.specs.State.{Machine, State}
use Rattle.reference.specs.Step.{Step, plan, deliver, is_open}
use Rattle.reference.specs.Take.{after_step}
use Rattle.reference.specs.Run.{RunResult}
use Rattle.reference.specs.Ending.{ending}

-- Two steps meet: one plans the carrier that the other delivers to.
unfoldable pub meet : Step → Step → Bool
meet (plan i) (plan i') = false
meet (plan i) (deliver j i') = eqb i i'
meet (deliver j i') (plan i) = eqb i i'
meet (deliver j i) (deliver j' i') = false

-- Two steps stand apart in state s: both are open, they are different, and they do not meet.
pub record Apart (M : Machine) (s : State) (x y : Step) : Type 0 where
  pub one_open : is_open M s x ≡ true
  pub other_open : is_open M s y ≡ true
  pub different : x ≡ y → ⊥
  pub unmet : meet x y ≡ false

-- Two lists of steps taken from state s differ by exchanging neighbours that stand apart where they are taken.
pub data Exchanged (M : Machine) : State → List Step → List Step → Type 0 where
  same : {s : State} {xs : List Step} → Exchanged M s xs xs
  swapped : {s : State} {x y : Step} {xs : List Step} → Apart M s x y → Exchanged M s (x ∷ (y ∷ xs)) (y ∷ (x ∷ xs))
  later : {s : State} {x : Step} {xs ys : List Step} → Exchanged M (after_step M s x) xs ys → Exchanged M s (x ∷ xs) (x ∷ ys)
  onward : {s : State} {xs ys zs : List Step} → Exchanged M s xs ys → Exchanged M s ys zs → Exchanged M s xs zs

-- Two runs with budget b lead to the same state, take as many steps and end alike.
pub record SameRun (M : Machine) (b : ℕ) (x y : RunResult) : Type 0 where
  pub state : x.state ≡ y.state
  pub taken : x.taken ≡ y.taken
  pub ending : ending M b x ≡ ending M b y
