-- How a run ends: silent, spent and ended exactly as document 01 says; a fresh state is not silent.
use Prim.Native.Nat.{ℕ, ◌≤◌}
use native.Mathlib.Omega.{arith}
use mathlib.Core.Bool.{Bool, true, false, ◌&&◌}
use mathlib.Core.List.{List, [], ◌∷◌}
use mathlib.Core.Logic.{◌↔◌}
use mathlib.Core.Path.{◌≡◌, refl}
use lib.Dec.{eqb}
use borrow.Author.Tests.{eqb-true, eq-eqb}
use Rattle.laws.proofs.Tests.{and_fst, and_snd, not_true_is_false, true_false_absurd}
use Rattle.reference.specs.State.{Machine, fresh}
use Rattle.reference.specs.Step.{Step}
use Rattle.reference.specs.Run.{RunResult}
use Rattle.reference.specs.Ranking.{is_silent}
use Rattle.reference.specs.Ending.{silent, spent, ends_as, any_left, ending}
use Rattle.reference.proofs.RankingLaws.{silent_shut}
use Rattle.reference.proofs.QuiescentLaws.{shut_idle}

ends_silent : (x y : Bool) → ends_as x y ≡ silent → x ≡ true
unfolding ends_as
ends_silent true y e = refl
ends_silent false true e = let z : ◌≡◌ {A = ℕ} 0 1 = cc in absurd (omega arith)
ends_silent false false e = let z : ◌≡◌ {A = ℕ} 0 1 = cc in absurd (omega arith)

ends_spent : (x y : Bool) → ends_as x y ≡ spent → (x ≡ false) × (y ≡ true)
unfolding ends_as
ends_spent true y e = let z : ◌≡◌ {A = ℕ} 0 1 = cc in absurd (omega arith)
ends_spent false true e = (refl, refl)
ends_spent false false e = let z : ◌≡◌ {A = ℕ} 0 1 = cc in absurd (omega arith)

left_some : (xs : List Step) → any_left xs ≡ true → xs ≡ [] → ⊥
unfolding any_left
left_some [] e h = true_false_absurd e refl
left_some (x ∷ xs) e h = let z : ◌≡◌ {A = ℕ} 0 1 = cc in omega arith

some_left : (xs : List Step) → (xs ≡ [] → ⊥) → any_left xs ≡ true
unfolding any_left
some_left [] h = absurd (h refl)
some_left (x ∷ xs) h = refl

module _ (M : Machine) (b : ℕ) (x : RunResult) where
  pub ending_silent : (ending M b x ≡ silent) ↔ (is_silent M x.state ≡ true)
  unfolding ending ends_as
  ending_silent = (λ e. ends_silent (is_silent M x.state) (eqb x.taken b && any_left x.unread) e, λ e. rw e)

  pub ending_spent : (ending M b x ≡ spent) ↔ ((is_silent M x.state ≡ false) × (x.taken ≡ b) × (x.unread ≡ [] → ⊥))
  unfolding ending ends_as
  ending_spent = (says, λ h. rw (h.0, eq-eqb x.taken b h.1, some_left x.unread h.2))
    where
      says : ending M b x ≡ spent → (is_silent M x.state ≡ false) × (x.taken ≡ b) × (x.unread ≡ [] → ⊥)
      says e =
          let h = ends_spent (is_silent M x.state) (eqb x.taken b && any_left x.unread) e in (
            h.0,
            eqb-true x.taken b (and_fst (eqb x.taken b) (any_left x.unread) h.1),
            left_some x.unread (and_snd (eqb x.taken b) (any_left x.unread) h.1),
          )

-- A fresh state has an open step.
pub fresh_not_silent : (M : Machine) → 1 ≤ M.carriers → 1 ≤ M.depth → is_silent M fresh ≡ false
unfolding fresh
fresh_not_silent M l d =
    not_true_is_false (is_silent M fresh)
    (λ (e : is_silent M fresh ≡ true). true_false_absurd refl ((shut_idle M fresh d (silent_shut M fresh e)).not_due 0 l))
