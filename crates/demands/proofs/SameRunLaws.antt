-- Machines that differ only in the responses of carriers that are not there have the same complete runs, with the same reports.
use Prim.Native.Nat.{ℕ, zero, suc, ◌≤◌, ◌<◌}
use mathlib.Core.Bool.{Bool, true, false}
use mathlib.Core.List.{List, [], ◌∷◌}
use mathlib.Core.Logic.{⊎_elim}
use mathlib.Core.Path.{◌≡◌, refl, sym, ◌∙◌, ap, ap₂}
use lib.ListN.{length, get_or, get_or-eq_default}
use Rattle.laws.proofs.Tests.{lt_or_le}
use Rattle.route.specs.Route.{Answer, View}
use Rattle.reference.specs.State.{Machine, State, fresh}
use Rattle.reference.specs.Step.{Step, is_open}
use Rattle.reference.specs.Ranking.{ranking, is_silent}
use Rattle.reference.specs.Take.{after_step}
use Rattle.reference.specs.Quiescent.{ceiling}
use Rattle.reference.proofs.RespondLaws.{open_same, after_same}
use Rattle.orders.specs.Trial.{Entry, entry_of}
use Rattle.listing.specs.Runs.{Run, runs_from, runs_of, total, run_at, report_from}
use Rattle.listing.specs.Order.{Complete}
use Rattle.listing.proofs.RunLaws.{begin_same, runs_silent, runs_spent, runs_more}
use Rattle.listing.proofs.Theorems.{theorems as listing-theorems}
use Rattle.demands.proofs.SameTrialLaws.{silent_same, entry_same}

module _ (n d k : ℕ) (φ ψ : ℕ → List View → Answer) (agree : (i : ℕ) (vs : List View) → i < n → length vs ≡ i → φ i vs ≡ ψ i vs) where
  abbrev M : Machine
  M = record { carriers = n; depth = d; needed = k; respond = φ }

  abbrev N : Machine
  N = record { carriers = n; depth = d; needed = k; respond = ψ }

  from_same : (left : ℕ) (s : State) → runs_from M left s ≡ runs_from N left s
  from_same zero s = go (is_silent M s) refl
    where
      go : (x : Bool) → is_silent M s ≡ x → runs_from M 0 s ≡ runs_from N 0 s
      go true e = runs_silent M 0 s e ∙ sym (runs_silent N 0 s (sym (silent_same n d k φ ψ agree s) ∙ e))
      go false e = runs_spent M s e ∙ sym (runs_spent N s (sym (silent_same n d k φ ψ agree s) ∙ e))
  from_same (suc left) s = go (is_silent M s) refl (λ z. from_same left z)
    where
      go : (y : Bool) → is_silent M s ≡ y → ((z : State) → runs_from M left z ≡ runs_from N left z) →
          runs_from M (suc left) s ≡ runs_from N (suc left) s
      go true e rest = runs_silent M (suc left) s e ∙ sym (runs_silent N (suc left) s (sym (silent_same n d k φ ψ agree s) ∙ e))
      go false e rest =
          runs_more M left s e
          ∙ begin_same (is_open M s) (is_open N s) (λ x. runs_from M left (after_step M s x)) (λ x. runs_from N left (after_step N s x))
          (open_same n d k φ ψ agree s)
          (λ x o.
          rest (after_step M s x) ∙ ap (runs_from N left) (after_same n d k φ ψ agree s x (open_same n d k φ ψ agree s x ∙ o)))
          (ranking n)
          ∙ sym (runs_more N left s (sym (silent_same n d k φ ψ agree s) ∙ e))

  pub runs_same : runs_of M ≡ runs_of N
  unfolding runs_of
  runs_same = from_same (ceiling n) fresh

  report_same : (s : State) (xs : Run) → Complete M s xs → report_from M s xs ≡ report_from N s xs
  unfolding Complete report_from
  report_same s [] c = refl
  report_same s (x ∷ xs) c =
      ap₂ (λ (x : Entry) (xs : List Entry). x ∷ xs) (entry_same n d k φ ψ agree s x c.0)
      (report_same (after_step M s x) xs c.1 ∙ ap (λ (z : State). report_from N z xs) (after_same n d k φ ψ agree s x c.0))

  -- A rank that is not below the total has no run.
  no_run : (L : Machine) (rank : ℕ) → total L ≤ rank → run_at L rank ≡ []
  unfolding total run_at
  no_run L rank l = get_or-eq_default (runs_of L) [] {n = rank} l

  at_same : (rank : ℕ) → run_at M rank ≡ run_at N rank
  unfolding run_at
  at_same rank = ap (λ (xs : List Run). get_or xs rank []) runs_same

  nothing : report_from M fresh [] ≡ report_from N fresh []
  unfolding report_from
  nothing = refl

  pub reports_same : (rank : ℕ) → report_from M fresh (run_at M rank) ≡ report_from N fresh (run_at N rank)
  reports_same rank =
      ⊎_elim
      (λ (l : rank < total M).
      report_same fresh (run_at M rank) ((listing-theorems.complete_exactly M (run_at M rank)).1 (rank, l, refl))
      ∙ ap (report_from N fresh) (at_same rank))
      (λ (l : total M ≤ rank).
      ap (report_from M fresh) (no_run M rank l) ∙ nothing ∙ ap (report_from N fresh) (sym (no_run M rank l) ∙ at_same rank))
      (lt_or_le rank (total M))
