-- The table of refusals says of a call exactly what its rows say; a step is open exactly if no row says what it waits for.
use Prim.Native.Nat.{ℕ, ◌+◌, ◌≤◌, ◌<◌}
use native.Mathlib.Nat.{zero-add}
use mathlib.Core.Bool.{true, false, not}
use mathlib.Core.List.{List}
use mathlib.Core.Logic.{◌↔◌}
use mathlib.Core.Path.{◌≡◌, refl, ap, sym, ◌∙◌}
use lib.ListN.{length}
use borrow.Author.Tests.{leb-false, not-false}
use Rattle.laws.specs.Verdict.{Verdict, passed, refused, demand}
use Rattle.laws.proofs.VerdictLaws.{refused_same, refused_by, then_passed, then_refused, demand_cases, demand_passes, demand_refuses}
use Rattle.laws.proofs.VerdictLaws.{demand_holds, refused_not_passed}
use Rattle.laws.proofs.EachLaws.{each_refused, first_refuses}
use Rattle.reference.specs.State.{Machine, State}
use Rattle.reference.specs.Step.{Step, plan, deliver, is_there, is_empty, waits_for, is_open}
use Rattle.reference.specs.Table.{Asked, step, no_step, is_named, Call, single, run_of, lent_enough, all_named, open_single, verdict}
use Rattle.reference.specs.Refused.{Waits, not_due, nothing_under_way, channel_full}
use Rattle.reference.specs.Refused.{RefusedCall, short_single, short_run, unnamed_single, unnamed_run, waiting}
use Rattle.reference.proofs.OpenLaws.{empty_nil, nil_empty, open_there, open_ready, ready_open, capacity_means}
use Rattle.reference.proofs.TableLaws.{enough_lent, lent_enough_lem, short_lent, named_means}

-- A check that refuses with no number passes.
never_refuses : (x : Verdict) → ((k p : ℕ) → x ≡ refused k p → ⊥) → x ≡ passed
never_refuses passed h = refl
never_refuses (refused k p) h = absurd (h k p refl)

module _ (M : Machine) (s : State) where
  -- A step waits for exactly what the rows say.
  row_waits : {x : Step} {k p : ℕ} → Waits M s x k p → waits_for M s x ≡ refused k p
  unfolding waits_for
  row_waits (not_due h) = then_refused _ (demand_refuses 8 0 h)
  row_waits (nothing_under_way {j} {i} h) = demand_refuses 12 (1 + i) (ap not (nil_empty (s.chan i j) h))
  row_waits (channel_full {i} {k} h f) =
      then_passed (demand_passes 8 0 h) ∙ first_refuses 13 1 _ _ (capacity_means M s i) M.carriers k f

  waits_row : (x : Step) (k p : ℕ) → waits_for M s x ≡ refused k p → Waits M s x k p
  unfolding waits_for
  waits_row (plan i) k p e =
      refused_by e
      (λ h. let d = demand_cases (s.due i) 8 0 k p h in rw (d.1, d.2) (not_due d.0))
      (λ h g.
      each_refused 13 1 _ _ (capacity_means M s i) (Waits M s (plan i)) M.carriers k p g
      (λ i' f. channel_full (demand_holds (s.due i) 8 0 h) f))
  waits_row (deliver j i) k p e =
      let d = demand_cases (not (is_empty (s.chan i j))) 12 (1 + i) k p e in
      rw (d.1, d.2) (nothing_under_way (empty_nil (s.chan i j) (not-false (is_empty (s.chan i j)) d.0)))

  pub waits_exactly : (x : Step) (k p : ℕ) → (waits_for M s x ≡ refused k p) ↔ Waits M s x k p
  waits_exactly x k p = (waits_row x k p, λ w. row_waits w)

  pub open_exactly : (x : Step) → (is_open M s x ≡ true) ↔ ((is_there M x ≡ true) × ((k p : ℕ) → Waits M s x k p → ⊥))
  open_exactly x = (
    λ o. (open_there M s x o, λ k p w. refused_not_passed (sym (row_waits w) ∙ open_ready M s x o)),
    λ h. ready_open M s x h.0 (never_refuses (waits_for M s x) (λ k p e. h.1 k p (waits_row x k p e))),
  )

  -- Each row refuses.
  unnamed : (y : Asked) → is_named M y ≡ false → open_single M s y ≡ refused 7 0
  unfolding open_single is_named
  unnamed (step x) h = then_refused (waits_for M s x) (demand_refuses 7 0 h)
  unnamed no_step h = refl

  row_refuses : {x : Call} {k p : ℕ} → RefusedCall M s x k p → verdict M s x ≡ refused k p
  unfolding verdict open_single all_named
  row_refuses (short_single {lent} l) = then_refused _ (short_lent M lent l)
  row_refuses (short_run {lent} l) = then_refused _ (short_lent M lent l)
  row_refuses (unnamed_single {lent} {x} l h) = then_passed (enough_lent M lent l) ∙ unnamed x h
  row_refuses (unnamed_run {lent} {xs} {b} {p} l f) =
      then_passed (enough_lent M lent l) ∙ first_refuses 7 0 _ _ (named_means M xs) (length xs) p f ∙ ap (refused 7) (zero-add p)
  row_refuses (waiting {lent} l h w) =
      then_passed (enough_lent M lent l) ∙ then_passed (demand_passes 7 0 h) ∙ row_waits w

  -- Nothing else refuses.
  lent_row : (lent k p : ℕ) → lent_enough M lent ≡ refused k p → (lent < M.needed) × (k ≡ 9) × (p ≡ 0)
  unfolding lent_enough
  lent_row lent k p e = let d = demand_cases _ 9 0 k p e in (leb-false M.needed lent d.0, d.1, d.2)

  single_row : (lent : ℕ) (y : Asked) (k p : ℕ) → M.needed ≤ lent → open_single M s y ≡ refused k p → RefusedCall M s (single lent y) k p
  unfolding open_single is_named
  single_row lent no_step k p l e = let q = refused_same e in rw (← q.0, ← q.1) (unnamed_single l refl)
  single_row lent (step x) k p l e =
      refused_by e absent (λ h g. waiting l (demand_holds (is_there M x) 7 0 h) (waits_row x k p g))
    where
      absent : demand (is_there M x) 7 0 ≡ refused k p → RefusedCall M s (single lent (step x)) k p
      absent h = let d = demand_cases (is_there M x) 7 0 k p h in rw (d.1, d.2) (unnamed_single l d.0)

  run_row : (lent : ℕ) (xs : List Asked) (b k p : ℕ) → M.needed ≤ lent → all_named M xs ≡ refused k p
      → RefusedCall M s (run_of lent xs b) k p
  unfolding all_named
  run_row lent xs b k p l e =
      each_refused 7 0 _ _ (named_means M xs) (RefusedCall M s (run_of lent xs b)) (length xs) k p e
      (λ i f. rw zero-add (unnamed_run l f))

  refused_row : (x : Call) (k p : ℕ) → verdict M s x ≡ refused k p → RefusedCall M s x k p
  unfolding verdict
  refused_row (single lent x) k p e =
      refused_by e
      (λ h. let r = lent_row lent k p h in rw (r.1, r.2) (short_single r.0))
      (λ h g. single_row lent x k p (lent_enough_lem M lent h) g)
  refused_row (run_of lent xs b) k p e =
      refused_by e
      (λ h. let r = lent_row lent k p h in rw (r.1, r.2) (short_run r.0))
      (λ h g. run_row lent xs b k p (lent_enough_lem M lent h) g)

  pub refuses_exactly : (x : Call) (k p : ℕ) → (verdict M s x ≡ refused k p) ↔ RefusedCall M s x k p
  refuses_exactly x k p = (refused_row x k p, λ r. row_refuses r)
