-- What the entries come to on a checked state: a refusal, a step taken, a run.
use Prim.Native.Nat.{ℕ}
use mathlib.Core.List.{List, map}
use mathlib.Core.Path.{◌≡◌, sym, ◌∙◌, ap}
use lib.ListN.{length}
use Rattle.laws.specs.Verdict.{Outcome, passed, refused, value, refusal}
use Rattle.laws.proofs.VerdictLaws.{then_passed, gives_passed, gives_refused, when_passed_lem, when_refused}
use Rattle.laws.proofs.VerdictLaws.{answers_passed, answers_refused}
use Rattle.floor.specs.declared.Floor.{Floor}
use Rattle.reference.specs.Step.{Step}
use Rattle.reference.specs.Take.{StepAnswer}
use Rattle.reference.specs.Table.{step, no_step, lent_enough, all_named, Call}
use Rattle.reference.specs.Calls.{CallAnswer, stepped, ran}
use Rattle.reference.proofs.TableLaws.{enough_lent}
use Rattle.encoding.specs.Numbers.{asked_by}
use Rattle.encoding.specs.Calls.{machine_of, state_verdict, reply_to, memory_after, single_call, run_call}
use Rattle.encoding.proofs.SimulationLaws.{reply_in_lem, memory_in_lem}
use Rattle.encoding.specs.InnerSteps.{silent_in, after_in, step_answer_in}
use Rattle.encoding.specs.InnerRuns.{run_in}
use Rattle.encoding.specs.InnerCalls.{single_verdict_in, verdict_in, reply_in, granted_memory, memory_in}
use Rattle.steps.specs.declared.Taken.{Taken}
use Rattle.steps.specs.Answers.{taken_meant}
use Rattle.steps.specs.Inner.{bare, Took}
use Rattle.steps.proofs.OpenLaws.{single_of, silent_of}
use Rattle.machine.specs.Inner.{Tallied, ends_with}
use Rattle.machine.proofs.VerdictLaws.{state_tells}
use Rattle.machine.proofs.RunLaws.{ran_is}

-- An entry on a lent state: what passes its checks goes on number by number, and a refusal leaves all as it was.
module _ (f : Floor) (ws m : List ℕ) (x : Call) where
  pub entry_made : {y : Outcome CallAnswer} (m' : List ℕ) → state_verdict f ws m ≡ passed → y ≡ reply_in (machine_of f ws) m x →
      m' ≡ memory_in (machine_of f ws) m x → (y ≡ reply_to f ws m x) × (m' ≡ memory_after f ws m x)
  entry_made m' ok answers stores = (
    answers ∙ sym (answers_passed ok) ∙ reply_in_lem f ws m x,
    stores ∙ sym (when_passed_lem m ok) ∙ memory_in_lem f ws m x,
  )

  pub entry_refused : (k p : ℕ) → state_verdict f ws m ≡ refused k p →
      (◌≡◌ {A = Outcome CallAnswer} (refusal k p) (reply_to f ws m x)) × (m ≡ memory_after f ws m x)
  unfolding reply_to memory_after
  entry_refused k p h = (sym (answers_refused _ h), sym (when_refused _ h))

module _ (f : Floor) (ws m : List ℕ) (sound : state_verdict f ws m ≡ passed) where
  lent : lent_enough (machine_of f ws) (length m) ≡ passed
  unfolding machine_of
  lent = enough_lent (machine_of f ws) (length m) (state_tells f ws m sound).enough

  -- A single step that names no kind of step.
  pub step_unnamed : (x : ℕ) → no_step ≡ asked_by x →
      (◌≡◌ {A = Outcome CallAnswer} (refusal 7 0) (reply_in (machine_of f ws) m (single_call m x))) ×
      (m ≡ memory_in (machine_of f ws) m (single_call m x))
  unfolding single_call reply_in memory_in granted_memory verdict_in single_verdict_in
  step_unnamed x e = (
    rw (← e) (sym (answers_passed lent)),
    rw (← e) (sym (when_refused m (then_passed lent))),
  )

  module _ (x : ℕ) (y : Step) (e : step y ≡ asked_by x) where
    -- A single step that is refused.
    pub step_refused : (k p : ℕ) → single_verdict_in (bare f) m (step y) ≡ refused k p →
        (◌≡◌ {A = Outcome CallAnswer} (refusal k p) (reply_in (machine_of f ws) m (single_call m x))) ×
        (m ≡ memory_in (machine_of f ws) m (single_call m x))
    unfolding single_call reply_in memory_in granted_memory verdict_in
    step_refused k p h =
        let v = then_passed lent ∙ sym (single_of f ws m (step y)) ∙ h in (
          rw (← e) (sym (gives_refused (stepped (step_answer_in (machine_of f ws) m y)) v)),
          rw (← e) (sym (when_refused (after_in (machine_of f ws) m y) v)),
        )

    -- A single step that is taken.
    pub step_taken : (z : Taken) (m' : List ℕ) → single_verdict_in (bare f) m (step y) ≡ passed → Took (machine_of f ws) m y z m' →
        (◌≡◌ {A = Outcome CallAnswer} (value (stepped (taken_meant z))) (reply_in (machine_of f ws) m (single_call m x))) ×
        (m' ≡ memory_in (machine_of f ws) m (single_call m x))
    unfolding single_call reply_in memory_in granted_memory verdict_in
    step_taken z m' h t =
        let v = then_passed lent ∙ sym (single_of f ws m (step y)) ∙ h in (
          ap (λ (x : StepAnswer). value (stepped x)) t.answers ∙ rw (← e) (sym (gives_passed v)),
          t.stores ∙ rw (← e) (sym (when_passed_lem m v)),
        )

  module _ (xs : List ℕ) (b : ℕ) where
    -- A run that is refused.
    pub run_refused : {k p : ℕ} → refused k p ≡ all_named (machine_of f ws) (map asked_by xs) →
        (◌≡◌ {A = Outcome CallAnswer} (refusal k p) (reply_in (machine_of f ws) m (run_call m xs b))) ×
        (m ≡ memory_in (machine_of f ws) m (run_call m xs b))
    unfolding run_call reply_in memory_in granted_memory verdict_in
    run_refused h =
        let v = then_passed lent ∙ sym h in (
          sym (gives_refused _ v),
          sym (when_refused _ v),
        )

    -- A run that is made, from what its loop has come to.
    pub run_taken : (taken read : ℕ) (m' : List ℕ) → passed ≡ all_named (machine_of f ws) (map asked_by xs) →
        Tallied (run_in (machine_of f ws) m (map asked_by xs) b) b (length xs) taken read m' →
        (◌≡◌ {A = Outcome CallAnswer} (value (ran taken (ends_with (silent_in (bare f) m') taken b read (length xs))))
        (reply_in (machine_of f ws) m (run_call m xs b))) ×
        (m' ≡ memory_in (machine_of f ws) m (run_call m xs b))
    unfolding run_call reply_in memory_in granted_memory verdict_in
    run_taken taken read m' h t =
        let v = then_passed lent ∙ sym h in
        let M = machine_of f ws in (
          rw (silent_of f ws m')
              (ap value (ran_is M (run_in M m (map asked_by xs) b) b (length xs) taken read m' t) ∙ sym (gives_passed v)),
          t.memory ∙ sym (when_passed_lem m v),
        )
