-- A call of the reference machine is answered with a refusal exactly where the table refuses it; no row of the table has the number 10.
use Prim.Native.Nat.{ℕ}
use native.Mathlib.Omega.{arith}
use mathlib.Core.List.Memᴰ
use mathlib.Core.List.{List, [], ◌∷◌, Memᴰ}
use mathlib.Core.Logic.{⊎_elim}
use mathlib.Core.Path.{◌≡◌, refl, sym, ◌∙◌}
use Rattle.laws.specs.Verdict.{Verdict, passed, refused, ◌then◌, value, refusal, ◌gives◌, ◌then_answers◌}
use Rattle.laws.proofs.VerdictLaws.{gives_refused, when_refused}
use Rattle.reference.specs.State.{Machine, State}
use Rattle.reference.specs.Ending.{ended}
use Rattle.reference.specs.Table.{step, no_step, Call, single, run_of, lent_enough, open_single, verdict}
use Rattle.reference.specs.Refused.{not_due, nothing_under_way, channel_full}
use Rattle.reference.specs.Refused.{RefusedCall, short_single, short_run, unnamed_single, unnamed_run, waiting}
use Rattle.reference.specs.Calls.{CallAnswer, ran, Reply, reply, after_call, replies}
use Rattle.reference.proofs.Theorems.{theorems}
use Rattle.demands.specs.Rows.{Answers}
use Rattle.demands.proofs.RowLaws.{gives_rows}

-- A value that is given has passed the checks, a refusal is theirs.
gives_value : (x : Verdict) (y y' : CallAnswer) → ◌≡◌ {A = Reply} (x gives y) (value y') → x ≡ passed
unfolding ◌gives◌
gives_value passed y y' e = refl
gives_value (refused k p) y y' e = absurd (let z : ◌≡◌ {A = ℕ} 0 1 = cc in omega arith)

gives_refusal : (x : Verdict) (y : CallAnswer) (k p : ℕ) → ◌≡◌ {A = Reply} (x gives y) (refusal k p) → x ≡ refused k p
unfolding ◌gives◌
gives_refusal passed y k p e = absurd (let z : ◌≡◌ {A = ℕ} 0 1 = cc in omega arith)
gives_refusal (refused k' p') y k p e = let k-same : k' ≡ k = cc in let p-same : p' ≡ p = cc in rw (k-same, p-same)

-- A refusal after the checks is one more check that refuses.
answers_gives : (x : Verdict) (k p : ℕ) (y : CallAnswer) → ◌≡◌ {A = Reply} (x then_answers refusal k p) ((x then refused k p) gives y)
unfolding ◌gives◌ ◌then◌ ◌then_answers◌
answers_gives passed k p y = refl
answers_gives (refused k' p') k p y = refl

module _ (M : Machine) (s : State) where
  -- The answer to a call is given by its verdict.
  reply_gives : (y : Call) → (z : CallAnswer) × (reply M s y ≡ (verdict M s y gives z))
  unfolding reply verdict open_single
  reply_gives (single lent (step x)) = (_, refl)
  reply_gives (single lent no_step) = (ran 0 ended, answers_gives (lent_enough M lent) 7 0 (ran 0 ended))
  reply_gives (run_of lent xs b) = (_, refl)

  -- A refused call has that refusal as its answer and changes nothing; a call with another answer has passed.
  pub reply_refused : (x : Call) (k p : ℕ) → verdict M s x ≡ refused k p → reply M s x ≡ refusal k p
  reply_refused x k p e = let g = reply_gives x in g.1 ∙ gives_refused g.0 e

  pub reply_value : (x : Call) (told : CallAnswer) → reply M s x ≡ value told → verdict M s x ≡ passed
  reply_value x told e = let g = reply_gives x in gives_value (verdict M s x) g.0 told (sym g.1 ∙ e)

  -- The answer to a call is refused exactly under the rows of the table.
  pub reply_rows : (x : Call) → Answers (reply M s x) (RefusedCall M s x)
  reply_rows x =
      let g = reply_gives x in
      rw g.1 (gives_rows (verdict M s x) g.0 (theorems.calls.refuses_exactly M s x))

  pub state_kept : (x : Call) (k p : ℕ) → verdict M s x ≡ refused k p → after_call M s x ≡ s
  unfolding after_call
  state_kept x k p e = when_refused _ e

  -- No row of the table has the number 10.
  no_row_ten : {x : Call} {k p : ℕ} → RefusedCall M s x k p → k ≡ 10 → ⊥
  no_row_ten (short_single h) e = omega arith
  no_row_ten (short_run h) e = omega arith
  no_row_ten (unnamed_single h q) e = omega arith
  no_row_ten (unnamed_run h q) e = omega arith
  no_row_ten (waiting h q (not_due d)) e = omega arith
  no_row_ten (waiting h q (nothing_under_way d)) e = omega arith
  no_row_ten (waiting h q (channel_full d r)) e = omega arith

  reply_not_ten : (x : Call) (p : ℕ) → reply M s x ≡ refusal 10 p → ⊥
  reply_not_ten x p e =
      let g = reply_gives x in
      let refuses = gives_refusal (verdict M s x) g.0 10 p (sym g.1 ∙ e) in
      no_row_ten ((theorems.calls.refuses_exactly M s x 10 p).0 refuses) refl

pub replies_not_ten : (M : Machine) (s : State) (xs : List Call) (p : ℕ) → Memᴰ (refusal 10 p) (replies M s xs) → ⊥
unfolding replies
replies_not_ten M s [] p h = Memᴰ.not-nil h
replies_not_ten M s (x ∷ xs) p h =
    ⊎_elim
    (λ (e : refusal 10 p ≡ reply M s x). reply_not_ten M s x p (sym e))
    (λ (t : Memᴰ (refusal 10 p) (replies M (after_call M s x) xs)). replies_not_ten M (after_call M s x) xs p t)
    (Memᴰ.cases_cons h)
