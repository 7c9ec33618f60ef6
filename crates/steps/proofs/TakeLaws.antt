-- Taking an open step: what the stores come to.
use Prim.Native.Nat.{ℕ, ◌+◌, ◌*◌}
use native.Mathlib.Omega.{arith}
use mathlib.Core.Bool.{Bool, cond}
use mathlib.Core.List.{List, [], ◌∷◌}
use mathlib.Core.Path.{◌≡◌, refl, ◌∙◌, ap}
use Rattle.laws.specs.Memory.{put}
use Rattle.floor.specs.declared.Floor.{Floor}
use Rattle.records.specs.Records.{record_of, moved}
use Rattle.reference.specs.State.{Machine}
use Rattle.reference.specs.Step.{Step, plan, deliver}
use Rattle.reference.specs.Take.{sent, kept}
use Rattle.encoding.specs.Places.{due_place, view_place, channel_place}
use Rattle.encoding.specs.Calls.{machine_of}
use Rattle.encoding.specs.InnerSteps.{ticked, popped, delivered_in, news_in, planned_in, best_in, effect_in, after_in, step_answer_in}
use Rattle.steps.specs.declared.Taken.{Taken}
use Rattle.steps.specs.declared.Taken.TheVariants.{Delivered}
use Rattle.steps.specs.Answers.{taken_meant}
use Rattle.steps.specs.Inner.{Did, Took}

-- The plan of carrier i with the record of its best answer: sent if it is news, otherwise kept.
pub plan_did : (f : Floor) (ws m : List ℕ) (i : ℕ) (rec m' : List ℕ) (news : Bool) (x : Taken) →
    rec ≡ record_of (best_in (machine_of f ws) m i) → m' ≡ planned_in f.carriers m i rec → news ≡ news_in m i rec →
    taken_meant x ≡ cond news sent kept → Did (machine_of f ws) m (plan i) x m'
unfolding effect_in step_answer_in machine_of
plan_did f ws m i rec m' news x same stored new answer =
    record {
      answers = answer ∙ rw (new, same) refl;
      stores = stored ∙ ap (planned_in f.carriers m i) same;
    }

pub delivery_stored : (n j i x channel p : ℕ) (m m₁ m₂ m₃ : List ℕ) → p ≡ channel + 1 + 65 * 0 → x ≡ view_place n i j →
    channel ≡ channel_place n i j →
    m₁ ≡ moved m p x → m₂ ≡ popped m₁ channel → m₃ ≡ put m₂ (due_place i) (1 ∷ []) → m₃ ≡ delivered_in n m j i
unfolding delivered_in
delivery_stored n j i x channel p m m₁ m₂ m₃ first a b e g d =
    let oldest : p ≡ channel + 1 = omega arith in
    d ∙ rw (g, e, oldest, a, b) refl

pub delivery_did : (f : Floor) (ws m : List ℕ) (j i : ℕ) (m' : List ℕ) → m' ≡ delivered_in f.carriers m j i →
    Did (machine_of f ws) m (deliver j i) Delivered m'
unfolding step_answer_in effect_in taken_meant machine_of
delivery_did f ws m j i m' e = record { answers = refl; stores = e }

-- A step that did its work and is counted is taken.
pub counted_took : {M : Machine} {x : Step} {y : Taken} (m m₁ m₂ : List ℕ) → Did M m x y m₁ → m₂ ≡ ticked m₁ → Took M m x y m₂
unfolding after_in
counted_took m m₁ m₂ d e = record { answers = d.answers; stores = e ∙ ap ticked d.stores }
