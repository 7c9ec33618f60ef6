-- A plan in memory is a plan: the views that it reads, whether its answer is news, what it stores and sends.
use Prim.Native.Nat.{ℕ, ◌<◌}
use mathlib.Core.Bool.{true, false}
use mathlib.Core.List.{List, ◌∷◌, ◌++◌}
use mathlib.Core.Logic.{⊎_elim}
use mathlib.Core.Path.{◌≡◌, refl, sym, ◌∙◌, ap}
use lib.ListN.{length}
use Rattle.laws.specs.Memory.{put}
use Rattle.route.specs.Route.{Answer, none, route, heard}
use Rattle.laws.proofs.Tests.{true_or_false}
use Rattle.records.specs.Records.{record_of, slot, record_at}
use Rattle.records.proofs.RecordLaws.{Whole}
use Rattle.reference.specs.Ranges.{update}
use Rattle.reference.specs.State.{State, views}
use Rattle.reference.specs.Step.{same_cells, same_answer}
use Rattle.reference.specs.Take.{is_news, send, plan_as}
use Rattle.reference.specs.Bounds.{ShownOf}
use Rattle.reference.proofs.RangeLaws.{below_same, update_same, update_other}
use Rattle.encoding.specs.Places.{planned_place, view_place}
use Rattle.encoding.specs.Encode.{flag, carrier_block, encode}
use Rattle.encoding.specs.InnerSteps.{news_in, planned_in, views_in}
use Rattle.encoding.proofs.WindowLaws.{window_put}
use Rattle.encoding.proofs.SplitLaws.{carrier_length}
use Rattle.records.proofs.SlotLaws.{resized_whole}
use Rattle.encoding.proofs.StateLaws.{with_carriers, with_chans, carrier_window}
use Rattle.encoding.proofs.ReadLaws.{read_planned, read_answer, read_view}
use Rattle.encoding.proofs.RecordLaws.{record_shows}
use Rattle.encoding.proofs.OpenLaws.{flag_set}
use Rattle.encoding.proofs.SendLaws.{sent_same}

-- The record of a whole answer as it lies in memory.
pub slot_record : (x : Answer) → Whole x → slot (heard x) ≡ record_of x
unfolding slot
slot_record x w = resized_whole 65 (record_of x) w

-- Two whole answers are the same where their records are.
records_same : (x y : Answer) → same_cells (record_of x) (record_of y) ≡ same_answer x y
unfolding same_cells same_answer record_of
records_same none none = refl
records_same none (route r) = refl
records_same (route q) none = refl
records_same (route q) (route r) = refl

module _ (n : ℕ) (s : State) (rest : List ℕ) where
  -- The views of carrier i.
  pub views_same : (i : ℕ) → i < n → ((j : ℕ) → j < i → ShownOf Whole (s.view i j)) → views_in n (encode n s ++ rest) i ≡ views s i
  unfolding views_in views
  views_same i l w =
      below_same i (λ j. record_at (encode n s ++ rest) (view_place n i j)) (s.view i)
      (λ j h. record_shows (encode n s ++ rest) (view_place n i j) (s.view i j) (read_view n s rest i j h l) (w j h))

  -- A record is news where its answer is.
  pub news_same : (i : ℕ) (x : Answer) → i < n → Whole (s.answer i) → news_in (encode n s ++ rest) i (record_of x) ≡ is_news s i x
  unfolding news_in is_news
  news_same i x l w =
      rw (
        read_planned n s rest i l,
        flag_set (s.planned i),
        read_answer n s rest i l,
        slot_record (s.answer i) w,
        records_same (s.answer i) x,
      )

  -- Carrier i has planned, is no longer due, and has this answer.
  pub put_planned : (i : ℕ) (z : Answer) → i < n → Whole z →
      put (encode n s ++ rest) (planned_place i) (1 ∷ (0 ∷ record_of z)) ≡
      encode n (with_carriers s (update s.planned i true) (update s.due i false) (update s.answer i z)) ++ rest
  unfolding flag carrier_block with_carriers
  put_planned i z l w =
      let φ = update s.planned i true in
      let ψ = update s.due i false in
      let χ = update s.answer i z in
      let block : carrier_block (with_carriers s φ ψ χ) i ≡ 1 ∷ (0 ∷ record_of z) =
      rw (update_same s.planned i true, update_same s.due i false, update_same s.answer i z, slot_record z w)
      in
      rw (← block)
      (window_put (carrier_length s i ∙ sym (carrier_length (with_carriers s φ ψ χ) i))
      (carrier_window n s rest φ ψ χ i l
      (λ k x y. (
        sym (update_other s.planned i true k y),
        sym (update_other s.due i false k y),
        sym (update_other s.answer i z k y),
      ))))

-- The changes of a plan, one after the other.
module _ (n : ℕ) (s : State) (rest : List ℕ) (i : ℕ) (x : Answer) where
  -- The state with the answer stored, and the channels as given.
  planned_state : (ℕ → ℕ → List Answer) → State
  planned_state φ = with_chans (with_carriers s (update s.planned i true) (update s.due i false) (update s.answer i x)) φ

  news_state : is_news s i x ≡ true → planned_state (send s.chan i x) ≡ plan_as s i x
  unfolding planned_state plan_as with_carriers with_chans
  news_state e = rw (e, plan_as)

  kept_state : is_news s i x ≡ false → planned_state s.chan ≡ plan_as s i x
  unfolding planned_state plan_as with_carriers with_chans
  kept_state e = rw (e, plan_as)

  pub planned_same : i < n → Whole x → Whole (s.answer i) → ((k : ℕ) → i < k → k < n → length (s.chan k i) < 4) →
      planned_in n (encode n s ++ rest) i (record_of x) ≡ encode n (plan_as s i x) ++ rest
  unfolding planned_in planned_state with_carriers with_chans
  planned_same l w v capacity =
      let s₁ = with_carriers s (update s.planned i true) (update s.due i false) (update s.answer i x) in
      ⊎_elim
      (λ (e : is_news s i x ≡ true).
      rw (news_same n s rest i x l v, put_planned n s rest i x l w, e, sent_same n s₁ rest i x w capacity)
      (ap (λ (z : State). encode n z ++ rest) (news_state e)))
      (λ (e : is_news s i x ≡ false).
      rw (news_same n s rest i x l v, put_planned n s rest i x l w, e)
      (ap (λ (z : State). encode n z ++ rest) (kept_state e)))
      (true_or_false (is_news s i x))
