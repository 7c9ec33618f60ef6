-- The entry's memory and answers: numbers written in front, the plan in memory of its own, the tag of the carrier's answer, the refusals.
use Prim.Native.Nat.{ℕ, zero, suc, ◌+◌, ◌*◌, ◌-◌, ◌≤◌, ◌<◌}
use native.Mathlib.Omega.{arith}
use native.Mathlib.Nat.{add-zero, sub-zero}
use mathlib.Core.Bool.{true, false}
use mathlib.Core.List.{List, [], ◌∷◌, ◌++◌, map}
use mathlib.Core.Path.{◌≡◌, refl, sym, ◌∙◌, ap, fun_ext}
use borrow.Author.Tests.{le-leb}
use lib.ListN.{length, get_or, set, take, drop, replicate, length-replicate, length-map, take-append-drop}
use lib.Seq.{ext_get_or, length-take-le}
use Rattle.laws.specs.Memory.{put, part}
use Rattle.laws.specs.Verdict.{passed, refused, value, refusal, demand}
use Rattle.laws.proofs.PutLaws.{put_length, put_front}
use Rattle.laws.proofs.PartLaws.{part_byte}
use Rattle.laws.proofs.VerdictLaws.{then_passed, then_refused, then_both, demand_holds, demand_passes, demand_refuses}
use Rattle.laws.proofs.VerdictLaws.{gives_passed, gives_refused, when_passed_lem, when_refused}
use Rattle.floor.specs.declared.Floor.{Floor}
use Rattle.floor.specs.Checks.{check_of, long_enough}
use Rattle.floor.specs.Accepted.{Within}
use Rattle.floor.proofs.LimitsLaws.{Bounds, check_tells, length_passed, within_means}
use Rattle.floor.proofs.Theorems.{theorems as floor-theorems}
use Rattle.route.specs.Route.{Answer, none, route, View, unheard, heard}
use Rattle.records.specs.Records.{view_at, records, record_of, records_of, stored}
use Rattle.records.specs.Seen.{seen}
use Rattle.records.proofs.RecordLaws.{Whole, record_view}
use Rattle.records.proofs.SeenLaws.{records_length, records_view}
use Rattle.search.specs.Rows.{FreeRows, Searchable}
use Rattle.search.proofs.RequestLaws.{accepted_searchable}
use Rattle.planner.specs.Plan.{respond_of, respond_with, plan_of, plan_verdict}
use Rattle.planner.specs.Records.{plan_memory}
use Rattle.planner.specs.Claims.{answer_at}
use Rattle.planner.proofs.FailingLaws.{AllWhole}
use Rattle.planner.proofs.ResultLaws.{plan_all_whole, plan_size}
use Rattle.planner.proofs.StoredLaws.{record_stored}
use Rattle.planner.proofs.StrandedLaws.{told_answer}
use Rattle.planner.proofs.Theorems.{theorems as planner-theorems}
use Rattle.blockers.specs.Blockers.{left_after, set_of, answers_above, blockers_of}
use Rattle.blockers.specs.Inner.{PlanIn}
use Rattle.blockers.specs.Entry.{is_none, carrier_verdict, blockers_verdict, blockers_outcome, blockers_memory}

-- Record j of a memory with a plan in front is the view of answer j.
whole_at : (xs : List Answer) (j : ℕ) → AllWhole xs → j < length xs → Whole (answer_at xs j)
unfolding answer_at
whole_at [] j a l = absurd (omega arith)
whole_at (x ∷ xs) zero a l = a.0
whole_at (x ∷ xs) (suc j) a l = whole_at xs j a.1 (omega arith)

stored_view : (xs : List Answer) (m old : List ℕ) (j : ℕ) → AllWhole xs → j < length xs → 65 * j ≤ length m → m ≡ stored xs old →
    view_at m j ≡ heard (answer_at xs j)
stored_view xs m old j a l h e =
    let at = 65 * j in
    let block : take 65 (drop at m) ≡ record_of (answer_at xs j) =
    ap (λ (xs : List ℕ). take 65 (drop at xs)) e ∙ record_stored xs old j a l in
    let apart : m ≡ take at m ++ (record_of (answer_at xs j) ++ drop 65 (drop at m)) =
    sym (take-append-drop at m)
    ∙ ap (λ (xs : List ℕ). take at m ++ xs) (sym (take-append-drop 65 (drop at m)))
    ∙ ap (λ (xs : List ℕ). take at m ++ (xs ++ drop 65 (drop at m))) block
    in
    ap (λ (xs : List ℕ). view_at xs j) apart
    ∙ record_view (take at m) (drop 65 (drop at m)) (answer_at xs j) j (length-take-le at m h) (whole_at xs j a l)

stored_tag : (xs : List Answer) (m old : List ℕ) (j : ℕ) → AllWhole xs → j < length xs → m ≡ stored xs old →
    get_or m (65 * j) 0 ≡ get_or (record_of (answer_at xs j)) 0 0
unfolding part
stored_tag xs m old j a l e =
    rw add-zero at (sym (part_byte m (65 * j) 65 0 (omega arith)))
    ∙ ap (λ (xs : List ℕ). get_or (take 65 (drop (65 * j) xs)) 0 0) e
    ∙ ap (λ (xs : List ℕ). get_or xs 0 0) (record_stored xs old j a l)

-- The tag tells whether the answer is none.
by_tag : (x : Answer) (tag : ℕ) → tag ≡ get_or (record_of x) 0 0 → (tag ≡ 2 → is_none x ≡ false) × ((tag ≡ 2 → ⊥) → is_none x ≡ true)
unfolding record_of is_none
by_tag none tag e = (λ h. absurd (omega arith), λ h. refl)
by_tag (route r) tag e = (λ h. refl, λ h. absurd (h e))

-- The plan of a checked floor in memory of the entry's own.
module _ (f : Floor) (ws : List ℕ) (ok : check_of f ws ≡ passed) where
  bounds : Bounds f
  bounds = (check_tells f ws ok).bounds

  size : length (records_of (plan_of f ws)) ≡ 65 * f.carriers
  size = plan_size f ws bounds.horizon.1

  whole : AllWhole (plan_of f ws)
  whole = plan_all_whole f ws bounds.horizon.1

  zeros : length {A = ℕ} (replicate 520 0) ≡ 520
  zeros = length-replicate {A = ℕ} 520 0

  pub own_plan : (old m : List ℕ) → old ≡ replicate 520 0 → m ≡ plan_memory f ws old → PlanIn f ws m
  unfolding plan_memory plan_verdict long_enough stored
  own_plan old m e g =
      let long : length old ≡ 520 = ap length e ∙ zeros in
      let enough : 65 * f.carriers ≤ length old = omega (arith, bounds.carriers.1) in
      let passes : plan_verdict f ws (length old) ≡ passed =
      then_passed ok ∙ demand_passes 9 0 (le-leb (65 * f.carriers) (length old) enough) in
      let made : m ≡ stored (plan_of f ws) old = g ∙ when_passed_lem old passes in
      record {
        long = ap length made ∙ put_length old (records_of (plan_of f ws)) 0 (omega (arith, size)) ∙ long;
        stores = made ∙ ap (stored (plan_of f ws)) e;
      }

  module _ {m : List ℕ} (own : PlanIn f ws m) where
    e : m ≡ stored (plan_of f ws) (replicate 520 0)
    e = own.stores

    -- Its front is the plan, and so is any memory with that front written.
    pub own_front : (answers answers' : List ℕ) → answers' ≡ put answers 0 (take (65 * f.carriers - 0) m) →
        answers' ≡ stored (plan_of f ws) answers
    unfolding stored
    own_front answers answers' g =
        g
        ∙ ap (λ (n : ℕ). put answers 0 (take n m)) (sub-zero (65 * f.carriers))
        ∙ ap (put answers 0)
        (put_front (replicate 520 0) m (records_of (plan_of f ws)) (65 * f.carriers) e (sym size)
        (omega (arith, size, zeros, bounds.carriers.1))).1

    module _ {i : ℕ} (l : i < f.carriers) where
      low : i < length (plan_of f ws)
      low = omega (arith, planner-theorems.answers_all f ws)

      pub has_route : get_or m (65 * i) 0 ≡ 2 → is_none (answer_at (plan_of f ws) i) ≡ false
      has_route = (by_tag (answer_at (plan_of f ws) i) (get_or m (65 * i) 0) (stored_tag (plan_of f ws) m (replicate 520 0) i whole low e)).0

      pub has_none : (get_or m (65 * i) 0 ≡ 2 → ⊥) → is_none (answer_at (plan_of f ws) i) ≡ true
      has_none = (by_tag (answer_at (plan_of f ws) i) (get_or m (65 * i) 0) (stored_tag (plan_of f ws) m (replicate 520 0) i whole low e)).1

      -- The first records are the views of the answers above.
      own_views : records m i ≡ map heard (answers_above f ws i)
      unfolding answers_above
      own_views =
          let many : length (map heard (take i (plan_of f ws))) ≡ i =
          length-map (take i (plan_of f ws)) heard ∙ length-take-le i (plan_of f ws) (omega (arith, low)) in
          ext_get_or unheard (records m i) (map heard (take i (plan_of f ws))) (records_length m i ∙ sym many)
          (λ j b. go j (omega (arith, records_length m i)))
        where
          go : (j : ℕ) → j < i → get_or (records m i) j unheard ≡ get_or (map heard (take i (plan_of f ws))) j unheard
          go j h =
              records_view m i j h
              ∙ stored_view (plan_of f ws) m (replicate 520 0) j whole (omega (arith, low))
              (omega (arith, bounds.carriers.1, l, own.long)) e
              ∙ sym (told_answer (plan_of f ws) j i h (omega (arith, low)))

      -- What the procedure leaves of them is the set.
      pub own_set : (k : ℕ) → k ≡ set_of (left_after (respond_of f ws i) i (records m i)) → k ≡ blockers_of f ws i
      unfolding blockers_of
      own_set k g = g ∙ ap (λ (vs : List View). set_of (left_after (respond_of f ws i) i vs)) own_views

  -- A carrier of it can be searched for.
  pub own_searchable : (rows m : List ℕ) (i : ℕ) → i < f.carriers → 65 * i ≤ length m → FreeRows f ws rows → Searchable f rows (i + 1) m
  own_searchable rows m i l h r =
      accepted_searchable f ws (i + 1) m rows ((floor-theorems.passes_exactly f ws).0 ok) (omega arith, omega arith) (omega arith) r

  -- The procedure with the floor's free rows is that with its walls.
  pub rows_left : (rows : List ℕ) (i : ℕ) (vs : List View) → FreeRows f ws rows →
      left_after (respond_with f rows i) i vs ≡ left_after (respond_of f ws i) i vs
  unfolding respond_with respond_of
  rows_left rows i vs r =
      ap (λ (respond : List View → Answer). left_after respond i vs) (fun_ext (λ us. r.same (i + 1) (seen f us)))

-- What it says that the refusals but 16 pass.
pub record CarrierGranted (f : Floor) (ws : List ℕ) (carrier lent : ℕ) : Type 0 where
  pub checked : check_of f ws ≡ passed
  pub enough : 65 * f.carriers ≤ lent
  pub listed : Within 1 f.carriers carrier

pub carrier_granted : (f : Floor) (ws : List ℕ) (carrier lent : ℕ) → carrier_verdict f ws carrier lent ≡ passed →
    CarrierGranted f ws carrier lent
unfolding carrier_verdict plan_verdict
carrier_granted f ws carrier lent h =
    let a = then_both _ _ h in
    let b = then_both _ _ a.0 in
    record {
      checked = b.0;
      enough = length_passed _ _ b.1;
      listed = (within_means 1 f.carriers carrier).0 (demand_holds _ 7 0 a.1);
    }

-- The entry's answer and memory: a refusal, 16, or the set that is left.
module _ (f : Floor) (ws : List ℕ) (carrier : ℕ) (m : List ℕ) where
  pub carrier_refused : {k p : ℕ} → carrier_verdict f ws carrier (length m) ≡ refused k p →
      (refusal k p ≡ blockers_outcome f ws carrier (length m)) × (m ≡ blockers_memory f ws carrier m)
  unfolding blockers_outcome blockers_memory blockers_verdict
  carrier_refused e =
      let no = then_refused (demand (is_none (answer_at (plan_of f ws) (carrier - 1))) 16 0) e in
      (sym (gives_refused _ no), sym (when_refused _ no))

  module _ (ok : carrier_verdict f ws carrier (length m) ≡ passed) where
    pub route_there : is_none (answer_at (plan_of f ws) (carrier - 1)) ≡ false →
        (refusal 16 0 ≡ blockers_outcome f ws carrier (length m)) × (m ≡ blockers_memory f ws carrier m)
    unfolding blockers_outcome blockers_memory blockers_verdict
    route_there e =
        let no = then_passed ok ∙ demand_refuses 16 0 e in
        (sym (gives_refused _ no), sym (when_refused _ no))

    pub shut_in_lem : is_none (answer_at (plan_of f ws) (carrier - 1)) ≡ true → (k : ℕ) (m' : List ℕ) → k ≡ blockers_of f ws (carrier - 1) →
        m' ≡ stored (plan_of f ws) m →
        (value k ≡ blockers_outcome f ws carrier (length m)) × (m' ≡ blockers_memory f ws carrier m)
    unfolding blockers_outcome blockers_memory blockers_verdict
    shut_in_lem e k m' set stores =
        let yes = then_passed ok ∙ demand_passes 16 0 e in (
          ap value set ∙ sym (gives_passed yes),
          stores ∙ sym (when_passed_lem m yes),
        )
