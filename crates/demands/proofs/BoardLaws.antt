-- Steps at different boards on the program's memory (document 02, slip 5): the simulation, and what holds of the reference machine.
use Prim.Native.Nat.{ℕ, zero, suc, ◌+◌, ◌≤◌}
use native.Mathlib.Omega.{arith}
use mathlib.Core.Bool.{true}
use mathlib.Core.List.{List, [], ◌∷◌, ◌++◌, map, map-append}
use mathlib.Core.Path.{◌≡◌, refl, sym, ◌∙◌, ap, ap₂}
use lib.ListN.{length, get_or}
use borrow.Author.Tests.{le-leb}
use Rattle.laws.specs.Verdict.{Verdict, value, ◌gives◌}
use Rattle.laws.proofs.VerdictLaws.{demand_same}
use Rattle.floor.specs.declared.Floor.{Floor}
use Rattle.reference.specs.State.{Machine, State}
use Rattle.reference.specs.Step.{Step}
use Rattle.reference.specs.Take.{after_step, step_answer}
use Rattle.reference.specs.Run.{took, run}
use Rattle.reference.specs.Ending.{ending}
use Rattle.reference.specs.History.{Faithful, after_steps}
use Rattle.reference.specs.Table.{Asked, step, no_step, is_named, steps_of, Call, single, run_of, all_named, verdict}
use Rattle.reference.specs.Calls.{stepped, CallAnswer, ran, reply, state_after, after_call, replies, after}
use Rattle.reference.specs.Meeting.{Apart, Exchanged, SameRun}
use Rattle.reference.proofs.OpenLaws.{open_there}
use Rattle.reference.proofs.TableLaws.{steps_append}
use Rattle.reference.proofs.ApartLaws.{apart_sym}
use Rattle.reference.proofs.Theorems.{theorems}
use Rattle.orders.proofs.CallLaws.{single_reply, single_after}
use Rattle.encoding.specs.Places.{state_size}
use Rattle.encoding.specs.Encode.{encode}
use Rattle.encoding.specs.Numbers.{asked_by}
use Rattle.encoding.specs.Calls.{machine_of}
use Rattle.demands.specs.Lists.{ProgramCall, one_step, one_run, answers_of, memory_of, lent_length, reference_call, reference_calls}
use Rattle.demands.specs.Boards.{Ready, EitherOrder, SameCall}
use Rattle.demands.proofs.LentLaws.{lent_same}
use Rattle.demands.proofs.ListLaws.{ListSame, list_same}

-- Single calls on the reference machine that are lent enough.
module _ (M : Machine) (lent : ℕ) (enough : M.needed ≤ lent) where
  -- Two steps that stand apart, as single calls: both are taken, with the answers that they have in s.
  pair_replies : (s : State) (one other : Step) → Apart M s one other →
      replies M s (single lent (step one) ∷ single lent (step other) ∷ []) ≡
      value (stepped (step_answer M s one)) ∷ value (stepped (step_answer M s other)) ∷ []
  unfolding replies
  pair_replies s one other h =
      rw (
        single_reply M lent enough s one h.one_open,
        single_after M lent enough s one h.one_open,
        single_reply M lent enough (after_step M s one) other (theorems.meetings.still_open M s one other h).0,
        (theorems.meetings.same_answers M s one other h).0,
      )

  pair_after : (s : State) (one other : Step) → Apart M s one other → after M s (single lent (step one) ∷ single lent (step other) ∷ []) ≡
      after_step M (after_step M s one) other
  unfolding after
  pair_after s one other h =
      rw (single_after M lent enough s one h.one_open)
      (single_after M lent enough (after_step M s one) other (theorems.meetings.still_open M s one other h).0)

  -- Steps that are all open when they are taken, as single calls.
  singles_after : (s : State) (steps : List Step) → Faithful M s (map took steps) →
      after M s (map (single lent) (map step steps)) ≡ after_steps M s steps
  unfolding after after_steps Faithful
  singles_after s [] h = refl
  singles_after s (x ∷ steps) h =
      ap (λ (z : State). after M z (map (single lent) (map step steps))) (single_after M lent enough s x h.0)
      ∙ singles_after (after_step M s x) steps h.1

-- Two neighbours in a list exchanged: as long, and named alike where both are there.
exchanged_length : (xs : List Asked) (x y : Asked) (ys : List Asked) → length (xs ++ (x ∷ (y ∷ ys))) ≡ length (xs ++ (y ∷ (x ∷ ys)))
exchanged_length [] x y ys = refl
exchanged_length (z ∷ xs) x y ys = ap suc (exchanged_length xs x y ys)

exchanged_named : (M : Machine) (xs : List Asked) (x y : Asked) (ys : List Asked) → is_named M x ≡ true → is_named M y ≡ true → (i : ℕ)
    → is_named M (get_or (xs ++ (x ∷ (y ∷ ys))) i no_step) ≡ is_named M (get_or (xs ++ (y ∷ (x ∷ ys))) i no_step)
exchanged_named M [] x y ys e h zero = e ∙ sym h
exchanged_named M [] x y ys e h (suc zero) = h ∙ sym e
exchanged_named M [] x y ys e h (suc (suc i)) = refl
exchanged_named M (z ∷ xs) x y ys e h zero = refl
exchanged_named M (z ∷ xs) x y ys e h (suc i) = exchanged_named M xs x y ys e h i

-- A run on the reference machine with two neighbours that stand apart where it comes to them.
module _ (M : Machine) (s : State) (lent : ℕ) (xs ys : List Asked) (b : ℕ) (one other : Step) where
  abbrev whole : List Asked
  whole = xs ++ (step one ∷ (step other ∷ ys))

  abbrev reversed : List Asked
  reversed = xs ++ (step other ∷ (step one ∷ ys))

  module _ (left : (run M s (steps_of xs) b).taken + 2 ≤ b) (h : Apart M (run M s (steps_of xs) b).state one other) where
    verdict_alike : verdict M s (run_of lent whole b) ≡ verdict M s (run_of lent reversed b)
    unfolding verdict all_named is_named
    verdict_alike =
        let z = (run M s (steps_of xs) b).state in
        rw (
          demand_same 7 0 _ _ (length whole)
              (λ i l. exchanged_named M xs (step one) (step other) ys (open_there M z one h.one_open)
              (open_there M z other h.other_open) i),
          exchanged_length xs (step one) (step other) ys,
        )

    runs_alike : SameRun M b (run M s (steps_of whole) b) (run M s (steps_of reversed) b)
    unfolding steps_of
    runs_alike =
        rw (steps_append xs (step one ∷ (step other ∷ ys)), steps_append xs (step other ∷ (step one ∷ ys)))
        (theorems.meetings.run_neighbours M s (steps_of xs) one other (steps_of ys) b left h).0

    run_reply_alike : reply M s (run_of lent whole b) ≡ reply M s (run_of lent reversed b)
    unfolding reply
    run_reply_alike =
        ap₂ (λ (x : Verdict) (told : CallAnswer). x gives told) verdict_alike (ap₂ ran runs_alike.taken runs_alike.ending)

    run_after_alike : after_call M s (run_of lent whole b) ≡ after_call M s (run_of lent reversed b)
    unfolding after_call state_after
    run_after_alike = rw (verdict_alike, runs_alike.state)

-- The program's calls on the memory of a state.
module _ (f : Floor) (ws : List ℕ) (s : State) (k n : ℕ) (ready : Ready f ws s k n) (rest : List ℕ) where
  abbrev M : Machine
  M = machine_of f ws

  abbrev m : List ℕ
  m = encode f.carriers s ++ rest

  -- How long the memory is, and how much of it the reference machine is lent.
  abbrev numbers : ℕ
  numbers = state_size f.carriers + length rest

  abbrev lent : ℕ
  lent = lent_length f numbers k n

  enough : M.needed ≤ lent
  unfolding machine_of lent_length
  enough = rw (le-leb f.walls k ready.walls) (omega (arith, ready.lent))

  simulated : (xs : List ProgramCall) → ListSame f ws ready.accepted rest numbers refl s xs
  simulated xs = list_same f ws ready.accepted rest numbers refl s ready.within_ranges xs

  pair_memory : (x y : ℕ) (one other : Step) → asked_by x ≡ step one → asked_by y ≡ step other → Apart M s one other →
      memory_of f ws m (one_step k n x ∷ one_step k n y ∷ []) ≡ encode f.carriers (after_step M (after_step M s one) other) ++ rest
  unfolding reference_calls reference_call
  pair_memory x y one other e d h =
      (simulated (one_step k n x ∷ one_step k n y ∷ [])).memory ∙ rw (e, d, pair_after M lent enough s one other h)

  pair_answers : (x y : ℕ) (one other : Step) → asked_by x ≡ step one → asked_by y ≡ step other → Apart M s one other →
      answers_of f ws m (one_step k n x ∷ one_step k n y ∷ []) ≡
      value (stepped (step_answer M s one)) ∷ value (stepped (step_answer M s other)) ∷ []
  unfolding reference_calls reference_call
  pair_answers x y one other e d h =
      (simulated (one_step k n x ∷ one_step k n y ∷ [])).answers ∙ rw (e, d) (pair_replies M lent enough s one other h)

  -- A run as the reference machine is given it, with two steps named.
  asked : (xs ys : List ℕ) (b x y : ℕ) (one other : Step) → asked_by x ≡ step one → asked_by y ≡ step other →
      reference_call f numbers (one_run k n (xs ++ (x ∷ (y ∷ ys))) b) ≡
      run_of lent (map asked_by xs ++ (step one ∷ (step other ∷ map asked_by ys))) b
  unfolding reference_call
  asked xs ys b x y one other e d = rw (map-append asked_by xs (x ∷ (y ∷ ys)), e, d)

  pub either_order : (x y : ℕ) (one other : Step) → asked_by x ≡ step one → asked_by y ≡ step other → Apart M s one other →
      EitherOrder f ws s k n rest x y one other
  either_order x y one other e d h =
      let g = apart_sym h in
      record {
        memory = pair_memory x y one other e d h
            ∙ ap (λ (z : State). encode f.carriers z ++ rest) (theorems.meetings.same_state M s one other h)
            ∙ sym (pair_memory y x other one d e g);
        answers = pair_answers x y one other e d h;
        reversed = pair_answers y x other one d e g;
      }

  pub run_neighbours : (xs ys : List ℕ) (b x y : ℕ) (first second : Step) → asked_by x ≡ step first → asked_by y ≡ step second →
      (run M s (steps_of (map asked_by xs)) b).taken + 2 ≤ b → Apart M (run M s (steps_of (map asked_by xs)) b).state first second →
      SameCall f ws s k n rest (one_run k n (xs ++ (x ∷ (y ∷ ys))) b) (one_run k n (xs ++ (y ∷ (x ∷ ys))) b)
  run_neighbours xs ys b x y first second e d left h =
      let forth = one_run k n (xs ++ (x ∷ (y ∷ ys))) b in
      let back = one_run k n (xs ++ (y ∷ (x ∷ ys))) b in
      let one = asked xs ys b x y first second e d in
      let other = asked xs ys b y x second first d e in
      let fits = ready.within_ranges in
      let here = lent_same f ws ready.accepted rest numbers refl s fits forth in
      let there = lent_same f ws ready.accepted rest numbers refl s fits back in
      record {
        answer = here.0 ∙ (rw (one, other) (run_reply_alike M s lent (map asked_by xs) (map asked_by ys) b first second left h))
            ∙ sym there.0;
        memory = here.1
            ∙ (rw (one, other, run_after_alike M s lent (map asked_by xs) (map asked_by ys) b first second left h))
            ∙ sym there.1;
      }

  -- Single calls of the steps that the numbers name.
  singles_asked : (xs : List ℕ) → reference_calls f numbers (map (one_step k n) xs) ≡ map (single lent) (map asked_by xs)
  unfolding reference_calls reference_call
  singles_asked [] = refl
  singles_asked (x ∷ xs) = ap (λ (xs : List Call). single lent (asked_by x) ∷ xs) (singles_asked xs)

  singles_memory : (xs : List ℕ) (steps : List Step) → map asked_by xs ≡ map step steps → Faithful M s (map took steps) →
      memory_of f ws m (map (one_step k n) xs) ≡ encode f.carriers (after_steps M s steps) ++ rest
  singles_memory xs steps e h =
      (simulated (map (one_step k n) xs)).memory ∙ rw (singles_asked xs, e, singles_after M lent enough s steps h)

  pub exchanged : (xs ys : List ℕ) (steps steps' : List Step) → map asked_by xs ≡ map step steps → map asked_by ys ≡ map step steps' →
      Faithful M s (map took steps) → Exchanged M s steps steps' →
      memory_of f ws m (map (one_step k n) xs) ≡ memory_of f ws m (map (one_step k n) ys)
  exchanged xs ys steps steps' e d o h =
      singles_memory xs steps e o
      ∙ ap (λ (z : State). encode f.carriers z ++ rest) (theorems.meetings.exchanged_state M s steps steps' h)
      ∙ sym (singles_memory ys steps' d (theorems.meetings.exchanged_open M s steps steps' h o))
