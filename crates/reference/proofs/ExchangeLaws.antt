-- Steps that stand apart, as neighbours inside a run and in a history (document 02, slip 5).
use Prim.Native.Nat.{ℕ, zero, suc, ◌+◌, ◌-◌, ◌≤◌}
use native.Mathlib.Omega.{arith}
use mathlib.Core.Bool.{true}
use mathlib.Core.List.{List, [], ◌∷◌, ◌++◌, map}
use mathlib.Core.Path.{◌≡◌, refl, sym, ◌∙◌, ap}
use Rattle.reference.specs.State.{Machine, State}
use Rattle.reference.specs.Step.{Step, is_open}
use Rattle.reference.specs.Take.{after_step}
use Rattle.reference.specs.Run.{took, RunResult, took_first, run}
use Rattle.reference.specs.Ending.{any_left, ending}
use Rattle.reference.specs.History.{Faithful, after_steps, RunsJoined}
use Rattle.reference.specs.StepClaims.{StepClaims}
use Rattle.reference.specs.Meeting.{Apart, Exchanged, same, swapped, later, onward, SameRun}
use Rattle.reference.specs.MeetingClaims.{MeetingClaims}
use Rattle.reference.proofs.RunLaws.{run_took}
use Rattle.reference.proofs.ApartLaws.{apart_sym, answer_kept, open_kept, state_agrees}

-- Two runs leave the same state, number taken and unread steps.
record SameResult (x y : RunResult) : Type 0 where
  pub state : x.state ≡ y.state
  pub taken : x.taken ≡ y.taken
  pub unread : x.unread ≡ y.unread

alike_ending : (M : Machine) (b : ℕ) (x y : RunResult) → SameResult x y → SameRun M b x y
unfolding ending
alike_ending M b x y h = record { state = h.state; taken = h.taken; ending = rw (h.state, h.taken, h.unread) }

-- A run that goes on behind another is alike where the second parts are.
joined_alike : (z x' y' x y : RunResult) → RunsJoined z y' x → RunsJoined x' y' y → SameResult x y → SameResult z x'
joined_alike z x' y' x y j k h =
    record {
      state = j.state ∙ h.state ∙ sym k.state;
      taken = omega (arith, j.taken, k.taken, h.taken);
      unread = j.unread ∙ ap (λ (xs : List Step). y'.unread ++ xs) h.unread ∙ sym k.unread;
    }

some_left : (ys : List Step) (x : Step) (xs : List Step) → any_left (ys ++ (x ∷ xs)) ≡ true
unfolding any_left
some_left [] x xs = refl
some_left (y ∷ ys) x xs = refl

module _ (claims : StepClaims) (M : Machine) where
  -- Two steps at the front of a run with budget for both.
  both_taken : (s : State) (x y : Step) (ys : List Step) (b : ℕ) → is_open M s x ≡ true → is_open M (after_step M s x) y ≡ true →
      run M s (x ∷ (y ∷ ys)) (suc (suc b)) ≡ took_first x (took_first y (run M (after_step M (after_step M s x) y) ys b))
  both_taken s x y ys b o p = run_took M s x (y ∷ ys) (suc b) o ∙ ap (took_first x) (run_took M (after_step M s x) y ys b p)

  front_alike : (s : State) (x y : Step) (ys : List Step) (b : ℕ) → 2 ≤ b → Apart M s x y →
      SameResult (run M s (x ∷ (y ∷ ys)) b) (run M s (y ∷ (x ∷ ys)) b)
  unfolding took_first
  front_alike s x y ys zero l h = absurd (omega arith)
  front_alike s x y ys (suc zero) l h = absurd (omega arith)
  front_alike s x y ys (suc (suc b)) l h =
      rw (
        both_taken s x y ys b h.one_open (open_kept claims M s x y h),
        both_taken s y x ys b h.other_open (open_kept claims M s y x (apart_sym h)),
        state_agrees claims M s x y h,
      )
      (record { state = refl; taken = refl; unread = refl })

  run_alike : (s : State) (xs : List Step) (x y : Step) (ys : List Step) (b : ℕ) → (run M s xs b).taken + 2 ≤ b →
      Apart M (run M s xs b).state x y → SameResult (run M s (xs ++ (x ∷ (y ∷ ys))) b) (run M s (xs ++ (y ∷ (x ∷ ys))) b)
  run_alike s xs x y ys b l h =
      joined_alike _ _ (run M s xs b) _ _ (claims.run_cut M s xs (x ∷ (y ∷ ys)) b) (claims.run_cut M s xs (y ∷ (x ∷ ys)) b)
      (front_alike (run M s xs b).state x y ys (b - (run M s xs b).taken) (omega arith) h)

  -- Without budget nothing more is read.
  run_stopped : (s : State) (xs : List Step) (y : Step) (ys : List Step) (b : ℕ) → (run M s xs b).taken ≡ b →
      RunsJoined (run M s (xs ++ (y ∷ ys)) b) (run M s xs b) (run M (run M s xs b).state (y ∷ ys) 0)
  run_stopped s xs y ys b e =
      let none : b - (run M s xs b).taken ≡ 0 = omega arith in
      rw none at (claims.run_cut M s xs (y ∷ ys) b)

  unread_same : (s : State) (xs : List Step) (x y : Step) (ys : List Step) (b : ℕ) → (run M s xs b).taken ≡ b →
      SameRun M b (run M s (xs ++ (x ∷ (y ∷ ys))) b) (run M s (xs ++ (y ∷ (x ∷ ys))) b)
  unfolding run ending
  unread_same s xs x y ys b e =
      let j = run_stopped s xs x (y ∷ ys) b e in
      let k = run_stopped s xs y (x ∷ ys) b e in
      let t : (run M s (xs ++ (x ∷ (y ∷ ys))) b).taken ≡ (run M s (xs ++ (y ∷ (x ∷ ys))) b).taken = omega (arith, j.taken, k.taken) in
      let left = (run M s xs b).unread in
      record {
        state = j.state ∙ sym k.state;
        taken = t;
        ending = rw (t, j.state, k.state, j.unread, k.unread, some_left left x (y ∷ ys), some_left left y (x ∷ ys));
      }

  exchanged_state : {s : State} {xs ys : List Step} → Exchanged M s xs ys → after_steps M s xs ≡ after_steps M s ys
  unfolding after_steps
  exchanged_state same = refl
  exchanged_state {s = s} (swapped {x = x} {y = y} {xs = xs} h) = ap (λ (z : State). after_steps M z xs) (state_agrees claims M s x y h)
  exchanged_state (later h) = exchanged_state h
  exchanged_state (onward h k) = exchanged_state h ∙ exchanged_state k

  exchanged_open : {s : State} {xs ys : List Step} → Exchanged M s xs ys → Faithful M s (map took xs) → Faithful M s (map took ys)
  unfolding Faithful
  exchanged_open same o = o
  exchanged_open {s = s} (swapped {x = x} {y = y} h) o =
      (h.other_open, (open_kept claims M s y x (apart_sym h), rw (state_agrees claims M s x y h) at o.1.1))
  exchanged_open (later h) o = (o.0, exchanged_open h o.1)
  exchanged_open (onward h k) o = exchanged_open k (exchanged_open h o)

pub meeting_claims : StepClaims → MeetingClaims
meeting_claims claims =
    record {
      still_open = λ M s x y h. (open_kept claims M s x y h, open_kept claims M s y x (apart_sym h));
      same_state = state_agrees claims;
      same_answers = λ M s x y h. (answer_kept M s x y h, answer_kept M s y x (apart_sym h));
      run_neighbours = λ M s xs x y ys b l h.
          (alike_ending M b _ _ (run_alike claims M s xs x y ys b l h), (run_alike claims M s xs x y ys b l h).unread);
      run_unread = unread_same claims;
      exchanged_state = λ M s xs ys h. exchanged_state claims M h;
      exchanged_open = λ M s xs ys h. exchanged_open claims M h;
    }
