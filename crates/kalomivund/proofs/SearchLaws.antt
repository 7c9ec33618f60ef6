-- Laws of a search into lent memory: what each case of the code's answer says and stores.
use Prim.Native.Nat.{ℕ, ◌≤◌, ◌<◌}
use mathlib.Core.Path.{◌≡◌, refl, sym, ◌∙◌}
use mathlib.Core.List.{List}
use Rattle.laws.specs.Memory.{put}
use Rattle.laws.specs.Verdict.{Verdict, passed, refused, demand, ◌then◌, Outcome, value, refusal, ◌gives◌, ◌then_answers◌}
use borrow.Author.Tests.{le-leb, lt-leb}
use Rattle.floor.specs.declared.Floor.{Floor}
use Rattle.floor.specs.Checks.{check_of, long_enough}
use Rattle.search.specs.Search.{search_of, request_of}
use Rattle.floor.specs.declared.Refusal.{Refusal}
use Rattle.route.specs.Route.{Answer}
use Rattle.std.specs.Prelude.{Option, Some, None, Result, Ok, Err, replicate}
use Rattle.floor.specs.Answers.{number_of, outcome_by}
use Rattle.search.specs.Answers.{result_of}
use Rattle.abi.specs.Word.{word_of, done, map_outcome, of_number}
use Rattle.kalomivund.specs.Answers.{of_search, answer_done, cells_of, route_stored}
use Rattle.kalomivund.specs.Entries.{search_lent}
use Rattle.kalomivund.proofs.EntryLaws.{says_lent, stores_lent}

module _ {x : Result (Option (List ℕ)) Refusal} {result : Outcome Answer} (s : result_of x ≡ result) where
  -- None and a route: their case, and 64 cells in front.
  pub none_says : {w : ℕ} → x ≡ Ok None → w ≡ word_of (value (done 0 0)) → w ≡ word_of (of_search result)
  unfolding of_search map_outcome answer_done outcome_by
  none_says e h = rw (← s, e) h

  pub route_says : {w : ℕ} (r : List ℕ) → x ≡ Ok (Some r) → w ≡ word_of (value (done 1 0)) → w ≡ word_of (of_search result)
  unfolding of_search map_outcome answer_done outcome_by
  route_says r e h = rw (← s, e) h

  pub none_stores : {m : List ℕ} (old : List ℕ) → x ≡ Ok None → m ≡ put old 0 (replicate 64 0) → m ≡ route_stored result old
  unfolding route_stored cells_of outcome_by
  none_stores old e h = rw (← s, e) h

  pub route_stores : {m r : List ℕ} (old : List ℕ) → x ≡ Ok (Some r) → m ≡ put old 0 r → m ≡ route_stored result old
  unfolding route_stored cells_of outcome_by
  route_stores old e h = rw (← s, e) h

  -- A refusal: as met, and the memory as it was.
  pub refused_says : {w : ℕ} {y : Refusal} → x ≡ Err y → w ≡ word_of (refusal (number_of y.reason) y.place) → w ≡ word_of (of_search result)
  unfolding of_search map_outcome outcome_by
  refused_says e h = rw (← s, e) h

  pub refused_stores : {y : Refusal} (old : List ℕ) → x ≡ Err y → old ≡ route_stored result old
  unfolding route_stored outcome_by
  refused_stores old e = rw (← s, e) refl

pub ruleset found_cases = (none_says, route_says, none_stores, route_stores, refused_says, refused_stores)

-- A search into route memory that is too short, after the floor's checks x, and into memory of enough numbers.
short_word : (x : Verdict) (y : Outcome Answer)
    → word_of (of_number ((x then refused 9 0) gives 0)) ≡ word_of (of_search ((x then refused 9 0) then_answers y))
unfolding ◌then◌ ◌gives◌ ◌then_answers◌ of_number of_search map_outcome
short_word passed y = refl
short_word (refused k p) y = refl

short_route : (x : Verdict) (y : Outcome Answer) (old : List ℕ) → route_stored ((x then refused 9 0) then_answers y) old ≡ old
unfolding ◌then◌ ◌then_answers◌ route_stored
short_route passed y old = refl
short_route (refused k p) y old = refl

checked_twice : (y z : Verdict) (x : Answer)
    → ◌≡◌ {A = Outcome Answer} ((y then passed) then_answers ((y then z) gives x)) ((y then z) gives x)
unfolding ◌then◌ ◌gives◌ ◌then_answers◌
checked_twice passed z x = refl
checked_twice (refused k p) z x = refl

module _ (f : Floor) (ws : List ℕ) (i : ℕ) (m : List ℕ) {lent : ℕ} where
  pub short_says : {w : ℕ} {x : Verdict} → lent < 64 → w ≡ word_of (of_number ((x then refused 9 0) gives 0)) → x ≡ check_of f ws
      → w ≡ word_of (of_search (search_lent f ws i m lent))
  unfolding search_lent long_enough demand
  short_says l s e = rw (lt-leb 64 lent l) ((rw e at s) ∙ short_word (check_of f ws) (search_of f ws i m))

  pub short_stores : (old : List ℕ) → lent < 64 → old ≡ route_stored (search_lent f ws i m lent) old
  unfolding search_lent long_enough demand
  short_stores old l = rw (lt-leb 64 lent l) (sym (short_route (check_of f ws) (search_of f ws i m) old))

  pub search_long : 64 ≤ lent → search_lent f ws i m lent ≡ search_of f ws i m
  unfolding search_lent search_of request_of long_enough demand
  search_long l = rw (le-leb 64 lent l) (checked_twice (check_of f ws) _ _)

  pub long_says : {w : ℕ} → 64 ≤ lent → w ≡ word_of (of_search (search_of f ws i m)) → w ≡ word_of (of_search (search_lent f ws i m lent))
  long_says l s = rw (search_long l) s

  pub long_stores : {xs : List ℕ} (old : List ℕ) → 64 ≤ lent → xs ≡ route_stored (search_of f ws i m) old
      → xs ≡ route_stored (search_lent f ws i m lent) old
  long_stores old l s = rw (search_long l) s

-- What is answered to a record of enough numbers: the floor's refusals and 9 without room for a route, the search with it.
pub ruleset search_lent_lem = (says_lent, stores_lent, short_says, short_stores, long_says, long_stores)
