-- The text of a meeting in a memory of 1,087 bytes, which holds every such text.
use Prim.Native.Nat.{ℕ, zero, suc, ◌+◌, ◌*◌, ◌≤◌, ◌<◌, min}
use native.Mathlib.Omega.{arith}
use mathlib.Core.Path.{◌≡◌, refl, sym, ap, ◌∙◌}
use mathlib.Core.List.{List, [], ◌∷◌, ◌++◌, append-nil}
use borrow.Author.Tests.{le-leb, leb-true}
use lib.Dec.{leb}
use lib.ListN.{length, get_or, replicate, length-append, length-replicate}
use Rattle.laws.specs.Memory.{put}
use Rattle.laws.specs.Verdict.{Verdict, passed, refused, value, demand}
use Rattle.laws.proofs.PutLaws.{put_none}
use Rattle.laws.proofs.Tests.{and_fst, and_snd}
use Rattle.laws.proofs.VerdictLaws.{then_passed, then_refused, then_both, demand_passes, demand_holds, demand_cases, gives_passed}
use Rattle.reporting.proofs.WordsLaws.{short_within}
use Rattle.reporting.specs.Words.{short_decimal, carrier_words}
use Rattle.floor.specs.declared.Floor.{Floor}
use Rattle.floor.specs.declared.Refusal.{Refusal}
use Rattle.floor.specs.Checks.{check_of, long_enough, within}
use Rattle.floor.proofs.LimitsLaws.{check_tells}
use Rattle.route.specs.Route.{Answer, none, route, View, unheard}
use Rattle.route.specs.FirstConflict.{ConflictKind, same_cell, change_of_places, following, ConflictAt, ConflictAnswer, free, dated}
use Rattle.route.specs.ConflictTest.{first_conflict, conflict_told}
use Rattle.route.specs.declared.Conflict.{Conflict}
use Rattle.route.specs.declared.Conflict.TheVariants.{SameCell, ChangeOfPlaces, Following}
use Rattle.route.specs.Search.{best}
use Rattle.route.proofs.Theorems.{theorems as route-theorems}
use Rattle.records.specs.Records.{view_of, record_at, view_at, records, views_of}
use Rattle.records.specs.Seen.{seen_from, seen}
use Rattle.search.specs.Task.{task_of}
use Rattle.search.specs.Search.{request_of, search_of}
use Rattle.search.specs.Answers.{answer_of, result_of}
use Rattle.floor.specs.Answers.{outcome_by}
use Rattle.std.specs.Prelude.{Option, Some, None, Result, Ok, Err, IsOk}
use Rattle.search.proofs.Theorems.{theorems as search-theorems}
use Rattle.printing.specs.Print.{or_refusal}
use Rattle.printing.specs.Text.{refusal_line}
use Rattle.printing.proofs.PrintLaws.{refusal_length}
use Rattle.printing.specs.Put.{TextPut}
use Rattle.reporting.specs.Put.{PutAt}
use Rattle.reporting.proofs.ReportLaws.{put_behind}
use Rattle.reporting.proofs.PrintedLaws.{PrintsWithin}
use Rattle.drawing.specs.Drawing.{drawn_floor}
use Rattle.drawing.proofs.DrawnLaws.{drawn_length, drawn_short}
use Rattle.meeting.specs.Text.{alone_of, pair_verdict, number_line, free_line}
use Rattle.meeting.specs.Text.{same_cell_words, change_words, following_words}
use Rattle.meeting.specs.Text.{no_route_words, conflict_line, no_route_line, Early, conflict_drawing, met_text, pair_text}

-- Zeros show no view.
zeros_unheard : (n j : ℕ) → view_at (replicate n 0) j ≡ unheard
unfolding view_at record_at view_of
zeros_unheard n j = rw (zero_at_lem n (65 * j))
  where
    zero_at_lem : (n i : ℕ) → ◌≡◌ {A = ℕ} (get_or (replicate n 0) i 0) 0
    zero_at_lem zero i = refl
    zero_at_lem (suc n) zero = refl
    zero_at_lem (suc n) (suc i) = zero_at_lem n i

module _ (f : Floor) (ws : List ℕ) (ok : check_of f ws ≡ passed) where
  pub short : f.horizon ≤ 63
  short = (check_tells f ws ok).bounds.horizon.1

  few : f.carriers ≤ 8
  few = (check_tells f ws ok).bounds.carriers.1

  -- Against views of which none is heard a carrier answers as against nobody.
  unheard_alone : (i n k : ℕ) → best (task_of f ws i) (seen f (records (replicate n 0) k)) ≡ best (task_of f ws i) []
  unfolding records seen seen_from
  unheard_alone i n zero = refl
  unheard_alone i n (suc k) =
      ap (λ (v : View). best (task_of f ws i) (seen f (records (replicate n 0) k ++ (v ∷ [])))) (zeros_unheard n k)
      ∙ search-theorems.unheard_left_out f ws i (records (replicate n 0) k) [] short
      ∙ ap (best (task_of f ws i)) (append-nil _)
      ∙ unheard_alone i n k

  pub alone_found : (i : ℕ) → demand (within 1 f.carriers i) 7 0 ≡ passed → search_of f ws i (replicate 520 0) ≡ value (alone_of f ws i)
  unfolding search_of request_of alone_of views_of long_enough
  alone_found i there =
      let enough : 65 * f.carriers ≤ length (replicate {A = ℕ} 520 0) = omega (arith, few, length-replicate {A = ℕ} 520 0) in
      gives_passed (then_passed ok ∙ then_passed (demand_passes 9 0 (le-leb _ _ enough)) ∙ there) ∙ ap value (unheard_alone i 520 _)

  -- Two carriers that are there.
  module _ (i j : ℕ) (there : pair_verdict f i j ≡ passed) where
    pub first_there : demand (within 1 f.carriers i) 7 0 ≡ passed
    unfolding pair_verdict
    first_there = (then_both _ _ there).0

    pub second_there : demand (within 1 f.carriers j) 7 0 ≡ passed
    unfolding pair_verdict
    second_there = (then_both _ _ there).1

    digit : (k : ℕ) → demand (within 1 f.carriers k) 7 0 ≡ passed → (1 ≤ k) × (k ≤ 8)
    unfolding within
    digit k h =
        let t = demand_holds _ 7 0 h in (
          leb-true 1 k (and_fst (leb 1 k) (leb k f.carriers) t),
          omega (arith, few, leb-true k f.carriers (and_snd (leb 1 k) (leb k f.carriers) t)),
        )

    pub first_digit_lem : (1 ≤ i) × (i ≤ 8)
    first_digit_lem = digit i first_there

    pub second_digit : (1 ≤ j) × (j ≤ 8)
    second_digit = digit j second_there

-- A drawing that was put.
pub drawn_put : (f : Floor) (ws places old new : List ℕ) (n : ℕ) → new ≡ put old 0 (drawn_floor f ws places) → n ≡ (f.width + 1) * f.height
    → TextPut (drawn_floor f ws places) old new n
drawn_put f ws places old new n e s = record { bytes = e; size = s ∙ sym (drawn_length f ws places) }

-- The beat of a first conflict is at most 63.
conflict_low : (H : ℕ) (r q : List ℕ) (t : ℕ) (kind : ConflictKind) → ConflictAt (min H 63) r q t kind → t ≤ 63
unfolding ConflictAt
conflict_low H r q t same_cell c = omega (arith, c.0)
conflict_low H r q t change_of_places c = omega (arith, c.0)
conflict_low H r q t following c = omega (arith, c.0)

pub found_early : (H : ℕ) (r q : List ℕ) (x : ConflictAnswer) → x ≡ first_conflict (min H 63) r q → Early x
unfolding Early
found_early H r q free e = tt
found_early H r q (dated t kind) e =
    conflict_low H r q t kind (((route-theorems.conflict_test (min H 63) r q).first_exactly t kind).0 (sym e)).there

-- A conflict that is told is early: by its kind, and so in two digits.
module _ {x : Option Conflict} {t : ℕ} (e : Early (conflict_told x)) where
  pub same_early : x ≡ Some (SameCell t) → t ≤ 63
  unfolding Early conflict_told
  same_early h = rw h at e

  pub change_early : x ≡ Some (ChangeOfPlaces t) → t ≤ 63
  unfolding Early conflict_told
  change_early h = rw h at e

  pub following_early : x ≡ Some (Following t) → t ≤ 63
  unfolding Early conflict_told
  following_early h = rw h at e

pub early_digits : {t : ℕ} → t ≤ 63 → t < 100
early_digits l = omega arith

pub ruleset early = (same_early, change_early, following_early, early_digits)

-- A conflict that was found, by its kind.
pub found_is : {x : Option Conflict} {k y : Conflict} → x ≡ Some k → k ≡ y → x ≡ Some y
found_is e h = rw (e, h) refl

-- What is put for one case of what was found.
pub line_case : (x y : Option Conflict) (old new : List ℕ) (n : ℕ) → x ≡ y → PutAt (conflict_line (conflict_told y)) old 0 new n
    → PutAt (conflict_line (conflict_told x)) old 0 new n
line_case x y old new n e p = rw e p

pub drawing_case : (f : Floor) (ws : List ℕ) (i j : ℕ) (r q : List ℕ) (x y : Option Conflict) (old new : List ℕ) (n : ℕ) → x ≡ y
    → TextPut (conflict_drawing f ws i j r q (conflict_told y)) old new n → TextPut (conflict_drawing f ws i j r q (conflict_told x)) old new n
drawing_case f ws i j r q x y old new n e p = rw e p

-- Lines with a number in them.
pub line_put : (words end old m₁ m₂ m₃ : List ℕ) (n at behind next : ℕ) → PutAt words old 0 m₁ at → PutAt (short_decimal n) m₁ at m₂ behind
    → PutAt end m₂ behind m₃ next → length words + 2 + length end ≤ length old → PutAt (number_line words n end) old 0 m₃ next
unfolding number_line
line_put words end old m₁ m₂ m₃ n at behind next p q r l =
    let d = short_within n in
    put_behind (put_behind p q (omega (arith, p.behind, q.behind))) r (omega (arith, p.behind, q.behind, r.behind))

line_short : (words : List ℕ) (n : ℕ) (end : List ℕ) → length (number_line words n end) ≤ length words + 2 + length end
unfolding number_line
line_short words n end =
    omega (arith, length-append (words ++ short_decimal n) end, length-append words (short_decimal n), short_within n)

pub conflict_short : (x : ConflictAnswer) → length (conflict_line x) ≤ 31
unfolding conflict_line free_line same_cell_words change_words following_words
conflict_short free = omega arith
conflict_short (dated t same_cell) = omega (arith, line_short same_cell_words t (10 ∷ []))
conflict_short (dated t change_of_places) = omega (arith, line_short change_words t (10 ∷ []))
conflict_short (dated t following) = omega (arith, line_short following_words t (10 ∷ []))

none_short : (i : ℕ) → length (no_route_line i) ≤ 31
unfolding no_route_line carrier_words no_route_words
none_short i = omega (arith, line_short carrier_words i no_route_words)

-- What was put in front of a memory.
pub front_put : {text old new : List ℕ} {n : ℕ} → PutAt text old 0 new n → TextPut text old new n
front_put p = record { bytes = p.bytes; size = omega (arith, p.behind) }

pub nothing_put : (old : List ℕ) → TextPut [] old old 0
nothing_put old = record { bytes = put_none old 0; size = refl }

-- A search that answers is not refused, and what it found is its answer.
pub answers : (x : Result (Option (List ℕ)) Refusal) {y : Answer} → result_of x ≡ value y → IsOk x
unfolding outcome_by
answers (Ok o) e = refl
answers (Err r) e = let z : ◌≡◌ {A = ℕ} 0 1 = cc in absurd (omega arith)

pub answer_found : (x : Result (Option (List ℕ)) Refusal) (o : Option (List ℕ)) (y : Answer) → x ≡ Ok o → result_of x ≡ value y
    → answer_of o ≡ y
unfolding outcome_by
answer_found x o y e h = let k : value (answer_of o) ≡ value y = rw e at h in cc

-- The text for two answers, by its cases.
module _ (f : Floor) (ws : List ℕ) (i j : ℕ) (x y : Answer) {old new : List ℕ} {n : ℕ} where
  pub first_none : (o : Option (List ℕ)) → answer_of o ≡ x → o ≡ None → TextPut (no_route_line i) old new n
      → TextPut (met_text f ws i j x y) old new n
  unfolding met_text
  first_none o e h t = rw (← e, h) t

  module _ (o : Option (List ℕ)) (r : List ℕ) (e : answer_of o ≡ x) (h : o ≡ Some r) where
    pub second_none : (o' : Option (List ℕ)) → answer_of o' ≡ y → o' ≡ None → TextPut (no_route_line j) old new n
        → TextPut (met_text f ws i j x y) old new n
    unfolding met_text
    second_none o' e' h' t = rw (← e, h, ← e', h') t

    pub both_routes : (o' : Option (List ℕ)) (q : List ℕ) → answer_of o' ≡ y → o' ≡ Some q
        → TextPut (met_text f ws i j (route r) (route q)) old new n → TextPut (met_text f ws i j x y) old new n
    both_routes o' q e' h' t = rw (← e, h, ← e', h') t

pub met_put : (f : Floor) (ws : List ℕ) (i j : ℕ) (r q : List ℕ) (x : ConflictAnswer) (old new : List ℕ) (n : ℕ) → f.horizon ≤ 63
    → x ≡ first_conflict (min f.horizon 63) r q → TextPut (conflict_line x ++ conflict_drawing f ws i j r q x) old new n
    → TextPut (met_text f ws i j (route r) (route q)) old new n
unfolding met_text
met_put f ws i j r q x old new n l e t =
    let same : min f.horizon 63 ≡ f.horizon = omega arith in
    let found : x ≡ first_conflict f.horizon r q = rw same at e in
    rw (← found) t

-- The line ends by column 31.
pub line_ends : (x : ConflictAnswer) (old new : List ℕ) (n : ℕ) → PutAt (conflict_line x) old 0 new n → n ≤ 31
line_ends x old new n p = omega (arith, p.behind, conflict_short x)

-- No text has more than 1,087 bytes.
module _ (f : Floor) (ws : List ℕ) (ok : check_of f ws ≡ passed) (i j : ℕ) where
  pub met_drawing_short : (r q : List ℕ) (x : ConflictAnswer) → length (conflict_drawing f ws i j r q x) ≤ 1056
  unfolding conflict_drawing
  met_drawing_short r q free = omega arith
  met_drawing_short r q (dated t kind) = drawn_short f ws ok _

  met_short : (x y : Answer) → length (met_text f ws i j x y) ≤ 1087
  unfolding met_text
  met_short none y = omega (arith, none_short i)
  met_short (route r) none = omega (arith, none_short j)
  met_short (route r) (route q) =
      let x = first_conflict f.horizon r q in
      omega (arith, length-append (conflict_line x) (conflict_drawing f ws i j r q x), conflict_short x, met_drawing_short r q x)

  pair_short : length (pair_text f ws i j) ≤ 1087
  unfolding pair_text or_refusal
  pair_short = go (pair_verdict f i j)
    where
      go : (x : Verdict) → length (or_refusal x (met_text f ws i j (alone_of f ws i) (alone_of f ws j))) ≤ 1087
      go passed = met_short (alone_of f ws i) (alone_of f ws j)
      go (refused k p) = omega (arith, refusal_length k p)

pub pair_within : (i j : ℕ) → PrintsWithin (λ f ws. pair_text f ws i j) 1087
pair_within i j = record { short = λ f ws ok. pair_short f ws ok i j }

-- The text for two carriers, of which one may not be there.
module _ (f : Floor) (ws : List ℕ) (i j : ℕ) (old new : List ℕ) (n : ℕ) where
  pub pair_put : pair_verdict f i j ≡ passed → TextPut (met_text f ws i j (alone_of f ws i) (alone_of f ws j)) old new n
      → TextPut (pair_text f ws i j) old new n
  unfolding pair_text or_refusal
  pair_put e t = rw e t

  pub pair_refused : (k p : ℕ) → pair_verdict f i j ≡ refused k p → TextPut (refusal_line k p) old new n →
      TextPut (pair_text f ws i j) old new n
  unfolding pair_text or_refusal
  pair_refused k p e t = rw e t

-- The refusal of a carrier that is not there has place 0.
pub pair_place : (f : Floor) (i j k p : ℕ) → pair_verdict f i j ≡ refused k p → p ≡ 0
unfolding pair_verdict
pair_place f i j k p e = go (demand (within 1 f.carriers i) 7 0) refl
  where
    go : (x : Verdict) → demand (within 1 f.carriers i) 7 0 ≡ x → p ≡ 0
    go passed h = (demand_cases (within 1 f.carriers j) 7 0 k p (sym (then_passed h) ∙ e)).2
    go (refused a b) h =
        let same : refused a b ≡ refused k p = sym (then_refused _ h) ∙ e in
        let place : b ≡ p = cc in
        omega (arith, (demand_cases (within 1 f.carriers i) 7 0 a b h).2)
