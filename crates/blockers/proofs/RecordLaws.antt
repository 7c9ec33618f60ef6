-- The procedure over records in memory: a record is taken out by its tag, put back, and told as a digit.
use Prim.Native.Nat.{ℕ, suc, ◌+◌, ◌*◌, ◌-◌, ◌≤◌, ◌<◌}
use native.Mathlib.Omega.{arith}
use native.Mathlib.Nat.{add-zero}
use native.Mathlib.Numerals.{add-one}
use mathlib.Core.Bool.{Bool, true, false, cond, ◌||◌, true≢false}
use Rattle.std.specs.Prelude.{Option, Some, None, is_some}
use mathlib.Core.List.{List, ◌∷◌}
use mathlib.Core.Logic.{◌⊎◌, inl, inr}
use mathlib.Core.Path.{◌≡◌, refl, sym, ◌∙◌, ap, ap₂}
use lib.Dec.{eqb}
use lib.ListN.{length, get_or, set, drop, length-set, length-drop, drop_of_length-le}
use lib.Seq.{ext_get_or, get_or-set_same, get_or-set_other, set-set, set-get_or, drop-cons}
use Rattle.laws.specs.Memory.{part}
use Rattle.laws.proofs.PartLaws.{part_byte, part_length}
use Rattle.laws.proofs.Tests.{eq_or_ne}
use Rattle.floor.specs.declared.Floor.{Floor}
use Rattle.route.specs.Route.{Answer, none, route, View, unheard, heard}
use Rattle.route.specs.Search.{best}
use Rattle.records.specs.Records.{view_of, record_at, view_at, records, views_of}
use Rattle.records.specs.Seen.{seen}
use Rattle.records.proofs.RecordLaws.{views_above}
use Rattle.records.proofs.SeenLaws.{records_length, records_view}
use Rattle.search.specs.Answers.{answer_of}
use Rattle.search.specs.Task.{task_of_rows}
use Rattle.search.specs.Rows.{Searchable}
use Rattle.planner.specs.Plan.{respond_with}
use Rattle.blockers.specs.Blockers.{views_without, if_none, tried, left_after, set_of}
use Rattle.blockers.specs.Inner.{heard_digit}
use Rattle.blockers.proofs.SetLaws.{set_below}

-- A part that a store does not touch.
part_set : (m : List ℕ) (at n p x : ℕ) → at + n ≤ length m → ((i : ℕ) → i < n → at + i ≡ p → ⊥) → part (set m p x) at n ≡ part m at n
part_set m at n p x l h =
    let long : length (part (set m p x) at n) ≡ n = part_length (set m p x) at n (omega (arith, length-set m p x)) in
    ext_get_or 0 (part (set m p x) at n) (part m at n) (long ∙ sym (part_length m at n l))
    (λ i b.
    let low : i < n = omega arith in
    part_byte (set m p x) at n i low ∙ get_or-set_other m p (at + i) x 0 (h i low) ∙ sym (part_byte m at n i low))

-- A record with tag 0 is not heard, and the others are as they were.
cleared_view : (m : List ℕ) (j : ℕ) → 65 * j < length m → view_at (set m (65 * j) 0) j ≡ unheard
unfolding view_at record_at view_of
cleared_view m j l = rw (get_or-set_same m (65 * j) 0 0 l)

other_view : (m : List ℕ) (j k x : ℕ) → 65 * k + 65 ≤ length m → (k ≡ j → ⊥) → view_at (set m (65 * j) x) k ≡ view_at m k
unfolding view_at record_at
other_view m j k x l ne =
    ap₂ view_of (get_or-set_other m (65 * j) (65 * k) x 0 (λ e. ne (omega arith)))
    (part_set m (65 * k + 1) 64 (65 * j) x (omega arith) (λ i b e. ne (omega arith)))

pub cleared_records : (m : List ℕ) (i j : ℕ) → j < i → 65 * i ≤ length m → records (set m (65 * j) 0) i ≡ views_without j (records m i)
unfolding views_without
cleared_records m i j l h =
    let long : length (set (records m i) j unheard) ≡ i = length-set (records m i) j unheard ∙ records_length m i in
    ext_get_or unheard (records (set m (65 * j) 0) i) (set (records m i) j unheard) (records_length (set m (65 * j) 0) i ∙ sym long)
    (λ k b. go k (omega (arith, records_length (set m (65 * j) 0) i)) (eq_or_ne k j))
  where
    go : (k : ℕ) → k < i → (k ≡ j) ⊎ (k ≡ j → ⊥) →
        get_or (records (set m (65 * j) 0) i) k unheard ≡ get_or (set (records m i) j unheard) k unheard
    go k low (inl e) =
        rw e
        (records_view (set m (65 * j) 0) i j l
        ∙ cleared_view m j (omega arith)
        ∙ sym (get_or-set_same (records m i) j unheard unheard (omega (arith, records_length m i))))
    go k low (inr ne) =
        records_view (set m (65 * j) 0) i k low
        ∙ other_view m j k 0 (omega arith) ne
        ∙ sym (get_or-set_other (records m i) j k unheard unheard ne ∙ records_view m i k low)

-- Whether a route was found tells whether the answer is none.
by_answer : (x : Option (List ℕ)) (vs vs' : List View) →
    (is_some x ≡ true → if_none (answer_of x) vs vs' ≡ vs') × (is_some x ≡ false → if_none (answer_of x) vs vs' ≡ vs)
unfolding if_none
by_answer None vs vs' = (λ t. absurd (true≢false (sym t)), λ n. refl)
by_answer (Some r) vs vs' = (λ t. refl, λ n. absurd (true≢false n))

-- One carrier tried: its record stays out, or is put back.
module _ (f : Floor) (rows : List ℕ) (i : ℕ) (m : List ℕ) (j : ℕ) (l : j < i) (h : 65 * i ≤ length m) (found : Option (List ℕ))
    (says : answer_of found ≡ best (task_of_rows f rows (i + 1)) (seen f (views_of (set m (65 * j) 0) (i + 1)))) where
  answer : respond_with f rows i (views_without j (records m i)) ≡ answer_of found
  unfolding respond_with
  answer =
      sym (says ∙ ap (λ vs. best (task_of_rows f rows (i + 1)) (seen f vs)) (views_above (set m (65 * j) 0) i ∙ cleared_records m i j l h))

  pub stays_out : is_some found ≡ false → records (set m (65 * j) 0) i ≡ tried (respond_with f rows i) j (records m i)
  unfolding tried
  stays_out none_there =
      cleared_records m i j l h
      ∙ sym (rw answer ((by_answer found (views_without j (records m i)) (records m i)).1 none_there))

  pub put_back : is_some found ≡ true →
      records (set (set m (65 * j) 0) (65 * j) (get_or m (65 * j) 0)) i ≡ tried (respond_with f rows i) j (records m i)
  unfolding tried
  put_back there =
      ap (λ xs. records xs i) (set-set m (65 * j) 0 (get_or m (65 * j) 0) ∙ set-get_or m (65 * j) 0)
      ∙ sym (rw answer ((by_answer found (views_without j (records m i)) (records m i)).0 there))

-- One more carrier tried.
module _ (respond : List View → Answer) (vs' : List View) where
  pub left_more : (j : ℕ) (vs'' vs : List View) → vs'' ≡ left_after respond j vs' → vs ≡ tried respond j vs'' →
      vs ≡ left_after respond (j + 1) vs'
  unfolding left_after
  left_more j vs'' vs e h = rw add-one (h ∙ ap (tried respond j) e)

  pub left_start : vs' ≡ left_after respond 0 vs'
  unfolding left_after
  left_start = refl

  pub left_end : (j i : ℕ) (vs : List View) → j ≤ i → i ≤ j → vs ≡ left_after respond j vs' → vs ≡ left_after respond i vs'
  left_end j i vs a b e =
      let same : j ≡ i = omega arith in
      rw same at e

-- The digit of a record in front of those that were counted.
by_tests : (x y : Bool) (cells : List ℕ) (vs : List View) →
    set_of (elim y [ true ↦ heard (route cells) | false ↦ elim x [ true ↦ heard none | false ↦ unheard ] ] ∷ vs)
    ≡ 2 * set_of vs + cond (x || y) 1 0
unfolding set_of
by_tests true true cells vs = refl
by_tests true false cells vs = refl
by_tests false true cells vs = refl
by_tests false false cells vs = sym (add-zero (2 * set_of vs))

view_digit : (m : List ℕ) (j : ℕ) (vs : List View) → set_of (view_at m j ∷ vs) ≡ 2 * set_of vs + heard_digit (get_or m (65 * j) 0)
unfolding view_at record_at view_of heard_digit
view_digit m j vs = by_tests (eqb (get_or m (65 * j) 0) 1) (eqb (get_or m (65 * j) 0) 2) (part m (65 * j + 1) 64) vs

digit_more : (m : List ℕ) (k j p : ℕ) → j < k → p ≡ set_of (drop (suc j) (records m k)) →
    2 * p + heard_digit (get_or m (65 * j) 0) ≡ set_of (drop j (records m k))
digit_more m k j p l e =
    let low : j < length (records m k) = omega (arith, records_length m k) in
    ap (λ (n : ℕ). 2 * n + heard_digit (get_or m (65 * j) 0)) e
    ∙ sym (view_digit m j (drop (suc j) (records m k)))
    ∙ ap (λ (v : View). set_of (v ∷ drop (suc j) (records m k))) (sym (records_view m k j l))
    ∙ ap set_of (sym (drop-cons (records m k) j unheard low))

-- The digits of the records from the last one down to record j: none, one more, all; they are below 256.
pub digit_start : (m : List ℕ) (k : ℕ) → 0 ≡ set_of (drop k (records m k))
unfolding set_of
digit_start m k = ap set_of (sym (drop_of_length-le (records m k) {i = k} (omega (arith, records_length m k))))

module _ (m : List ℕ) (k j p : ℕ) (e : p ≡ set_of (drop j (records m k))) where
  pub digit_again : 0 < j → j ≤ k → (d : ℕ) → d ≡ heard_digit (get_or m (65 * (j - 1)) 0) → 2 * p + d ≡ set_of (drop (j - 1) (records m k))
  digit_again l h d g =
      let before : j ≡ suc (j - 1) = omega arith in
      ap (λ (n : ℕ). 2 * p + n) g
      ∙ digit_more m k (j - 1) p (omega arith) (e ∙ ap (λ (n : ℕ). set_of (drop n (records m k))) before)

  pub digit_end : j ≤ 0 → p ≡ set_of (records m k)
  digit_end l =
      let none_left : j ≡ 0 = omega arith in
      rw none_left at e

  pub digit_small : k ≤ 8 → p < 256
  digit_small l =
      let few : length (drop j (records m k)) ≤ 8 = omega (arith, length-drop j (records m k), records_length m k) in
      omega (arith, e, set_below (drop j (records m k)) 8 few)

-- A search needs of the memory only its length.
pub still_searchable : {f : Floor} {rows : List ℕ} {i : ℕ} {m : List ℕ} (m' : List ℕ) → Searchable f rows i m → length m' ≡ length m →
    Searchable f rows i m'
still_searchable m' a e =
    record {
      width = a.width;
      height = a.height;
      horizon = a.horizon;
      listed = a.listed;
      start = a.start;
      few = a.few;
      docks = a.docks;
      lent = omega (arith, a.lent);
      long = a.long;
      clean = a.clean;
    }
