-- The record of an answer is its view; answers stored in front of a memory are the views of the carriers above.
use Prim.Native.Nat.{ℕ, zero, suc, ◌+◌, ◌*◌, ◌-◌}
use native.Mathlib.Omega.{arith}
use mathlib.Core.Path.{◌≡◌, refl, sym, ◌∙◌, ap, ap₂}
use mathlib.Core.List.{List, [], ◌∷◌, ◌++◌, map, append_assoc, append-nil}
use lib.ListN.{length, take, drop, length-append, replicate}
use lib.Seq.{get_or_at, drop_at, take_at, append_snoc}
use Rattle.route.specs.Route.{Answer, none, route, View, heard}
use Rattle.route.specs.Sequential.{sequential}
use Rattle.laws.specs.Memory.{part}
use Rattle.records.specs.Records.{view_of, record_at, view_at, records, views_of, record_of, records_of}

-- An answer whose record is whole.
abbrev pub Whole : Answer → Type 0
Whole x = length (record_of x) ≡ 65

pub none_whole : Whole none
unfolding record_of
none_whole = refl

pub route_whole : (r : List ℕ) → length r ≡ 64 → Whole (route r)
unfolding record_of
route_whole r e = ap suc e

-- One more record.
pub records_snoc : (xs : List Answer) (x : Answer) → records_of (xs ++ (x ∷ [])) ≡ records_of xs ++ record_of x
unfolding records_of
records_snoc [] x = append-nil (record_of x)
records_snoc (y ∷ xs) x = rw (records_snoc xs x) (sym (append_assoc (record_of y) (records_of xs) (record_of x)))

view_none : (cells : List ℕ) → view_of 1 cells ≡ heard none
unfolding view_of
view_none cells = refl

view_route : (cells : List ℕ) → view_of 2 cells ≡ heard (route cells)
unfolding view_of
view_route cells = refl

-- The cells behind a tag.
pub cells_behind : (pre r rest : List ℕ) (tag n : ℕ) → length pre ≡ n → length r ≡ 64
    → part (pre ++ (tag ∷ (r ++ rest))) (n + 1) 64 ≡ r
unfolding part
cells_behind pre r rest tag n s l =
    let front : length (pre ++ (tag ∷ [])) ≡ n + 1 = length-append pre (tag ∷ []) ∙ ap (λ (k : ℕ). k + 1) s in
    ap (λ (m : List ℕ). take 64 (drop (n + 1) m)) (sym (append_snoc pre tag (r ++ rest)))
    ∙ ap (take 64) (drop_at (pre ++ (tag ∷ [])) (r ++ rest) (n + 1) front)
    ∙ take_at r rest 64 l

-- A record is the view of its answer.
pub record_view : (pre rest : List ℕ) (x : Answer) (k : ℕ) → length pre ≡ 65 * k → Whole x →
    view_at (pre ++ (record_of x ++ rest)) k ≡ heard x
unfolding view_at record_at record_of
record_view pre rest none k s w =
    let cells = part (pre ++ (1 ∷ (replicate 64 0 ++ rest))) (65 * k + 1) 64 in
    ap (λ (tag : ℕ). view_of tag cells) (get_or_at pre 1 (replicate 64 0 ++ rest) 0 (65 * k) s) ∙ view_none cells
record_view pre rest (route r) k s w =
    ap₂ view_of (get_or_at pre 2 (r ++ rest) 0 (65 * k) s) (cells_behind pre r rest 2 (65 * k) s (omega (arith, w))) ∙ view_route r

-- The views of the carriers above carrier k, counted from 0.
pub views_above : (m : List ℕ) (k : ℕ) → views_of m (k + 1) ≡ records m k
unfolding views_of
views_above m k = let one : k + 1 - 1 ≡ k = omega arith in rw one

heard_snoc : (xs : List Answer) (x : Answer) → map heard (xs ++ (x ∷ [])) ≡ map heard xs ++ (heard x ∷ [])
heard_snoc [] x = refl
heard_snoc (y ∷ xs) x = ap (λ (vs : List View). heard y ∷ vs) (heard_snoc xs x)

module _ (respond : ℕ → List View → Answer) (whole : (k : ℕ) (vs : List View) → Whole (respond k vs)) where
  pub plan_length : (k : ℕ) → length (records_of (sequential respond k)) ≡ 65 * k
  unfolding sequential records_of
  plan_length zero = refl
  plan_length (suc k) =
      let x = respond k (map heard (sequential respond k)) in
      ap length (records_snoc (sequential respond k) x)
      ∙ length-append (records_of (sequential respond k)) (record_of x)
      ∙ omega (arith, plan_length k, whole k (map heard (sequential respond k)))

  next : ℕ → Answer
  next k = respond k (map heard (sequential respond k))

  -- The memory, taken apart in front of record k.
  apart : (k : ℕ) (m rest : List ℕ) → m ≡ records_of (sequential respond (suc k)) ++ rest
      → m ≡ records_of (sequential respond k) ++ (record_of (next k) ++ rest)
  unfolding sequential next
  apart k m rest e =
      e
      ∙ ap (λ (xs : List ℕ). xs ++ rest) (records_snoc (sequential respond k) (next k))
      ∙ append_assoc (records_of (sequential respond k)) (record_of (next k)) rest

  last_view : (k : ℕ) (m rest : List ℕ) → m ≡ records_of (sequential respond (suc k)) ++ rest → view_at m k ≡ heard (next k)
  unfolding next
  last_view k m rest e =
      ap (λ (xs : List ℕ). view_at xs k) (apart k m rest e)
      ∙ record_view (records_of (sequential respond k)) rest (next k) k (plan_length k) (whole k (map heard (sequential respond k)))

  -- The views of the first k records are the answers of the first k carriers.
  pub views_are : (k : ℕ) (m rest : List ℕ) → m ≡ records_of (sequential respond k) ++ rest → records m k ≡ map heard (sequential respond k)
  unfolding sequential records next
  views_are zero m rest e = refl
  views_are (suc k) m rest e =
      rw (
        heard_snoc (sequential respond k) (next k),
        views_are k m (record_of (next k) ++ rest) (apart k m rest e),
        last_view k m rest e,
      ) refl
