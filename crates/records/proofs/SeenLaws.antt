-- Views as they are seen, one by one; a memory whose records are those of another as they are seen.
use Prim.Native.Nat.{ℕ, zero, suc, ◌+◌, ◌*◌, ◌-◌, ◌≤◌, ◌<◌}
use native.Mathlib.Omega.{arith}
use native.Mathlib.Nat.{add-zero}
use native.Mathlib.Numerals.{add-one}
use mathlib.Core.Bool.{Bool, true, false, cond}
use mathlib.Core.List.{List, [], ◌∷◌, ◌++◌}
use mathlib.Core.Path.{subst, ◌≡◌, refl, sym, ◌∙◌, ap, ap₂}
use Rattle.std.proofs.lemmas.List.{drop-replicate}
use borrow.Author.Count.{below_more}
use borrow.Author.Tests.{eqb-true, eq-eqb, ne_eqb}
use lib.Dec.{eqb}
use lib.ListN.{length, get_or, take, drop, replicate, length-append, length-replicate, get_or-append}
use lib.Seq.{get_or_at, get_or-take, length-take-le, ext_get_or}
use Rattle.laws.specs.Memory.{put, part}
use Rattle.laws.proofs.PartLaws.{part_byte, part_length}
use Rattle.laws.proofs.PutLaws.{put_length}
use Rattle.floor.specs.declared.Floor.{Floor}
use Rattle.floor.specs.Checks.{start_of}
use Rattle.route.specs.Route.{none, route, View, unheard, heard}
use Rattle.records.specs.Records.{view_of, record_at, view_at, records}
use Rattle.records.specs.Seen.{parked, seen_as, seen_from, seen, seen_record}
use Rattle.records.proofs.LoadLaws.{part_first}
use Rattle.records.proofs.RecordLaws.{cells_behind}

-- The cells of a parked route: those through the last beat filled, the others 0.
pub park_end : (k last : ℕ) (xs : List ℕ) → last ≤ 63 → xs ≡ replicate (length {A = ℕ} (take (last + 1) (replicate 64 0))) k
    → xs ++ drop (last + 1) (replicate 64 0) ≡ replicate (last + 1) k ++ replicate (63 - last) 0
park_end k last xs l e =
    let rest : 64 - (last + 1) ≡ 63 - last = omega arith in
    let front : length {A = ℕ} (take (last + 1) (replicate 64 0)) ≡ last + 1 =
    length-take-le (last + 1) (replicate 64 0) (omega arith) in
    rw (e, front, drop-replicate {X = ℕ} (last + 1) 64 0, rest) refl

pub parked_length : (f : Floor) (j : ℕ) → f.horizon ≤ 63 → length (parked f j) ≡ 64
unfolding parked
parked_length f j l =
    length-append (replicate (f.horizon + 1) (start_of f j)) (replicate (63 - f.horizon) 0)
    ∙ rw (length-replicate {A = ℕ} (f.horizon + 1) (start_of f j), length-replicate {A = ℕ} (63 - f.horizon) 0) (omega arith)

-- One more view.
seen_snoc : (f : Floor) (j : ℕ) (vs : List View) (v : View) →
    seen_from f j (vs ++ (v ∷ [])) ≡ seen_from f j vs ++ (seen_as f (j + length vs) v ∷ [])
unfolding seen_from
seen_snoc f j [] v = rw add-zero refl
seen_snoc f j (v' ∷ vs) v =
    let place : suc j + length vs ≡ j + suc (length vs) = omega arith in
    ap (λ (vs : List View). seen_as f j v' ∷ vs)
    (seen_snoc f (suc j) vs v ∙ ap (λ (k : ℕ). seen_from f (suc j) vs ++ (seen_as f k v ∷ [])) place)

pub records_length : (m : List ℕ) (k : ℕ) → length (records m k) ≡ k
unfolding records
records_length m zero = refl
records_length m (suc k) = length-append (records m k) (view_at m k ∷ []) ∙ omega (arith, records_length m k)

-- View j of the first k records.
pub records_view : (m : List ℕ) (k j : ℕ) → j < k → get_or (records m k) j unheard ≡ view_at m j
unfolding records
records_view m zero j l = absurd (omega arith)
records_view m (suc k) j l =
    below_more (λ (i : ℕ). get_or (records m k ++ (view_at m k ∷ [])) i unheard ≡ view_at m i) k
    (λ i h. get_or-append (records m k) _ unheard i (rw (records_length m k) h) ∙ records_view m k i h)
    (get_or_at (records m k) _ [] unheard k (records_length m k)) j (omega arith)

pub seen_more : (f : Floor) (vs : List View) (v : View) (k : ℕ) → length vs ≡ k → seen f (vs ++ (v ∷ [])) ≡ seen f vs ++ (seen_as f k v ∷ [])
unfolding seen
seen_more f vs v k e = seen_snoc f 0 vs v ∙ ap (λ (i : ℕ). seen_from f 0 vs ++ (seen_as f i v ∷ [])) (omega (arith, e))

-- A record that is stored is the view of its tag and its cells.
put_view : (q cells : List ℕ) (tag j : ℕ) → 65 * j ≤ length q → length cells ≡ 64 →
    view_at (put q (65 * j) (tag ∷ cells)) j ≡ view_of tag cells
unfolding view_at record_at put
put_view q cells tag j l s =
    let front : length (take (65 * j) q) ≡ 65 * j = length-take-le (65 * j) q l in
    let rest = drop (65 * j + length (tag ∷ cells)) q in
    ap₂ view_of (get_or_at (take (65 * j) q) tag (cells ++ rest) 0 (65 * j) front)
    (cells_behind (take (65 * j) q) cells rest tag (65 * j) front s)

-- A tag other than 1 does not say none, and its view is seen as it is.
by_tests : (x y : Bool) (f : Floor) (j : ℕ) (cells : List ℕ) → y ≡ false →
    seen_as f j (elim x [ true ↦ heard (route cells) | false ↦ elim y [ true ↦ heard none | false ↦ unheard ] ])
    ≡ elim x [ true ↦ heard (route cells) | false ↦ elim y [ true ↦ heard none | false ↦ unheard ] ]
unfolding seen_as
by_tests true y f j cells e = refl
by_tests false true f j cells e = absurd (let z : ◌≡◌ {A = ℕ} 0 1 = cc in omega arith)
by_tests false false f j cells e = refl

as_it_is : (f : Floor) (j tag : ℕ) (cells : List ℕ) → eqb tag 1 ≡ false → seen_as f j (view_of tag cells) ≡ view_of tag cells
unfolding view_of
as_it_is f j tag cells e = by_tests (eqb tag 2) (eqb tag 1) f j cells e

none_seen : (f : Floor) (j : ℕ) (xs cells : List ℕ) → parked f j ≡ xs → view_of 2 xs ≡ seen_as f j (view_of 1 cells)
unfolding view_of seen_as
none_seen f j xs cells e = rw e refl

-- A record stored as it is seen shows its view as it is seen.
module _ (f : Floor) (q m : List ℕ) (j : ℕ) (short : f.horizon ≤ 63) (l : 65 * j ≤ length q) (h : 65 * j + 65 ≤ length m) where
  abbrev tag : ℕ
  tag = get_or m (65 * j) 0

  abbrev cells : List ℕ
  cells = part m (65 * j + 1) 64

  by_tag : (x : Bool) → eqb tag 1 ≡ x →
      view_at (put q (65 * j) (cond x (2 ∷ parked f j) (part m (65 * j) 65))) j ≡ seen_as f j (view_of tag cells)
  by_tag true e =
      put_view q (parked f j) 2 j l (parked_length f j short)
      ∙ none_seen f j (parked f j) cells refl
      ∙ ap (λ (tag : ℕ). seen_as f j (view_of tag cells)) (sym (eqb-true tag 1 e))
  by_tag false e =
      ap (λ (xs : List ℕ). view_at (put q (65 * j) xs) j) (sym (part_first m (65 * j) 64 (omega arith)))
      ∙ put_view q cells tag j l (part_length m (65 * j + 1) 64 (omega arith))
      ∙ sym (as_it_is f j tag cells e)

  record_seen : view_at (put q (65 * j) (seen_record f j m)) j ≡ seen_as f j (view_at m j)
  unfolding seen_record view_at record_at
  record_seen = by_tag (eqb tag 1) refl

-- What stands in front of a block that is stored is as it was.
pub put_before : (m xs : List ℕ) (at i : ℕ) → at ≤ length m → i < at → get_or (put m at xs) i 0 ≡ get_or m i 0
unfolding put
put_before m xs at i l h =
    get_or-append (take at m) (xs ++ drop (at + length xs) m) 0 i (omega (arith, length-take-le at m l)) ∙ get_or-take at m i 0 h

-- Memories that agree in their first k records show the same views there.
view_same : (m q : List ℕ) (j : ℕ) → 65 * j + 65 ≤ length m → 65 * j + 65 ≤ length q →
    ((i : ℕ) → i < 65 * j + 65 → get_or m i 0 ≡ get_or q i 0) → view_at m j ≡ view_at q j
unfolding view_at record_at
view_same m q j l h same =
    let at = 65 * j + 1 in
    ap₂ view_of (same (65 * j) (omega arith))
    (ext_get_or 0 (part m at 64) (part q at 64) (part_length m at 64 (omega arith) ∙ sym (part_length q at 64 (omega arith)))
    (λ i k.
    let b : i < 64 = omega (arith, part_length m at 64 (omega arith)) in
    part_byte m at 64 i b ∙ same (at + i) (omega arith) ∙ sym (part_byte q at 64 i b)))

pub records_same : (m q : List ℕ) (k : ℕ) → 65 * k ≤ length m → 65 * k ≤ length q → ((i : ℕ) → i < 65 * k → get_or m i 0 ≡ get_or q i 0) →
    records m k ≡ records q k
unfolding records
records_same m q zero l h same = refl
records_same m q (suc k) l h same =
    ap₂ (λ (vs : List View) (v : View). vs ++ (v ∷ []))
    (records_same m q k (omega arith) (omega arith) (λ i b. same i (omega arith)))
    (view_same m q k (omega arith) (omega arith) (λ i b. same i (omega arith)))

-- Records stored behind the first k leave these as they are.
pub put_records : (m xs : List ℕ) (k : ℕ) → 65 * k + length xs ≤ length m → records (put m (65 * k) xs) k ≡ records m k
put_records m xs k l =
    records_same (put m (65 * k) xs) m k (omega (arith, put_length m xs (65 * k) l)) (omega arith)
    (λ i h. put_before m xs (65 * k) i (omega arith) h)

-- The length of a record as it is seen.
seen_length : (f : Floor) (j : ℕ) (m : List ℕ) → f.horizon ≤ 63 → 65 * j + 65 ≤ length m → length (seen_record f j m) ≡ 65
unfolding seen_record
seen_length f j m short h = go (eqb (get_or m (65 * j) 0) 1)
  where
    go : (x : Bool) → length {A = ℕ} (cond x (2 ∷ parked f j) (part m (65 * j) 65)) ≡ 65
    go true = ap suc (parked_length f j short)
    go false = part_length m (65 * j) 65 h

-- One more record stored as it is seen.
module _ (f : Floor) (m q q' : List ℕ) (j : ℕ) (short : f.horizon ≤ 63) (l : 65 * j + 65 ≤ length q) (h : 65 * j + 65 ≤ length m)
    (e : q' ≡ put q (65 * j) (seen_record f j m)) where
  pub seen_keeps : length q' ≡ length q
  seen_keeps = ap length e ∙ put_length q (seen_record f j m) (65 * j) (omega (arith, seen_length f j m short h))

  pub seen_step : records q j ≡ seen f (records m j) → records q' (j + 1) ≡ seen f (records m (j + 1))
  unfolding records
  seen_step before =
      subst (λ (r : List ℕ). records r (j + 1) ≡ seen f (records m (j + 1))) (sym e)
      (rw (add-one j)
      (ap₂ (λ (vs : List View) (v : View). vs ++ (v ∷ []))
      (put_records q (seen_record f j m) j (omega (arith, seen_length f j m short h)) ∙ before)
      (record_seen f q m j short (omega arith) h)
      ∙ sym (seen_more f (records m j) (view_at m j) j (records_length m j))))

-- Before the first record, and after the last.
pub seen_start : (f : Floor) (m q : List ℕ) → records q 0 ≡ seen f (records m 0)
unfolding records seen seen_from
seen_start f m q = refl

pub seen_end : (f : Floor) (m q : List ℕ) (j k : ℕ) → j ≤ k → k ≤ j → records q j ≡ seen f (records m j) →
    records q k ≡ seen f (records m k)
seen_end f m q j k l h e =
    let same : j ≡ k = omega arith in
    rw same at e

-- What is stored for a record that says none, and for any other one, is the record as it is seen.
module _ (f : Floor) (m old q r : List ℕ) (j : ℕ) where
  pub stored_parked : get_or m (65 * j) 0 ≡ 1 → r ≡ replicate (f.horizon + 1) (start_of f j) ++ replicate (63 - f.horizon) 0 →
      q ≡ put old (65 * j) (2 ∷ r) → q ≡ put old (65 * j) (seen_record f j m)
  unfolding seen_record parked
  stored_parked e p g = g ∙ ap (put old (65 * j)) (rw (eq-eqb (get_or m (65 * j) 0) 1 e, p) refl)

  pub stored_plain : (get_or m (65 * j) 0 ≡ 1 → ⊥) → 65 * j < length m → r ≡ part m (65 * j + 1) 64 →
      q ≡ put old (65 * j) (get_or m (65 * j) 0 ∷ r) → q ≡ put old (65 * j) (seen_record f j m)
  unfolding seen_record
  stored_plain e l p g =
      g
      ∙ ap (put old (65 * j)) (rw (ne_eqb (get_or m (65 * j) 0) 1 e)
      (ap (λ (xs : List ℕ). get_or m (65 * j) 0 ∷ xs) p ∙ part_first m (65 * j) 64 l))
