-- What a record shows, and which records are valid: those of a view with sound cells, and no others.
use Prim.Native.Nat.{ℕ, ◌+◌, ◌*◌, ◌≤◌, ◌<◌}
use native.Mathlib.Omega.{arith}
use mathlib.Core.Bool.{true}
use mathlib.Core.List.{List}
use mathlib.Core.Logic.{⊎_elim}
use mathlib.Core.Path.{◌≡◌, refl, sym, ◌∙◌, ap}
use borrow.Author.Tests.{ltb-true, leb-true, eqb-true, lt-ltb, le-ltb, le-leb, eq-eqb}
use lib.Dec.{leb, ltb, eqb}
use lib.ListN.{length, get_or, get_or-eq_default}
use Rattle.laws.specs.Memory.{part}
use Rattle.laws.proofs.PartLaws.{part_byte, part_length, part_is, part_reach}
use Rattle.floor.specs.declared.Floor.{Floor}
use Rattle.floor.specs.Checks.{within}
use Rattle.route.specs.Route.{Answer, none, route, View, unheard, heard}
use Rattle.laws.proofs.Tests.{and_both, and_fst, and_snd, lt_or_le, eq_or_ne}
use Rattle.records.specs.Records.{view_of, record_of, slot, record_at, shown}
use Rattle.records.proofs.RecordLaws.{Whole}
use Rattle.reference.specs.Bounds.{ShownOf}
use Rattle.laws.proofs.HoldLaws.{each_holds, each_true}
use Rattle.encoding.specs.Valid.{used_by, cell_valid, cells_valid, record_valid}
use Rattle.encoding.specs.Ranges.{Sound}
use Rattle.records.proofs.SlotLaws.{slot_length, view_tag, view_number, tag_most, heard_least, tag_read, number_read}
use Rattle.records.proofs.SlotLaws.{part_slot, shows_answer, shows_nothing}

-- A number of a record is valid: below the used ones a cell of the grid, behind them 0.
cell_used : (used cells t x : ℕ) → t < used → cell_valid used cells t x ≡ ltb x cells
unfolding cell_valid
cell_used used cells t x l = rw (lt-ltb t used l)

cell_unused : (used cells t x : ℕ) → used ≤ t → cell_valid used cells t x ≡ eqb x 0
unfolding cell_valid
cell_unused used cells t x l = rw (le-ltb t used l)

-- Every number of a view with sound cells is valid.
number_valid : (f : Floor) (v : View) (t : ℕ) → ShownOf (Sound f) v
    → cell_valid (used_by (view_tag v) f.horizon) (f.width * f.height) t (view_number v t) ≡ true
unfolding view_tag view_number used_by ShownOf Sound
number_valid f unheard t h = cell_unused 0 (f.width * f.height) t 0 (omega arith)
number_valid f (heard none) t h = cell_unused 0 (f.width * f.height) t 0 (omega arith)
number_valid f (heard (route r)) t h =
    let used = f.horizon + 1 in
    let cells = f.width * f.height in
    let x = get_or r t 0 in
    ⊎_elim (λ (l : t < used). cell_used used cells t x l ∙ lt-ltb x cells (h.inside t (omega arith)))
    (λ (l : used ≤ t). cell_unused used cells t x l ∙ eq-eqb x 0 (h.behind t (omega arith))) (lt_or_le t used)

module _ (m : List ℕ) (at : ℕ) (v : View) (e : part m at 65 ≡ slot v) where
  -- The record of a view with sound cells is valid where its tag may stand.
  pub view_valid : (f : Floor) (low high : ℕ) → ShownOf (Sound f) v → low ≤ view_tag v → view_tag v ≤ high →
      record_valid f m at low high ≡ true
  unfolding record_valid within cells_valid
  view_valid f low high h a b =
      rw (tag_read m at v e)
      (and_both (and_both (le-leb low (view_tag v) a) (le-leb (view_tag v) high b))
      (each_true 64 (λ t. cell_valid (used_by (view_tag v) f.horizon) (f.width * f.height) t (get_or m (at + 1 + t) 0))
      (λ t l. rw (number_read m at v e t l) (number_valid f v t h))))

  -- The record of a view is valid,
  pub seen_valid : (f : Floor) → ShownOf (Sound f) v → record_valid f m at 0 2 ≡ true
  seen_valid f h = view_valid f 0 2 h (omega arith) (tag_most v)

-- that of an answer,
pub answer_valid : (f : Floor) (m : List ℕ) (at : ℕ) (x : Answer) → part m at 65 ≡ slot (heard x) → Sound f x
    → record_valid f m at 1 2 ≡ true
unfolding ShownOf
answer_valid f m at x e h = view_valid m at (heard x) e f 1 2 h (heard_least x) (tag_most (heard x))

-- and that of an unused place.
pub unused_valid : (f : Floor) (m : List ℕ) (at : ℕ) → part m at 65 ≡ slot unheard → record_valid f m at 0 0 ≡ true
unfolding view_tag ShownOf
unused_valid f m at e = view_valid m at unheard e f 0 0 tt (omega arith) (omega arith)

-- The record of a view whose answer is whole shows that view.
pub record_shows : (m : List ℕ) (at : ℕ) (v : View) → part m at 65 ≡ slot v → ShownOf Whole v → record_at m at ≡ v
unfolding record_at view_of view_tag view_number ShownOf record_of
record_shows m at unheard e h = rw (tag_read m at unheard e)
record_shows m at (heard none) e h = rw (tag_read m at (heard none) e)
record_shows m at (heard (route r)) e h =
    let v = heard (route r) in
    let reach : at + 65 ≤ length m = part_reach m at 65 (omega arith) (ap length e ∙ slot_length v) in
    let cells : part m (at + 1) 64 ≡ r = part_is m (at + 1) 64 r (omega arith) (omega (arith, h)) (number_read m at v e) in
    rw (tag_read m at v e, cells)

-- A sound answer is whole, and so is the sound answer that a view shows.
pub sound_whole : (f : Floor) (x : Answer) → Sound f x → Whole x
unfolding Sound record_of
sound_whole f none h = refl
sound_whole f (route r) h = omega (arith, h.long)

pub shown_whole : (f : Floor) (v : View) → ShownOf (Sound f) v → ShownOf Whole v
unfolding ShownOf
shown_whole f unheard h = tt
shown_whole f (heard x) h = sound_whole f x h

-- What a valid record tells: it is the record of the view that it shows, whose cells are sound, and its tag is within the range.
pub record Recorded (f : Floor) (m : List ℕ) (at low high : ℕ) (v : View) : Type 0 where
  pub same : part m at 65 ≡ slot v
  pub sound : ShownOf (Sound f) v
  pub least : low ≤ view_tag v
  pub most : view_tag v ≤ high

module _ (f : Floor) (m : List ℕ) (at low high : ℕ) (short : f.horizon ≤ 63) (long : at + 65 ≤ length m) (small : high ≤ 2)
    (e : record_valid f m at low high ≡ true) where
  abbrev cells : ℕ
  cells = f.width * f.height

  abbrev tag : ℕ
  tag = get_or m at 0

  tag_within : (low ≤ tag) × (tag ≤ high)
  unfolding record_valid within
  tag_within =
      let w = and_fst (within low high tag) (cells_valid m (at + 1) (used_by tag f.horizon) cells) e in
      (leb-true low tag (and_fst (leb low tag) (leb tag high) w), leb-true tag high (and_snd (leb low tag) (leb tag high) w))

  number_holds : (used : ℕ) → used_by tag f.horizon ≡ used → (t : ℕ) → t < 64
      → cell_valid used cells t (get_or m (at + 1 + t) 0) ≡ true
  unfolding record_valid cells_valid
  number_holds used q t l =
      rw (← q)
      (each_holds 64 (λ t. cell_valid (used_by tag f.horizon) cells t (get_or m (at + 1 + t) 0))
      (and_snd (within low high tag) (cells_valid m (at + 1) (used_by tag f.horizon) cells) e) t l)

  -- Behind the used numbers there are zeros.
  zero_behind : (used : ℕ) → used_by tag f.horizon ≡ used → (t : ℕ) → used ≤ t → t < 64 → get_or m (at + 1 + t) 0 ≡ 0
  zero_behind used q t b l =
      let x = get_or m (at + 1 + t) 0 in
      eqb-true x 0 (sym (cell_unused used cells t x b) ∙ number_holds used q t l)

  -- Below them there are cells of the grid.
  cell_inside : (used : ℕ) → used_by tag f.horizon ≡ used → (t : ℕ) → t < used → t < 64 → get_or m (at + 1 + t) 0 < cells
  cell_inside used q t b l =
      let x = get_or m (at + 1 + t) 0 in
      ltb-true x cells (sym (cell_used used cells t x b) ∙ number_holds used q t l)

  recorded : (v : View) → record_at m at ≡ v → tag ≡ view_tag v → ((t : ℕ) → t < 64 → get_or m (at + 1 + t) 0 ≡ view_number v t)
      → ShownOf (Sound f) v → Recorded f m at low high (record_at m at)
  recorded v q s h k =
      rw q
      (record {
        same = part_slot m at v long s h;
        sound = k;
        least = omega (arith, tag_within);
        most = omega (arith, tag_within);
      })

  recorded_unheard : tag ≡ 0 → Recorded f m at low high (record_at m at)
  unfolding record_at view_of view_tag view_number used_by ShownOf
  recorded_unheard q = recorded unheard (rw q) q (λ t l. zero_behind 0 (rw q) t (omega arith) l) tt

  recorded_none : tag ≡ 1 → Recorded f m at low high (record_at m at)
  unfolding record_at view_of view_tag view_number used_by ShownOf Sound
  recorded_none q = recorded (heard none) (rw q) q (λ t l. zero_behind 0 (rw q) t (omega arith) l) tt

  -- The cells of a route.
  recorded_route : tag ≡ 2 → Recorded f m at low high (record_at m at)
  unfolding record_at view_of view_tag view_number used_by ShownOf Sound
  recorded_route q =
      let r = part m (at + 1) 64 in
      let used : used_by tag f.horizon ≡ f.horizon + 1 = rw q in
      let same : (t : ℕ) → t < 64 → get_or m (at + 1 + t) 0 ≡ get_or r t 0 = λ t l. sym (part_byte m (at + 1) 64 t l) in
      let size : length r ≡ 64 = part_length m (at + 1) 64 (omega arith) in
      recorded (heard (route r)) (rw q) q same
      (record {
        long = size;
        inside = λ t l. rw (← same t (omega arith)) (cell_inside (f.horizon + 1) used t (omega arith) (omega arith));
        behind =
            λ t l.
            ⊎_elim (λ (k : t < 64). sym (same t k) ∙ zero_behind (f.horizon + 1) used t (omega arith) k)
            (λ (k : 64 ≤ t). get_or-eq_default r 0 (rw size k)) (lt_or_le t 64);
      })

  pub record_told : Recorded f m at low high (record_at m at)
  record_told =
      ⊎_elim (λ (q : tag ≡ 2). recorded_route q)
      (λ (n : tag ≡ 2 → ⊥).
      ⊎_elim (λ (q : tag ≡ 1). recorded_none q) (λ (k : tag ≡ 1 → ⊥). recorded_unheard (omega (arith, tag_within))) (eq_or_ne tag 1))
      (eq_or_ne tag 2)

-- What is shown is sound; nothing shown counts as none.
shown_sound : (f : Floor) (v : View) → ShownOf (Sound f) v → Sound f (shown v)
unfolding ShownOf Sound shown
shown_sound f unheard h = tt
shown_sound f (heard x) h = h

-- A valid answer is the record of the answer that it shows, whose cells are sound.
pub answer_told : (f : Floor) (m : List ℕ) (at : ℕ) → f.horizon ≤ 63 → at + 65 ≤ length m → record_valid f m at 1 2 ≡ true
    → (part m at 65 ≡ slot (heard (shown (record_at m at)))) × Sound f (shown (record_at m at))
answer_told f m at short long e =
    let v = record_at m at in
    let r = record_told f m at 1 2 short long (omega arith) e in
    (r.same ∙ ap slot (sym (shows_answer v r.least)), shown_sound f v r.sound)

-- A valid unused place is the record of nothing heard.
pub unused_told : (f : Floor) (m : List ℕ) (at : ℕ) → f.horizon ≤ 63 → at + 65 ≤ length m → record_valid f m at 0 0 ≡ true
    → part m at 65 ≡ slot unheard
unused_told f m at short long e =
    let r = record_told f m at 0 0 short long (omega arith) e in
    r.same ∙ ap slot (shows_nothing (record_at m at) r.most)
