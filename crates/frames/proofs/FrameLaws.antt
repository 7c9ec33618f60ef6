-- The lines of arrivals, the frames and the whole text, and their lengths.
use Prim.Native.Nat.{ℕ, zero, suc, ◌+◌, ◌*◌, ◌≤◌, ◌<◌, min}
use native.Mathlib.Omega.{arith}
use mathlib.Core.Bool.{Bool, true, false}
use mathlib.Core.Path.{◌≡◌, ◌∙◌, ap}
use mathlib.Core.List.{List, [], ◌∷◌, ◌++◌}
use borrow.Author.Tests.{le-leb, lt-leb}
use lib.Dec.{leb, eqb}
use lib.ListN.{length, get_or, length-append}
use Rattle.laws.specs.Memory.{part}
use Rattle.laws.specs.Verdict.{passed}
use Rattle.reporting.proofs.WordsLaws.{short_within}
use Rattle.floor.specs.declared.Floor.{Floor}
use Rattle.floor.specs.Checks.{check_of}
use Rattle.floor.proofs.LimitsLaws.{check_tells}
use Rattle.route.specs.Route.{cell_at, Answer, none, route}
use Rattle.route.specs.Arrival.{arrival_of, settled}
use Rattle.records.specs.Records.{answer_in}
use Rattle.sheet.specs.Text.{lines_of}
use Rattle.printing.specs.Put.{TextPut}
use Rattle.printing.proofs.LinesLaws.{lines_within}
use Rattle.reporting.specs.Put.{PutAt}
use Rattle.reporting.proofs.ReportLaws.{put_behind}
use Rattle.reporting.proofs.PrintedLaws.{PrintsWithin}
use Rattle.blockers.specs.Inner.{PlanIn}
use Rattle.reporting.specs.Words.{short_decimal, carrier_words}
use Rattle.maps.specs.Map.{map_of}
use Rattle.reporting.proofs.LinesLaws.{nothing_put}
use Rattle.maps.proofs.MarkLaws.{cond_short}
use Rattle.maps.proofs.MapLaws.{grid_short, map_short}
use Rattle.frames.specs.Text.{arrives_words, stays_words, beat_words, frame_rows, frame_of, arrival_words}
use Rattle.frames.specs.Text.{arrival_line}
use Rattle.frames.specs.Text.{draw_head, draw_of, planned, floor_text, floor_beat}
use Rattle.frames.proofs.CellLaws.{answer_none, answer_route}
use Rattle.frames.proofs.PlanLaws.{answers_same}

-- What was put in front of a memory.
front_put : {text old new : List ℕ} {n : ℕ} → PutAt text old 0 new n → TextPut text old new n
front_put p = record { bytes = p.bytes; size = omega (arith, p.behind) }

-- The end of a carrier's line by the tag of its answer.
module _ (f : Floor) (m : List ℕ) (i : ℕ) (old : List ℕ) (at : ℕ) where
  pub stays_put : (new : List ℕ) (n : ℕ) → (get_or m (65 * i) 0 ≡ 2 → ⊥) → PutAt stays_words old at new n →
      PutAt (arrival_words f (answer_in m i)) old at new n
  unfolding arrival_words
  stays_put new n h p = rw (answer_none m i h) p

  pub arrives_put : (cells m₁ m₂ new : List ℕ) (n₁ x n₂ n : ℕ) → get_or m (65 * i) 0 ≡ 2 → f.horizon ≤ 63 → cells ≡ part m (65 * i + 1) 64 →
      x ≡ arrival_of cells (min f.horizon 63) → PutAt arrives_words old at m₁ n₁ → PutAt (short_decimal x) m₁ n₁ m₂ n₂ →
      PutAt (10 ∷ []) m₂ n₂ new n → at + 20 ≤ length old → PutAt (arrival_words f (answer_in m i)) old at new n
  unfolding arrival_words arrives_words
  arrives_put cells m₁ m₂ new n₁ x n₂ n h l e g p q r enough =
      let low : min f.horizon 63 ≡ f.horizon = omega arith in
      let same : x ≡ arrival_of (part m (65 * i + 1) 64) f.horizon =
      g ∙ ap (arrival_of cells) low ∙ ap (λ (xs : List ℕ). arrival_of xs f.horizon) e in
      let d = short_within x in
      rw (answer_route m i h, ← same)
      (put_behind (put_behind p q (omega (arith, p.behind, q.behind))) r (omega (arith, p.behind, q.behind, r.behind)))

-- An arrival is at most the horizon.
settled_low : (c : ℕ) (r : List ℕ) (n : ℕ) → settled c r n ≤ n
unfolding settled
settled_low c r zero = omega arith
settled_low c r (suc n) = go (eqb (cell_at r n) c) (settled_low c r n)
  where
    go : (x : Bool) → settled c r n ≤ n → elim x [ true ↦ settled c r n | false ↦ suc n ] ≤ suc n
    go true l = omega arith
    go false l = omega arith

pub arrival_low : (r : List ℕ) (H a : ℕ) → a ≡ arrival_of r (min H 63) → a < 100
unfolding arrival_of
arrival_low r H a e = omega (arith, settled_low (cell_at r (min H 63)) r (min H 63))

-- The line of a carrier.
words_short : (f : Floor) (x : Answer) → length (arrival_words f x) ≤ 37
unfolding arrival_words arrives_words stays_words
words_short f none = omega arith
words_short f (route r) =
    omega (
      arith,
      length-append (arrives_words ++ short_decimal (arrival_of r f.horizon)) (10 ∷ []),
      length-append arrives_words (short_decimal (arrival_of r f.horizon)),
      short_within (arrival_of r f.horizon),
    )

pub arrival_short : (f : Floor) (xs : ℕ → Answer) (i : ℕ) → length (arrival_line f xs i) ≤ 46
unfolding arrival_line carrier_words
arrival_short f xs i = omega (arith, length-append (carrier_words ++ ((49 + i) ∷ [])) (arrival_words f (xs i)), words_short f (xs i))

pub arrival_put : (f : Floor) (xs : ℕ → Answer) (i at n₁ n₂ n : ℕ) (old m₁ m₂ new : List ℕ) → PutAt carrier_words old at m₁ n₁ →
    PutAt ((49 + i) ∷ []) m₁ n₁ m₂ n₂ → PutAt (arrival_words f (xs i)) m₂ n₂ new n → at + 46 ≤ length old →
    PutAt (arrival_line f xs i) old at new n
unfolding arrival_line carrier_words
arrival_put f xs i at n₁ n₂ n old m₁ m₂ new p q r l =
    let s = words_short f (xs i) in
    put_behind (put_behind p q (omega (arith, p.behind, q.behind))) r (omega (arith, p.behind, q.behind, r.behind))

-- The frames of an accepted floor.
module _ (f : Floor) (ws : List ℕ) (ok : check_of f ws ≡ passed) (xs : ℕ → Answer) where
  rows_short : (t : ℕ) → length (frame_rows f ws xs t) ≤ 1056
  unfolding frame_rows
  rows_short t =
      let b = (check_tells f ws ok).bounds in
      grid_short _ f.width b.width.1 f.height b.height.1

  pub frame_short : (t : ℕ) → length (frame_of f ws xs t) ≤ 1064
  unfolding frame_of beat_words
  frame_short t =
      omega (
        arith,
        length-append ((beat_words ++ short_decimal t) ++ (10 ∷ [])) (frame_rows f ws xs t),
        length-append (beat_words ++ short_decimal t) (10 ∷ []),
        length-append beat_words (short_decimal t),
        short_within t,
        rows_short t,
      )

  pub frame_put : (t at n₁ n₂ n₃ n : ℕ) (old m₁ m₂ m₃ new : List ℕ) → PutAt beat_words old at m₁ n₁ → PutAt (short_decimal t) m₁ n₁ m₂ n₂ →
      PutAt (10 ∷ []) m₂ n₂ m₃ n₃ → PutAt (frame_rows f ws xs t) m₃ n₃ new n → at + 1064 ≤ length old →
      PutAt (frame_of f ws xs t) old at new n
  unfolding frame_of beat_words
  frame_put t at n₁ n₂ n₃ n old m₁ m₂ m₃ new p q r s l =
      let n₄ = short_within t in
      let g = rows_short t in
      let line : PutAt ((beat_words ++ short_decimal t) ++ (10 ∷ [])) old at m₃ n₃ =
      put_behind (put_behind p q (omega (arith, p.behind, q.behind))) r (omega (arith, p.behind, q.behind, r.behind)) in
      put_behind line s (omega (arith, p.behind, q.behind, r.behind, s.behind))

  -- An empty line and a frame.
  pub next_short : (t : ℕ) → length ((10 ∷ []) ++ frame_of f ws xs t) ≤ 1065
  next_short t = omega (arith, length-append (10 ∷ []) (frame_of f ws xs t), frame_short t)

  pub next_put : (t at a n : ℕ) (old m₁ new : List ℕ) → PutAt (10 ∷ []) old at m₁ a → PutAt (frame_of f ws xs t) m₁ a new n →
      at + 1065 ≤ length old → PutAt ((10 ∷ []) ++ frame_of f ws xs t) old at new n
  next_put t at a n old m₁ new p q l = put_behind p q (omega (arith, p.behind, q.behind, frame_short t))

  -- The head.
  lines_short : length (lines_of (arrival_line f xs) f.carriers) ≤ 368
  lines_short =
      omega (arith, (check_tells f ws ok).bounds.carriers.1, lines_within (arrival_line f xs) 46 f.carriers (arrival_short f xs))

  pub head_short : length (draw_head f ws xs) ≤ 20901
  unfolding draw_head
  head_short =
      omega (
        arith,
        length-append (map_of f ws ++ (10 ∷ [])) (lines_of (arrival_line f xs) f.carriers),
        length-append (map_of f ws) (10 ∷ []),
        map_short f ws ok,
        lines_short,
      )

  pub head_put : (n₁ n₂ n : ℕ) (old m₁ m₂ new : List ℕ) → PutAt (map_of f ws) old 0 m₁ n₁ → PutAt (10 ∷ []) m₁ n₁ m₂ n₂ →
      PutAt (lines_of (arrival_line f xs) f.carriers) m₂ n₂ new n → 20901 ≤ length old → PutAt (draw_head f ws xs) old 0 new n
  unfolding draw_head
  head_put n₁ n₂ n old m₁ m₂ new p q r l =
      let s = map_short f ws ok in
      let g = lines_short in
      put_behind (put_behind p q (omega (arith, p.behind, q.behind))) r (omega (arith, p.behind, q.behind, r.behind))

  beats_short : length (lines_of (λ (t : ℕ). (10 ∷ []) ++ frame_of f ws xs t) (f.horizon + 1)) ≤ 68160
  beats_short =
      omega (
        arith,
        (check_tells f ws ok).bounds.horizon.1,
        lines_within (λ (t : ℕ). (10 ∷ []) ++ frame_of f ws xs t) 1065 (f.horizon + 1) next_short,
      )

  pub draw_short : length (draw_of f ws xs) ≤ 89061
  unfolding draw_of
  draw_short =
      omega (
        arith,
        length-append (draw_head f ws xs) (lines_of (λ (t : ℕ). (10 ∷ []) ++ frame_of f ws xs t) (f.horizon + 1)),
        head_short,
        beats_short,
      )

  pub draw_put : (a n : ℕ) (old m₁ new : List ℕ) → PutAt (draw_head f ws xs) old 0 m₁ a →
      PutAt (lines_of (λ (t : ℕ). (10 ∷ []) ++ frame_of f ws xs t) (f.horizon + 1)) m₁ a new n → 89061 ≤ length old →
      TextPut (draw_of f ws xs) old new n
  unfolding draw_of
  draw_put a n old m₁ new p q l =
      let h = head_short in
      let g = beats_short in
      front_put (put_behind p q (omega (arith, p.behind, q.behind)))

-- What the whole text and one beat come to for the plan in a memory.
module _ (f : Floor) (ws : List ℕ) (ok : check_of f ws ≡ passed) (m old new : List ℕ) (n : ℕ) where
  pub whole_text : PlanIn f ws m → TextPut (draw_of f ws (answer_in m)) old new n → TextPut (floor_text f ws) old new n
  unfolding floor_text
  whole_text own p = rw (← answers_same f ws m ok own) p

  pub beat_text_lem : (t : ℕ) → PlanIn f ws m → t ≤ f.horizon → PutAt (frame_of f ws (answer_in m) t) old 0 new n →
      TextPut (floor_beat t f ws) old new n
  unfolding floor_beat
  beat_text_lem t own l p = rw (le-leb t f.horizon l, ← answers_same f ws m ok own) (front_put p)

pub beat_above : (f : Floor) (ws : List ℕ) (t : ℕ) (old : List ℕ) → f.horizon < t → TextPut (floor_beat t f ws) old old 0
unfolding floor_beat
beat_above f ws t old l = rw (lt-leb t f.horizon l) (front_put (nothing_put old 0))

pub whole_within : PrintsWithin floor_text 89061
unfolding floor_text
whole_within = record { short = λ f ws ok. draw_short f ws ok (planned f ws) }

pub beat_within : (t : ℕ) → PrintsWithin (floor_beat t) 1064
unfolding floor_beat
beat_within t = record { short = λ f ws ok. cond_short (leb t f.horizon) _ 1064 (frame_short f ws ok (planned f ws) t) }
