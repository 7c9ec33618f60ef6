-- The lines of stranded carriers, and their lengths.
use Prim.Native.Nat.{ℕ, ◌+◌, ◌≤◌}
use native.Mathlib.Omega.{arith}
use mathlib.Core.Bool.{Bool, true, false, cond}
use mathlib.Core.List.{List, [], ◌∷◌, ◌++◌}
use mathlib.Core.Path.{◌≡◌, refl, sym, ◌∙◌, ap}
use borrow.Author.Tests.{eq-eqb, ne_eqb}
use lib.Dec.{eqb}
use lib.ListN.{length, length-append}
use Rattle.laws.specs.Memory.{put}
use Rattle.laws.proofs.PutLaws.{put_none}
use Rattle.reporting.specs.Words.{carrier_words}
use Rattle.floor.specs.declared.Floor.{Floor}
use Rattle.route.specs.Route.{Answer, none, route}
use Rattle.bitrows.specs.Words.{digit}
use Rattle.sheet.specs.Text.{lines_of}
use Rattle.planner.specs.Plan.{plan_of}
use Rattle.planner.specs.Claims.{answer_at}
use Rattle.printing.proofs.LinesLaws.{lines_within}
use Rattle.reporting.specs.Put.{PutAt}
use Rattle.reporting.proofs.ReportLaws.{put_behind}
use Rattle.reporting.proofs.LinesLaws.{nothing_put}
use Rattle.blockers.specs.Blockers.{if_none, blockers_of}
use Rattle.blockers.specs.Entry.{is_none}
use Rattle.stranded.specs.Text.{shut_words, cause_words, nobody_line, name_of, by_whom, shut_line, carrier_text, or_nobody}

-- A carrier of a set, and one that is not in it.
pub name_there : (set j : ℕ) (old new : List ℕ) (at n : ℕ) → digit set j ≡ true → PutAt (32 ∷ (49 + j) ∷ []) old at new n →
    PutAt (name_of set j) old at new n
unfolding name_of
name_there set j old new at n e p = rw e p

pub name_away : (set j : ℕ) (old : List ℕ) (at : ℕ) → digit set j ≡ false → PutAt (name_of set j) old at old at
unfolding name_of
name_away set j old at e = rw e (nothing_put old at)

pub name_short : (set j : ℕ) → length (name_of set j) ≤ 2
unfolding name_of
name_short set j = go (digit set j)
  where
    go : (x : Bool) → length (cond x (32 ∷ (49 + j) ∷ []) []) ≤ 2
    go true = omega arith
    go false = omega arith

pub names_short : (set : ℕ) → length (lines_of (name_of set) 8) ≤ 16
names_short set = omega (arith, lines_within (name_of set) 2 8 (name_short set))

-- The end of a line.
module _ (set : ℕ) (old : List ℕ) (at : ℕ) where
  pub by_cause : (new : List ℕ) (n : ℕ) → set ≡ 0 → PutAt cause_words old at new n → PutAt (by_whom set) old at new n
  unfolding by_whom
  by_cause new n e p = rw (eq-eqb set 0 e) p

  pub by_carriers : (mid new : List ℕ) (end n : ℕ) → (set ≡ 0 → ⊥) → PutAt (lines_of (name_of set) 8) old at mid end →
      PutAt (10 ∷ []) mid end new n → at + 17 ≤ length old → PutAt (by_whom set) old at new n
  unfolding by_whom
  by_carriers mid new end n e p q l = rw (ne_eqb set 0 e) (put_behind p q (omega (arith, p.behind, q.behind, names_short set)))

by_short : (set : ℕ) → length (by_whom set) ≤ 22
unfolding by_whom cause_words
by_short set = go (eqb set 0)
  where
    go : (x : Bool) → length (cond x cause_words (lines_of (name_of set) 8 ++ (10 ∷ []))) ≤ 22
    go true = omega arith
    go false = omega (arith, length-append (lines_of (name_of set) 8) (10 ∷ []), names_short set)

-- The whole line: four texts, one behind the other.
pub shut_put : (i set at n₁ n₂ n₃ n : ℕ) (old m₁ m₂ m₃ new : List ℕ) → PutAt carrier_words old at m₁ n₁ → PutAt ((49 + i) ∷ []) m₁ n₁ m₂ n₂ →
    PutAt shut_words m₂ n₂ m₃ n₃ → PutAt (by_whom set) m₃ n₃ new n → at + 45 ≤ length old → PutAt (shut_line i set) old at new n
unfolding shut_line carrier_words shut_words
shut_put i set at n₁ n₂ n₃ n old m₁ m₂ m₃ new p q r s l =
    let first : PutAt (carrier_words ++ ((49 + i) ∷ [])) old at m₂ n₂ = put_behind p q (omega (arith, p.behind, q.behind)) in
    let second : PutAt ((carrier_words ++ ((49 + i) ∷ [])) ++ shut_words) old at m₃ n₃ =
    put_behind first r (omega (arith, p.behind, q.behind, r.behind)) in
    put_behind second s (omega (arith, p.behind, q.behind, r.behind, s.behind, by_short set))

shut_short : (i set : ℕ) → length (shut_line i set) ≤ 45
unfolding shut_line carrier_words shut_words
shut_short i set =
    omega (arith, length-append ((carrier_words ++ ((49 + i) ∷ [])) ++ shut_words) (by_whom set), by_short set)

-- The line of a carrier, by its answer.
by_answer : (x : Answer) (line : List ℕ) → length line ≤ 45 → length (if_none x line []) ≤ 45
unfolding if_none
by_answer none line l = l
by_answer (route r) line l = omega arith

pub carrier_short : (f : Floor) (ws : List ℕ) (i : ℕ) → length (carrier_text f ws i) ≤ 45
unfolding carrier_text
carrier_short f ws i = by_answer (answer_at (plan_of f ws) i) _ (shut_short i (blockers_of f ws i))

none_first : {A : Type 0} (x : Answer) (y y' : A) → is_none x ≡ true → if_none x y y' ≡ y
unfolding is_none if_none
none_first none y y' e = refl
none_first (route r) y y' e = absurd (let z : ◌≡◌ {A = ℕ} 0 1 = cc in omega arith)

route_second : {A : Type 0} (x : Answer) (y y' : A) → is_none x ≡ false → if_none x y y' ≡ y'
unfolding is_none if_none
route_second none y y' e = absurd (let z : ◌≡◌ {A = ℕ} 0 1 = cc in omega arith)
route_second (route r) y y' e = refl

module _ (f : Floor) (ws : List ℕ) (i : ℕ) (old : List ℕ) (at : ℕ) where
  pub carrier_stranded : is_none (answer_at (plan_of f ws) i) ≡ true → (k n : ℕ) (new : List ℕ) → k ≡ blockers_of f ws i →
      PutAt (shut_line i k) old at new n → PutAt (carrier_text f ws i) old at new n
  unfolding carrier_text
  carrier_stranded e k n new g p = rw (none_first (answer_at (plan_of f ws) i) (shut_line i (blockers_of f ws i)) [] e, ← g) p

  pub carrier_routed : is_none (answer_at (plan_of f ws) i) ≡ false → PutAt (carrier_text f ws i) old at old at
  unfolding carrier_text
  carrier_routed e = rw (route_second (answer_at (plan_of f ws) i) (shut_line i (blockers_of f ws i)) [] e) (nothing_put old at)

-- The cell of a carrier, by its answer.
pub place_none : (x : Answer) (c : ℕ) → is_none x ≡ true → c ≡ if_none x c 65535
place_none x c e = sym (none_first x c 65535 e)

pub place_route : (x : Answer) (c : ℕ) → is_none x ≡ false → 65535 ≡ if_none x c 65535
place_route x c e = sym (route_second x c 65535 e)

-- All lines, or that nobody is stranded.
empty : (xs : List ℕ) → length xs ≡ 0 → xs ≡ []
empty [] e = refl
empty (x ∷ xs) e = absurd (omega arith)

module _ (lines old mid : List ℕ) (n : ℕ) (p : PutAt lines old 0 mid n) where
  pub nobody_put : n ≡ 0 → (new : List ℕ) (k : ℕ) → PutAt nobody_line mid 0 new k → PutAt (or_nobody lines) old 0 new k
  unfolding or_nobody
  nobody_put e new k q =
      let zero-long : length lines ≡ 0 = omega (arith, p.behind) in
      let same : mid ≡ old = p.bytes ∙ ap (put old 0) (empty lines zero-long) ∙ sym (put_none old 0) in
      rw (eq-eqb (length lines) 0 zero-long, ← same) q

  pub somebody_put : (n ≡ 0 → ⊥) → PutAt (or_nobody lines) old 0 mid n
  unfolding or_nobody
  somebody_put e = rw (ne_eqb (length lines) 0 (λ z. e (omega (arith, p.behind)))) p

pub or_short : (lines : List ℕ) → length lines ≤ 360 → length (or_nobody lines) ≤ 360
unfolding or_nobody nobody_line
or_short lines l = go (eqb (length lines) 0)
  where
    go : (x : Bool) → length (cond x nobody_line lines) ≤ 360
    go true = omega arith
    go false = l
