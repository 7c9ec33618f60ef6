-- What makes a route the best one, over ways: any search shows `Leads` of its route, and this file makes `BestRoute` of it.
use Prim.Native.Nat.{ℕ, ◌≤◌, ◌<◌}
use native.Mathlib.Omega.{arith}
use mathlib.Core.Bool.{Bool}
use mathlib.Core.List.{List}
use mathlib.Core.Logic.{◌⊎◌, inl, inr, ⊎_elim}
use mathlib.Core.Path.{◌≡◌, sym, ◌∙◌}
use lib.ListN.{length, get_or}
use lib.Seq.{ext_get_or}
use Rattle.route.specs.Route.{cell_at, View, Task}
use Rattle.route.specs.Best.{Arrives, Before, Admissible, BestRoute}
use Rattle.route.specs.Moves.{allowed}
use Rattle.route.specs.Search.{Rule}
use Rattle.laws.proofs.Tests.{lt_or_le}
use Rattle.route.proofs.Ways.{Way, Held, Same, Ahead, way_same, held_same, held_after}
use Rattle.route.proofs.AdmissibleLaws.{ByRule, admissible_by_rule, by_rule_admissible}

-- φ is a way that is where it ends from beat a on, no way from the start is where it ends for good earlier, and φ is ahead of every
-- other that is there from a on.
pub record Leads (dock : ℕ → Bool) (H : ℕ) (ok : Rule) (start a : ℕ) (φ : ℕ → ℕ) : Type 0 where
  pub way : Way dock H ok φ
  pub held : Held H φ a
  pub least : (r : ℕ → ℕ) (b : ℕ) → Way dock H ok r → r 0 ≡ start → Held H r b → a ≤ b
  pub first : (r : ℕ → ℕ) → Way dock H ok r → r 0 ≡ start → Held H r a → Same H r φ ⊎ Ahead H φ r

pub leads_same : {dock : ℕ → Bool} {H : ℕ} {ok : Rule} {start a : ℕ} {φ ψ : ℕ → ℕ} → Leads dock H ok start a φ → Same H ψ φ →
    Leads dock H ok start a ψ
leads_same {H} {φ} {ψ} l s =
    record {
      way = way_same l.way s;
      held = held_same l.held s;
      least = l.least;
      first = λ r w e h. carry r (l.first r w e h);
    }
  where
    carry : (r : ℕ → ℕ) → Same H r φ ⊎ Ahead H φ r → Same H r ψ ⊎ Ahead H ψ r
    carry r (inl k) = inl (λ i h. k i h ∙ sym (s i h))
    carry r (inr k) =
        inr
        (record {
          beat = k.beat;
          within = k.within;
          smaller = rw (s k.beat k.within) k.smaller;
          same = λ i h. s i (omega (arith, k.within)) ∙ k.same i h;
        })

-- Two routes of 64 cells that agree through H and are blank after it are the same.
same_route : (H : ℕ) (q r : List ℕ) → length q ≡ 64 → length r ≡ 64 → Same H (cell_at q) (cell_at r) →
    ((t : ℕ) → H < t → cell_at q t ≡ 0) → ((t : ℕ) → H < t → cell_at r t ≡ 0) → q ≡ r
unfolding cell_at
same_route H q r lq lr s bq br = ext_get_or 0 q r (lq ∙ sym lr) at
  where
    at : (t : ℕ) → t < length q → get_or q t 0 ≡ get_or r t 0
    at t h = ⊎_elim (λ (k : H < t). bq t k ∙ sym (br t k)) (λ (k : t ≤ H). s t k) (lt_or_le H t)

module _ (task : Task) (vs : List View) (r : List ℕ) (a : ℕ) where
  pub leads_best : ByRule task vs r → Leads task.dock task.horizon (allowed task vs) task.start a (cell_at r) → BestRoute task vs r
  leads_best rule leads =
      record {
        admissible = by_rule_admissible task vs r rule;
        earliest = λ q b d adm hr hq. omega (arith, settles b hr, no_earlier q d adm hq);
        first = λ q b adm hr hq. compare q adm (leads.first (cell_at q) (by q adm).way adm.is_route.begins (held q b hr hq));
      }
    where
      by : (q : List ℕ) → Admissible task vs q → ByRule task vs q
      by q adm = admissible_by_rule task vs q adm

      settles : (b : ℕ) → Arrives task.horizon r b → b ≤ a
      settles b h = h.least a (record { within = leads.held.within; held = leads.held.held })

      from : (q : List ℕ) (b : ℕ) → Arrives task.horizon q b → Held task.horizon (cell_at q) b
      from q b h = record { within = h.stays.within; held = h.stays.held }

      held : (q : List ℕ) (b : ℕ) → Arrives task.horizon r b → Arrives task.horizon q b →
          Held task.horizon (cell_at q) a
      held q b hr hq = held_after (from q b hq) (settles b hr) leads.held.within

      no_earlier : (q : List ℕ) (b : ℕ) → Admissible task vs q → Arrives task.horizon q b → a ≤ b
      no_earlier q b adm h = leads.least (cell_at q) b (by q adm).way adm.is_route.begins (from q b h)

      compare : (q : List ℕ) → Admissible task vs q →
          Same task.horizon (cell_at q) (cell_at r) ⊎ Ahead task.horizon (cell_at r) (cell_at q) → (q ≡ r) ⊎ Before r q
      compare q adm (inl s) = inl (same_route task.horizon q r adm.is_route.long rule.long s adm.is_route.blank rule.blank)
      compare q adm (inr k) = inr (record { beat = k.beat; smaller = k.smaller; same = k.same })
