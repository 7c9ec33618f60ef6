-- The answers of the cycle of calls {beside, follow}. `beside`: nothing where no step or no place is left; otherwise the runs of the step
-- here, if it is open, and those behind it. `follow`: one run where the node below is silent, otherwise those that `beside` finds from the
-- first place on.
use Prim.Native.Nat.{ℕ, ◌+◌, ◌<◌, ◌≤◌}
use native.Mathlib.Omega.{arith}
use mathlib.Core.Path.{sym, ◌∙◌}
use Rattle.lister.proofs.WalkLaws.{places_six, beside_spent, beside_end, beside_shut, beside_open, tallied_none, tallied_same}
use Rattle.lister.proofs.WalkLaws.{tallied_join, tallied_below, tallied_end, followed_end, followed_onward, branch_below, fits_one}
use Rattle.lister.proofs.WalkLaws.{fits_below, fits_same, fits_part, fits_rest, falls_along, falls_to, falls_below, place_listed}
use Rattle.lister.proofs.walk.+beside_follow.Goals as goal
use Rattle.lister.proofs.walk.+beside_follow.Goals.{beside-then-left-eq0-via-then-left-eq0, beside-then-left-eq0-via-else-left-eq0+then-p-count}

next_place : {p places : ℕ} → p < places → p + 1 ≤ places
next_place l = omega arith

pub beside-returns-then-left-eq0 : goal.beside-returns-then-left-eq0
beside-returns-then-left-eq0 t c =
    elim c.then-left-eq0.branch [
      | beside-then-left-eq0-via-then-left-eq0 w ↦ tallied_none _ _ _ _ (beside_spent _ _ _ _ _ w.if-left-eq0.true)
      | beside-then-left-eq0-via-else-left-eq0+then-p-count w ↦ tallied_none _ _ _ _
          (beside_end _ _ _ _ _ (omega (arith, w.if-p-count.true, w.count.ensures.0)))
    ]

pub beside-follow-behind-requires : goal.beside-follow-behind-requires
beside-follow-behind-requires t c =
    let b = c.requires.branch in
    let some : 1 ≤ c.args.left = omega (arith, c.if-left-eq0.false) in
    let listed = place_listed _ _ _ b.1 c.count.ensures.0 c.if-p-count.false in
    let told = sym c.is_open_at.ensures ∙ c.if-is_open_at.true in (
      falls_to _ _ _ _ c.decreases listed (places_six _ b.0.few),
      ((b.0, some), ((listed, told), fits_part _ _ _ _ _ _ _ some listed told c.requires.p_bound)),
    )

pub beside-beside-requires : goal.beside-beside-requires
beside-beside-requires t c =
    let b = c.requires.branch in
    let some : 1 ≤ c.args.left = omega (arith, c.if-left-eq0.false) in
    let listed = place_listed _ _ _ b.1 c.count.ensures.0 c.if-p-count.false in
    let told = sym c.is_open_at.ensures ∙ c.if-is_open_at.true in (
      falls_along _ _ _ _ c.decreases listed (places_six _ b.0.few),
      ((b.0, next_place listed), fits_rest _ _ _ _ _ _ _ some listed told c.requires.p_bound _ c.follow-behind.ensures.counts),
    )

pub beside-returns-then-is_open_at : goal.beside-returns-then-is_open_at
beside-returns-then-is_open_at t c =
    let some : 1 ≤ c.args.left = omega (arith, c.if-left-eq0.false) in
    let listed = place_listed _ _ _ c.requires.branch.1 c.count.ensures.0 c.if-p-count.false in
    let told = sym c.is_open_at.ensures ∙ c.if-is_open_at.true in
    tallied_join _ _ _ _ (beside_open _ _ _ _ _ some listed told) c.follow-behind.ensures c.beside.ensures

pub beside-beside-requires-2 : goal.beside-beside-requires-2
beside-beside-requires-2 t c =
    let b = c.requires.branch in
    let listed = place_listed _ _ _ b.1 c.count.ensures.0 c.if-p-count.false in
    let told = sym c.is_open_at.ensures ∙ c.if-is_open_at.false in (
      falls_along _ _ _ _ c.decreases listed (places_six _ b.0.few),
      ((b.0, next_place listed), fits_same _ _ _ _ (beside_shut _ _ _ _ _ listed told) c.requires.p_bound),
    )

pub beside-returns : goal.beside-returns
beside-returns t c =
    let listed = place_listed _ _ _ c.requires.branch.1 c.count.ensures.0 c.if-p-count.false in
    let told = sym c.is_open_at.ensures ∙ c.if-is_open_at.false in
    tallied_same _ _ _ _ (beside_shut _ _ _ _ _ listed told) c.beside-2.ensures

pub follow-overflow_add-result : goal.follow-overflow_add-result
follow-overflow_add-result t c =
    let silent = sym c.is_silent.ensures ∙ c.if-is_silent.true in
    record { fits = fits_one _ _ _ _ (followed_end _ _ _ 0 _ _ c.after-next.ensures _ silent) c.requires.p_bound_2 }

pub follow-returns-then-is_silent : goal.follow-returns-then-is_silent
follow-returns-then-is_silent t c =
    let silent = sym c.is_silent.ensures ∙ c.if-is_silent.true in
    let moved = c.after-next.ensures in
    tallied_below _ _ _ _ _ _ moved _ _ (followed_end _ _ _ 0 _ _ moved _ silent)
    (tallied_end _ _ _ _ _ _ moved c.write_run.ensures)

pub follow-beside-requires : goal.follow-beside-requires
follow-beside-requires t c =
    let b = c.requires.branch in
    let onward = sym c.is_silent.ensures ∙ c.if-is_silent.false in
    let moved = c.after-next.ensures in (
      falls_below _ _ _ (omega arith) c.decreases b.1,
      ((branch_below _ _ _ 0 _ _ moved _ _ b.0 b.1, omega arith), fits_below _ _ _ _ _ (followed_onward _ _ _ 0 _ _ moved _ onward) c.requires.p_bound_2),
    )

pub follow-returns : goal.follow-returns
follow-returns t c =
    let onward = sym c.is_silent.ensures ∙ c.if-is_silent.false in
    let moved = c.after-next.ensures in
    tallied_below _ _ _ _ _ _ moved _ _ (followed_onward _ _ _ 0 _ _ moved _ onward) c.beside.ensures
