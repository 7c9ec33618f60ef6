-- `frames::cells::start_mark` meets its contract: the starts are counted.
use native.Mathlib.Nat.{zero-add}
use mathlib.Core.Path.{sym, ◌∙◌}
use borrow.Author.Tests.{eq-eqb, ne_eqb}
use Rattle.frames.proofs.cells.start_mark.Goals as goal

pub returns-then-put_starts-eq0 : goal.returns-then-put_starts-eq0
returns-then-put_starts-eq0 c =
    rw (eq-eqb _ 0 (sym (zero-add _) ∙ sym c.put_starts.ensures.behind ∙ c.if-put_starts-eq0.true))

pub returns : goal.returns
returns c =
    rw (ne_eqb _ 0 (λ e. c.if-put_starts-eq0.false (c.put_starts.ensures.behind ∙ zero-add _ ∙ e)))
