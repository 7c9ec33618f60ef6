-- `kalomivund_read_sheet` meets its contract: a refusal leaves all as it was; otherwise the floor's numbers and its walls are stored.
use Rattle.laws.proofs.VerdictLaws.{when_passed_lem, when_refused, gives_passed, gives_refused}
use Rattle.kalomivund.proofs.EntryLaws.{short_keeps, read_short, read_long}
use Rattle.sheet.specs.Read.{read_floor, read_walls}
use Rattle.floor.specs.declared.Floor.{Floor}
use Rattle.floor.proofs.AnswersLaws.{met_passed, refuses}
use Rattle.fields.proofs.ReachedLaws.{said_value, said_refusal}
use Rattle.abi.specs.Word.{of_number, map_outcome}
use Rattle.kalomivund.specs.Entries.{read_word, read_record, read_stored}
use Prim.Native.Nat.{ℕ}
use mathlib.Core.Path.{refl, sym, ◌∙◌}
use Rattle.kalomivund.proofs.kalomivund_read_sheet.Goals as goal

pub returns-then-f-lt54 : goal.returns-then-f-lt54
unfolding read_word read_record read_stored
returns-then-f-lt54 c =
    let word = rw c.check.ensures at c.of_check_in_short.ensures in
    rw (read_short _ _ c.if-f-lt54.true) (record {
      says = word;
      records = sym (short_keeps _ _ _);
      stores = sym (short_keeps _ _ _);
    })

pub returns-in-Err : goal.returns-in-Err
unfolding read_word read_record read_stored read_walls of_number map_outcome
returns-in-Err c =
    let read = c.in-Err.ensures in
    let no = refuses (said_refusal Floor _ read.answers) refl in
    let word = rw c.number.ensures at c.refused.ensures in
    rw (read_long _ _ c.if-f-lt54.false) (record {
      says = rw (gives_refused {A = ℕ} 0 no) word;
      records = sym (when_refused _ no);
      stores = read.stores;
    })

pub returns-in-Ok : goal.returns-in-Ok
unfolding read_word read_record read_stored read_floor read_walls of_number map_outcome
returns-in-Ok c =
    let read = c.in-Ok.ensures in
    let ok = met_passed (said_value _ read.answers) in
    let floor = rw (read.returns, when_passed_lem _ ok) at c.store.ensures in
    rw (read_long _ _ c.if-f-lt54.false) (record {
      says = rw (gives_passed ok) c.done.ensures;
      records = floor ∙ sym (when_passed_lem _ ok);
      stores = read.stores;
    })
