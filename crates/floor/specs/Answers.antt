-- What the code's answers say in document 01's terms: for each case its number and values.
use Rattle.std.specs.Prelude.{ℕ, ⊤}
use Rattle.std.specs.Prelude.{Result, Ok, Err}
use Rattle.floor.specs.declared.Reason.{Reason}
use Rattle.floor.specs.declared.Reason.TheVariants.{Form, Limits, OutsideGrid, WallOrder, OnWall, SharedStart, Unknown, NotDue, TooShort}
use Rattle.floor.specs.declared.Reason.TheVariants.{NoState, NoOrder, NothingSent, ChannelFull, TooManyCarriers, NoRank, HasRoute}
use Rattle.floor.specs.declared.Reason.TheVariants.{RepeatedDock}
use Rattle.floor.specs.declared.Refusal.{Refusal}
use Rattle.laws.specs.Verdict.{Verdict, passed, refused, Outcome, value, refusal}

-- The number of a reason in document 01's table of refusals, and in the change requests' rows behind it.
abbrev pub number_of : Reason → ℕ
number_of Form = 1
number_of Limits = 2
number_of OutsideGrid = 3
number_of WallOrder = 4
number_of OnWall = 5
number_of SharedStart = 6
number_of Unknown = 7
number_of NotDue = 8
number_of TooShort = 9
number_of NoState = 10
number_of NoOrder = 11
number_of NothingSent = 12
number_of ChannelFull = 13
number_of TooManyCarriers = 14
number_of NoRank = 15
number_of HasRoute = 16
number_of RepeatedDock = 17

-- A check that passed says nothing; a refusal says its number and its place.
unfoldable pub verdict_of : Result ⊤ Refusal → Verdict
verdict_of (Ok _) = passed
verdict_of (Err r) = refused (number_of r.reason) r.place

-- What an answer that may be refused says: what its value means, or the refusal's number and place.
unfoldable pub outcome_by : {A B : Type 0} → (A → B) → Result A Refusal → Outcome B
outcome_by means (Ok x) = value (means x)
outcome_by means (Err r) = refusal (number_of r.reason) r.place
