-- The numbers of the reasons are those of their variants.
use Rattle.std.specs.Prelude.{◌+◌, ◌≡◌}
use mathlib.Core.Path.{refl}
use Rattle.floor.specs.declared.Reason.{Reason}
use Rattle.floor.specs.declared.Reason.TheVariants.{Form, Limits, OutsideGrid, WallOrder, OnWall, SharedStart, Unknown, NotDue, TooShort}
use Rattle.floor.specs.declared.Reason.TheVariants.{NoState, NoOrder, NothingSent, ChannelFull, TooManyCarriers, NoRank, HasRoute}
use Rattle.floor.specs.declared.Reason.TheVariants.{RepeatedDock}
use Rattle.floor.specs.contracts.Reason.{the_type}
use denote.Enum.Declared.{tag_of}
use Rattle.floor.specs.Answers.{number_of}

-- The discriminant of a reason is its number.
pub tag_number : (r : Reason) → tag_of the_type r + 1 ≡ number_of r
tag_number Form = refl
tag_number Limits = refl
tag_number OutsideGrid = refl
tag_number WallOrder = refl
tag_number OnWall = refl
tag_number SharedStart = refl
tag_number Unknown = refl
tag_number NotDue = refl
tag_number TooShort = refl
tag_number NoState = refl
tag_number NoOrder = refl
tag_number NothingSent = refl
tag_number ChannelFull = refl
tag_number TooManyCarriers = refl
tag_number NoRank = refl
tag_number HasRoute = refl
tag_number RepeatedDock = refl
