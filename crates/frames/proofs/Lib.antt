-- Laws of the marks of a cell at a beat and of the text of all beats, and floors at a beat computed from the definitions.
mod CellLaws
mod PlanLaws
mod FrameLaws
mod Cases
