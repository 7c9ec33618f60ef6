-- Laws of a meeting's text.
mod MeetingLaws
