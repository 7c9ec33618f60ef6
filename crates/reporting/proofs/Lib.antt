-- Laws of the words that texts share, of a report's text, and of texts put into a memory.
pub mod WordsLaws
pub mod ReportLaws
pub mod TextLaws
pub mod PrintedLaws
pub mod LinesLaws
