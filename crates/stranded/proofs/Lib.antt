-- Laws of the text of stranded carriers.
mod LineLaws
mod StrandedLaws
