-- Laws of the entry's answers.
mod EntryLaws
