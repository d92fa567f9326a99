mod TapeSize
mod Canonical
mod Texts
mod BlockLines
mod Spans
mod TypedKeys
mod Plays
mod Openings
mod Rehearsals
mod KeyTexts
mod CleanRuns
mod Dialogues
mod Reports
pub mod Kept
mod Untaken
