pub mod PlaceLemmas
pub mod WonLemmas
pub mod EntryLemmas
pub mod AttributeLemmas
pub mod OneStyling
