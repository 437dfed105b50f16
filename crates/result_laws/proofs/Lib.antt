pub mod FaultPlace
pub mod FirstFault
pub mod Gathering
pub mod Holds
pub mod LinesBack
pub mod OwnEntries
pub mod Passing
pub mod Spelling
pub mod Steps
pub mod TextRead
pub mod Valid
pub mod WordsBack
mod WorkedVerdicts
