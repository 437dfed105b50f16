pub mod CutSteps
pub mod ContentLemmas
pub mod PartLemmas
pub mod RowLemmas
pub mod Standing
pub mod Numbered
pub mod BoxLemmas
pub mod WalkLemmas
