pub mod FindSteps
pub mod NameCounts
pub mod PutParts
pub mod ReadSteps
pub mod SoundBytes
pub mod DecimalForms
pub mod DecimalDigits
