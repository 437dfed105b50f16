pub mod LexemeLoop
pub mod WordLemmas
