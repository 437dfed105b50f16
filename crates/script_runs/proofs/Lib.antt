pub mod OneOutcome
pub mod Turns
pub mod ScriptTexts
pub mod Roomy
