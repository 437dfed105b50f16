mod Steps
mod Complete
mod Stages
mod Heads
pub mod Whole
mod Unique
mod Sound
pub mod First
mod Spans
mod ReferenceForms
mod ValueForms
mod AttributeForms
mod AttributeRead
mod TokenBack
mod TokenRead
mod Lexed
pub mod Texts
mod TokenFaults
mod Fates
mod TokenLate
mod TextPlaces
pub mod TextFaults
pub mod Refusals
pub mod NodeOrder
