pub mod Document
pub mod Trial
