pub mod Sound
pub mod Choice
pub mod Table
pub mod Forms
pub mod Views
pub mod Reading
