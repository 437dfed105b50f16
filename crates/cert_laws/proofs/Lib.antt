pub mod LayoutTexts
pub mod MadeTexts
