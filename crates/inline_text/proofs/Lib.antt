pub mod Scan
pub mod Settled
pub mod CollapsedRun
pub mod PlaceLemmas
pub mod Marks
pub mod Renumbered
pub mod Blank
