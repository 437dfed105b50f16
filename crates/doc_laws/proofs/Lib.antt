pub mod Lists
pub mod Goes
pub mod Rises
pub mod Everywhere
pub mod Reach
pub mod Made
pub mod Known
pub mod Nested
pub mod Ordered
pub mod GoodFlows
pub mod Cloned
pub mod Counted
pub mod Places
pub mod Across
pub mod Trees
pub mod Deep
pub mod Totals
pub mod Low
pub mod ReachTree
pub mod Nests
pub mod Later
pub mod Heights
pub mod Sure
pub mod SoundFlows
pub mod Passed
pub mod Sound
pub mod Documents
pub mod NestedContent
pub mod NumberedContent
mod Worked
mod WorkedDocuments
mod WorkedEdges
mod WorkedMoreEdges
mod WorkedLimits
mod WorkedConstructs
