pub mod AtomFlows
pub mod BookEntries
pub mod Built
pub mod ColumnParts
pub mod FileAcross
pub mod FileFlowSound
pub mod FileKnown
pub mod FileLimits
pub mod FileNested
pub mod FileNests
pub mod FileNumbers
pub mod FilePlaces
pub mod FileReadings
pub mod FileSeams
pub mod FileSound
pub mod FileSums
pub mod Fitting
pub mod LeastHeight
pub mod OpenAcross
pub mod OuterFlow
pub mod PlaceBounds
mod SoundExamples
pub mod StripBounds
pub mod Walk
mod Worked
mod WorkedCertificates
mod WorkedCloned
mod WorkedFiles
mod WorkedFragments
mod WorkedNested
mod WorkedParts
mod WorkedRanges
mod WorkedReasons
mod WorkedResults
mod WorkedTrees
