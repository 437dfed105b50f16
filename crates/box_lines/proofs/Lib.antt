mod SizeSteps
mod SmallImages
mod TreeLines
