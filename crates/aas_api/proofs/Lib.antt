pub mod BrokenNumbers
mod LastSteps
mod ReadSegments
