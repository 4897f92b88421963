pub mod CompactSteps
