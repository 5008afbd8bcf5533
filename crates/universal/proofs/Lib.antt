pub mod Fitting
pub mod HiddenLinks
pub mod Images
pub mod Partners
pub mod PathMarks
pub mod Whole
